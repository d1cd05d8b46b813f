use Rattle.std.specs.Prelude.{refl}
use Rattle.algolw_meaning.specs.DeckDiagnostics.{deck_diagnostics}
use Rattle.algolw_meaning.specs.TypingDecks.{DecksHaveTheirFaults}
use Rattle.algolw_meaning.proofs.laws.decks_have_their_faults.Goals as goal

decks : DecksHaveTheirFaults
unfolding deck_diagnostics
decks = record { types = refl; class_names = refl; arrays_and_bounds = refl; procedures = refl; items_and_blocks = refl; if_rows = refl; case_rows = refl; for_rows = refl; while_and_assert = refl; goto_rows = refl; assignments = refl; and_or_and_not = refl; relations = refl; is_rows = refl; integers = refl; shifts = refl; substring_lists = refl; other_lists = refl; names_without_list = refl; arrays_with_lists = refl; procedures_with_lists = refl; classes_and_fields_with_lists = refl; labels_and_simple_names_with_lists = refl; write_and_writeon = refl; read_readon_and_readcard = refl; functions = refl; actuals_for_value_and_by_name = refl; actuals_for_result_and_value_result = refl; actuals_for_array = refl; actuals_for_procedure = refl; actuals_of_a_procedure_formal = refl; names_alone_as_actuals = refl; an_actual_is_a_part_of_a_procedure_s_list_alone = refl; names_declared_twice = refl; scopes = refl; declarations_with_faults = refl; decks_of_the_manual = refl; a_deck_for_each_number = refl; the_order_of_faults = refl }

pub returns : goal.returns
returns c = decks
