use Rattle.std.specs.Prelude.{refl}
use Rattle.std.specs.Fmt.{digits}
use Rattle.algolw_meaning.specs.DeckDiagnostics.{deck_of}
use Rattle.algolw_meaning.specs.RunRows.{AllGive}
use Rattle.algolw_meaning.specs.RunningDecks.{output_decks, integers_decks, truth_and_bits_decks, strings_decks, string_parts_decks, assignments_decks, order_decks, choices_decks, blocks_decks, loops_decks, loop_faults_decks, jumps_decks, arrays_decks, records_decks, data_cards_decks, targets_decks}
use Rattle.algolw_meaning.proofs.laws.decks_give.Goals as goal

output_give : AllGive output_decks
unfolding deck_of digits
output_give = refl

integers_give : AllGive integers_decks
unfolding deck_of digits
integers_give = refl

truth_and_bits_give : AllGive truth_and_bits_decks
unfolding deck_of digits
truth_and_bits_give = refl

strings_give : AllGive strings_decks
unfolding deck_of digits
strings_give = refl

string_parts_give : AllGive string_parts_decks
unfolding deck_of digits
string_parts_give = refl

assignments_give : AllGive assignments_decks
unfolding deck_of digits
assignments_give = refl

order_give : AllGive order_decks
unfolding deck_of digits
order_give = refl

choices_give : AllGive choices_decks
unfolding deck_of digits
choices_give = refl

blocks_give : AllGive blocks_decks
unfolding deck_of digits
blocks_give = refl

loops_give : AllGive loops_decks
unfolding deck_of digits
loops_give = refl

loop_faults_give : AllGive loop_faults_decks
unfolding deck_of digits
loop_faults_give = refl

jumps_give : AllGive jumps_decks
unfolding deck_of digits
jumps_give = refl

arrays_give : AllGive arrays_decks
unfolding deck_of digits
arrays_give = refl

records_give : AllGive records_decks
unfolding deck_of digits
records_give = refl

data_cards_give : AllGive data_cards_decks
unfolding deck_of digits
data_cards_give = refl

targets_give : AllGive targets_decks
unfolding deck_of digits
targets_give = refl

pub returns : goal.returns
returns c = record { output = output_give; integers = integers_give; truth_and_bits = truth_and_bits_give; strings = strings_give; string_parts = string_parts_give; assignments = assignments_give; order = order_give; choices = choices_give; blocks = blocks_give; loops = loops_give; loop_faults = loop_faults_give; jumps = jumps_give; arrays = arrays_give; records = records_give; data_cards = data_cards_give; targets = targets_give }
