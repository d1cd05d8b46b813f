use Rattle.std.specs.Prelude.{refl}
use Rattle.std.specs.Fmt.{digits}
use Rattle.algolw_meaning.specs.DeckDiagnostics.{deck_of}
use Rattle.algolw_meaning.specs.RunRows.{AllGive}
use Rattle.algolw_meaning.specs.CallingDecks.{modes_decks, assigning_back_decks, names_decks, procedure_formals_decks, fitting_decks, recursion_decks, step_limits_decks, other_limits_decks, array_cells_decks, cells_decks, held_cells_decks, depth_decks, deep_actual_decks, dumps_decks}
use Rattle.algolw_meaning.proofs.laws.calling_decks_give.Goals as goal

modes_give : AllGive modes_decks
unfolding deck_of digits
modes_give = refl

assigning_back_give : AllGive assigning_back_decks
unfolding deck_of digits
assigning_back_give = refl

names_give : AllGive names_decks
unfolding deck_of digits
names_give = refl

procedure_formals_give : AllGive procedure_formals_decks
unfolding deck_of digits
procedure_formals_give = refl

fitting_give : AllGive fitting_decks
unfolding deck_of digits
fitting_give = refl

recursion_give : AllGive recursion_decks
unfolding deck_of digits
recursion_give = refl

step_limits_give : AllGive step_limits_decks
unfolding deck_of digits
step_limits_give = refl

other_limits_give : AllGive other_limits_decks
unfolding deck_of digits
other_limits_give = refl

array_cells_give : AllGive array_cells_decks
unfolding deck_of digits
array_cells_give = refl

cells_give : AllGive cells_decks
unfolding deck_of digits
cells_give = refl

held_cells_give : AllGive held_cells_decks
unfolding deck_of digits
held_cells_give = refl

depth_give : AllGive depth_decks
unfolding deck_of digits
depth_give = refl

deep_actual_give : AllGive deep_actual_decks
unfolding deck_of digits
deep_actual_give = refl

dumps_give : AllGive dumps_decks
unfolding deck_of digits
dumps_give = refl

pub returns : goal.returns
returns c = record { modes = modes_give; assigning_back = assigning_back_give; names = names_give; procedure_formals = procedure_formals_give; fitting = fitting_give; recursion = recursion_give; step_limits = step_limits_give; other_limits = other_limits_give; array_cells = array_cells_give; cells = cells_give; held_cells = held_cells_give; depth = depth_give; deep_actual = deep_actual_give; dumps = dumps_give }
