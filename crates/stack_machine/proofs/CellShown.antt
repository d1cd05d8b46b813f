-- What a cell holds, as a dump shows it.
use Rattle.std.proofs.Common.{◌≡◌, Option, Some, None, true, false, refl, sym, ap}
use Rattle.std.specs.Option.{option_and_then}
use Rattle.cell_store.specs.declared.cells.Wide.{Wide}
use Rattle.cell_store.specs.declared.cells.Wide.TheVariants as wide
use Rattle.cell_store.specs.declared.cells.Word.{Word as Held}
use Rattle.cell_store.specs.Words.{word_of, is_wide}
use Rattle.cell_store.specs.Held.{word_cell}
use Rattle.cell_store.specs.Cells.{Cell, a_word, a_wide, word_in, wide_in}
use Rattle.cell_store.proofs.MachineWords.{narrow}
use Rattle.stack_code.specs.CodeView.{CodeView}
use Rattle.machine_rows.specs.declared.state.State.{State}
use Rattle.machine_rows.proofs.Narrow.{word_is_held}
use Rattle.stack_machine.specs.Dumped.{cell_shown, wide_shown}

module _ (c : CodeView) (s : State) where
  wide_there : (w : Wide) → wide_shown (Some w) ≡ cell_shown c s (Some (a_wide w))
  wide_there (wide.Str x) = refl
  wide_there (wide.Part x) = refl
  wide_there (wide.Array x) = refl
  wide_there (wide.Thunk x) = refl
  wide_there (wide.Procedure x) = refl
  wide_there (wide.Bounds x) = refl

  -- one that holds no word is shown by what stands beside
  pub wide_cell_shown : (o : Option Cell) (h : Held) → word_of h ≡ option_and_then word_in o → is_wide h ≡ true → wide_shown (option_and_then wide_in o) ≡ cell_shown c s o
  wide_cell_shown None h e w = refl
  wide_cell_shown (Some (a_word y)) h e w = absurd (let n = narrow h y e in cc (n, w))
  wide_cell_shown (Some (a_wide u)) h e w = wide_there u

  -- and a word as it is
  pub word_cell_shown : (o : Option Cell) (h : Held) → word_of h ≡ option_and_then word_in o → is_wide h ≡ false → cell_shown c s (Some (word_cell h)) ≡ cell_shown c s o
  word_cell_shown o h e n = ap (cell_shown c s) (sym (word_is_held o h e n))
