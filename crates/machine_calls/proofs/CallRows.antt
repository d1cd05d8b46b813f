-- Calls of declared procedures.
use Rattle.std.proofs.Common.{◌≡◌, ℕ, Option, Some, None, refl, ap, ◌∙◌, subst}
use Rattle.value_ops.specs.declared.places.Place.{Place}
use Rattle.name_thunks.specs.Links.{outwards}
use Rattle.stack_code.specs.declared.instructions.Instr.TheVariants as instr
use Rattle.stack_code.specs.CodeView.{instructions_view}
use Rattle.stack_code.specs.Code.{procedure_head}
use Rattle.stack_code.specs.Machine.{Machine}
use Rattle.stack_code.specs.Doing.{Next, Row, after, there, ◌>>=◌}
use Rattle.stack_code.specs.Table as table
use Rattle.cell_store.specs.declared.cells.Word.{Word as Held}
use Rattle.machine_rows.specs.declared.state.State.{State}
use Rattle.machine_rows.specs.Seen.{Seen, Stands, IsClear, machine_of, row_of}
use Rattle.machine_rows.proofs.Finding.{outwards_is}
use Rattle.machine_calls.specs.Found.{call_row}

module _ (v : Seen) (s : State) (h : Held) (st : Stands v s) (links : ℕ) (site : Place) (head : ℕ) where
  abbrev m : Machine
  m = machine_of v s h

  abbrev pub declared_row : Next (Unit {0})
  declared_row = row_of v 0 (instr.Call links site head) m

  abbrev with_text : Option ℕ → Row (Unit {0})
  with_text text = there (procedure_head (instructions_view v.code) head) >>= table.call v.setting v.code.marks site (record { head = head; link = text })

  declared_is : declared_row ≡ after (there (outwards s.store.frames s.store.current links) m) with_text
  declared_is = ap (λ o. after (there o m) with_text) (outwards_is v.code.given s.store.frames s.store.answers st.answered s.store.current links)

  some_text : (o : Option (Option ℕ)) → IsClear (after (there o m) with_text) → (l : Option ℕ) × (o ≡ Some l)
  some_text None clear = absurd clear
  some_text (Some l) clear = (l, refl)

  pub text_there : IsClear declared_row → (l : Option ℕ) × (outwards s.store.frames s.store.current links ≡ Some l)
  text_there clear = some_text (outwards s.store.frames s.store.current links) (subst IsClear declared_is clear)

  pub declared_calls : (l : Option ℕ) → outwards s.store.frames s.store.current links ≡ Some l → declared_row ≡ call_row v site (record { head = head; link = l }) m
  declared_calls l e = declared_is ∙ ap (λ o. after (there o m) with_text) e
