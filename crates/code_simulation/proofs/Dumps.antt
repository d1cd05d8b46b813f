-- What the machine shows is what the state shows.
use Rattle.std.proofs.Common.{◌≡◌, ℕ, List, [], ◌∷◌, ◌++◌, map, Option, Some, None, refl, sym, ap, ◌∙◌, arith}
use Rattle.std.specs.Prelude.{slice_get, take}
use Rattle.value_ops.specs.declared.values.Value.{Value}
use Rattle.value_ops.specs.declared.values.Value.TheVariants as value
use Rattle.post_mortem.specs.declared.entries.Entry.TheVariants as line
use Rattle.post_mortem.specs.declared.entries.Shown.TheVariants as shown
use Rattle.post_mortem.specs.Dump.{dump_text}
use Rattle.program_meaning.specs.State as state
use Rattle.program_meaning.specs.State.{State, Setting, ArrayInfo, RecordInfo, ShownName, Held}
use Rattle.program_meaning.specs.Environments.{Bodied}
use Rattle.program_meaning.specs.Results as results
use Rattle.stack_code.specs.Code.{Code, Coded, procedure_of, text_of}
use Rattle.stack_code.specs.Machine as machine
use Rattle.stack_code.specs.Machine.{Machine, Content, RecordMade, Entry, on_top_of}
use Rattle.stack_code.specs.Run as run
use Rattle.code_simulation.specs.Relation.{Slot, variable, fixed, Base, Heap, mach, Settled, Shown, Listed, content_of, content_of_variable}
use Rattle.code_simulation.specs.Following.{Seen}
use Rattle.code_simulation.proofs.Stacks.{top_map, past_front, past_top}

module _ (program : List Coded) (b : Base) (h : Heap) (s : State Bodied) (k : ℕ) (held : Content) (st : Settled b h s.memory s.records s.fields) where
  record_shown : (r : Rattle.value_ops.specs.declared.values.RecordId.RecordId) (o : Option RecordInfo) → slice_get s.records r.0 ≡ o → run.shown_record r (on_top_of h.records r.0) ≡ results.shown_record r o
  record_shown r None e = ap (run.shown_record r) (past_top h.records r.0 (let l = past_front s.records r.0 e in let c = st.count in omega (arith, l, c)))
  record_shown r (Some info) e = let x = st.has r.0 info e in ap (run.shown_record r) x.is ∙ ap (λ c. shown.Record c.text r) x.class

  value_shown : (v : Value) → run.shown_value (mach b h s k held) v ≡ results.shown_value s v
  value_shown (value.Reference (Some r)) = record_shown r (slice_get s.records r.0) refl
  value_shown (value.Reference None) = refl
  value_shown (value.Integer n) = refl
  value_shown (value.Logical n) = refl
  value_shown (value.Bits n) = refl
  value_shown (value.Str n) = refl

  variable_shown : (o : Option (Option Value)) → run.shown_content (mach b h s k held) (content_of_variable o) ≡ results.shown_variable s o
  variable_shown None = refl
  variable_shown (Some None) = refl
  variable_shown (Some (Some v)) = value_shown v

  held_shown : (x : Held) (c : ℕ) (o : Option Slot) → on_top_of b.slots c ≡ o → Shown b s.arrays x o → run.shown_cell (mach b h s k held) (on_top_of (map (content_of s.memory) b.slots) c) ≡ results.shown_held s x
  held_shown (state.a_variable n) c (Some (variable i)) e q = ap (run.shown_cell (mach b h s k held)) (top_map (content_of s.memory) b.slots c (variable i) e) ∙ variable_shown (slice_get s.memory i) ∙ ap (λ z. results.shown_variable s (slice_get s.memory z)) (sym q)
  held_shown (state.an_array n given) c (Some (fixed (machine.an_array a free))) e q =
      ap (run.shown_cell (mach b h s k held)) (top_map (content_of s.memory) b.slots c _ e)
      ∙ ap (λ z. results.shown_bounds (results.free_bounds z free)) q.1.bounds ∙ ap (λ z. results.shown_bounds (results.free_bounds q.1.info.bounds z)) (sym q.0) ∙ ap (λ z. results.shown_array z given) (sym q.1.is)
  held_shown (state.a_number n) c (Some (fixed (machine.a_value v))) e q = ap (run.shown_cell (mach b h s k held)) (top_map (content_of s.memory) b.slots c _ e) ∙ ap (run.shown_value (mach b h s k held)) q
  held_shown state.by_name c (Some (fixed (machine.a_thunk t))) e q = ap (run.shown_cell (mach b h s k held)) (top_map (content_of s.memory) b.slots c _ e)
  held_shown x c o e q = absurd q

  lines_are : (entries : List Entry) (names : List ShownName) (active : List state.Entry) → Listed program b s.arrays entries names active → run.all_lines program (mach b h s k held) entries (results.shown_names s names) ≡ results.all_lines s active
  lines_are [] [] [] x = refl
  lines_are (machine.a_name text c ∷ entries) names active x =
      ap (λ z. run.all_lines program (mach b h s k held) entries (line.Shown text z ∷ results.shown_names s names)) (held_shown x.0 c (on_top_of b.slots c) refl x.1)
      ∙ lines_are entries (record { text = text; held = x.0 } ∷ names) active x.2
  lines_are (machine.a_procedure_name text c ∷ entries) names active x = lines_are entries (record { text = text; held = state.a_procedure } ∷ names) active x.2
  lines_are (machine.a_block p n ∷ entries) names (state.in_block q xs ∷ active) x =
      ap (λ z. line.Block z ∷ results.shown_names s names ++ run.all_lines program (mach b h s k held) entries []) x.0
      ∙ ap (λ z. line.Block q ∷ results.shown_names s z ++ run.all_lines program (mach b h s k held) entries []) x.1 ∙ ap (λ z. line.Block q ∷ results.shown_names s xs ++ z) (lines_are entries [] active x.2)
  lines_are (machine.declared n d f ∷ entries) names active x = lines_are entries names active x
  lines_are (machine.a_turn p n ∷ entries) names (state.in_turn q xs ∷ active) x =
      ap (λ z. line.For z ∷ results.shown_names s names ++ run.all_lines program (mach b h s k held) entries []) x.0
      ∙ ap (λ z. line.For q ∷ results.shown_names s z ++ run.all_lines program (mach b h s k held) entries []) x.1 ∙ ap (λ z. line.For q ∷ results.shown_names s xs ++ z) (lines_are entries [] active x.2)
  lines_are (machine.a_call head site ∷ entries) names (state.in_call name q xs ∷ active) x =
      ap (λ z. line.Call (run.name_of (procedure_of z)) site ∷ results.shown_names s names ++ run.all_lines program (mach b h s k held) entries []) x.0.is
      ∙ ap (λ z. line.Call z site ∷ results.shown_names s names ++ run.all_lines program (mach b h s k held) entries []) x.0.name_is
      ∙ ap (λ z. line.Call name z ∷ results.shown_names s names ++ run.all_lines program (mach b h s k held) entries []) x.1
      ∙ ap (λ z. line.Call name q ∷ results.shown_names s z ++ run.all_lines program (mach b h s k held) entries []) x.2 ∙ ap (λ z. line.Call name q ∷ results.shown_names s xs ++ z) (lines_are entries [] active x.3)
  lines_are (machine.an_actual head ∷ entries) names (state.in_actual first ∷ active) x =
      ap (λ z. line.Actual (run.first_of (text_of z)) ∷ results.shown_names s names ++ run.all_lines program (mach b h s k held) entries []) x.0.is
      ∙ ap (λ z. line.Actual first ∷ results.shown_names s z ++ run.all_lines program (mach b h s k held) entries []) x.1 ∙ ap (λ z. line.Actual first ∷ z) (lines_are entries [] active x.2)
  lines_are (machine.an_aside ∷ entries) names active x = lines_are entries names active x
  lines_are (machine.some_widths ws ∷ entries) names active x = lines_are entries names active x
  lines_are entries names active x = absurd x

-- the dump of a machine that shows a state is that state's
pub same_dump : (set : Setting) (program : Code) (m : Machine) (s : State Bodied) → Seen set program m s → run.dump_lines program m ≡ results.dump_lines s
same_dump set program m s x =
    ap (run.dump_lines program) x.is
    ∙ ap (λ l. map dump_text (take 40 l)) (lines_are program.instructions x.base x.heap s x.next x.held x.settled x.base.entries [] s.active x.listed)
