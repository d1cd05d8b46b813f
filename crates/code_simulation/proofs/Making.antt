-- Rows that only look: a value made into a type, a record, and what a variable has.
use Rattle.std.proofs.Common.{◌≡◌, ℕ, ◌+◌, List, Option, Some, None, refl, sym, ap, ◌∙◌, subst}
use Rattle.std.specs.Prelude.{slice_get, Bool, true, false}
use Rattle.value_ops.specs.declared.places.Place.{Place}
use Rattle.value_ops.specs.declared.faults.Fault.{Fault}
use Rattle.value_ops.specs.declared.faults.Fault.TheVariants as fault
use Rattle.value_ops.specs.declared.values.RecordId.{RecordId}
use Rattle.value_ops.specs.declared.values.Value.{Value}
use Rattle.value_ops.specs.declared.values.Value.TheVariants as value
use Rattle.algolw_typing.specs.Types.{ValueType, Integer, Logical, Bits, Str, Reference, has}
use Rattle.program_meaning.specs.State as state
use Rattle.program_meaning.specs.State.{State, Setting, Why, by_fault, by_limit, wrong, unfinished, Outcome, on, jump, stop, M, Use, for_value, for_place, RecordInfo, record_at, the_record, defined, look}
use Rattle.program_meaning.specs.Environments.{Bodied}
use Rattle.stack_code.specs.Code.{Code, Coded}
use Rattle.stack_code.specs.Machine as machine
use Rattle.stack_code.specs.Machine.{Machine, Content, Where, in_cell, in_field, on_top_of}
use Rattle.stack_code.specs.Doing as doing
use Rattle.stack_code.specs.Doing.{Next, halted, go_on, there, ◌>>=◌, ◌>>◌}
use Rattle.stack_code.specs.Table.{does}
use Rattle.code_simulation.specs.Relation.{Base, Heap, mach, World, Target, Holds, Stands, HasRecord, Settled, Agrees, content_of, content_of_variable, field_of, variable}
use Rattle.code_simulation.specs.Following.{Follows, Gives}
use Rattle.code_simulation.proofs.Stacks.{top_map}
use Rattle.code_simulation.proofs.Rows.{one_row, follows_on}
use Rattle.code_simulation.proofs.Values.{fault_here, gives_value}

-- the meaning and a row do the same and change nothing, unless the meaning is wrong
pub data Alike {A : Type 0} (w : Place) (s : State Bodied) (m : Machine) : Outcome Bodied A → Next A → Type 0 where
  alike_on : (a : A) → Alike w s m (on a s) (doing.on a m)
  alike_fault : (f : Fault) → Alike w s m (stop (by_fault f) w s) (halted (by_fault f) m)
  alike_wrong : {o : Next A} (t : State Bodied) → Alike w s m (stop wrong w t) o

pub alike_after : {A B : Type 0} (w : Place) (s : State Bodied) (m : Machine) (r : Outcome Bodied A) (n : Next A) (f : A → M Bodied B) (g : A → Machine → Next B) → Alike w s m r n → ((a : A) → Alike w s m (f a s) (g a m)) → Alike w s m (state.after r f) (doing.after n g)
alike_after w s m r n f g (alike_on a) h = h a
alike_after w s m r n f g (alike_fault x) h = alike_fault x
alike_after w s m r n f g (alike_wrong t) h = alike_wrong t

-- ---- records

record_by : (h : Heap) (r : ℕ) (w : Place) (s : State Bodied) (m : Machine) (o : Option RecordInfo) → ((info : RecordInfo) → o ≡ Some info → HasRecord h r info) → m.records ≡ h.records → (B : Type 0) (f : RecordInfo → M Bodied B) (g : machine.RecordMade → Machine → Next B) →
    ((info : RecordInfo) → (x : HasRecord h r info) → Alike w s m (f info s) (g x.there m)) → Alike w s m (state.after (record_at w o s) f) (doing.after (there (on_top_of m.records r) m) g)
record_by h r w s m None k e B f g x = alike_wrong s
record_by h r w s m (Some info) k e B f g x = let y = k info refl in
    let q : on_top_of m.records r ≡ Some y.there = ap (λ l. on_top_of l r) e ∙ y.is in
    subst (λ z. Alike w s m (f info s) (doing.after (there z m) g)) (sym q) (x info y)

pub record_alike : (b : Base) (h : Heap) (s : State Bodied) (m : Machine) (w : Place) (r : RecordId) (B : Type 0) (f : RecordInfo → M Bodied B) (g : machine.RecordMade → Machine → Next B) → Settled b h s.memory s.records s.fields → m.records ≡ h.records →
    ((info : RecordInfo) → (x : HasRecord h r.0 info) → Alike w s m (f info s) (g x.there m)) → Alike w s m (state.after (the_record w r s) f) (doing.after (doing.the_record r m) g)
record_alike b h s m w r B f g st e x = record_by h r.0 w s m (slice_get s.records r.0) (st.has r.0) e B f g x

-- ---- values made into types

class_alike : (w : Place) (s : State Bodied) (m : Machine) (t : Bool) (v : Value) → Alike w s m (state.test t (state.give v) (state.fault_at fault.WrongRecordClass w) s) (doing.test t (doing.give v) (doing.fault_now fault.WrongRecordClass) m)
class_alike w s m true v = alike_on v
class_alike w s m false v = alike_fault fault.WrongRecordClass

pub made_alike : (b : Base) (h : Heap) (s : State Bodied) (m : Machine) (w : Place) (t : ValueType) (v : Value) → Settled b h s.memory s.records s.fields → m.records ≡ h.records → Alike w s m (state.made w t v s) (doing.made t v m)
made_alike b h s m w Integer (value.Integer n) st e = alike_on _
made_alike b h s m w Logical (value.Logical n) st e = alike_on _
made_alike b h s m w Bits (value.Bits n) st e = alike_on _
made_alike b h s m w (Str n) (value.Str x) st e = alike_on _
made_alike b h s m w (Reference set) (value.Reference None) st e = alike_on _
made_alike b h s m w (Reference set) (value.Reference (Some r)) st e = record_alike b h s m w r Value (λ info. state.test (has set info.class.place) (state.give (value.Reference (Some r))) (state.fault_at fault.WrongRecordClass w)) (λ info. doing.test (has set info.class.place) (doing.give (value.Reference (Some r))) (doing.fault_now fault.WrongRecordClass)) st e
    (λ info x. subst (λ c. Alike w s m (state.test (has set info.class.place) (state.give (value.Reference (Some r))) (state.fault_at fault.WrongRecordClass w) s) (doing.test (has set c.place) (doing.give (value.Reference (Some r))) (doing.fault_now fault.WrongRecordClass) m)) (sym x.class) (class_alike w s m (has set info.class.place) (value.Reference (Some r))))
made_alike b h s m w _ _ st e = alike_wrong s

module _ (set : Setting) (program : Code) where
  -- a row that looks, and then holds a value
  pub alike_follows : (w : Place) (b : Base) (h : Heap) (s : State Bodied) (k : ℕ) (held : Content) (m : Machine) (c : Coded) (ts : List Target) (world : World) (r : Outcome Bodied Value) (n : Next Value) → c.at ≡ w → slice_get program.instructions m.pc ≡ Some c →
      does set program c.at c.does m ≡ doing.after (doing.after n (λ u. doing.hold (machine.a_value u))) (λ z. go_on) → Agrees program.instructions world b h s → Alike w s (mach b h s k held) r n → Follows set program (Gives b s.active (k + 1)) ts h s m (state.after r (λ u. state.give (state.a_value u)))
  alike_follows w b h s k held m c ts world r n at e d a (alike_on v) = gives_value set program b s.active (k + 1) ts h s m v (one_row set program m _ c e d) a.settled a.cells refl
  alike_follows w b h s k held m c ts world r n at e d a (alike_fault f) = subst (λ z. Follows set program (Gives b s.active (k + 1)) ts h s m (stop (by_fault f) z s)) at (fault_here set program (Gives b s.active (k + 1)) ts h s m c f b k held e d a.listed a.settled)
  alike_follows w b h s k held m c ts world r n at e d a (alike_wrong t) = tt

  -- a row that makes what was held
  pub made_follows : (b : Base) (h : Heap) (s : State Bodied) (k : ℕ) (held : Content) (m : Machine) (c : Coded) (ts : List Target) (world : World) (t : Option ValueType) (r : state.Given) (x : Content) → slice_get program.instructions m.pc ≡ Some c →
      does set program c.at c.does m ≡ doing.after (doing.after (doing.made_result t x (mach b h s k held)) doing.hold) (λ z. go_on) → Agrees program.instructions world b h s → Holds b h r x → Follows set program (Gives b s.active (k + 1)) ts h s m (state.made_result c.at t r s)
  made_follows b h s k held m c ts world None r x e d a q = follows_on set program (Gives b s.active (k + 1)) ts h s m (mach b h s (k + 1) x) r (one_row set program m _ c e d) (record { held = x; holds = q; reached = record { is = refl; settled = a.settled; cells = a.cells; listed = refl } })
  made_follows b h s k held m c ts world (Some t) state.nothing machine.nothing e d a q = follows_on set program (Gives b s.active (k + 1)) ts h s m (mach b h s (k + 1) machine.nothing) state.nothing (one_row set program m _ c e d) (record { held = machine.nothing; holds = q; reached = record { is = refl; settled = a.settled; cells = a.cells; listed = refl } })
  made_follows b h s k held m c ts world (Some t) (state.a_spot y) (machine.a_spot z) e d a q = follows_on set program (Gives b s.active (k + 1)) ts h s m (mach b h s (k + 1) (machine.a_spot z)) (state.a_spot y) (one_row set program m _ c e d) (record { held = machine.a_spot z; holds = q; reached = record { is = refl; settled = a.settled; cells = a.cells; listed = refl } })
  made_follows b h s k held m c ts world (Some t) (state.a_value v) (machine.a_value u) e d a q =
      alike_follows c.at b h s k held m c ts world (state.made c.at t v s) (doing.made t v (mach b h s k held)) refl e (d ∙ ap (λ z. doing.after (doing.after (doing.after (doing.made t z (mach b h s k held)) (λ y. doing.give (machine.a_value y))) doing.hold) (λ z. go_on)) (sym q) ∙ shape (doing.made t v (mach b h s k held))) a
      (made_alike b h s (mach b h s k held) c.at t v a.settled refl)
    where
      shape : (n : Next Value) → doing.after (doing.after (doing.after n (λ y. doing.give (machine.a_value y))) doing.hold) (λ z. go_on) ≡ doing.after (doing.after n (λ y. doing.hold (machine.a_value y))) (λ z. go_on)
      shape (doing.on y n) = refl
      shape (doing.ended n) = refl
      shape (halted y n) = refl
  made_follows b h s k held m c ts world (Some t) r x e d a q = absurd q

  -- ---- variables

  value_at_cell : (b : Base) (h : Heap) (s : State Bodied) (k n : ℕ) (held : Content) (x : Where) → Stands b h n x → (o : Option (Option Value)) → slice_get s.memory n ≡ o → (v : Value) → o ≡ Some (Some v) → doing.value_at x (mach b h s k held) ≡ doing.on v (mach b h s k held)
  value_at_cell b h s k n held (in_cell c) st o q v e = ap (λ z. doing.after (there z (mach b h s k held)) doing.value_of_cell) (top_map (content_of s.memory) b.slots c (variable n) st ∙ ap (λ z. Some (content_of_variable z)) (q ∙ e))
  value_at_cell b h s k n held (in_field f) st o q v e = ap (λ z. doing.after (there z (mach b h s k held)) doing.value_of_field) (top_map (field_of s.memory) h.fields f n st ∙ ap (λ (z : Option (Option Value)). let y : Option Value = elim z [ None ↦ None | Some u ↦ u ] in Some y) (q ∙ e))

  value_at_none : (b : Base) (h : Heap) (s : State Bodied) (k n : ℕ) (held : Content) (x : Where) → Stands b h n x → slice_get s.memory n ≡ Some None → doing.value_at x (mach b h s k held) ≡ halted (by_fault fault.ValueUndefined) (mach b h s k held)
  value_at_none b h s k n held (in_cell c) st q = ap (λ z. doing.after (there z (mach b h s k held)) doing.value_of_cell) (top_map (content_of s.memory) b.slots c (variable n) st ∙ ap (λ z. Some (content_of_variable z)) q)
  value_at_none b h s k n held (in_field f) st q = ap (λ z. doing.after (there z (mach b h s k held)) doing.value_of_field) (top_map (field_of s.memory) h.fields f n st ∙ ap (λ (z : Option (Option Value)). let y : Option Value = elim z [ None ↦ None | Some u ↦ u ] in Some y) q)

  -- a variable's value, or F6
  pub look_alike : (b : Base) (h : Heap) (s : State Bodied) (k n : ℕ) (held : Content) (w : Place) (x : Where) → Stands b h n x → Alike w s (mach b h s k held) (look w n s) (doing.value_at x (mach b h s k held))
  look_alike b h s k n held w x st = by (slice_get s.memory n) refl
    where
      by : (o : Option (Option Value)) → slice_get s.memory n ≡ o → Alike w s (mach b h s k held) (defined w o s) (doing.value_at x (mach b h s k held))
      by None q = alike_wrong s
      by (Some None) q = subst (Alike w s (mach b h s k held) (stop (by_fault fault.ValueUndefined) w s)) (sym (value_at_none b h s k n held x st q)) (alike_fault fault.ValueUndefined)
      by (Some (Some v)) q = subst (Alike w s (mach b h s k held) (on v s)) (sym (value_at_cell b h s k n held x st (Some (Some v)) q v refl)) (alike_on v)

  -- a row that holds a variable's value, or its place
  pub variable_follows : (u : Use) (b : Base) (h : Heap) (s : State Bodied) (k n : ℕ) (held : Content) (m : Machine) (c : Coded) (ts : List Target) (world : World) (x : Where) → slice_get program.instructions m.pc ≡ Some c → does set program c.at c.does m ≡ doing.after (doing.variable u x (mach b h s k held)) (λ z. go_on) → Agrees program.instructions world b h s → Stands b h n x →
      Follows set program (Gives b s.active (k + 1)) ts h s m (state.variable u c.at n s)
  variable_follows for_place b h s k n held m c ts world x e d a st = follows_on set program (Gives b s.active (k + 1)) ts h s m (mach b h s (k + 1) (machine.a_spot (machine.whole x))) (state.a_spot (state.whole n)) (one_row set program m _ c e d) (record { held = machine.a_spot (machine.whole x); holds = st; reached = record { is = refl; settled = a.settled; cells = a.cells; listed = refl } })
  variable_follows for_value b h s k n held m c ts world x e d a st = alike_follows c.at b h s k held m c ts world (look c.at n s) (doing.value_at x (mach b h s k held)) refl e d a (look_alike b h s k n held c.at x st)
