-- Rows that change a variable, what is printed, and how far the data are read.
use Rattle.std.proofs.Common.{◌≡◌, ◌≢◌, ℕ, ◌<◌, inl, ℤ, pos, negsuc, List, [], ◌∷◌, ◌++◌, length, take, map, Option, Some, None, refl, sym, ap, ◌∙◌, subst, arith}
use Rattle.std.specs.Prelude.{slice_get, slice_set, nat_le, nat_eq, Bool, true, false, Result, Ok, Err}
use Rattle.value_ops.specs.declared.places.Place.{Place}
use Rattle.value_ops.specs.declared.faults.Fault.{Fault}
use Rattle.value_ops.specs.declared.faults.Fault.TheVariants as fault
use Rattle.value_ops.specs.declared.faults.Limit.TheVariants as limit
use Rattle.value_ops.specs.declared.values.Value.{Value}
use Rattle.value_ops.specs.declared.values.Value.TheVariants as value
use Rattle.value_ops.specs.declared.values.SimpleType.{SimpleType}
use Rattle.value_ops.specs.Strings.{with_part}
use Rattle.short_text.specs.Blanks.{blanks}
use Rattle.algolw_tree.specs.declared.standard.Width.{Width}
use Rattle.algolw_tree.specs.declared.standard.Width.TheVariants.{Columns, Blanks}
use Rattle.algolw_typing.specs.Types.{ValueType}
use Rattle.output_editing.specs.Layout.{Piece, Break, lay}
use Rattle.input_editing.specs.Columns.{card_end, card_read, read_from}
use Rattle.input_editing.specs.Scanning.{scanned}
use Rattle.program_meaning.specs.State as state
use Rattle.program_meaning.specs.State.{State, Setting, by_fault, by_limit, wrong, unfinished, Outcome, on, jump, stop, M, after}
use Rattle.program_meaning.specs.Widths.{WidthsSet, variable_of, width_now, may_be_placed, widths_of, pieces_of, value_placed, value_written}
use Rattle.program_meaning.specs.Copying as copying
use Rattle.program_meaning.specs.Environments.{Bodied}
use Rattle.stack_code.specs.Code.{Code, Coded}
use Rattle.stack_code.specs.Machine as machine
use Rattle.stack_code.specs.Machine.{Machine, Content, Where, in_cell, in_field, on_top_of, replaced}
use Rattle.stack_code.specs.Doing as doing
use Rattle.stack_code.specs.Doing.{Next, Row, halted, there, ◌>>◌, ◌>>=◌}
use Rattle.stack_code.specs.Table.{does}
use Rattle.code_simulation.specs.Relation.{Slot, variable, fixed, Base, Heap, mach, Target, Stands, HeldSpot, Settled, Listed, Grew, content_of, content_of_variable, field_of}
use Rattle.code_simulation.specs.Following.{Follows}
use Rattle.code_simulation.proofs.Stacks.{top_map, map_same, map_replaced, get_set_same, get_set_other, length_set}
use Rattle.code_simulation.proofs.Values.{fault_here, limit_here}
use Rattle.code_simulation.proofs.Counting.{follows_since, follows_assoc}
use Rattle.code_simulation.proofs.Making.{Alike, alike_on, alike_fault, alike_wrong, alike_after, look_alike, made_alike}

-- a state with other variables
abbrev pub with_memory : List (Option Value) → State Bodied → State Bodied
with_memory memory s = record s { memory = memory }

pub grew_memory : (h : Heap) (s : State Bodied) (memory : List (Option Value)) → length memory ≡ length s.memory → Grew h s h (with_memory memory s)
grew_memory h s memory e = record { memory = omega (arith, e); arrays = λ k a x. x; procedures = λ k a x. x; labels = omega arith; fields = λ f k x. x; fresh = λ f k x. inl x; deep = λ d. d }

-- a state with other pieces printed, or with the data read so far
abbrev pub with_pieces : List Piece → State Bodied → State Bodied
with_pieces pieces s = record s { pieces = pieces }

abbrev pub with_read : ℕ → State Bodied → State Bodied
with_read n s = record s { data_read = n }

-- ---- a variable is given a value

same_cell : (n : ℕ) (v : Value) (memory : List (Option Value)) (z : Slot) → (z ≢ variable n) → content_of (slice_set memory n (Some v)) z ≡ content_of memory z
same_cell n v memory (fixed c) h = refl
same_cell n v memory (variable k) h = ap content_of_variable (get_set_other memory n k (Some v) (λ e. h (ap variable (sym e))))

same_field : (n : ℕ) (v : Value) (memory : List (Option Value)) (k : ℕ) → (k ≢ n) → field_of (slice_set memory n (Some v)) k ≡ field_of memory k
same_field n v memory k h = ap (λ (o : Option (Option Value)). let y : Option Value = elim o [ None ↦ None | Some u ↦ u ] in y) (get_set_other memory n k (Some v) (λ e. h (sym e)))

pub put_is : (b : Base) (h : Heap) (s : State Bodied) (k n : ℕ) (held : Content) (x : Where) (v : Value) → Settled b h s.memory s.records s.fields → Stands b h n x → doing.put x v (mach b h s k held) ≡ doing.on tt (mach b h (with_memory (slice_set s.memory n (Some v)) s) k held)
put_is b h s k n held (in_cell c) v st e =
    let l = st.within n (in_cell c) e in
    let cells : replaced (map (content_of s.memory) b.slots) c (machine.a_value v) ≡ map (content_of (slice_set s.memory n (Some v))) b.slots =
    ap (λ z. replaced (map (content_of s.memory) b.slots) c (content_of_variable z)) (sym (get_set_same s.memory n (Some v) l))
    ∙ sym (map_replaced (content_of s.memory) (content_of (slice_set s.memory n (Some v))) b.slots c (variable n) e (λ j z q d. same_cell n v s.memory z (λ y. other j d (st.apart n (in_cell j) (in_cell c) (q ∙ ap (λ i. Some i) y) e)))) in
    let fields : map (field_of s.memory) h.fields ≡ map (field_of (slice_set s.memory n (Some v))) h.fields =
    sym (map_same (field_of s.memory) (field_of (slice_set s.memory n (Some v))) h.fields (λ f i q. same_field n v s.memory i (λ y. apart f (st.apart n (in_field f) (in_cell c) (q ∙ ap (λ z. Some z) y) e)))) in
    ap (λ l. doing.on tt (record (mach b h s k held) { cells = l })) cells ∙ ap (λ l. doing.on tt (record (mach b h (with_memory (slice_set s.memory n (Some v)) s) k held) { fields = l })) fields
  where
    other : (j : ℕ) → j ≢ c → in_cell j ≡ in_cell c → ⊥
    other j d y = d (cc)

    apart : (f : ℕ) → in_field f ≡ in_cell c → ⊥
    apart f y = cc
put_is b h s k n held (in_field f) v st e =
    let l = st.within n (in_field f) e in
    let cells : map (content_of s.memory) b.slots ≡ map (content_of (slice_set s.memory n (Some v))) b.slots =
    sym (map_same (content_of s.memory) (content_of (slice_set s.memory n (Some v))) b.slots (λ j z q. same_cell n v s.memory z (λ y. apart j (st.apart n (in_cell j) (in_field f) (q ∙ ap (λ i. Some i) y) e)))) in
    let fields : replaced (map (field_of s.memory) h.fields) f (Some v) ≡ map (field_of (slice_set s.memory n (Some v))) h.fields =
    ap (λ (z : Option (Option Value)). let y : Option Value = elim z [ None ↦ None | Some u ↦ u ] in replaced (map (field_of s.memory) h.fields) f y) (sym (get_set_same s.memory n (Some v) l))
    ∙ sym (map_replaced (field_of s.memory) (field_of (slice_set s.memory n (Some v))) h.fields f n e (λ j z q d. same_field n v s.memory z (λ y. other j d (st.apart n (in_field j) (in_field f) (q ∙ ap (λ i. Some i) y) e)))) in
    ap (λ l. doing.on tt (record (mach b h s k held) { fields = l })) fields ∙ ap (λ l. doing.on tt (record (mach b h (with_memory (slice_set s.memory n (Some v)) s) k held) { cells = l })) cells
  where
    other : (j : ℕ) → j ≢ f → in_field j ≡ in_field f → ⊥
    other j d y = d (cc)

    apart : (j : ℕ) → in_cell j ≡ in_field f → ⊥
    apart j y = cc

-- what was settled stays so
pub settled_put : (b : Base) (h : Heap) (memory : List (Option Value)) (records : List state.RecordInfo) (fields n : ℕ) (x : Where) (v : Value) → Settled b h memory records fields → Stands b h n x → Settled b h (slice_set memory n (Some v)) records fields
settled_put b h memory records fields n x v a e = record {
  apart = a.apart;
  within = λ k y p. let l = a.within k y p in let i = length_set memory n (Some v) in omega (arith, l, i);
  kept = λ k i. let z = a.kept k i in (get_set_other memory n k (Some v) (λ q. absurd (z.1 x (subst (λ j. Stands b h j x) q e))) ∙ z.0, z.1);
  has = a.has;
  count = a.count;
  as_many = a.as_many;
  standard = a.standard;
}

-- ---- strings

string_alike : (w : Place) (s : State Bodied) (m : Machine) (v : Value) → Alike w s m (state.string_in w v s) (doing.string_of v m)
string_alike w s m (value.Str x) = alike_on x
string_alike w s m _ = alike_wrong s

characters_alike : (b : Base) (h : Heap) (s : State Bodied) (k n i : ℕ) (held : Content) (w : Place) (x : Where) → Stands b h n x → Alike w s (mach b h s k held) (state.string_held w n i s) (doing.characters i x (mach b h s k held))
characters_alike b h s k n i held w (in_cell c) st = subst (λ r. Alike w s (mach b h s k held) (state.string_held w n i s) r) (sym (ap (λ o. doing.after (there o (mach b h s k held)) (doing.characters_of_cell i)) (top_map (content_of s.memory) b.slots c (variable n) st))) (by (slice_get s.memory n))
  where
    by : (o : Option (Option Value)) → Alike w s (mach b h s k held) (state.characters w i o s) (doing.characters_of_cell i (content_of_variable o) (mach b h s k held))
    by None = alike_wrong s
    by (Some None) = alike_on (blanks i)
    by (Some (Some v)) = string_alike w s (mach b h s k held) v
characters_alike b h s k n i held w (in_field f) st = subst (λ r. Alike w s (mach b h s k held) (state.string_held w n i s) r) (sym (ap (λ o. doing.after (there o (mach b h s k held)) (doing.characters_of_field i)) (top_map (field_of s.memory) h.fields f n st))) (by (slice_get s.memory n))
  where
    by : (o : Option (Option Value)) → Alike w s (mach b h s k held) (state.characters w i o s) (doing.characters_of_field i (elim o [ None ↦ None | Some u ↦ u ]) (mach b h s k held))
    by None = alike_wrong s
    by (Some None) = alike_on (blanks i)
    by (Some (Some v)) = string_alike w s (mach b h s k held) v

-- ---- widths

integer_alike : (w : Place) (s : State Bodied) (m : Machine) (v : Value) → Alike w s m (state.integer_in w v s) (doing.integer_of v m)
integer_alike w s m (value.Integer n) = alike_on n
integer_alike w s m _ = alike_wrong s

pub below_two : (width : Width) → variable_of width < 2
below_two Columns = omega arith
below_two Blanks = omega arith

-- a width that is set, or the standard variable's value
width_alike : (set : Setting) (program : Code) (w : Place) (b : Base) (h : Heap) (s : State Bodied) (k : ℕ) (held : Content) (width : Width) (o : Option ℤ) → Settled b h s.memory s.records s.fields → Alike w s (mach b h s k held) (width_now w width o s) (doing.width_now width o (mach b h s k held))
width_alike set program w b h s k held width (Some n) st = alike_on n
width_alike set program w b h s k held width None st =
    alike_after w s (mach b h s k held) (state.look w (variable_of width) s) (doing.value_at (in_field (variable_of width)) (mach b h s k held)) (state.integer_in w) doing.integer_of
    (look_alike set program b h s k (variable_of width) held w (in_field (variable_of width)) (st.standard (variable_of width) (below_two width))) (λ v. integer_alike w s (mach b h s k held) v)

module _ (set : Setting) (program : Code) where
  -- what looks only, and then a row that goes on
  pub alike_then : {A B : Type 0} (R : B → Heap → State Bodied → Machine → Type 0) (ts : List Target) (b : Base) (h : Heap) (s : State Bodied) (k : ℕ) (held : Content) (m : Machine) (c : Coded) (K : A → Row (Unit {0})) (f : A → M Bodied B) (r : Outcome Bodied A) (n : Next A) → slice_get program.instructions m.pc ≡ Some c → does set program c.at c.does m ≡ doing.after n K →
      Listed program.instructions b s.arrays b.entries [] s.active → Settled b h s.memory s.records s.fields → Alike c.at s (mach b h s k held) r n → ((a : A) → does set program c.at c.does m ≡ K a (mach b h s k held) → Follows set program R ts h s m (f a s)) → Follows set program R ts h s m (after r f)
  alike_then R ts b h s k held m c K f r n e d l st (alike_on a) g = g a d
  alike_then R ts b h s k held m c K f r n e d l st (alike_fault x) g = fault_here set program R ts h s m c x b k held e d l st
  alike_then R ts b h s k held m c K f r n e d l st (alike_wrong t) g = tt

  shape : {A B C : Type 0} (n : Next A) (f : A → Row B) (g : B → Row C) → doing.after (doing.after n f) g ≡ doing.after n (λ a m. doing.after (f a m) g)
  shape (doing.on a m) f g = refl
  shape (doing.ended m) f g = refl
  shape (halted y m) f g = refl

  -- a variable gets a value
  put_then : {A : Type 0} (R : A → Heap → State Bodied → Machine → Type 0) (ts : List Target) (b : Base) (h : Heap) (s : State Bodied) (k n : ℕ) (held : Content) (m : Machine) (c : Coded) (K : Row (Unit {0})) (f : Unit {0} → M Bodied A) (x : Where) (v : Value) → does set program c.at c.does m ≡ (doing.put x v >> K) (mach b h s k held) →
      Settled b h s.memory s.records s.fields → Stands b h n x → ((memory : List (Option Value)) → length memory ≡ length s.memory → Settled b h memory s.records s.fields → does set program c.at c.does m ≡ K (mach b h (with_memory memory s) k held) → Follows set program R ts h (with_memory memory s) m (f tt (with_memory memory s))) → Follows set program R ts h s m (after (state.put n v s) f)
  put_then R ts b h s k n held m c K f x v d st e g =
      let memory = slice_set s.memory n (Some v) in
      Rattle.code_simulation.proofs.Rows.follows_from set program R ts h s h (with_memory memory s) m m (f tt (with_memory memory s)) Rattle.code_simulation.specs.Following.already (grew_memory h s memory (length_set s.memory n (Some v)))
      (g memory (length_set s.memory n (Some v)) (settled_put b h s.memory s.records s.fields n x v st e) (d ∙ ap (λ r. doing.after r (λ z. K)) (put_is b h s k n held x v st e)))

  -- a value is stored in a place
  store_then : {A : Type 0} (R : A → Heap → State Bodied → Machine → Type 0) (ts : List Target) (b : Base) (h : Heap) (s : State Bodied) (k : ℕ) (held : Content) (m : Machine) (c : Coded) (K : Row (Unit {0})) (f : Unit {0} → M Bodied A) (spot : state.Spot) (x : machine.Spot) (v : Value) → slice_get program.instructions m.pc ≡ Some c → does set program c.at c.does m ≡ (doing.store x v >> K) (mach b h s k held) →
      Listed program.instructions b s.arrays b.entries [] s.active → Settled b h s.memory s.records s.fields → HeldSpot b h spot x → ((memory : List (Option Value)) → length memory ≡ length s.memory → Settled b h memory s.records s.fields → does set program c.at c.does m ≡ K (mach b h (with_memory memory s) k held) → Follows set program R ts h (with_memory memory s) m (f tt (with_memory memory s))) → Follows set program R ts h s m (after (state.store c.at spot v s) f)
  store_then R ts b h s k held m c K f (state.whole n) (machine.whole x) v e d l st q g = put_then R ts b h s k n held m c K f x v d st q g
  store_then R ts b h s k held m c K f (state.whole n) (machine.within x i j y) v e d l st q g = absurd q
  store_then R ts b h s k held m c K f (state.within n i j y) (machine.whole x) v e d l st q g = absurd q
  store_then R ts b h s k held m c K f (state.within n i j y) (machine.within x i' j' y') v e d l st q g =
      follows_assoc set program R ts h s m (state.string_in c.at v s) (λ text. state.◌>>=◌ (state.string_held c.at n i) (λ z. state.put_string c.at n (with_part z (pos j) y (take y text)))) f
      (alike_then R ts b h s k held m c (λ text. (doing.characters i' x >>= λ z. doing.put_string x (with_part z (pos j') y' (take y' text))) >> K) (λ text s1. after (after (state.string_held c.at n i s1) (λ z. state.put_string c.at n (with_part z (pos j) y (take y text)))) f) (state.string_in c.at v s) (doing.string_of v (mach b h s k held)) e (d ∙ shape (doing.string_of v (mach b h s k held)) (λ text. doing.characters i' x >>= λ z. doing.put_string x (with_part z (pos j') y' (take y' text))) (λ z. K)) l st (string_alike c.at s (mach b h s k held) v)
      (λ text d1. follows_assoc set program R ts h s m (state.string_held c.at n i s) (λ z. state.put_string c.at n (with_part z (pos j) y (take y text))) f
      (alike_then R ts b h s k held m c (λ z. doing.put_string x (with_part z (pos j') y' (take y' text)) >> K) (λ z s1. after (state.put_string c.at n (with_part z (pos j) y (take y text)) s1) f) (state.string_held c.at n i s) (doing.characters i x (mach b h s k held)) e
      (d1 ∙ shape (doing.characters i' x (mach b h s k held)) (λ z. doing.put_string x (with_part z (pos j') y' (take y' text))) (λ z. K) ∙ ap (λ o. doing.after (doing.characters o x (mach b h s k held)) (λ z. doing.put_string x (with_part z (pos j') y' (take y' text)) >> K)) (sym q.1)) l st (characters_alike b h s k n i held c.at x q.0)
      (λ z d2. strings (with_part z (pos j) y (take y text)) (d2 ∙ ap (λ o. (doing.put_string x (with_part z (pos o) y' (take y' text)) >> K) (mach b h s k held)) (sym q.2) ∙ ap (λ o. (doing.put_string x (with_part z (pos j) o (take o text)) >> K) (mach b h s k held)) (sym q.3))))))
    where
      strings : (r : Result (List ℕ) Fault) → does set program c.at c.does m ≡ (doing.put_string x r >> K) (mach b h s k held) → Follows set program R ts h s m (after (state.put_string c.at n r s) f)
      strings (Ok text) d2 = put_then R ts b h s k n held m c K f x (value.Str text) d2 st q.0 g
      strings (Err z) d2 = fault_here set program R ts h s m c z b k held e d2 l st

  -- and made into its type first
  pub assign_then : {A : Type 0} (R : A → Heap → State Bodied → Machine → Type 0) (ts : List Target) (b : Base) (h : Heap) (s : State Bodied) (k : ℕ) (held : Content) (m : Machine) (c : Coded) (K : Row (Unit {0})) (f : Unit {0} → M Bodied A) (t : ValueType) (spot : state.Spot) (x : machine.Spot) (v : Value) → slice_get program.instructions m.pc ≡ Some c → does set program c.at c.does m ≡ (doing.assign t x v >> K) (mach b h s k held) →
      Listed program.instructions b s.arrays b.entries [] s.active → Settled b h s.memory s.records s.fields → HeldSpot b h spot x → ((memory : List (Option Value)) → length memory ≡ length s.memory → Settled b h memory s.records s.fields → does set program c.at c.does m ≡ K (mach b h (with_memory memory s) k held) → Follows set program R ts h (with_memory memory s) m (f tt (with_memory memory s))) → Follows set program R ts h s m (after (state.assign c.at t spot v s) f)
  assign_then R ts b h s k held m c K f t spot x v e d l st q g =
      follows_assoc set program R ts h s m (state.made c.at t v s) (state.store c.at spot) f
      (alike_then R ts b h s k held m c (λ u. doing.store x u >> K) (λ u s1. after (state.store c.at spot u s1) f) (state.made c.at t v s) (doing.made t v (mach b h s k held)) e (d ∙ shape (doing.made t v (mach b h s k held)) (doing.store x) (λ z. K)) l st (made_alike b h s (mach b h s k held) c.at t v st refl)
      (λ u d1. store_then R ts b h s k held m c K f spot x u e d1 l st q g))

  -- ---- output and data

  -- pieces are put one after the other
  pub pieces_then : {A : Type 0} (R : A → Heap → State Bodied → Machine → Type 0) (ts : List Target) (b : Base) (h : Heap) (s : State Bodied) (k : ℕ) (held : Content) (m : Machine) (c : Coded) (K : Row (Unit {0})) (f : Unit {0} → M Bodied A) (pieces : List Piece) → slice_get program.instructions m.pc ≡ Some c → does set program c.at c.does m ≡ (doing.put_pieces set pieces >> K) (mach b h s k held) →
      Listed program.instructions b s.arrays b.entries [] s.active → Settled b h s.memory s.records s.fields → ((l : List Piece) → does set program c.at c.does m ≡ K (mach b h (with_pieces l s) k held) → Follows set program R ts h (with_pieces l s) m (f tt (with_pieces l s))) → Follows set program R ts h s m (after (state.put_pieces set c.at pieces s) f)
  pieces_then R ts b h s k held m c K f [] e d l st g = g s.pieces d
  pieces_then R ts b h s k held m c K f (p ∷ pieces) e d l st g =
      follows_since set program R ts h s s1 m (after (after (state.within_lines set c.at s1) (λ z. state.put_pieces set c.at pieces)) f) refl refl refl refl (λ d. d)
      (follows_assoc set program R ts h s1 m (state.within_lines set c.at s1) (λ z. state.put_pieces set c.at pieces) f
      (by (λ d1. pieces_then R ts b h s1 k held m c K f pieces e d1 l st g) (nat_le (length (lay s1.pieces)) set.lines) refl))
    where
      s1 : State Bodied
      s1 = with_pieces (s.pieces ++ p ∷ []) s

      row : (t : Bool) → nat_le (length (lay s1.pieces)) set.lines ≡ t → (doing.put_pieces set (p ∷ pieces) >> K) (mach b h s k held) ≡ doing.after (doing.after (elim t [ true ↦ doing.on (tt {0}) (mach b h s1 k held) | false ↦ halted (by_limit limit.Lines) (mach b h s1 k held) ]) (λ z. doing.put_pieces set pieces)) (λ z. K)
      row t q = ap (λ (y : Bool). let n : Next (Unit {0}) = elim y [ true ↦ doing.on (tt {0}) (mach b h s1 k held) | false ↦ halted (by_limit limit.Lines) (mach b h s1 k held) ] in doing.after (doing.after n (λ z. doing.put_pieces set pieces)) (λ z. K)) q

      by : (does set program c.at c.does m ≡ (doing.put_pieces set pieces >> K) (mach b h s1 k held) → Follows set program R ts h s1 m (after (state.put_pieces set c.at pieces s1) f)) → (t : Bool) → nat_le (length (lay s1.pieces)) set.lines ≡ t → Follows set program R ts h s1 m (after (elim t [ true ↦ on (tt {0}) s1 | false ↦ stop (by_limit limit.Lines) c.at s1 ]) (λ z s2. after (state.put_pieces set c.at pieces s2) f))
      by ih true q = ih (d ∙ row true q)
      by ih false q = limit_here set program R ts h s1 m c limit.Lines b k held e (d ∙ row false q) l st

  -- a value is placed by widths that are looked for
  pub written_then : {A : Type 0} (R : A → Heap → State Bodied → Machine → Type 0) (ts : List Target) (b : Base) (h : Heap) (s : State Bodied) (k : ℕ) (held : Content) (m : Machine) (c : Coded) (K : Row (Unit {0})) (f : Unit {0} → M Bodied A) (first : Bool) (ws : WidthsSet) (v : Value) → slice_get program.instructions m.pc ≡ Some c →
      does set program c.at c.does m ≡ (doing.value_written set first v ws >> K) (mach b h s k held) → Listed program.instructions b s.arrays b.entries [] s.active → Settled b h s.memory s.records s.fields → ((l : List Piece) → does set program c.at c.does m ≡ K (mach b h (with_pieces l s) k held) → Follows set program R ts h (with_pieces l s) m (f tt (with_pieces l s))) →
      Follows set program R ts h s m (after (value_written set c.at first ws v s) f)
  written_then R ts b h s k held m c K f first ws v e d l st g =
      follows_assoc set program R ts h s m (width_now c.at Columns ws.columns s) (λ columns. state.◌>>=◌ (width_now c.at Blanks ws.blanks) (λ blanks. value_placed set c.at first v columns blanks)) f
      (alike_then R ts b h s k held m c (λ columns. (doing.width_now Blanks ws.blanks >>= λ blanks. doing.value_placed set first v columns blanks) >> K) (λ columns s1. after (after (width_now c.at Blanks ws.blanks s1) (λ blanks. value_placed set c.at first v columns blanks)) f) (width_now c.at Columns ws.columns s) (doing.width_now Columns ws.columns (mach b h s k held)) e
      (d ∙ shape (doing.width_now Columns ws.columns (mach b h s k held)) (λ columns. doing.width_now Blanks ws.blanks >>= λ blanks. doing.value_placed set first v columns blanks) (λ z. K)) l st (width_alike set program c.at b h s k held Columns ws.columns st)
      (λ columns d1. follows_assoc set program R ts h s m (width_now c.at Blanks ws.blanks s) (λ blanks. value_placed set c.at first v columns blanks) f
      (alike_then R ts b h s k held m c (λ blanks. doing.value_placed set first v columns blanks >> K) (λ blanks s1. after (value_placed set c.at first v columns blanks s1) f) (width_now c.at Blanks ws.blanks s) (doing.width_now Blanks ws.blanks (mach b h s k held)) e
      (d1 ∙ shape (doing.width_now Blanks ws.blanks (mach b h s k held)) (λ blanks. doing.value_placed set first v columns blanks) (λ z. K)) l st (width_alike set program c.at b h s k held Blanks ws.blanks st)
      (λ blanks d2. by columns blanks (may_be_placed v columns blanks) d2))))
    where
      by : (columns blanks : ℤ) (t : Bool) → does set program c.at c.does m ≡ (doing.test t (doing.put_pieces set (pieces_of first v (widths_of columns blanks))) (doing.fault_now fault.WidthOutOfRange) >> K) (mach b h s k held) →
          Follows set program R ts h s m (after (state.test t (state.put_pieces set c.at (pieces_of first v (widths_of columns blanks))) (state.fault_at fault.WidthOutOfRange c.at) s) f)
      by columns blanks true d2 = pieces_then R ts b h s k held m c K f (pieces_of first v (widths_of columns blanks)) e d2 l st g
      by columns blanks false d2 = fault_here set program R ts h s m c fault.WidthOutOfRange b k held e d2 l st

  answer_then : {A : Type 0} (R : A → Heap → State Bodied → Machine → Type 0) (ts : List Target) (b : Base) (h : Heap) (s : State Bodied) (k : ℕ) (held : Content) (m : Machine) (c : Coded) (K : Value → Row (Unit {0})) (f : Value → M Bodied A) (r : Result (Value × ℕ) Fault) → slice_get program.instructions m.pc ≡ Some c → does set program c.at c.does m ≡ doing.after (doing.scan_answer r (mach b h s k held)) K →
      Listed program.instructions b s.arrays b.entries [] s.active → Settled b h s.memory s.records s.fields → ((v : Value) (n : ℕ) → does set program c.at c.does m ≡ K v (mach b h (with_read n s) k held) → Follows set program R ts h (with_read n s) m (f v (with_read n s))) → Follows set program R ts h s m (after (state.scan_answer c.at r s) f)
  answer_then R ts b h s k held m c K f (Ok (v, n)) e d l st g = follows_since set program R ts h s (with_read n s) m (f v (with_read n s)) refl refl refl refl (λ d. d) (g v n d)
  answer_then R ts b h s k held m c K f (Err z) e d l st g = fault_here set program R ts h s m c z b k held e d l st

  pub scan_then : {A : Type 0} (R : A → Heap → State Bodied → Machine → Type 0) (ts : List Target) (b : Base) (h : Heap) (s : State Bodied) (k : ℕ) (held : Content) (m : Machine) (c : Coded) (K : Value → Row (Unit {0})) (f : Value → M Bodied A) (first : Bool) (t : Option SimpleType) → slice_get program.instructions m.pc ≡ Some c → does set program c.at c.does m ≡ doing.after (doing.scan set first t (mach b h s k held)) K →
      Listed program.instructions b s.arrays b.entries [] s.active → Settled b h s.memory s.records s.fields → ((v : Value) (n : ℕ) → does set program c.at c.does m ≡ K v (mach b h (with_read n s) k held) → Follows set program R ts h (with_read n s) m (f v (with_read n s))) → Follows set program R ts h s m (after (copying.scan set c.at first t s) f)
  scan_then R ts b h s k held m c K f first None e d l st g = tt
  scan_then R ts b h s k held m c K f first (Some t) e d l st g = answer_then R ts b h s k held m c K f (scanned set.cards (read_from first s.data_read) t) e d l st g

  pub card_then : {A : Type 0} (R : A → Heap → State Bodied → Machine → Type 0) (ts : List Target) (b : Base) (h : Heap) (s : State Bodied) (k : ℕ) (held : Content) (m : Machine) (c : Coded) (K : Value → Row (Unit {0})) (f : Value → M Bodied A) → slice_get program.instructions m.pc ≡ Some c → does set program c.at c.does m ≡ doing.after (doing.take_card set (mach b h s k held)) K →
      Listed program.instructions b s.arrays b.entries [] s.active → Settled b h s.memory s.records s.fields → ((v : Value) (n : ℕ) → does set program c.at c.does m ≡ K v (mach b h (with_read n s) k held) → Follows set program R ts h (with_read n s) m (f v (with_read n s))) → Follows set program R ts h s m (after (copying.take_card set c.at s) f)
  card_then R ts b h s k held m c K f e d l st g = answer_then R ts b h s k held m c K f (copying.string_read (card_read set.cards s.data_read)) e d l st g

  -- IOCONTROL
  pub control_then : {A : Type 0} (R : A → Heap → State Bodied → Machine → Type 0) (ts : List Target) (b : Base) (h : Heap) (s : State Bodied) (k : ℕ) (held : Content) (m : Machine) (c : Coded) (K : Row (Unit {0})) (f : Unit {0} → M Bodied A) (i : ℤ) → does set program c.at c.does m ≡ (doing.io_control i >> K) (mach b h s k held) →
      ((l : List Piece) (n : ℕ) → does set program c.at c.does m ≡ K (mach b h (with_pieces l (with_read n s)) k held) → Follows set program R ts h (with_pieces l (with_read n s)) m (f tt (with_pieces l (with_read n s)))) → Follows set program R ts h s m (after (copying.io_control i s) f)
  control_then R ts b h s k held m c K f (negsuc i) d g = g s.pieces s.data_read d
  control_then R ts b h s k held m c K f (pos i) d g = by (nat_eq i 1) d
    where
      next : (t : Bool) → does set program c.at c.does m ≡ (doing.test t (doing.print (Break ∷ [])) (doing.give tt) >> K) (mach b h s k held) → Follows set program R ts h s m (after (state.test t (state.print (Break ∷ [])) (state.give tt) s) f)
      next true d1 = follows_since set program R ts h s (with_pieces (s.pieces ++ Break ∷ []) s) m (f tt (with_pieces (s.pieces ++ Break ∷ []) s)) refl refl refl refl (λ d. d) (g (s.pieces ++ Break ∷ []) s.data_read d1)
      next false d1 = g s.pieces s.data_read d1

      by : (t : Bool) → does set program c.at c.does m ≡ (doing.test t (doing.read_so_far >>= λ j. doing.set_read (card_end j)) (doing.test (nat_eq i 2) (doing.print (Break ∷ [])) (doing.give tt)) >> K) (mach b h s k held) → Follows set program R ts h s m (after (state.test t (state.◌>>=◌ state.read_so_far (λ j. state.set_read (card_end j))) (state.test (nat_eq i 2) (state.print (Break ∷ [])) (state.give tt)) s) f)
      by true d1 = follows_since set program R ts h s (with_read (card_end s.data_read) s) m (f tt (with_read (card_end s.data_read) s)) refl refl refl refl (λ d. d) (g s.pieces (card_end s.data_read) d1)
      by false d1 = next (nat_eq i 2) d1
