-- Record designators.
use Rattle.std.proofs.Common.{◌≡◌, ℕ, zero, suc, ◌+◌, ◌-◌, ◌<◌, ◌≤◌, ◌⊎◌, inl, inr, List, [], ◌∷◌, ◌++◌, length, map, Option, Some, None, refl, sym, ap, ◌∙◌, subst, arith, length-append, append_assoc, append-nil}
use Rattle.std.specs.Prelude.{slice_get, nat_lt, nat_le, ◌&&◌, replicate, Bool, true, false}
use Rattle.std.proofs.lemmas.Bool.{le-leb, leb-true, leb-false, lt-leb}
use Rattle.value_ops.specs.declared.places.Place.{Place}
use Rattle.value_ops.specs.declared.faults.Limit.TheVariants as limit
use Rattle.value_ops.specs.declared.values.Value.{Value}
use Rattle.value_ops.specs.declared.values.Value.TheVariants as value
use Rattle.algolw_typing.specs.Types.{ValueType}
use Rattle.program_meaning.specs.Phrases.{Record, RecordAlone, Name, Phrases, no_phrases, phrase_and}
use Rattle.program_meaning.specs.State as state
use Rattle.program_meaning.specs.State.{State, Setting, by_limit, Outcome, on, jump, stop, M, Use, for_value, for_place, RecordInfo, most_records, most_fields, after}
use Rattle.program_meaning.specs.Environments.{Env, Bodied, Job, go, go_fields}
use Rattle.stack_code.specs.Instr as instr
use Rattle.stack_code.specs.Instr.{Instr, Mode, the_value}
use Rattle.stack_code.specs.Code.{Code, Coded}
use Rattle.stack_code.specs.Machine as machine
use Rattle.stack_code.specs.Machine.{Machine, Content, RecordMade, Where, in_cell, in_field, on_top_of}
use Rattle.stack_code.specs.Doing as doing
use Rattle.stack_code.specs.Doing.{Next, go_on, onto, pop_all, values_in, ◌>>=◌, ◌>>◌}
use Rattle.stack_code.specs.Table.{does}
use Rattle.phrase_code.specs.Sizes.{size, fields_size}
use Rattle.phrase_code.specs.Coding.{Context, known, code, code_fields, phrase_count}
use Rattle.code_simulation.specs.Relation.{HasAt, Base, Heap, mach, World, Target, Stands, HasRecord, Settled, Listed, Grew, At, content_of, field_of}
use Rattle.code_simulation.specs.Following.{already, Follows, Gives, Reached, PhraseFollows, CodeDoes}
use Rattle.code_simulation.proofs.Stacks.{top_at, top_more, top_less, length_map, get_below, get_append, get_behind, none_is_some, has_front, has_back}
use Rattle.code_simulation.proofs.Sizes.{fields_sized}
use Rattle.code_simulation.proofs.Rows.{one_row, follows_from, follows_then, follows_on, grew_here, grew_on}
use Rattle.code_simulation.proofs.Keeping.{pushed, with_cells, grew_to, at_on, at_pushed}
use Rattle.code_simulation.proofs.Values.{follows_at, push_then, settled_below, limit_here}
use Rattle.code_simulation.proofs.Counting.{follows_assoc}
use Rattle.code_simulation.proofs.Making.{made_alike}
use Rattle.code_simulation.proofs.Storing.{alike_then}
use Rattle.code_simulation.proofs.Operators.{behind, at_reached, ends_at, gives_as, value_by}
use Rattle.code_simulation.proofs.Growing.{cells_appended, fields_appended}
use Rattle.code_simulation.proofs.Elements.{pushes, Stacked, popped_is}
use Rattle.code_simulation.proofs.Statements.{EachDoes, does_and}
use Rattle.phrase_code.specs.Marks.{marks, phrases_marks}
use Rattle.code_simulation.specs.Room.{Fits}
use Rattle.code_simulation.proofs.Room.{fits_left, fits_right, fits_pushed}

-- ---- the fields of a new record

-- the variables of new fields, from number n on
abbrev field_numbers : ℕ → List (Option Value) → List ℕ → List ℕ
field_numbers n [] fs = fs
field_numbers n (v ∷ vs) fs = field_numbers (n + 1) vs (n ∷ fs)

numbers_length : (n : ℕ) (vs : List (Option Value)) (fs : List ℕ) → length (field_numbers n vs fs) ≡ length fs + length vs
numbers_length n [] fs = omega arith
numbers_length n (v ∷ vs) fs = let e = numbers_length (n + 1) vs (n ∷ fs) in omega (arith, e)

numbers_old : (n : ℕ) (vs : List (Option Value)) (fs : List ℕ) (f k : ℕ) → on_top_of fs f ≡ Some k → on_top_of (field_numbers n vs fs) f ≡ Some k
numbers_old n [] fs f k e = e
numbers_old n (v ∷ vs) fs f k e = numbers_old (n + 1) vs (n ∷ fs) f k (top_more n fs f k e)

numbers_new : (n : ℕ) (vs : List (Option Value)) (fs : List ℕ) (i : ℕ) → i < length vs → on_top_of (field_numbers n vs fs) (length fs + i) ≡ Some (n + i)
numbers_new n [] fs i q = absurd (omega (arith, q))
numbers_new n (v ∷ vs) fs zero q = numbers_old (n + 1) vs (n ∷ fs) (length fs + 0) (n + 0) (top_at n fs (length fs + 0) (omega arith) ∙ ap (λ z. Some z) (omega arith))
numbers_new n (v ∷ vs) fs (suc i) q =
    let e1 : suc (length fs) + i ≡ length fs + suc i = omega arith in
    let e2 : n + 1 + i ≡ n + suc i = omega arith in
    subst (λ z. on_top_of (field_numbers (n + 1) vs (n ∷ fs)) z ≡ Some (n + suc i)) e1 (numbers_new (n + 1) vs (n ∷ fs) i (omega (arith, q)) ∙ ap (λ z. Some z) e2)

numbers_at : (n : ℕ) (vs : List (Option Value)) (fs : List ℕ) (f k : ℕ) → on_top_of (field_numbers n vs fs) f ≡ Some k → (on_top_of fs f ≡ Some k) ⊎ ((n ≤ k) × (k < n + length vs) × (f + n ≡ length fs + k))
numbers_at n [] fs f k e = inl e
numbers_at n (v ∷ vs) fs f k e = by (numbers_at (n + 1) vs (n ∷ fs) f k e)
  where
    first : ((f ≡ length fs) × (k ≡ n)) ⊎ (on_top_of fs f ≡ Some k) → (on_top_of fs f ≡ Some k) ⊎ ((n ≤ k) × (k < n + suc (length vs)) × (f + n ≡ length fs + k))
    first (inr q) = inl q
    first (inl q) = let a = q.0 in let b = q.1 in inr (omega (arith, b), omega (arith, b), omega (arith, a, b))

    by : (on_top_of (n ∷ fs) f ≡ Some k) ⊎ ((n + 1 ≤ k) × (k < n + 1 + length vs) × (f + (n + 1) ≡ suc (length fs) + k)) → (on_top_of fs f ≡ Some k) ⊎ ((n ≤ k) × (k < n + suc (length vs)) × (f + n ≡ length fs + k))
    by (inl q) = first (top_less n fs f k q)
    by (inr q) = let a = q.0 in let b = q.1 in let c = q.2 in inr (omega (arith, a), omega (arith, b), omega (arith, c))

-- the fields hold the values
fields_onto : (before vs : List (Option Value)) (fs : List ℕ) → map (field_of (before ++ vs)) (field_numbers (length before) vs fs) ≡ onto vs (map (field_of (before ++ vs)) fs)
fields_onto before [] fs = refl
fields_onto before (v ∷ vs) fs =
    let l : length (before ++ v ∷ []) ≡ length before + 1 = length-append before (v ∷ []) in
    let a : (before ++ v ∷ []) ++ vs ≡ before ++ v ∷ vs = append_assoc before (v ∷ []) vs in
    let z : length before + 0 ≡ length before = omega arith in
    let own : slice_get (before ++ v ∷ vs) (length before) ≡ Some v = ap (slice_get (before ++ v ∷ vs)) (sym z) ∙ get_behind before (v ∷ vs) 0 in
    let f = field_of (before ++ v ∷ vs) in
    subst (λ m. map (field_of m) (field_numbers (length before + 1) vs (length before ∷ fs)) ≡ onto vs (map (field_of m) (length before ∷ fs))) a
    (subst (λ n. map (field_of ((before ++ v ∷ []) ++ vs)) (field_numbers n vs (length before ∷ fs)) ≡ onto vs (map (field_of ((before ++ v ∷ []) ++ vs)) (length before ∷ fs))) l (fields_onto (before ++ v ∷ []) vs (length before ∷ fs)))
    ∙ ap (λ (o : Option (Option Value)). let y : Option Value = elim o [ None ↦ None | Some u ↦ u ] in onto vs (y ∷ map f fs)) own

got_last : {A : Type 0} (xs : List A) (y z : A) (r : ℕ) → slice_get (xs ++ y ∷ []) r ≡ Some z → (slice_get xs r ≡ Some z) ⊎ ((r ≡ length xs) × (z ≡ y))
got_last [] y z zero e = let q : y ≡ z = cc in inr (refl, sym q)
got_last [] y z (suc r) e = absurd (none_is_some e)
got_last (x ∷ xs) y z zero e = inl e
got_last (x ∷ xs) y z (suc r) e = by (got_last xs y z r e)
  where
    by : (slice_get xs r ≡ Some z) ⊎ ((r ≡ length xs) × (z ≡ y)) → (slice_get xs r ≡ Some z) ⊎ ((suc r ≡ suc (length xs)) × (z ≡ y))
    by (inl q) = inl q
    by (inr q) = inr (ap suc q.0, q.1)

-- the standard variables are there besides
two_more : (a b : ℕ) → nat_le (2 + a) (2 + b) ≡ nat_le a b
two_more a b = by (nat_le a b) refl
  where
    by : (t : Bool) → nat_le a b ≡ t → nat_le (2 + a) (2 + b) ≡ nat_le a b
    by true e = let l = leb-true a b e in le-leb (2 + a) (2 + b) (omega (arith, l)) ∙ sym e
    by false e = let l = leb-false a b e in lt-leb (2 + a) (2 + b) (omega (arith, l)) ∙ sym e

behind_two : (a b : ℕ) → 2 + a + b ≡ 2 + (a + b)
behind_two a b = omega arith

-- a heap with a record more
abbrev with_record : Name → List (Option Value) → ℕ → Heap → Heap
with_record class vs n h = record { records = record { class = class; first = length h.fields; count = length vs } ∷ h.records; fields = field_numbers n vs h.fields }

abbrev recorded : Name → List (Option Value) → State Bodied → State Bodied
recorded class vs s = record s { records = s.records ++ record { class = class; first = length s.memory; count = length vs } ∷ []; memory = s.memory ++ vs; fields = s.fields + length vs }

settled_record : (class : Name) (vs : List (Option Value)) (b : Base) (h : Heap) (s : State Bodied) → Settled b h s.memory s.records s.fields → Settled b (with_record class vs (length s.memory) h) (recorded class vs s).memory (recorded class vs s).records (recorded class vs s).fields
settled_record class vs b h s a = record {
  apart = λ k x y p q. apart k x y (where_is k x p) (where_is k y q);
  within = λ k x p. within k x (where_is k x p);
  kept = λ k i. let z = a.kept k i in (get_append s.memory vs k None z.0, λ x p. others k z.0 z.1 x (where_is k x p));
  has = λ r info e. found r info (got_last s.records _ info r e);
  count = let c = a.count in let l = length-append s.records (record { class = class; first = length s.memory; count = length vs } ∷ []) in omega (arith, c, l);
  as_many = let m = a.as_many in let l = numbers_length (length s.memory) vs h.fields in omega (arith, m, l);
  standard = λ k l. numbers_old (length s.memory) vs h.fields k k (a.standard k l);
}
  where
    h' : Heap
    h' = with_record class vs (length s.memory) h

    New : ℕ → Where → Type 0
    New k x = (f : ℕ) × (x ≡ in_field f) × (length s.memory ≤ k) × (k < length s.memory + length vs) × (f + length s.memory ≡ length h.fields + k)

    where_is : (k : ℕ) (x : Where) → Stands b h' k x → Stands b h k x ⊎ New k x
    where_is k (in_cell c) p = inl p
    where_is k (in_field f) p = by (numbers_at (length s.memory) vs h.fields f k p)
      where
        by : (on_top_of h.fields f ≡ Some k) ⊎ ((length s.memory ≤ k) × (k < length s.memory + length vs) × (f + length s.memory ≡ length h.fields + k)) → Stands b h k (in_field f) ⊎ New k (in_field f)
        by (inl q) = inl q
        by (inr q) = inr (f, refl, q.0, q.1, q.2)

    apart : (k : ℕ) (x y : Where) → Stands b h k x ⊎ New k x → Stands b h k y ⊎ New k y → x ≡ y
    apart k x y (inl p) (inl q) = a.apart k x y p q
    apart k x y (inl p) (inr q) = let l = a.within k x p in let m = q.2 in absurd (omega (arith, l, m))
    apart k x y (inr p) (inl q) = let l = a.within k y q in let m = p.2 in absurd (omega (arith, l, m))
    apart k x y (inr p) (inr q) = let l = p.4 in let m = q.4 in p.1 ∙ ap in_field (omega (arith, l, m)) ∙ sym q.1

    within : (k : ℕ) (x : Where) → Stands b h k x ⊎ New k x → k < length (s.memory ++ vs)
    within k x (inl p) = let l = a.within k x p in let m = length-append s.memory vs in omega (arith, l, m)
    within k x (inr p) = let l = p.3 in let m = length-append s.memory vs in omega (arith, l, m)

    others : (k : ℕ) → slice_get s.memory k ≡ Some None → ((x : Where) → Stands b h k x → ⊥) → (x : Where) → Stands b h k x ⊎ New k x → ⊥
    others k e f x (inl p) = f x p
    others k e f x (inr p) = let l = get_below s.memory k None e in let m = p.2 in absurd (omega (arith, l, m))

    found : (r : ℕ) (info : RecordInfo) → (slice_get s.records r ≡ Some info) ⊎ ((r ≡ length s.records) × (info ≡ record { class = class; first = length s.memory; count = length vs })) → HasRecord h' r info
    found r info (inl e) = let x = a.has r info e in record { there = x.there; is = top_more _ h.records r x.there x.is; class = x.class; count = x.count; fields = λ i q. numbers_old (length s.memory) vs h.fields (x.there.first + i) (info.first + i) (x.fields i q) }
    found r info (inr e) = subst (HasRecord h' r) (sym e.1) (record { there = record { class = class; first = length h.fields; count = length vs }; is = top_at _ h.records r (let q = e.0 in let c = a.count in omega (arith, q, c)); class = refl; count = refl; fields = λ i q. numbers_new (length s.memory) vs h.fields i q })

grew_record : (class : Name) (vs : List (Option Value)) (h : Heap) (s : State Bodied) → Grew h s (with_record class vs (length s.memory) h) (recorded class vs s)
grew_record class vs h s = record {
  memory = let m = length-append s.memory vs in omega (arith, m);
  arrays = λ k x e. e;
  procedures = λ k x e. e;
  labels = omega arith;
  fields = λ f k e. numbers_old (length s.memory) vs h.fields f k e;
  fresh = λ f k e. by f k (numbers_at (length s.memory) vs h.fields f k e);
  deep = λ d. d;
}
  where
    by : (f k : ℕ) → (on_top_of h.fields f ≡ Some k) ⊎ ((length s.memory ≤ k) × (k < length s.memory + length vs) × (f + length s.memory ≡ length h.fields + k)) → (on_top_of h.fields f ≡ Some k) ⊎ (length s.memory ≤ k)
    by f k (inl q) = inl q
    by f k (inr q) = inr q.0

module _ (set : Setting) (program : Code) where
  -- the row that makes a record, where the meaning gives cells back that the row has taken off
  record_made : (w : World) (b : Base) (h : Heap) (s : State Bodied) (k j : ℕ) (held : Content) (m : Machine) (c : Coded) (ts : List Target) (class : Name) (vs : List (Option Value)) → slice_get program.instructions m.pc ≡ Some c → does set program c.at c.does m ≡ (doing.make_record class vs >> go_on) (mach b h s k held) →
      Listed program.instructions b s.arrays b.entries [] s.active → Settled b h s.memory s.records s.fields → length b.slots ≡ s.cells - j → Follows set program (Gives b s.active (k + 1)) ts h s m (after (state.make_record c.at class vs s) (λ r. state.◌>>◌ (state.give_back j) (state.give r)))
  record_made w b h s k j held m c ts class vs e d l st q = by (nat_lt (length s.records) most_records && nat_le (s.fields + length vs) most_fields) (d ∙ tests)
    where
      R : state.Given → Heap → State Bodied → Machine → Type 0
      R = Gives b s.active (k + 1)

      m0 : Machine
      m0 = mach b h s k held

      fs : List (Option Value)
      fs = map (field_of s.memory) h.fields

      ref : Content
      ref = machine.a_value (value.Reference (Some (record { 0 = length h.records })))

      m1 : Machine
      m1 = record m0 { held = ref; records = record { class = class; first = length fs; count = length vs } ∷ h.records; fields = onto vs fs }

      row_by : Bool → Next (Unit {0})
      row_by t = doing.after (elim t [ true ↦ doing.on (tt {0}) m1 | false ↦ doing.halted (by_limit limit.Records) m0 ]) (λ z. go_on)

      nf : length fs ≡ length h.fields
      nf = length_map (field_of s.memory) h.fields

      tests : (doing.make_record class vs >> go_on) m0 ≡ row_by (nat_lt (length s.records) most_records && nat_le (s.fields + length vs) most_fields)
      tests = ap (λ n. row_by (nat_lt n most_records && nat_le (length fs + length vs) (2 + most_fields))) st.count ∙ ap (λ n. row_by (nat_lt (length s.records) most_records && nat_le (n + length vs) (2 + most_fields))) (nf ∙ st.as_many)
          ∙ ap (λ n. row_by (nat_lt (length s.records) most_records && nat_le n (2 + most_fields))) (behind_two s.fields (length vs))
          ∙ ap (λ t. row_by (nat_lt (length s.records) most_records && t)) (two_more (s.fields + length vs) most_fields)

      h' : Heap
      h' = with_record class vs (length s.memory) h

      s' : State Bodied
      s' = recorded class vs s

      s2 : State Bodied
      s2 = with_cells (s'.cells - j) s'

      ref' : Content
      ref' = machine.a_value (value.Reference (Some (record { 0 = length s.records })))

      same : doing.on (tt {0}) (record m1 { pc = k + 1 }) ≡ doing.on (tt {0}) (mach b h' s2 (k + 1) ref')
      same =
          ap (λ n. doing.on (tt {0}) (record m1 { pc = k + 1; held = machine.a_value (value.Reference (Some (record { 0 = n }))) })) st.count
          ∙ ap (λ n. doing.on (tt {0}) (record m1 { pc = k + 1; held = ref'; records = record { class = class; first = n; count = length vs } ∷ h.records })) nf
          ∙ ap (λ z. doing.on (tt {0}) (record (mach b h' s2 (k + 1) ref') { cells = map (content_of s.memory) b.slots; fields = onto vs z })) (sym (fields_appended b h s.memory vs s.records s.fields st))
          ∙ ap (λ z. doing.on (tt {0}) (record (mach b h' s2 (k + 1) ref') { cells = map (content_of s.memory) b.slots; fields = z })) (sym (fields_onto s.memory vs h.fields))
          ∙ ap (λ z. doing.on (tt {0}) (record (mach b h' s2 (k + 1) ref') { cells = z })) (sym (cells_appended b h s.memory vs s.records s.fields st))

      by : (t : Bool) → does set program c.at c.does m ≡ row_by t → Follows set program R ts h s m (after (elim t [ true ↦ on (state.a_value (value.Reference (Some (record { 0 = length s.records })))) s' | false ↦ stop (by_limit limit.Records) c.at s ]) (λ r. state.◌>>◌ (state.give_back j) (state.give r)))
      by true d1 = (record {
        heap = h';
        last = mach b h' s2 (k + 1) ref';
        comes = one_row set program m (mach b h' s2 (k + 1) ref') c e (d1 ∙ same);
        is = record { held = ref'; holds = refl; reached = record { is = refl; settled = settled_record class vs b h s st; cells = q; listed = refl } };
        grew = grew_on h s h' s' h' s2 (grew_record class vs h s) (grew_to h' s' s2 refl refl refl refl (λ d. d));
      })
      by false d1 = limit_here set program R ts h s m c limit.Records b k held e d1 l st

  module _ (later : Job → M Bodied state.Given) where
    pub record_alone_follows : (class : Name) (n : ℕ) → PhraseFollows set program later (RecordAlone class n)
    record_alone_follows class n = record { by = by }
      where
        unchanged : (r : Outcome Bodied state.Given) (b : Base) (k : ℕ) (w : World) (h : Heap) (s : State Bodied) (m : Machine) → Follows set program (Gives b s.active (k + 1)) w.targets h s m (after r (λ g. state.◌>>◌ (state.give_back 0) (state.give g))) → Follows set program (Gives b s.active (k + 1)) w.targets h s m r
        unchanged (on g s1) b k w h s m f = let z : s1.cells - 0 ≡ s1.cells = omega arith in subst (λ i. Follows set program (Gives b s.active (k + 1)) w.targets h s m (on g (with_cells i s1))) z f
        unchanged (jump l s1) b k w h s m f = f
        unchanged (stop y at s1) b k w h s m f = f

        by : (u : Use) (at : Place) → CodeDoes set program u at (RecordAlone class n) (go set later (RecordAlone class n) u at)
        by for_place at w b h s c e mode k held code wanted l ft = tt
        by for_value at w b h s c e mode k held code wanted l ft = unchanged (state.make_record at class (replicate n None) s) b k w h s (mach b h s k held)
            (record_made w b h s k 0 held (mach b h s k held) (record { at = at; does = instr.MakeRecordAlone class n }) w.targets class (replicate n None) code.0 refl l.agrees.listed l.agrees.settled (let q = l.agrees.cells in omega (arith, q)))

    -- ---- a record with its values

    values_are : (us : List Value) (m : Machine) → values_in (map machine.a_value us) m ≡ doing.on (map (λ u. Some u) us) m
    values_are [] m = refl
    values_are (u ∷ us) m = ap (λ r. doing.after r (λ vs. doing.give (Some u ∷ vs))) (values_are us m)

    -- so many values lie on the stacks
    record ValuesOn (b : Base) (active : List state.Entry) (next count : ℕ) (vs : List (Option Value)) (h : Heap) (s : State Bodied) (m : Machine) : Type 0 where
      us : List Value
      are : vs ≡ map (λ u. Some u) us
      stacked : Stacked b active next (map machine.a_value us) h s m
      many : length us ≡ count

    values_follow : (values : Phrases) → EachDoes set program later values → (types : List ValueType) (at : Place) (w : World) (b : Base) (h : Heap) (s : State Bodied) (c : Context) (e : Env) (k : ℕ) (held : Content) → HasAt program.instructions k (code_fields c at k types values) → At program.instructions w b h s c e → Fits program.marks w b (phrases_marks values) →
        Follows set program (ValuesOn b s.active (k + fields_size (known c) values) (phrase_count values)) w.targets h s (mach b h s k held) (go_fields set later values at types e s)
    values_follow no_phrases p [] at w b h s c e k held code l ft = follows_on set program (ValuesOn b s.active (k + 0) 0) w.targets h s (mach b h s k held) (mach b h s k held) [] already (record { us = []; are = refl; stacked = record { held = held; is = ap (λ n. mach b h s n held) (omega arith); settled = l.agrees.settled; cells = let q = l.agrees.cells in omega (arith, q); listed = refl }; many = refl })
    values_follow no_phrases p (t ∷ types) at w b h s c e k held code l ft = tt
    values_follow (phrase_and a rest) p [] at w b h s c e k held code l ft = tt
    values_follow (phrase_and a rest) (does_and p ps) (t ∷ types) at w b h s c e k held code l ft =
        let k1 = k + size (known c) a in
        let kn = k + (size (known c) a + (2 + fields_size (known c) rest)) in
        let R = ValuesOn b s.active kn (1 + phrase_count rest) in
        let has1 = behind program.instructions c at the_value k a _ code in
        follows_assoc set program R w.targets h s (mach b h s k held) (state.value_of at (go set later a for_value at e) s) (state.made at t) (λ v s1. after (state.take_cells 1 at s1) (λ z s2. after (go_fields set later rest at types e s2) (λ vs. state.give (Some v ∷ vs))))
        (follows_then set program (λ v. Reached b s.active k1 (machine.a_value v)) R w.targets h s (mach b h s k held) (state.value_of at (go set later a for_value at e) s) (λ v s1. after (state.made at t v s1) (λ u s2. after (state.take_cells 1 at s2) (λ z s3. after (go_fields set later rest at types e s3) (λ vs. state.give (Some u ∷ vs)))))
        (value_by set program later a p at w b h s c e k held (has_front program.instructions k _ _ code) l (fits_left (marks a) (phrases_marks rest) ft))
        (λ v h1 s1 m1 r g. let x = machine.a_value v in let l1 = at_reached set program w b h s c e k1 x h1 s1 m1 l g r in
        follows_at set program R w.targets h1 s1 m1 (mach b h1 s1 k1 x) _ r.is
        (alike_then set program R w.targets b h1 s1 k1 x (mach b h1 s1 k1 x) (record { at = at; does = instr.Make t }) (λ u. doing.hold (machine.a_value u) >> go_on) (λ u s2. after (state.take_cells 1 at s2) (λ z s3. after (go_fields set later rest at types e s3) (λ vs. state.give (Some u ∷ vs)))) (state.made at t v s1) (doing.made t v (mach b h1 s1 k1 x)) has1.0 (shape (doing.made t v (mach b h1 s1 k1 x))) l1.agrees.listed l1.agrees.settled
        (made_alike b h1 s1 (mach b h1 s1 k1 x) at t v l1.agrees.settled refl)
        (λ u d. let y = machine.a_value u in let s2 = with_cells (s1.cells + 1) s1 in
        follows_from set program R w.targets h1 s1 h1 s1 (mach b h1 s1 k1 x) (mach b h1 s1 (k1 + 1) y) _ (one_row set program (mach b h1 s1 k1 x) (mach b h1 s1 (k1 + 1) y) _ has1.0 d) (grew_here h1 s1)
        (push_then set program R w.targets w b h1 s1 (k1 + 1) y at (λ z s3. after (go_fields set later rest at types e s3) (λ vs. state.give (Some u ∷ vs))) has1.1.0 l1.agrees
        (follows_then set program (ValuesOn (pushed y b) s1.active (k1 + 1 + 1 + fields_size (known c) rest) (phrase_count rest)) R w.targets h1 s2 (mach (pushed y b) h1 s1 (k1 + 1 + 1) y) (go_fields set later rest at types e s2) (λ vs. state.give (Some u ∷ vs))
        (values_follow rest ps types at w (pushed y b) h1 s2 c e (k1 + 1 + 1) y (subst (λ n. HasAt program.instructions (k1 + 1 + 1) (code_fields c at n types rest)) (again k (size (known c) a)) has1.1.1) (at_pushed program.instructions w b h1 s1 c e y l1) (fits_pushed y (fits_right (marks a) (phrases_marks rest) ft)))
        (λ vs h3 s3 m3 q g3. let st = q.stacked in follows_on set program R w.targets h3 s3 m3 m3 (Some u ∷ vs) already
        (record {
          us = u ∷ q.us;
          are = ap (λ z. Some u ∷ z) q.are;
          many = let z = q.many in omega (arith, z);
          stacked = record { held = st.held; is = st.is ∙ ap (λ n. mach (pushes (map machine.a_value q.us) (pushed y b)) h3 s3 n st.held) (same (size (known c) a) (fields_size (known c) rest) k); settled = settled_below y b h3 s3.memory s3.records s3.fields st.settled; cells = let z = st.cells in omega (arith, z); listed = st.listed ∙ r.listed };
        }))))))))
      where
        same : (n o i : ℕ) → i + n + 1 + 1 + o ≡ i + (n + (2 + o))
        same n o i = omega arith

        again : (i n : ℕ) → i + (n + 2) ≡ i + n + 1 + 1
        again i n = omega arith

        shape : (r : Next Value) → doing.after (doing.after (doing.after r (λ u. doing.give (machine.a_value u))) doing.hold) (λ z. go_on) ≡ doing.after r (λ u. doing.hold (machine.a_value u) >> go_on)
        shape (doing.on u m) = refl
        shape (doing.ended m) = refl
        shape (doing.halted u m) = refl

    some_length : (us : List Value) → length (map (λ u. Some u) us) ≡ length us
    some_length us = length_map (λ u. Some u) us

    pub record_follows : (class : Name) (types : List ValueType) (values : Phrases) → EachDoes set program later values → PhraseFollows set program later (Record class types values)
    record_follows class types values ps = record { by = by }
      where
        by : (u : Use) (at : Place) → CodeDoes set program u at (Record class types values) (go set later (Record class types values) u at)
        by for_place at w b h s c e mode k held code wanted l ft = tt
        by for_value at w b h s c e mode k held code wanted l ft =
            let k1 = k + fields_size (known c) values in
            let has1 = has_back program.instructions k (fields_size (known c) values) (code_fields c at k types values) _ (fields_sized c at k types values).by code in
            ends_at set program b s.active (k1 + 1) (k + (fields_size (known c) values + 1)) w.targets h s (mach b h s k held) (go set later (Record class types values) for_value at e s) (omega arith)
            (follows_then set program (ValuesOn b s.active k1 (phrase_count values)) (Gives b s.active (k1 + 1)) w.targets h s (mach b h s k held) (go_fields set later values at types e s) (λ vs s1. after (state.make_record at class vs s1) (λ r. state.◌>>◌ (state.give_back (length vs)) (state.give r)))
            (values_follow values ps types at w b h s c e k held (has_front program.instructions k _ _ code) l ft)
            (λ vs h1 s1 m1 q g.
            let st = q.stacked in
            let xs = map machine.a_value q.us in
            let m0 = mach (pushes xs b) h1 s1 k1 st.held in
            let nx : length xs ≡ length q.us = length_map machine.a_value q.us in
            let nv : length vs ≡ length q.us = ap length q.are ∙ some_length q.us in
            let len : phrase_count values ≡ length xs = sym q.many ∙ sym nx in
            let s2 = with_cells (s1.cells - length vs) s1 in
            let l2 = at_on program.instructions w b h h1 s s2 c e (grew_on h s h1 s1 h1 s2 g (grew_to h1 s1 s2 refl refl refl refl (λ d. d))) st.settled (let z = st.cells in omega (arith, z, nx, nv)) st.listed l in
            gives_as set program b s1.active s.active (k1 + 1) w.targets h1 s1 m1 _ st.listed
            (follows_at set program (Gives b s1.active (k1 + 1)) w.targets h1 s1 m1 m0 _ st.is
            (record_made w b h1 s1 k1 (length vs) st.held m0 (record { at = at; does = instr.MakeRecord class (phrase_count values) }) w.targets class vs has1.0
            (ap (λ z. doing.after (doing.after (doing.after (pop_all z m0) values_in) (doing.make_record class)) (λ z. go_on)) len
            ∙ ap (λ z. doing.after (doing.after (doing.after z values_in) (doing.make_record class)) (λ z. go_on)) (popped_is xs [] b h1 s1 k1 st.held ∙ ap (λ z. doing.on z (mach b h1 s1 k1 st.held)) (append-nil xs))
            ∙ ap (λ z. doing.after (doing.after z (doing.make_record class)) (λ z. go_on)) (values_are q.us (mach b h1 s1 k1 st.held))
            ∙ ap (λ z. doing.after (doing.make_record class z (mach b h1 s1 k1 st.held)) (λ z. go_on)) (sym q.are))
            l2.agrees.listed st.settled l2.agrees.cells))))
