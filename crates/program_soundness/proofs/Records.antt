-- Records and their fields.
use Rattle.std.proofs.Common.{◌≡◌, ℕ, zero, suc, ◌+◌, ◌<◌, List, [], ◌∷◌, ◌++◌, length, refl, sym, subst, ap, ◌∙◌, lt-ltb}
use Rattle.std.specs.Prelude.{Option, Some, None, Bool, true, false, ⊤, nat_lt, nat_le, nat_eq, ◌&&◌, ◌||◌, slice_get, replicate}
use Rattle.std.proofs.lemmas.Bool.{eqb-true}
use Rattle.std.proofs.lemmas.Option.{slice_get_within}
use Rattle.value_ops.specs.declared.places.Place.{Place}
use Rattle.value_ops.specs.declared.faults.Fault.TheVariants as fault
use Rattle.value_ops.specs.declared.values.Value.{Value}
use Rattle.value_ops.specs.declared.values.Value.TheVariants as value
use Rattle.value_ops.specs.declared.values.RecordId.{RecordId}
use Rattle.algolw_typing.specs.Types.{is_place}
use Rattle.program_meaning.specs.Phrases.{Name}
use Rattle.program_meaning.specs.State as state
use Rattle.program_meaning.specs.State.{State, Outcome, M, on, stop, by_limit, Given, RecordInfo, ◌>>=◌, give, halt, wrong, the_record, make_record, is_place_of, field_in, field_of, is_of_class, variable, most_records, most_fields}
use Rattle.program_meaning.specs.Environments.{Bodied}
use Rattle.program_soundness.specs.Kinds.{Kind, a_truth, a_reference, Want, a_value, use_of, IsVariable, Table}
use Rattle.program_soundness.specs.Fits.{field_kind}
use Rattle.program_soundness.proofs.Lists.{get_front, get_last, get_behind}
use Rattle.program_soundness.proofs.Worlds.{Live, World, Extends, ReferenceSuits, Suits, CellSuits, RecordSuits, StateSuits}
use Rattle.program_soundness.proofs.Growing.{cell_grows, info_grows, living_grows, record_grows}
use Rattle.program_soundness.proofs.Sound.{Good, Sound, sound_bind, sound_give, sound_fault, sound_test, sound_true}
use Rattle.program_soundness.proofs.Variables.{some_inj, more_memory, grows_memory, holds_more, sound_variable, sound_the_record}
use Rattle.program_soundness.proofs.Arrays.{both_true}

-- ---- places

-- the same place
pub place_read : (p q : Place) → is_place p q ≡ true → p ≡ q
place_read p q e =
    let h = both_true (nat_eq p.card q.card) (nat_eq p.column q.column) e in
    let a : p.card ≡ q.card = eqb-true p.card q.card h.0 in
    let b : p.column ≡ q.column = eqb-true p.column q.column h.1 in
    ap (λ c. record p { card = c }) a ∙ ap (λ c. record { card = q.card; column = c }) b

either_false : (b : Bool) → (b || false) ≡ true → b ≡ true
either_false true e = refl
either_false false e = absurd (cc e)

module _ (table : Table) where
  -- the fields of a record are variables
  pub sound_field : {live : Live} {W : World} (w class : Place) (position : ℕ) (kind : Kind) (r : Option RecordId) (want : Want) → field_kind (table.fields class) position ≡ Some kind → IsVariable kind want
      → ReferenceSuits W r → Sound table live W (Suits want) (field_of (use_of want) w class position r)
  sound_field w class position kind None want e i h = sound_fault table fault.ReferenceNull w
  sound_field {live = live} {W = W} w class position kind (Some r) want e i h = record {
    by = λ s p. (sound_bind table (sound_the_record table {Q = λ V info. RecordSuits table V info} w r h.0 h.1 (p.fields r.0 h.0 h.1)) (λ V g info q.
        sound_test table (is_place_of class info)
        (λ t.
        let f = q.fields position kind (subst (λ c. field_kind (table.fields c) position ≡ Some kind) (place_read class info.class.place (either_false (is_place class info.class.place) t)) e) in
        sound_true table (halt wrong w) (nat_lt position info.count) (lt-ltb position info.count f.1) (sound_variable table w kind (info.first + position) want i f.0))
        (sound_fault table fault.WrongRecordClass w))).by s p;
  }

  pub sound_class : {live : Live} {W : World} (w class : Place) (r : Option RecordId) → ReferenceSuits W r → Sound table live W (Suits (a_value a_truth)) (is_of_class w class r)
  sound_class w class None h = sound_give table _ tt
  sound_class w class (Some r) h = sound_bind table (sound_the_record table {Q = λ V info. ⊤} w r h.0 h.1 tt) (λ V g info q. sound_give table _ tt)

  -- ---- a record is made

  -- a world with a record more
  abbrev more_records : World → RecordInfo → World
  more_records W info = record W { records = W.records ++ info ∷ [] }

  grows_records : (W : World) (info : RecordInfo) → Extends W (more_records W info)
  grows_records W info = record { memory = λ k a p. p; arrays = λ k a p. p; procedures = λ k a p. p; records = λ k a p. get_front W.records (info ∷ []) k a p }

  last_or : {A : Type 0} (P : A → Type 0) (xs : List A) (y : A) → ((k : ℕ) (a : A) → slice_get xs k ≡ Some a → P a) → P y → (k : ℕ) (a : A) → slice_get (xs ++ y ∷ []) k ≡ Some a → P a
  last_or P [] y f p zero a q = subst P (some_inj q) p
  last_or P [] y f p (suc k) a q = absurd (cc q)
  last_or P (x ∷ xs) y f p zero a q = f zero a q
  last_or P (x ∷ xs) y f p (suc k) a q = last_or P xs y (λ j b r. f (suc j) b r) p k a q

  holds_record : {W : World} {made : ℕ → Bool} (s : State Bodied) (info : RecordInfo) → StateSuits table W made s → RecordSuits table W info → StateSuits table (more_records W info) made (record s { records = s.records ++ info ∷ [] })
  holds_record {W = W} s info h f = let g = grows_records W info in record {
    memory_count = h.memory_count;
    standard = h.standard;
    arrays_count = h.arrays_count;
    cells = λ k a p. cell_grows table g a (slice_get s.memory k) (h.cells k a p);
    infos = λ k a p. info_grows table g a (slice_get s.arrays k) (h.infos k a p);
    made_arrays = h.made_arrays;
    same_procedures = h.same_procedures;
    bodies = λ k p q. living_grows table g p (h.bodies k p q);
    same_records = ap (λ rs. rs ++ info ∷ []) h.same_records;
    fields = λ k i p. record_grows table g i (last_or (RecordSuits table W) W.records info h.fields f k i p);
  }

  -- values for fields of these kinds
  abbrev pub FieldsSuit : World → List Kind → List (Option Value) → Type 0
  FieldsSuit W [] [] = ⊤
  FieldsSuit W (k ∷ ks) [] = ⊥
  FieldsSuit W [] (v ∷ vs) = ⊥
  FieldsSuit W (k ∷ ks) (v ∷ vs) = CellSuits table W k (Some v) × FieldsSuit W ks vs

  fields_count : (W : World) (ks : List Kind) (vs : List (Option Value)) → FieldsSuit W ks vs → length vs ≡ length ks
  fields_count W [] [] h = refl
  fields_count W (k ∷ ks) [] h = absurd h
  fields_count W [] (v ∷ vs) h = absurd h
  fields_count W (k ∷ ks) (v ∷ vs) h = ap suc (fields_count W ks vs h.1)

  fields_cells : {W V : World} (g : Extends W V) (ks : List Kind) (vs : List (Option Value)) → FieldsSuit W ks vs → (j : ℕ) (a : Kind) → slice_get ks j ≡ Some a → CellSuits table V a (slice_get vs j)
  fields_cells g [] vs h j a p = absurd (cc p)
  fields_cells g (k ∷ ks) [] h j a p = absurd h
  fields_cells {V = V} g (k ∷ ks) (v ∷ vs) h zero a p = subst (λ b. CellSuits table V b (Some v)) (some_inj p) (cell_grows table g k (Some v) h.0)
  fields_cells g (k ∷ ks) (v ∷ vs) h (suc j) a p = fields_cells g ks vs h.1 j a p

  pub none_fields : (W : World) (ks : List Kind) → FieldsSuit W ks (replicate (length ks) None)
  none_fields W [] = tt
  none_fields W (k ∷ ks) = (tt, none_fields W ks)

  made_good : (live : Live) (W : World) (w : Place) (class : Name) (kinds : List Kind) (values : List (Option Value)) (s : State Bodied) (b : Bool) → table.fields class.place ≡ Some kinds → FieldsSuit W kinds values → StateSuits table W live.arrays s
      → Good table live W (Suits (a_value a_reference)) (elim b [
        | true ↦ on (state.a_value (value.Reference (Some (record { 0 = length s.records })))) (record s { records = s.records ++ record { class = class; first = length s.memory; count = length values } ∷ []; memory = s.memory ++ values; fields = s.fields + length values })
        | false ↦ stop (by_limit Rattle.value_ops.specs.declared.faults.Limit.TheVariants.Records) w s
      ])
  made_good live W w class kinds values s true e f h =
      let info : RecordInfo = record { class = class; first = length s.memory; count = length values } in
      let g = grows_memory W kinds in
      let V = more_memory W kinds in
      let m = holds_more table {W = W} {made = live.arrays} s kinds values h (fields_count W kinds values f) (fields_cells g kinds values f) in
      let suits : RecordSuits table V info = record { fields = λ n kind q. (subst (λ j. slice_get V.memory (j + n) ≡ Some kind) (sym h.memory_count) (get_behind W.memory kinds n ∙ subst (λ o. field_kind o n ≡ Some kind) e q), subst (λ k. n < k) (sym (fields_count W kinds values f)) (slice_get_within kinds n kind (subst (λ o. field_kind o n ≡ Some kind) e q))) } in
      let there : slice_get (W.records ++ info ∷ []) (length s.records) ≡ Some info = subst (λ (rs : List RecordInfo). slice_get (W.records ++ info ∷ []) (length rs) ≡ Some info) (sym h.same_records) (get_last W.records [] info) in
      (more_records V info, record { memory = g.memory; arrays = g.arrays; procedures = g.procedures; records = (grows_records V info).records }, holds_record (record s { memory = s.memory ++ values }) info m suits, (info, there))
  made_good live W w class kinds values s false e f h = λ q. cc

  pub sound_make_record : {live : Live} {W : World} (w : Place) (class : Name) (kinds : List Kind) (values : List (Option Value)) → table.fields class.place ≡ Some kinds → FieldsSuit W kinds values
      → Sound table live W (Suits (a_value a_reference)) (make_record w class values)
  sound_make_record {live = live} {W = W} w class kinds values e f = record { by = λ s h. made_good live W w class kinds values s (nat_lt (length s.records) most_records && nat_le (s.fields + length values) most_fields) e f h }
