-- Arrays: an element whose subscripts are within their bounds is there.
use Rattle.std.proofs.Common.{◌≡◌, ℕ, zero, suc, ◌+◌, ◌<◌, ℤ, pos, negsuc, ◌+ℤ◌, ◌-ℤ◌, ◌≤ℤ◌, ◌<ℤ◌, List, [], ◌∷◌, ◌++◌, length, map, refl, sym, subst, ap, ◌∙◌, arith, lt-ltb}
use Rattle.std.proofs.lemmas.Int.{ints}
use Rattle.std.proofs.lemmas.Float.{T_from_true}
use Rattle.std.proofs.lemmas.Nat.{mul-add-lt}
use Rattle.std.proofs.lemmas.List.{length-replicate}
use Rattle.std.specs.Int.Signed.{le_z_yes}
use Rattle.std.specs.Prelude.{Option, Some, None, Bool, true, false, ⊤, int_le, nat_lt, ◌&&◌, slice_get, slice_set, replicate}
use Rattle.value_ops.specs.declared.places.Place.{Place}
use Rattle.value_ops.specs.declared.faults.Fault.TheVariants as fault
use Rattle.algolw_typing.specs.Types.{ValueType}
use Rattle.program_meaning.specs.State.{State, halt, wrong, ArrayInfo, array_at, the_array, filled_in, is_within, all_within, at_least_zero, extent, elements, offset, element_of}
use Rattle.program_meaning.specs.Copying.{stars}
use Rattle.program_meaning.specs.Environments.{Bodied}
use Rattle.program_soundness.specs.Kinds.{Kind, kind_of, Want, use_of, IsVariable, Table}
use Rattle.program_soundness.proofs.Lists.{get_behind, get_same, each_set, length_set, still_set}
use Rattle.program_soundness.proofs.Worlds.{Live, ArrayKind, World, Suits, CellSuits, InfoSuits, IsMade, StateSuits}
use Rattle.program_soundness.proofs.Sound.{Sound, sound_bind, sound_give, sound_fault, sound_test, sound_true}
use Rattle.program_soundness.proofs.Variables.{some_inj, more_memory, holds_more, sound_variable}

-- ---- offsets

zero_less : (d e : ℤ) → pos 0 ≤ℤ d → d <ℤ e → at_least_zero d < at_least_zero e
zero_less (pos a) (pos b) p q = omega (arith, ints, q)
zero_less (pos a) (negsuc b) p q = absurd (q.lt)
zero_less (negsuc a) e p q = absurd (p.le)

le_read : (a b : ℤ) → int_le a b ≡ true → a ≤ℤ b
le_read a b e = le_z_yes (T_from_true (int_le a b) e)

extent_within : (l h i : ℤ) → int_le l i ≡ true → int_le i h ≡ true → at_least_zero (i -ℤ l) < at_least_zero (h -ℤ l +ℤ pos 1)
extent_within l h i p q =
    let a = le_read l i p in
    let b = le_read i h q in
    zero_less (i -ℤ l) (h -ℤ l +ℤ pos 1) (omega (arith, ints, a)) (omega (arith, ints, b))

pub both_true : (a b : Bool) → (a && b) ≡ true → (a ≡ true) × (b ≡ true)
both_true true b e = (refl, e)
both_true false b e = absurd (cc e)

-- the subscripts are all given
abbrev pub AreGiven : List (Option ℤ) → Type 0
AreGiven [] = ⊤
AreGiven (Some i ∷ rest) = AreGiven rest
AreGiven (None ∷ rest) = ⊥

offset_within : (bounds : List (ℤ × ℤ)) (subscripts : List (Option ℤ)) → length subscripts ≡ length bounds → AreGiven subscripts → all_within bounds subscripts ≡ true → offset bounds subscripts < elements bounds
offset_within [] [] e g w = omega arith
offset_within [] (i ∷ is) e g w = absurd (omega (arith, e))
offset_within (b ∷ bs) [] e g w = absurd (omega (arith, e))
offset_within (b ∷ bs) (None ∷ is) e g w = absurd g
offset_within (b ∷ bs) (Some i ∷ is) e g w =
    let w2 = both_true (is_within b i) (all_within bs is) w in
    let w3 = both_true (int_le b.0 i) (int_le i b.1) w2.0 in
    let q = mul-add-lt (at_least_zero (i -ℤ b.0)) (elements bs) (offset bs is) (extent b) (extent_within b.0 b.1 i w3.0 w3.1) (offset_within bs is (omega (arith, e)) g w2.1) in
    omega (arith, q)

pub filled_length : (given more : List (Option ℤ)) → length (filled_in given more) ≡ length given
filled_length [] more = refl
filled_length (Some i ∷ given) more = ap suc (filled_length given more)
filled_length (None ∷ given) (i ∷ more) = ap suc (filled_length given more)
filled_length (None ∷ given) [] = ap suc (filled_length given [])

pub filled_given : (given : List (Option ℤ)) (is : List ℤ) → stars given ≡ length is → AreGiven (filled_in given (map (λ i. Some i) is))
filled_given [] is e = tt
filled_given (Some i ∷ given) is e = filled_given given is e
filled_given (None ∷ given) [] e = absurd (omega (arith, e))
filled_given (None ∷ given) (i ∷ is) e = filled_given given is (omega (arith, e))

pub filled_stars : (given more : List (Option ℤ)) → stars given ≡ length more → stars (filled_in given more) ≡ stars more
filled_stars [] [] e = refl
filled_stars [] (i ∷ more) e = absurd (omega (arith, e))
filled_stars (Some i ∷ given) more e = filled_stars given more e
filled_stars (None ∷ given) [] e = absurd (omega (arith, e))
filled_stars (None ∷ given) (Some i ∷ more) e = filled_stars given more (omega (arith, e))
filled_stars (None ∷ given) (None ∷ more) e = ap (λ n. 1 + n) (filled_stars given more (omega (arith, e)))

module _ (table : Table) where
  info_found : {live : Live} {W : World} (w : Place) (a : ArrayKind) (o : Option (Option ArrayInfo)) → IsMade table o → InfoSuits table W a o → Sound table live W (λ V info. InfoSuits table V a (Some (Some info))) (array_at w o)
  info_found w a None m h = absurd m
  info_found w a (Some None) m h = absurd m
  info_found w a (Some (Some info)) m h = sound_give table info h

  pub sound_the_array : {live : Live} {W : World} (w : Place) (k : ℕ) (a : ArrayKind) → live.arrays k ≡ true → slice_get W.arrays k ≡ Some a → Sound table live W (λ V info. InfoSuits table V a (Some (Some info))) (the_array w k)
  sound_the_array w k a l e = record { by = λ s p. (info_found w a (slice_get s.arrays k) (p.made_arrays k l) (p.infos k a e)).by s p }

  pub sound_element : {live : Live} {W : World} (w : Place) (k : ℕ) (a : ArrayKind) (subscripts : List (Option ℤ)) (want : Want) → live.arrays k ≡ true → slice_get W.arrays k ≡ Some a
      → IsVariable a.kind want → length subscripts ≡ a.dimensions → AreGiven subscripts → Sound table live W (Suits want) (element_of (use_of want) w k subscripts)
  sound_element w k a subscripts want l e i n g = sound_bind table (sound_the_array w k a l e) (λ V f info p.
      sound_test table (all_within info.bounds subscripts)
      (λ t.
      let b = offset_within info.bounds subscripts (n ∙ sym p.1) g t in
      sound_true table (halt wrong w) (nat_lt (offset info.bounds subscripts) (elements info.bounds)) (lt-ltb (offset info.bounds subscripts) (elements info.bounds) b) (sound_variable table w a.kind (info.first + offset info.bounds subscripts) want i (p.2 (offset info.bounds subscripts) b)))
      (sound_fault table fault.SubscriptOutsideBounds w))

  -- ---- an array is made

  pub holds_array : {W : World} {made : ℕ → Bool} (s : State Bodied) (k : ℕ) (t : ValueType) (bounds : List (ℤ × ℤ)) → StateSuits table W made s
      → slice_get W.arrays k ≡ Some (record { kind = kind_of t; dimensions = length bounds })
      → StateSuits table (more_memory W (replicate (elements bounds) (kind_of t))) made (record s { memory = s.memory ++ replicate (elements bounds) None; arrays = slice_set s.arrays k (Some (record { type = t; bounds = bounds; first = length s.memory })) })
  holds_array {W = W} {made = made} s k t bounds h e =
      let kinds = replicate (elements bounds) (kind_of t) in
      let V = more_memory W kinds in
      let m = holds_more table s kinds (replicate (elements bounds) None) h (length-replicate (elements bounds) None ∙ sym (length-replicate (elements bounds) (kind_of t))) (λ j a p. none_suits V a (elements bounds) (kind_of t) j p) in
      let info : ArrayInfo = record { type = t; bounds = bounds; first = length s.memory } in
      record {
        memory_count = m.memory_count;
        standard = m.standard;
        arrays_count = length_set s.arrays k (Some info) ∙ m.arrays_count;
        cells = m.cells;
        infos = each_set (InfoSuits table V) W.arrays s.arrays k (Some info) m.infos (λ a q. placed V a (sym e ∙ q) (λ i b. subst (λ n. slice_get V.memory (n + i) ≡ Some (kind_of t)) (sym h.memory_count) (get_behind W.memory kinds i ∙ get_same (elements bounds) i (kind_of t) b)));
        made_arrays = λ j q. still_set (IsMade table) (Some info) tt s.arrays k j (m.made_arrays j q);
        same_procedures = m.same_procedures;
        bodies = m.bodies;
        same_records = m.same_records;
        fields = m.fields;
      }
    where
      none_suits : (V : World) (a : Kind) (n : ℕ) (kind : Kind) (j : ℕ) → slice_get (replicate n kind) j ≡ Some a → CellSuits table V a (slice_get (replicate n None) j)
      none_suits V a zero kind j p = absurd (cc p)
      none_suits V a (suc n) kind zero p = tt
      none_suits V a (suc n) kind (suc j) p = none_suits V a n kind j p

      placed : (V : World) (a : ArrayKind) → Some (record { kind = kind_of t; dimensions = length bounds }) ≡ Some a → ((i : ℕ) → i < elements bounds → slice_get V.memory (length s.memory + i) ≡ Some (kind_of t)) → InfoSuits table V a (Some (Some (record { type = t; bounds = bounds; first = length s.memory })))
      placed V a q f = subst (λ b. InfoSuits table V b (Some (Some (record { type = t; bounds = bounds; first = length s.memory })))) (some_inj q) (refl, refl, f)
