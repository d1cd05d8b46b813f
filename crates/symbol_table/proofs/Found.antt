-- What a name stands for in the contexts is what its number stands for.
use Rattle.std.proofs.Common.{◌≡◌, ◌≢◌, ℕ, ◌<◌, ◌==◌, List, [], ◌∷◌, length, map, Option, Some, None, Bool, true, false, refl, sym, ap, ◌∙◌, subst}
use Rattle.std.specs.List.{All}
use Rattle.std.proofs.lemmas.Bool.{eqb-true, eq-eqb, false≢true}
use Rattle.std.proofs.lemmas.List.Elements.{All-head, All-tail}
use Rattle.value_ops.specs.declared.places.Place.{Place}
use Rattle.algolw_typing.specs.Types.{is_place}
use Rattle.program_meaning.specs.Translating as translating
use Rattle.phrase_code.specs.Sizes as kinds
use Rattle.phrase_code.specs.Sizes.{kind_at}
use Rattle.stack_code.specs.CodeView.{class_place, formal_view, kind_view, kinds_view}
use Rattle.stack_code.specs.Linking.{instruction_at}
use Rattle.phrase_code.specs.Coding as coding
use Rattle.phrase_code.specs.Coding.{Stand, known_of, kind_of_stand, stand_at}
use Rattle.phrase_code.proofs.Sizes.{kind_found}
use Rattle.algolw_typing.specs.ProgramView.{numbered}
use Rattle.faultless_programs.proofs.Agreeing.{same_place}
use Rattle.compilable_programs.specs.Compiled.{AreApart}
use Rattle.symbol_table.specs.declared.here.Here.{Here}
use Rattle.symbol_table.specs.declared.standings.Standing.{Standing}
use Rattle.symbol_table.specs.declared.standings.Standing.TheVariants as standing
use Rattle.symbol_table.specs.Standings.{Names, standing_of}
use Rattle.symbol_table.specs.Contexts.{declared_for, stand_for, IsOnce, Scene, SceneFits, StandingFits, coding_context, declared_by, known_and, knowns, numbers_in, phrase_context, place_of, stand, stand_and, stand_by, stands}
use Rattle.symbol_table.specs.Symbols.{formals_of, types_of}
use Rattle.symbol_table.proofs.Places.{numbered_place, other_number}

-- ---- code

past_stand : (x : Stand) (p : Place) (more : List Stand) → is_place x.place p ≡ false → stand_at (x ∷ more) p ≡ stand_at more p
past_stand x p more o = ap (λ b. elim b [ true ↦ Some x | false ↦ stand_at more p ]) o

alone_stand : (x : Stand) (p : Place) (more : List Stand) → stand_at more p ≡ None → stand_at (x ∷ more) p ≡ stand_at (x ∷ []) p
alone_stand x p more n = ap (λ (r : Option Stand). elim (is_place x.place p) [ true ↦ Some x | false ↦ r ]) n

-- one that is put in front at another place
stand_past : (s : Scene) (ts : List ℕ) (q p : Place) (x : Standing) (more : List Stand) → is_place q p ≡ false → stand_at (stand_and s ts q x more) p ≡ stand_at more p
stand_past s ts q p (standing.Variable t e) more o = past_stand (stand q kinds.a_variable e 0) p more o
stand_past s ts q p (standing.NameFormal t e) more o = past_stand (stand q kinds.a_name_formal e 0) p more o
stand_past s ts q p (standing.Control e) more o = past_stand (stand q kinds.a_variable e 0) p more o
stand_past s ts q p (standing.Array t e) more o = past_stand (stand q kinds.an_array e 0) p more o
stand_past s ts q p (standing.ProcedureFormal t e) more o = past_stand (stand q kinds.a_procedure_formal e 0) p more o
stand_past s ts q p (standing.Procedure x) more o = past_stand (stand q (kinds.a_procedure (map (formal_view s.given) (formals_of s.symbols x))) (record { level = x.level; position = 0 }) (instruction_at ts x.target)) p more o
stand_past s ts q p (standing.Label e target) more o = past_stand (stand q kinds.a_label e (instruction_at ts target)) p more o
stand_past s ts q p standing.Unknown more o = refl
stand_past s ts q p (standing.Standard n) more o = refl
stand_past s ts q p (standing.Class c) more o = refl
stand_past s ts q p (standing.Field c n t) more o = refl

-- one that is put in front of others, none of which is at its place
stand_alone : (s : Scene) (ts : List ℕ) (p : Place) (x : Standing) (more : List Stand) → stand_at more p ≡ None → stand_at (stand_and s ts p x more) p ≡ stand_by s ts p x
stand_alone s ts p (standing.Variable t e) more n = alone_stand (stand p kinds.a_variable e 0) p more n
stand_alone s ts p (standing.NameFormal t e) more n = alone_stand (stand p kinds.a_name_formal e 0) p more n
stand_alone s ts p (standing.Control e) more n = alone_stand (stand p kinds.a_variable e 0) p more n
stand_alone s ts p (standing.Array t e) more n = alone_stand (stand p kinds.an_array e 0) p more n
stand_alone s ts p (standing.ProcedureFormal t e) more n = alone_stand (stand p kinds.a_procedure_formal e 0) p more n
stand_alone s ts p (standing.Procedure x) more n = alone_stand (stand p (kinds.a_procedure (map (formal_view s.given) (formals_of s.symbols x))) (record { level = x.level; position = 0 }) (instruction_at ts x.target)) p more n
stand_alone s ts p (standing.Label e target) more n = alone_stand (stand p kinds.a_label e (instruction_at ts target)) p more n
stand_alone s ts p standing.Unknown more n = n
stand_alone s ts p (standing.Standard k) more n = n
stand_alone s ts p (standing.Class c) more n = n
stand_alone s ts p (standing.Field c k t) more n = n

-- ---- phrases

past_known : (x : translating.Known) (p : Place) (more : List translating.Known) → is_place x.place p ≡ false → translating.declared_at (x ∷ more) p ≡ translating.declared_at more p
past_known x p more o = ap (λ b. elim b [ true ↦ x.is | false ↦ translating.declared_at more p ]) o

alone_known : (x : translating.Known) (p : Place) (more : List translating.Known) → translating.declared_at more p ≡ translating.unknown → translating.declared_at (x ∷ more) p ≡ translating.declared_at (x ∷ []) p
alone_known x p more u = ap (λ (r : translating.Declared). elim (is_place x.place p) [ true ↦ x.is | false ↦ r ]) u

known_past : (s : Scene) (q p : Place) (x : Standing) (more : List translating.Known) → is_place q p ≡ false → translating.declared_at (known_and s q x more) p ≡ translating.declared_at more p
known_past s q p (standing.Standard n) more o = past_known (record { place = q; is = translating.a_standard_name n }) p more o
known_past s q p (standing.Variable t e) more o = past_known (record { place = q; is = translating.a_variable (kind_view s.given t) }) p more o
known_past s q p (standing.NameFormal t e) more o = past_known (record { place = q; is = translating.a_variable (kind_view s.given t) }) p more o
known_past s q p (standing.Control e) more o = past_known (record { place = q; is = translating.a_control }) p more o
known_past s q p (standing.Array t e) more o = past_known (record { place = q; is = translating.an_array (kind_view s.given t) }) p more o
known_past s q p (standing.Procedure x) more o = past_known (record { place = q; is = translating.a_procedure (kinds_view s.given x.result) }) p more o
known_past s q p (standing.ProcedureFormal t e) more o = past_known (record { place = q; is = translating.a_procedure_formal (kinds_view s.given t) }) p more o
known_past s q p (standing.Class c) more o = past_known (record { place = q; is = translating.a_class (map (kind_view s.given) (types_of s.symbols c)) }) p more o
known_past s q p (standing.Field c n t) more o = past_known (record { place = q; is = translating.a_field (class_place s.given c) n (kind_view s.given t) }) p more o
known_past s q p standing.Unknown more o = refl
known_past s q p (standing.Label e target) more o = refl

known_alone : (s : Scene) (p : Place) (x : Standing) (more : List translating.Known) → translating.declared_at more p ≡ translating.unknown → translating.declared_at (known_and s p x more) p ≡ declared_by s p x
known_alone s p (standing.Standard n) more u = alone_known (record { place = p; is = translating.a_standard_name n }) p more u
known_alone s p (standing.Variable t e) more u = alone_known (record { place = p; is = translating.a_variable (kind_view s.given t) }) p more u
known_alone s p (standing.NameFormal t e) more u = alone_known (record { place = p; is = translating.a_variable (kind_view s.given t) }) p more u
known_alone s p (standing.Control e) more u = alone_known (record { place = p; is = translating.a_control }) p more u
known_alone s p (standing.Array t e) more u = alone_known (record { place = p; is = translating.an_array (kind_view s.given t) }) p more u
known_alone s p (standing.Procedure x) more u = alone_known (record { place = p; is = translating.a_procedure (kinds_view s.given x.result) }) p more u
known_alone s p (standing.ProcedureFormal t e) more u = alone_known (record { place = p; is = translating.a_procedure_formal (kinds_view s.given t) }) p more u
known_alone s p (standing.Class c) more u = alone_known (record { place = p; is = translating.a_class (map (kind_view s.given) (types_of s.symbols c)) }) p more u
known_alone s p (standing.Field c n t) more u = alone_known (record { place = p; is = translating.a_field (class_place s.given c) n (kind_view s.given t) }) p more u
known_alone s p standing.Unknown more u = u
known_alone s p (standing.Label e target) more u = u

-- ---- names that are declared once

module _ (s : Scene) (apart : AreApart (numbers_in s).names) (n : ℕ) (l : n < length s.given.names) where
  abbrev InTable : ℕ × Standing → Type 0
  InTable x = (x.0 < length s.given.names) × StandingFits s x.1

  no_stand : (ts : List ℕ) (names : Names) → All InTable names → All (λ (y : ℕ × Standing). n ≢ y.0) names → stand_at (stands s ts names) (place_of s n) ≡ None
  no_stand ts [] a o = refl
  no_stand ts (x ∷ names) a o =
      stand_past s ts (place_of s x.0) (place_of s n) x.1 (stands s ts names) (other_number s apart x.0 n (All-head InTable x names a).0 l (λ e. All-head (λ (y : ℕ × Standing). n ≢ y.0) x names o (sym e)))
      ∙ no_stand ts names (All-tail InTable x names a) (All-tail (λ (y : ℕ × Standing). n ≢ y.0) x names o)

  stand_in : (ts : List ℕ) (names : Names) → All InTable names → IsOnce names → stand_at (stands s ts names) (place_of s n) ≡ stand_by s ts (place_of s n) (standing_of names n)
  stand_in ts [] a o = refl
  stand_in ts (x ∷ names) a o = go (stand_in ts names (All-tail InTable x names a) o.1) (x.0 == n) refl
    where
      go : stand_at (stands s ts names) (place_of s n) ≡ stand_by s ts (place_of s n) (standing_of names n) → (b : Bool) → (x.0 == n) ≡ b → stand_at (stand_and s ts (place_of s x.0) x.1 (stands s ts names)) (place_of s n) ≡ stand_by s ts (place_of s n) (elim b [ true ↦ x.1 | false ↦ standing_of names n ])
      go ih true q =
          let same : x.0 ≡ n = eqb-true x.0 n q in
          ap (λ k. stand_at (stand_and s ts (place_of s k) x.1 (stands s ts names)) (place_of s n)) same
          ∙ stand_alone s ts (place_of s n) x.1 (stands s ts names) (no_stand ts names (All-tail InTable x names a) (subst (λ k. All (λ (y : ℕ × Standing). k ≢ y.0) names) same o.0))
      go ih false q =
          stand_past s ts (place_of s x.0) (place_of s n) x.1 (stands s ts names) (other_number s apart x.0 n (All-head InTable x names a).0 l (λ e. false≢true (sym q ∙ eq-eqb x.0 n e)))
          ∙ ih

  no_known : (names : Names) → All InTable names → All (λ (y : ℕ × Standing). n ≢ y.0) names → translating.declared_at (knowns s names) (place_of s n) ≡ translating.unknown
  no_known [] a o = refl
  no_known (x ∷ names) a o =
      known_past s (place_of s x.0) (place_of s n) x.1 (knowns s names) (other_number s apart x.0 n (All-head InTable x names a).0 l (λ e. All-head (λ (y : ℕ × Standing). n ≢ y.0) x names o (sym e)))
      ∙ no_known names (All-tail InTable x names a) (All-tail (λ (y : ℕ × Standing). n ≢ y.0) x names o)

  known_in : (names : Names) → All InTable names → IsOnce names → translating.declared_at (knowns s names) (place_of s n) ≡ declared_by s (place_of s n) (standing_of names n)
  known_in [] a o = refl
  known_in (x ∷ names) a o = go (known_in names (All-tail InTable x names a) o.1) (x.0 == n) refl
    where
      go : translating.declared_at (knowns s names) (place_of s n) ≡ declared_by s (place_of s n) (standing_of names n) → (b : Bool) → (x.0 == n) ≡ b → translating.declared_at (known_and s (place_of s x.0) x.1 (knowns s names)) (place_of s n) ≡ declared_by s (place_of s n) (elim b [ true ↦ x.1 | false ↦ standing_of names n ])
      go ih true q =
          let same : x.0 ≡ n = eqb-true x.0 n q in
          ap (λ k. translating.declared_at (known_and s (place_of s k) x.1 (knowns s names)) (place_of s n)) same
          ∙ known_alone s (place_of s n) x.1 (knowns s names) (no_known names (All-tail InTable x names a) (subst (λ k. All (λ (y : ℕ × Standing). k ≢ y.0) names) same o.0))
      go ih false q =
          known_past s (place_of s x.0) (place_of s n) x.1 (knowns s names) (other_number s apart x.0 n (All-head InTable x names a).0 l (λ e. false≢true (sym q ∙ eq-eqb x.0 n e)))
          ∙ ih

-- ---- the laws

pub stand_found : (s : Scene) (ts : List ℕ) (here : Here) (n : ℕ) → SceneFits s → n < length s.given.names → stand_at (coding_context s ts here).names (place_of s n) ≡ stand_by s ts (place_of s n) (standing_of s.symbols.names n)
stand_found s ts here n fits l = stand_in s fits.apart n l ts s.symbols.names fits.names fits.once

pub kind_stands : (s : Scene) (ts : List ℕ) (here : Here) (n : ℕ) → SceneFits s → n < length s.given.names → kind_at (coding.known (coding_context s ts here)) (place_of s n) ≡ kind_of_stand (stand_by s ts (place_of s n) (standing_of s.symbols.names n))
kind_stands s ts here n fits l = kind_found (coding_context s ts here).names (place_of s n) ∙ ap kind_of_stand (stand_found s ts here n fits l)

pub declared_found : (s : Scene) (n : ℕ) → SceneFits s → n < length s.given.names → translating.declared_at (phrase_context s).known (place_of s n) ≡ declared_by s (place_of s n) (standing_of s.symbols.names n)
declared_found s n fits l = known_in s fits.apart n l s.symbols.names fits.names fits.once

-- ---- standing by standing

one_there : {X : Type 0} (p : Place) (x y : X) → elim (is_place p p) [ true ↦ x | false ↦ y ] ≡ x
one_there p x y = ap (λ b. elim b [ true ↦ x | false ↦ y ]) (same_place p)

pub stand_by_is : (s : Scene) (ts : List ℕ) (p : Place) (x : Standing) → stand_by s ts p x ≡ stand_for s ts p x
stand_by_is s ts p standing.Unknown = refl
stand_by_is s ts p (standing.Standard n) = refl
stand_by_is s ts p (standing.Variable t e) = one_there p (Some (stand p kinds.a_variable e 0)) None
stand_by_is s ts p (standing.NameFormal t e) = one_there p (Some (stand p kinds.a_name_formal e 0)) None
stand_by_is s ts p (standing.Control e) = one_there p (Some (stand p kinds.a_variable e 0)) None
stand_by_is s ts p (standing.Array t e) = one_there p (Some (stand p kinds.an_array e 0)) None
stand_by_is s ts p (standing.ProcedureFormal t e) = one_there p (Some (stand p kinds.a_procedure_formal e 0)) None
stand_by_is s ts p (standing.Procedure x) = one_there p (Some (stand p (kinds.a_procedure (map (formal_view s.given) (formals_of s.symbols x))) (record { level = x.level; position = 0 }) (instruction_at ts x.target))) None
stand_by_is s ts p (standing.Class c) = refl
stand_by_is s ts p (standing.Field c n t) = refl
stand_by_is s ts p (standing.Label e target) = one_there p (Some (stand p kinds.a_label e (instruction_at ts target))) None

pub declared_by_is : (s : Scene) (p : Place) (x : Standing) → declared_by s p x ≡ declared_for s x
declared_by_is s p standing.Unknown = refl
declared_by_is s p (standing.Standard n) = one_there p (translating.a_standard_name n) translating.unknown
declared_by_is s p (standing.Variable t e) = one_there p (translating.a_variable (kind_view s.given t)) translating.unknown
declared_by_is s p (standing.NameFormal t e) = one_there p (translating.a_variable (kind_view s.given t)) translating.unknown
declared_by_is s p (standing.Control e) = one_there p translating.a_control translating.unknown
declared_by_is s p (standing.Array t e) = one_there p (translating.an_array (kind_view s.given t)) translating.unknown
declared_by_is s p (standing.Procedure x) = one_there p (translating.a_procedure (kinds_view s.given x.result)) translating.unknown
declared_by_is s p (standing.ProcedureFormal t e) = one_there p (translating.a_procedure_formal (kinds_view s.given t)) translating.unknown
declared_by_is s p (standing.Class c) = one_there p (translating.a_class (map (kind_view s.given) (types_of s.symbols c))) translating.unknown
declared_by_is s p (standing.Field c n t) = one_there p (translating.a_field (class_place s.given c) n (kind_view s.given t)) translating.unknown
declared_by_is s p (standing.Label e target) = refl

-- ---- by the places in a tree

-- what stands for the name of a number in a tree
pub name_stands_for : (s : Scene) (ts : List ℕ) (here : Here) (n : ℕ) → SceneFits s → n < length s.given.names → stand_at (coding_context s ts here).names (numbered (numbers_in s).names n) ≡ stand_for s ts (place_of s n) (standing_of s.symbols.names n)
name_stands_for s ts here n fits l =
    ap (λ (p : Place). stand_at (coding_context s ts here).names p) (numbered_place s n) ∙ stand_found s ts here n fits l ∙ stand_by_is s ts (place_of s n) (standing_of s.symbols.names n)

pub name_kind : (s : Scene) (ts : List ℕ) (here : Here) (n : ℕ) → SceneFits s → n < length s.given.names → kind_at (coding.known (coding_context s ts here)) (numbered (numbers_in s).names n) ≡ kind_of_stand (stand_for s ts (place_of s n) (standing_of s.symbols.names n))
name_kind s ts here n fits l = kind_found (coding_context s ts here).names (numbered (numbers_in s).names n) ∙ ap kind_of_stand (name_stands_for s ts here n fits l)

pub name_declared : (s : Scene) (n : ℕ) → SceneFits s → n < length s.given.names → translating.declared_at (phrase_context s).known (numbered (numbers_in s).names n) ≡ declared_for s (standing_of s.symbols.names n)
name_declared s n fits l =
    ap (λ (p : Place). translating.declared_at (phrase_context s).known p) (numbered_place s n) ∙ declared_found s n fits l ∙ declared_by_is s (place_of s n) (standing_of s.symbols.names n)

-- ---- without targets

known_and_any : (s : Scene) (ts us : List ℕ) (p : Place) (x : Standing) (a b : List Stand) → map known_of a ≡ map known_of b → map known_of (stand_and s ts p x a) ≡ map known_of (stand_and s us p x b)
known_and_any s ts us p standing.Unknown a b e = e
known_and_any s ts us p (standing.Standard n) a b e = e
known_and_any s ts us p (standing.Variable t y) a b e = ap (λ (l : List kinds.Known). let k : kinds.Known = record { place = p; kind = kinds.a_variable } in k ∷ l) e
known_and_any s ts us p (standing.NameFormal t y) a b e = ap (λ (l : List kinds.Known). let k : kinds.Known = record { place = p; kind = kinds.a_name_formal } in k ∷ l) e
known_and_any s ts us p (standing.Control y) a b e = ap (λ (l : List kinds.Known). let k : kinds.Known = record { place = p; kind = kinds.a_variable } in k ∷ l) e
known_and_any s ts us p (standing.Array t y) a b e = ap (λ (l : List kinds.Known). let k : kinds.Known = record { place = p; kind = kinds.an_array } in k ∷ l) e
known_and_any s ts us p (standing.ProcedureFormal t y) a b e = ap (λ (l : List kinds.Known). let k : kinds.Known = record { place = p; kind = kinds.a_procedure_formal } in k ∷ l) e
known_and_any s ts us p (standing.Procedure x) a b e = ap (λ (l : List kinds.Known). let k : kinds.Known = record { place = p; kind = kinds.a_procedure (map (formal_view s.given) (formals_of s.symbols x)) } in k ∷ l) e
known_and_any s ts us p (standing.Class c) a b e = e
known_and_any s ts us p (standing.Field c n t) a b e = e
known_and_any s ts us p (standing.Label y target) a b e = ap (λ (l : List kinds.Known). let k : kinds.Known = record { place = p; kind = kinds.a_label } in k ∷ l) e

-- what names are doesn't go by where their targets stand
pub known_any : (s : Scene) (ts us : List ℕ) (names : Names) → map known_of (stands s ts names) ≡ map known_of (stands s us names)
known_any s ts us [] = refl
known_any s ts us (x ∷ names) = known_and_any s ts us (place_of s x.0) x.1 (stands s ts names) (stands s us names) (known_any s ts us names)
