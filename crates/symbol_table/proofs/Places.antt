-- The places of names, by their numbers.
use Rattle.std.proofs.Common.{◌||◌, ◌≡◌, ◌≢◌, ℕ, zero, suc, ◌<◌, List, [], ◌∷◌, length, map, Bool, true, false, refl, sym, ap, ◌∙◌, arith, slice_index_or}
use Rattle.std.proofs.Math.ListN.{get_or-map}
use Rattle.std.proofs.lemmas.Bool.{false_from_ne_true, false≢true}
use Rattle.std.proofs.lemmas.List.{length-map}
use Rattle.value_ops.specs.declared.places.Place.{Place}
use Rattle.algolw_typing.specs.ProgramView.{numbered, nowhere}
use Rattle.algolw_typing.specs.Types.{has, is_place}
use Rattle.program_meaning.specs.Translating.{text_at}
use Rattle.program_soundness.proofs.Records.{place_read}
use Rattle.faultless_programs.proofs.Agreeing.{same_place}
use Rattle.compilable_programs.specs.Compiled.{AreApart}
use Rattle.stack_code.specs.declared.heads.CodedName.{CodedName}
use Rattle.stack_code.specs.CodeView.{Given, name_of, text_view}
use Rattle.symbol_table.specs.Contexts.{Scene, info_of, numbers_in, place_of}

-- other places are not one
pub other_place : (p q : Place) → p ≢ q → is_place p q ≡ false
other_place p q ne = false_from_ne_true (is_place p q) (λ e. ne (place_read p q e))

-- the place of a name is that of its number in the tree
pub numbered_place : (s : Scene) (n : ℕ) → numbered (numbers_in s).names n ≡ place_of s n
numbered_place s n = get_or-map (λ (x : CodedName). x.place) s.given.names n (record { place = nowhere; text = [] })

-- a number whose place is had is one of the table
pub in_range : (all places : List Place) (n : ℕ) → has all nowhere ≡ false → has all (numbered places n) ≡ true → n < length places
in_range all [] n none had = absurd (false≢true (sym none ∙ had))
in_range all (p ∷ places) zero none had = omega arith
in_range all (p ∷ places) (suc n) none had = let l : n < length places = in_range all places n none had in omega arith

pub has_numbered : (places : List Place) (n : ℕ) → n < length places → has places (numbered places n) ≡ true
has_numbered [] n l = absurd (omega arith)
has_numbered (p ∷ places) zero l = ap (λ b. b || has places p) (same_place p)
has_numbered (p ∷ places) (suc n) l = behind (is_place p (numbered places n)) (has places (numbered places n)) (has_numbered places n (omega arith))
  where
    behind : (a b : Bool) → b ≡ true → (a || b) ≡ true
    behind true b e = refl
    behind false b e = e

-- names at one place are one
pub same_number : (s : Scene) → AreApart (numbers_in s).names → (n k : ℕ) → n < length s.given.names → k < length s.given.names → place_of s n ≡ place_of s k → n ≡ k
same_number s apart n k l m e =
    let many : length (numbers_in s).names ≡ length s.given.names = length-map s.given.names (λ (x : CodedName). x.place) in
    let a : n < length (numbers_in s).names = omega arith in
    let b : k < length (numbers_in s).names = omega arith in
    apart n k a b (numbered_place s n ∙ e ∙ sym (numbered_place s k))

pub other_number : (s : Scene) → AreApart (numbers_in s).names → (n k : ℕ) → n < length s.given.names → k < length s.given.names → n ≢ k → is_place (place_of s n) (place_of s k) ≡ false
other_number s apart n k l m ne = other_place (place_of s n) (place_of s k) (λ e. ne (same_number s apart n k l m e))

-- ---- how names are written

text_in : (names : List CodedName) (n : ℕ) → AreApart (map (λ (x : CodedName). x.place) names) → n < length names → text_at (map info_of names) (slice_index_or names n (record { place = nowhere; text = [] })).place ≡ (slice_index_or names n (record { place = nowhere; text = [] })).text
text_in [] n apart l = absurd (omega arith)
text_in (x ∷ names) zero apart l = ap (λ b. elim b [ true ↦ x.text | false ↦ text_at (map info_of names) x.place ]) (same_place x.place)
text_in (x ∷ names) (suc n) apart l =
    let less : n < length names = omega arith in
    let y : CodedName = slice_index_or names n (record { place = nowhere; text = [] }) in
    let many : length (map (λ (z : CodedName). z.place) names) ≡ length names = length-map names (λ (z : CodedName). z.place) in
    let there : numbered (map (λ (z : CodedName). z.place) names) n ≡ y.place = get_or-map (λ (z : CodedName). z.place) names n (record { place = nowhere; text = [] }) in
    let other : x.place ≢ y.place = λ e. (let same : zero ≡ suc n = apart zero (suc n) (omega arith) (omega arith) (e ∙ sym there) in omega arith) in
    let rest : AreApart (map (λ (z : CodedName). z.place) names) = λ a b la lb e. (let same : suc a ≡ suc b = apart (suc a) (suc b) (omega arith) (omega arith) e in omega arith) in
    ap (λ b. elim b [ true ↦ x.text | false ↦ text_at (map info_of names) y.place ]) (other_place x.place y.place other) ∙ text_in names n rest less

pub text_found : (g : Given) (n : ℕ) → AreApart (map (λ (x : CodedName). x.place) g.names) → n < length g.names → text_at (map info_of g.names) (name_of g n).place ≡ text_view g n
text_found g n apart l = text_in g.names n apart l
