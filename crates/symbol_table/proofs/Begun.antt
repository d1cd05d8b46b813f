-- A table in which nothing is declared but what every deck has.
use Rattle.std.proofs.Common.{◌≡◌, ℕ, zero, suc, ◌+◌, ◌-◌, ◌<◌, ◌≤◌, ◌==◌, List, [], ◌∷◌, ◌++◌, length, replicate, Bool, true, false, refl, sym, ap, ◌∙◌, subst, arith, append_assoc, drop, get_or, slice_index_or}
use Rattle.std.proofs.lemmas.Bool.{eqb-true, eq-eqb, false_from_ne_true}
use Rattle.std.proofs.lemmas.List.{drop_more, length-append}
use Rattle.std.proofs.lemmas.List.Elements.{All-nil}
use denote.Ref.{Bor}
use Rattle.algolw_tree.specs.declared.standard.Standard.{Standard}
use Rattle.algolw_tree.specs.Standards.{StandardNames, spelled, standard_table}
use Rattle.symbol_table.specs.declared.standings.Standing.{Standing}
use Rattle.symbol_table.specs.declared.standings.Standing.TheVariants as standing
use Rattle.symbol_table.specs.Standings.{IsTable, Names, every_name, names_from, standard_count, standing_of, standings_of}

-- what every deck has, in order
abbrev pub every_standing : List Standing
every_standing = standings_of standard_table

unknown_there : (k n : ℕ) → slice_index_or (replicate k standing.Unknown) n standing.Unknown ≡ standing.Unknown
unknown_there zero n = refl
unknown_there (suc k) zero = refl
unknown_there (suc k) (suc n) = unknown_there k n

-- the first of names, and those behind it
at_first : (m n : ℕ) (s : Standing) (names : Names) → m ≡ n → s ≡ standing_of ((m, s) ∷ names) n
at_first m n s names e = sym (ap {B = Standing} (λ (b : Bool). elim b [ true ↦ s | false ↦ standing_of names n ]) (eq-eqb m n e))

past_first : (m n : ℕ) (s : Standing) (names : Names) → m < n → standing_of names n ≡ standing_of ((m, s) ∷ names) n
past_first m n s names l = sym (ap {B = Standing} (λ (b : Bool). elim b [ true ↦ s | false ↦ standing_of names n ]) (false_from_ne_true (m == n) (λ q. let same : m ≡ n = eqb-true m n q in omega arith)))

begun_from : (first : ℕ) (names : StandardNames) (k n : ℕ) → slice_index_or (standings_of names ++ replicate k standing.Unknown) n standing.Unknown ≡ standing_of (names_from first names) (first + n)
begun_from first [] k n = unknown_there k n
begun_from first (x ∷ names) k zero = at_first first (first + 0) (standing.Standard x.1) (names_from (suc first) names) (omega arith)
begun_from first (x ∷ names) k (suc n) =
    let next : suc first + n ≡ first + suc n = omega arith in
    begun_from (suc first) names k n ∙ ap (standing_of (names_from (suc first) names)) next
    ∙ past_first first (first + suc n) (standing.Standard x.1) (names_from (suc first) names) (omega arith)

begun_with : (k n : ℕ) → slice_index_or (every_standing ++ replicate k standing.Unknown) n standing.Unknown ≡ standing_of every_name n
begun_with k n = let same : 0 + n ≡ n = omega arith in begun_from 0 standard_table k n ∙ ap (standing_of every_name) same

pub begun_table : (now : List Standing) (before : Names) (k : ℕ) → before ≡ [] → now ≡ every_standing ++ replicate k standing.Unknown → IsTable now before
begun_table now before k e h = subst (λ (b : Names). IsTable now b) (sym e) (record {
  standard = let n : length now ≡ standard_count + length (replicate k standing.Unknown) = ap length h ∙ length-append every_standing (replicate k standing.Unknown) in omega (arith, n);
  numbered = All-nil (λ (x : ℕ × Standing). x.0 < length now);
  first = λ n l. ap (λ (xs : List Standing). slice_index_or xs n standing.Unknown) h ∙ begun_with k n;
})

one_more_unknown : (k : ℕ) → replicate k standing.Unknown ++ standing.Unknown ∷ [] ≡ standing.Unknown ∷ replicate k standing.Unknown
one_more_unknown zero = refl
one_more_unknown (suc k) = ap (λ xs. standing.Unknown ∷ xs) (one_more_unknown k)

-- a name more that stands for nothing
pub begun_more : (now more : List Standing) → standard_count ≤ length now → now ≡ every_standing ++ replicate (length now - standard_count) standing.Unknown → more ≡ now ++ standing.Unknown ∷ [] → more ≡ every_standing ++ replicate (length more - standard_count) standing.Unknown
begun_more now more l e h =
    let n : length more ≡ length now + 1 = ap length h ∙ length-append now (standing.Unknown ∷ []) in
    let next : suc (length now - standard_count) ≡ length more - standard_count = omega (arith, n) in
    h ∙ ap (λ xs. xs ++ standing.Unknown ∷ []) e ∙ append_assoc every_standing (replicate (length now - standard_count) standing.Unknown) (standing.Unknown ∷ [])
    ∙ ap (λ xs. every_standing ++ xs) (one_more_unknown (length now - standard_count) ∙ ap (λ k. replicate k standing.Unknown) next)

-- one of the names of every deck more
pub standard_more : (names : List (Bor (List ℕ) × Standard)) (i : ℕ) (d : Bor (List ℕ) × Standard) (now more : List Standing) → i < length names → more ≡ now ++ standing.Standard (get_or names i d).1 ∷ [] → now ++ standings_of (spelled (drop i names)) ≡ standings_of (spelled names)
    → more ++ standings_of (spelled (drop (i + 1) names)) ≡ standings_of (spelled names)
standard_more names i d now more l h e =
    let s : Standing = standing.Standard (get_or names i d).1 in
    let rest = standings_of (spelled (drop (i + 1) names)) in
    ap (λ xs. xs ++ rest) h ∙ append_assoc now (s ∷ []) rest ∙ ap (λ (xs : List (Bor (List ℕ) × Standard)). now ++ standings_of (spelled xs)) (sym (drop_more names i d l)) ∙ e
