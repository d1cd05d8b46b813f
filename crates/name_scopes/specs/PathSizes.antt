-- What a path keeps is of fewer scopes than the path.
use Rattle.std.specs.Prelude.{◌≡◌, ℕ, zero, suc, ◌<◌, ◌≤◌, List, [], ◌∷◌, Option, Some, None, length, max, slice_index_or}
use Rattle.std.proofs.Common.{arith, refl}
use denote.Ref.{Bor}
use denote.Param.Weighed.{most}
use Rattle.algolw_typing.specs.Names.{Path}

-- no path that is kept weighs more than so much
pub most_within : {A : Type 0} (μ : Option (Bor (Path A)) → ℕ) (xs : List (Option (Bor (Path A)))) (n : ℕ) → μ None ≤ n → ((p : Bor (Path A)) → length p.now < n → μ (Some p) ≤ n)
    → ((i : ℕ) (p : Bor (Path A)) → slice_index_or xs i None ≡ Some p → length p.now < n) → most μ xs ≤ n
most_within μ [] n z s h = omega arith
most_within μ (None ∷ xs) n z s h = let rest : most μ xs ≤ n = most_within μ xs n z s (λ i p e. h (suc i) p e) in omega (arith, z, rest)
most_within μ (Some q ∷ xs) n z s h =
    let first : μ (Some q) ≤ n = s q (h zero q refl) in
    let rest : most μ xs ≤ n = most_within μ xs n z s (λ i p e. h (suc i) p e) in
    omega (arith, first, rest)

pub two : (a b n : ℕ) → a ≤ n → b ≤ n → max a b ≤ n
two a b n p q = omega (arith, p, q)
