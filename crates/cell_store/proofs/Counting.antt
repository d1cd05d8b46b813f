-- Counting elements, no further than there may be cells.
use Rattle.std.proofs.Common.{◌≡◌, ℕ, zero, suc, ◌+◌, ◌*◌, ◌<◌, ◌≤◌, min, ℤ, inl, inr, List, length, map, drop, get_or, add-zero, refl, sym, ap, ◌∙◌, arith}
use Rattle.std.proofs.lemmas.Bool.{cases_lt}
use Rattle.std.proofs.lemmas.List.{at_drop_more}
use Rattle.std.proofs.Math.Nat.{mul-suc, mul-zero, mul_assoc}
use Rattle.cell_store.specs.Arrays.{dimension, extent, elements}

by_factor : (a b e most : ℕ) → most ≤ a → min (most * e + b) most ≡ min (a * e + b) most
by_factor a b zero most over = rw (mul-zero most, mul-zero a) refl
by_factor a b (suc e) most over = omega (arith, mul-suc most e, mul-suc a e)

-- a product is counted as well where one factor stands for more
pub capped_more : (a b e most : ℕ) → min (min a most * e + b) most ≡ min (a * e + b) most
capped_more a b e most = elim (cases_lt a most) [
  | inl below ↦ let same : min a most ≡ a = omega arith in ap (λ n. min (n * e + b) most) same
  | inr over ↦ let full : min a most ≡ most = omega arith in ap (λ n. min (n * e + b) most) full ∙ by_factor a b e most over
]

capped_product : (a e most : ℕ) → min (min a most * e) most ≡ min (a * e) most
capped_product a e most =
    ap (λ n. min n most) (sym (add-zero (min a most * e))) ∙ capped_more a 0 e most ∙ ap (λ n. min n most) (add-zero (a * e))

-- the elements by a bound more, of extent e
pub counted_more : (bounds : List (ℤ × ℤ)) (k count : ℕ) (d : ℤ × ℤ) (e : ℕ) → k < length bounds → e ≡ extent (dimension (get_or bounds k d)) → min (min (count * e) 32768 * elements (map dimension (drop (k + 1) bounds))) 32768 ≡ min (count * elements (map dimension (drop k bounds))) 32768
counted_more bounds k count d e h is =
    let rest : ℕ = elements (map dimension (drop (k + 1) bounds)) in
    capped_product (count * e) rest 32768
    ∙ ap (λ n. min n 32768) (mul_assoc count e rest ∙ ap (λ n. count * (n * rest)) is ∙ ap (λ n. count * n) (sym (at_drop_more (λ bs. elements (map dimension bs)) bounds k d h)))
