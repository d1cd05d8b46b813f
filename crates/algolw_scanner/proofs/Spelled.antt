-- Bytes of another length are others.
use Rattle.std.proofs.Common.{◌≡◌, ◌==◌, ◌&&◌, false, List, [], ◌∷◌, ℕ, suc, length, refl, sym, ap, ◌∙◌, nat_eq, arith}
use Rattle.std.proofs.lemmas.Bool.Decides.{nat_tests}
use Rattle.std.proofs.Math.Bool.{and-false}
use Rattle.std.specs.Str.{bytes_eq}

behind : (m n : ℕ) → (suc m == suc n) ≡ false → (m == n) ≡ false
behind m n e = grind (arith, nat_tests)

others : (xs ys : List ℕ) → (length xs == length ys) ≡ false → bytes_eq xs ys ≡ false
others [] [] e = cc
others [] (y ∷ ys) e = refl
others (x ∷ xs) [] e = refl
others (x ∷ xs) (y ∷ ys) e = ap (λ b. nat_eq x y && b) (others xs ys (behind (length xs) (length ys) e)) ∙ and-false (nat_eq x y)

pub other_length : (xs ys : List ℕ) → (length xs == length ys) ≡ false → false ≡ bytes_eq xs ys
other_length xs ys e = sym (others xs ys e)
