-- Names that are short, one by one.
use Rattle.std.proofs.Common.{◌≡◌, ℕ, zero, suc, ◌<◌, ◌≤◌, Bool, true, false, ◌&&◌, nat_le, IsTrue, List, [], ◌∷◌, length, get_or, refl, arith}
use Rattle.std.proofs.lemmas.Bool.Decides.{nat_tests}
use denote.Ref.{Bor}
use Rattle.algolw_tree.specs.declared.standard.Standard.{Standard}
use Rattle.block_scopes.specs.Standards.{all_short}

first : (s t : Bool) (n : ℕ) → nat_le n 80 ≡ s → IsTrue (s && t) → (n ≤ 80) × IsTrue t
first true t n e h = (grind (arith, nat_tests), h)
first false t n e h = cc

pub short_at : (xs : List (Bor (List ℕ) × Standard)) (i : ℕ) (d : Bor (List ℕ) × Standard) → i < length xs → IsTrue (all_short xs) → length (get_or xs i d).0.now ≤ 80
short_at [] i d h s = absurd (omega (arith, h))
short_at (y ∷ ys) zero d h s = (first (nat_le (length y.0.now) 80) (all_short ys) (length y.0.now) refl s).0
short_at (y ∷ ys) (suc i) d h s = short_at ys i d (omega (arith, h)) (first (nat_le (length y.0.now) 80) (all_short ys) (length y.0.now) refl s).1
