-- Runs of characters.
use Rattle.std.proofs.Common.{◌≡◌, ℕ, ℤ, pos, Option, None, Some, suc, ◌+◌, ◌*◌, ◌-◌, ◌<◌, ◌≤◌, List, [], ◌∷◌, length, take, drop, get_or, Bool, true, false, cond, refl, ap, arith, one-add, nat_lt, drop-cons}
use Rattle.std.proofs.lemmas.Grind.{common_steps}
use Rattle.std.proofs.Common.{◌^◌}
use Rattle.std.proofs.Math.Nat.{pow-le-pow_right}
use Rattle.std.specs.List.{prefix_len, list_all}
use Rattle.std.proofs.lemmas.List.Sums.{prefix_len-le-length}
use Rattle.algolw_tree.specs.Chars.{value_from}

pub run_short : (p : ℕ → Bool) (xs : List ℕ) → prefix_len p xs ≤ length xs
run_short p xs = prefix_len-le-length p xs

run_more : (p : ℕ → Bool) (x : ℕ) (xs : List ℕ) → list_all p (take (prefix_len p xs) xs) ≡ true → (b : Bool) → p x ≡ b → list_all p (take (cond b (1 + prefix_len p xs) 0) (x ∷ xs)) ≡ true
run_more p x xs h true e = rw one-add (rw e h)
run_more p x xs h false e = refl

pub run_all : (p : ℕ → Bool) (xs : List ℕ) → list_all p (take (prefix_len p xs) xs) ≡ true
run_all p [] = refl
run_all p (x ∷ xs) = run_more p x xs (run_all p xs) (p x) refl

pub grows : (n : ℕ) (ds : List ℕ) → n ≤ value_from n ds
grows n [] = omega arith
grows n (d ∷ ds) = omega (arith, grows (10 * n + (d - 48)) ds)

pub too_large : (n : ℕ) (ds : List ℕ) (i d : ℕ) → i < length ds → d ≡ get_or ds i 0 - 48 → 2147483647 < n * 10 + d → value_from n (drop i ds) ≡ value_from 0 ds → ◌≡◌ {A = Option ℤ} None (cond (nat_lt 2147483647 (value_from 0 ds)) None (Some (pos (value_from 0 ds))))
too_large n ds i d l e g h =
    let f : value_from n (drop i ds) ≡ value_from (10 * n + (get_or ds i 0 - 48)) (drop (suc i) ds) = ap (value_from n) (drop-cons ds i 0 l) in
    let k : 10 * n + (get_or ds i 0 - 48) ≤ value_from (10 * n + (get_or ds i 0 - 48)) (drop (suc i) ds) = grows _ (drop (suc i) ds) in
    let m : 2147483647 < value_from 0 ds = omega arith in
    grind (arith, common_steps)

pub below_eight : (v i : ℕ) → v < 16 ^ i → i ≤ 8 → v < 4294967296
below_eight v i h l = let k : 16 ^ i ≤ 16 ^ 8 = pow-le-pow_right {n = 16} (omega arith) l in omega arith
