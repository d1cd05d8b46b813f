-- Parts of lists.
use Rattle.std.proofs.Common.{◌≡◌, ℕ, zero, suc, ◌+◌, ◌≤◌, List, [], ◌∷◌, ◌++◌, length, take, drop, sym, ap, ◌∙◌, arith}
use Rattle.std.proofs.Math.Seq.{take-append_seam}
use Rattle.std.proofs.lemmas.List.{drop_at, take-append-le}

-- a part of what stands in front
pub part_in_front : {X : Type 0} (a b : List X) (i n : ℕ) → i + n ≤ length a → take n (drop i (a ++ b)) ≡ take n (drop i a)
part_in_front a b zero n l = take-append-le n a b (omega arith)
part_in_front [] b (suc i) n l = absurd (omega arith)
part_in_front (x ∷ a) b (suc i) n l = part_in_front a b i n (omega arith)

-- the part between
pub part_between : {X : Type 0} (whole a b c : List X) (i n : ℕ) → whole ≡ a ++ (b ++ c) → i ≡ length a → n ≡ length b → take n (drop i whole) ≡ b
part_between whole a b c i n e f g =
    ap (λ k. take k (drop i whole)) g ∙ ap (λ xs. take (length b) (drop i xs)) e
    ∙ ap (λ xs. take (length b) xs) (drop_at a (b ++ c) i (sym f)) ∙ take-append_seam b c
