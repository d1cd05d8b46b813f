-- Texts that are put one behind the other on a line that is cut.
use Rattle.std.proofs.Common.{◌≡◌, ℕ, zero, suc, ◌+◌, ◌-◌, ◌≤◌, ◌==◌, List, [], ◌∷◌, ◌++◌, length, take, refl, ap, ◌∙◌, append_assoc, arith}
use Rattle.std.proofs.lemmas.List.{take_all, length-append, length-take}
use Rattle.std.specs.List.{suffix_len}
use Rattle.short_text.specs.Blanks.{trimmed}

-- what is cut before is cut anyway
pub take-take-append : (n : ℕ) (xs ys : List ℕ) → take n (take n xs ++ ys) ≡ take n (xs ++ ys)
take-take-append zero xs ys = refl
take-take-append (suc n) [] ys = refl
take-take-append (suc n) (x ∷ xs) ys = ap (λ (zs : List ℕ). x ∷ zs) (take-take-append n xs ys)

-- one text and then another, put behind a line, are both of them at once
pub both : (line x y a b : List ℕ) → a ≡ take 132 (line ++ x) → b ≡ take 132 (a ++ y) → b ≡ take 132 (line ++ (x ++ y))
both line x y a b first second =
    second ∙ ap (λ (text : List ℕ). take 132 (text ++ y)) first ∙ take-take-append 132 (line ++ x) y ∙ ap (take 132) (append_assoc line x y)

pub three : (line x y z a b c : List ℕ) → a ≡ take 132 (line ++ x) → b ≡ take 132 (a ++ y) → c ≡ take 132 (b ++ z) → c ≡ take 132 (line ++ (x ++ y ++ z))
three line x y z a b c first second = both line (x ++ y) z b c (both line x y a b first second)

pub four : (line w x y z a b c d : List ℕ) → a ≡ take 132 (line ++ w) → b ≡ take 132 (a ++ x) → c ≡ take 132 (b ++ y) → d ≡ take 132 (c ++ z)
    → d ≡ take 132 (line ++ (w ++ x ++ y ++ z))
four line w x y z a b c d first second third = both line (w ++ x ++ y) z c d (three line w x y a b c first second third)

-- a text without its end blanks is no longer than it was
pub take-trimmed : (n : ℕ) (text : List ℕ) → length text ≤ n → take n (trimmed text) ≡ trimmed text
take-trimmed n text short = take_all n (trimmed text) (omega (arith, short, length-take (length text - suffix_len (λ b. b == 32) text) text))

-- texts that are put on an empty line with room for them aren't cut
pub three_fit : (x y z a b c : List ℕ) → length x + length y + length z ≤ 132 → a ≡ take 132 ([] ++ x) → b ≡ take 132 (a ++ y) → c ≡ take 132 (b ++ z) → c ≡ x ++ y ++ z
three_fit x y z a b c fits first second third = three [] x y z a b c first second third ∙ take_all 132 (x ++ y ++ z) (omega (arith, fits, length-append (x ++ y) z, length-append x y))
