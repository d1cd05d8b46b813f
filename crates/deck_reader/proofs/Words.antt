-- Words in either case of letters.
use Rattle.std.proofs.Common.{◌≡◌, ◌==◌, ◌&&◌, ℕ, Bool, List, [], ◌∷◌, refl, ap, ◌∙◌, arith}
use Rattle.std.proofs.lemmas.Bool.Decides.{nat_tests}
use Rattle.std.specs.Char.{to_ascii_lowercase}
use Rattle.std.specs.Str.{bytes_eq, str_eq_ignore_ascii_case}
use Rattle.deck_reader.specs.Forms.{capital, folded}

same_letter : (x y : ℕ) → capital y ≡ y → (to_ascii_lowercase x == to_ascii_lowercase y) ≡ (capital x == y)
same_letter x y h = grind (arith, nat_tests)

-- to compare in either case with a word in capitals is to fold the text
pub eq_ignore_ascii_case-folded : (text word : List ℕ) → folded word ≡ word → str_eq_ignore_ascii_case text word ≡ bytes_eq (folded text) word
eq_ignore_ascii_case-folded [] [] h = refl
eq_ignore_ascii_case-folded [] (y ∷ ys) h = refl
eq_ignore_ascii_case-folded (x ∷ xs) [] h = refl
eq_ignore_ascii_case-folded (x ∷ xs) (y ∷ ys) h =
    let first : capital y ≡ y = cc in
    let rest : folded ys ≡ ys = cc in
    ap (λ (b : Bool). b && str_eq_ignore_ascii_case xs ys) (same_letter x y first)
    ∙ ap (λ (b : Bool). (capital x == y) && b) (eq_ignore_ascii_case-folded xs ys rest)
