-- What a sum says.
use Rattle.std.proofs.Common.{◌≡◌, ℕ, ◌+◌, ◌<◌, ◌^◌, ◌==◌, not, Bool, true, false, List, [], ◌∷◌, ◌++◌, length, take, drop, refl, sym, ap, ◌∙◌, arith, append_assoc, codes, decimal}
use Rattle.std.specs.List.{list_all}
use Rattle.std.specs.Str.Parse.{AllDigits}
use Rattle.std.proofs.Math.Seq.{drop-append-add}
use Rattle.std.proofs.lemmas.Bool.Decides.{nat_tests}
use Rattle.std.proofs.lemmas.Fmt.{decimal_injective, decimal_is_IsNumeral}
use Rattle.std.proofs.lemmas.List.{take_at}
use Rattle.std.proofs.lemmas.Str.Parse.{digit_at}
use Rattle.listing_parts.specs.Sections.{begins, IsSum}
use Rattle.listing_parts.specs.Words.{before_blank, behind_blank}
use Rattle.listing_parts.proofs.Tests.{begins_alone, front_passes}

abbrev has_no_blank : List ℕ → Bool
has_no_blank text = list_all (λ b. not (b == 32)) text

digits_no_blank : (ds : List ℕ) → AllDigits 10 ds → has_no_blank ds ≡ true
digits_no_blank [] h = refl
digits_no_blank (d ∷ ds) h =
    let range = digit_at (d ∷ ds) 0 h (omega arith) in
    let other : (d == 32) ≡ false = grind (arith, nat_tests) in
    rw other (digits_no_blank ds h.1)

number_no_blank : (n : ℕ) → n < 2 ^ 64 → has_no_blank (decimal n) ≡ true
number_no_blank n h = digits_no_blank (decimal n) (decimal_is_IsNumeral n h).0.1

behind : (front rest : List ℕ) → has_no_blank front ≡ true → behind_blank (front ++ 32 ∷ rest) ≡ rest
behind front rest h =
    ap (λ n. drop (n + 1) (front ++ 32 ∷ rest)) (front_passes (λ b. not (b == 32)) front 32 rest h refl) ∙ drop-append-add front (32 ∷ rest) 1

before : (front rest : List ℕ) → has_no_blank front ≡ true → before_blank (front ++ 32 ∷ rest) ≡ front
before front rest h =
    ap (λ n. take n (front ++ 32 ∷ rest)) (front_passes (λ b. not (b == 32)) front 32 rest h refl) ∙ take_at front (32 ∷ rest) (length front) refl

-- a sum as words
abbrev worded : (c s n x : List ℕ) → List ℕ
worded c s n x = codes "CARDS" ++ 32 ∷ (c ++ 32 ∷ (codes "STEPS" ++ 32 ∷ (s ++ 32 ∷ (codes "LINES" ++ 32 ∷ (n ++ 32 ∷ (codes "CHARGE " ++ x))))))

words : (c s n x : List ℕ) → codes "CARDS " ++ c ++ codes " STEPS " ++ s ++ codes " LINES " ++ n ++ codes " CHARGE " ++ x ≡ worded c s n x
words c s n x = simp append_assoc

abbrev pub sixth : List ℕ → List ℕ
sixth line = before_blank (behind_blank (behind_blank (behind_blank (behind_blank (behind_blank line)))))

sixth_word : (c s n x : List ℕ) → has_no_blank c ≡ true → has_no_blank s ≡ true → has_no_blank n ≡ true → sixth (worded c s n x) ≡ n
sixth_word c s n x hc hs hn =
    let x5 = n ++ 32 ∷ (codes "CHARGE " ++ x) in
    let x4 = codes "LINES" ++ 32 ∷ (n ++ 32 ∷ (codes "CHARGE " ++ x)) in
    let x3 = s ++ 32 ∷ (codes "LINES" ++ 32 ∷ (n ++ 32 ∷ (codes "CHARGE " ++ x))) in
    let x2 = codes "STEPS" ++ 32 ∷ (s ++ 32 ∷ (codes "LINES" ++ 32 ∷ (n ++ 32 ∷ (codes "CHARGE " ++ x)))) in
    let x1 = c ++ 32 ∷ (codes "STEPS" ++ 32 ∷ (s ++ 32 ∷ (codes "LINES" ++ 32 ∷ (n ++ 32 ∷ (codes "CHARGE " ++ x))))) in
    ap (λ t. before_blank (behind_blank (behind_blank (behind_blank (behind_blank t))))) (behind (codes "CARDS") x1 refl)
    ∙ ap (λ t. before_blank (behind_blank (behind_blank (behind_blank t)))) (behind c x2 hc)
    ∙ ap (λ t. before_blank (behind_blank (behind_blank t))) (behind (codes "STEPS") x3 refl)
    ∙ ap (λ t. before_blank (behind_blank t)) (behind s x4 hs)
    ∙ ap before_blank (behind (codes "LINES") x5 refl)
    ∙ before n (codes "CHARGE " ++ x) hn

pub sum_digits : (line : List ℕ) (printed : ℕ) → IsSum line printed → sixth line ≡ decimal printed
sum_digits line printed sum =
    ap sixth (sum.text ∙ words (decimal sum.cards) (decimal sum.steps) (decimal printed) (decimal sum.charge))
    ∙ sixth_word (decimal sum.cards) (decimal sum.steps) (decimal printed) (decimal sum.charge)
    (number_no_blank sum.cards sum.cards_fit) (number_no_blank sum.steps sum.steps_fit) (number_no_blank printed sum.printed_fit)

-- a sum says one number of lines
pub sum_once : (line : List ℕ) (m n : ℕ) → IsSum line m → IsSum line n → m ≡ n
sum_once line m n h k = decimal_injective m n h.printed_fit k.printed_fit (sym (sum_digits line m h) ∙ sum_digits line n k)

pub sum_begins : (line : List ℕ) (n : ℕ) → IsSum line n → begins 67 line ≡ true
sum_begins line n h = ap (begins 67) h.text

-- a sum is no refusal
pub no_both : (line : List ℕ) (n : ℕ) → begins 82 line ≡ true → IsSum line n → ⊥
no_both line n h sum = cc (h, begins_alone 67 82 line (sum_begins line n sum) refl)
