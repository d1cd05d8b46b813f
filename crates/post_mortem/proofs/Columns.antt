-- Texts in columns.
use Rattle.std.proofs.Common.{◌≡◌, ℕ, ◌+◌, ◌-◌, ◌≤◌, ◌<◌, ◌^◌, List, [], ◌∷◌, ◌++◌, length, take, ap, ◌∙◌, arith, ℤ, pos, to_z, of_z, w64}
use Rattle.std.specs.Prelude.{decimal}
use Rattle.std.specs.Fmt.{signed_decimal}
use Rattle.std.proofs.lemmas.Int.{to_z-of_z}
use Rattle.std.proofs.lemmas.List.{length-append, length-replicate, take_all}
use Rattle.short_text.specs.Blanks.{blanks, right}

-- a number of 32 bits, as an integer of 64 bits, is written as it is
pub written : (number : ℕ) (z : ℤ) → number < 2 ^ 32 → z ≡ pos number → signed_decimal (to_z w64 (of_z w64 z)) ≡ decimal number
written number z small is = ap (λ (x : ℤ). signed_decimal (to_z w64 (of_z w64 x))) is ∙ ap signed_decimal (to_z-of_z w64 (pos number) (omega (arith, small)))

-- a text fills its columns
pub length-right : (columns : ℕ) (text : List ℕ) → length text ≤ columns → length (right columns text) ≡ columns
length-right columns text fits = omega (arith, fits, length-append (blanks (columns - length text)) text, length-replicate {A = ℕ} (columns - length text) 32)

-- what fits is not cut
uncut : (line text next : List ℕ) → next ≡ take 132 (line ++ text) → length line + length text ≤ 132 → next ≡ line ++ text
uncut line text next is fits = is ∙ take_all 132 (line ++ text) (omega (arith, fits, length-append line text))

-- a card behind its number, in 4 columns, and a count, in 8
pub card_line : (number count card a b c d e : List ℕ) → length card ≤ 80
    → a ≡ number → length a ≡ 4
    → b ≡ take 132 (a ++ 32 ∷ [])
    → c ≡ b ++ count → length c ≡ length b + 8
    → d ≡ take 132 (c ++ 32 ∷ 32 ∷ [])
    → e ≡ take 132 (d ++ card)
    → e ≡ number ++ 32 ∷ [] ++ count ++ 32 ∷ 32 ∷ [] ++ card
card_line number count card a b c d e narrow a_is four b_is c_is eight d_is e_is =
    let b_all = uncut a (32 ∷ []) b b_is (omega (arith, four)) in
    let five : length b ≡ 5 = omega (arith, four, ap length b_all, length-append a (32 ∷ [])) in
    let d_all = uncut c (32 ∷ 32 ∷ []) d d_is (omega (arith, five, eight)) in
    let fifteen : length d ≡ 15 = omega (arith, five, eight, ap length d_all, length-append c (32 ∷ 32 ∷ [])) in
    let e_all = uncut d card e e_is (omega (arith, fifteen, narrow)) in
    e_all ∙ ap (λ (line : List ℕ). line ++ card) (d_all ∙ ap (λ (line : List ℕ). line ++ 32 ∷ 32 ∷ []) (c_is ∙ ap (λ (line : List ℕ). line ++ count) (b_all ∙ ap (λ (line : List ℕ). line ++ 32 ∷ []) a_is)))
