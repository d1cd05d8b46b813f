-- Words: what a line begins with up to a blank.
use Rattle.std.proofs.Common.{◌≡◌, ℕ, suc, ◌+◌, ◌<◌, Bool, true, false, not, cond, List, [], ◌∷◌, ◌++◌, length, take, drop, refl, ap, ◌∙◌, arith}
use Rattle.std.proofs.lemmas.Bool.{and_parts, not-true}
use Rattle.std.proofs.lemmas.List.{take_at}
use Rattle.std.specs.List.{prefix_len, list_all}
use Rattle.input_editing.specs.Scanning.{is_blank, ends_item, word}
use Rattle.input_editing.proofs.ItemForms.{is_mark}

-- behind a word is a blank or the line's end
pub behind_word : (line : List ℕ) → ends_item (drop (prefix_len is_mark line) line) ≡ true
behind_word [] = refl
behind_word (c ∷ cs) = by_blank (behind_word cs) (is_blank c) refl
  where
    by_blank : ends_item (drop (prefix_len is_mark cs) cs) ≡ true → (b : Bool) → is_blank c ≡ b → ends_item (drop (cond (is_mark c) (1 + prefix_len is_mark cs) 0) (c ∷ cs)) ≡ true
    by_blank rest true is = ap (λ (b : Bool). ends_item (drop (cond (not b) (1 + prefix_len is_mark cs) 0) (c ∷ cs))) is ∙ is
    by_blank rest false is =
        let next : 1 + prefix_len is_mark cs ≡ suc (prefix_len is_mark cs) = omega arith in
        ap (λ (b : Bool). ends_item (drop (cond (not b) (1 + prefix_len is_mark cs) 0) (c ∷ cs))) is
        ∙ ap (λ (n : ℕ). ends_item (drop n (c ∷ cs))) next
        ∙ rest

-- what has no blanks, and a blank or the line's end behind it, is a word
marks_before : (item behind : List ℕ) → list_all is_mark item ≡ true → ends_item behind ≡ true → prefix_len is_mark (item ++ behind) ≡ length item
marks_before [] [] marks ended = refl
marks_before [] (c ∷ cs) marks ended = ap (λ (b : Bool). cond (not b) (1 + prefix_len is_mark cs) 0) ended
marks_before (c ∷ item) behind marks ended =
    let parts = and_parts (is_mark c) (list_all is_mark item) marks in
    let more : cond (is_mark c) (1 + prefix_len is_mark (item ++ behind)) 0 ≡ 1 + prefix_len is_mark (item ++ behind) = ap (λ (b : Bool). cond b (1 + prefix_len is_mark (item ++ behind)) 0) parts.0 in
    omega (arith, more, marks_before item behind parts.1 ended)

pub word-append : (item behind : List ℕ) → list_all is_mark item ≡ true → ends_item behind ≡ true → word (item ++ behind) ≡ item
word-append item behind marks ended =
    ap (λ (n : ℕ). take n (item ++ behind)) (marks_before item behind marks ended) ∙ take_at item behind (length item) refl

-- an item that has no blanks doesn't begin with one
pub begun_of_marks : (item : List ℕ) → 0 < length item → list_all is_mark item ≡ true → ends_item item ≡ false
begun_of_marks [] some marks = absurd (omega arith)
begun_of_marks (c ∷ cs) some marks = not-true (is_blank c) (and_parts (is_mark c) (list_all is_mark cs) marks).0
