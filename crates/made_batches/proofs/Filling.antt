-- The batch with a job more.
use Rattle.std.proofs.Common.{◌≡◌, ◌∙◌, sym, refl, ap, ap₂, ℕ, ◌+◌, ◌-◌, ◌*◌, ◌/◌, List, [], ◌∷◌, ◌++◌, map, zero, suc, arith, append_assoc, append-nil}
use Rattle.std.specs.Prelude.{◌==◌, if◌then◌else◌, decimal}
use Rattle.std.specs.Fn.{iterate}
use Rattle.std.specs.List.{flat_map, range_with_len}
use Rattle.std.proofs.lemmas.List.Concat.{flat_map-append}
use Rattle.made_batches.specs.Decks.{cards_of, deck_by, filled, in_line, in_lines}
use Rattle.made_batches.specs.Draws.{draw, next}
use Rattle.made_batches.specs.MadeBatch.{account_cards, head_card, job_by, job_cards, made_batch, made_cards, number_by}

-- what stands in place of a byte
abbrev pub filled_byte : ℕ → ℕ → List ℕ
filled_byte number byte = if byte == 35 then decimal number else byte ∷ []

filled_append : (number : ℕ) (xs ys : List ℕ) → filled number (xs ++ ys) ≡ filled number xs ++ filled number ys
filled_append number xs ys = flat_map-append (filled_byte number) xs ys

-- to fill the lines is to fill each card
pub filled_lines : (number : ℕ) (cards : List (List ℕ)) → in_lines (map (filled number) cards) ≡ filled number (in_lines cards)
filled_lines number [] = refl
filled_lines number (card ∷ cards) =
    ap (λ (bytes : List ℕ). in_line (filled number card) ++ bytes) (filled_lines number cards)
    ∙ ap (λ (bytes : List ℕ). bytes ++ filled number (in_lines cards)) (sym (filled_append number card (10 ∷ [])))
    ∙ sym (filled_append number (in_line card) (in_lines cards))

pub iterate_more : (n x : ℕ) → iterate next (suc n) x ≡ next (iterate next n x)
iterate_more zero x = refl
iterate_more (suc n) x = iterate_more n (next x)

pub state_more : (seed n state : ℕ) → state ≡ iterate next (2 * n) seed → next (next state) ≡ iterate next (2 * (n + 1)) seed
state_more seed n state at =
    let two : 2 * (n + 1) ≡ suc (suc (2 * n)) = omega arith in
    sym (ap (λ (k : ℕ). iterate next k seed) two
    ∙ iterate_more (suc (2 * n)) seed
    ∙ ap next (iterate_more (2 * n) seed ∙ ap next (sym at)))

first_draw : (seed n state : ℕ) → state ≡ iterate next (2 * n) seed → iterate next (2 * (n + 1) - 1) seed ≡ next state
first_draw seed n state at =
    let one : 2 * (n + 1) - 1 ≡ suc (2 * n) = omega arith in
    ap (λ (k : ℕ). iterate next k seed) one ∙ iterate_more (2 * n) seed ∙ ap next (sym at)

range_more : (from n : ℕ) → range_with_len from (suc n) ≡ range_with_len from n ++ (from + n) ∷ []
range_more from zero = let e : from ≡ from + 0 = omega arith in ap (λ (k : ℕ). k ∷ []) e
range_more from (suc n) =
    let e : from + 1 + n ≡ from + suc n = omega arith in
    ap (λ (ks : List ℕ). from ∷ ks) (range_more (from + 1) n ∙ ap (λ (k : ℕ). range_with_len (from + 1) n ++ k ∷ []) e)

pub cards_more : (seed n : ℕ) → made_cards seed (suc n) ≡ made_cards seed n ++ job_cards seed (1 + n)
cards_more seed n =
    ap (λ (ks : List ℕ). account_cards ++ flat_map (job_cards seed) ks) (range_more 1 n)
    ∙ ap (λ (cards : List (List ℕ)). account_cards ++ cards) (flat_map-append (job_cards seed) (range_with_len 1 n) ((1 + n) ∷ [])
    ∙ ap (λ (cards : List (List ℕ)). flat_map (job_cards seed) (range_with_len 1 n) ++ cards) (append-nil (job_cards seed (1 + n))))
    ∙ sym (append_assoc account_cards (flat_map (job_cards seed) (range_with_len 1 n)) (job_cards seed (1 + n)))

-- the text of a job, by the draws that it makes
job_text : (job first second : ℕ) → in_lines (job_by job first second) ≡ in_line (head_card job) ++ filled (number_by second) (in_lines (cards_of (deck_by first)))
job_text job first second = ap (λ (bytes : List ℕ). in_line (head_card job) ++ bytes) (filled_lines (number_by second) (cards_of (deck_by first)))

-- the batch with a job more, where the generator stands behind the draws of the jobs before it
pub batch_more : (seed n state : ℕ) → state ≡ iterate next (2 * n) seed
    → made_batch seed (n + 1) ≡ made_batch seed n ++ (in_line (head_card (n + 1))
    ++ filled (number_by (next (next state) / 65536)) (in_lines (cards_of (deck_by (next state / 65536)))))
batch_more seed n state at =
    let one : n + 1 ≡ suc n = omega arith in
    let job : 1 + n ≡ n + 1 = omega arith in
    let first : draw seed (2 * (n + 1) - 1) ≡ next state / 65536 = ap (λ (x : ℕ). x / 65536) (first_draw seed n state at) in
    let second : draw seed (2 * (n + 1)) ≡ next (next state) / 65536 = ap (λ (x : ℕ). x / 65536) (sym (state_more seed n state at)) in
    ap (made_batch seed) one
    ∙ ap in_lines (cards_more seed n)
    ∙ flat_map-append in_line (made_cards seed n) (job_cards seed (1 + n))
    ∙ ap (λ (bytes : List ℕ). made_batch seed n ++ bytes) (ap (λ (j : ℕ). in_lines (job_cards seed j)) job
    ∙ ap₂ (λ (a b : ℕ). in_lines (job_by (n + 1) a b)) first second
    ∙ job_text (n + 1) (next state / 65536) (next (next state) / 65536))
