-- A batch of made jobs isn't too large.
use Rattle.std.proofs.Common.{◌≡◌, ◌≤◌, ◌∙◌, sym, refl, ap, ap₂, ℕ, ◌+◌, ◌*◌, Bool, true, false, nat_lt, List, [], ◌∷◌, ◌++◌, length, map, suc, zero, arith, append_assoc, append-nil, count_by}
use Rattle.std.specs.Prelude.{◌&&◌, ◌||◌, not}
use Rattle.std.proofs.lemmas.Bool.Decides.{nat_tests}
use Rattle.std.proofs.lemmas.List.{length-append}
use Rattle.std.proofs.lemmas.List.Concat.{flat_map-append}
use Rattle.std.proofs.lemmas.List.Folds.{list_all-append}
use Rattle.deck_reader.specs.Batch.{too_large}
use Rattle.deck_reader.specs.Cards.{cards, cleaned, ended, under_way, unless_empty}
use Rattle.deck_reader.specs.Forms.{is_head}
use Rattle.deck_reader.proofs.Cuts.{ended-feed, under_way-feed}
use Rattle.made_batches.specs.Decks.{in_line, in_lines}
use Rattle.made_batches.specs.MadeBatch.{job_cards, made_batch, made_cards}
use Rattle.made_batches.proofs.Cards.{IsJob, and_first, and_second, are_lines, has_feed, heads, heads-append, is_job, not_true}
use Rattle.made_batches.proofs.Filling.{cards_more}

-- the pieces of these lines, behind bytes that end with a line feed
record Pieces (done : List ℕ) (lines : List (List ℕ)) : Type 0 where
  ended_are : ended (done ++ in_lines lines) ≡ ended done ++ lines
  none_is : under_way (done ++ in_lines lines) ≡ []

pieces_are : (done : List ℕ) (lines : List (List ℕ)) → under_way done ≡ [] → are_lines lines ≡ true → Pieces done lines
pieces_are done [] none h = record { ended_are = ap ended (append-nil done) ∙ sym (append-nil (ended done)); none_is = ap under_way (append-nil done) ∙ none }
pieces_are done (line ∷ lines) none h =
    let more = (done ++ line) ++ 10 ∷ [] in
    let front : ended more ≡ ended done ++ line ∷ [] =
    ended-feed done line (not_true _ (and_first _ _ h)) ∙ ap (λ (bytes : List ℕ). ended done ++ (bytes ++ line) ∷ []) none in
    let same : done ++ in_lines (line ∷ lines) ≡ more ++ in_lines lines =
    sym (ap (λ (bytes : List ℕ). bytes ++ in_lines lines) (append_assoc done line (10 ∷ [])) ∙ append_assoc done (in_line line) (in_lines lines)) in
    let rest = pieces_are more lines (under_way-feed done line) (and_second _ _ h) in
    record {
      ended_are = ap ended same ∙ rest.ended_are ∙ ap (λ (pieces : List (List ℕ)). pieces ++ lines) front ∙ append_assoc (ended done) (line ∷ []) lines;
      none_is = ap under_way same ∙ rest.none_is;
    }

-- the cards of these lines
cards_are : (lines : List (List ℕ)) → are_lines lines ≡ true → cards (in_lines lines) ≡ map cleaned lines
cards_are lines h =
    let pieces = pieces_are [] lines refl h in
    ap₂ (λ (front : List (List ℕ)) (last : List ℕ). map cleaned (front ++ unless_empty last)) pieces.ended_are pieces.none_is
    ∙ ap (map cleaned) (append-nil lines)

-- what the cards of a made batch are
record IsMade (jobs : ℕ) (cards : List (List ℕ)) : Type 0 where
  lines : are_lines cards ≡ true
  few : heads cards ≤ jobs
  short : length (in_lines cards) ≤ 68 + 840 * jobs

both_true : (a b : Bool) → a ≡ true → b ≡ true → (a && b) ≡ true
both_true a b h k = rw (h, k) refl

is_made : (seed jobs : ℕ) → jobs ≤ 2000 → IsMade jobs (made_cards seed jobs)
is_made seed zero most = record { lines = refl; few = omega arith; short = omega arith }
is_made seed (suc n) most =
    let before = made_cards seed n in
    let job = job_cards seed (1 + n) in
    let made = is_made seed n (omega (arith, most)) in
    let more : IsJob job = is_job (1 + n) _ _ (omega (arith, most)) in
    let all = cards_more seed n in
    record {
      lines = ap are_lines all ∙ list_all-append (λ (card : List ℕ). not (has_feed card)) before job ∙ both_true _ _ made.lines more.lines;
      few = omega (arith, ap heads all, heads-append before job, made.few, more.head);
      short = omega (arith, ap (λ (cards : List (List ℕ)). length (in_lines cards)) all, ap length (flat_map-append in_line before job), length-append (in_lines before) (in_lines job), made.short, more.short);
    }

within : (most n : ℕ) → n ≤ most → nat_lt most n ≡ false
within most n h = grind (arith, nat_tests)

pub fits : (seed jobs : ℕ) → jobs ≤ 2000 → too_large (made_batch seed jobs) ≡ false
fits seed jobs most =
    let made = is_made seed jobs most in
    let few : count_by is_head (cards (made_batch seed jobs)) ≤ 2000 = omega (arith, ap (count_by is_head) (cards_are (made_cards seed jobs) made.lines), made.few, most) in
    let short : length (made_batch seed jobs) ≤ 4194304 = omega (arith, made.short, most) in
    ap₂ (λ (a b : Bool). a || b) (within 4194304 (length (made_batch seed jobs)) short) (within 2000 (count_by is_head (cards (made_batch seed jobs))) few)
