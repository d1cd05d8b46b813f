use Rattle.std.proofs.Common.{◌≡◌, ◌++◌, ◌∙◌, ℕ, List, map, flat_map, reverse, ap}
use Rattle.std.specs.Borrow.{Bor}
use Rattle.listing_cut.proofs.Reversed.{map_reverse}
use Rattle.listing_parts.specs.Lines.{text_up}
use Rattle.listing_cut.specs.Rows.{row}
use Rattle.listing_cut.proofs.rows.listing_rows.Goals as goal

pub returns-in_default : goal.returns-in_default
returns-in_default c = λ lines closing sections h listing.
    rw c.in_default.is at (c.in_ok-parts.ensures lines closing sections h listing)

pub returns : goal.returns
returns c = λ lines closing sections h listing.
    let texts = rw c.in-Some.is at (c.in_ok-parts.ensures lines closing sections h listing) in
    let shown : map (λ (s : Bor (List ℕ)). s.now) c.as_slice.result.now ≡ reverse (map (λ (s : Bor (List ℕ)). s.now) c.in-Some.parts.sections.items) =
    ap (map (λ (s : Bor (List ℕ)). s.now)) (c.as_slice.ensures.value ∙ c.reverse.ensures.items) ∙ map_reverse (λ (s : Bor (List ℕ)). s.now) c.in-Some.parts.sections.items in
    let sections_there = ap (λ (v : List (List ℕ)). flat_map row v) (shown ∙ ap reverse texts.0) in
    let rows_there = c.in_ok-push_rows.ensures ∙ ap (λ (t : List ℕ). t ++ flat_map row (map (λ (s : Bor (List ℕ)). s.now) c.as_slice.result.now)) c.new-out.ensures.items ∙ sections_there in
    c.in_ok-push_row.ensures ∙ ap (λ (t : List ℕ). t ++ row c.in-Some.parts.closing.now) rows_there ∙ ap (λ (t : List ℕ). flat_map row (reverse (map (λ (s : List (List ℕ)). text_up s) sections)) ++ row t) texts.1
