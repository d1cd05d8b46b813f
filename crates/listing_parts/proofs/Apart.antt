-- A listing can be taken apart in one way.
use Rattle.std.proofs.Common.{◌≡◌, ℕ, List, [], ◌∷◌, ◌++◌, Some, None, refl, sym, ap, ◌∙◌, codes, append_assoc, subst, drop, length}
use Rattle.std.proofs.lemmas.List.{append_cancel_right, drop_at}
use Rattle.listing_parts.specs.Laws.{ApartInOneWay}
use Rattle.listing_parts.specs.Lines.{IsUpward, text_up}
use Rattle.listing_parts.specs.Reads.{Left}
use Rattle.listing_parts.specs.Sections.{begins, ends_in_digit, IsSum, AreSections, heading, section_and, IsClosing, closing, IsListing}
use Rattle.listing_parts.specs.Upwards.{above_all, above_closing, above_empty, above_head, above_sum, above_text}
use Rattle.listing_parts.proofs.Texts.{text_up-append}
use Rattle.listing_parts.proofs.Counts.{no_both, sum_begins, sum_once}
use Rattle.listing_parts.proofs.Sections.{all_above, section_read, ReadsSection, by_refusal, by_sum}

pub closing_read : (lines above : List (List ℕ)) → IsClosing lines → above_closing (lines ++ above) ≡ Some above
closing_read _ above (closing stray balances all) =
    let place : (balances ++ codes "CLOSING BALANCES" ∷ [] ∷ []) ++ above ≡ balances ++ codes "CLOSING BALANCES" ∷ [] ∷ above = append_assoc balances (codes "CLOSING BALANCES" ∷ [] ∷ []) above in
    ap (λ xs. above_empty (above_text (codes "CLOSING BALANCES") (above_all ends_in_digit xs))) place
    ∙ ap (λ xs. above_empty (above_text (codes "CLOSING BALANCES") xs)) (all_above ends_in_digit balances (codes "CLOSING BALANCES") ([] ∷ above) all refl)

-- lines are read in one way
one_reading : (lines lines' above above' : List (List ℕ)) → lines ≡ lines' → ReadsSection lines above → ReadsSection lines' above' → above ≡ above'
one_reading lines lines' above above' e (by_refusal last up is differs reads) (by_refusal last' up' is' no' reads') =
    let same : last ∷ up ≡ last' ∷ up' = sym is ∙ e ∙ is' in
    let ups : up ≡ up' = cc in
    let both : Some above ≡ Some above' = sym reads ∙ ap above_head ups ∙ reads' in
    cc
one_reading lines lines' above above' e (by_refusal last up is differs reads) (by_sum last' up' n' is' sum' reads') =
    let same : last ∷ up ≡ last' ∷ up' = sym is ∙ e ∙ is' in
    let lasts : last ≡ last' = cc in
    absurd (no_both last' n' (sym (ap (begins 82) lasts) ∙ differs) sum')
one_reading lines lines' above above' e (by_sum last up n is sum reads) (by_refusal last' up' is' no' reads') =
    let same : last ∷ up ≡ last' ∷ up' = sym is ∙ e ∙ is' in
    let lasts : last ≡ last' = cc in
    absurd (no_both last n (ap (begins 82) lasts ∙ no') sum)
one_reading lines lines' above above' e (by_sum last up n is sum reads) (by_sum last' up' n' is' sum' reads') =
    let same : last ∷ up ≡ last' ∷ up' = sym is ∙ e ∙ is' in
    let lasts : last ≡ last' = cc in
    let ups : up ≡ up' = cc in
    let Q : List ℕ → Type 0 = λ l. IsSum l n' in
    let counts : n ≡ n' = sum_once last n n' sum (subst Q (sym lasts) sum') in
    let both : Some above ≡ Some above' = sym reads ∙ ap (λ k. above_sum k up) counts ∙ ap (above_sum n') ups ∙ reads' in
    cc

-- the heading is no section
pub not_heading : (lines above : List (List ℕ)) → lines ≡ codes "ALGOL W BATCH" ∷ [] → ReadsSection lines above → ⊥
not_heading lines above e (by_refusal last up is differs reads) =
    let same : last ∷ up ≡ codes "ALGOL W BATCH" ∷ [] = sym is ∙ e in
    let lasts : last ≡ codes "ALGOL W BATCH" = cc in
    cc (differs, ap (begins 82) lasts)
not_heading lines above e (by_sum last up n is sum reads) =
    let same : last ∷ up ≡ codes "ALGOL W BATCH" ∷ [] = sym is ∙ e in
    let lasts : last ≡ codes "ALGOL W BATCH" = cc in
    cc (sum_begins last n sum, ap (begins 67) lasts)

same_sections : (lines lines' : List (List ℕ)) (sections sections' : List (List (List ℕ))) → lines ≡ lines' → AreSections lines sections → AreSections lines' sections' → sections ≡ sections'
same_sections _ _ _ _ e heading heading = refl
same_sections _ _ _ _ e heading (section_and s above ss is rest) = absurd (not_heading (s ++ above) above (sym e) (section_read s above is))
same_sections _ _ _ _ e (section_and s above ss is rest) heading = absurd (not_heading (s ++ above) above e (section_read s above is))
same_sections _ _ _ _ e (section_and s above ss is rest) (section_and s' above' ss' is' rest') =
    let aboves : above ≡ above' = one_reading (s ++ above) (s' ++ above') above above' e (section_read s above is) (section_read s' above' is') in
    let firsts : s ≡ s' = append_cancel_right s s' above (e ∙ ap (λ a. s' ++ a) (sym aboves)) in
    let others : ss ≡ ss' = same_sections above above' ss ss' aboves rest rest' in
    cc

pub apart_in_one_way : ApartInOneWay
apart_in_one_way lines below below' sections sections' h h' =
    let both : Some h.above ≡ Some h'.above =
    sym (ap above_closing h.whole ∙ closing_read below h.above h.is_closing) ∙ (ap above_closing h'.whole ∙ closing_read below' h'.above h'.is_closing) in
    let aboves : h.above ≡ h'.above = cc in
    record {
      closing_same = append_cancel_right below below' h.above (sym h.whole ∙ h'.whole ∙ ap (λ a. below' ++ a) (sym aboves));
      sections_same = same_sections h.above h'.above sections sections' aboves h.are_sections h'.are_sections;
    }

-- what stands above the closing lines, and their text
pub closing_left : (lines below : List (List ℕ)) (sections : List (List (List ℕ))) (text above : List ℕ) → IsUpward text lines → (listing : IsListing lines below sections)
    → Left (above_closing lines) above → IsUpward above listing.above × (drop (length above) text ≡ text_up below)
closing_left lines below sections text above h listing left =
    let both : Some left.up ≡ Some listing.above = sym left.is ∙ ap above_closing listing.whole ∙ closing_read below listing.above listing.is_closing in
    let ups : left.up ≡ listing.above = cc in
    let P : List (List ℕ) → Type 0 = λ ls. IsUpward above ls in
    let has : IsUpward above listing.above = subst P ups left.rest in (
      has,
      ap (drop (length above)) (h.whole ∙ ap text_up listing.whole ∙ text_up-append below listing.above) ∙ drop_at (text_up listing.above) (text_up below) (length above) (ap length (sym has.whole)),
    )

pub closing_there : (lines below : List (List ℕ)) (sections : List (List (List ℕ))) → IsListing lines below sections → above_closing lines ≡ None → ⊥
closing_there lines below sections listing none = cc (none, ap above_closing listing.whole, closing_read below listing.above listing.is_closing)
