-- Sections that are taken off one after the other.
use Rattle.std.proofs.Common.{◌≡◌, ℕ, Bool, true, false, List, [], ◌∷◌, ◌++◌, Option, Some, None, length, drop, map, refl, sym, ap, ◌∙◌, codes, append_assoc, append-nil, subst, not, bytes_eq}
use Rattle.std.specs.Borrow.{Bor}
use Rattle.std.proofs.lemmas.List.{drop_at}
use Rattle.std.proofs.lemmas.Slice.Eq.{bytes_eq-Decides}
use Rattle.listing_parts.specs.Lines.{IsUpward, text_up}
use Rattle.listing_parts.specs.Reads.{Leaves}
use Rattle.listing_parts.specs.Sections.{begins, IsSum, AreSections, heading, section_and}
use Rattle.listing_parts.specs.Upwards.{above_head, above_sum}
use Rattle.listing_parts.proofs.Apart.{not_heading}
use Rattle.listing_parts.proofs.Sections.{section_read, ReadsSection, by_refusal, by_sum}
use Rattle.listing_parts.proofs.Texts.{lines_once, text_up-append}

-- the text has sections that are still to be taken, behind those whose texts these are
pub record StillSections (sections : List (List (List ℕ))) (rest : List ℕ) (texts : List (List ℕ)) : Type 0 where
  pub here : List (List ℕ)
  pub left : List (List (List ℕ))
  pub has : IsUpward rest here
  pub are : AreSections here left
  pub same : map text_up sections ≡ texts ++ map text_up left

pub stack_begins : (lines : List (List ℕ)) (sections : List (List (List ℕ))) (text : List ℕ) → IsUpward text lines → AreSections lines sections → StillSections sections text []
stack_begins lines sections text h are = record { here = lines; left = sections; has = h; are = are; same = refl }

-- what a reading of the last section promises of a text
pub record Reads (text : List ℕ) (result : Option (Bor (List ℕ))) : Type 0 where
  pub refused : (last : List ℕ) (up : List (List ℕ)) → IsUpward text (last ∷ up) → begins 82 last ≡ true → Leaves (above_head up) result
  pub summed : (last : List ℕ) (up : List (List ℕ)) (printed : ℕ) → IsUpward text (last ∷ up) → IsSum last printed → Leaves (above_sum printed up) result

read_by : (text : List ℕ) (result : Option (Bor (List ℕ))) (lines above : List (List ℕ)) → Reads text result → IsUpward text lines → ReadsSection lines above → Leaves (Some above) result
read_by text result lines above reads h (by_refusal last up is so over) =
    let P : List (List ℕ) → Type 0 = λ ls. IsUpward text ls in
    let Q : Option (List (List ℕ)) → Type 0 = λ o. Leaves o result in
    subst Q over (reads.refused last up (subst P is h) so)
read_by text result lines above reads h (by_sum last up printed is sum over) =
    let P : List (List ℕ) → Type 0 = λ ls. IsUpward text ls in
    let Q : Option (List (List ℕ)) → Type 0 = λ o. Leaves o result in
    subst Q over (reads.summed last up printed (subst P is h) sum)

-- the heading's text is no section's
heading_text : IsUpward (codes "ALGOL W BATCH\n") (codes "ALGOL W BATCH" ∷ [])
heading_text = record { whole = refl; each = refl }

ended_by : (lines : List (List ℕ)) (left : List (List (List ℕ))) → AreSections lines left → lines ≡ codes "ALGOL W BATCH" ∷ [] → left ≡ []
ended_by _ _ heading e = refl
ended_by _ _ (section_and s above ss is rest) e = absurd (not_heading (s ++ above) above e (section_read s above is))

pub stack_ends : (sections : List (List (List ℕ))) (rest : List ℕ) (texts : List (List ℕ)) → StillSections sections rest texts → rest ≡ codes "ALGOL W BATCH\n" → texts ≡ map text_up sections
stack_ends sections rest texts still e =
    let P : List ℕ → Type 0 = λ t. IsUpward t still.here in
    let lines = lines_once (codes "ALGOL W BATCH\n") still.here (codes "ALGOL W BATCH" ∷ []) (subst P e still.has) heading_text in
    let none = ended_by still.here still.left still.are lines in
    sym (still.same ∙ ap (λ (ss : List (List (List ℕ))). texts ++ map text_up ss) none ∙ append-nil texts)

-- ---- one more

-- the next section is read, and its text is what stands below what is left
more_by : (sections : List (List (List ℕ))) (rest above : List ℕ) (texts : List (List ℕ)) (result : Bor (List ℕ)) (here : List (List ℕ)) (left : List (List (List ℕ)))
    → result.now ≡ above → Reads rest (Some result) → IsUpward rest here → map text_up sections ≡ texts ++ map text_up left → (rest ≡ codes "ALGOL W BATCH\n" → ⊥) → AreSections here left
    → StillSections sections above (texts ++ drop (length above) rest ∷ [])
more_by sections rest above texts result _ _ is reads h same other heading = absurd (other (h.whole))
more_by sections rest above texts result _ _ is reads h same other (section_and s over ss one more) =
    let left = read_by rest (Some result) (s ++ over) over reads h (section_read s over one) in
    let overs : left.up ≡ over = cc (left.is) in
    let P : List (List ℕ) → Type 0 = λ ls. IsUpward above ls in
    let Q : List ℕ → Type 0 = λ t. IsUpward t left.up in
    let has : IsUpward above over = subst P overs (subst Q is left.rest) in
    let text : drop (length above) rest ≡ text_up s =
    ap (drop (length above)) (h.whole ∙ text_up-append s over) ∙ drop_at (text_up over) (text_up s) (length above) (ap length (sym has.whole)) in
    record {
      here = over;
      left = ss;
      has = has;
      are = more;
      same = same ∙ ap (λ (t : List ℕ). texts ++ t ∷ map text_up ss) (sym text) ∙ sym (append_assoc texts (drop (length above) rest ∷ []) (map text_up ss));
    }

pub stack_more : (sections : List (List (List ℕ))) (rest above : List ℕ) (texts : List (List ℕ)) (result : Bor (List ℕ)) → StillSections sections rest texts
    → result.now ≡ above → Reads rest (Some result) → (rest ≡ codes "ALGOL W BATCH\n" → ⊥) → StillSections sections above (texts ++ drop (length above) rest ∷ [])
stack_more sections rest above texts result still is reads other = more_by sections rest above texts result still.here still.left is reads still.has still.same other still.are

none_by : (rest : List ℕ) (here : List (List ℕ)) (left : List (List (List ℕ))) → Reads rest None → IsUpward rest here → (rest ≡ codes "ALGOL W BATCH\n" → ⊥) → AreSections here left → ⊥
none_by rest _ _ reads h other heading = other h.whole
none_by rest _ _ reads h other (section_and s over ss one more) = cc (read_by rest None (s ++ over) over reads h (section_read s over one))

pub stack_none : (sections : List (List (List ℕ))) (rest : List ℕ) (texts : List (List ℕ)) → StillSections sections rest texts → Reads rest None → (rest ≡ codes "ALGOL W BATCH\n" → ⊥) → ⊥
stack_none sections rest texts still reads other = none_by rest still.here still.left reads still.has other still.are

-- ---- the heading, by a test

not_false : (b : Bool) → not b ≡ false → b ≡ true
not_false true h = refl
not_false false h = absurd (cc h)

pub agrees : (text : List ℕ) (other : Bool) → other ≡ not (bytes_eq text (codes "ALGOL W BATCH\n")) → other ≡ false → text ≡ codes "ALGOL W BATCH\n"
agrees text other is h = (bytes_eq-Decides text (codes "ALGOL W BATCH\n")).0 (not_false (bytes_eq text (codes "ALGOL W BATCH\n")) (sym is ∙ h))

pub differs : (text : List ℕ) (other : Bool) → other ≡ not (bytes_eq text (codes "ALGOL W BATCH\n")) → other ≡ true → text ≡ codes "ALGOL W BATCH\n" → ⊥
differs text other is h e =
    let same : bytes_eq text (codes "ALGOL W BATCH\n") ≡ true = (bytes_eq-Decides text (codes "ALGOL W BATCH\n")).1 e in
    let no_other : not (bytes_eq text (codes "ALGOL W BATCH\n")) ≡ false = ap not same in
    cc (is, h, no_other)
