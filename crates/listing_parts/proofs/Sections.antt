-- A section is read upwards to the line above it.
use Rattle.std.proofs.Common.{◌≡◌, ℕ, ◌==◌, not, Bool, true, false, List, [], ◌∷◌, ◌++◌, Some, None, length, refl, sym, ap, ◌∙◌, codes, append_assoc}
use Rattle.std.specs.List.{list_all}
use Rattle.std.proofs.lemmas.List.{drop_at}
use Rattle.listing_parts.specs.Sections.{begins, is_card, head, IsSum, IsSection, refused, diagnosed, ended, stopped}
use Rattle.listing_parts.specs.Upwards.{above_all, above_text, above_head, above_deck, above_dump, above_ending, above_line, above_output, above_run, above_sum, one_of}
use Rattle.listing_parts.proofs.Tests.{and_left, and_right, all_append, begins_alone, begins_no_card, other_text, card_begins}

-- the lines that are so end at the first that isn't
pub all_above : (p : List ℕ → Bool) (xs : List (List ℕ)) (y : List ℕ) (ys : List (List ℕ)) → list_all p xs ≡ true → p y ≡ false → above_all p (xs ++ y ∷ ys) ≡ y ∷ ys
all_above p [] y ys h n = rw n refl
all_above p (x ∷ xs) y ys h n = rw (and_left (p x) (list_all p xs) h) (all_above p xs y ys (and_right (p x) (list_all p xs) h) n)

pub deck_read : (cards : List (List ℕ)) (title : List ℕ) (up : List (List ℕ)) → list_all is_card cards ≡ true → begins 74 title ≡ true
    → above_deck (cards ++ title ∷ [] ∷ up) ≡ Some up
deck_read cards title up all is =
    rw (all_above is_card cards title ([] ∷ up) all (begins_no_card 74 title is refl)) (rw is refl)

not_true : (b : Bool) → not b ≡ true → b ≡ false
not_true true h = absurd (cc h)
not_true false h = refl

dump_step : (v : Bool) (x : List ℕ) (rest : List (List ℕ)) → begins 32 x ≡ v → begins 80 x ≡ false → above_dump rest ≡ None → above_dump (x ∷ rest) ≡ None
dump_step true x rest is differs more = rw is more
dump_step false x rest is differs more = rw is (rw (other_text 80 x (codes "OST-MORTEM") differs) refl)

-- no dump ends lines of which none begins as its title
pub no_dump : (xs : List (List ℕ)) (title : List ℕ) (up : List (List ℕ)) → list_all (λ x. not (begins 80 x)) xs ≡ true → begins 74 title ≡ true
    → above_dump (xs ++ title ∷ up) ≡ None
no_dump [] title up h is =
    rw (begins_alone 74 32 title is refl) (rw (other_text 80 title (codes "OST-MORTEM") (begins_alone 74 80 title is refl)) refl)
no_dump (x ∷ xs) title up h is =
    dump_step (begins 32 x) x (xs ++ title ∷ up) refl (not_true (begins 80 x) (and_left (not (begins 80 x)) (list_all (λ x. not (begins 80 x)) xs) h))
    (no_dump xs title up (and_right (not (begins 80 x)) (list_all (λ x. not (begins 80 x)) xs) h) is)

-- no ending of a run ends lines of which none begins as one
pub not_ended : (xs : List (List ℕ)) (title : List ℕ) (up : List (List ℕ)) → list_all (λ x. not (begins 69 x)) xs ≡ true → begins 74 title ≡ true
    → above_text (codes "ENDED NORMALLY") (xs ++ title ∷ up) ≡ None
not_ended [] title up h is = rw (other_text 69 title (codes "NDED NORMALLY") (begins_alone 74 69 title is refl)) refl
not_ended (x ∷ xs) title up h is =
    rw (other_text 69 x (codes "NDED NORMALLY") (not_true (begins 69 x) (and_left (not (begins 69 x)) (list_all (λ x. not (begins 69 x)) xs) h))) refl

all_other : (p q : List ℕ → Bool) (xs : List (List ℕ)) → ((x : List ℕ) → p x ≡ true → q x ≡ false) → list_all p xs ≡ true → list_all (λ x. not (q x)) xs ≡ true
all_other p q [] other h = refl
all_other p q (x ∷ xs) other h =
    rw (other x (and_left (p x) (list_all p xs) h)) (all_other p q xs other (and_right (p x) (list_all p xs) h))

-- diagnostics and cards
neither : (b : ℕ) (diagnostics cards : List (List ℕ)) → (68 == b) ≡ false → is_card (b ∷ []) ≡ false → list_all (begins 68) diagnostics ≡ true → list_all is_card cards ≡ true
    → list_all (λ x. not (begins b x)) (diagnostics ++ cards) ≡ true
neither b diagnostics cards differs none ds cs =
    all_append (λ x. not (begins b x)) diagnostics cards
    (all_other (begins 68) (begins b) diagnostics (λ x h. begins_alone 68 b x h differs) ds)
    (all_other is_card (begins b) cards (λ x h. card_begins b x h none) cs)

diagnostics_read : (diagnostics cards : List (List ℕ)) (title : List ℕ) (up : List (List ℕ)) → list_all (begins 68) diagnostics ≡ true → list_all is_card cards ≡ true → begins 74 title ≡ true
    → above_all (begins 68) (diagnostics ++ (cards ++ title ∷ [] ∷ up)) ≡ cards ++ title ∷ [] ∷ up
diagnostics_read ds [] title up hd hc is = all_above (begins 68) ds title ([] ∷ up) hd (begins_alone 74 68 title is refl)
diagnostics_read ds (card ∷ cards) title up hd hc is =
    all_above (begins 68) ds card (cards ++ title ∷ [] ∷ up) hd (card_begins 68 card (and_left (is_card card) (list_all is_card cards) hc) refl)

pub diagnosed_read : (printed : ℕ) (diagnostics cards : List (List ℕ)) (title : List ℕ) (up : List (List ℕ)) → list_all (begins 68) diagnostics ≡ true → list_all is_card cards ≡ true
    → begins 74 title ≡ true → above_sum printed (diagnostics ++ (cards ++ title ∷ [] ∷ up)) ≡ Some up
diagnosed_read printed ds cards title up hd hc is =
    let joined : ds ++ (cards ++ title ∷ [] ∷ up) ≡ (ds ++ cards) ++ title ∷ [] ∷ up = sym (append_assoc ds cards (title ∷ [] ∷ up)) in
    let no_end : above_text (codes "ENDED NORMALLY") (ds ++ (cards ++ title ∷ [] ∷ up)) ≡ None = rw joined (not_ended (ds ++ cards) title ([] ∷ up) (neither 69 ds cards refl refl hd hc) is) in
    let none : above_dump (ds ++ (cards ++ title ∷ [] ∷ up)) ≡ None = rw joined (no_dump (ds ++ cards) title ([] ∷ up) (neither 80 ds cards refl refl hd hc) is) in
    let no_ending : above_ending (ds ++ (cards ++ title ∷ [] ∷ up)) ≡ None = ap (λ o. one_of o (above_dump (ds ++ (cards ++ title ∷ [] ∷ up)))) no_end ∙ none in
    ap (λ o. above_run printed o (ds ++ (cards ++ title ∷ [] ∷ up))) no_ending
    ∙ ap above_deck (diagnostics_read ds cards title up hd hc is)
    ∙ deck_read cards title up hc is

-- what a run printed, below its deck
pub printed_read : (printed cards : List (List ℕ)) (title : List ℕ) (up lines : List (List ℕ)) → list_all is_card cards ≡ true → begins 74 title ≡ true
    → above_run (length printed) (Some (printed ++ codes "OUTPUT" ∷ (cards ++ title ∷ [] ∷ up))) lines ≡ Some up
printed_read printed cards title up lines hc is =
    ap (λ xs. above_output (above_text (codes "OUTPUT") xs)) (drop_at printed (codes "OUTPUT" ∷ (cards ++ title ∷ [] ∷ up)) (length printed) refl)
    ∙ deck_read cards title up hc is

dump_first : (dump : List (List ℕ)) (more : List (List ℕ)) → list_all (begins 32) dump ≡ true → above_text (codes "ENDED NORMALLY") (dump ++ codes "POST-MORTEM" ∷ more) ≡ None
dump_first [] more h = refl
dump_first (line ∷ dump) more h =
    rw (other_text 69 line (codes "NDED NORMALLY") (begins_alone 32 69 line (and_left (begins 32 line) (list_all (begins 32) dump) h) refl)) refl

pub stopped_read : (dump : List (List ℕ)) (ending : List ℕ) (more : List (List ℕ)) → list_all (begins 32) dump ≡ true
    → above_ending (dump ++ codes "POST-MORTEM" ∷ ending ∷ more) ≡ Some more
stopped_read dump ending more h =
    ap (λ o. one_of o (above_dump (dump ++ codes "POST-MORTEM" ∷ ending ∷ more))) (dump_first dump (ending ∷ more) h)
    ∙ ap (λ xs. above_line (above_text (codes "POST-MORTEM") xs)) (all_above (begins 32) dump (codes "POST-MORTEM") (ending ∷ more) h refl)

-- ---- a section

-- the last line of a section, and what is read over it
pub data ReadsSection (lines above : List (List ℕ)) : Type 0 where
  by_refusal : (last : List ℕ) (up : List (List ℕ)) → lines ≡ last ∷ up → begins 82 last ≡ true → above_head up ≡ Some above → ReadsSection lines above
  by_sum : (last : List ℕ) (up : List (List ℕ)) (printed : ℕ) → lines ≡ last ∷ up → IsSum last printed → above_sum printed up ≡ Some above → ReadsSection lines above

pub section_read : (section above : List (List ℕ)) → IsSection section → ReadsSection (section ++ above) above
section_read _ above (refused line title differs is) = by_refusal line (title ∷ [] ∷ above) refl differs (rw is refl)
section_read _ above (diagnosed sum title printed ds cards counts hd hc is) =
    let place : (ds ++ (cards ++ head title)) ++ above ≡ ds ++ (cards ++ title ∷ [] ∷ above) = simp append_assoc in
    by_sum sum ((ds ++ (cards ++ head title)) ++ above) printed refl counts (rw place (diagnosed_read printed ds cards title above hd hc is))
section_read _ above (ended sum title printed cards counts hc is) =
    let place : (printed ++ codes "OUTPUT" ∷ (cards ++ head title)) ++ above ≡ printed ++ codes "OUTPUT" ∷ (cards ++ title ∷ [] ∷ above) = simp append_assoc in
    by_sum sum (codes "ENDED NORMALLY" ∷ ((printed ++ codes "OUTPUT" ∷ (cards ++ head title)) ++ above)) (length printed) refl counts
    (rw place (printed_read printed cards title above (codes "ENDED NORMALLY" ∷ (printed ++ codes "OUTPUT" ∷ (cards ++ title ∷ [] ∷ above))) hc is))
section_read _ above (stopped sum ending title dump printed cards counts hd hc is) =
    let more = printed ++ codes "OUTPUT" ∷ (cards ++ title ∷ [] ∷ above) in
    let place : (dump ++ codes "POST-MORTEM" ∷ ending ∷ (printed ++ codes "OUTPUT" ∷ (cards ++ head title))) ++ above ≡ dump ++ codes "POST-MORTEM" ∷ ending ∷ (printed ++ codes "OUTPUT" ∷ (cards ++ title ∷ [] ∷ above)) = simp append_assoc in
    let lines = dump ++ codes "POST-MORTEM" ∷ ending ∷ (printed ++ codes "OUTPUT" ∷ (cards ++ title ∷ [] ∷ above)) in
    by_sum sum ((dump ++ codes "POST-MORTEM" ∷ ending ∷ (printed ++ codes "OUTPUT" ∷ (cards ++ head title))) ++ above) (length printed) refl counts
    (rw place (ap (λ o. above_run (length printed) o lines) (stopped_read dump ending more hd) ∙ printed_read printed cards title above lines hc is))
