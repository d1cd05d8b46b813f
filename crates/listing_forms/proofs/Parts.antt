-- The sections of a batch's jobs, put together.
use Rattle.std.proofs.Common.{◌≡◌, ℕ, ◌+◌, Bool, true, false, List, [], ◌∷◌, ◌++◌, length, map, reverse, take, flat_map, All, codes, decimal, if◌then◌else◌, refl, sym, ap, ◌∙◌, append_assoc, append-nil, arith, Option, Some, None}
use Rattle.std.specs.List.{enumerate_from, list_all}
use Rattle.std.proofs.Math.Seq.{take-append_seam}
use Rattle.std.proofs.lemmas.List.{reverse-append, map-append, length-append}
use Rattle.std.proofs.lemmas.List.Elements.{All-nil, All-cons, All-head, All-tail, All-append}
use Rattle.deck_reader.specs.declared.batch.Flaw.{Flaw}
use Rattle.deck_reader.specs.declared.batch.Flaw.TheVariants as flaws
use Rattle.deck_reader.specs.Flaws.{flaw_number, flaw_text}
use Rattle.deck_reader.specs.JobView.{JobView}
use Rattle.account_book.specs.Charges.{reserve}
use Rattle.account_book.specs.Places.{place_balance, covers}
use Rattle.algolw_meaning.specs.Charging.{charged}
use Rattle.algolw_meaning.specs.Texts.{line}
use Rattle.batch_listing.specs.declared.verdict.Verdict.TheVariants.{Flawed, Refused, Accepted}
use Rattle.batch_listing.specs.Listing.{verdict_by, verdict, body, section, sections}
use Rattle.listing_parts.specs.Lines.{text_up}
use Rattle.listing_parts.specs.Sections.{refused, AreSections, section_and, head, begins}
use Rattle.printed_lines.specs.Texts.{IsText}
use Rattle.listing_parts.proofs.Texts.{text_up-append}
use Rattle.printed_lines.proofs.Texts.{is_printable, text_nil, text_append, text_of, text_decimal}
use Rattle.printable_decks.specs.Laws.{JobHolds}
use Rattle.section_forms.specs.Laws.{HasForm, IsFit, SectionsHaveForm}
use Rattle.listing_forms.specs.Laws.{texts_after, IsListable}

-- ---- one section

refused_has : (title text : List ℕ) → IsText title → begins 74 title ≡ true → IsText text → begins 82 text ≡ true → HasForm title (line text)
refused_has title text h j k r = record {
  up = text ∷ head title;
  whole = sym (append_assoc (line [] ++ line title) text (10 ∷ []));
  texts = All-cons IsText text (head title) k (All-cons IsText title ([] ∷ []) h (All-cons IsText [] [] text_nil (All-nil IsText)));
  form = refused text title r j;
}

flaw_prints : (flaw : Flaw) → list_all is_printable (flaw_text flaw) ≡ true
flaw_prints flaws.CardTooLong = refl
flaw_prints flaw = refl

-- the title of a job
abbrev title_text : JobView → List ℕ
title_text job = codes "JOB " ++ decimal job.number ++ codes " " ++ job.name ++ codes " " ++ job.account_name

title_is_text : (job : JobView) → IsListable job → IsText (title_text job)
title_is_text job h = text_append (text_append (text_append (text_append (text_append (text_of (codes "JOB ") refl) (text_decimal job.number)) (text_of (codes " ") refl)) h.name) (text_of (codes " ") refl)) h.account_name

flawed_has : (title : List ℕ) (flaw : Flaw) (job : JobView) → IsText title → begins 74 title ≡ true → HasForm title (body (Flawed flaw) job)
flawed_has title flaw job h j = refused_has title (codes "REFUSED " ++ decimal (flaw_number flaw) ++ codes ": " ++ flaw_text flaw) h j (text_append (text_append (text_append (text_of (codes "REFUSED ") refl) (text_decimal (flaw_number flaw))) (text_of (codes ": ") refl)) (text_of (flaw_text flaw) (flaw_prints flaw))) refl

poor_has : (title : List ℕ) (most balance : ℕ) (job : JobView) → IsText title → begins 74 title ≡ true → HasForm title (body (Refused most balance) job)
poor_has title most balance job h j = refused_has title (codes "REFUSED: RESERVE " ++ decimal most ++ codes ", BALANCE " ++ decimal balance) h j (text_append (text_append (text_append (text_of (codes "REFUSED: RESERVE ") refl) (text_decimal most)) (text_of (codes ", BALANCE ") refl)) (text_decimal balance)) refl

account_has : SectionsHaveForm → (title : List ℕ) (job : JobView) (account : Option ℕ) (balance : ℕ → ℕ) → JobHolds job → IsFit job → IsText title → begins 74 title ≡ true → HasForm title (body (verdict_by None account (reserve job) balance) job)
account_has forms title job None balance p fit h j = poor_has title (reserve job) 0 job h j
account_has forms title job (Some account) balance p fit h j = go (covers balance (Some account) (reserve job))
  where
    go : (b : Bool) → HasForm title (body (if b then Accepted account else Refused (reserve job) (balance account)) job)
    go true = forms job title p fit h j
    go false = poor_has title (reserve job) (balance account) job h j

verdict_has : SectionsHaveForm → (title : List ℕ) (job : JobView) (flaw : Option Flaw) (balance : ℕ → ℕ) → JobHolds job → (flaw ≡ None → IsFit job) → IsText title → begins 74 title ≡ true → HasForm title (body (verdict_by flaw job.account (reserve job) balance) job)
verdict_has forms title job None balance p fit h j = account_has forms title job job.account balance p (fit refl) h j
verdict_has forms title job (Some flaw) balance p fit h j = flawed_has title flaw job h j

section_has : SectionsHaveForm → (openings : List ℕ) (earlier : List JobView) (job : JobView) → IsListable job → HasForm (title_text job) (body (verdict (place_balance openings (map charged earlier)) job) job)
section_has forms openings earlier job h = verdict_has forms (title_text job) job job.flaw (place_balance openings (map charged earlier)) h.cards h.fit (title_is_text job h) refl

-- ---- all sections

-- sections of these texts put below others
pub record AreBelow (above : List (List ℕ)) (done : List (List (List ℕ))) (texts : List (List ℕ)) : Type 0 where
  pub up : List (List ℕ)
  pub parts : List (List (List ℕ))
  pub whole : text_up up ≡ text_up above ++ flat_map (λ text. text) texts
  pub each : All IsText up
  pub form : AreSections up parts
  pub are : map text_up (reverse parts) ≡ map text_up (reverse done) ++ texts

one_more : (part : List (List ℕ)) (done : List (List (List ℕ))) → map text_up (reverse (part ∷ done)) ≡ map text_up (reverse done) ++ text_up part ∷ []
one_more part done = ap (map text_up) (reverse-append (part ∷ []) done) ∙ map-append text_up (reverse done) (part ∷ [])

pub below : SectionsHaveForm → (openings : List ℕ) (earlier jobs : List JobView) (above : List (List ℕ)) (done : List (List (List ℕ))) → All IsListable jobs → All IsText above → AreSections above done → AreBelow above done (texts_after openings earlier jobs)
below forms openings earlier [] above done h t f = record { up = above; parts = done; whole = sym (append-nil (text_up above)); each = t; form = f; are = sym (append-nil (map text_up (reverse done))) }
below forms openings earlier (job ∷ jobs) above done h t f =
    let s = section_has forms openings earlier job (All-head IsListable job jobs h) in
    let text = section openings earlier job in
    let more = texts_after openings (earlier ++ job ∷ []) jobs in
    let b = below forms openings (earlier ++ job ∷ []) jobs (s.up ++ above) (s.up ∷ done) (All-tail IsListable job jobs h) (All-append IsText s.up above s.texts t) (section_and s.up above done s.form f) in
    record {
      up = b.up;
      parts = b.parts;
      whole = b.whole ∙ ap (λ (x : List ℕ). x ++ flat_map (λ y. y) more) (text_up-append s.up above ∙ ap (λ (x : List ℕ). text_up above ++ x) (sym s.whole)) ∙ append_assoc (text_up above) text (flat_map (λ y. y) more);
      each = b.each;
      form = b.form;
      are = b.are ∙ ap (λ (x : List (List ℕ)). x ++ more) (one_more s.up done ∙ ap (λ (x : List ℕ). map text_up (reverse done) ++ x ∷ []) (sym s.whole)) ∙ append_assoc (map text_up (reverse done)) (text ∷ []) more;
    }

-- ---- the sections of a batch

sections_from : (openings : List ℕ) (all front jobs : List JobView) (n : ℕ) → n ≡ length front → all ≡ front ++ jobs → flat_map (λ p. section openings (take p.0 all) p.1) (enumerate_from n jobs) ≡ flat_map (λ text. text) (texts_after openings front jobs)
sections_from openings all front [] n e f = refl
sections_from openings all front (job ∷ jobs) n e f =
    let here : take n all ≡ front = ap (λ (k : ℕ). take k all) e ∙ ap (take (length front)) f ∙ take-append_seam front (job ∷ jobs) in
    ap (λ (earlier : List JobView). section openings earlier job ++ flat_map (λ p. section openings (take p.0 all) p.1) (enumerate_from (n + 1) jobs)) here
    ∙ ap (λ (t : List ℕ). section openings front job ++ t) (sections_from openings all (front ++ job ∷ []) jobs (n + 1) (omega (arith, e, length-append front (job ∷ []))) (f ∙ sym (append_assoc front (job ∷ []) jobs)))

pub sections_are : (openings : List ℕ) (jobs : List JobView) → sections openings jobs ≡ flat_map (λ text. text) (texts_after openings [] jobs)
sections_are openings jobs = sections_from openings jobs [] jobs 0 refl refl
