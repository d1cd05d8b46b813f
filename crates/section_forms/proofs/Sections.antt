-- The sections of jobs have the form.
use Rattle.std.proofs.Common.{◌≡◌, ℕ, ◌≤◌, true, List, [], ◌∷◌, ◌++◌, length, All, codes, decimal, refl, sym, ap, subst, ◌∙◌, append_assoc, arith}
use Rattle.std.proofs.lemmas.List.Elements.{All-nil, All-cons, All-append}
use Rattle.value_ops.specs.declared.places.Diagnostic.{Diagnostic}
use Rattle.value_ops.specs.declared.places.Place.{Place}
use Rattle.deck_reader.specs.JobView.{JobView}
use Rattle.account_book.specs.Charges.{charge}
use Rattle.account_book.specs.declared.charges.Counts.{Counts}
use Rattle.algolw_typing.specs.Programs.{program_of}
use Rattle.program_meaning.specs.State.{Outcome, on, jump, stop, Given}
use Rattle.program_meaning.specs.Copying.{Closed}
use Rattle.program_meaning.specs.Results.{state_of, why_text, ending_text, printed_lines, dump_lines, dump_of}
use Rattle.algolw_meaning.specs.Laws.{KeepsTheJob, IsResult, a_wrong_deck, a_faulty_program, a_run}
use Rattle.algolw_meaning.specs.Meaning.{JobResult, counts_of, diagnosed}
use Rattle.algolw_meaning.specs.Running.{counted_lines, dump_section, lines, setting_of, used, run_lines, run_result, program_outcome, job_result}
use Rattle.algolw_meaning.specs.Texts.{line, diagnostic_lines}
use Rattle.algolw_meaning.proofs.Results.{results_of_jobs}
use Rattle.algolw_meaning.proofs.Within.{job_keeps}
use Rattle.listing_parts.specs.Lines.{text_up}
use Rattle.listing_parts.specs.Sections.{IsSection, diagnosed as diagnosed_section, ended, stopped, IsSum, head, begins, is_card}
use Rattle.printed_lines.specs.Texts.{IsText}
use Rattle.printed_lines.proofs.Texts.{text_nil, text_append, text_of, text_decimal}
use Rattle.printable_decks.specs.Laws.{JobHolds, JobsPrintTexts}
use Rattle.section_forms.specs.Laws.{HasForm, IsFit, SectionsHaveForm}
use Rattle.section_forms.proofs.Upwards.{under, under_both, under_apart, under_length, under_all, under_passes, text_under, lines_both}
use Rattle.section_forms.proofs.Fronts.{counted_texts, counted_cards, sources, sources_are, sources_texts, sources_cards, noted, noted_are, noted_texts, noted_begin, ending_is_text, dump_begins}

-- ---- sums

-- the line of a sum
abbrev sum_text : Counts → List ℕ
sum_text counts = codes "CARDS " ++ decimal counts.cards ++ codes " STEPS " ++ decimal counts.steps ++ codes " LINES " ++ decimal counts.lines ++ codes " CHARGE " ++ decimal (charge counts)

sum_is_text : (counts : Counts) → IsText (sum_text counts)
sum_is_text counts =
    text_append (text_append (text_append (text_append (text_append (text_append (text_append (text_of (codes "CARDS ") refl) (text_decimal counts.cards)) (text_of (codes " STEPS ") refl)) (text_decimal counts.steps)) (text_of (codes " LINES ") refl)) (text_decimal counts.lines)) (text_of (codes " CHARGE ") refl)) (text_decimal (charge counts))

is_sum : (counts : Counts) → counts.cards ≤ 2000 → counts.steps ≤ 10000000 → counts.lines ≤ 500 → IsSum (sum_text counts) counts.lines
is_sum counts h k l = record { cards = counts.cards; steps = counts.steps; charge = charge counts; text = refl; cards_fit = omega (arith, h); steps_fit = omega (arith, k); printed_fit = omega (arith, l) }

-- ---- bodies of lines, and a sum

whole : (title : List ℕ) (xs : List (List ℕ)) (sum : List ℕ) → line [] ++ line title ++ (lines xs ++ line sum) ≡ text_up (sum ∷ under xs (head title))
whole title xs sum =
    sym (append_assoc (line [] ++ line title) (lines xs) (line sum))
    ∙ ap (λ (t : List ℕ). t ++ line sum) (sym (text_under xs (head title)))
    ∙ sym (append_assoc (text_up (under xs (head title))) sum (10 ∷ []))

all_texts : (title : List ℕ) (xs : List (List ℕ)) (sum : List ℕ) → IsText title → All IsText xs → IsText sum → All IsText (sum ∷ under xs (head title))
all_texts title xs sum h k l = All-cons IsText sum (under xs (head title)) l (under_all IsText xs (head title) k (All-cons IsText title ([] ∷ []) h (All-cons IsText [] [] text_nil (All-nil IsText))))

-- ---- diagnosed jobs

below : (xs up : List (List ℕ)) → under xs up ≡ under xs [] ++ up
below xs up = under_apart xs [] up

diagnosed_form : (sum title : List ℕ) (printed : ℕ) (notes cards : List (List ℕ)) → IsSum sum printed → All (λ x. begins 68 x ≡ true) notes → All (λ x. is_card x ≡ true) cards → begins 74 title ≡ true
    → IsSection (sum ∷ under (cards ++ notes) (head title))
diagnosed_form sum title printed notes cards s n c j =
    subst (λ (up : List (List ℕ)). IsSection (sum ∷ up)) (sym (under_both cards notes (head title) ∙ below notes (under cards (head title)) ∙ ap (λ (up : List (List ℕ)). under notes [] ++ up) (below cards (head title))))
    (diagnosed_section sum title printed (under notes []) (under cards []) s
    (under_passes (begins 68) notes n)
    (under_passes is_card cards c) j)

diagnosed_has : (job : JobView) (title : List ℕ) (faults : List Diagnostic) → JobHolds job → IsFit job → IsText title → begins 74 title ≡ true → HasForm title (diagnosed faults job).body
diagnosed_has job title faults h fit t j =
    let counts = counts_of job.cards 0 0 in
    let cards = sources 1 job.deck in
    let xs = cards ++ noted faults in
    record {
      up = sum_text counts ∷ under xs (head title);
      whole = ap (λ (b : List ℕ). line [] ++ line title ++ (b ++ line (sum_text counts))) (ap (λ (b : List ℕ). b ++ diagnostic_lines faults) (sources_are 1 job.deck) ∙ ap (λ (b : List ℕ). lines cards ++ b) (noted_are faults) ∙ sym (lines_both cards (noted faults)))
          ∙ whole title xs (sum_text counts);
      texts = all_texts title xs (sum_text counts) t (All-append IsText cards (noted faults) (sources_texts 1 job.deck h.deck) (noted_texts faults)) (sum_is_text counts);
      form = diagnosed_form (sum_text counts) title 0 (noted faults) cards (is_sum counts fit.cards (omega arith) (omega arith)) (noted_begin faults) (sources_cards 1 job.deck) j;
    }

-- ---- jobs that were run

sum_of : (sum : List ℕ) (printed : List (List ℕ)) → IsSum sum (length printed) → IsSum sum (length (under printed []))
sum_of sum printed s = let e : length printed ≡ length (under printed []) = omega (arith, under_length printed []) in subst (IsSum sum) e s

-- what stands below a title, up to the ending
run_up : (cards printed behind : List (List ℕ)) (ending title : List ℕ) → under (cards ++ (codes "OUTPUT" ∷ (printed ++ (ending ∷ behind)))) (head title)
    ≡ under behind (ending ∷ (under printed [] ++ codes "OUTPUT" ∷ (under cards [] ++ head title)))
run_up cards printed behind ending title =
    under_both cards (codes "OUTPUT" ∷ (printed ++ (ending ∷ behind))) (head title)
    ∙ ap (λ (up : List (List ℕ)). under (printed ++ (ending ∷ behind)) (codes "OUTPUT" ∷ up)) (below cards (head title))
    ∙ under_both printed (ending ∷ behind) (codes "OUTPUT" ∷ (under cards [] ++ head title))
    ∙ ap (λ (up : List (List ℕ)). under behind (ending ∷ up)) (below printed (codes "OUTPUT" ∷ (under cards [] ++ head title)))

ended_form : (sum title : List ℕ) (printed cards : List (List ℕ)) → IsSum sum (length printed) → All (λ x. is_card x ≡ true) cards → begins 74 title ≡ true
    → IsSection (sum ∷ under (cards ++ (codes "OUTPUT" ∷ (printed ++ (codes "ENDED NORMALLY" ∷ [])))) (head title))
ended_form sum title printed cards s c j =
    subst (λ (up : List (List ℕ)). IsSection (sum ∷ up)) (sym (run_up cards printed [] (codes "ENDED NORMALLY") title))
    (ended sum title (under printed []) (under cards []) (sum_of sum printed s)
    (under_passes is_card cards c) j)

stopped_form : (sum ending title : List ℕ) (dump printed cards : List (List ℕ)) → IsSum sum (length printed) → All (λ x. begins 32 x ≡ true) dump → All (λ x. is_card x ≡ true) cards → begins 74 title ≡ true
    → IsSection (sum ∷ under (cards ++ (codes "OUTPUT" ∷ (printed ++ (ending ∷ (codes "POST-MORTEM" ∷ dump))))) (head title))
stopped_form sum ending title dump printed cards s d c j =
    subst (λ (up : List (List ℕ)). IsSection (sum ∷ up)) (sym (run_up cards printed (codes "POST-MORTEM" ∷ dump) ending title ∙ below dump (codes "POST-MORTEM" ∷ ending ∷ (under printed [] ++ codes "OUTPUT" ∷ (under cards [] ++ head title)))))
    (stopped sum ending title (under dump []) (under printed []) (under cards []) (sum_of sum printed s)
    (under_passes (begins 32) dump d)
    (under_passes is_card cards c) j)

outcome_form : (o : Outcome Closed Given) (sum title : List ℕ) (printed cards : List (List ℕ)) → IsSum sum (length printed) → All (λ x. begins 32 x ≡ true) (dump_of o) → All (λ x. is_card x ≡ true) cards → begins 74 title ≡ true
    → IsSection (sum ∷ under (cards ++ (codes "OUTPUT" ∷ (printed ++ (ending_text o ∷ dump_section o)))) (head title))
outcome_form (on a s) sum title printed cards h d c j = ended_form sum title printed cards h c j
outcome_form (jump l s) sum title printed cards h d c j = stopped_form sum (codes "WRONG") title (dump_lines s) printed cards h d c j
outcome_form (stop y w s) sum title printed cards h d c j = stopped_form sum (why_text y w) title (dump_lines s) printed cards h d c j

section_texts : (o : Outcome Closed Given) → All IsText (dump_of o) → All IsText (dump_section o)
section_texts (on a s) h = All-nil IsText
section_texts (jump l s) h = All-cons IsText (codes "POST-MORTEM") (dump_lines s) (text_of (codes "POST-MORTEM") refl) h
section_texts (stop y w s) h = All-cons IsText (codes "POST-MORTEM") (dump_lines s) (text_of (codes "POST-MORTEM") refl) h

run_texts : (job : JobView) (statements : List Place) (o : Outcome Closed Given) → JobHolds job → All IsText (printed_lines (setting_of job) (state_of o)) → All IsText (dump_of o) → All IsText (run_lines job statements o)
run_texts job statements o h p d =
    let cards = counted_lines statements (state_of o).begun 1 job.deck in
    let printed = printed_lines (setting_of job) (state_of o) in
    let behind = ending_text o ∷ dump_section o in
    All-append IsText cards (codes "OUTPUT" ∷ (printed ++ behind)) (counted_texts statements (state_of o).begun 1 job.deck h.deck)
    (All-cons IsText (codes "OUTPUT") (printed ++ behind) (text_of (codes "OUTPUT") refl)
    (All-append IsText printed behind p (All-cons IsText (ending_text o) (dump_section o) (ending_is_text o) (section_texts o d))))

run_has : (job : JobView) (title : List ℕ) (statements : List Place) (o : Outcome Closed Given) → JobHolds job → IsText title → begins 74 title ≡ true
    → All IsText (printed_lines (setting_of job) (state_of o)) → All IsText (dump_of o) → All (λ x. begins 32 x ≡ true) (dump_of o)
    → (used job o).cards ≤ 2000 → (used job o).steps ≤ 10000000 → (used job o).lines ≤ 500 → HasForm title (run_result job statements o).body
run_has job title statements o h t j p d i a b c =
    let counts = used job o in
    let xs = run_lines job statements o in
    let cards = counted_lines statements (state_of o).begun 1 job.deck in
    record {
      up = sum_text counts ∷ under xs (head title);
      whole = whole title xs (sum_text counts);
      texts = all_texts title xs (sum_text counts) t (run_texts job statements o h p d) (sum_is_text counts);
      form = outcome_form o (sum_text counts) title (printed_lines (setting_of job) (state_of o)) cards (is_sum counts a b c) i (counted_cards statements (state_of o).begun 1 job.deck) j;
    }

-- ---- what jobs give

-- a job's counts are within the limits within which it is accepted
fits : (job : JobView) (r : JobResult) → IsFit job → KeepsTheJob job r → (r.counts.cards ≤ 2000) × (r.counts.steps ≤ 10000000) × (r.counts.lines ≤ 500)
fits job r fit k = (omega (arith, k.cards, fit.cards), omega (arith, k.steps, fit.steps), omega (arith, k.lines, fit.lines))

result_has : JobsPrintTexts → (job : JobView) (title : List ℕ) (r : JobResult) → JobHolds job → IsFit job → IsText title → begins 74 title ≡ true → IsResult job r → KeepsTheJob job r → HasForm title r.body
result_has prints job title r h fit t j (a_wrong_deck d k e) keeps = subst (λ (x : JobResult). HasForm title x.body) (sym e) (diagnosed_has job title (d ∷ []) h fit t j)
result_has prints job title r h fit t j (a_faulty_program x d faults k f e) keeps = subst (λ (x : JobResult). HasForm title x.body) (sym e) (diagnosed_has job title (d ∷ faults) h fit t j)
result_has prints job title r h fit t j (a_run x k n e) keeps =
    let o = program_outcome job (program_of x) in
    let p = prints job h x k in
    let within = fits job (run_result job (program_of x).statements o) fit (subst (KeepsTheJob job) e keeps) in
    subst (λ (y : JobResult). HasForm title y.body) (sym e)
    (run_has job title (program_of x).statements o h t j p.printed p.dumped (dump_begins (dump_of o) p.indented) within.0 within.1 within.2)

pub sections_have_form : JobsPrintTexts → SectionsHaveForm
sections_have_form prints job title h fit t j = result_has prints job title (job_result job) h fit t j (results_of_jobs job) (job_keeps job)
