use Rattle.std.proofs.Common.{◌≡◌, ◌≤◌, ◌<◌, ◌++◌, ◌∷◌, ◌+◌, [], List, ℕ, length, map, get_or, sym, ap, subst, ◌∙◌, arith}
use Rattle.std.specs.Prelude.{codes, decimal}
use Rattle.std.proofs.lemmas.Grind.{common_steps}
use Rattle.std.specs.List.{flat_map, range_with_len}
use Rattle.night_shares.specs.declared.shelf.NightFile.TheVariants.{Cards, Plan}
use Rattle.night_shares.specs.Filing.{Files, filed_unless_empty, part_filing}
use Rattle.night_shares.specs.Plan.{job_row, row, window_rows}
use Rattle.night_shares.specs.Windows.{jobs_of_chain, part_text}
use Rattle.night_shares.proofs.Filings.{filed_some, files_more, files_number, files_still, first_numbers, no_text, number_without, some_text}
use Rattle.night_shares.proofs.Results.{at_err}
use Rattle.night_shares.proofs.Windows.{text_at}
use Rattle.night_shares.proofs.window.Window.file.Goals as goal
use Rattle.night_shares.proofs.window.Window.file.Goals.{then-not-is_empty+in_ok-file, else-not-is_empty}

pub returns-in_err-file-clause-err : goal.returns-in_err-file-clause-err
returns-in_err-file-clause-err g c = λ chains number libraries jobs is.
    let f = part_filing chains libraries number jobs in
    let filed = c.loop-at.invariant.1 chains number libraries jobs is in
    let few : c.loop-at.at ≤ chains = omega (arith, c.loop-at-test.true, ap length c.deref-cards-items.ensures.value, is.many) in
    at_err c.from_residual.result
    (first_numbers f c.loop-at.at chains _ (g.D.Shelf.filed c.args.shelf.now) (g.D.Shelf.filed c.file.new.self) few
    (files_still (g.D.Shelf.filed c.args.shelf.now) (g.D.Shelf.filed c.loop-at.shelf) (g.D.Shelf.filed c.file.new.self) (flat_map f (range_with_len 0 c.loop-at.at)) filed c.in_err-file.ensures.err))

pub loop-at-preserved : goal.loop-at-preserved
loop-at-preserved g c =
    let at = c.loop-at.at in
    let cards = c.cards-item.result.items in
    let before = g.D.Shelf.filed c.args.shelf.now in
    let then = g.D.Shelf.filed c.loop-at.shelf in
    elim c.if-not-is_empty.branch [
      | then-not-is_empty+in_ok-file w ↦ (
        ap (λ s. g.D.Shelf.faults s) w.shelf-is ∙ w.in_ok-file.ensures.cause.same ∙ c.loop-at.invariant.0,
        λ chains number libraries jobs is.
            let f = part_filing chains libraries number jobs in
            let filed = c.loop-at.invariant.1 chains number libraries jobs is in
            let less : at < length c.args.self.now.parts.items = omega (arith, c.loop-at-test.true, ap length c.deref-cards-items.ensures.value) in
            let item = c.cards-item.is ∙ ap (λ xs. get_or xs at c.cards-item.result) c.deref-cards-items.ensures.value in
            let here : cards ≡ part_text libraries (jobs_of_chain chains at jobs) = sym (text_at (λ p. p.items) c.args.self.now.parts.items at c.cards-item.result less item) ∙ is.parts_are at (omega (arith, less, is.many)) in
            let some : 0 < length cards = some_text cards (λ none. grind (arith, common_steps, c.is_empty.ensures, w.if-not-is_empty.true, c.cards-item.result.ok.0, none)) in
            let file = Cards (record { chain = at + 1; window = c.args.self.now.number }) in
            let now = g.D.Shelf.filed w.file.new.self in
            let same = ap (λ (t : List ℕ). record { file = file; text = t } ∷ []) w.as_slice.ensures.value ∙ filed_some file cards some
            ∙ (λ i. filed_unless_empty (Cards (record { chain = at + 1; window = is.number_is i })) (here i)) in
            subst (λ s. Files before (g.D.Shelf.filed s) (flat_map f (range_with_len 0 (at + 1)))) (sym w.shelf-is)
            (files_number f at before then now (record { file = file; text = w.as_slice.result.now } ∷ []) filed w.in_ok-file.ensures.ok same),
      )
      | else-not-is_empty w ↦ (
        ap (λ s. g.D.Shelf.faults s) w.shelf-is ∙ c.loop-at.invariant.0,
        λ chains number libraries jobs is.
            let f = part_filing chains libraries number jobs in
            let filed = c.loop-at.invariant.1 chains number libraries jobs is in
            let less : at < length c.args.self.now.parts.items = omega (arith, c.loop-at-test.true, ap length c.deref-cards-items.ensures.value) in
            let item = c.cards-item.is ∙ ap (λ xs. get_or xs at c.cards-item.result) c.deref-cards-items.ensures.value in
            let here : cards ≡ part_text libraries (jobs_of_chain chains at jobs) = sym (text_at (λ p. p.items) c.args.self.now.parts.items at c.cards-item.result less item) ∙ is.parts_are at (omega (arith, less, is.many)) in
            let none : length cards ≡ 0 = grind (arith, common_steps, c.is_empty.ensures, w.if-not-is_empty.false, c.cards-item.result.ok.0) in
            subst (λ s. Files before (g.D.Shelf.filed s) (flat_map f (range_with_len 0 (at + 1)))) (sym w.shelf-is)
            (number_without f at before then filed (ap (filed_unless_empty (Cards (record { chain = at + 1; window = number }))) (sym here ∙ no_text cards none))),
      )
    ]

pub returns-clause-ok : goal.returns-clause-ok
returns-clause-ok g c = λ chains number libraries jobs is.
    let f = part_filing chains libraries number jobs in
    let before = g.D.Shelf.filed c.args.shelf.now in
    let then = g.D.Shelf.filed c.loop-at.shelf in
    let now = g.D.Shelf.filed c.file-2.new.self in
    let all : c.loop-at.at ≡ chains = omega (arith, c.loop-at-test.false, c.loop-at.auto.at-end, ap length c.deref-cards-items.ensures.value, is.many) in
    let filed = subst (λ (n : ℕ). Files before then (flat_map f (range_with_len 0 n))) all (c.loop-at.invariant.1 chains number libraries jobs is) in
    let text : c.as_slice-3.result.now ≡ window_rows chains number (map (λ j. j.job) jobs) =
    c.as_slice-3.ensures.value
    ∙ c.in_ok-extend_from_slice.ensures.items
    ∙ ap (λ (t : List ℕ). c.in_ok-rows.rows.items ++ t) (c.as_slice-2.ensures.value ∙ is.rows_are)
    ∙ ap (λ (t : List ℕ). t ++ flat_map (job_row chains) (map (λ j. j.job) jobs)) (c.in_ok-rows.ensures ∙ ap (λ (n : ℕ). row (codes "WINDOW " ++ decimal n)) is.number_is) in
    let plan = subst (λ (t : List ℕ). Files then now (record { file = Plan; text = t } ∷ [])) text c.in_ok-file-2.ensures.ok in
    files_more before then now (flat_map f (range_with_len 0 chains)) (record { file = Plan; text = window_rows chains number (map (λ j. j.job) jobs) } ∷ []) filed plan
