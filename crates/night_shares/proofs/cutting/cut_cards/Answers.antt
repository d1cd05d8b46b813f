use Rattle.std.proofs.Common.{◌≡◌, ◌+◌, ◌≤◌, [], List, ℕ, Some, Err, length, sum_by, inl, inr, refl, sym, ap, subst, ◌∙◌, arith}
use Rattle.std.specs.Prelude.{OnErr, OnOk}
use Rattle.deck_reader.specs.Cards.{pieces}
use Rattle.deck_reader.specs.declared.reader.FeedError.{FeedError}
use Rattle.night_shares.specs.declared.stop.Stop.{Stop}
use Rattle.night_shares.specs.Batches.{run_strays}
use Rattle.night_shares.specs.Cutting.{CutCause, IsCutter, IsTooLarge, all_filed_of}
use Rattle.night_shares.specs.Filing.{Files, Filing}
use Rattle.night_shares.specs.Held.{FilesFirst}
use Rattle.night_shares.specs.Jobs.{night_front, night_jobs}
use Rattle.night_shares.specs.Lines.{begins_job, front_lines, line_runs, lines_from_head, text_of_lines}
use Rattle.night_shares.specs.Stops.{stop_of}
use Rattle.night_shares.proofs.LineRuns.{none_before}
use Rattle.night_shares.proofs.Results.{at_this, on_ok}
use Rattle.night_shares.proofs.WholeNights.{cut_by, cut_feed, err_by, night_is, night_small, night_too_large}
use Rattle.night_shares.proofs.cutting.cut_cards.Goals as goal

pub returns-in_err-front-2-clause-cause : goal.returns-in_err-front-2-clause-cause
returns-in_err-front-2-clause-cause g c =
    let left = g.S.Source.left c.args.src.now in
    let Large : Type 0 = (bytes : List ℕ) → left ≡ Some bytes → IsTooLarge c.args.accounts.items (pieces bytes) in
    let P : Stop → Type 0 = λ stop. CutCause stop (g.S.Source.faults c.args.src.now) (g.S.Source.faults c.front.new.src) (g.D.Shelf.faults c.args.shelf.now) (g.D.Shelf.faults c.args.shelf.now) Large in
    let error = c.in_err-front-2.field-0.0 in
    at_this c.from_residual-in_err-front-2.result (stop_of error) P c.from_residual-in_err-front-2.ensures.1
    (cut_feed error _ _ _ _ Large
    (λ is bytes left_is.
    (let taken = c.in_ok-front.ensures.front bytes (c.in_ok-runs.ensures.come left ∙ left_is) in
    let lines = pieces bytes in
    let text = c.as_slice.ensures.value ∙ taken.text_is in
    let large = c.in_err-front-2.ensures.large (front_lines lines) taken.in_lines (none_before begins_job lines) text (ap (λ (e : FeedError). Err e) is) in
    inl (omega (arith, large, ap length text)))))

pub returns-clause-ok : goal.returns-clause-ok
returns-clause-ok g c = λ bytes left_is.
    let before = g.D.Shelf.filed c.args.shelf.now in
    let now = g.D.Shelf.filed c.cut_runs.new.shelf in
    let accounts = c.args.accounts.items in
    let libraries = c.in_ok-front-2.front.libraries.items in
    let stray = c.in_ok-front-2.front.stray in
    let cutter = c.in_ok-cutter.cutter in
    let lines = pieces bytes in
    let front = night_front accounts lines in
    let rs = line_runs (lines_from_head lines) in
    let taken = c.in_ok-front.ensures.front bytes (c.in_ok-runs.ensures.come (g.S.Source.left c.args.src.now) ∙ left_is) in
    let text = c.as_slice.ensures.value ∙ taken.text_is in
    let none = none_before begins_job lines in
    let libraries_are = c.in_ok-front-2.ensures.libraries (front_lines lines) taken.in_lines none text in
    let stray_is = c.in_ok-front-2.ensures.stray (front_lines lines) taken.in_lines none text in
    let chains_is = c.in_ok-cutter.ensures.chains.0 in
    let mine = subst (λ (n : ℕ). IsCutter n accounts libraries [] stray cutter) (sym chains_is) c.in_ok-cutter.ensures.cutter in
    let ends = c.cut_runs.ensures.ok accounts libraries stray front (lines_from_head lines) mine c.requires.names refl taken.at_head in
    subst (λ (fs : List Filing). OnOk c.cut_runs.result (Files before now fs)) (night_is c.args.chains accounts lines libraries stray libraries_are stray_is)
    (subst (λ (n : ℕ). OnOk c.cut_runs.result (Files before now (all_filed_of n libraries (night_jobs front 1 rs) (stray + sum_by run_strays rs)))) chains_is ends)

pub returns-clause-fits : goal.returns-clause-fits
returns-clause-fits g c = λ bytes left_is.
    let lines = pieces bytes in
    let libraries = c.in_ok-front-2.front.libraries.items in
    let taken = c.in_ok-front.ensures.front bytes (c.in_ok-runs.ensures.come (g.S.Source.left c.args.src.now) ∙ left_is) in
    let text = c.as_slice.ensures.value ∙ taken.text_is in
    let are = c.in_ok-front-2.ensures.libraries (front_lines lines) taken.in_lines (none_before begins_job lines) text in
    let few : length (text_of_lines (front_lines lines)) + 5 ≤ 4194304 = omega (arith, c.in_ok-front-2.ensures.fits, ap length text) in
    on_ok c.cut_runs.result (c.cut_runs.ensures.fits libraries (lines_from_head lines) c.in_ok-cutter.ensures.chains.3 taken.at_head)
    (λ small. night_small c.args.accounts.items lines libraries are few small)

pub returns-clause-err : goal.returns-clause-err
returns-clause-err g c = λ bytes left_is.
    let before = g.D.Shelf.filed c.args.shelf.now in
    let now = g.D.Shelf.filed c.cut_runs.new.shelf in
    let accounts = c.args.accounts.items in
    let libraries = c.in_ok-front-2.front.libraries.items in
    let stray = c.in_ok-front-2.front.stray in
    let cutter = c.in_ok-cutter.cutter in
    let lines = pieces bytes in
    let front = night_front accounts lines in
    let rs = line_runs (lines_from_head lines) in
    let taken = c.in_ok-front.ensures.front bytes (c.in_ok-runs.ensures.come (g.S.Source.left c.args.src.now) ∙ left_is) in
    let text = c.as_slice.ensures.value ∙ taken.text_is in
    let none = none_before begins_job lines in
    let libraries_are = c.in_ok-front-2.ensures.libraries (front_lines lines) taken.in_lines none text in
    let stray_is = c.in_ok-front-2.ensures.stray (front_lines lines) taken.in_lines none text in
    let chains_is = c.in_ok-cutter.ensures.chains.0 in
    let mine = subst (λ (n : ℕ). IsCutter n accounts libraries [] stray cutter) (sym chains_is) c.in_ok-cutter.ensures.cutter in
    let ends = c.cut_runs.ensures.err accounts libraries stray front (lines_from_head lines) mine c.requires.names refl taken.at_head in
    subst (λ (fs : List Filing). OnErr c.cut_runs.result (FilesFirst before now fs)) (night_is c.args.chains accounts lines libraries stray libraries_are stray_is)
    (subst (λ (n : ℕ). OnErr c.cut_runs.result (FilesFirst before now (all_filed_of n libraries (night_jobs front 1 rs) (stray + sum_by run_strays rs)))) chains_is ends)

pub returns-clause-cause : goal.returns-clause-cause
returns-clause-cause g c =
    let left = g.S.Source.left c.args.src.now in
    let Large : Type 0 = (bytes : List ℕ) → left ≡ Some bytes → IsTooLarge c.args.accounts.items (pieces bytes) in
    let P : Stop → Type 0 = λ stop. CutCause stop (g.S.Source.faults c.args.src.now) (g.S.Source.faults c.cut_runs.new.src) (g.D.Shelf.faults c.args.shelf.now) (g.D.Shelf.faults c.cut_runs.new.shelf) Large in
    err_by c.cut_runs.result _ P c.cut_runs.ensures.cause
    (λ stop cause.
    cut_by stop (g.S.Source.faults c.args.src.now) _ _ _ _ _ Large c.in_ok-front.ensures.kept
    (λ large bytes left_is.
    (let lines = pieces bytes in
    let libraries = c.in_ok-front-2.front.libraries.items in
    let taken = c.in_ok-front.ensures.front bytes (c.in_ok-runs.ensures.come left ∙ left_is) in
    let text = c.as_slice.ensures.value ∙ taken.text_is in
    let are = c.in_ok-front-2.ensures.libraries (front_lines lines) taken.in_lines (none_before begins_job lines) text in
    inr (night_too_large c.args.accounts.items lines libraries are (large libraries (lines_from_head lines) c.in_ok-cutter.ensures.chains.3 taken.at_head)))) cause)
