use Rattle.std.proofs.Common.{◌≡◌, ◌+◌, ◌∷◌, ◌++◌, [], List, ℕ, Option, length, sum_by, refl, sym, ap, subst, ◌∙◌, arith}
use Rattle.std.specs.Prelude.{OnErr, OnOk}
use Rattle.deck_reader.specs.Batch.{Run}
use Rattle.night_shares.specs.declared.stop.Stop.{Stop}
use Rattle.night_shares.specs.Batches.{run_strays}
use Rattle.night_shares.specs.Cutting.{AreTooLarge, CutCause, IsCutter, all_filed_of, cut_job, filed_of}
use Rattle.night_shares.specs.Filing.{Files}
use Rattle.night_shares.specs.Held.{FilesFirst}
use Rattle.night_shares.specs.Jobs.{night_jobs}
use Rattle.night_shares.specs.Lines.{line_runs}
use Rattle.std.specs.Option.{option_map}
use Rattle.night_shares.specs.Running.{AtHead, TakesNext, bytes_to_come, head_of}
use Rattle.night_shares.proofs.NightRuns.{HasRoom, HasTaken, all_cut, cut_read, cut_run, first_by_then, first_in_run, none_cut, none_taken, one_cut, one_taken, small_enough, too_large_behind, too_large_next, too_many}
use Rattle.night_shares.proofs.Results.{at_err, at_ok, at_this}
use Rattle.night_shares.proofs.cutting.cut_runs.Goals as goal

-- what was taken behind these libraries
taken : (libraries : List ℕ) (lines : List (List ℕ)) (own : List ℕ) (count : ℕ) (head come : Option (List ℕ)) → own ≡ libraries → HasTaken own lines count head come → HasTaken libraries lines count head come
taken libraries lines own count head come is h = subst (λ (l : List ℕ). HasTaken l lines count head come) is h

pub loop-init : goal.loop-init
loop-init g c =
    let head = head_of c.args.runs in
    let come = bytes_to_come c.args.runs (g.S.Source.left c.args.src.now) in (
      (refl, refl, omega (arith, c.requires.number), omega (arith, c.requires.stray)),
      refl,
      refl,
      λ lines at. none_taken c.args.cutter.libraries.items lines head come at,
      λ accounts libraries stray front lines is none same at. none_cut c.args.cutter.chains accounts libraries stray front lines (g.D.Shelf.filed c.args.shelf.now) head come c.args.cutter is at,
    )

pub returns-in_err-run-clause-err : goal.returns-in_err-run-clause-err
returns-in_err-run-clause-err g c = λ accounts libraries stray front lines is none same at.
    let h = c.loop.invariant.4 accounts libraries stray front lines is none same at in
    at_err c.from_residual.result
    (first_by_then c.args.cutter.chains accounts libraries stray front lines (g.D.Shelf.filed c.args.shelf.now) (head_of c.loop.runs) (bytes_to_come c.loop.runs (g.S.Source.left c.loop.src)) c.loop.cutter (g.D.Shelf.filed c.loop.shelf) h)

pub returns-in_err-run-clause-cause : goal.returns-in_err-run-clause-cause
returns-in_err-run-clause-cause g c =
    let come = bytes_to_come c.args.runs (g.S.Source.left c.args.src.now) in
    let Large : Type 0 = (libraries : List ℕ) (lines : List (List ℕ)) → c.args.cutter.libraries.items ≡ libraries → AtHead (head_of c.args.runs) come lines → AreTooLarge libraries lines in
    let P : Stop → Type 0 = λ stop. CutCause stop (g.S.Source.faults c.args.src.now) (g.S.Source.faults c.next.new.src) (g.D.Shelf.faults c.args.shelf.now) (g.D.Shelf.faults c.loop.shelf) Large in
    at_this c.from_residual.result c.in_err-run.field-0.0 P c.from_residual.ensures.1
    (cut_read c.in_err-run.field-0.0 (g.S.Source.faults c.args.src.now) _ _ _ _ _ Large c.loop.invariant.1 c.in_err-run.ensures.err
    (λ large libraries lines is at. (let h = taken libraries lines c.args.cutter.libraries.items c.loop.counter _ _ is (c.loop.invariant.3 lines at) in too_large_next libraries lines c.loop.counter _ _ h (large h.rest h.at_head))))

pub returns-in_default-clause-ok : goal.returns-in_default-clause-ok
returns-in_default-clause-ok g c = λ accounts libraries stray front lines is none same at.
    let h = c.loop.invariant.4 accounts libraries stray front lines is none same at in
    let before = g.D.Shelf.filed c.args.shelf.now in
    let now = g.D.Shelf.filed c.finish.new.shelf in
    let jobs = night_jobs front 1 h.done in
    let all = all_cut c.args.cutter.chains accounts libraries stray front lines before _ _ c.loop.cutter _ h (subst (λ o. TakesNext h.rest (head_of c.next.new.self) (bytes_to_come c.next.new.self (g.S.Source.left c.next.new.src)) (option_map (λ v. v.items) o)) c.in_default.is (c.in_ok-run.ensures.run h.rest h.at_head)) in
    let mine = subst (λ (n : ℕ). IsCutter n accounts libraries jobs (stray + sum_by run_strays h.done) c.loop.cutter) (sym c.loop.invariant.0.0) h.cutter_is in
    let filed = subst (λ (n : ℕ). Files before (g.D.Shelf.filed c.loop.shelf) (filed_of n libraries jobs)) (sym c.loop.invariant.0.0) h.files in
    let ends = c.finish.ensures.ok accounts libraries jobs (stray + sum_by run_strays h.done) before mine filed in
    subst (λ (n : ℕ). OnOk c.finish.result (Files before now (all_filed_of n libraries (night_jobs front 1 (line_runs lines)) (stray + sum_by run_strays (line_runs lines))))) c.loop.invariant.0.0
    (subst (λ (rs : List Run). OnOk c.finish.result (Files before now (all_filed_of c.loop.cutter.chains libraries (night_jobs front 1 rs) (stray + sum_by run_strays rs)))) (sym all) ends)

pub returns-in_default-clause-fits : goal.returns-in_default-clause-fits
returns-in_default-clause-fits g c = λ libraries lines is at.
    let h = taken libraries lines c.args.cutter.libraries.items c.loop.counter _ _ is (c.loop.invariant.3 lines at) in
    let none : h.rest ≡ [] = subst (λ o. TakesNext h.rest (head_of c.next.new.self) (bytes_to_come c.next.new.self (g.S.Source.left c.next.new.src)) (option_map (λ v. v.items) o)) c.in_default.is (c.in_ok-run.ensures.run h.rest h.at_head) in
    at_ok c.finish.result (small_enough libraries lines c.loop.counter _ _ h none (omega (arith, c.loop-test.true)))

pub returns-in_default-clause-err : goal.returns-in_default-clause-err
returns-in_default-clause-err g c = λ accounts libraries stray front lines is none same at.
    let h = c.loop.invariant.4 accounts libraries stray front lines is none same at in
    let before = g.D.Shelf.filed c.args.shelf.now in
    let now = g.D.Shelf.filed c.finish.new.shelf in
    let jobs = night_jobs front 1 h.done in
    let all = all_cut c.args.cutter.chains accounts libraries stray front lines before _ _ c.loop.cutter _ h (subst (λ o. TakesNext h.rest (head_of c.next.new.self) (bytes_to_come c.next.new.self (g.S.Source.left c.next.new.src)) (option_map (λ v. v.items) o)) c.in_default.is (c.in_ok-run.ensures.run h.rest h.at_head)) in
    let mine = subst (λ (n : ℕ). IsCutter n accounts libraries jobs (stray + sum_by run_strays h.done) c.loop.cutter) (sym c.loop.invariant.0.0) h.cutter_is in
    let filed = subst (λ (n : ℕ). Files before (g.D.Shelf.filed c.loop.shelf) (filed_of n libraries jobs)) (sym c.loop.invariant.0.0) h.files in
    let ends = c.finish.ensures.err accounts libraries jobs (stray + sum_by run_strays h.done) before mine filed in
    subst (λ (n : ℕ). OnErr c.finish.result (FilesFirst before now (all_filed_of n libraries (night_jobs front 1 (line_runs lines)) (stray + sum_by run_strays (line_runs lines))))) c.loop.invariant.0.0
    (subst (λ (rs : List Run). OnErr c.finish.result (FilesFirst before now (all_filed_of c.loop.cutter.chains libraries (night_jobs front 1 rs) (stray + sum_by run_strays rs)))) (sym all) ends)

pub returns-in_err-take_run-clause-err : goal.returns-in_err-take_run-clause-err
returns-in_err-take_run-clause-err g c = λ accounts libraries stray front lines is none same at.
    let h = c.loop.invariant.4 accounts libraries stray front lines is none same at in
    let before = g.D.Shelf.filed c.args.shelf.now in
    let now = g.D.Shelf.filed c.take_run.new.shelf in
    let jobs = night_jobs front 1 h.done in
    let t = subst (λ o. TakesNext h.rest (head_of c.next.new.self) (bytes_to_come c.next.new.self (g.S.Source.left c.next.new.src)) (option_map (λ v. v.items) o)) c.in-Some.is (c.in_ok-run.ensures.run h.rest h.at_head) in
    let mine = subst (λ (n : ℕ). IsCutter n accounts libraries jobs (stray + sum_by run_strays h.done) c.loop.cutter) (sym c.loop.invariant.0.0) h.cutter_is in
    let filed = subst (λ (n : ℕ). Files before (g.D.Shelf.filed c.loop.shelf) (filed_of n libraries jobs)) (sym c.loop.invariant.0.0) h.files in
    let first = c.in_err-take_run.ensures.err accounts libraries jobs (stray + sum_by run_strays h.done) front (1 + length h.done) t.run before mine none same t.is_run (c.as_slice.ensures.value ∙ t.text_is) filed in
    let back = subst (λ (n : ℕ). FilesFirst before now (filed_of n libraries (jobs ++ cut_job front (1 + length h.done) t.run ∷ []))) c.loop.invariant.0.0 first in
    at_err c.from_residual-in_err-take_run.result (first_in_run c.args.cutter.chains accounts libraries stray front lines before _ _ _ _ c.loop.cutter _ now _ h t back)

pub returns-in_err-take_run-clause-cause : goal.returns-in_err-take_run-clause-cause
returns-in_err-take_run-clause-cause g c =
    let come = bytes_to_come c.args.runs (g.S.Source.left c.args.src.now) in
    let Large : Type 0 = (libraries : List ℕ) (lines : List (List ℕ)) → c.args.cutter.libraries.items ≡ libraries → AtHead (head_of c.args.runs) come lines → AreTooLarge libraries lines in
    let P : Stop → Type 0 = λ stop. CutCause stop (g.S.Source.faults c.args.src.now) (g.S.Source.faults c.next.new.src) (g.D.Shelf.faults c.args.shelf.now) (g.D.Shelf.faults c.take_run.new.shelf) Large in
    at_this c.from_residual-in_err-take_run.result c.in_err-take_run.field-0.0 P c.from_residual-in_err-take_run.ensures.1
    (cut_run c.in_err-take_run.field-0.0 _ _ (g.D.Shelf.faults c.args.shelf.now) _ _ _ Large c.loop.invariant.2 c.in_err-take_run.ensures.cause
    (λ large libraries lines is at.
    (let h = taken libraries lines c.args.cutter.libraries.items c.loop.counter _ _ is (c.loop.invariant.3 lines at) in
    let t = subst (λ o. TakesNext h.rest (head_of c.next.new.self) (bytes_to_come c.next.new.self (g.S.Source.left c.next.new.src)) (option_map (λ v. v.items) o)) c.in-Some.is (c.in_ok-run.ensures.run h.rest h.at_head) in
    too_large_behind libraries lines c.loop.counter _ _ _ _ _ h t (large libraries t.run (ap (λ v. v.items) c.loop.invariant.0.1 ∙ is) t.is_run (c.as_slice.ensures.value ∙ t.text_is)))))

pub loop-preserved : goal.loop-preserved
loop-preserved g c =
    let before = g.D.Shelf.filed c.args.shelf.now in
    let inv = c.loop.invariant in
    let kept = c.in_ok-take_run.ensures in (
      (kept.same.0 ∙ inv.0.0, kept.same.1 ∙ inv.0.1, omega (arith, kept.number, inv.0.2), omega (arith, kept.stray, inv.0.3)),
      c.in_ok-run.ensures.kept ∙ inv.1,
      kept.kept ∙ inv.2,
      λ lines at.
          let h = inv.3 lines at in
          let t = subst (λ o. TakesNext h.rest (head_of c.next.new.self) (bytes_to_come c.next.new.self (g.S.Source.left c.next.new.src)) (option_map (λ v. v.items) o)) c.in-Some.is (c.in_ok-run.ensures.run h.rest h.at_head) in
          let room : HasRoom c.args.cutter.libraries.items t.run = omega (arith, kept.fits, ap (λ v. length v.items) inv.0.1, ap length (c.as_slice.ensures.value ∙ t.text_is)) in
          one_taken c.args.cutter.libraries.items lines c.loop.counter _ _ _ _ _ h t room,
      λ accounts libraries stray front lines is none same at.
          let h = inv.4 accounts libraries stray front lines is none same at in
          let jobs = night_jobs front 1 h.done in
          let more = stray + sum_by run_strays h.done in
          let t = subst (λ o. TakesNext h.rest (head_of c.next.new.self) (bytes_to_come c.next.new.self (g.S.Source.left c.next.new.src)) (option_map (λ v. v.items) o)) c.in-Some.is (c.in_ok-run.ensures.run h.rest h.at_head) in
          let mine = subst (λ (n : ℕ). IsCutter n accounts libraries jobs more c.loop.cutter) (sym inv.0.0) h.cutter_is in
          let filed = subst (λ (n : ℕ). Files before (g.D.Shelf.filed c.loop.shelf) (filed_of n libraries jobs)) (sym inv.0.0) h.files in
          let both = kept.ok accounts libraries jobs more front (1 + length h.done) t.run before mine none same t.is_run (c.as_slice.ensures.value ∙ t.text_is) filed in
          let job = cut_job front (1 + length h.done) t.run in
          one_cut c.args.cutter.chains accounts libraries stray front lines before _ _ _ _ c.loop.cutter c.take_run.new.self _ (g.D.Shelf.filed c.take_run.new.shelf) _ h t
          (subst (λ (n : ℕ). IsCutter n accounts libraries (jobs ++ job ∷ []) (more + run_strays t.run) c.take_run.new.self) inv.0.0 both.0)
          (subst (λ (n : ℕ). Files before (g.D.Shelf.filed c.take_run.new.shelf) (filed_of n libraries (jobs ++ job ∷ []))) inv.0.0 both.1),
    )

pub returns-clause-err : goal.returns-clause-err
returns-clause-err g c = λ accounts libraries stray front lines is none same at.
    let h = c.loop.invariant.4 accounts libraries stray front lines is none same at in
    first_by_then c.args.cutter.chains accounts libraries stray front lines (g.D.Shelf.filed c.args.shelf.now) (head_of c.loop.runs) (bytes_to_come c.loop.runs (g.S.Source.left c.loop.src)) c.loop.cutter (g.D.Shelf.filed c.loop.shelf) h

pub returns-clause-cause : goal.returns-clause-cause
returns-clause-cause g c = λ libraries lines is at. too_many libraries lines c.loop.counter _ _ (taken libraries lines c.args.cutter.libraries.items c.loop.counter _ _ is (c.loop.invariant.3 lines at)) (omega (arith, c.loop-test.false))
