use Rattle.std.proofs.Common.{◌≡◌, ◌≤◌, ◌-◌, ◌+◌, ◌∷◌, ◌++◌, [], List, ℕ, Some, false, length, sym, ap, subst, ◌∙◌, arith}
use Rattle.std.specs.Prelude.{None, codes, slice_get}
use Rattle.deck_reader.specs.Batch.{account_of}
use Rattle.deck_reader.specs.declared.batch.Account.{Account}
use Rattle.deck_reader.specs.declared.batch.Batch.{Batch}
use Rattle.deck_reader.specs.JobView.{JobView}
use Rattle.night_shares.specs.declared.cutter.Cutter.{Cutter}
use Rattle.night_shares.specs.Batches.{IsBeside, lone_batch, lone_job, run_strays}
use Rattle.night_shares.specs.Cutting.{cut_job, filed_of}
use Rattle.night_shares.specs.Filing.{Files}
use Rattle.night_shares.specs.Held.{FilesFirst, IsWindow}
use Rattle.night_shares.specs.Lines.{run_lines}
use Rattle.night_shares.specs.Windows.{fits, room_behind, windows_of}
use Rattle.night_shares.proofs.JobRows.{beside}
use Rattle.night_shares.proofs.Results.{at_err}
use Rattle.night_shares.proofs.Takings.{cutter_fit, cutter_next, enrolled, filed_as_fit, filed_as_next, first_by_now, first_in_next, first_whole, fits_is}
use Rattle.night_shares.proofs.cutter.Cutter.take_run.Goals as goal
use Rattle.night_shares.proofs.cutter.Cutter.take_run.Goals.{then-not-has_room+in_ok-next_window, else-not-has_room}

pub returns-then-taken-gt-MOST_BYTES-clause-err : goal.returns-then-taken-gt-MOST_BYTES-clause-err
returns-then-taken-gt-MOST_BYTES-clause-err g c = λ accounts libraries jobs stray front number lines before is none same is_run text_is filed.
    first_by_now c.args.self.now.chains accounts libraries jobs stray before (g.D.Shelf.filed c.args.shelf.now) (cut_job front number lines) filed

pub returns-in_err-batch-clause-err : goal.returns-in_err-batch-clause-err
returns-in_err-batch-clause-err g c = λ accounts libraries jobs stray front number lines before is none same is_run text_is filed.
    at_err c.from_residual.result (first_by_now c.args.self.now.chains accounts libraries jobs stray before (g.D.Shelf.filed c.args.shelf.now) (cut_job front number lines) filed)

pub returns-in_err-next_window-clause-err : goal.returns-in_err-next_window-clause-err
returns-in_err-next_window-clause-err g c = λ accounts libraries jobs stray front number lines before is none same is_run text_is filed.
    let chains = c.args.self.now.chains in
    let now = windows_of (room_behind libraries) jobs in
    let job = cut_job front number lines in
    let text = c.job_lines-lines.result.now in
    let own : job.text ≡ text = sym (c.job_lines-lines.ensures.lines (run_lines lines) is_run.in_lines text_is) in
    let taken : c.len-taken.result ≡ length libraries = omega (arith, c.len-taken.ensures, ap length is.libraries_are) in
    let within : length text ≤ 4194304 - c.len-taken.result = omega (arith, c.job_lines-lines.ensures.shorter, c.if-run-taken.false) in
    let fit : fits (room_behind libraries) now.last job ≡ false =
    fits_is chains accounts libraries jobs stray c.args.self.now job c.len-taken.result (length text) c.has_room.result is taken within (ap length own) c.has_room.ensures ∙ c.if-not-has_room.true in
    at_err c.from_residual-in_err-next_window.result
    (first_in_next chains accounts libraries jobs stray before (g.D.Shelf.filed c.args.shelf.now) (g.D.Shelf.filed c.next_window.new.shelf) job fit filed
    (c.in_err-next_window.ensures.err libraries (1 + length now.full) now.last is.window_is))

pub returns-in_err-enrol-clause-err : goal.returns-in_err-enrol-clause-err
returns-in_err-enrol-clause-err g c = λ accounts libraries jobs stray front number lines before is none same is_run text_is filed.
    let chains = c.args.self.now.chains in
    let start = g.D.Shelf.filed c.args.shelf.now in
    let now = windows_of (room_behind libraries) jobs in
    let job = cut_job front number lines in
    let text = c.job_lines-lines.result.now in
    let own : job.text ≡ text = sym (c.job_lines-lines.ensures.lines (run_lines lines) is_run.in_lines text_is) in
    let taken : c.len-taken.result ≡ length libraries = omega (arith, c.len-taken.ensures, ap length is.libraries_are) in
    let within : length text ≤ 4194304 - c.len-taken.result = omega (arith, c.job_lines-lines.ensures.shorter, c.if-run-taken.false) in
    let room : fits (room_behind libraries) now.last job ≡ c.has_room.result =
    fits_is chains accounts libraries jobs stray c.args.self.now job c.len-taken.result (length text) c.has_room.result is taken within (ap length own) c.has_room.ensures in
    let first : FilesFirst before (g.D.Shelf.filed c.if-not-has_room.shelf) (filed_of chains libraries (jobs ++ job ∷ [])) = elim c.if-not-has_room.branch [
      | then-not-has_room+in_ok-next_window w ↦
          subst (λ s. FilesFirst before (g.D.Shelf.filed s) (filed_of chains libraries (jobs ++ job ∷ []))) (sym w.shelf-is)
          (first_whole chains accounts libraries jobs stray before (g.D.Shelf.filed w.next_window.new.shelf) (filed_of chains libraries (jobs ++ job ∷ []))
          (filed_as_next chains accounts libraries jobs stray before start (g.D.Shelf.filed w.next_window.new.shelf) job (room ∙ w.if-not-has_room.true) filed
          (w.in_ok-next_window.ensures.ok libraries (1 + length now.full) now.last is.window_is).1))
      | else-not-has_room w ↦
          subst (λ s. FilesFirst before (g.D.Shelf.filed s) (filed_of chains libraries (jobs ++ job ∷ []))) (sym w.shelf-is)
          (first_by_now chains accounts libraries jobs stray before start job filed)
    ] in
    at_err c.from_residual-in_err-enrol.result first

pub returns-clause-ok : goal.returns-clause-ok
returns-clause-ok g c = λ accounts libraries jobs stray front number lines before is none same is_run text_is filed.
    let chains = c.args.self.now.chains in
    let start = g.D.Shelf.filed c.args.shelf.now in
    let now = windows_of (room_behind libraries) jobs in
    let job = cut_job front number lines in
    let text = c.job_lines-lines.result.now in
    let lone = c.in-Some.job.now in
    let batch_is : c.in_ok-batch.batch ≡ lone_batch lines = c.in_ok-batch.ensures.batch lines is_run text_is in
    let got : Some lone ≡ Some (lone_job lines) = c.in-Some.ensures.value ∙ ap (λ (js : List JobView). slice_get js 0) (c.as_slice.ensures ∙ ap (λ (b : Batch). b.jobs) batch_is) in
    let lone_is : lone_job lines ≡ lone = cc in
    let unread = subst (λ (a : List Account). account_of a (codes "?") ≡ None) (sym same) none in
    let by_it = subst (λ (j : JobView). IsBeside accounts job.job j) lone_is (subst (λ (a : List Account). IsBeside a job.job (lone_job lines)) same (beside front number lines unread)) in
    let more : c.from.result ≡ run_strays lines = c.from.ensures ∙ ap (λ (b : Batch). b.stray) batch_is in
    let own : job.text ≡ text = sym (c.job_lines-lines.ensures.lines (run_lines lines) is_run.in_lines text_is) in
    let taken : c.len-taken.result ≡ length libraries = omega (arith, c.len-taken.ensures, ap length is.libraries_are) in
    let within : length text ≤ 4194304 - c.len-taken.result = omega (arith, c.job_lines-lines.ensures.shorter, c.if-run-taken.false) in
    let room : fits (room_behind libraries) now.last job ≡ c.has_room.result =
    fits_is chains accounts libraries jobs stray c.args.self.now job c.len-taken.result (length text) c.has_room.result is taken within (ap length own) c.has_room.ensures in
    let old = c.args.self.now in
    let mid = c.if-not-has_room.self in
    let new = c.enrol.new.self in
    let alone = c.in_ok-enrol.ensures.alone in
    let mores : old.stray + c.from.result ≡ old.stray + run_strays lines = ap (λ (n : ℕ). old.stray + n) more in
    elim c.if-not-has_room.branch [
      | then-not-has_room+in_ok-next_window w ↦
          let fit = room ∙ w.if-not-has_room.true in
          let kept = w.in_ok-next_window.ensures.alone in
          let done = w.in_ok-next_window.ensures.ok libraries (1 + length now.full) now.last is.window_is in
          let chains_same : mid.chains ≡ chains = ap (λ (s : Cutter). s.chains) w.self-is ∙ kept.chains in
          let accounts_same : mid.accounts ≡ old.accounts = ap (λ (s : Cutter). s.accounts) w.self-is ∙ kept.accounts in
          let libraries_same : mid.libraries ≡ old.libraries = ap (λ (s : Cutter). s.libraries) w.self-is ∙ kept.libraries in
          let stray_same : mid.stray ≡ old.stray + run_strays lines = ap (λ (s : Cutter). s.stray) w.self-is ∙ kept.stray ∙ mores in
          let window = subst (λ (s : Cutter). IsWindow chains libraries (1 + length now.full + 1) [] s.window) (sym w.self-is) done.0 in
          let put = enrolled chains accounts libraries jobs stray mid new (1 + length now.full + 1) [] job lone text chains_same (accounts_same ∙ is.accounts_are) (ap (λ v. v.items) libraries_same ∙ is.libraries_are)
          window by_it own (c.in_ok-enrol.ensures.job (1 + length now.full + 1) [] job) in (
            cutter_next chains accounts libraries jobs stray old new job (run_strays lines) is fit put (alone.chains ∙ chains_same) (alone.accounts ∙ accounts_same) (alone.libraries ∙ libraries_same) (alone.stray ∙ stray_same),
            subst (λ s. Files before (g.D.Shelf.filed s) (filed_of chains libraries (jobs ++ job ∷ []))) (sym w.shelf-is)
                (filed_as_next chains accounts libraries jobs stray before start (g.D.Shelf.filed w.next_window.new.shelf) job fit filed done.1),
          )
      | else-not-has_room w ↦
          let fit = room ∙ w.if-not-has_room.false in
          let chains_same : mid.chains ≡ chains = ap (λ (s : Cutter). s.chains) w.self-is in
          let accounts_same : mid.accounts ≡ old.accounts = ap (λ (s : Cutter). s.accounts) w.self-is in
          let libraries_same : mid.libraries ≡ old.libraries = ap (λ (s : Cutter). s.libraries) w.self-is in
          let stray_same : mid.stray ≡ old.stray + run_strays lines = ap (λ (s : Cutter). s.stray) w.self-is ∙ mores in
          let window = subst (λ (s : Cutter). IsWindow chains libraries (1 + length now.full) now.last s.window) (sym w.self-is) is.window_is in
          let put = enrolled chains accounts libraries jobs stray mid new (1 + length now.full) now.last job lone text chains_same (accounts_same ∙ is.accounts_are) (ap (λ v. v.items) libraries_same ∙ is.libraries_are)
          window by_it own (c.in_ok-enrol.ensures.job (1 + length now.full) now.last job) in (
            cutter_fit chains accounts libraries jobs stray old new job (run_strays lines) is fit put (alone.chains ∙ chains_same) (alone.accounts ∙ accounts_same) (alone.libraries ∙ libraries_same) (alone.stray ∙ stray_same),
            subst (λ s. Files before (g.D.Shelf.filed s) (filed_of chains libraries (jobs ++ job ∷ []))) (sym w.shelf-is)
                (filed_as_fit chains accounts libraries jobs stray before start job fit filed),
          )
    ]
