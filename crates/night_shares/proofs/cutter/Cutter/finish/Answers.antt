use Rattle.std.proofs.Common.{◌<◌, ◌+◌, ◌∷◌, [], List, ℕ, length, sym, ap, subst, ◌∙◌, arith}
use Rattle.night_shares.specs.declared.shelf.NightFile.TheVariants.{Plan}
use Rattle.night_shares.specs.Filing.{Files}
use Rattle.night_shares.specs.Plan.{last_row}
use Rattle.night_shares.specs.Windows.{room_behind, windows_of}
use Rattle.night_shares.proofs.Filings.{files_still}
use Rattle.night_shares.proofs.Results.{at_err}
use Rattle.night_shares.proofs.Takings.{AllButLast, but_last_with, but_last_without, first_but_last, first_in_last, last_filed, no_job}
use Rattle.night_shares.proofs.cutter.Cutter.finish.Goals as goal
use Rattle.night_shares.proofs.cutter.Cutter.finish.Goals.{then-self-gt0+in_ok-file, else-self-gt0}

pub returns-in_err-file-clause-err : goal.returns-in_err-file-clause-err
returns-in_err-file-clause-err g c = λ accounts libraries jobs stray before is filed.
    let now = windows_of (room_behind libraries) jobs in
    let some : 0 < length now.last = omega (arith, c.if-self-gt0.true, is.window_is.count_is) in
    at_err c.from_residual.result
    (first_in_last c.args.self.chains accounts libraries jobs stray before (g.D.Shelf.filed c.args.shelf.now) (g.D.Shelf.filed c.file.new.shelf) some filed
    (c.in_err-file.ensures.err c.args.self.chains (1 + length now.full) libraries now.last is.window_is))

pub returns-in_err-row-clause-err : goal.returns-in_err-row-clause-err
returns-in_err-row-clause-err g c = λ accounts libraries jobs stray before is filed.
    let chains = c.args.self.chains in
    let start = g.D.Shelf.filed c.args.shelf.now in
    let now = windows_of (room_behind libraries) jobs in
    let all : AllButLast chains libraries jobs stray before (g.D.Shelf.filed c.if-self-gt0.shelf) = elim c.if-self-gt0.branch [
      | then-self-gt0+in_ok-file w ↦
          subst (λ s. AllButLast chains libraries jobs stray before (g.D.Shelf.filed s)) (sym w.shelf-is)
          (but_last_with chains accounts libraries jobs stray before start (g.D.Shelf.filed w.file.new.shelf) (omega (arith, w.if-self-gt0.true, is.window_is.count_is)) filed
          (w.in_ok-file.ensures.ok chains (1 + length now.full) libraries now.last is.window_is))
      | else-self-gt0 w ↦
          subst (λ s. AllButLast chains libraries jobs stray before (g.D.Shelf.filed s)) (sym w.shelf-is)
          (but_last_without chains accounts libraries jobs stray before start (no_job now.last (omega (arith, w.if-self-gt0.false, is.window_is.count_is))) filed)
    ] in
    at_err c.from_residual-in_err-row.result (first_but_last chains accounts libraries jobs stray before (g.D.Shelf.filed c.if-self-gt0.shelf) all)

pub returns-in_err-file-2-clause-err : goal.returns-in_err-file-2-clause-err
returns-in_err-file-2-clause-err g c = λ accounts libraries jobs stray before is filed.
    let chains = c.args.self.chains in
    let start = g.D.Shelf.filed c.args.shelf.now in
    let then = g.D.Shelf.filed c.if-self-gt0.shelf in
    let end = g.D.Shelf.filed c.file-2.new.self in
    let now = windows_of (room_behind libraries) jobs in
    let all : AllButLast chains libraries jobs stray before then = elim c.if-self-gt0.branch [
      | then-self-gt0+in_ok-file w ↦
          subst (λ s. AllButLast chains libraries jobs stray before (g.D.Shelf.filed s)) (sym w.shelf-is)
          (but_last_with chains accounts libraries jobs stray before start (g.D.Shelf.filed w.file.new.shelf) (omega (arith, w.if-self-gt0.true, is.window_is.count_is)) filed
          (w.in_ok-file.ensures.ok chains (1 + length now.full) libraries now.last is.window_is))
      | else-self-gt0 w ↦
          subst (λ s. AllButLast chains libraries jobs stray before (g.D.Shelf.filed s)) (sym w.shelf-is)
          (but_last_without chains accounts libraries jobs stray before start (no_job now.last (omega (arith, w.if-self-gt0.false, is.window_is.count_is))) filed)
    ] in
    at_err c.from_residual-in_err-file-2.result
    (first_but_last chains accounts libraries jobs stray before end
    (record { some = all.some; whole = all.whole; files = files_still before then end all.some all.files c.in_err-file-2.ensures.err }))

pub returns-clause-ok : goal.returns-clause-ok
returns-clause-ok g c = λ accounts libraries jobs stray before is filed.
    let chains = c.args.self.chains in
    let start = g.D.Shelf.filed c.args.shelf.now in
    let then = g.D.Shelf.filed c.if-self-gt0.shelf in
    let end = g.D.Shelf.filed c.file-2.new.self in
    let now = windows_of (room_behind libraries) jobs in
    let all : AllButLast chains libraries jobs stray before then = elim c.if-self-gt0.branch [
      | then-self-gt0+in_ok-file w ↦
          subst (λ s. AllButLast chains libraries jobs stray before (g.D.Shelf.filed s)) (sym w.shelf-is)
          (but_last_with chains accounts libraries jobs stray before start (g.D.Shelf.filed w.file.new.shelf) (omega (arith, w.if-self-gt0.true, is.window_is.count_is)) filed
          (w.in_ok-file.ensures.ok chains (1 + length now.full) libraries now.last is.window_is))
      | else-self-gt0 w ↦
          subst (λ s. AllButLast chains libraries jobs stray before (g.D.Shelf.filed s)) (sym w.shelf-is)
          (but_last_without chains accounts libraries jobs stray before start (no_job now.last (omega (arith, w.if-self-gt0.false, is.window_is.count_is))) filed)
    ] in
    let plan = subst (λ (t : List ℕ). Files then end (record { file = Plan; text = t } ∷ [])) (c.as_slice.ensures.value ∙ c.in_ok-row.ensures ∙ ap last_row is.stray_is) c.in_ok-file-2.ensures.ok in
    last_filed chains accounts libraries jobs stray before then end all plan
