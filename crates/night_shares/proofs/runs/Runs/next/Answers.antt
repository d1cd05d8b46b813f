use Rattle.std.proofs.Common.{List, ℕ, Option, refl, sym, ap, subst}
use Rattle.std.specs.Option.{option_map}
use Rattle.deck_reader.specs.Cards.{pieces}
use Rattle.night_shares.specs.declared.stop.Stop.{Stop}
use Rattle.night_shares.specs.Running.{AtHead, IsLargeRun, IsLargeUpTo, TakesUpTo, bytes_to_come, head_of}
use Rattle.night_shares.specs.Stops.{ReadCause}
use Rattle.night_shares.proofs.LineRuns.{run_large, run_taken}
use Rattle.night_shares.proofs.Results.{at_this, read_cause}
use Rattle.night_shares.proofs.runs.Runs.next.Goals as goal

pub returns-in_err-run-clause-err : goal.returns-in_err-run-clause-err
returns-in_err-run-clause-err g c =
    let come = bytes_to_come c.args.self.now (g.S.Source.left c.args.src.now) in
    let Large : Type 0 = (lines : List (List ℕ)) → AtHead (head_of c.args.self.now) come lines → IsLargeRun lines in
    let P : Stop → Type 0 = λ stop. ReadCause stop (g.S.Source.faults c.args.src.now) (g.S.Source.faults c.up_to_head.new.src) Large in
    at_this c.from_residual.result c.in_err-run.field-0.0 P c.from_residual.ensures.1
    (read_cause c.in_err-run.field-0.0 (g.S.Source.faults c.args.src.now) _ _ _ Large refl c.in_err-run.ensures.err
    (λ long lines is.
    (let at = subst (λ (h : Option (List ℕ)). AtHead h come lines) (sym (ap (option_map (λ h. h.items)) c.in-Some.ensures.value)) is in
    run_large lines at.0 at.1 at.6 at.5 (subst (λ (t : List ℕ). IsLargeUpTo t (pieces at.1)) at.3 (long at.1 at.2)))))

pub returns-clause-run : goal.returns-clause-run
returns-clause-run g c = λ lines is.
    let come = bytes_to_come c.args.self.now (g.S.Source.left c.args.src.now) in
    let new = c.up_to_head.new.self in
    let left = g.S.Source.left c.up_to_head.new.src in
    let at = subst (λ (h : Option (List ℕ)). AtHead h come lines) (sym (ap (option_map (λ h. h.items)) c.in-Some.ensures.value)) is in
    run_taken lines (head_of new) (bytes_to_come new left) c.in_ok-run.run'.items at.0 at.1 at.6 at.5 at.4
    (subst (λ (t : List ℕ). TakesUpTo t at.1 (head_of new) (bytes_to_come new left) c.in_ok-run.run'.items) at.3 (c.in_ok-run.ensures.taken at.1 at.2))
