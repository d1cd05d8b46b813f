use Rattle.std.proofs.Common.{◌≡◌, ◌++◌, ◌∷◌, [], List, ℕ, Some, refl, sym, ap, subst, ◌∙◌, append_assoc, append-nil, arith}
use Rattle.deck_reader.specs.Cards.{pieces}
use Rattle.night_shares.specs.declared.stop.Stop.{Stop}
use Rattle.night_shares.specs.Lines.{begins_job}
use Rattle.night_shares.specs.Plan.{row}
use Rattle.night_shares.specs.Reading.{IsInLine, TakesLine, to_come}
use Rattle.night_shares.specs.Running.{IsLargeUpTo, bytes_to_come}
use Rattle.night_shares.specs.Stops.{ReadCause}
use Rattle.night_shares.proofs.LineRuns.{all_push, large_by_now, long_to_come, none_push, taken_to_end, taken_to_head, text_push}
use Rattle.night_shares.proofs.Results.{at_this, read_cause}
use Rattle.night_shares.proofs.runs.Runs.up_to_head.Goals as goal

pub loop-line-init : goal.loop-line-init
loop-line-init g c = (c.requires, refl, λ bytes is. ([], bytes, is, refl, refl, tt, sym (append-nil c.args.text.items)))

pub returns-in_err-next-clause-err : goal.returns-in_err-next-clause-err
returns-in_err-next-clause-err g c =
    let Large : Type 0 = (bytes : List ℕ) → bytes_to_come c.args.self.now (g.S.Source.left c.args.src.now) ≡ Some bytes → IsLargeUpTo c.args.text.items (pieces bytes) in
    let P : Stop → Type 0 = λ stop. ReadCause stop (g.S.Source.faults c.args.src.now) (g.S.Source.faults c.next.new.src) Large in
    at_this c.from_residual.result c.in_err-next.field-0.0 P c.from_residual.ensures.1
    (read_cause c.in_err-next.field-0.0 (g.S.Source.faults c.args.src.now) _ _ _ Large c.loop-line.invariant.1 c.in_err-next.ensures.err
    (λ long bytes is. (let at = c.loop-line.invariant.2 bytes is in long_to_come c.args.text.items bytes at.1 at.0 at.3 (long at.1 at.2))))

pub returns-then-not-branch-clause-taken : goal.returns-then-not-branch-clause-taken
returns-then-not-branch-clause-taken g c = λ bytes is.
    let at = c.loop-line.invariant.2 bytes is in
    let come = to_come c.next.new.self (g.S.Source.left c.next.new.src) in
    let taken = subst (TakesLine at.1 c.next.new.line.items come) c.if-not-branch.true (c.in_ok-next.ensures.line at.1 at.2) in
    taken_to_end c.args.text.items bytes _ come c.loop-line.text.items at.0
    (at.3 ∙ ap (λ (b : List ℕ). at.0 ++ pieces b) taken.0 ∙ append-nil at.0) at.4 at.5 at.6 c.loop-line.invariant.0 taken.1

pub returns-then-is_head-clause-taken : goal.returns-then-is_head-clause-taken
returns-then-is_head-clause-taken g c = λ bytes is.
    let at = c.loop-line.invariant.2 bytes is in
    let line = c.next.new.line.items in
    let come = to_come c.next.new.self (g.S.Source.left c.next.new.src) in
    let taken = subst (TakesLine at.1 line come) c.if-not-branch.false (c.in_ok-next.ensures.line at.1 at.2) in
    let begins = sym (c.is_head.ensures taken.0 (c.as_slice.ensures.value ∙ taken.4)) ∙ c.if-is_head.true in
    taken_to_head c.args.text.items bytes (Some line) come c.loop-line.text.items line taken.0 taken.1 at.0
    (at.3 ∙ ap (λ (ls : List (List ℕ)). at.0 ++ ls) taken.5) at.4 at.5 begins taken.2 at.6 refl taken.4 taken.3

pub loop-line-preserved : goal.loop-line-preserved
loop-line-preserved g c = (
  c.loop-line.invariant.0,
  c.in_ok-next.ensures.kept ∙ c.loop-line.invariant.1,
  λ bytes is.
      let at = c.loop-line.invariant.2 bytes is in
      let line = c.next.new.line.items in
      let come = to_come c.next.new.self (g.S.Source.left c.next.new.src) in
      let taken = subst (TakesLine at.1 line come) c.if-not-branch.false (c.in_ok-next.ensures.line at.1 at.2) in
      let other = sym (c.is_head.ensures taken.0 (c.as_slice.ensures.value ∙ taken.4)) ∙ c.if-is_head.false in (
        at.0 ++ taken.0 ∷ [],
        taken.1,
        taken.3,
        at.3 ∙ ap (λ (ls : List (List ℕ)). at.0 ++ ls) taken.5 ∙ sym (append_assoc at.0 (taken.0 ∷ []) (pieces taken.1)),
        none_push begins_job at.0 taken.0 at.4 other,
        all_push IsInLine at.0 taken.0 at.5 taken.2,
        c.in_ok-extend_from_slice.ensures.items
            ∙ ap (λ (t : List ℕ). c.loop-line.text.items ++ t) (c.as_slice-in-loop-line.ensures.value ∙ taken.4)
            ∙ ap (λ (t : List ℕ). t ++ row taken.0) at.6 ∙ text_push c.args.text.items at.0 taken.0,
      ),
)

pub returns-clause-err : goal.returns-clause-err
returns-clause-err g c = λ bytes is.
    let at = c.loop-line.invariant.2 bytes is in
    large_by_now c.args.text.items bytes c.loop-line.text.items at.1 at.0 at.3 at.4 at.6 (omega (arith, c.len.ensures, c.loop-line-test.false))
