use Rattle.std.proofs.Common.{◌≡◌, ℕ, ◌-◌, Some, ap, arith}
use Rattle.night_merge.proofs.ClosingLines.{charges_parted}
use Rattle.night_merge.proofs.Plans.{parts_are}
use Rattle.night_merge.proofs.closing.charged_on.Goals as goal

pub returns-in_err-behind : goal.returns-in_err-behind
returns-in_err-behind c = λ charges rest less e. absurd (c.in_err-behind.ensures _ e)

pub returns-in_err-digits : goal.returns-in_err-digits
returns-in_err-digits c = λ charges rest less e.
    absurd (cc (c.in_err-digits.ensures.parts, charges_parted c.args.text.now c.args.front.now c.in_ok-behind.field-0.now rest charges (omega arith) c.in_ok-behind.ensures e))

pub returns-in_err-charges : goal.returns-in_err-charges
returns-in_err-charges c = λ charges rest less e.
    let parts = parts_are c.in_ok-behind.field-0.now _ _ _ _ c.in_ok-digits.ensures.parts (charges_parted c.args.text.now c.args.front.now c.in_ok-behind.field-0.now rest charges (omega arith) c.in_ok-behind.ensures e) in
    absurd (cc (c.in_err-charges.ensures charges (omega arith) parts.0))

pub returns-then-charges-opening : goal.returns-then-charges-opening
returns-then-charges-opening c = λ charges rest less e.
    let parts = parts_are c.in_ok-behind.field-0.now _ _ _ _ c.in_ok-digits.ensures.parts (charges_parted c.args.text.now c.args.front.now c.in_ok-behind.field-0.now rest charges (omega arith) c.in_ok-behind.ensures e) in
    let number : Some c.in_ok-charges.charges ≡ Some charges = c.in_ok-charges.ensures charges (omega arith) parts.0 in
    let same : c.in_ok-charges.charges ≡ charges = cc number in
    absurd (omega (arith, same, less, c.if-charges-opening.true))

pub returns : goal.returns
returns c = λ charges rest less e.
    let parts = parts_are c.in_ok-behind.field-0.now _ _ _ _ c.in_ok-digits.ensures.parts (charges_parted c.args.text.now c.args.front.now c.in_ok-behind.field-0.now rest charges (omega arith) c.in_ok-behind.ensures e) in
    let number : Some c.in_ok-charges.charges ≡ Some charges = c.in_ok-charges.ensures charges (omega arith) parts.0 in
    let same : c.in_ok-charges.charges ≡ charges = cc number in
    ap (λ (n : ℕ). Some (c.args.opening - n)) same
