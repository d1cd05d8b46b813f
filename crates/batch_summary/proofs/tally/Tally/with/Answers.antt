use Rattle.std.proofs.Common.{rules, ◌≡◌, ◌+◌, refl}
use Rattle.batch_summary.specs.Tally.{is_diagnosed, is_fault, is_limit, is_normal, is_refused, with_one}
use Rattle.batch_summary.proofs.tally.Tally.with.Goals as goal

pub returns : goal.returns
returns c =
    let outcome = c.args.section.outcome in
    let normal : c.in_ok-with_one.field-0 ≡ with_one c.args.self.normal (is_normal outcome) = search rules in
    let fault : c.in_ok-with_one-2.field-0 ≡ with_one c.args.self.fault (is_fault outcome) = search rules in
    let limit : c.in_ok-with_one-3.field-0 ≡ with_one c.args.self.limit (is_limit outcome) = search rules in
    let diagnosed : c.in_ok-with_one-4.field-0 ≡ with_one c.args.self.diagnosed (is_diagnosed outcome) = search rules in
    let refused : c.in_ok-with_one-5.field-0 ≡ with_one c.args.self.refused (is_refused outcome) = search rules in
    let charges : c.in_ok-checked_add.field-0 ≡ c.args.self.charges + c.args.section.charge = search rules in
    let bytes : c.in_ok-checked_add-2.field-0 ≡ c.args.self.bytes + c.args.section.bytes = search rules in
    rw (normal, fault, limit, diagnosed, refused, charges, bytes) refl
