use Rattle.std.proofs.Common.{ℕ, ap, ◌∙◌, arith, rules, Option, get_or, ◌≡◌, ◌<◌, length}
use Rattle.std.proofs.lemmas.Grind.{common_steps}
use Rattle.std.specs.Option.{unwrap_or}
use Rattle.night_shares.proofs.AccountNumbers.{numbers-more}
use Rattle.night_shares.proofs.payers.numbers_of.Goals as goal

pub loop-number-preserved : goal.loop-number-preserved
loop-number-preserved c =
    let accounts = c.args.accounts.now.items in
    let i = c.loop-number.number in
    let a = c.account-item.result in
    let within : i < length accounts = search rules in
    let item : a ≡ get_or accounts i a = search rules in
    let here = c.or_insert.ensures.value ∙ ap (λ (held : Option ℕ). unwrap_or held i) c.in_ok-numbers.ensures.value in
    λ name. numbers-more accounts i a c.loop-number.numbers _ c.or_insert.result.now name within item c.loop-number.invariant here (grind (arith, common_steps))
