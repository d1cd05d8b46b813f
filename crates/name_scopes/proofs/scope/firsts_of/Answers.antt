use Rattle.std.proofs.Common.{ℕ, ap, ◌∙◌, arith, rules, Option, get_or, ◌≡◌, ◌<◌, length}
use Rattle.std.proofs.lemmas.Grind.{common_steps}
use Rattle.std.specs.HashMap.{get}
use Rattle.std.specs.Option.{unwrap_or}
use Rattle.std.specs.Str.{bytes_eq}
use Rattle.name_scopes.proofs.Firsts.{firsts-more}
use Rattle.name_scopes.proofs.scope.firsts_of.Goals as goal

pub loop-position-preserved : goal.loop-position-preserved
loop-position-preserved c =
    let names = c.args.names.now.items in
    let i = c.loop-position.position in
    let x = c.declared-item.result in
    let within : i < length names = search rules in
    let item : x ≡ get_or names i x = search rules in
    let here = c.or_insert.ensures.value ∙ ap (λ (held : Option ℕ). unwrap_or held i) (c.in_ok-first.ensures.value ∙ ap (get bytes_eq c.loop-position.first) c.new.ensures) in
    record { at = λ q. firsts-more names i x c.or_insert.result.now c.loop-position.first _ q within item c.loop-position.invariant here (grind (arith, common_steps)) }
