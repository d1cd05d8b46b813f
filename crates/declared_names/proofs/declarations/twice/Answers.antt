use Rattle.std.proofs.Common.{◌++◌, ◌<◌, ◌+◌, length, take, drop, sym, ap, ◌∙◌, arith}
use Rattle.algolw_typing.specs.Scopes as rules
use Rattle.declared_names.proofs.Again.{carried, twice_next}
use Rattle.declared_names.proofs.declarations.twice.Goals as goal
use Rattle.declared_names.proofs.declarations.twice.Goals.{in-Some+in_ok-add_fault, in_default}

pub loop-position-preserved : goal.loop-position-preserved
loop-position-preserved c =
    let scope = c.args.scope.now in
    let within : c.loop-position.position < length scope = omega arith in
    let left = rules.twice (take c.loop-position.position scope) (drop c.loop-position.position scope) in
    let rest = rules.twice (take (c.loop-position.position + 1) scope) (drop (c.loop-position.position + 1) scope) in
    elim c.match-second_at.branch [
      | in-Some+in_ok-add_fault w ↦ carried _ _ _ left rest _ (ap (λ fs. fs.items) w.faults-is ∙ w.in_ok-add_fault.ensures) (twice_next scope c.loop-position.position _ within w.in-Some.ensures) c.loop-position.invariant
      | in_default w ↦ ap (λ fs. fs.items ++ rest) w.faults-is ∙ ap (λ fs. c.loop-position.faults.items ++ fs) (sym (twice_next scope c.loop-position.position _ within w.in_default.ensures)) ∙ c.loop-position.invariant
    ]
