use Rattle.std.proofs.Common.{◌∙◌}
use Rattle.night_merge.proofs.Numbers.{rest_is, rest_there}
use Rattle.night_merge.proofs.parts.rest_of.Goals as goal
use Rattle.night_merge.proofs.parts.rest_of.Goals.{in_default-via-in-Some+else-begins_with_blank, in_default-via-in_default}

pub returns-in-Some : goal.returns-in-Some
returns-in-Some c = λ rest blank e. rest_is c.args.section.now _ c.in-Some.rest.now rest c.args.number (c.as_slice.ensures.value ∙ c.in_ok-head.ensures) c.in-Some.ensures e

pub returns : goal.returns
returns c = λ rest blank e.
    let head = c.as_slice.ensures.value ∙ c.in_ok-head.ensures in
    elim c.in_default.branch [
      | in_default-via-in-Some+else-begins_with_blank w ↦
          (let same = rest_is c.args.section.now _ w.in-Some.rest.now rest c.args.number head w.in-Some.ensures e in
          absurd (cc (same, blank, w.begins_with_blank.ensures, w.if-begins_with_blank.false)))
      | in_default-via-in_default w ↦ absurd (w.in_default.ensures rest (rest_there c.args.section.now _ rest c.args.number head e))
    ]
