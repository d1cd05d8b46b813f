use Rattle.night_merge.proofs.Fronts.{front_agrees, front_differs}
use Rattle.night_merge.proofs.texts.behind.Goals as goal

pub returns-then-eq : goal.returns-then-eq
returns-then-eq c =
    let cut = c.in_ok-front.ensures.cases in
    front_agrees c.args.bytes.now c.args.text.now c.in_ok-front.front.now c.in_ok-front.rest.now c.eq.result cut.1 cut.2 c.eq.ensures c.if-eq.true

pub returns-else-eq : goal.returns-else-eq
returns-else-eq c = λ rest.
    let cut = c.in_ok-front.ensures.cases in
    front_differs c.args.bytes.now c.args.text.now c.in_ok-front.front.now rest c.eq.result cut.1 c.eq.ensures c.if-eq.false
