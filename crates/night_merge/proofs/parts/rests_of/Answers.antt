use Rattle.std.proofs.Common.{ℕ, ◌∷◌, [], List, length, length-append, map, ap, arith}
use Rattle.std.specs.Borrow.{Bor}
use Rattle.night_merge.proofs.Numbers.{number_here, numbers_begin, rest_pushed, rest_read, rests_read, shown}
use Rattle.night_merge.proofs.Results.{some_and, some_not_none}
use Rattle.night_merge.proofs.parts.rests_of.Goals as goal

pub loop-at-init : goal.loop-at-init
loop-at-init c = (
  ap (λ (l : List (Bor (List ℕ))). length l) c.new-rests.ensures.items,
  λ rests blanks e. numbers_begin rests _ _ (ap (λ (l : List (Bor (List ℕ))). map (λ (r : Bor (List ℕ)). r.now) l) c.new-rests.ensures.items) blanks e,
)

pub returns-in_default-clause-rests : goal.returns-in_default-clause-rests
returns-in_default-clause-rests c = λ rests blanks e.
    let next = number_here c.args.sections.now c.loop-at.at _ rests (shown c.loop-at.rests.items) c.loop-at-test.true (c.loop-at.invariant.1 rests blanks e) in
    some_not_none c.in_ok-rest.field-0 _ (rest_read rests _ _ _ (shown c.loop-at.rests.items) c.in_ok-rest.field-0 next c.in_ok-rest.ensures) c.in_default.is

pub loop-at-preserved : goal.loop-at-preserved
loop-at-preserved c = (
  omega (arith, ap (λ (l : List (Bor (List ℕ))). length l) c.in_ok-push.ensures.items, length-append c.loop-at.rests.items (c.in-Some.rest ∷ []), c.loop-at.invariant.0),
  λ rests blanks e.
      let next = number_here c.args.sections.now c.loop-at.at _ rests (shown c.loop-at.rests.items) c.loop-at-test.true (c.loop-at.invariant.1 rests blanks e) in
      rest_pushed rests _ c.loop-at.rests.items _ c.in-Some.rest c.in_ok-push.ensures.items
      (some_and c.in_ok-rest.field-0 c.in-Some.rest _ (rest_read rests _ _ _ (shown c.loop-at.rests.items) c.in_ok-rest.field-0 next c.in_ok-rest.ensures) c.in-Some.is),
)

pub returns-clause-rests : goal.returns-clause-rests
returns-clause-rests c = λ rests blanks e.
    rests_read rests c.args.sections.now c.loop-at.rests.items _ c.loop-at.at c.loop-at-test.false c.reverse.ensures.items (c.loop-at.invariant.1 rests blanks e)
