use Rattle.std.proofs.Common.{ℕ, ◌∷◌, ◌++◌, [], List, decimal, ap, ◌∙◌, arith}
use Rattle.std.specs.Borrow.{Bor}
use Rattle.night_merge.proofs.Numbers.{sections_down, sections_many, shown}
use Rattle.night_merge.proofs.Results.{some_and, some_not_none}
use Rattle.night_merge.proofs.parts.part_rests.Goals as goal

pub returns-in_default-clause-part : goal.returns-in_default-clause-part
returns-in_default-clause-part c = λ rests before after many has low p.
    absurd (some_not_none c.in_ok-parts.field-0 _ (c.in_ok-parts.ensures p.up p.closing_part p.sections_part p.upward p.form) c.in_default.is)

pub returns-then-len-count-clause-part : goal.returns-then-len-count-clause-part
returns-then-len-count-clause-part c = λ rests before after many has low p.
    let taken = some_and c.in_ok-parts.field-0 c.in-Some.parts _ (c.in_ok-parts.ensures p.up p.closing_part p.sections_part p.upward p.form) c.in-Some.is in
    let down = sections_down p.sections_part rests c.in-Some.parts.sections.items p.sections_are taken.0 in
    let same = sections_many rests c.in-Some.parts.sections.items down in
    absurd (c.if-len-count.true (omega (arith, c.len.ensures, many, same)))

pub returns-in_default-2-clause-part : goal.returns-in_default-2-clause-part
returns-in_default-2-clause-part c = λ rests before after many has low p.
    let taken = some_and c.in_ok-parts.field-0 c.in-Some.parts _ (c.in_ok-parts.ensures p.up p.closing_part p.sections_part p.upward p.form) c.in-Some.is in
    let down = ap (λ (l : List (Bor (List ℕ))). shown l) c.as_slice.ensures.value ∙ sections_down p.sections_part rests c.in-Some.parts.sections.items p.sections_are taken.0 in
    absurd (some_not_none c.in_ok-rests.field-0 _ (c.in_ok-rests.ensures.rests rests p.blanks down) c.in_default-2.is)

pub returns-then-not-branch-clause-part : goal.returns-then-not-branch-clause-part
returns-then-not-branch-clause-part c = λ rests before after many has low p.
    let taken = some_and c.in_ok-parts.field-0 c.in-Some.parts _ (c.in_ok-parts.ensures p.up p.closing_part p.sections_part p.upward p.form) c.in-Some.is in
    let settled = c.in_ok-settle.ensures.settled before after (decimal p.stray ++ 10 ∷ []) has low (taken.1 ∙ p.closing_is) in
    absurd (cc (settled.0, c.if-not-branch.true))

pub returns-clause-part : goal.returns-clause-part
returns-clause-part c = λ rests before after many has low p.
    let taken = some_and c.in_ok-parts.field-0 c.in-Some.parts _ (c.in_ok-parts.ensures p.up p.closing_part p.sections_part p.upward p.form) c.in-Some.is in
    let down = ap (λ (l : List (Bor (List ℕ))). shown l) c.as_slice.ensures.value ∙ sections_down p.sections_part rests c.in-Some.parts.sections.items p.sections_are taken.0 in
    let settled = c.in_ok-settle.ensures.settled before after (decimal p.stray ++ 10 ∷ []) has low (taken.1 ∙ p.closing_is) in
    (some_and c.in_ok-rests.field-0 c.in-Some-2.rests _ (c.in_ok-rests.ensures.rests rests p.blanks down) c.in-Some-2.is, settled.1)
