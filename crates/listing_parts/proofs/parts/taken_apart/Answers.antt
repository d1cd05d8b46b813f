use Rattle.std.proofs.Common.{length, ◌∙◌}
use Rattle.std.proofs.lemmas.List.{take_rest}
use Rattle.listing_parts.proofs.Apart.{closing_left, closing_there}
use Rattle.listing_parts.proofs.parts.taken_apart.Goals as goal

pub returns-in_default : goal.returns-in_default
returns-in_default c = λ lines below sections h listing. closing_there lines below sections listing (c.in_default.ensures.above lines h)

pub returns-in-Some-2 : goal.returns-in-Some-2
returns-in-Some-2 c = λ lines below sections h listing.
    let left = closing_left lines below sections c.args.text.now c.in-Some.above.now h listing (c.in-Some.ensures.above lines h) in
    let texts = rw c.in-Some-2.is at (c.in_ok-sections.ensures listing.above sections left.0 listing.are_sections) in
    (texts, take_rest c.args.text.now (length c.in-Some.above.now) ∙ left.1)

pub returns-in-None : goal.returns-in-None
returns-in-None c = λ lines below sections h listing.
    let left = closing_left lines below sections c.args.text.now c.in-Some.above.now h listing (c.in-Some.ensures.above lines h) in
    rw c.in-None.is at (c.in_ok-sections.ensures listing.above sections left.0 listing.are_sections)
