use Rattle.std.proofs.Common.{◌∙◌, ap}
use Rattle.listing_parts.specs.Words.{before_blank, behind_blank}
use Rattle.listing_parts.proofs.Counts.{sum_digits}
use Rattle.listing_parts.proofs.sums.printed_on.Goals as goal

pub returns : goal.returns
returns c = λ printed sum.
    let first = c.behind_blank-cards.ensures in
    let second = c.behind_blank.ensures ∙ ap behind_blank first in
    let third = c.behind_blank-steps.ensures ∙ ap behind_blank second in
    let fourth = c.behind_blank-2.ensures ∙ ap behind_blank third in
    let fifth = c.behind_blank-lines.ensures ∙ ap behind_blank fourth in
    c.number_of.ensures printed sum.printed_fit (c.before_blank.ensures ∙ ap before_blank fifth ∙ sum_digits c.args.line.now printed sum)
