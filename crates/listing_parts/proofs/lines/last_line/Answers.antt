use Rattle.std.proofs.Common.{◌-◌, length, take, arith, refl}
use Rattle.std.proofs.lemmas.List.{take_rest}
use Rattle.listing_parts.proofs.Texts.{reads_last}
use Rattle.listing_parts.proofs.lines.last_line.Goals as goal

pub returns-clause-line : goal.returns-clause-line
returns-clause-line c = λ lines h.
    let body = take (length c.args.text.now - 1) c.args.text.now in
    reads_last c.args.text.now c.count_behind_feed.result lines _ _ h (omega arith) c.count_behind_feed.ensures.count refl (take_rest body (length body - c.count_behind_feed.result))
