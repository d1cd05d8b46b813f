use Rattle.std.proofs.Common.{◌≡◌, ℕ, ◌∷◌, true, Some, List, sym, ap, ◌∙◌, subst}
use Rattle.listing_parts.specs.Reads.{Leaves}
use Rattle.listing_parts.specs.Sections.{begins, IsSum}
use Rattle.listing_parts.specs.Upwards.{above_sum}
use Rattle.listing_parts.proofs.Counts.{no_both}
use Rattle.listing_parts.proofs.Texts.{last_is}
use Rattle.listing_parts.proofs.section.above_section.Goals as goal

pub returns-in_err-above-clause-refused : goal.returns-in_err-above-clause-refused
returns-in_err-above-clause-refused c = λ last up h is. absurd (cc (c.in_err-above.ensures.line (last ∷ up) h))

pub returns-in_err-above-clause-summed : goal.returns-in_err-above-clause-summed
returns-in_err-above-clause-summed c = λ last up printed h sum. absurd (cc (c.in_err-above.ensures.line (last ∷ up) h))

pub returns-then-begins-clause-refused : goal.returns-then-begins-clause-refused
returns-then-begins-clause-refused c = λ last up h is.
    c.above_head.ensures.above up (last_is last c.in_ok-above.last.now c.in_ok-above.above.now up (c.in_ok-above.ensures.line (last ∷ up) h)).1

pub returns-then-begins-clause-summed : goal.returns-then-begins-clause-summed
returns-then-begins-clause-summed c = λ last up printed h sum.
    let read = last_is last c.in_ok-above.last.now c.in_ok-above.above.now up (c.in_ok-above.ensures.line (last ∷ up) h) in
    let refused : begins 82 last ≡ true = ap (begins 82) (sym read.0) ∙ sym c.begins.ensures ∙ c.if-begins.true in
    absurd (no_both last printed refused sum)

pub returns-in_err-printed_on-clause-refused : goal.returns-in_err-printed_on-clause-refused
returns-in_err-printed_on-clause-refused c = λ last up h is.
    let read = last_is last c.in_ok-above.last.now c.in_ok-above.above.now up (c.in_ok-above.ensures.line (last ∷ up) h) in
    let refused : c.begins.result ≡ true = c.begins.ensures ∙ ap (begins 82) read.0 ∙ is in
    absurd (cc (refused, c.if-begins.false))

pub returns-in_err-printed_on-clause-summed : goal.returns-in_err-printed_on-clause-summed
returns-in_err-printed_on-clause-summed c = λ last up printed h sum.
    let read = last_is last c.in_ok-above.last.now c.in_ok-above.above.now up (c.in_ok-above.ensures.line (last ∷ up) h) in
    let Q : List ℕ → Type 0 = λ l. IsSum l printed in
    absurd (cc (c.in_err-printed_on.ensures printed (subst Q (sym read.0) sum)))

pub returns-clause-refused : goal.returns-clause-refused
returns-clause-refused c = λ last up h is.
    let read = last_is last c.in_ok-above.last.now c.in_ok-above.above.now up (c.in_ok-above.ensures.line (last ∷ up) h) in
    let refused : c.begins.result ≡ true = c.begins.ensures ∙ ap (begins 82) read.0 ∙ is in
    absurd (cc (refused, c.if-begins.false))

pub returns-clause-summed : goal.returns-clause-summed
returns-clause-summed c = λ last up printed h sum.
    let read = last_is last c.in_ok-above.last.now c.in_ok-above.above.now up (c.in_ok-above.ensures.line (last ∷ up) h) in
    let Q : List ℕ → Type 0 = λ l. IsSum l printed in
    let counted : Some c.in_ok-printed_on.field-0 ≡ Some printed = c.in_ok-printed_on.ensures printed (subst Q (sym read.0) sum) in
    let count : c.in_ok-printed_on.field-0 ≡ printed = cc in
    let R : ℕ → Type 0 = λ n. Leaves (above_sum n up) c.above_sum.result in
    subst R count (c.above_sum.ensures.above up read.1)
