use Rattle.std.proofs.Common.{◌≡◌, ◌<◌, ◌≤◌, length, nat_lt, count_by, arith}
use Rattle.deck_reader.specs.Cards.{cards}
use Rattle.deck_reader.specs.Forms.{is_head}
use Rattle.deck_reader.proofs.Feeding.{beyond, over_by, over_heads, within}
use Rattle.deck_reader.proofs.reader.Reader.finish.Goals as goal

pub returns-then-self-gt-MOST_JOBS-clause-large : goal.returns-then-self-gt-MOST_JOBS-clause-large
returns-then-self-gt-MOST_JOBS-clause-large c = λ given taken input stands is.
    let heads : c.end_input.new.self.reading.heads ≡ count_by is_head (cards input) = (c.in_ok-end_input.ensures.read given taken input stands).heads_are in
    let many : 2000 < count_by is_head (cards input) = omega (arith, heads, c.if-self-gt-MOST_JOBS.true) in
    over_heads (nat_lt 4194304 (length input)) (nat_lt 2000 (count_by is_head (cards input))) (beyond 2000 (count_by is_head (cards input)) many)

pub returns-clause-fits : goal.returns-clause-fits
returns-clause-fits c = λ given taken input stands.
    let heads : c.end_input.new.self.reading.heads ≡ count_by is_head (cards input) = (c.in_ok-end_input.ensures.read given taken input stands).heads_are in
    let few : count_by is_head (cards input) ≤ 2000 = omega (arith, heads, c.if-self-gt-MOST_JOBS.false) in
    over_by (nat_lt 4194304 (length input)) (nat_lt 2000 (count_by is_head (cards input))) (within 4194304 (length input) stands.few_bytes) (within 2000 (count_by is_head (cards input)) few)
