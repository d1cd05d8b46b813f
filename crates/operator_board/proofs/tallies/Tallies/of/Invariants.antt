use Rattle.std.proofs.Common.{◌≡◌, take}
use Rattle.operator_board.specs.Tallies.{tallies}
use Rattle.operator_board.proofs.tallies.Tallies.of.Given as goal

-- these are the tallies of the events so far
abbrev pub invariant-loop-event : goal.invariant-loop-event
invariant-loop-event l = l.counts ≡ tallies (take l.event-index l.events)
