use Rattle.std.proofs.Common.{◌≡◌, ◌-◌, length}
use Rattle.input_editing.specs.Columns.{columns}
use Rattle.input_editing.specs.Scanning.{item_start}
use Rattle.input_editing.proofs.input.Input.behind_blanks.Given as goal

abbrev pub invariant-loop-line : goal.invariant-loop-line
invariant-loop-line l = item_start l.cards l.place ≡ item_start l.cards l.fn.self

abbrev pub decreases-loop-line : goal.decreases-loop-line
decreases-loop-line l = length (columns l.cards) - l.place
