use Rattle.std.proofs.Common.{◌-◌, length}
use Rattle.input_editing.proofs.Literals.{IsReadTo}
use Rattle.input_editing.proofs.items.literal_at.Given as goal

abbrev pub invariant-loop-character : goal.invariant-loop-character
invariant-loop-character l = IsReadTo l.line l.text l.columns

abbrev pub decreases-loop-character : goal.decreases-loop-character
decreases-loop-character l = length l.line - l.columns
