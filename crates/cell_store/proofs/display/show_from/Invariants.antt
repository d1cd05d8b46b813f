use Rattle.std.proofs.Common.{◌≡◌, length}
use Rattle.cell_store.proofs.Filling.{IsFilled}
use Rattle.cell_store.specs.Displays.{level_in, levels_of}
use Rattle.cell_store.proofs.display.show_from.Given as goal

-- the texts above this level stand at theirs
abbrev pub invariant-loop-here : goal.invariant-loop-here
invariant-loop-here l = IsFilled l.frames (levels_of l.entered) l.fn.text l.fn.shown (level_in (levels_of l.entered) l.fn.text) l.at l.here l.shown

abbrev pub decreases-loop-here : goal.decreases-loop-here
decreases-loop-here l = l.at
