-- What of the stacks fits into the room that a code's marks give.
use Rattle.std.specs.Prelude.{◌≡◌, ℕ, ◌+◌, ◌*◌, ◌≤◌, length}
use Rattle.program_meaning.specs.State.{most_cells, most_depth}
use Rattle.code_simulation.specs.UnderWay.{names_in, marks_in, texts_in}
use Rattle.code_simulation.specs.Relation.{Base, World}

-- The stacks fit, and n marks more do in the text that runs: each text under way that counts has its mark and at most so many in it, the innermost
-- so_far.
pub record Fits (most : ℕ) (w : World) (b : Base) (n : ℕ) : Type 0 where
  pub so_far : ℕ
  pub within : so_far + n ≤ most
  pub marked : marks_in b.entries ≤ texts_in b.entries * (most + 1) + so_far
  pub named : names_in b.entries ≤ length b.slots
  pub framed : length b.frames ≤ marks_in b.entries
  pub few : names_in b.entries ≤ most_cells
  pub deep : texts_in b.entries ≤ most_depth
  pub marks_are : w.marks ≡ most
