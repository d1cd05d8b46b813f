-- The line of a board that there may be.
use Rattle.std.specs.Prelude.{ℕ, List, [], Option, Some, None}
use Rattle.batch_runner.specs.declared.board.BoardLine.{BoardLine}

-- its text, or none
abbrev pub line_text : Option BoardLine → List ℕ
line_text None = []
line_text (Some line) = line.text.items
