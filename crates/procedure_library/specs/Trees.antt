-- Trees of libraries, as they lie in memory.
use Rattle.std.specs.Prelude.{Option, Some, None, if◌then◌else◌}
use Rattle.std.specs.declared.boxed.Box.{Box}
use Rattle.std.specs.declared.alloc.Global.{Global}
use Rattle.value_ops.specs.declared.places.Place.{Place}
use Rattle.algolw_tree.specs.declared.phrases.Block.{Block}
use Rattle.algolw_tree.specs.Tree as Tree
use Rattle.algolw_tree.specs.View.{block_tree}
use Rattle.algolw_tree.specs.Libraries.{is_library}

-- the block at a place
abbrev pub block_at : Place → Place → Box Block Global → Tree.Phrase
block_at place first block = Tree.At place first (block_tree block.value)

-- a program, where it is a library
abbrev pub if_library : Tree.Phrase → Option Tree.Phrase
if_library x = if is_library x then Some x else None
