-- The tree that a library in memory is.
use Rattle.algolw_tree.specs.Tree.{Phrase}
use Rattle.procedure_library.specs.declared.library_tree.LibraryTree.{LibraryTree}
use Rattle.procedure_library.specs.Trees.{block_at}

abbrev pub library_tree : LibraryTree → Phrase
library_tree library = block_at library.place library.first library.block
