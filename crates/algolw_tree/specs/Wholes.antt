-- The tree of a program of which the declarations and the items lie apart in memory.
use Rattle.std.specs.Prelude.{map}
use Rattle.algolw_tree.specs.declared.whole.Whole.{Whole}
use Rattle.algolw_tree.specs.Grammar.{decls_of, items_of}
use Rattle.algolw_tree.specs.Tree as Tree
use Rattle.algolw_tree.specs.View.{decl_tree, item_tree}

abbrev pub whole_kind : Whole → Tree.Kind
whole_kind w = Tree.Block (decls_of (map decl_tree w.decls.now)) (items_of (map item_tree w.items.now))

abbrev pub whole_tree : Whole → Tree.Phrase
whole_tree w = Tree.At w.place w.first (whole_kind w)
