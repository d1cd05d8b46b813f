use Rattle.std.proofs.Common.{◌≡◌, ◌++◌, drop, map}
use Rattle.algolw_tree.specs.Grammar.{items_of}
use Rattle.algolw_tree.specs.View.{item_tree}
use Rattle.algolw_typing.specs.Scopes as scopes
use Rattle.declared_names.proofs.blocks.declare_labels.Given as goal

-- what is declared and what is left are all
abbrev pub invariant-loop-item : goal.invariant-loop-item
invariant-loop-item l = l.scope ++ scopes.label_entries (items_of (map item_tree (drop l.item-index l.items))) ≡ l.fn.scope ++ scopes.label_entries (items_of (map item_tree l.items))
