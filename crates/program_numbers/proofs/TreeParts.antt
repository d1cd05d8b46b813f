-- Parts of phrases as trees, and how large they are.
use Rattle.std.proofs.Common.{◌≡◌, ℕ, suc, ◌+◌, map, refl}
use Rattle.std.specs.Option.{option_map}
use Rattle.algolw_tree.specs.View.{tree, spec_tree, formal_tree, procedure_tree, labelled_tree}
use Rattle.algolw_tree.specs.declared.phrases.ProcDecl.{ProcDecl, ProcDecl', out-ProcDecl}
use Rattle.algolw_tree.specs.declared.phrases.Labelled.{Labelled, Labelled', out-Labelled}
use Rattle.algolw_tree.specs.Tree as Tree
use Rattle.algolw_tree.proofs.Sizes.{size, size_items}

abbrev pub size_item : Tree.Item → ℕ
size_item (Tree.Labelled labels a) = size a

pub size_first : (i : Tree.Item) (items : Tree.Items) → size_items (Tree.item_and i items) ≡ suc (size_item i + size_items items)
size_first (Tree.Labelled labels a) items = refl

-- a phrase behind labels as a tree
pub labelled_is : (l : Labelled) → labelled_tree l ≡ Tree.Labelled (out-Labelled l).labels.items (tree (out-Labelled l).phrase.value)
unfolding out-Labelled denote.Hole.Carrier.out
labelled_is (Labelled' labels q place first kind) = refl

-- a procedure as a tree
pub procedure_is : (d : ProcDecl) → procedure_tree d ≡ Tree.Proc (out-ProcDecl d).place (option_map spec_tree (out-ProcDecl d).result) (out-ProcDecl d).name (map formal_tree (out-ProcDecl d).formals.items) (tree (out-ProcDecl d).body.value)
unfolding out-ProcDecl denote.Hole.Carrier.out
procedure_is (ProcDecl' place result name formals q p f k) = refl
