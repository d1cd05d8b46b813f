-- Two items or more are no library's.
use Rattle.std.proofs.Common.{◌≡◌, ◌≤◌, false, List, [], ◌∷◌, length, map, refl, arith}
use Rattle.algolw_tree.specs.declared.phrases.Item.{Item}
use Rattle.algolw_tree.specs.Grammar.{items_of}
use Rattle.algolw_tree.specs.View.{item_tree}
use Rattle.algolw_tree.specs.Libraries.{is_void}

pub several : (xs : List Item) → 2 ≤ length xs → false ≡ is_void (items_of (map item_tree xs))
several [] h = absurd (omega arith)
several (x ∷ []) h = absurd (omega arith)
several (x ∷ y ∷ xs) h = refl
