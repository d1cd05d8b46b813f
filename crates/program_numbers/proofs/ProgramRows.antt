-- What a program in memory has in its rows, read at the vectors' items.
use Rattle.std.proofs.Common.{◌≡◌, ℕ, Option, Some, None, map, refl, ap, ◌∙◌}
use Rattle.std.specs.declared.vec.Vec.{Vec}
use Rattle.std.specs.declared.alloc.Global.{Global}
use Rattle.std.specs.declared.boxed.Box.{Box}
use Rattle.value_ops.specs.declared.places.Place.{Place}
use Rattle.value_ops.specs.declared.values.SimpleType.{SimpleType}
use Rattle.algolw_tree.specs.declared.programs.Node.{Node}
use Rattle.algolw_tree.specs.declared.programs.TypedLink.{TypedLink}
use Rattle.algolw_tree.specs.declared.programs.TypedList.{TypedList}
use Rattle.algolw_tree.specs.declared.programs.TypedItem.{TypedItem}
use Rattle.algolw_tree.specs.declared.programs.TypedActual.{TypedActual}
use Rattle.algolw_tree.specs.declared.programs.TypedPart.{TypedPart}
use Rattle.algolw_tree.specs.declared.programs.TypedBound.{TypedBound}
use Rattle.algolw_tree.specs.declared.programs.NodeKind.{Named, Chain, IfThen, CaseValue, CaseDo, ForStep, ForList, Block, Row_of-Node, end_of-Node, more_of-Node, items-the_row-Node, Row_of-TypedLink, end_of-TypedLink, more_of-TypedLink, items-the_row-TypedLink, Row_of-TypedList, end_of-TypedList, more_of-TypedList, items-the_row-TypedList, Row_of-TypedPart, end_of-TypedPart, more_of-TypedPart, items-the_row-TypedPart, Row_of-TypedItem, end_of-TypedItem, more_of-TypedItem, items-the_row-TypedItem, Row_of-TypedDecl, end_of-TypedDecl, more_of-TypedDecl, items-the_row-TypedDecl}
use Rattle.algolw_tree.specs.declared.programs.TypedListKind.{Actuals, Row_of-TypedActual, end_of-TypedActual, more_of-TypedActual, items-the_row-TypedActual}
use Rattle.algolw_tree.specs.declared.programs.TypedDecl.{TypedDecl, Array, Row_of-TypedBound, end_of-TypedBound, more_of-TypedBound, items-the_row-TypedBound}
use Rattle.algolw_tree.specs.declared.programs.NodeKind.TheBlock.{hidden-the_row-TypedList-0, items_hidden-the_row-TypedList-0, hidden-the_row-TypedLink-1, items_hidden-the_row-TypedLink-1, hidden-the_row-Node-2, items_hidden-the_row-Node-2, hidden-the_row-TypedPart-3, items_hidden-the_row-TypedPart-3, hidden-the_row-TypedDecl-4, items_hidden-the_row-TypedDecl-4, hidden-the_row-TypedItem-5, items_hidden-the_row-TypedItem-5, hidden-the_row-TypedBound-6, items_hidden-the_row-TypedBound-6, hidden-the_row-TypedActual-7, items_hidden-the_row-TypedActual-7}
use Rattle.algolw_typing.specs.Typed as typed
use Rattle.algolw_typing.specs.ProgramView.{Numbers, numbered, node_view, at_view, kind_view, nodes_view, links_view, lists_view, listing_view, actuals_view, actual_view, parts_view, part_view, items_view, item_view, decls_view, decl_view, bounds_view, targets_view, type_view}
use Rattle.program_numbers.specs.Onto.{nodes_onto, links_onto, lists_onto, actuals_onto, items_onto, decls_onto, bounds_onto}
use Rattle.program_numbers.specs.ProgramParts.{perhaps_in, link_in, list_in, bound_in}

module _ (ns : Numbers) where
  nodes_row : (n : _) (r : Row_of-Node n) → nodes_view ns r ≡ nodes_onto (map (node_view ns) (items-the_row-Node n r)) typed.no_nodes
  nodes_row n end_of-Node = refl
  nodes_row n (more_of-Node p f k g s r) = ap (typed.node_and (at_view ns p f g s (kind_view ns k))) (nodes_row _ r)

  links_row : (n : _) (r : Row_of-TypedLink n) → links_view ns r ≡ links_onto (map (link_in ns) (items-the_row-TypedLink n r)) typed.no_links
  links_row n end_of-TypedLink = refl
  links_row n (more_of-TypedLink op q p f k g s r) = ap (typed.link_and (typed.Linked op q (at_view ns p f g s (kind_view ns k)))) (links_row _ r)

  lists_row : (n : _) (r : Row_of-TypedList n) → lists_view ns r ≡ lists_onto (map (list_in ns) (items-the_row-TypedList n r)) typed.no_lists
  lists_row n end_of-TypedList = refl
  lists_row n (more_of-TypedList place kind r) = ap (typed.list_and (listing_view ns place kind)) (lists_row _ r)

  actuals_row : (n : _) (r : Row_of-TypedActual n) → actuals_view ns r ≡ actuals_onto (map (actual_view ns) (items-the_row-TypedActual n r)) typed.no_actuals
  actuals_row n end_of-TypedActual = refl
  actuals_row n (more_of-TypedActual actual r) = ap (typed.actual_and (actual_view ns actual)) (actuals_row _ r)

  parts_row : (n : _) (r : Row_of-TypedPart n) → parts_view ns r ≡ nodes_onto (map (part_view ns) (items-the_row-TypedPart n r)) typed.no_nodes
  parts_row n end_of-TypedPart = refl
  parts_row n (more_of-TypedPart part r) = ap (typed.node_and (part_view ns part)) (parts_row _ r)

  items_row : (n : _) (r : Row_of-TypedItem n) → items_view ns r ≡ items_onto (map (item_view ns) (items-the_row-TypedItem n r)) typed.no_items
  items_row n end_of-TypedItem = refl
  items_row n (more_of-TypedItem item r) = ap (typed.item_and (item_view ns item)) (items_row _ r)

  decls_row : (n : _) (r : Row_of-TypedDecl n) → decls_view ns r ≡ decls_onto (map (decl_view ns) (items-the_row-TypedDecl n r)) typed.no_decls
  decls_row n end_of-TypedDecl = refl
  decls_row n (more_of-TypedDecl decl r) = ap (typed.decl_and (decl_view ns decl)) (decls_row _ r)

  bounds_row : (n : _) (r : Row_of-TypedBound n) → bounds_view ns r ≡ bounds_onto (map (bound_in ns) (items-the_row-TypedBound n r)) typed.no_bounds
  bounds_row n end_of-TypedBound = refl
  bounds_row n (more_of-TypedBound q p f k g s p2 f2 k2 g2 s2 r) = ap (typed.bound_and (typed.Between q (at_view ns p f g s (kind_view ns k)) (at_view ns p2 f2 g2 s2 (kind_view ns k2)))) (bounds_row _ r)

  vec_nodes : (v : Vec Node Global) → nodes_view ns (hidden-the_row-Node-2 v) ≡ nodes_onto (map (node_view ns) v.items) typed.no_nodes
  vec_nodes v = nodes_row _ (hidden-the_row-Node-2 v) ∙ ap (λ xs. nodes_onto (map (node_view ns) xs) typed.no_nodes) (items_hidden-the_row-Node-2 v)

  vec_parts : (v : Vec TypedPart Global) → parts_view ns (hidden-the_row-TypedPart-3 v) ≡ nodes_onto (map (part_view ns) v.items) typed.no_nodes
  vec_parts v = parts_row _ (hidden-the_row-TypedPart-3 v) ∙ ap (λ xs. nodes_onto (map (part_view ns) xs) typed.no_nodes) (items_hidden-the_row-TypedPart-3 v)

  vec_links : (v : Vec TypedLink Global) → links_view ns (hidden-the_row-TypedLink-1 v) ≡ links_onto (map (link_in ns) v.items) typed.no_links
  vec_links v = links_row _ (hidden-the_row-TypedLink-1 v) ∙ ap (λ xs. links_onto (map (link_in ns) xs) typed.no_links) (items_hidden-the_row-TypedLink-1 v)

  vec_lists : (v : Vec TypedList Global) → lists_view ns (hidden-the_row-TypedList-0 v) ≡ lists_onto (map (list_in ns) v.items) typed.no_lists
  vec_lists v = lists_row _ (hidden-the_row-TypedList-0 v) ∙ ap (λ xs. lists_onto (map (list_in ns) xs) typed.no_lists) (items_hidden-the_row-TypedList-0 v)

  vec_actuals : (v : Vec TypedActual Global) → actuals_view ns (hidden-the_row-TypedActual-7 v) ≡ actuals_onto (map (actual_view ns) v.items) typed.no_actuals
  vec_actuals v = actuals_row _ (hidden-the_row-TypedActual-7 v) ∙ ap (λ xs. actuals_onto (map (actual_view ns) xs) typed.no_actuals) (items_hidden-the_row-TypedActual-7 v)

  vec_items : (v : Vec TypedItem Global) → items_view ns (hidden-the_row-TypedItem-5 v) ≡ items_onto (map (item_view ns) v.items) typed.no_items
  vec_items v = items_row _ (hidden-the_row-TypedItem-5 v) ∙ ap (λ xs. items_onto (map (item_view ns) xs) typed.no_items) (items_hidden-the_row-TypedItem-5 v)

  vec_decls : (v : Vec TypedDecl Global) → decls_view ns (hidden-the_row-TypedDecl-4 v) ≡ decls_onto (map (decl_view ns) v.items) typed.no_decls
  vec_decls v = decls_row _ (hidden-the_row-TypedDecl-4 v) ∙ ap (λ xs. decls_onto (map (decl_view ns) xs) typed.no_decls) (items_hidden-the_row-TypedDecl-4 v)

  vec_bounds : (v : Vec TypedBound Global) → bounds_view ns (hidden-the_row-TypedBound-6 v) ≡ bounds_onto (map (bound_in ns) v.items) typed.no_bounds
  vec_bounds v = bounds_row _ (hidden-the_row-TypedBound-6 v) ∙ ap (λ xs. bounds_onto (map (bound_in ns) xs) typed.no_bounds) (items_hidden-the_row-TypedBound-6 v)

  pub named_in : (m : ℕ) (v : Vec TypedList Global) → kind_view ns (Named m v) ≡ typed.Named (numbered ns.names m) (lists_onto (map (list_in ns) v.items) typed.no_lists)
  named_in m v = ap (typed.Named (numbered ns.names m)) (vec_lists v)

  pub chain_in : (b : Box Node Global) (v : Vec TypedLink Global) → kind_view ns (Chain b v) ≡ typed.Chain (node_view ns b.value) (links_onto (map (link_in ns) v.items) typed.no_links)
  chain_in b v = ap (typed.Chain (node_view ns b.value)) (vec_links v)

  pub if_in : (a b : Box Node Global) (o : Option (Box Node Global)) → kind_view ns (IfThen a b o) ≡ typed.IfThen (node_view ns a.value) (node_view ns b.value) (perhaps_in ns o)
  if_in a b None = refl
  if_in a b (Some s) = refl

  pub case_value_in : (b : Box Node Global) (v : Vec Node Global) → kind_view ns (CaseValue b v) ≡ typed.CaseValue (node_view ns b.value) (nodes_onto (map (node_view ns) v.items) typed.no_nodes)
  case_value_in b v = ap (typed.CaseValue (node_view ns b.value)) (vec_nodes v)

  pub case_do_in : (b : Box Node Global) (v : Vec TypedPart Global) → kind_view ns (CaseDo b v) ≡ typed.CaseDo (node_view ns b.value) (nodes_onto (map (part_view ns) v.items) typed.no_nodes)
  case_do_in b v = ap (typed.CaseDo (node_view ns b.value)) (vec_parts v)

  pub for_step_in : (m : ℕ) (a : Box Node Global) (o : Option (Box Node Global)) (b c : Box Node Global) → kind_view ns (ForStep m a o b c) ≡ typed.ForStep (numbered ns.names m) (node_view ns a.value) (perhaps_in ns o) (node_view ns b.value) (node_view ns c.value)
  for_step_in m a None b c = refl
  for_step_in m a (Some s) b c = refl

  pub for_list_in : (m : ℕ) (v : Vec Node Global) (b : Box Node Global) → kind_view ns (ForList m v b) ≡ typed.ForList (numbered ns.names m) (nodes_onto (map (node_view ns) v.items) typed.no_nodes) (node_view ns b.value)
  for_list_in m v b = ap (λ xs. typed.ForList (numbered ns.names m) xs (node_view ns b.value)) (vec_nodes v)

  pub block_in : (ds : Vec TypedDecl Global) (is : Vec TypedItem Global) → kind_view ns (Block ds is) ≡ typed.Block (decls_onto (map (decl_view ns) ds.items) typed.no_decls) (items_onto (map (item_view ns) is.items) typed.no_items)
  block_in ds is = ap (λ zs. typed.Block zs (items_view ns (hidden-the_row-TypedItem-5 is))) (vec_decls ds) ∙ ap (typed.Block (decls_onto (map (decl_view ns) ds.items) typed.no_decls)) (vec_items is)

  pub actuals_in : (p : Place) (v : Vec TypedActual Global) → listing_view ns p (Actuals v) ≡ typed.OfActuals p (actuals_onto (map (actual_view ns) v.items) typed.no_actuals)
  actuals_in p v = ap (typed.OfActuals p) (vec_actuals v)

  pub array_in : (t : SimpleType) (ts : Vec (ℕ × Place) Global) (v : Vec TypedBound Global) → decl_view ns (Array t ts v) ≡ typed.Array (type_view ns t) (targets_view ns ts.items) (bounds_onto (map (bound_in ns) v.items) typed.no_bounds)
  array_in t ts v = ap (typed.Array (type_view ns t) (targets_view ns ts.items)) (vec_bounds v)
