use Rattle.std.proofs.Common.{◌≡◌, ◌+◌, suc, List, [], map, true, refl, sym, ap, subst, ◌∙◌, rules}
use Rattle.std.specs.Option.{option_map}
use Rattle.algolw_tree.proofs.Rows.{applied_at, listed_at, listed_is, chain_at, chain_is, relation_at, class_test_at, assignment_at, conditional_at, conditional_is, case_value_at, case_value_is, case_do_at, for_step_at, for_step_is, for_list_at, for_list_is, repetition_at, block_parts_at, actuals_at, array_at}
use Rattle.algolw_tree.proofs.Sizes.{size, size_kind, size_phrases, size_links, size_lists, size_listing, size_actuals, size_actual, size_items, size_bounds, size_decls, size_decl, item_smaller}
use Rattle.algolw_tree.specs.Grammar.{actuals_of, bounds_of, decls_of, items_of, links_of, lists_of, phrases_of}
use Rattle.algolw_tree.specs.Tree as Tree
use Rattle.algolw_tree.specs.View.{actual_tree, bound_tree, decl_tree, formal_tree, item_tree, kind_tree, link_tree, list_tree, optional_tree, part_tree, spec_tree, tree}
use Rattle.algolw_tree.specs.declared.phrases.Actual.{Actual}
use Rattle.algolw_tree.specs.declared.phrases.CaseValue.{out-CaseValue}
use Rattle.algolw_tree.specs.declared.phrases.Chain.{out-Chain}
use Rattle.algolw_tree.specs.declared.phrases.Conditional.{out-Conditional}
use Rattle.algolw_tree.specs.declared.phrases.Decl.{Decl}
use Rattle.algolw_tree.specs.declared.phrases.ForList.{out-ForList}
use Rattle.algolw_tree.specs.declared.phrases.ForStep.{out-ForStep}
use Rattle.algolw_tree.specs.declared.phrases.Formal.{Formal}
use Rattle.algolw_tree.specs.declared.phrases.Item.{Item}
use Rattle.algolw_tree.specs.declared.phrases.Labelled.{out-Labelled}
use Rattle.algolw_tree.specs.declared.phrases.Link.{Link}
use Rattle.algolw_tree.specs.declared.phrases.List as list
use Rattle.algolw_tree.specs.declared.phrases.Listed.{out-Listed}
use Rattle.algolw_tree.specs.declared.phrases.Part.{Part}
use Rattle.algolw_tree.specs.declared.phrases.Phrase.{Phrase}
use Rattle.algolw_tree.specs.declared.phrases.ProcDecl.{out-ProcDecl}
use Rattle.algolw_typing.specs.Known.{KnowsDeclared, KnowsFormals, KnowsResult}
use Rattle.algolw_typing.specs.ProgramView as program
use Rattle.algolw_typing.specs.ProgramView.{nowhere}
use Rattle.algolw_typing.specs.Typed as typed
use Rattle.algolw_typing.specs.Types.{has}
use Rattle.algolw_typing.specs.Typing.{declare_at, declares_at}
use Rattle.program_numbers.proofs.TreeParts.{labelled_is, procedure_is, size_item, size_first}
use Rattle.typed_findings.specs.Findings.{Found}
use Rattle.typed_findings.specs.Taking.{first_found, name_of, rest_found}
use Rattle.program_numbers.specs.Makes.{MakesTaken, numbers_in, target_in}
use Rattle.program_numbers.specs.Numbered.{NodeNumbered, NodesNumbered, LinksNumbered, LinkNumbered, ListsNumbered, ListingNumbered, ActualsNumbered, ActualNumbered, ItemsNumbered, ItemNumbered, BoundsNumbered, BoundNumbered, DeclsNumbered, DeclNumbered, PerhapsNumbered}
use Rattle.program_numbers.specs.Onto.{actuals_onto, bounds_onto, decls_onto, items_onto, links_onto, lists_onto, nodes_onto}
use Rattle.program_numbers.specs.ProgramParts.{bound_in, link_in, list_in, perhaps_in}
use Rattle.program_numbers.specs.Taken.{actual_taken, actuals_taken, bound_taken, bounds_taken, decl_taken, decls_taken, formals_taken, item_taken, items_taken, link_taken, links_taken, listing_taken, lists_taken, node_taken, nodes_taken, perhaps_taken}
use Rattle.program_numbers.proofs.NodeMaking.{node_taken_made, gives_asked, statement_asked, named_taken, applied_taken, class_test_taken, array_taken, procedure_taken, labelled_taken}
use Rattle.program_numbers.proofs.ProgramRows.{chain_in, if_in, case_value_in, case_do_in, for_step_in, for_list_in, block_in, actuals_in}
use Rattle.program_numbers.proofs.RowKinds.{node_row, link_row, list_row, actual_row, item_row, bound_row, decl_row, nodes_behind, links_behind, lists_behind, actuals_behind, items_behind, bounds_behind, decls_behind}
use Rattle.program_numbers.proofs.RowsTaken.{start, turn, finish, part_has}
use Rattle.program_numbers.proofs.TakenMaking.{asked, kind_as, nothing_taken, numbered_as, same_taken, taken_as, taken_one, taken_two, taken_three, taken_four, listed_anywhere, chain_anywhere, conditional_anywhere, case_value_anywhere}
use Rattle.program_numbers.proofs.numbering.Numbering.+nodes.Goals as goal

pub nodes-node-requires : goal.nodes-node-requires
nodes-node-requires t c =
    let h = item_smaller (λ xs. size_phrases (phrases_of (map tree xs))) (λ x. size (tree x)) (λ x xs. refl) c.args.phrases.now c.loop-phrase.phrase-index c.phrase-item.result c.loop-phrase-test.true c.phrase-item.is in
    let known : NodeNumbered c.args.self.now (node_taken (tree c.phrase-item.result) c.loop-phrase.found).0 = part_has c.args.self.now program.node_view typed.no_nodes typed.node_and nodes_onto (λ ss. nodes_taken (phrases_of (map tree ss))) (λ s. node_taken (tree s)) (node_row tree) (NodesNumbered c.args.self.now) (NodeNumbered c.args.self.now) (λ x w h. h) (nodes_behind c.args.self.now) c.args.table.now c.loop-phrase.table c.args.phrases.now c.loop-phrase.phrase-index c.phrase-item.result (nodes_taken (phrases_of (map tree c.args.phrases.now)) c.args.found.now) c.loop-phrase.found c.loop-phrase.made.items c.loop-phrase-test.true c.phrase-item.is c.loop-phrase.invariant c.requires in
    search rules

pub nodes-loop-phrase-preserved : goal.nodes-loop-phrase-preserved
nodes-loop-phrase-preserved t c = turn c.args.self.now program.node_view typed.no_nodes typed.node_and nodes_onto (λ ss. nodes_taken (phrases_of (map tree ss))) (λ s. node_taken (tree s)) (node_row tree) c.args.table.now c.loop-phrase.table _ c.args.phrases.now c.loop-phrase.phrase-index c.phrase-item.result (nodes_taken (phrases_of (map tree c.args.phrases.now)) c.args.found.now) c.loop-phrase.found _ c.loop-phrase.made.items c.push.new.self.items _ c.loop-phrase-test.true c.phrase-item.is c.loop-phrase.invariant c.in_ok-next.ensures c.in_ok-push.ensures.items

pub nodes-loop-phrase-init : goal.nodes-loop-phrase-init
nodes-loop-phrase-init t c = start c.args.self.now program.node_view typed.no_nodes typed.node_and nodes_onto (λ ss. nodes_taken (phrases_of (map tree ss))) (λ s. node_taken (tree s)) (node_row tree) c.args.table.now c.args.phrases.now c.args.found.now _ c.in_ok-made.ensures.items

pub nodes-returns : goal.nodes-returns
nodes-returns t c = finish c.args.self.now program.node_view typed.no_nodes typed.node_and nodes_onto (λ ss. nodes_taken (phrases_of (map tree ss))) (λ s. node_taken (tree s)) (node_row tree) c.args.table.now c.loop-phrase.table c.args.phrases.now c.loop-phrase.phrase-index (nodes_taken (phrases_of (map tree c.args.phrases.now)) c.args.found.now) c.loop-phrase.found c.loop-phrase.made.items c.loop-phrase-test.false c.loop-phrase.invariant

pub parts-part-requires : goal.parts-part-requires
parts-part-requires t c =
    let h = item_smaller (λ xs. size_phrases (phrases_of (map part_tree xs))) (λ x. size (part_tree x)) (λ x xs. refl) c.args.parts.now c.loop-part.part-index c.part-item.result c.loop-part-test.true c.part-item.is in
    let known : NodeNumbered c.args.self.now (node_taken (part_tree c.part-item.result) c.loop-part.found).0 = part_has c.args.self.now program.part_view typed.no_nodes typed.node_and nodes_onto (λ ss. nodes_taken (phrases_of (map part_tree ss))) (λ s. node_taken (part_tree s)) (node_row part_tree) (NodesNumbered c.args.self.now) (NodeNumbered c.args.self.now) (λ x w h. h) (nodes_behind c.args.self.now) c.args.table.now c.loop-part.table c.args.parts.now c.loop-part.part-index c.part-item.result (nodes_taken (phrases_of (map part_tree c.args.parts.now)) c.args.found.now) c.loop-part.found c.loop-part.made.items c.loop-part-test.true c.part-item.is c.loop-part.invariant c.requires in
    search rules

pub parts-loop-part-preserved : goal.parts-loop-part-preserved
parts-loop-part-preserved t c = turn c.args.self.now program.part_view typed.no_nodes typed.node_and nodes_onto (λ ss. nodes_taken (phrases_of (map part_tree ss))) (λ s. node_taken (part_tree s)) (node_row part_tree) c.args.table.now c.loop-part.table _ c.args.parts.now c.loop-part.part-index c.part-item.result (nodes_taken (phrases_of (map part_tree c.args.parts.now)) c.args.found.now) c.loop-part.found _ c.loop-part.made.items c.push.new.self.items _ c.loop-part-test.true c.part-item.is c.loop-part.invariant c.in_ok-next.ensures c.in_ok-push.ensures.items

pub parts-loop-part-init : goal.parts-loop-part-init
parts-loop-part-init t c = start c.args.self.now program.part_view typed.no_nodes typed.node_and nodes_onto (λ ss. nodes_taken (phrases_of (map part_tree ss))) (λ s. node_taken (part_tree s)) (node_row part_tree) c.args.table.now c.args.parts.now c.args.found.now _ c.in_ok-made.ensures.items

pub parts-returns : goal.parts-returns
parts-returns t c = finish c.args.self.now program.part_view typed.no_nodes typed.node_and nodes_onto (λ ss. nodes_taken (phrases_of (map part_tree ss))) (λ s. node_taken (part_tree s)) (node_row part_tree) c.args.table.now c.loop-part.table c.args.parts.now c.loop-part.part-index (nodes_taken (phrases_of (map part_tree c.args.parts.now)) c.args.found.now) c.loop-part.found c.loop-part.made.items c.loop-part-test.false c.loop-part.invariant

pub links-node-requires : goal.links-node-requires
links-node-requires t c =
    let h = item_smaller (λ xs. size_links (links_of (map link_tree xs))) (λ x. size (tree x.right)) (λ x xs. refl) c.args.links.now c.loop-link.link-index c.link-item.result c.loop-link-test.true c.link-item.is in
    let known : LinkNumbered c.args.self.now (link_taken (link_tree c.link-item.result) c.loop-link.found).0 = part_has c.args.self.now link_in typed.no_links typed.link_and links_onto (λ ss. links_taken (links_of (map link_tree ss))) (λ s. link_taken (link_tree s)) (link_row link_tree) (LinksNumbered c.args.self.now) (LinkNumbered c.args.self.now) (λ x w h. h) (links_behind c.args.self.now) c.args.table.now c.loop-link.table c.args.links.now c.loop-link.link-index c.link-item.result (links_taken (links_of (map link_tree c.args.links.now)) c.args.found.now) c.loop-link.found c.loop-link.made.items c.loop-link-test.true c.link-item.is c.loop-link.invariant c.requires in
    search rules

pub links-loop-link-preserved : goal.links-loop-link-preserved
links-loop-link-preserved t c = turn c.args.self.now link_in typed.no_links typed.link_and links_onto (λ ss. links_taken (links_of (map link_tree ss))) (λ s. link_taken (link_tree s)) (link_row link_tree) c.args.table.now c.loop-link.table _ c.args.links.now c.loop-link.link-index c.link-item.result (links_taken (links_of (map link_tree c.args.links.now)) c.args.found.now) c.loop-link.found _ c.loop-link.made.items c.push.new.self.items _ c.loop-link-test.true c.link-item.is c.loop-link.invariant (taken_one c.args.self.now c.loop-link.table _ (λ ns. program.node_view ns c.in_ok-right.right) (λ ns. link_in ns _) (node_taken (tree c.link-item.result.right)) (typed.Linked c.link-item.result.op c.link-item.result.place) c.loop-link.found _ (λ sets. refl) c.in_ok-right.ensures) c.in_ok-push.ensures.items

pub links-loop-link-init : goal.links-loop-link-init
links-loop-link-init t c = start c.args.self.now link_in typed.no_links typed.link_and links_onto (λ ss. links_taken (links_of (map link_tree ss))) (λ s. link_taken (link_tree s)) (link_row link_tree) c.args.table.now c.args.links.now c.args.found.now _ c.in_ok-made.ensures.items

pub links-returns : goal.links-returns
links-returns t c = finish c.args.self.now link_in typed.no_links typed.link_and links_onto (λ ss. links_taken (links_of (map link_tree ss))) (λ s. link_taken (link_tree s)) (link_row link_tree) c.args.table.now c.loop-link.table c.args.links.now c.loop-link.link-index (links_taken (links_of (map link_tree c.args.links.now)) c.args.found.now) c.loop-link.found c.loop-link.made.items c.loop-link-test.false c.loop-link.invariant

pub lists-list-requires : goal.lists-list-requires
lists-list-requires t c =
    let h = item_smaller (λ xs. size_lists (lists_of (map list_tree xs))) (λ x. size_listing (list_tree x)) (λ x xs. refl) c.args.lists.now c.loop-list.list-index c.list-item.result c.loop-list-test.true c.list-item.is in
    let known : ListingNumbered c.args.self.now (listing_taken (list_tree c.list-item.result) c.loop-list.found).0 = part_has c.args.self.now list_in typed.no_lists typed.list_and lists_onto (λ ss. lists_taken (lists_of (map list_tree ss))) (λ s. listing_taken (list_tree s)) (list_row list_tree) (ListsNumbered c.args.self.now) (ListingNumbered c.args.self.now) (λ x w h. h) (lists_behind c.args.self.now) c.args.table.now c.loop-list.table c.args.lists.now c.loop-list.list-index c.list-item.result (lists_taken (lists_of (map list_tree c.args.lists.now)) c.args.found.now) c.loop-list.found c.loop-list.made.items c.loop-list-test.true c.list-item.is c.loop-list.invariant c.requires in
    search rules

pub lists-loop-list-preserved : goal.lists-loop-list-preserved
lists-loop-list-preserved t c = turn c.args.self.now list_in typed.no_lists typed.list_and lists_onto (λ ss. lists_taken (lists_of (map list_tree ss))) (λ s. listing_taken (list_tree s)) (list_row list_tree) c.args.table.now c.loop-list.table _ c.args.lists.now c.loop-list.list-index c.list-item.result (lists_taken (lists_of (map list_tree c.args.lists.now)) c.args.found.now) c.loop-list.found _ c.loop-list.made.items c.push.new.self.items _ c.loop-list-test.true c.list-item.is c.loop-list.invariant c.in_ok-kind.ensures c.in_ok-push.ensures.items

pub lists-loop-list-init : goal.lists-loop-list-init
lists-loop-list-init t c = start c.args.self.now list_in typed.no_lists typed.list_and lists_onto (λ ss. lists_taken (lists_of (map list_tree ss))) (λ s. listing_taken (list_tree s)) (list_row list_tree) c.args.table.now c.args.lists.now c.args.found.now _ c.in_ok-made.ensures.items

pub lists-returns : goal.lists-returns
lists-returns t c = finish c.args.self.now list_in typed.no_lists typed.list_and lists_onto (λ ss. lists_taken (lists_of (map list_tree ss))) (λ s. listing_taken (list_tree s)) (list_row list_tree) c.args.table.now c.loop-list.table c.args.lists.now c.loop-list.list-index (lists_taken (lists_of (map list_tree c.args.lists.now)) c.args.found.now) c.loop-list.found c.loop-list.made.items c.loop-list-test.false c.loop-list.invariant

pub actuals-actual-requires : goal.actuals-actual-requires
actuals-actual-requires t c =
    let h = item_smaller (λ xs. size_actuals (actuals_of (map actual_tree xs))) (λ x. size_actual (actual_tree x)) (λ x xs. refl) c.args.actuals.now c.loop-actual.actual-index c.actual-item.result c.loop-actual-test.true c.actual-item.is in
    let known : ActualNumbered c.args.self.now (actual_taken (actual_tree c.actual-item.result) c.loop-actual.found).0 = part_has c.args.self.now program.actual_view typed.no_actuals typed.actual_and actuals_onto (λ ss. actuals_taken (actuals_of (map actual_tree ss))) (λ s. actual_taken (actual_tree s)) (actual_row actual_tree) (ActualsNumbered c.args.self.now) (ActualNumbered c.args.self.now) (λ x w h. h) (actuals_behind c.args.self.now) c.args.table.now c.loop-actual.table c.args.actuals.now c.loop-actual.actual-index c.actual-item.result (actuals_taken (actuals_of (map actual_tree c.args.actuals.now)) c.args.found.now) c.loop-actual.found c.loop-actual.made.items c.loop-actual-test.true c.actual-item.is c.loop-actual.invariant c.requires in
    search rules

pub actuals-loop-actual-preserved : goal.actuals-loop-actual-preserved
actuals-loop-actual-preserved t c = turn c.args.self.now program.actual_view typed.no_actuals typed.actual_and actuals_onto (λ ss. actuals_taken (actuals_of (map actual_tree ss))) (λ s. actual_taken (actual_tree s)) (actual_row actual_tree) c.args.table.now c.loop-actual.table _ c.args.actuals.now c.loop-actual.actual-index c.actual-item.result (actuals_taken (actuals_of (map actual_tree c.args.actuals.now)) c.args.found.now) c.loop-actual.found _ c.loop-actual.made.items c.push.new.self.items _ c.loop-actual-test.true c.actual-item.is c.loop-actual.invariant c.in_ok-next.ensures c.in_ok-push.ensures.items

pub actuals-loop-actual-init : goal.actuals-loop-actual-init
actuals-loop-actual-init t c = start c.args.self.now program.actual_view typed.no_actuals typed.actual_and actuals_onto (λ ss. actuals_taken (actuals_of (map actual_tree ss))) (λ s. actual_taken (actual_tree s)) (actual_row actual_tree) c.args.table.now c.args.actuals.now c.args.found.now _ c.in_ok-made.ensures.items

pub actuals-returns : goal.actuals-returns
actuals-returns t c = finish c.args.self.now program.actual_view typed.no_actuals typed.actual_and actuals_onto (λ ss. actuals_taken (actuals_of (map actual_tree ss))) (λ s. actual_taken (actual_tree s)) (actual_row actual_tree) c.args.table.now c.loop-actual.table c.args.actuals.now c.loop-actual.actual-index (actuals_taken (actuals_of (map actual_tree c.args.actuals.now)) c.args.found.now) c.loop-actual.found c.loop-actual.made.items c.loop-actual-test.false c.loop-actual.invariant

pub items-item-requires : goal.items-item-requires
items-item-requires t c =
    let h = item_smaller (λ xs. size_items (items_of (map item_tree xs))) (λ x. size_item (item_tree x)) (λ x xs. size_first (item_tree x) (items_of (map item_tree xs))) c.args.items.now c.loop-item.item-index c.item-item.result c.loop-item-test.true c.item-item.is in
    let known : ItemNumbered c.args.self.now (item_taken (item_tree c.item-item.result) c.loop-item.found).0 = part_has c.args.self.now program.item_view typed.no_items typed.item_and items_onto (λ ss. items_taken (items_of (map item_tree ss))) (λ s. item_taken (item_tree s)) (item_row item_tree) (ItemsNumbered c.args.self.now) (ItemNumbered c.args.self.now) (λ x w h. h) (items_behind c.args.self.now) c.args.table.now c.loop-item.table c.args.items.now c.loop-item.item-index c.item-item.result (items_taken (items_of (map item_tree c.args.items.now)) c.args.found.now) c.loop-item.found c.loop-item.made.items c.loop-item-test.true c.item-item.is c.loop-item.invariant c.requires in
    search rules

pub items-loop-item-preserved : goal.items-loop-item-preserved
items-loop-item-preserved t c = turn c.args.self.now program.item_view typed.no_items typed.item_and items_onto (λ ss. items_taken (items_of (map item_tree ss))) (λ s. item_taken (item_tree s)) (item_row item_tree) c.args.table.now c.loop-item.table _ c.args.items.now c.loop-item.item-index c.item-item.result (items_taken (items_of (map item_tree c.args.items.now)) c.args.found.now) c.loop-item.found _ c.loop-item.made.items c.push.new.self.items _ c.loop-item-test.true c.item-item.is c.loop-item.invariant c.in_ok-next.ensures c.in_ok-push.ensures.items

pub items-returns : goal.items-returns
items-returns t c = finish c.args.self.now program.item_view typed.no_items typed.item_and items_onto (λ ss. items_taken (items_of (map item_tree ss))) (λ s. item_taken (item_tree s)) (item_row item_tree) c.args.table.now c.loop-item.table c.args.items.now c.loop-item.item-index (items_taken (items_of (map item_tree c.args.items.now)) c.args.found.now) c.loop-item.found c.loop-item.made.items c.loop-item-test.false c.loop-item.invariant

pub bounds-node-requires : goal.bounds-node-requires
bounds-node-requires t c =
    let h = item_smaller (λ xs. size_bounds (bounds_of (map bound_tree xs))) (λ x. suc (size (tree x.lower) + size (tree x.upper))) (λ x xs. refl) c.args.bounds.now c.loop-bound.bound-index c.bound-item.result c.loop-bound-test.true c.bound-item.is in
    let known : BoundNumbered c.args.self.now (bound_taken (bound_tree c.bound-item.result) c.loop-bound.found).0 = part_has c.args.self.now bound_in typed.no_bounds typed.bound_and bounds_onto (λ ss. bounds_taken (bounds_of (map bound_tree ss))) (λ s. bound_taken (bound_tree s)) (bound_row bound_tree) (BoundsNumbered c.args.self.now) (BoundNumbered c.args.self.now) (λ x w h. h) (bounds_behind c.args.self.now) c.args.table.now c.loop-bound.table c.args.bounds.now c.loop-bound.bound-index c.bound-item.result (bounds_taken (bounds_of (map bound_tree c.args.bounds.now)) c.args.found.now) c.loop-bound.found c.loop-bound.made.items c.loop-bound-test.true c.bound-item.is c.loop-bound.invariant c.requires in
    search rules

pub bounds-node-requires-in-loop-bound : goal.bounds-node-requires-in-loop-bound
bounds-node-requires-in-loop-bound t c =
    let h = item_smaller (λ xs. size_bounds (bounds_of (map bound_tree xs))) (λ x. suc (size (tree x.lower) + size (tree x.upper))) (λ x xs. refl) c.args.bounds.now c.loop-bound.bound-index c.bound-item.result c.loop-bound-test.true c.bound-item.is in
    let known : BoundNumbered c.args.self.now (bound_taken (bound_tree c.bound-item.result) c.loop-bound.found).0 = part_has c.args.self.now bound_in typed.no_bounds typed.bound_and bounds_onto (λ ss. bounds_taken (bounds_of (map bound_tree ss))) (λ s. bound_taken (bound_tree s)) (bound_row bound_tree) (BoundsNumbered c.args.self.now) (BoundNumbered c.args.self.now) (λ x w h. h) (bounds_behind c.args.self.now) c.args.table.now c.loop-bound.table c.args.bounds.now c.loop-bound.bound-index c.bound-item.result (bounds_taken (bounds_of (map bound_tree c.args.bounds.now)) c.args.found.now) c.loop-bound.found c.loop-bound.made.items c.loop-bound-test.true c.bound-item.is c.loop-bound.invariant c.requires in
    search rules

pub bounds-loop-bound-preserved : goal.bounds-loop-bound-preserved
bounds-loop-bound-preserved t c = turn c.args.self.now bound_in typed.no_bounds typed.bound_and bounds_onto (λ ss. bounds_taken (bounds_of (map bound_tree ss))) (λ s. bound_taken (bound_tree s)) (bound_row bound_tree) c.args.table.now c.loop-bound.table _ c.args.bounds.now c.loop-bound.bound-index c.bound-item.result (bounds_taken (bounds_of (map bound_tree c.args.bounds.now)) c.args.found.now) c.loop-bound.found _ c.loop-bound.made.items c.push.new.self.items _ c.loop-bound-test.true c.bound-item.is c.loop-bound.invariant (taken_two c.args.self.now c.loop-bound.table _ _ (λ ns. program.node_view ns c.in_ok-lower.lower) (λ ns. program.node_view ns c.in_ok-upper.upper) (λ ns. bound_in ns _) (node_taken (tree c.bound-item.result.lower)) (node_taken (tree c.bound-item.result.upper)) (typed.Between c.bound-item.result.place) c.loop-bound.found _ _ (λ sets. refl) c.in_ok-lower.ensures c.in_ok-upper.ensures) c.in_ok-push.ensures.items

pub bounds-loop-bound-init : goal.bounds-loop-bound-init
bounds-loop-bound-init t c = start c.args.self.now bound_in typed.no_bounds typed.bound_and bounds_onto (λ ss. bounds_taken (bounds_of (map bound_tree ss))) (λ s. bound_taken (bound_tree s)) (bound_row bound_tree) c.args.table.now c.args.bounds.now c.args.found.now _ c.new-made.ensures.items

pub bounds-returns : goal.bounds-returns
bounds-returns t c = finish c.args.self.now bound_in typed.no_bounds typed.bound_and bounds_onto (λ ss. bounds_taken (bounds_of (map bound_tree ss))) (λ s. bound_taken (bound_tree s)) (bound_row bound_tree) c.args.table.now c.loop-bound.table c.args.bounds.now c.loop-bound.bound-index (bounds_taken (bounds_of (map bound_tree c.args.bounds.now)) c.args.found.now) c.loop-bound.found c.loop-bound.made.items c.loop-bound-test.false c.loop-bound.invariant

pub decls-decl-requires : goal.decls-decl-requires
decls-decl-requires t c =
    let h = item_smaller (λ xs. size_decls (decls_of (map decl_tree xs))) (λ x. size_decl (decl_tree x)) (λ x xs. refl) c.args.decls.now c.loop-decl.decl-index c.decl-item.result c.loop-decl-test.true c.decl-item.is in
    let known : DeclNumbered c.args.self.now (decl_taken (decl_tree c.decl-item.result) c.loop-decl.found).0 = part_has c.args.self.now program.decl_view typed.no_decls typed.decl_and decls_onto (λ ss. decls_taken (decls_of (map decl_tree ss))) (λ s. decl_taken (decl_tree s)) (decl_row decl_tree) (DeclsNumbered c.args.self.now) (DeclNumbered c.args.self.now) (λ x w h. h) (decls_behind c.args.self.now) c.args.table.now c.loop-decl.table c.args.decls.now c.loop-decl.decl-index c.decl-item.result (decls_taken (decls_of (map decl_tree c.args.decls.now)) c.args.found.now) c.loop-decl.found c.loop-decl.made.items c.loop-decl-test.true c.decl-item.is c.loop-decl.invariant c.requires in
    search rules

pub decls-loop-decl-preserved : goal.decls-loop-decl-preserved
decls-loop-decl-preserved t c = turn c.args.self.now program.decl_view typed.no_decls typed.decl_and decls_onto (λ ss. decls_taken (decls_of (map decl_tree ss))) (λ s. decl_taken (decl_tree s)) (decl_row decl_tree) c.args.table.now c.loop-decl.table _ c.args.decls.now c.loop-decl.decl-index c.decl-item.result (decls_taken (decls_of (map decl_tree c.args.decls.now)) c.args.found.now) c.loop-decl.found _ c.loop-decl.made.items c.push.new.self.items _ c.loop-decl-test.true c.decl-item.is c.loop-decl.invariant c.in_ok-next.ensures c.in_ok-push.ensures.items

pub decls-returns : goal.decls-returns
decls-returns t c = finish c.args.self.now program.decl_view typed.no_decls typed.decl_and decls_onto (λ ss. decls_taken (decls_of (map decl_tree ss))) (λ s. decl_taken (decl_tree s)) (decl_row decl_tree) c.args.table.now c.loop-decl.table c.args.decls.now c.loop-decl.decl-index (decls_taken (decls_of (map decl_tree c.args.decls.now)) c.args.found.now) c.loop-decl.found c.loop-decl.made.items c.loop-decl-test.false c.loop-decl.invariant

pub node-gives-requires : goal.node-gives-requires
node-gives-requires t c =
    let p = c.args.phrase.now in
    gives_asked c.args.self.now p.place p.first (kind_tree p.kind) c.args.found.now c.kind.new.found _ _ c.in_ok-kind.ensures.left c.take_own-own.ensures.own c.phrase_type.ensures c.requires

pub node-statement-statement-requires : goal.node-statement-statement-requires
node-statement-statement-requires t c =
    let p = c.args.phrase.now in
    statement_asked c.args.self.now p.place p.first (kind_tree p.kind) c.args.found.now c.kind.new.found _ c.in_ok-kind.ensures.left c.take_own-own.ensures.own c.requires

pub node-returns : goal.node-returns
node-returns t c =
    let p = c.args.phrase.now in
    node_taken_made c.args.self.now _ _ _ p.place p.first c.in_ok-kind.kind c.in_ok-gives.gives c.statement-statement.result (kind_tree p.kind) c.args.found.now c.kind.new.found _ _ _ c.in_ok-kind.ensures c.take_own-own.ensures.own c.take_own-own.ensures.left c.phrase_type.ensures c.in_ok-gives.ensures c.statement-statement.ensures

pub kind-applied-requires : goal.kind-applied-requires
kind-applied-requires t c =
    let at = applied_at _ c.in-Applied.application c.deref-in-Applied.result.now c.in-Applied.is c.deref-in-Applied.ensures in
    let known = numbered_as c.args.self.now _ _ (kind_as c.args.place _ _ c.args.found.now at) c.requires in
    search (rules, ap size_kind at)

pub kind-returns-in-Applied : goal.kind-returns-in-Applied
kind-returns-in-Applied t c =
    let at = applied_at _ c.in-Applied.application c.deref-in-Applied.result.now c.in-Applied.is c.deref-in-Applied.ensures in
    taken_as c.args.self.now c.args.table.now c.applied.new.table (λ made ns. program.kind_view ns made) c.applied.result c.applied.new.found _ _ (kind_as c.args.place _ _ c.args.found.now at) c.applied.ensures

pub kind-listed-requires : goal.kind-listed-requires
kind-listed-requires t c =
    let at = listed_at _ c.in-Listed.listed c.deref-in-Listed.result.now c.in-Listed.is c.deref-in-Listed.ensures in
    let known = numbered_as c.args.self.now _ _ (kind_as c.args.place _ _ c.args.found.now at ∙ listed_anywhere c.args.place c.deref-in-Listed.result.now c.args.found.now) c.requires in
    search (rules, ap size_kind at)

pub kind-returns-in-Listed : goal.kind-returns-in-Listed
kind-returns-in-Listed t c =
    let at = listed_at _ c.in-Listed.listed c.deref-in-Listed.result.now c.in-Listed.is c.deref-in-Listed.ensures in
    taken_as c.args.self.now c.args.table.now c.listed.new.table (λ made ns. program.kind_view ns made) c.listed.result c.listed.new.found _ _ (kind_as c.args.place _ _ c.args.found.now at ∙ listed_anywhere c.args.place c.deref-in-Listed.result.now c.args.found.now) c.listed.ensures

pub kind-chain-requires : goal.kind-chain-requires
kind-chain-requires t c =
    let at = chain_at _ c.in-Chain.chain c.deref-in-Chain.result.now c.in-Chain.is c.deref-in-Chain.ensures in
    let known = numbered_as c.args.self.now _ _ (kind_as c.args.place _ _ c.args.found.now at ∙ chain_anywhere c.args.place c.deref-in-Chain.result.now c.args.found.now) c.requires in
    search (rules, ap size_kind at)

pub kind-returns-in-Chain : goal.kind-returns-in-Chain
kind-returns-in-Chain t c =
    let at = chain_at _ c.in-Chain.chain c.deref-in-Chain.result.now c.in-Chain.is c.deref-in-Chain.ensures in
    taken_as c.args.self.now c.args.table.now c.chain.new.table (λ made ns. program.kind_view ns made) c.chain.result c.chain.new.found _ _ (kind_as c.args.place _ _ c.args.found.now at ∙ chain_anywhere c.args.place c.deref-in-Chain.result.now c.args.found.now) c.chain.ensures

pub kind-relation-requires : goal.kind-relation-requires
kind-relation-requires t c =
    let at = relation_at _ c.in-Relation.comparison c.deref-in-Relation.result.now c.in-Relation.is c.deref-in-Relation.ensures in
    let known = numbered_as c.args.self.now _ _ (kind_as c.args.place _ _ c.args.found.now at) c.requires in
    search (rules, ap size_kind at)

pub kind-returns-in-Relation : goal.kind-returns-in-Relation
kind-returns-in-Relation t c =
    let at = relation_at _ c.in-Relation.comparison c.deref-in-Relation.result.now c.in-Relation.is c.deref-in-Relation.ensures in
    taken_as c.args.self.now c.args.table.now c.relation.new.table (λ made ns. program.kind_view ns made) c.relation.result c.relation.new.found _ _ (kind_as c.args.place _ _ c.args.found.now at) c.relation.ensures

pub kind-class_test-requires : goal.kind-class_test-requires
kind-class_test-requires t c =
    let at = class_test_at _ c.in-IsClass.test c.deref-in-IsClass.result.now c.in-IsClass.is c.deref-in-IsClass.ensures in
    let known = numbered_as c.args.self.now _ _ (kind_as c.args.place _ _ c.args.found.now at) c.requires in
    search (rules, ap size_kind at)

pub kind-returns-in-IsClass : goal.kind-returns-in-IsClass
kind-returns-in-IsClass t c =
    let at = class_test_at _ c.in-IsClass.test c.deref-in-IsClass.result.now c.in-IsClass.is c.deref-in-IsClass.ensures in
    taken_as c.args.self.now c.args.table.now c.class_test.new.table (λ made ns. program.kind_view ns made) c.class_test.result c.class_test.new.found _ _ (kind_as c.args.place _ _ c.args.found.now at) c.class_test.ensures

pub kind-assignment-requires : goal.kind-assignment-requires
kind-assignment-requires t c =
    let at = assignment_at _ c.in-Assign.assignment c.deref-in-Assign.result.now c.in-Assign.is c.deref-in-Assign.ensures in
    let known = numbered_as c.args.self.now _ _ (kind_as c.args.place _ _ c.args.found.now at) c.requires in
    search (rules, ap size_kind at)

pub kind-returns-in-Assign : goal.kind-returns-in-Assign
kind-returns-in-Assign t c =
    let at = assignment_at _ c.in-Assign.assignment c.deref-in-Assign.result.now c.in-Assign.is c.deref-in-Assign.ensures in
    taken_as c.args.self.now c.args.table.now c.assignment.new.table (λ made ns. program.kind_view ns made) c.assignment.result c.assignment.new.found _ _ (kind_as c.args.place _ _ c.args.found.now at) c.assignment.ensures

pub kind-conditional-requires : goal.kind-conditional-requires
kind-conditional-requires t c =
    let at = conditional_at _ c.in-IfThen.conditional c.deref-in-IfThen.result.now c.in-IfThen.is c.deref-in-IfThen.ensures in
    let known = numbered_as c.args.self.now _ _ (kind_as c.args.place _ _ c.args.found.now at ∙ conditional_anywhere c.args.place c.deref-in-IfThen.result.now c.args.found.now) c.requires in
    search (rules, ap size_kind at)

pub kind-returns-in-IfThen : goal.kind-returns-in-IfThen
kind-returns-in-IfThen t c =
    let at = conditional_at _ c.in-IfThen.conditional c.deref-in-IfThen.result.now c.in-IfThen.is c.deref-in-IfThen.ensures in
    taken_as c.args.self.now c.args.table.now c.conditional.new.table (λ made ns. program.kind_view ns made) c.conditional.result c.conditional.new.found _ _ (kind_as c.args.place _ _ c.args.found.now at ∙ conditional_anywhere c.args.place c.deref-in-IfThen.result.now c.args.found.now) c.conditional.ensures

pub kind-case_value-requires : goal.kind-case_value-requires
kind-case_value-requires t c =
    let at = case_value_at _ c.in-CaseValue.case c.deref-in-CaseValue.result.now c.in-CaseValue.is c.deref-in-CaseValue.ensures in
    let known = numbered_as c.args.self.now _ _ (kind_as c.args.place _ _ c.args.found.now at ∙ case_value_anywhere c.args.place c.deref-in-CaseValue.result.now c.args.found.now) c.requires in
    search (rules, ap size_kind at)

pub kind-returns-in-CaseValue : goal.kind-returns-in-CaseValue
kind-returns-in-CaseValue t c =
    let at = case_value_at _ c.in-CaseValue.case c.deref-in-CaseValue.result.now c.in-CaseValue.is c.deref-in-CaseValue.ensures in
    taken_as c.args.self.now c.args.table.now c.case_value.new.table (λ made ns. program.kind_view ns made) c.case_value.result c.case_value.new.found _ _ (kind_as c.args.place _ _ c.args.found.now at ∙ case_value_anywhere c.args.place c.deref-in-CaseValue.result.now c.args.found.now) c.case_value.ensures

pub kind-case_do-requires : goal.kind-case_do-requires
kind-case_do-requires t c =
    let at = case_do_at _ c.in-CaseDo.case c.deref-in-CaseDo.result.now c.in-CaseDo.is c.deref-in-CaseDo.ensures in
    let known = numbered_as c.args.self.now _ _ (kind_as c.args.place _ _ c.args.found.now at) c.requires in
    search (rules, ap size_kind at)

pub kind-returns-in-CaseDo : goal.kind-returns-in-CaseDo
kind-returns-in-CaseDo t c =
    let at = case_do_at _ c.in-CaseDo.case c.deref-in-CaseDo.result.now c.in-CaseDo.is c.deref-in-CaseDo.ensures in
    taken_as c.args.self.now c.args.table.now c.case_do.new.table (λ made ns. program.kind_view ns made) c.case_do.result c.case_do.new.found _ _ (kind_as c.args.place _ _ c.args.found.now at) c.case_do.ensures

pub kind-for_step-requires : goal.kind-for_step-requires
kind-for_step-requires t c =
    let at = for_step_at _ c.in-ForStep.turns c.deref-in-ForStep.result.now c.in-ForStep.is c.deref-in-ForStep.ensures in
    let known = numbered_as c.args.self.now _ _ (kind_as c.args.place _ _ c.args.found.now at) c.requires in
    search (rules, ap size_kind at)

pub kind-returns-in-ForStep : goal.kind-returns-in-ForStep
kind-returns-in-ForStep t c =
    let at = for_step_at _ c.in-ForStep.turns c.deref-in-ForStep.result.now c.in-ForStep.is c.deref-in-ForStep.ensures in
    taken_as c.args.self.now c.args.table.now c.for_step.new.table (λ made ns. program.kind_view ns made) c.for_step.result c.for_step.new.found _ _ (kind_as c.args.place _ _ c.args.found.now at) c.for_step.ensures

pub kind-for_list-requires : goal.kind-for_list-requires
kind-for_list-requires t c =
    let at = for_list_at _ c.in-ForList.turns c.deref-in-ForList.result.now c.in-ForList.is c.deref-in-ForList.ensures in
    let known = numbered_as c.args.self.now _ _ (kind_as c.args.place _ _ c.args.found.now at) c.requires in
    search (rules, ap size_kind at)

pub kind-returns-in-ForList : goal.kind-returns-in-ForList
kind-returns-in-ForList t c =
    let at = for_list_at _ c.in-ForList.turns c.deref-in-ForList.result.now c.in-ForList.is c.deref-in-ForList.ensures in
    taken_as c.args.self.now c.args.table.now c.for_list.new.table (λ made ns. program.kind_view ns made) c.for_list.result c.for_list.new.found _ _ (kind_as c.args.place _ _ c.args.found.now at) c.for_list.ensures

pub kind-repetition-requires : goal.kind-repetition-requires
kind-repetition-requires t c =
    let at = repetition_at _ c.in-WhileDo.repetition c.deref-in-WhileDo.result.now c.in-WhileDo.is c.deref-in-WhileDo.ensures in
    let known = numbered_as c.args.self.now _ _ (kind_as c.args.place _ _ c.args.found.now at) c.requires in
    search (rules, ap size_kind at)

pub kind-returns-in-WhileDo : goal.kind-returns-in-WhileDo
kind-returns-in-WhileDo t c =
    let at = repetition_at _ c.in-WhileDo.repetition c.deref-in-WhileDo.result.now c.in-WhileDo.is c.deref-in-WhileDo.ensures in
    taken_as c.args.self.now c.args.table.now c.repetition.new.table (λ made ns. program.kind_view ns made) c.repetition.result c.repetition.new.found _ _ (kind_as c.args.place _ _ c.args.found.now at) c.repetition.ensures

pub kind-block-requires : goal.kind-block-requires
kind-block-requires t c =
    let at = block_parts_at _ c.in-Block.block c.deref-in-Block.result.now c.deref-in-Block-3.result.now c.deref-in-Block-2.result.now c.deref-in-Block-4.result.now c.in-Block.is c.deref-in-Block.ensures c.deref-in-Block-3.ensures c.deref-in-Block-2.ensures.value c.deref-in-Block-4.ensures.value in
    let known = numbered_as c.args.self.now _ _ (kind_as c.args.place _ _ c.args.found.now at) c.requires in
    search (rules, ap size_kind at)

pub kind-returns-in-Block : goal.kind-returns-in-Block
kind-returns-in-Block t c =
    let at = block_parts_at _ c.in-Block.block c.deref-in-Block.result.now c.deref-in-Block-3.result.now c.deref-in-Block-2.result.now c.deref-in-Block-4.result.now c.in-Block.is c.deref-in-Block.ensures c.deref-in-Block-3.ensures c.deref-in-Block-2.ensures.value c.deref-in-Block-4.ensures.value in
    taken_as c.args.self.now c.args.table.now c.block.new.table (λ made ns. program.kind_view ns made) c.block.result c.block.new.found _ _ (kind_as c.args.place _ _ c.args.found.now at) c.block.ensures

pub applied-actuals-requires : goal.applied-actuals-requires
applied-actuals-requires t c =
    let n = c.args.self.now in
    let taken = λ (xs : List Actual). actuals_taken (actuals_of (map actual_tree xs)) in
    let known : ActualsNumbered n (taken c.deref.result.now c.take_name.new.self).0 = subst (λ xs. ActualsNumbered n (taken xs c.take_name.new.self).0) (sym c.deref.ensures.value) (asked (ActualsNumbered n) (taken c.args.application.now.actuals.items) (rest_found c.args.found.now) c.take_name.new.self c.take_name.ensures.rest c.requires.1.0) in
    search rules

pub applied-returns : goal.applied-returns
applied-returns t c =
    let own = c.args.application.now in
    let made = subst (λ (xs : List Actual). MakesTaken c.args.self.now c.args.table.now c.actuals.new.table (λ ns. actuals_onto (map (program.actual_view ns) c.in_ok-actuals.actuals.items) typed.no_actuals) c.actuals.new.found (actuals_taken (actuals_of (map actual_tree xs)) c.take_name.new.self)) c.deref.ensures.value c.in_ok-actuals.ensures in
    applied_taken c.args.self.now _ _ _ c.take_name.result own.place c.in_ok-actuals.actuals _ _ c.push.new.self (actuals_of (map actual_tree own.actuals.items)) c.args.found.now c.take_name.new.self _ c.take_name.ensures.first c.take_name.ensures.rest c.number-name.ensures.place c.in_ok-push.ensures.items c.in_ok-lists.ensures.items (λ ns. refl) made own.name

pub listed-number-name-requires : goal.listed-number-name-requires
listed-number-name-requires t c =
    let n = c.args.self.now in
    let known = numbered_as n _ _ (kind_as nowhere _ _ c.args.found.now (listed_is c.args.listed.now)) c.requires in
    subst (λ p. has n.names p ≡ true) (sym c.take_name.ensures.first) known.0

pub listed-lists-requires : goal.listed-lists-requires
listed-lists-requires t c =
    let n = c.args.self.now in
    let at = listed_is c.args.listed.now in
    let all = numbered_as n _ _ (kind_as nowhere _ _ c.args.found.now at) c.requires in
    let taken = λ (xs : List list.List). lists_taken (lists_of (map list_tree xs)) in
    let known : ListsNumbered n (taken c.deref.result.now c.take_name.new.self).0 = subst (λ xs. ListsNumbered n (taken xs c.take_name.new.self).0) (sym c.deref.ensures.value) (asked (ListsNumbered n) (taken (out-Listed c.args.listed.now).lists.items) (rest_found c.args.found.now) c.take_name.new.self c.take_name.ensures.rest all.1) in
    search (rules, ap size_kind at)

pub listed-returns : goal.listed-returns
listed-returns t c =
    let n = c.args.self.now in
    let own = out-Listed c.args.listed.now in
    let at = listed_is c.args.listed.now ∙ ap (λ ls. Tree.Named own.name (lists_of (map list_tree ls))) (sym c.deref.ensures.value) in
    same_taken n _ _ _ _ _ _ (kind_as nowhere _ _ c.args.found.now at)
    (named_taken n _ _ _ c.take_name.result c.in_ok-lists.lists (lists_of (map list_tree c.deref.result.now)) c.args.found.now c.take_name.new.self _ c.take_name.ensures.first c.take_name.ensures.rest c.number-name.ensures.place c.in_ok-lists.ensures own.name)

pub chain-boxed-requires : goal.chain-boxed-requires
chain-boxed-requires t c =
    let at = chain_is c.args.chain.now in
    let known = numbered_as c.args.self.now _ _ (kind_as nowhere _ _ c.args.found.now at) c.requires in
    search (rules, ap size_kind at)

pub chain-links-requires : goal.chain-links-requires
chain-links-requires t c =
    let n = c.args.self.now in
    let own = out-Chain c.args.chain.now in
    let at = chain_is c.args.chain.now in
    let all = numbered_as n _ _ (kind_as nowhere _ _ c.args.found.now at) c.requires in
    let taken = λ (xs : List Link). links_taken (links_of (map link_tree xs)) in
    let known : LinksNumbered n (taken c.deref.result.now c.boxed.new.found).0 = subst (λ xs. LinksNumbered n (taken xs c.boxed.new.found).0) (sym c.deref.ensures.value) (asked (LinksNumbered n) (taken own.links.items) (node_taken (tree own.first) c.args.found.now).1 c.boxed.new.found c.in_ok-first.ensures.left all.1) in
    search (rules, ap size_kind at)

pub chain-returns : goal.chain-returns
chain-returns t c =
    let n = c.args.self.now in
    let own = out-Chain c.args.chain.now in
    let at = chain_is c.args.chain.now ∙ ap (λ ls. Tree.Chain (tree own.first) (links_of (map link_tree ls))) (sym c.deref.ensures.value) in
    same_taken n _ _ _ _ _ _ (kind_as nowhere _ _ c.args.found.now at)
    (taken_two n _ _ _ (λ ns. program.node_view ns c.in_ok-first.first.value) (λ ns. links_onto (map (link_in ns) c.in_ok-links.links.items) typed.no_links) _ (node_taken (tree own.first)) (links_taken (links_of (map link_tree c.deref.result.now))) typed.Chain c.args.found.now c.boxed.new.found _ (λ sets. chain_in (numbers_in n sets) c.in_ok-first.first c.in_ok-links.links) c.in_ok-first.ensures c.in_ok-links.ensures)

pub relation-boxed-requires-2 : goal.relation-boxed-requires-2
relation-boxed-requires-2 t c =
    let n = c.args.self.now in
    let own = c.args.comparison.now in
    let known : NodeNumbered n (node_taken (tree own.right) c.boxed.new.found).0 = asked (NodeNumbered n) (node_taken (tree own.right)) (node_taken (tree own.left) c.args.found.now).1 c.boxed.new.found c.in_ok-left.ensures.left c.requires.1 in
    search rules

pub relation-returns : goal.relation-returns
relation-returns t c =
    let own = c.args.comparison.now in
    taken_two c.args.self.now _ _ _ (λ ns. program.node_view ns c.in_ok-left.left.value) (λ ns. program.node_view ns c.in_ok-right.right.value) _ (node_taken (tree own.left)) (node_taken (tree own.right)) (typed.Relation c.args.comparison.now.op) c.args.found.now c.boxed.new.found _ (λ sets. refl) c.in_ok-left.ensures c.in_ok-right.ensures

pub assignment-boxed-requires-2 : goal.assignment-boxed-requires-2
assignment-boxed-requires-2 t c =
    let n = c.args.self.now in
    let own = c.args.assignment.now in
    let known : NodeNumbered n (node_taken (tree own.value) c.boxed.new.found).0 = asked (NodeNumbered n) (node_taken (tree own.value)) (node_taken (tree own.target) c.args.found.now).1 c.boxed.new.found c.in_ok-target.ensures.left c.requires.1 in
    search rules

pub assignment-returns : goal.assignment-returns
assignment-returns t c =
    let own = c.args.assignment.now in
    taken_two c.args.self.now _ _ _ (λ ns. program.node_view ns c.in_ok-target.target.value) (λ ns. program.node_view ns c.in_ok-value.value.value) _ (node_taken (tree own.target)) (node_taken (tree own.value)) typed.Assign c.args.found.now c.boxed.new.found _ (λ sets. refl) c.in_ok-target.ensures c.in_ok-value.ensures

pub repetition-boxed-requires-2 : goal.repetition-boxed-requires-2
repetition-boxed-requires-2 t c =
    let n = c.args.self.now in
    let own = c.args.repetition.now in
    let known : NodeNumbered n (node_taken (tree own.body) c.boxed.new.found).0 = asked (NodeNumbered n) (node_taken (tree own.body)) (node_taken (tree own.condition) c.args.found.now).1 c.boxed.new.found c.in_ok-condition.ensures.left c.requires.1 in
    search rules

pub repetition-returns : goal.repetition-returns
repetition-returns t c =
    let own = c.args.repetition.now in
    taken_two c.args.self.now _ _ _ (λ ns. program.node_view ns c.in_ok-condition.condition.value) (λ ns. program.node_view ns c.in_ok-body.body.value) _ (node_taken (tree own.condition)) (node_taken (tree own.body)) typed.WhileDo c.args.found.now c.boxed.new.found _ (λ sets. refl) c.in_ok-condition.ensures c.in_ok-body.ensures

pub class_test-number-class-requires : goal.class_test-number-class-requires
class_test-number-class-requires t c =
    let n = c.args.self.now in
    subst (λ p. has n.names p ≡ true) (sym (c.take_name.ensures.first ∙ ap (λ fs. name_of (first_found fs)) c.in_ok-reference.ensures.left)) c.requires.1

pub class_test-returns : goal.class_test-returns
class_test-returns t c =
    let own = c.args.test.now in
    class_test_taken c.args.self.now _ _ c.in_ok-reference.reference _ c.take_name.result own.class.1 (tree own.reference) c.args.found.now c.boxed.new.found _ c.in_ok-reference.ensures c.take_name.ensures.first c.take_name.ensures.rest c.number-class.ensures.place own.class.0

pub conditional-boxed-requires : goal.conditional-boxed-requires
conditional-boxed-requires t c =
    let at = conditional_is c.args.conditional.now in
    let known = numbered_as c.args.self.now _ _ (kind_as nowhere _ _ c.args.found.now at) c.requires in
    search (rules, ap size_kind at)

pub conditional-boxed-requires-2 : goal.conditional-boxed-requires-2
conditional-boxed-requires-2 t c =
    let n = c.args.self.now in
    let own = out-Conditional c.args.conditional.now in
    let at = conditional_is c.args.conditional.now in
    let all = numbered_as n _ _ (kind_as nowhere _ _ c.args.found.now at) c.requires in
    let known : NodeNumbered n (node_taken (tree own.then) c.boxed.new.found).0 = asked (NodeNumbered n) (node_taken (tree own.then)) (node_taken (tree own.condition) c.args.found.now).1 c.boxed.new.found c.in_ok-condition.ensures.left all.1 in
    search (rules, ap size_kind at)

pub conditional-perhaps-requires : goal.conditional-perhaps-requires
conditional-perhaps-requires t c =
    let n = c.args.self.now in
    let own = out-Conditional c.args.conditional.now in
    let at = conditional_is c.args.conditional.now in
    let all = numbered_as n _ _ (kind_as nowhere _ _ c.args.found.now at) c.requires in
    let left = c.in_ok-then.ensures.left ∙ ap (λ fs. (node_taken (tree own.then) fs).1) c.in_ok-condition.ensures.left in
    let known : PerhapsNumbered n (perhaps_taken (optional_tree own.otherwise) c.boxed-2.new.found).0 = asked (PerhapsNumbered n) (perhaps_taken (optional_tree own.otherwise)) _ c.boxed-2.new.found left all.2 in
    search (rules, ap size_kind at)

pub conditional-returns : goal.conditional-returns
conditional-returns t c =
    let n = c.args.self.now in
    let own = out-Conditional c.args.conditional.now in
    same_taken n _ _ _ _ _ _ (kind_as nowhere _ _ c.args.found.now (conditional_is c.args.conditional.now))
    (taken_three n _ _ _ _ (λ ns. program.node_view ns c.in_ok-condition.condition.value) (λ ns. program.node_view ns c.in_ok-then.then.value) (λ ns. perhaps_in ns c.in_ok-otherwise.otherwise) _ (node_taken (tree own.condition)) (node_taken (tree own.then)) (perhaps_taken (optional_tree own.otherwise)) typed.IfThen c.args.found.now c.boxed.new.found c.boxed-2.new.found _ (λ sets. if_in (numbers_in n sets) c.in_ok-condition.condition c.in_ok-then.then c.in_ok-otherwise.otherwise) c.in_ok-condition.ensures c.in_ok-then.ensures c.in_ok-otherwise.ensures)

pub case_value-boxed-requires : goal.case_value-boxed-requires
case_value-boxed-requires t c =
    let at = case_value_is c.args.case.now in
    let known = numbered_as c.args.self.now _ _ (kind_as nowhere _ _ c.args.found.now at) c.requires in
    search (rules, ap size_kind at)

pub case_value-nodes-requires : goal.case_value-nodes-requires
case_value-nodes-requires t c =
    let n = c.args.self.now in
    let own = out-CaseValue c.args.case.now in
    let at = case_value_is c.args.case.now in
    let all = numbered_as n _ _ (kind_as nowhere _ _ c.args.found.now at) c.requires in
    let taken = λ (xs : List Phrase). nodes_taken (phrases_of (map tree xs)) in
    let known : NodesNumbered n (taken c.deref.result.now c.boxed.new.found).0 = subst (λ xs. NodesNumbered n (taken xs c.boxed.new.found).0) (sym c.deref.ensures.value) (asked (NodesNumbered n) (taken own.values.items) (node_taken (tree own.selector) c.args.found.now).1 c.boxed.new.found c.in_ok-selector.ensures.left all.1) in
    search (rules, ap size_kind at)

pub case_value-returns : goal.case_value-returns
case_value-returns t c =
    let n = c.args.self.now in
    let own = out-CaseValue c.args.case.now in
    let at = case_value_is c.args.case.now ∙ ap (λ xs. Tree.CaseValue (tree own.selector) (phrases_of (map tree xs))) (sym c.deref.ensures.value) in
    same_taken n _ _ _ _ _ _ (kind_as nowhere _ _ c.args.found.now at)
    (taken_two n _ _ _ (λ ns. program.node_view ns c.in_ok-selector.selector.value) (λ ns. nodes_onto (map (program.node_view ns) c.in_ok-values.values.items) typed.no_nodes) _ (node_taken (tree own.selector)) (nodes_taken (phrases_of (map tree c.deref.result.now))) typed.CaseValue c.args.found.now c.boxed.new.found _ (λ sets. case_value_in (numbers_in n sets) c.in_ok-selector.selector c.in_ok-values.values) c.in_ok-selector.ensures c.in_ok-values.ensures)

pub case_do-parts-requires : goal.case_do-parts-requires
case_do-parts-requires t c =
    let n = c.args.self.now in
    let own = c.args.case.now in
    let taken = λ (xs : List Part). nodes_taken (phrases_of (map part_tree xs)) in
    let known : NodesNumbered n (taken c.deref.result.now c.boxed.new.found).0 = subst (λ xs. NodesNumbered n (taken xs c.boxed.new.found).0) (sym c.deref.ensures.value) (asked (NodesNumbered n) (taken own.parts.items) (node_taken (tree own.selector) c.args.found.now).1 c.boxed.new.found c.in_ok-selector.ensures.left c.requires.1) in
    search rules

pub case_do-returns : goal.case_do-returns
case_do-returns t c =
    let n = c.args.self.now in
    let own = c.args.case.now in
    let at = ap (λ xs. Tree.CaseDo (tree own.selector) (phrases_of (map part_tree xs))) (sym c.deref.ensures.value) in
    same_taken n _ _ _ _ _ _ (kind_as nowhere _ _ c.args.found.now at)
    (taken_two n _ _ _ (λ ns. program.node_view ns c.in_ok-selector.selector.value) (λ ns. nodes_onto (map (program.part_view ns) c.in_ok-parts.parts.items) typed.no_nodes) _ (node_taken (tree own.selector)) (nodes_taken (phrases_of (map part_tree c.deref.result.now))) typed.CaseDo c.args.found.now c.boxed.new.found _ (λ sets. case_do_in (numbers_in n sets) c.in_ok-selector.selector c.in_ok-parts.parts) c.in_ok-selector.ensures c.in_ok-parts.ensures)

pub for_step-boxed-requires : goal.for_step-boxed-requires
for_step-boxed-requires t c =
    let at = for_step_is c.args.turns.now in
    let known = numbered_as c.args.self.now _ _ (kind_as c.args.place _ _ c.args.found.now at) c.requires in
    search (rules, ap size_kind at)

pub for_step-perhaps-requires : goal.for_step-perhaps-requires
for_step-perhaps-requires t c =
    let n = c.args.self.now in
    let own = out-ForStep c.args.turns.now in
    let at = for_step_is c.args.turns.now in
    let all = numbered_as n _ _ (kind_as c.args.place _ _ c.args.found.now at) c.requires in
    let known : PerhapsNumbered n (perhaps_taken (optional_tree own.step) c.boxed.new.found).0 = asked (PerhapsNumbered n) (perhaps_taken (optional_tree own.step)) _ c.boxed.new.found c.in_ok-start.ensures.left all.2 in
    search (rules, ap size_kind at)

pub for_step-boxed-requires-2 : goal.for_step-boxed-requires-2
for_step-boxed-requires-2 t c =
    let n = c.args.self.now in
    let own = out-ForStep c.args.turns.now in
    let at = for_step_is c.args.turns.now in
    let all = numbered_as n _ _ (kind_as c.args.place _ _ c.args.found.now at) c.requires in
    let left = c.in_ok-step.ensures.left ∙ ap (λ fs. (perhaps_taken (optional_tree own.step) fs).1) c.in_ok-start.ensures.left in
    let known : NodeNumbered n (node_taken (tree own.limit) c.perhaps.new.found).0 = asked (NodeNumbered n) (node_taken (tree own.limit)) _ c.perhaps.new.found left all.3 in
    search (rules, ap size_kind at)

pub for_step-boxed-requires-3 : goal.for_step-boxed-requires-3
for_step-boxed-requires-3 t c =
    let n = c.args.self.now in
    let own = out-ForStep c.args.turns.now in
    let at = for_step_is c.args.turns.now in
    let all = numbered_as n _ _ (kind_as c.args.place _ _ c.args.found.now at) c.requires in
    let before = c.in_ok-step.ensures.left ∙ ap (λ fs. (perhaps_taken (optional_tree own.step) fs).1) c.in_ok-start.ensures.left in
    let left = c.in_ok-limit.ensures.left ∙ ap (λ fs. (node_taken (tree own.limit) fs).1) before in
    let known : NodeNumbered n (node_taken (tree own.body) c.boxed-2.new.found).0 = asked (NodeNumbered n) (node_taken (tree own.body)) _ c.boxed-2.new.found left all.4 in
    search (rules, ap size_kind at)

pub for_step-number-control-requires : goal.for_step-number-control-requires
for_step-number-control-requires t c = (numbered_as c.args.self.now _ _ (kind_as c.args.place _ _ c.args.found.now (for_step_is c.args.turns.now)) c.requires).0

pub for_step-returns : goal.for_step-returns
for_step-returns t c =
    let n = c.args.self.now in
    let own = out-ForStep c.args.turns.now in
    same_taken n _ _ _ _ _ _ (kind_as c.args.place _ _ c.args.found.now (for_step_is c.args.turns.now))
    (taken_four n _ _ _ _ _ (λ ns. program.node_view ns c.in_ok-start.start.value) (λ ns. perhaps_in ns c.in_ok-step.step) (λ ns. program.node_view ns c.in_ok-limit.limit.value) (λ ns. program.node_view ns c.in_ok-body.body.value) _
    (node_taken (tree own.start)) (perhaps_taken (optional_tree own.step)) (node_taken (tree own.limit)) (node_taken (tree own.body)) (typed.ForStep c.args.place) c.args.found.now c.boxed.new.found c.perhaps.new.found c.boxed-2.new.found _
    (λ sets. for_step_in (numbers_in n sets) c.number-control.result c.in_ok-start.start c.in_ok-step.step c.in_ok-limit.limit c.in_ok-body.body
    ∙ ap (λ p. typed.ForStep p (program.node_view (numbers_in n sets) c.in_ok-start.start.value) (perhaps_in (numbers_in n sets) c.in_ok-step.step) (program.node_view (numbers_in n sets) c.in_ok-limit.limit.value) (program.node_view (numbers_in n sets) c.in_ok-body.body.value)) c.number-control.ensures.place)
    c.in_ok-start.ensures c.in_ok-step.ensures c.in_ok-limit.ensures c.in_ok-body.ensures)

pub for_list-nodes-requires : goal.for_list-nodes-requires
for_list-nodes-requires t c =
    let n = c.args.self.now in
    let at = for_list_is c.args.turns.now in
    let all = numbered_as n _ _ (kind_as c.args.place _ _ c.args.found.now at) c.requires in
    let known : NodesNumbered n (nodes_taken (phrases_of (map tree c.deref.result.now)) c.args.found.now).0 = subst (λ (xs : List Phrase). NodesNumbered n (nodes_taken (phrases_of (map tree xs)) c.args.found.now).0) (sym c.deref.ensures.value) all.1 in
    search (rules, ap size_kind at)

pub for_list-boxed-requires : goal.for_list-boxed-requires
for_list-boxed-requires t c =
    let n = c.args.self.now in
    let own = out-ForList c.args.turns.now in
    let at = for_list_is c.args.turns.now in
    let all = numbered_as n _ _ (kind_as c.args.place _ _ c.args.found.now at) c.requires in
    let left = c.in_ok-values.ensures.left ∙ ap (λ (xs : List Phrase). (nodes_taken (phrases_of (map tree xs)) c.args.found.now).1) c.deref.ensures.value in
    let known : NodeNumbered n (node_taken (tree own.body) c.nodes.new.found).0 = asked (NodeNumbered n) (node_taken (tree own.body)) _ c.nodes.new.found left all.2 in
    search (rules, ap size_kind at)

pub for_list-number-control-requires : goal.for_list-number-control-requires
for_list-number-control-requires t c = (numbered_as c.args.self.now _ _ (kind_as c.args.place _ _ c.args.found.now (for_list_is c.args.turns.now)) c.requires).0

pub for_list-returns : goal.for_list-returns
for_list-returns t c =
    let n = c.args.self.now in
    let own = out-ForList c.args.turns.now in
    let at = for_list_is c.args.turns.now ∙ ap (λ xs. Tree.ForList own.name (phrases_of (map tree xs)) (tree own.body)) (sym c.deref.ensures.value) in
    same_taken n _ _ _ _ _ _ (kind_as c.args.place _ _ c.args.found.now at)
    (taken_two n _ _ _ (λ ns. nodes_onto (map (program.node_view ns) c.in_ok-values.values.items) typed.no_nodes) (λ ns. program.node_view ns c.in_ok-body.body.value) _ (nodes_taken (phrases_of (map tree c.deref.result.now))) (node_taken (tree own.body)) (typed.ForList c.args.place) c.args.found.now c.nodes.new.found _
    (λ sets. for_list_in (numbers_in n sets) c.number-control.result c.in_ok-values.values c.in_ok-body.body
    ∙ ap (λ p. typed.ForList p (nodes_onto (map (program.node_view (numbers_in n sets)) c.in_ok-values.values.items) typed.no_nodes) (program.node_view (numbers_in n sets) c.in_ok-body.body.value)) c.number-control.ensures.place)
    c.in_ok-values.ensures c.in_ok-body.ensures)

pub block-decls-requires : goal.block-decls-requires
block-decls-requires t c =
    let n = c.args.self.now in
    let known : DeclsNumbered n (decls_taken (decls_of (map decl_tree c.args.decls.now)) c.args.found.now).0 = c.requires.0 in
    search rules

pub block-items-requires : goal.block-items-requires
block-items-requires t c =
    let n = c.args.self.now in
    let taken = items_taken (items_of (map item_tree c.args.items.now)) in
    let known : ItemsNumbered n (taken c.decls.new.found).0 = asked (ItemsNumbered n) taken _ c.decls.new.found c.in_ok-decls.ensures.left c.requires.1 in
    search rules

pub block-returns : goal.block-returns
block-returns t c =
    let n = c.args.self.now in
    taken_two n _ _ _ (λ ns. decls_onto (map (program.decl_view ns) c.in_ok-decls.decls.items) typed.no_decls) (λ ns. items_onto (map (program.item_view ns) c.in_ok-items.items.items) typed.no_items) _ (decls_taken (decls_of (map decl_tree c.args.decls.now))) (items_taken (items_of (map item_tree c.args.items.now))) typed.Block c.args.found.now c.decls.new.found _ (λ sets. block_in (numbers_in n sets) c.in_ok-decls.decls c.in_ok-items.items) c.in_ok-decls.ensures c.in_ok-items.ensures

pub list-actuals-requires : goal.list-actuals-requires
list-actuals-requires t c =
    let n = c.args.self.now in
    let at = actuals_at c.args.list.now.place _ c.in-Actuals.actuals c.deref.result.now c.in-Actuals.is c.deref.ensures.value in
    let known : ActualsNumbered n (actuals_taken (actuals_of (map actual_tree c.deref.result.now)) c.args.found.now).0 = subst (λ (l : Tree.Listing). ListingNumbered n (listing_taken l c.args.found.now).0) at c.requires in
    search (rules, ap size_listing at)

pub list-returns-in_ok-actuals-in-Actuals : goal.list-returns-in_ok-actuals-in-Actuals
list-returns-in_ok-actuals-in-Actuals t c =
    let n = c.args.self.now in
    let place = c.args.list.now.place in
    let at = actuals_at place _ c.in-Actuals.actuals c.deref.result.now c.in-Actuals.is c.deref.ensures.value in
    same_taken n _ _ _ _ _ _ (ap {B = typed.Listing × List Found} (λ l. listing_taken l c.args.found.now) at)
    (taken_one n _ _ (λ ns. actuals_onto (map (program.actual_view ns) c.in_ok-actuals-in-Actuals.field-0.items) typed.no_actuals) _ (actuals_taken (actuals_of (map actual_tree c.deref.result.now))) (typed.OfActuals place) c.args.found.now _ (λ sets. actuals_in (numbers_in n sets) place c.in_ok-actuals-in-Actuals.field-0) c.in_ok-actuals-in-Actuals.ensures)

pub decl-bounds-requires : goal.decl-bounds-requires
decl-bounds-requires t c =
    let n = c.args.self.now in
    let own = c.in-Array in
    let at = array_at _ own.field-0 own.names own.bounds c.deref-in-Array-2.result.now own.is c.deref-in-Array-2.ensures.value in
    let all = subst (λ (d : Tree.Decl). DeclNumbered n (decl_taken d c.args.found.now).0) at c.requires in
    let known : BoundsNumbered n (bounds_taken (bounds_of (map bound_tree c.deref-in-Array-2.result.now)) c.take_simple_type-in-Array.new.self).0 =
    asked (BoundsNumbered n) (bounds_taken (bounds_of (map bound_tree c.deref-in-Array-2.result.now))) (rest_found c.args.found.now) c.take_simple_type-in-Array.new.self c.take_simple_type-in-Array.ensures.rest all.2 in
    search (rules, ap size_decl at)

pub decl-returns-in_ok-bounds-in-Array : goal.decl-returns-in_ok-bounds-in-Array
decl-returns-in_ok-bounds-in-Array t c =
    let n = c.args.self.now in
    let own = c.in-Array in
    let at = array_at _ own.field-0 own.names own.bounds c.deref-in-Array-2.result.now own.is c.deref-in-Array-2.ensures.value in
    same_taken n _ _ _ _ _ _ (ap {B = typed.Decl × List Found} (λ d. decl_taken d c.args.found.now) at)
    (array_taken n _ _ _ c.in_ok-of-in-Array.of c.in_ok-names-in-Array.names c.in_ok-bounds-in-Array.bounds _ (spec_tree own.field-0) own.names.items (bounds_of (map bound_tree c.deref-in-Array-2.result.now)) c.args.found.now c.take_simple_type-in-Array.new.self _ c.take_simple_type-in-Array.ensures.first c.take_simple_type-in-Array.ensures.rest c.in_ok-of-in-Array.ensures (c.in_ok-names-in-Array.ensures ∙ ap declare_at c.deref-in-Array.ensures.value) c.in_ok-bounds-in-Array.ensures)

pub labelled-targets-requires : goal.labelled-targets-requires
labelled-targets-requires t c =
    let n = c.args.self.now in
    let all = subst (λ (i : Tree.Item). ItemNumbered n (item_taken i c.args.found.now).0) (labelled_is c.args.labelled.now) c.requires in
    subst (λ (xs : List Tree.Placed). KnowsDeclared n.names (declare_at xs)) (sym c.deref.ensures.value) all.0

pub labelled-boxed-requires : goal.labelled-boxed-requires
labelled-boxed-requires t c =
    let n = c.args.self.now in
    let at = labelled_is c.args.labelled.now in
    let all = subst (λ (i : Tree.Item). ItemNumbered n (item_taken i c.args.found.now).0) at c.requires in
    let known : NodeNumbered n (node_taken (tree c.deref-2.result.now) c.args.found.now).0 = subst (λ (x : Phrase). NodeNumbered n (node_taken (tree x) c.args.found.now).0) (sym c.deref-2.ensures) all.1 in
    search (rules, ap size_item at)

pub labelled-returns : goal.labelled-returns
labelled-returns t c =
    let n = c.args.self.now in
    let own = out-Labelled c.args.labelled.now in
    let names = c.in_ok-labels.ensures ∙ ap declare_at c.deref.ensures.value in
    let made = subst (λ (x : Phrase). MakesTaken n c.args.table.now c.boxed.new.table (λ ns. program.node_view ns c.in_ok-phrase.phrase.value) c.boxed.new.found (node_taken (tree x) c.args.found.now)) c.deref-2.ensures c.in_ok-phrase.ensures in
    same_taken n _ _ _ _ _ _ (ap {B = typed.Item × List Found} (λ i. item_taken i c.args.found.now) (labelled_is c.args.labelled.now))
    (labelled_taken n _ _ c.in_ok-labels.labels c.in_ok-phrase.phrase c.in_ok-item.item own.labels.items (tree own.phrase.value) c.args.found.now _ names made c.in_ok-item.ensures.ok)

pub procedure-perhaps_type-requires : goal.procedure-perhaps_type-requires
procedure-perhaps_type-requires t c =
    let n = c.args.self.now in
    let all = subst (λ (d : Tree.Decl). DeclNumbered n (decl_taken d c.args.found.now).0) (procedure_is c.args.procedure.now) c.requires in
    subst (KnowsResult n.classes) (sym c.take_type.ensures.first) all.0

pub procedure-formals-requires : goal.procedure-formals-requires
procedure-formals-requires t c =
    let n = c.args.self.now in
    let all = subst (λ (d : Tree.Decl). DeclNumbered n (decl_taken d c.args.found.now).0) (procedure_is c.args.procedure.now) c.requires in
    let taken = λ (xs : List Formal). formals_taken (map formal_tree xs) in
    subst (λ xs. KnowsFormals n.names n.classes (taken xs c.take_type.new.self).0) (sym c.deref.ensures.value)
    (asked (KnowsFormals n.names n.classes) (taken (out-ProcDecl c.args.procedure.now).formals.items) (rest_found c.args.found.now) c.take_type.new.self c.take_type.ensures.rest all.2)

pub procedure-boxed-requires : goal.procedure-boxed-requires
procedure-boxed-requires t c =
    let n = c.args.self.now in
    let own = out-ProcDecl c.args.procedure.now in
    let at = procedure_is c.args.procedure.now in
    let all = subst (λ (d : Tree.Decl). DeclNumbered n (decl_taken d c.args.found.now).0) at c.requires in
    let taken = λ (xs : List Formal). formals_taken (map formal_tree xs) in
    let left = c.in_ok-formals.ensures.left ∙ ap (λ (xs : List Formal). (taken xs c.take_type.new.self).1) c.deref.ensures.value ∙ ap (λ fs. (taken own.formals.items fs).1) c.take_type.ensures.rest in
    let known : NodeNumbered n (node_taken (tree c.deref-2.result.now) c.formals.new.found).0 = subst (λ (x : Phrase). NodeNumbered n (node_taken (tree x) c.formals.new.found).0) (sym c.deref-2.ensures) (asked (NodeNumbered n) (node_taken (tree own.body.value)) _ c.formals.new.found left all.3) in
    search (rules, ap size_decl at)

pub procedure-number-requires : goal.procedure-number-requires
procedure-number-requires t c = (subst (λ (d : Tree.Decl). DeclNumbered c.args.self.now (decl_taken d c.args.found.now).0) (procedure_is c.args.procedure.now) c.requires).1

pub procedure-returns : goal.procedure-returns
procedure-returns t c =
    let n = c.args.self.now in
    let own = out-ProcDecl c.args.procedure.now in
    let place = own.name.1 in
    let named : target_in n (c.number.result, place) ≡ declares_at own.name = ap {B = typed.Placed} (λ q. (q, place)) c.number.ensures.place in
    let formals = subst (λ (xs : List Formal). MakesTaken n c.perhaps_type.new.table c.formals.new.table (λ ns. map (program.formal_view ns) c.in_ok-formals.formals.items) c.formals.new.found (formals_taken (map formal_tree xs) c.take_type.new.self)) c.deref.ensures.value c.in_ok-formals.ensures in
    let body = subst (λ (x : Phrase). MakesTaken n c.formals.new.table c.boxed.new.table (λ ns. program.node_view ns c.in_ok-body.body.value) c.boxed.new.found (node_taken (tree x) c.formals.new.found)) c.deref-2.ensures c.in_ok-body.ensures in
    same_taken n _ _ _ _ _ _ (ap {B = typed.Decl × List Found} (λ d. decl_taken d c.args.found.now) (procedure_is c.args.procedure.now))
    (procedure_taken n _ _ _ _ own.place c.in_ok-result.result (c.number.result, place) c.in_ok-formals.formals c.in_ok-body.body _ (option_map spec_tree own.result) own.name (map formal_tree own.formals.items) (tree own.body.value) c.args.found.now c.take_type.new.self c.formals.new.found _ named c.take_type.ensures.first c.take_type.ensures.rest c.in_ok-result.ensures formals body)

pub kind-returns-in-Named : goal.kind-returns-in-Named
kind-returns-in-Named t c =
    let n = c.args.self.now in
    let between = c.take_name-in-Named.new.self in
    let none = nothing_taken n c.args.table.now (λ ns. lists_onto (map (list_in ns) c.new.result.items) typed.no_lists) typed.no_lists between (λ sets. ap (λ xs. lists_onto (map (list_in (numbers_in n sets)) xs) typed.no_lists) c.new.ensures.items) in
    same_taken n _ _ _ _ _ _ (kind_as c.args.place _ _ c.args.found.now (ap kind_tree c.in-Named.is))
    (named_taken n _ _ c.number-name.result c.take_name-in-Named.result c.new.result Tree.no_lists c.args.found.now between between c.take_name-in-Named.ensures.first c.take_name-in-Named.ensures.rest c.number-name.ensures.place none [])
