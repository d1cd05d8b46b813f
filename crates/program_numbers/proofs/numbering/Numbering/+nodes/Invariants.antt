use Rattle.std.proofs.Common.{◌+◌, ◌*◌, suc, map, drop}
use Rattle.algolw_tree.proofs.Sizes.{size, size_kind, size_perhaps, size_phrases, size_links, size_lists, size_listing, size_actuals, size_actual, size_items, size_bounds, size_decls, size_decl}
use Rattle.algolw_tree.specs.Grammar.{actuals_of, bounds_of, decls_of, items_of, links_of, lists_of, phrases_of}
use Rattle.algolw_tree.specs.View.{actual_tree, applied_tree, assignment_tree, bound_tree, case_do_tree, case_value_tree, chain_tree, class_test_tree, conditional_tree, decl_tree, for_list_tree, for_step_tree, item_tree, kind_tree, labelled_tree, link_tree, list_tree, listed_tree, optional_tree, part_tree, procedure_tree, relation_tree, repetition_tree, tree}
use Rattle.algolw_typing.specs.ProgramView as program
use Rattle.program_numbers.proofs.TreeParts.{size_item}
use Rattle.program_numbers.specs.Onto.{actuals_onto, bounds_onto, decls_onto, items_onto, links_onto, lists_onto, nodes_onto}
use Rattle.program_numbers.specs.ProgramParts.{bound_in, link_in, list_in}
use Rattle.program_numbers.specs.Taken.{actuals_taken, bounds_taken, decls_taken, items_taken, links_taken, lists_taken, nodes_taken}
use Rattle.program_numbers.proofs.RowsTaken.{SoFar}
use Rattle.program_numbers.proofs.numbering.Numbering.+nodes.Given as goal

abbrev pub decreases-node : goal.decreases-node
decreases-node l = 4 * size (tree l.phrase.now)

abbrev pub decreases-kind : goal.decreases-kind
decreases-kind l = 4 * size_kind (kind_tree l.kind.now) + 3

abbrev pub decreases-boxed : goal.decreases-boxed
decreases-boxed l = 4 * size (tree l.phrase.now) + 1

abbrev pub decreases-perhaps : goal.decreases-perhaps
decreases-perhaps l = 4 * size_perhaps (optional_tree l.phrase.now)

abbrev pub decreases-applied : goal.decreases-applied
decreases-applied l = 4 * size_kind (applied_tree l.application.now) + 2

abbrev pub decreases-listed : goal.decreases-listed
decreases-listed l = 4 * size_kind (listed_tree l.listed.now) + 2

abbrev pub decreases-chain : goal.decreases-chain
decreases-chain l = 4 * size_kind (chain_tree l.chain.now) + 2

abbrev pub decreases-relation : goal.decreases-relation
decreases-relation l = 4 * size_kind (relation_tree l.comparison.now) + 2

abbrev pub decreases-class_test : goal.decreases-class_test
decreases-class_test l = 4 * size_kind (class_test_tree l.test.now) + 2

abbrev pub decreases-assignment : goal.decreases-assignment
decreases-assignment l = 4 * size_kind (assignment_tree l.assignment.now) + 2

abbrev pub decreases-conditional : goal.decreases-conditional
decreases-conditional l = 4 * size_kind (conditional_tree l.conditional.now) + 2

abbrev pub decreases-case_value : goal.decreases-case_value
decreases-case_value l = 4 * size_kind (case_value_tree l.case.now) + 2

abbrev pub decreases-case_do : goal.decreases-case_do
decreases-case_do l = 4 * size_kind (case_do_tree l.case.now) + 2

abbrev pub decreases-for_step : goal.decreases-for_step
decreases-for_step l = 4 * size_kind (for_step_tree l.turns.now) + 2

abbrev pub decreases-for_list : goal.decreases-for_list
decreases-for_list l = 4 * size_kind (for_list_tree l.turns.now) + 2

abbrev pub decreases-repetition : goal.decreases-repetition
decreases-repetition l = 4 * size_kind (repetition_tree l.repetition.now) + 2

abbrev pub decreases-block : goal.decreases-block
decreases-block l = 4 * suc (suc (size_decls (decls_of (map decl_tree l.decls.now)) + size_items (items_of (map item_tree l.items.now)))) + 2

abbrev pub decreases-nodes : goal.decreases-nodes
decreases-nodes l = 4 * size_phrases (phrases_of (map tree l.phrases.now))

abbrev pub decreases-parts : goal.decreases-parts
decreases-parts l = 4 * size_phrases (phrases_of (map part_tree l.parts.now))

abbrev pub decreases-part : goal.decreases-part
decreases-part l = 4 * size (part_tree l.part.now) + 2

abbrev pub decreases-links : goal.decreases-links
decreases-links l = 4 * size_links (links_of (map link_tree l.links.now))

abbrev pub decreases-lists : goal.decreases-lists
decreases-lists l = 4 * size_lists (lists_of (map list_tree l.lists.now))

abbrev pub decreases-list : goal.decreases-list
decreases-list l = 4 * size_listing (list_tree l.list.now)

abbrev pub decreases-actuals : goal.decreases-actuals
decreases-actuals l = 4 * size_actuals (actuals_of (map actual_tree l.actuals.now))

abbrev pub decreases-actual : goal.decreases-actual
decreases-actual l = 4 * size_actual (actual_tree l.actual.now)

abbrev pub decreases-items : goal.decreases-items
decreases-items l = 4 * size_items (items_of (map item_tree l.items.now))

abbrev pub decreases-item : goal.decreases-item
decreases-item l = 4 * size_item (item_tree l.item.now) + 3

abbrev pub decreases-labelled : goal.decreases-labelled
decreases-labelled l = 4 * size_item (labelled_tree l.labelled.now) + 2

abbrev pub decreases-bounds : goal.decreases-bounds
decreases-bounds l = 4 * size_bounds (bounds_of (map bound_tree l.bounds.now))

abbrev pub decreases-decls : goal.decreases-decls
decreases-decls l = 4 * size_decls (decls_of (map decl_tree l.decls.now))

abbrev pub decreases-decl : goal.decreases-decl
decreases-decl l = 4 * size_decl (decl_tree l.decl.now) + 1

abbrev pub decreases-procedure : goal.decreases-procedure
decreases-procedure l = 4 * size_decl (procedure_tree l.procedure.now)

abbrev pub invariant-nodes-loop-phrase : goal.invariant-nodes-loop-phrase
invariant-nodes-loop-phrase l = SoFar l.self l.initial.table l.table (λ ns. map (program.node_view ns) l.made.items) nodes_onto (nodes_taken (phrases_of (map tree l.phrases)) l.initial.found) (nodes_taken (phrases_of (map tree (drop l.phrase-index l.phrases))) l.found)

abbrev pub invariant-parts-loop-part : goal.invariant-parts-loop-part
invariant-parts-loop-part l = SoFar l.self l.initial.table l.table (λ ns. map (program.part_view ns) l.made.items) nodes_onto (nodes_taken (phrases_of (map part_tree l.parts)) l.initial.found) (nodes_taken (phrases_of (map part_tree (drop l.part-index l.parts))) l.found)

abbrev pub invariant-links-loop-link : goal.invariant-links-loop-link
invariant-links-loop-link l = SoFar l.self l.initial.table l.table (λ ns. map (link_in ns) l.made.items) links_onto (links_taken (links_of (map link_tree l.links)) l.initial.found) (links_taken (links_of (map link_tree (drop l.link-index l.links))) l.found)

abbrev pub invariant-lists-loop-list : goal.invariant-lists-loop-list
invariant-lists-loop-list l = SoFar l.self l.initial.table l.table (λ ns. map (list_in ns) l.made.items) lists_onto (lists_taken (lists_of (map list_tree l.lists)) l.initial.found) (lists_taken (lists_of (map list_tree (drop l.list-index l.lists))) l.found)

abbrev pub invariant-actuals-loop-actual : goal.invariant-actuals-loop-actual
invariant-actuals-loop-actual l = SoFar l.self l.initial.table l.table (λ ns. map (program.actual_view ns) l.made.items) actuals_onto (actuals_taken (actuals_of (map actual_tree l.actuals)) l.initial.found) (actuals_taken (actuals_of (map actual_tree (drop l.actual-index l.actuals))) l.found)

abbrev pub invariant-items-loop-item : goal.invariant-items-loop-item
invariant-items-loop-item l = SoFar l.self l.initial.table l.table (λ ns. map (program.item_view ns) l.made.items) items_onto (items_taken (items_of (map item_tree l.items)) l.initial.found) (items_taken (items_of (map item_tree (drop l.item-index l.items))) l.found)

abbrev pub invariant-bounds-loop-bound : goal.invariant-bounds-loop-bound
invariant-bounds-loop-bound l = SoFar l.self l.initial.table l.table (λ ns. map (bound_in ns) l.made.items) bounds_onto (bounds_taken (bounds_of (map bound_tree l.bounds)) l.initial.found) (bounds_taken (bounds_of (map bound_tree (drop l.bound-index l.bounds))) l.found)

abbrev pub invariant-decls-loop-decl : goal.invariant-decls-loop-decl
invariant-decls-loop-decl l = SoFar l.self l.initial.table l.table (λ ns. map (program.decl_view ns) l.made.items) decls_onto (decls_taken (decls_of (map decl_tree l.decls)) l.initial.found) (decls_taken (decls_of (map decl_tree (drop l.decl-index l.decls))) l.found)
