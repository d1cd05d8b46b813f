use Rattle.std.proofs.Common.{◌+◌, drop, ◌≤◌, length, ℕ, List}
use Rattle.algolw_tree.specs.declared.programs.TypedDecl.{Proc}
use Rattle.algolw_typing.specs.ProgramView.{decl_view, part_view}
use Rattle.code_emitter.proofs.Remaining.{Remains}
use Rattle.code_emitter.specs.Forms.{jumps_open}
use Rattle.code_emitter.specs.Parts.{phrase_in, scene, none_own, Codes, place_in, next}
use Rattle.stack_codegen.proofs.ActualSizes.{kind_size}
use Rattle.stack_codegen.proofs.BlockBounds.{left_bounds, marks_of_bounds}
use Rattle.stack_codegen.proofs.BlockDecls.{DeclsCoded}
use Rattle.stack_codegen.proofs.BlockItems.{ItemsCoded}
use Rattle.stack_codegen.proofs.CallLoops.{BacksBy, LineBy, TextsBy}
use Rattle.stack_codegen.proofs.CaseParts.{PartsUnderWay}
use Rattle.stack_codegen.proofs.Chains.{Chained, chained}
use Rattle.stack_codegen.proofs.ListParts.{ListedLeft}
use Rattle.stack_codegen.proofs.NodeSizes.{node_size, nothing, perhaps_size, size, size_links, size_actuals, size_lists, size_nodes, size_bounds, size_decl, size_decls, size_items}
use Rattle.stack_codegen.proofs.StringParts.{StringLeft, whole_string}
use Rattle.stack_codegen.proofs.WriteParts.{WritesLeft}
use Rattle.stack_codegen.proofs.ValueParts.{ValuesUnderWay}
use Rattle.stack_codegen.specs.Codable.{choices_in, node_in}
use Rattle.stack_codegen.specs.Operations.{first_wanted}
use Rattle.symbol_table.specs.Parts.{links_in, actuals_in, lists_in, nodes_in, bounds_in, decls_in, item_node, items_in}
use Rattle.stack_codegen.proofs.+phrases.Given as goal

abbrev pub decreases-phrases::emit_phrase : goal.decreases-phrases::emit_phrase
decreases-phrases::emit_phrase l = node_size l.node.now

abbrev pub decreases-phrases::emit_perhaps : goal.decreases-phrases::emit_perhaps
decreases-phrases::emit_perhaps l = 1 + perhaps_size l.branch.phrase

abbrev pub decreases-phrases::emit_before : goal.decreases-phrases::emit_before
decreases-phrases::emit_before l = 2 + perhaps_size l.a

abbrev pub decreases-phrases::emit_statement : goal.decreases-phrases::emit_statement
decreases-phrases::emit_statement l = 3 + perhaps_size l.a

abbrev pub decreases-phrases::emit_is_class : goal.decreases-phrases::emit_is_class
decreases-phrases::emit_is_class l = 3 + node_size l.a.now

abbrev pub decreases-phrases::emit_pair : goal.decreases-phrases::emit_pair
decreases-phrases::emit_pair l = 3 + node_size l.a.now + node_size l.b.now

abbrev pub decreases-phrases::emit_assign : goal.decreases-phrases::emit_assign
decreases-phrases::emit_assign l = 4 + node_size l.a.now + node_size l.b.now

abbrev pub decreases-phrases::emit_branches : goal.decreases-phrases::emit_branches
decreases-phrases::emit_branches l = 2 + perhaps_size l.consequent.phrase + perhaps_size l.alternative.phrase

abbrev pub decreases-phrases::emit_if_then : goal.decreases-phrases::emit_if_then
decreases-phrases::emit_if_then l = 4 + node_size l.c.now + node_size l.a.now + perhaps_size l.b

abbrev pub decreases-phrases::emit_operand : goal.decreases-phrases::emit_operand
decreases-phrases::emit_operand l = 3 + node_size l.right.now

abbrev pub decreases-phrases::emit_link : goal.decreases-phrases::emit_link
decreases-phrases::emit_link l = 4 + node_size l.link.now.right

abbrev pub decreases-phrases::emit_chain : goal.decreases-phrases::emit_chain
decreases-phrases::emit_chain l = 1 + node_size l.first.now + size_links (links_in nothing l.links.now)

abbrev pub invariant-phrases::emit_chain-loop-link : goal.invariant-phrases::emit_chain-loop-link
invariant-phrases::emit_chain-loop-link l =
    Chained l.fn.emitter l.emitter l.here (first_wanted l.fn.mode (length l.fn.links)) l.logical (chained (scene l.fn.emitter) l.logical (phrase_in (scene l.fn.emitter) (node_in l.fn.first (scene l.fn.emitter))) l.fn.links) (drop l.link-index l.fn.links) l.marks

abbrev pub decreases-names::emit_named : goal.decreases-names::emit_named
decreases-names::emit_named l = 7 + size_lists (lists_in nothing l.lists.now)

abbrev pub decreases-names::emit_standard : goal.decreases-names::emit_standard
decreases-names::emit_standard l = 6 + size_lists (lists_in nothing l.lists.now)

abbrev pub decreases-names::emit_applied : goal.decreases-names::emit_applied
decreases-names::emit_applied l = 5 + size_lists (lists_in nothing l.lists.now)

abbrev pub decreases-names::emit_called : goal.decreases-names::emit_called
decreases-names::emit_called l = 6 + size_lists (lists_in nothing l.lists.now)

abbrev pub decreases-names::emit_parts : goal.decreases-names::emit_parts
decreases-names::emit_parts l = 3 + size_lists (lists_in nothing l.lists.now)

abbrev pub invariant-names::emit_parts-loop-list : goal.invariant-names::emit_parts-loop-list
invariant-names::emit_parts-loop-list l = StringLeft l.fn.emitter l.emitter l.here l.whole (whole_string l.fn.emitter l.fn.whole l.lists) (drop l.list-index l.lists) l.fn.marks l.marks

abbrev pub decreases-lists::emit_parts_of_given : goal.decreases-lists::emit_parts_of_given
decreases-lists::emit_parts_of_given l = 4 + size_lists (lists_in nothing l.rest.now)

abbrev pub decreases-lists::emit_with_list : goal.decreases-lists::emit_with_list
decreases-lists::emit_with_list l = 4 + size_actuals (actuals_in nothing l.actuals.now)

abbrev pub decreases-lists::emit_listed : goal.decreases-lists::emit_listed
decreases-lists::emit_listed l = 1 + size_actuals (actuals_in nothing l.actuals.now)

abbrev pub invariant-lists::emit_listed-loop-actual : goal.invariant-lists::emit_listed-loop-actual
invariant-lists::emit_listed-loop-actual l = record { left : ListedLeft l.fn.emitter l.emitter l.here l.list l.position l.actuals l.actual-index l.marks; within : l.position ≤ l.actual-index }

abbrev pub decreases-writes::emit_write : goal.decreases-writes::emit_write
decreases-writes::emit_write l = 5 + size_lists (lists_in nothing l.lists.now)

abbrev pub decreases-writes::emit_writes : goal.decreases-writes::emit_writes
decreases-writes::emit_writes l = 4 + size_actuals (actuals_in nothing l.actuals.now)

abbrev pub invariant-writes::emit_writes-loop-actual : goal.invariant-writes::emit_writes-loop-actual
invariant-writes::emit_writes-loop-actual l = WritesLeft l.fn.emitter l.emitter l.fn.here l.first l.writing l.actuals l.actual-index l.marks

abbrev pub decreases-writes::emit_written : goal.decreases-writes::emit_written
decreases-writes::emit_written l = 2 + node_size l.node.now

abbrev pub decreases-actuals::emit_actual : goal.decreases-actuals::emit_actual
decreases-actuals::emit_actual l = 4 + node_size l.node.now

abbrev pub decreases-actuals::emit_value : goal.decreases-actuals::emit_value
decreases-actuals::emit_value l = 3 + kind_size l.kind

abbrev pub decreases-actuals::emit_text : goal.decreases-actuals::emit_text
decreases-actuals::emit_text l = 3 + kind_size l.kind

abbrev pub decreases-actuals::emit_content : goal.decreases-actuals::emit_content
decreases-actuals::emit_content l = 2 + kind_size l.kind

abbrev pub decreases-calls::emit_call : goal.decreases-calls::emit_call
decreases-calls::emit_call l = 2 + size_actuals (actuals_in nothing l.actuals.now)

abbrev pub decreases-calls::emit_call_through : goal.decreases-calls::emit_call_through
decreases-calls::emit_call_through l = 2 + size_actuals (actuals_in nothing l.actuals.now)

abbrev pub decreases-calls::emit_in_line : goal.decreases-calls::emit_in_line
decreases-calls::emit_in_line l = 1 + size_actuals (actuals_in nothing l.actuals.now)

abbrev pub decreases-calls::emit_backs : goal.decreases-calls::emit_backs
decreases-calls::emit_backs l = 1 + size_actuals (actuals_in nothing l.actuals.now)

abbrev pub decreases-calls::emit_texts : goal.decreases-calls::emit_texts
decreases-calls::emit_texts l = 1 + size_actuals (actuals_in nothing l.actuals.now)

abbrev pub decreases-calls::emit_back : goal.decreases-calls::emit_back
decreases-calls::emit_back l = 3 + node_size l.node.now

abbrev pub invariant-calls::emit_texts-loop-actual : goal.invariant-calls::emit_texts-loop-actual
invariant-calls::emit_texts-loop-actual l = TextsBy l.fn.emitter l.emitter l.here l.actuals (drop l.actual-index l.actuals) l.marks

abbrev pub invariant-calls::emit_in_line-loop-actual : goal.invariant-calls::emit_in_line-loop-actual
invariant-calls::emit_in_line-loop-actual l = LineBy l.fn.emitter l.emitter l.here l.procedure l.actuals (drop l.actual-index l.actuals) l.position l.marks

abbrev pub invariant-calls::emit_backs-loop-actual : goal.invariant-calls::emit_backs-loop-actual
invariant-calls::emit_backs-loop-actual l = BacksBy l.fn.emitter l.emitter l.called l.procedure l.pending l.actuals (drop l.actual-index l.actuals) l.position l.marks

abbrev pub decreases-blocks::emit_block : goal.decreases-blocks::emit_block
decreases-blocks::emit_block l = 7 + size_decls (decls_in nothing l.decls.now) + size_items (items_in nothing l.items.now)

abbrev pub decreases-blocks::emit_scope : goal.decreases-blocks::emit_scope
decreases-blocks::emit_scope l = 6 + size_decls (decls_in nothing l.decls.now) + size_items (items_in nothing l.items.now)

abbrev pub decreases-blocks::emit_decls : goal.decreases-blocks::emit_decls
decreases-blocks::emit_decls l = 5 + size_decls (decls_in nothing l.decls.now)

abbrev pub decreases-blocks::emit_decl : goal.decreases-blocks::emit_decl
decreases-blocks::emit_decl l = 5 + size_decl (decl_view nothing l.decl.now)

abbrev pub decreases-blocks::emit_bounds : goal.decreases-blocks::emit_bounds
decreases-blocks::emit_bounds l = 4 + size_bounds (bounds_in nothing l.bounds.now)

abbrev pub decreases-blocks::emit_procedure : goal.decreases-blocks::emit_procedure
decreases-blocks::emit_procedure l = 4 + size_decl (decl_view nothing (Proc l.procedure.now))

abbrev pub decreases-blocks::emit_body : goal.decreases-blocks::emit_body
decreases-blocks::emit_body l = 3 + size_decl (decl_view nothing (Proc l.procedure.now))

abbrev pub decreases-blocks::emit_items : goal.decreases-blocks::emit_items
decreases-blocks::emit_items l = 5 + size_items (items_in nothing l.items.now)

abbrev pub decreases-blocks::emit_item : goal.decreases-blocks::emit_item
decreases-blocks::emit_item l = 1 + size (item_node nothing l.item.now)

abbrev pub invariant-blocks::emit_bounds-loop-bound : goal.invariant-blocks::emit_bounds-loop-bound
invariant-blocks::emit_bounds-loop-bound l =
    Remains none_own l.fn.emitter l.emitter (left_bounds l.here l.bounds (scene l.fn.emitter) (next l.fn.emitter)) (left_bounds l.here (drop l.bound-index l.bounds)) (marks_of_bounds (scene l.fn.emitter) l.bounds) (marks_of_bounds (scene l.fn.emitter) (drop l.bound-index l.bounds)) l.marks

abbrev pub invariant-blocks::emit_decls-loop-decl : goal.invariant-blocks::emit_decls-loop-decl
invariant-blocks::emit_decls-loop-decl l = DeclsCoded l.fn.emitter l.emitter l.fn.outside l.there l.inside l.targets l.target l.decls (drop l.decl-index l.decls) l.marks

abbrev pub invariant-blocks::emit_items-loop-item : goal.invariant-blocks::emit_items-loop-item
invariant-blocks::emit_items-loop-item l = ItemsCoded l.fn.emitter l.emitter l.here l.targets l.target l.items (drop l.item-index l.items) l.marks

abbrev pub decreases-loops::emit_case : goal.decreases-loops::emit_case
decreases-loops::emit_case l = 5 + node_size l.subject.now + size_nodes (choices_in nothing l.choices)

abbrev pub decreases-loops::emit_choices : goal.decreases-loops::emit_choices
decreases-loops::emit_choices l = 4 + size_nodes (choices_in nothing l.choices)

abbrev pub decreases-loops::emit_choice : goal.decreases-loops::emit_choice
decreases-loops::emit_choice l = 3 + size_nodes (choices_in nothing l.choices)

abbrev pub decreases-loops::emit_part : goal.decreases-loops::emit_part
decreases-loops::emit_part l = 1 + size (part_view nothing l.part.now)

abbrev pub decreases-loops::emit_while_do : goal.decreases-loops::emit_while_do
decreases-loops::emit_while_do l = 4 + node_size l.c.now + node_size l.body.now

abbrev pub decreases-loops::emit_for_step : goal.decreases-loops::emit_for_step
decreases-loops::emit_for_step l = 4 + node_size l.a.now + perhaps_size l.b + node_size l.c.now + node_size l.body.now

abbrev pub decreases-loops::emit_for_list : goal.decreases-loops::emit_for_list
decreases-loops::emit_for_list l = 4 + size_nodes (nodes_in nothing l.values.now) + node_size l.body.now

abbrev pub decreases-loops::emit_values : goal.decreases-loops::emit_values
decreases-loops::emit_values l = 3 + size_nodes (nodes_in nothing l.values.now)

abbrev pub decreases-loops::emit_turn : goal.decreases-loops::emit_turn
decreases-loops::emit_turn l = 1 + node_size l.body.now

abbrev pub invariant-loops::emit_values-loop-value : goal.invariant-loops::emit_values-loop-value
invariant-loops::emit_values-loop-value l = ValuesUnderWay l.initial.emitter l.emitter l.here l.x l.target l.values l.value-index l.marks

abbrev pub invariant-loops::emit_choices-loop-choice : goal.invariant-loops::emit_choices-loop-choice
invariant-loops::emit_choices-loop-choice l = Codes none_own l.initial.emitter l.emitter (λ (ts : List ℕ). jumps_open (place_in (scene l.initial.emitter) l.here) l._choice) 0 0

abbrev pub invariant-loops::emit_choices-loop-index : goal.invariant-loops::emit_choices-loop-index
invariant-loops::emit_choices-loop-index l = PartsUnderWay l.fn.emitter l.emitter l.here l.choices l.pending l.index l.jump l.marks
