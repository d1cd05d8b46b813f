use Rattle.std.proofs.Common.{◌≡◌, ℕ, ◌+◌, [], ◌∷◌, ◌++◌, suc, List, IfOk, OnOk, length, map, refl, sym, ap, subst, ◌∙◌, arith, rules}
use Rattle.std.proofs.lemmas.List.{map-append}
use Rattle.std.proofs.lemmas.Result.{IfOk-weaker}
use Rattle.std.specs.Option.{option_map}
use Rattle.std.specs.Prelude.{Result}
use Rattle.algolw_tree.proofs.Rows.{actuals_at, applied_at, array_at, assignment_at, relation_at, repetition_at}
use Rattle.algolw_tree.proofs.Sizes.{size, size_kind, size_phrases, size_links, size_lists, size_listing, size_actuals, size_actual, size_items, size_bounds, size_decls, size_decl, item_smaller}
use Rattle.algolw_tree.specs.Grammar.{phrases_of, links_of, lists_of, actuals_of, items_of, decls_of, bounds_of}
use Rattle.algolw_tree.specs.Tree as tree
use Rattle.algolw_tree.specs.View.{tree as tree_of, kind_tree, part_tree, link_tree, list_tree, actual_tree, item_tree, decl_tree, bound_tree, formal_tree, optional_tree, procedure_tree, spec_tree}
use Rattle.algolw_tree.specs.declared.phrases.Phrase.{Phrase}
use Rattle.algolw_tree.specs.declared.phrases.ProcDecl.{out-ProcDecl}
use Rattle.algolw_typing.specs.Names.{Scope}
use Rattle.algolw_typing.specs.Naming.{Naming, NamePath, nothing, and, actuals_naming, block_names, bounds_naming, decl_naming, declares, decls_naming, formal_names, inside, items_naming, kind_naming, links_naming, lists_naming, naming, phrases_naming, placed_of, scope_of}
use Rattle.algolw_typing.specs.Rows.{case_value_row}
use Rattle.algolw_typing.specs.Scopes.{Known, Scopes, formal_scope, control_scope, label_entries}
use Rattle.algolw_typing.specs.Types.{Statement}
use Rattle.algolw_typing.specs.Typing as rules_of
use Rattle.algolw_typing.specs.Typing.{DeclOut, typed_bounds, typed_decl, typed_decls, typed_items, as_verdict, typed_phrase, case_value_out, typed_phrases}
use Rattle.algolw_typing.specs.Verdicts.{Good, Verdict, type_of, all_parts, part as part_of}
use Rattle.declared_names.proofs.Bounding.{array_bounds, array_found, procedure_is}
use Rattle.algolw_tree.specs.Tree.{Placed}
use Rattle.algolw_tree.specs.declared.phrases.Bound.{Bound}
use Rattle.algolw_tree.specs.declared.phrases.Link.{Link}
use Rattle.block_scopes.specs.FrameView.{frame_view}
use Rattle.declared_names.proofs.NamesOf.{known_block, named_block, named_formals}
use Rattle.declared_names.specs.Blocks.{DeclFound}
use Rattle.declared_names.specs.KnownView.{entry_of}
use Rattle.declared_names.specs.NamesAlong.{names_along}
use Rattle.phrase_checker.proofs.Assigning.{assigned, inner_value, plain_value}
use Rattle.phrase_checker.proofs.BlockFound.{block_found, both_ok, bound_checked, bounds_apart, noted_along, procedure_found}
use Rattle.phrase_checker.proofs.BlockSteps.{as_many, bounds_end, bounds_step, meanings_step, kept_step, decls_step, decls_end, own_bounds, items_end, items_step, last_item, phrase_in, size_item}
use Rattle.phrase_checker.proofs.Givens.{actual_checked, application_checked, application_read, list_checked, name_added, named_checked}
use Rattle.phrase_checker.proofs.Growth.{faults_alone}
use Rattle.phrase_checker.proofs.InBoxes.{listed_in, chain_in, conditional_in, class_test_in, case_value_in, case_do_in, for_step_in, for_list_in, block_in}
use Rattle.phrase_checker.proofs.ListSteps as lists
use Rattle.phrase_checker.proofs.Noting.{actual_first, and_assoc, block_notes, both_ok_if, bounds_noted, finish, item_first, kept_notes, listing_first, noted_array, noted_before, noted_kind, notes_and, notes_nothing, notes_scope, notes_still, ok_always, ok_weaker, own_notes, procedure_notes, range_notes, turn, values_notes}
use Rattle.phrase_checker.proofs.OtherKinds.{no_assignment}
use Rattle.phrase_checker.proofs.Steps.{by_kind, prefixed_checked, case_do_checked, case_value_checked, chain_found, empty_noted, for_list_checked, is_checked, range_checked, relation_checked, while_checked}
use Rattle.phrase_checker.proofs.Turns.{cases_end, cases_step, links_end, links_step, phrases_end, phrases_step}
use Rattle.phrase_checker.proofs.Wholes.{noted}
use Rattle.phrase_checker.specs.Checked.{DeclsChecked, ItemsChecked, Noted, Checked}
use Rattle.phrase_checker.specs.NotedParts.{actual_naming, item_naming, listing_naming}
use Rattle.typed_findings.specs.Noted.{Notes}
use Rattle.typed_findings.specs.declared.findings.Log.{Log}
use Rattle.typed_phrases.specs.FrontViews.{front_view}
use Rattle.typed_phrases.specs.Fronts.{a_name, front_list}
use Rattle.typed_phrases.specs.Readings.{ListReads}
use Rattle.typing_rules.specs.MeaningView.{meaning, part, reading, wanted}
use Rattle.typing_rules.specs.View as view
use Rattle.typing_rules.specs.declared.types.PhraseType.{PhraseType}
use Rattle.typing_rules.specs.declared.verdicts.NoType.{NoType}
use Rattle.phrase_checker.proofs.checker.Checker.+phrases.Goals as goal

pub cases-case-requires : goal.cases-case-requires
cases-case-requires t c =
    let h = item_smaller (λ xs. size_phrases (phrases_of (map part_tree xs))) (λ x. size (part_tree x)) (λ x xs. refl) c.args.parts.now c.loop-part.part-index c.part-item.result c.loop-part-test.true c.part-item.is in
    search rules

pub links-phrase-requires : goal.links-phrase-requires
links-phrase-requires t c =
    let h = item_smaller (λ xs. size_links (links_of (map link_tree xs))) (λ x. size (tree_of x.right)) (λ x xs. refl) c.args.links.now c.loop-link.link-index c.link-item.result c.loop-link-test.true c.link-item.is in
    search rules

pub phrases-phrase-requires : goal.phrases-phrase-requires
phrases-phrase-requires t c =
    let h = item_smaller (λ xs. size_phrases (phrases_of (map tree_of xs))) (λ x. size (tree_of x)) (λ x xs. refl) c.args.phrases.now c.loop-phrase.phrase-index c.phrase-item.result c.loop-phrase-test.true c.phrase-item.is in
    search rules

pub named-list-requires : goal.named-list-requires
named-list-requires t c =
    let h = item_smaller (λ xs. size_lists (lists_of (map list_tree xs))) (λ x. size_listing (list_tree x)) (λ x xs. refl) c.args.lists.now c.loop-list.list-index c.list-item.result c.loop-list-test.true c.list-item.is in
    search rules

pub parts-actual-requires : goal.parts-actual-requires
parts-actual-requires t c =
    let h = item_smaller (λ xs. size_actuals (actuals_of (map actual_tree xs))) (λ x. size_actual (actual_tree x)) (λ x xs. refl) c.args.actuals.now c.loop-actual.actual-index c.actual-item.result c.loop-actual-test.true c.actual-item.is in
    search rules

pub meanings-decl_bounds-requires : goal.meanings-decl_bounds-requires
meanings-decl_bounds-requires t c =
    let h = item_smaller (λ xs. size_decls (decls_of (map decl_tree xs))) (λ x. size_decl (decl_tree x)) (λ x xs. refl) c.args.decls.now c.loop-decl.decl-index c.decl-item.result c.loop-decl-test.true c.decl-item.is in
    search rules

pub decls-decl-requires : goal.decls-decl-requires
decls-decl-requires t c =
    let h = item_smaller (λ xs. size_decls (decls_of (map decl_tree xs))) (λ x. size_decl (decl_tree x)) (λ x xs. refl) c.args.decls.now c.loop-position.position c.index-decls-position.result c.loop-position-test.true c.index-decls-position.is in
    search rules

pub bounds-bound-requires : goal.bounds-bound-requires
bounds-bound-requires t c =
    let h = item_smaller (λ xs. size_bounds (bounds_of (map bound_tree xs))) (λ x. suc (size (tree_of x.lower) + size (tree_of x.upper))) (λ x xs. refl) c.args.bounds.now c.loop-bound.bound-index c.bound-item.result c.loop-bound-test.true c.bound-item.is in
    search rules

pub items-item-requires : goal.items-item-requires
items-item-requires t c =
    let h = item_smaller (λ xs. size_items (items_of (map item_tree xs))) (λ x. size (phrase_in (item_tree x))) (λ x xs. size_item (item_tree x) (items_of (map item_tree xs))) c.args.items.now c.loop-position.position c.index-items-position.result c.loop-position-test.true c.index-items-position.is in
    search rules

pub range-returns-clause-found : goal.range-returns-clause-found
range-returns-clause-found t c = record {
  behind_start = c.phrase.new.self.log;
  behind_step = c.step.new.self.log;
  start = c.in_ok-start.ensures.found;
  step = c.in_ok-step.ensures.found;
  limit = c.in_ok-limit.ensures.found;
}

pub list-parts-requires : goal.list-parts-requires
list-parts-requires t c = search (rules, ap size_listing (actuals_at c.args.list.now.place _ c.in-Actuals.actuals _ c.in-Actuals.is c.deref.ensures.value))

pub block-decls-requires : goal.block-decls-requires
block-decls-requires t c = (omega arith, as_many _ _ _ c.in_ok-bounds.ensures.bounds)

pub decl_bounds-bounds-requires : goal.decl_bounds-bounds-requires
decl_bounds-bounds-requires t c = search (rules, ap size_decl (array_at c.args.decl.now _ _ c.in-Array.bounds _ c.in-Array.is c.deref.ensures.value))

pub inside-chain-requires : goal.inside-chain-requires
inside-chain-requires t c = search (rules, ap size_kind (chain_in _ c.in-Chain.chain c.deref-in-Chain.result.now c.deref-in-Chain-2.result.now c.deref-in-Chain-3.result.now c.in-Chain.is c.deref-in-Chain.ensures c.deref-in-Chain-2.ensures c.deref-in-Chain-3.ensures.value))

pub inside-returns-in-Chain-clause-found : goal.inside-returns-in-Chain-clause-found
inside-returns-in-Chain-clause-found t c = by_kind c.chain.result c.args.self.now.log c.chain.new.self.log c.args.path.now c.args.phrase.now.place c.args.phrase.now.first _ _ (chain_in _ c.in-Chain.chain c.deref-in-Chain.result.now c.deref-in-Chain-2.result.now c.deref-in-Chain-3.result.now c.in-Chain.is c.deref-in-Chain.ensures c.deref-in-Chain-2.ensures c.deref-in-Chain-3.ensures.value) (c.chain.ensures.found c.args.phrase.now.place)

pub inside-case_value-requires : goal.inside-case_value-requires
inside-case_value-requires t c = search (rules, ap size_kind (case_value_in _ c.in-CaseValue.case c.deref-in-CaseValue.result.now c.deref-in-CaseValue-2.result.now c.deref-in-CaseValue-3.result.now c.in-CaseValue.is c.deref-in-CaseValue.ensures c.deref-in-CaseValue-2.ensures c.deref-in-CaseValue-3.ensures.value))

pub inside-returns-in-CaseValue-clause-found : goal.inside-returns-in-CaseValue-clause-found
inside-returns-in-CaseValue-clause-found t c = by_kind c.case_value.result c.args.self.now.log c.case_value.new.self.log c.args.path.now c.args.phrase.now.place c.args.phrase.now.first _ _ (case_value_in _ c.in-CaseValue.case c.deref-in-CaseValue.result.now c.deref-in-CaseValue-2.result.now c.deref-in-CaseValue-3.result.now c.in-CaseValue.is c.deref-in-CaseValue.ensures c.deref-in-CaseValue-2.ensures c.deref-in-CaseValue-3.ensures.value) c.case_value.ensures.found

pub inside-case_do-requires : goal.inside-case_do-requires
inside-case_do-requires t c = search (rules, ap size_kind (case_do_in _ c.in-CaseDo.case c.deref-in-CaseDo.result.now c.deref-in-CaseDo-2.result.now c.deref-in-CaseDo-3.result.now c.in-CaseDo.is c.deref-in-CaseDo.ensures c.deref-in-CaseDo-2.ensures c.deref-in-CaseDo-3.ensures.value))

pub inside-returns-in-CaseDo-clause-found : goal.inside-returns-in-CaseDo-clause-found
inside-returns-in-CaseDo-clause-found t c = by_kind c.case_do.result c.args.self.now.log c.case_do.new.self.log c.args.path.now c.args.phrase.now.place c.args.phrase.now.first _ _ (case_do_in _ c.in-CaseDo.case c.deref-in-CaseDo.result.now c.deref-in-CaseDo-2.result.now c.deref-in-CaseDo-3.result.now c.in-CaseDo.is c.deref-in-CaseDo.ensures c.deref-in-CaseDo-2.ensures c.deref-in-CaseDo-3.ensures.value) c.case_do.ensures.found

pub inside-for_list-requires : goal.inside-for_list-requires
inside-for_list-requires t c = search (rules, ap size_kind (for_list_in _ c.in-ForList.turns c.deref-in-ForList.result.now c.deref-in-ForList-2.result.now c.deref-in-ForList-4.result.now c.deref-in-ForList-3.result.now c.in-ForList.is c.deref-in-ForList.ensures c.deref-in-ForList-2.ensures c.deref-in-ForList-4.ensures c.deref-in-ForList-3.ensures.value))

pub inside-returns-in-ForList-clause-found : goal.inside-returns-in-ForList-clause-found
inside-returns-in-ForList-clause-found t c = by_kind c.for_list.result c.args.self.now.log c.for_list.new.self.log c.args.path.now c.args.phrase.now.place c.args.phrase.now.first _ _ (for_list_in _ c.in-ForList.turns c.deref-in-ForList.result.now c.deref-in-ForList-2.result.now c.deref-in-ForList-4.result.now c.deref-in-ForList-3.result.now c.in-ForList.is c.deref-in-ForList.ensures c.deref-in-ForList-2.ensures c.deref-in-ForList-4.ensures c.deref-in-ForList-3.ensures.value) c.for_list.ensures.found

pub inside-block-requires : goal.inside-block-requires
inside-block-requires t c = search (rules, ap size_kind (block_in _ c.in-Block.block c.deref-in-Block.result.now c.deref-in-Block-3.result.now c.deref-in-Block-2.result.now c.deref-in-Block-4.result.now c.in-Block.is c.deref-in-Block.ensures c.deref-in-Block-3.ensures c.deref-in-Block-2.ensures.value c.deref-in-Block-4.ensures.value))

pub inside-returns-in-Block-clause-found : goal.inside-returns-in-Block-clause-found
inside-returns-in-Block-clause-found t c = by_kind c.block.result c.args.self.now.log c.block.new.self.log c.args.path.now c.args.phrase.now.place c.args.phrase.now.first _ _ (block_in _ c.in-Block.block c.deref-in-Block.result.now c.deref-in-Block-3.result.now c.deref-in-Block-2.result.now c.deref-in-Block-4.result.now c.in-Block.is c.deref-in-Block.ensures c.deref-in-Block-3.ensures c.deref-in-Block-2.ensures.value c.deref-in-Block-4.ensures.value) (c.block.ensures.found c.args.phrase.now.place)

pub inside-conditional-requires : goal.inside-conditional-requires
inside-conditional-requires t c = search (rules, ap size_kind (conditional_in _ c.in-IfThen.choice c.deref-in-IfThen.result.now c.deref-in-IfThen-2.result.now c.deref-in-IfThen-3.result.now c.in-IfThen.is c.deref-in-IfThen.ensures c.deref-in-IfThen-2.ensures c.deref-in-IfThen-3.ensures))

pub inside-returns-in-IfThen-clause-found : goal.inside-returns-in-IfThen-clause-found
inside-returns-in-IfThen-clause-found t c = by_kind c.conditional.result c.args.self.now.log c.conditional.new.self.log c.args.path.now c.args.phrase.now.place c.args.phrase.now.first _ _ (conditional_in _ c.in-IfThen.choice c.deref-in-IfThen.result.now c.deref-in-IfThen-2.result.now c.deref-in-IfThen-3.result.now c.in-IfThen.is c.deref-in-IfThen.ensures c.deref-in-IfThen-2.ensures c.deref-in-IfThen-3.ensures) c.conditional.ensures.found

pub inside-is_class-requires : goal.inside-is_class-requires
inside-is_class-requires t c = search (rules, ap size_kind (class_test_in _ c.in-IsClass.test c.deref-in-IsClass.result.now c.deref-in-IsClass-2.result.now c.in-IsClass.is c.deref-in-IsClass.ensures c.deref-in-IsClass-2.ensures))

pub inside-returns-in-IsClass-clause-found : goal.inside-returns-in-IsClass-clause-found
inside-returns-in-IsClass-clause-found t c = by_kind c.is_class.result c.args.self.now.log c.is_class.new.self.log c.args.path.now c.args.phrase.now.place c.args.phrase.now.first _ _ (class_test_in _ c.in-IsClass.test c.deref-in-IsClass.result.now c.deref-in-IsClass-2.result.now c.in-IsClass.is c.deref-in-IsClass.ensures c.deref-in-IsClass-2.ensures) c.is_class.ensures.found

pub inside-for_range-requires : goal.inside-for_range-requires
inside-for_range-requires t c = search (rules, ap size_kind (for_step_in _ c.in-ForStep.turns c.deref-in-ForStep.result.now c.deref-in-ForStep-2.result.now c.deref-in-ForStep-3.result.now c.deref-in-ForStep-4.result.now c.deref-in-ForStep-5.result.now c.in-ForStep.is c.deref-in-ForStep.ensures c.deref-in-ForStep-2.ensures c.deref-in-ForStep-3.ensures c.deref-in-ForStep-4.ensures c.deref-in-ForStep-5.ensures))

pub inside-returns-in-ForStep-clause-found : goal.inside-returns-in-ForStep-clause-found
inside-returns-in-ForStep-clause-found t c = by_kind c.for_range.result c.args.self.now.log c.for_range.new.self.log c.args.path.now c.args.phrase.now.place c.args.phrase.now.first _ _ (for_step_in _ c.in-ForStep.turns c.deref-in-ForStep.result.now c.deref-in-ForStep-2.result.now c.deref-in-ForStep-3.result.now c.deref-in-ForStep-4.result.now c.deref-in-ForStep-5.result.now c.in-ForStep.is c.deref-in-ForStep.ensures c.deref-in-ForStep-2.ensures c.deref-in-ForStep-3.ensures c.deref-in-ForStep-4.ensures c.deref-in-ForStep-5.ensures) c.for_range.ensures.found

pub inside-named-requires : goal.inside-named-requires
inside-named-requires t c = search (rules, ap size_kind (listed_in _ c.in-Listed.listed c.deref-in-Listed.result.now c.deref-in-Listed-2.result.now c.deref-in-Listed-3.result.now c.in-Listed.is c.deref-in-Listed.ensures c.deref-in-Listed-2.ensures c.deref-in-Listed-3.ensures.value))

pub inside-returns-in-Listed-clause-found : goal.inside-returns-in-Listed-clause-found
inside-returns-in-Listed-clause-found t c = by_kind c.named.result c.args.self.now.log c.named.new.self.log c.args.path.now c.args.phrase.now.place c.args.phrase.now.first _ _ (listed_in _ c.in-Listed.listed c.deref-in-Listed.result.now c.deref-in-Listed-2.result.now c.deref-in-Listed-3.result.now c.in-Listed.is c.deref-in-Listed.ensures c.deref-in-Listed-2.ensures c.deref-in-Listed-3.ensures.value) c.named.ensures.found

pub inside-relation-requires : goal.inside-relation-requires
inside-relation-requires t c = search (rules, ap size_kind (relation_at _ c.in-Relation.relation c.deref-in-Relation.result.now c.in-Relation.is c.deref-in-Relation.ensures))

pub inside-returns-in-Relation-clause-found : goal.inside-returns-in-Relation-clause-found
inside-returns-in-Relation-clause-found t c = by_kind c.relation.result c.args.self.now.log c.relation.new.self.log c.args.path.now c.args.phrase.now.place c.args.phrase.now.first _ _ (relation_at _ c.in-Relation.relation c.deref-in-Relation.result.now c.in-Relation.is c.deref-in-Relation.ensures) c.relation.ensures.found

pub inside-assign-requires : goal.inside-assign-requires
inside-assign-requires t c = search (rules, ap size_kind (assignment_at _ c.in-Assign.assignment c.deref-in-Assign.result.now c.in-Assign.is c.deref-in-Assign.ensures))

pub inside-returns-in-Assign-clause-found : goal.inside-returns-in-Assign-clause-found
inside-returns-in-Assign-clause-found t c = by_kind c.assign.result c.args.self.now.log c.assign.new.self.log c.args.path.now c.args.phrase.now.place c.args.phrase.now.first _ _ (assignment_at _ c.in-Assign.assignment c.deref-in-Assign.result.now c.in-Assign.is c.deref-in-Assign.ensures) c.assign.ensures.found

pub inside-while_do-requires : goal.inside-while_do-requires
inside-while_do-requires t c = search (rules, ap size_kind (repetition_at _ c.in-WhileDo.repetition c.deref-in-WhileDo.result.now c.in-WhileDo.is c.deref-in-WhileDo.ensures))

pub inside-returns-in-WhileDo-clause-found : goal.inside-returns-in-WhileDo-clause-found
inside-returns-in-WhileDo-clause-found t c = by_kind c.while_do.result c.args.self.now.log c.while_do.new.self.log c.args.path.now c.args.phrase.now.place c.args.phrase.now.first _ _ (repetition_at _ c.in-WhileDo.repetition c.deref-in-WhileDo.result.now c.in-WhileDo.is c.deref-in-WhileDo.ensures) c.while_do.ensures.found

pub inside-applied-requires : goal.inside-applied-requires
inside-applied-requires t c = search (rules, ap size_kind (applied_at _ c.in-Applied.applied c.deref-in-Applied.result.now c.in-Applied.is c.deref-in-Applied.ensures))

pub inside-returns-in-Applied-clause-found : goal.inside-returns-in-Applied-clause-found
inside-returns-in-Applied-clause-found t c = by_kind c.applied.result c.args.self.now.log c.applied.new.self.log c.args.path.now c.args.phrase.now.place c.args.phrase.now.first _ _ (applied_at _ c.in-Applied.applied c.deref-in-Applied.result.now c.in-Applied.is c.deref-in-Applied.ensures) c.applied.ensures.found

pub pair-returns-clause-found : goal.pair-returns-clause-found
pair-returns-clause-found t c = record { between = c.phrase.new.self.log; first = c.in_ok-first.ensures.found; second = c.in_ok-second.ensures.found }

pub phrase-returns-clause-found : goal.phrase-returns-clause-found
phrase-returns-clause-found t c = noted c.args.path.now c.args.self.now.log c.inside.new.self.log c.conclude.new.self.log _ (tree_of c.args.phrase.now) c.in_ok-verdict.ensures.found c.in_ok-conclude.ensures.found

pub prefixed-returns-clause-found : goal.prefixed-returns-clause-found
prefixed-returns-clause-found t c first = prefixed_checked c.args.path.now c.args.place first c.args.prefix (tree_of c.args.operand.now) c.args.self.now.log c.phrase.new.self.log _ _ c.in_ok-operand.ensures.found c.prefixed_verdict.ensures

pub cases-loop-part-preserved : goal.cases-loop-part-preserved
cases-loop-part-preserved t c = (
  cases_step c.args.path.now _ _ c.args.parts.now c.loop-part.part-index c.part-item.result c.loop-part.self.log c.case.new.self.log _ _ _ c.loop-part-test.true c.part-item.is c.in_ok-statement.ensures.found c.both_give-gives.ensures c.loop-part.invariant.0,
  turn (λ xs. phrases_naming (frame_view c.args.frame) (names_along c.args.path.now) (phrases_of (map part_tree xs))) (λ x. naming (frame_view c.args.frame) (names_along c.args.path.now) (part_tree x)) (λ x xs. refl) c.args.parts.now c.loop-part.part-index c.part-item.result c.args.self.now.log c.loop-part.self.log c.case.new.self.log c.loop-part-test.true c.part-item.is c.loop-part.invariant.1 c.in_ok-statement.ensures.notes,
)

pub cases-returns-clause-found : goal.cases-returns-clause-found
cases-returns-clause-found t c = cases_end c.args.path.now c.args.parts.now c.loop-part.part-index c.args.self.now.log c.loop-part.self.log _ c.loop-part-test.false c.loop-part.invariant.0

pub links-loop-link-preserved : goal.links-loop-link-preserved
links-loop-link-preserved t c = (
  links_step c.args.path.now _ _ c.args.links.now c.loop-link.link-index c.link-item.result c.loop-link.self.log c.phrase.new.self.log _ _ _ c.loop-link-test.true c.link-item.is c.in_ok-right.ensures.found c.linked-front.ensures c.loop-link.invariant.0,
  turn (λ xs. links_naming (frame_view c.args.frame) (names_along c.args.path.now) (links_of (map link_tree xs))) (λ (x : Link). naming (frame_view c.args.frame) (names_along c.args.path.now) (tree_of x.right)) (λ x xs. refl) c.args.links.now c.loop-link.link-index c.link-item.result c.args.self.now.log c.loop-link.self.log c.phrase.new.self.log c.loop-link-test.true c.link-item.is c.loop-link.invariant.1 c.in_ok-right.ensures.notes,
)

pub links-returns-clause-found : goal.links-returns-clause-found
links-returns-clause-found t c = links_end c.args.path.now c.args.links.now c.loop-link.link-index c.args.self.now.log c.loop-link.self.log _ _ c.loop-link-test.false c.loop-link.invariant.0

pub phrases-loop-phrase-preserved : goal.phrases-loop-phrase-preserved
phrases-loop-phrase-preserved t c = (
  phrases_step c.args.path.now _ _ c.args.phrases.now c.loop-phrase.phrase-index c.phrase-item.result c.loop-phrase.self.log c.phrase.new.self.log _ _ _ c.loop-phrase-test.true c.phrase-item.is c.in_ok-verdict.ensures.found c.in_ok-add.ensures c.loop-phrase.invariant.0,
  turn (λ xs. phrases_naming (frame_view c.args.frame) (names_along c.args.path.now) (phrases_of (map tree_of xs))) (λ x. naming (frame_view c.args.frame) (names_along c.args.path.now) (tree_of x)) (λ x xs. refl) c.args.phrases.now c.loop-phrase.phrase-index c.phrase-item.result c.args.self.now.log c.loop-phrase.self.log c.phrase.new.self.log c.loop-phrase-test.true c.phrase-item.is c.loop-phrase.invariant.1 c.in_ok-verdict.ensures.notes,
)

pub phrases-returns-clause-found : goal.phrases-returns-clause-found
phrases-returns-clause-found t c = phrases_end c.args.path.now c.args.phrases.now c.loop-phrase.phrase-index c.args.self.now.log c.loop-phrase.self.log _ c.loop-phrase-test.false c.loop-phrase.invariant.0

pub parts-loop-actual-preserved : goal.parts-loop-actual-preserved
parts-loop-actual-preserved t c = (
  lists.parts_step c.args.path.now _ _ c.args.actuals.now c.loop-actual.actual-index c.actual-item.result (reading c.loop-actual.reading) (reading c.behind-reading.result) (wanted c.wanted.result) c.loop-actual.self.log c.actual.new.self.log _ _ _
      c.loop-actual-test.true c.actual-item.is c.wanted.ensures c.behind-reading.ensures c.in_ok-part.ensures.found (ap (map part) c.in_ok-push.ensures.items ∙ map-append part c.loop-actual.found.items _) c.loop-actual.invariant.0,
  turn (λ xs. actuals_naming (frame_view c.args.frame) (names_along c.args.path.now) (actuals_of (map actual_tree xs))) (λ x. actual_naming (frame_view c.args.frame) (names_along c.args.path.now) (actual_tree x)) (λ x xs. actual_first (frame_view c.args.frame) (names_along c.args.path.now) (actual_tree x) (actuals_of (map actual_tree xs))) c.args.actuals.now c.loop-actual.actual-index c.actual-item.result c.args.self.now.log c.loop-actual.self.log c.actual.new.self.log c.loop-actual-test.true c.actual-item.is c.loop-actual.invariant.1 c.in_ok-part.ensures.notes,
)

pub parts-returns-clause-found : goal.parts-returns-clause-found
parts-returns-clause-found t c = lists.parts_end c.args.path.now c.args.actuals.now c.loop-actual.actual-index c.args.self.now.log c.loop-actual.self.log _ _ _ c.loop-actual-test.false c.loop-actual.invariant.0

pub meanings-loop-decl-preserved : goal.meanings-loop-decl-preserved
meanings-loop-decl-preserved t c = (
  c.in_ok-bounds.ensures.log ∙ c.loop-decl.invariant.0,
  meanings_step c.args.path.now c.args.names.now _ c.args.decls.now c.loop-decl.decl-index c.decl-item.result c.loop-decl.scope c.declare.new.scope c.loop-decl-test.true c.decl-item.is (c.in_ok-declare.ensures c.args.path.now c.in_ok-bounds.ensures.bounds) c.loop-decl.invariant.1,
  kept_step c.args.path.now _ c.args.decls.now c.loop-decl.decl-index c.decl-item.result c.loop-decl.found.items c.push.new.self.items c.in_ok-bounds.bounds c.loop-decl-test.true c.decl-item.is c.in_ok-push.ensures.items c.in_ok-bounds.ensures.bounds c.loop-decl.invariant.2,
  kept_notes (frame_view c.args.frame) (names_along c.args.path.now) _ c.args.decls.now c.loop-decl.decl-index c.decl-item.result c.loop-decl.found.items c.push.new.self.items c.in_ok-bounds.bounds c.loop-decl-test.true c.decl-item.is c.in_ok-push.ensures.items c.in_ok-bounds.ensures.notes c.loop-decl.invariant.3,
)

pub bounds-loop-bound-preserved : goal.bounds-loop-bound-preserved
bounds-loop-bound-preserved t c = (
  bounds_step c.args.path.now (typed_bounds c.args.path.now (bounds_of (map bound_tree c.args.bounds.now))) c.args.self.now.log c.args.bounds.now c.loop-bound.bound-index c.bound-item.result c.loop-bound.self.log c.bound.new.self.log c.loop-bound-test.true c.bound-item.is c.in_ok-bound.ensures.found c.loop-bound.invariant.0,
  turn (λ xs. bounds_naming (frame_view c.args.frame) (names_along c.args.path.now) (bounds_of (map bound_tree xs))) (λ (x : Bound). and (naming (frame_view c.args.frame) (names_along c.args.path.now) (tree_of x.lower)) (naming (frame_view c.args.frame) (names_along c.args.path.now) (tree_of x.upper))) (λ (x : Bound) xs. sym (and_assoc (naming (frame_view c.args.frame) (names_along c.args.path.now) (tree_of x.lower)) (naming (frame_view c.args.frame) (names_along c.args.path.now) (tree_of x.upper)) (bounds_naming (frame_view c.args.frame) (names_along c.args.path.now) (bounds_of (map bound_tree xs))))) c.args.bounds.now c.loop-bound.bound-index c.bound-item.result c.args.self.now.log c.loop-bound.self.log c.bound.new.self.log c.loop-bound-test.true c.bound-item.is c.loop-bound.invariant.1 c.in_ok-bound.ensures.notes,
)

pub bounds-returns-clause-found : goal.bounds-returns-clause-found
bounds-returns-clause-found t c = bounds_end c.args.path.now c.args.bounds.now c.loop-bound.bound-index c.args.self.now.log c.loop-bound.self.log c.loop-bound-test.false c.loop-bound.invariant.0

pub decls-loop-position-preserved : goal.decls-loop-position-preserved
decls-loop-position-preserved t c = (
  (λ around found.
      let own = own_bounds around c.args.bounds.now c.args.decls.now c.loop-position.position c.index-bounds-position.result c.index-decls-position.result c.loop-position-test.true found c.index-bounds-position.is c.index-decls-position.is in
      decls_step around c.args.path.now (typed_decls around c.args.path.now (decls_of (map decl_tree c.args.decls.now))) c.args.self.now.log c.args.decls.now c.loop-position.position c.index-decls-position.result c.loop-position.self.log c.decl.new.self.log c.loop-position-test.true c.index-decls-position.is (c.in_ok-decl.ensures.found around own) (c.loop-position.invariant.0 around found)),
  (λ around noted.
      let own = own_notes (frame_view c.args.frame) around c.args.bounds.now c.args.decls.now c.loop-position.position c.index-bounds-position.result c.index-decls-position.result c.loop-position-test.true noted c.index-bounds-position.is c.index-decls-position.is in
      turn (λ xs. decls_naming (frame_view c.args.frame) around (names_along c.args.path.now) (decls_of (map decl_tree xs))) (λ x. decl_naming (frame_view c.args.frame) around (names_along c.args.path.now) (decl_tree x)) (λ x xs. refl) c.args.decls.now c.loop-position.position c.index-decls-position.result c.args.self.now.log c.loop-position.self.log c.decl.new.self.log c.loop-position-test.true c.index-decls-position.is (c.loop-position.invariant.1 around noted) (c.in_ok-decl.ensures.notes around own)),
)

pub decls-returns-clause-found : goal.decls-returns-clause-found
decls-returns-clause-found t c around found = decls_end around c.args.path.now c.args.decls.now c.loop-position.position c.args.self.now.log c.loop-position.self.log c.loop-position-test.false (c.loop-position.invariant.0 around found)

pub items-loop-position-preserved : goal.items-loop-position-preserved
items-loop-position-preserved t c = (
  items_step c.args.path.now _ _ c.args.items.now c.loop-position.position c.index-items-position.result _ c.loop-position.self.log c.item.new.self.log _ _ _ c.loop-position-test.true c.index-items-position.is
      (last_item c.args.items.now c.loop-position.position _ c.loop-position-test.true refl) c.in_ok-item.ensures.found c.then_item-verdict.ensures c.loop-position.invariant.0,
  turn (λ xs. items_naming (frame_view c.args.frame) (names_along c.args.path.now) (items_of (map item_tree xs))) (λ x. item_naming (frame_view c.args.frame) (names_along c.args.path.now) (item_tree x)) (λ x xs. item_first (frame_view c.args.frame) (names_along c.args.path.now) (item_tree x) (items_of (map item_tree xs))) c.args.items.now c.loop-position.position c.index-items-position.result c.args.self.now.log c.loop-position.self.log c.item.new.self.log c.loop-position-test.true c.index-items-position.is c.loop-position.invariant.1 c.in_ok-item.ensures.notes,
)

pub items-returns-clause-found : goal.items-returns-clause-found
items-returns-clause-found t c = items_end c.args.path.now c.args.items.now c.loop-position.position c.args.self.now.log c.loop-position.self.log _ c.loop-position-test.false c.loop-position.invariant.0

pub named-loop-list-preserved : goal.named-loop-list-preserved
named-loop-list-preserved t c = (
  lists.lists_step c.args.path.now _ _ c.args.lists.now c.loop-list.list-index c.list-item.result c.loop-list.self.log c.list.new.self.log (front_view c.args.name.now c.loop-list.front) _ c.loop-list-test.true c.list-item.is (c.in_ok-verdict.ensures.found c.args.name.now) c.loop-list.invariant.0,
  turn (λ xs. lists_naming (frame_view c.args.frame) (names_along c.args.path.now) (lists_of (map list_tree xs))) (λ x. listing_naming (frame_view c.args.frame) (names_along c.args.path.now) (list_tree x)) (λ x xs. listing_first (frame_view c.args.frame) (names_along c.args.path.now) (list_tree x) (lists_of (map list_tree xs))) c.args.lists.now c.loop-list.list-index c.list-item.result c.target.new.self.log c.loop-list.self.log c.list.new.self.log c.loop-list-test.true c.list-item.is c.loop-list.invariant.1 c.in_ok-verdict.ensures.notes,
)

pub named-returns-clause-found : goal.named-returns-clause-found
named-returns-clause-found t c first =
    IfOk-weaker c.alone.result _ _
    (λ u h. named_checked c.args.path.now c.args.place first c.args.name.now (lists_of (map list_tree c.args.lists.now)) c.args.self.now.log c.target.new.self.log c.loop-list.self.log (a_name c.args.place (option_map (entry_of c.args.name.now) c.in_ok-target.target)) _ _ (ap (a_name c.args.place) c.in_ok-target.ensures.target) c.in_ok-target.ensures.added
    (lists.lists_end c.args.path.now c.args.lists.now c.loop-list.list-index c.target.new.self.log c.loop-list.self.log (a_name c.args.place (option_map (entry_of c.args.name.now) c.in_ok-target.target)) (front_view c.args.name.now c.loop-list.front) c.loop-list-test.false c.loop-list.invariant.0) (h c.args.name.now))
    c.alone.ensures

pub list-returns-in_ok-parts-in-Actuals-clause-found : goal.list-returns-in_ok-parts-in-Actuals-clause-found
list-returns-in_ok-parts-in-Actuals-clause-found t c x =
    IfOk-weaker c.with_list.result _ _
    (λ u h. list_checked c.args.path.now (front_view x c.args.front) (list_tree c.args.list.now) c.args.list.now.place _ (reading c.reading.result) c.args.self.now.log c.parts.new.self.log (map part c.in_ok-parts-in-Actuals.parts.items) (view.verdict u)
    (actuals_at c.args.list.now.place _ c.in-Actuals.actuals _ c.in-Actuals.is c.deref.ensures.value) (c.reading.ensures x) c.in_ok-parts-in-Actuals.ensures.found
    (h x ∙ ap (λ ps. front_list c.args.list.now.place (front_view x c.args.front) (map part ps)) c.deref-in-Actuals.ensures.value))
    c.with_list.ensures

pub applied-returns-clause-found : goal.applied-returns-clause-found
applied-returns-clause-found t c first = (c.in_ok-verdict.ensures.found first _ c.short-application.ensures).checked

pub application-returns-clause-found : goal.application-returns-clause-found
application-returns-clause-found t c first k h =
    application_checked c.args.path.now c.args.place first k c.args.application (reading c.reading.result) c.args.self.now.log c.add.new.self c.parts.new.self.log (map part c.in_ok-parts.parts.items) (view.verdict c.in_ok-verdict.verdict) h (c.reading.ensures h.name)
    (name_added c.args.self.now.log c.add.new.self _ _ c.in_ok-add.ensures.faults c.in_ok-add.ensures.findings (c.place_of.ensures h.name)) c.in_ok-parts.ensures.found
    (c.in_ok-verdict.ensures h.name ∙ ap (λ ps. front_list c.args.application.place (a_name c.args.place (option_map (entry_of h.name) c.args.application.target)) (map part ps)) c.deref.ensures.value)

pub actual-returns-in_ok-conclude-in-Phrase-clause-found : goal.actual-returns-in_ok-conclude-in-Phrase-clause-found
actual-returns-in_ok-conclude-in-Phrase-clause-found t c =
    actual_checked c.args.path.now (wanted c.args.wanted) (actual_tree c.args.actual.now) (tree_of c.in-Phrase.phrase) c.args.self.now.log c.given.new.self.log c.conclude.new.self.log _ (ap actual_tree c.in-Phrase.is) c.in_ok-given-in-Phrase.ensures.found c.in_ok-conclude-in-Phrase.ensures.found

pub given-returns-clause-found : goal.given-returns-clause-found
given-returns-clause-found t c =
    let own = c.args.phrase.now in
    let applies = c.in-Some.ensures in
    let v = view.verdict c.in_ok-verdict-2.verdict in
    let means = option_map meaning c.meaning_of-means.result in
    IfOk-weaker c.list_given.result _ _
    (λ u h. application_read c.args.path.now own.place own.first (kind_tree own.kind) c.in-Some.application (wanted c.args.wanted) u v (map part c.in_ok-verdict-2.parts.items) means c.args.self.now.log c.application.new.self.log applies
    (c.in_ok-verdict-2.ensures.found own.first (kind_tree own.kind) applies) (c.meaning_of-means.ensures applies.name)
    (subst (λ ps. ListReads v (map part ps) u (rules_of.list_given own.place (wanted c.args.wanted) means)) c.deref.ensures.value h))
    c.list_given.ensures

pub block-returns-clause-found : goal.block-returns-clause-found
block-returns-clause-found t c place first =
    let path = c.args.path.now in
    let decls = decls_of (map decl_tree c.args.decls.now) in
    let items = items_of (map item_tree c.args.items.now) in
    let named : Log = record { faults = c.twice.new.faults; findings = c.args.self.now.log.findings; names = c.note_names.new.found; classes = c.args.self.now.log.classes } in
    IfOk-weaker c.items.result _ _
    (λ u h. block_found path place first c.args.self.now.log named c.meanings.new.self.log c.decls.new.self.log c.items.new.self.log c.in_ok-names.names c.meanings.new.scope c.declare_labels.new.scope decls items (view.verdict u)
    c.in_ok-names.ensures (faults_alone c.args.self.now.log named _ c.in_ok-twice.ensures refl) c.in_ok-bounds.ensures.log
    (c.in_ok-bounds.ensures.scope ∙ ap (λ (s : Scope Known). s ++ rules_of.meanings path c.inner.result decls) c.new-scope.ensures ∙ ap (λ (q : Scopes). rules_of.meanings path q decls) c.inner.ensures) c.in_ok-declare_labels.ensures
    (subst (λ (q : Scopes). DeclsChecked c.meanings.new.self.log c.decls.new.self.log (typed_decls path q decls)) c.inner-inner.ensures (c.in_ok-decls.ensures.found path c.in_ok-bounds.ensures.bounds))
    (subst (λ (q : Scopes). ItemsChecked c.decls.new.self.log c.items.new.self.log (view.verdict u) (typed_items q (Good Statement) items)) c.inner-inner.ensures h))
    c.items.ensures.found

pub decl_bounds-returns-clause-bounds : goal.decl_bounds-returns-clause-bounds
decl_bounds-returns-clause-bounds t c =
    both_ok c.kept.result _ _ _
    (λ b f g. bounds_apart c.args.path.now c.args.decl.now c.in-Array.field-0 c.in-Array.field-1 c.in-Array.bounds c.deref.result.now c.new.result c.replace-before.new.dest c.bounds.new.self.log c.replace-found.result b
    c.in-Array.is c.deref.ensures.value c.new.ensures.faults c.new.ensures.findings c.replace-before.ensures.after c.in_ok-bounds.ensures.found c.replace-found.ensures.value f g)
    c.kept.ensures.faults c.kept.ensures.findings

pub decl-returns-in-Array-clause-found : goal.decl-returns-in-Array-clause-found
decl-returns-in-Array-clause-found t c around found =
    let path = c.args.path.now in
    let count : c.len.result ≡ length c.in-Array.sizes.items = search rules in
    let bounds = typed_bounds around (bounds_of (map bound_tree c.in-Array.sizes.items)) in
    subst (λ (o : DeclOut). OnOk c.array.result (DeclFound c.args.self.now.log c.array.new.log o)) (array_found around path c.args.decl.now c.in-Array.spec c.in-Array.names c.in-Array.sizes c.len.result c.in-Array.is count)
    (c.array.ensures.found bounds (found ∙ array_bounds around c.args.decl.now c.in-Array.spec c.in-Array.names c.in-Array.sizes c.in-Array.is))

pub procedure-returns-clause-found : goal.procedure-returns-clause-found
procedure-returns-clause-found t c around =
    let path = c.args.path.now in
    let own = out-ProcDecl c.args.declared.now in
    let spec = option_map spec_tree own.result in
    let formals = c.deref.result.now in
    let body = tree_of c.deref-3.result.now in
    let same : tree.Proc own.place spec own.name (map formal_tree formals) body ≡ procedure_tree c.args.declared.now =
    ap (λ fs. tree.Proc own.place spec own.name (map formal_tree fs) body) c.deref.ensures.value ∙ ap (λ (b : Phrase). tree.Proc own.place spec own.name (map formal_tree own.formals.items) (tree_of b)) c.deref-3.ensures ∙ sym (procedure_is c.args.declared.now) in
    let headed = c.read_head.new.log in
    let named : Log = record { faults = c.twice.new.faults; findings = headed.findings; names = c.note_names.new.found; classes = headed.classes } in
    IfOk-weaker c.note.result _ _
    (λ _ h. subst (λ (z : tree.Decl). DeclFound c.args.self.now.log c.note.new.self.log (typed_decl around path z)) same
    (procedure_found around path own.place spec own.name (map formal_tree formals) body c.args.self.now.log headed named c.phrase.new.self.log c.note.new.self.log c.in_ok-formals.formals c.in_ok-head.head (view.verdict c.in_ok-body.body) (view.verdict c.procedure_verdict.result)
    c.in_ok-head.ensures.faults c.in_ok-head.ensures.findings c.in_ok-head.ensures.head (c.in_ok-formals.ensures ∙ ap (λ fs. formal_scope path (map formal_tree fs)) (c.deref-2.ensures.value ∙ sym c.deref.ensures.value))
    (faults_alone headed named _ c.in_ok-twice.ensures refl) (noted_along named c.phrase.new.self.log (view.verdict c.in_ok-body.body) body c.inner.result (c.in_ok-formals.formals ∷ path) c.inner.ensures c.in_ok-body.ensures.found) c.procedure_verdict.ensures h))
    c.note.ensures.found

pub relation-returns-clause-found : goal.relation-returns-clause-found
relation-returns-clause-found t c first = relation_checked c.args.path.now c.args.place first c.args.comparison.now.op (tree_of c.args.comparison.now.left) (tree_of c.args.comparison.now.right) c.args.self.now.log c.pair.new.self.log _ _ _ c.in_ok-left.ensures.found c.relation_verdict.ensures

pub while_do-returns-clause-found : goal.while_do-returns-clause-found
while_do-returns-clause-found t c first = while_checked c.args.path.now c.args.place first (tree_of c.args.repetition.now.condition) (tree_of c.args.repetition.now.body) c.args.self.now.log c.pair.new.self.log _ _ _ c.in_ok-condition.ensures.found c.while_verdict.ensures

pub chain-returns-clause-found : goal.chain-returns-clause-found
chain-returns-clause-found t c place token =
    let path = c.args.path.now in
    let links = links_of (map link_tree c.args.links.now) in
    let noted_as = c.noted.ensures ∙ ap (λ (v : Verdict). as_verdict (type_of v)) c.in_ok-first.ensures.found.verdict in
    chain_found c.links.result path place token (tree_of c.args.first.now) links c.args.self.now.log c.phrase.new.self.log c.links.new.self.log _ _ noted_as c.in_ok-first.ensures.found c.links.ensures.found

pub case_value-returns-clause-found : goal.case_value-returns-clause-found
case_value-returns-clause-found t c first =
    let a = typed_phrase c.args.path.now (tree_of c.args.subject.now) in
    let os = typed_phrases c.args.path.now (phrases_of (map tree_of c.args.values.now)) in
    let v = view.verdict c.in_ok-subject.subject in
    IfOk-weaker c.case_value_verdict.result (λ (r : Result PhraseType NoType). view.verdict r ≡ part_of (type_of v) (λ g. all_parts os.gives (case_value_row c.args.place g))) (λ (r : Result PhraseType NoType). Checked c.args.self.now.log c.phrases.new.self.log (view.verdict r) (case_value_out c.args.place first a os))
    (λ (r : Result PhraseType NoType) e. case_value_checked c.args.place first c.args.self.now.log c.phrase.new.self.log c.phrases.new.self.log v (view.verdict r) _ a os c.in_ok-subject.ensures.found c.in_ok-values.ensures.found e)
    (c.case_value_verdict.ensures os.gives c.in_ok-values.ensures.found.gives)

pub case_do-returns-clause-found : goal.case_do-returns-clause-found
case_do-returns-clause-found t c first =
    let a = typed_phrase c.args.path.now (tree_of c.args.subject.now) in
    let os = typed_phrases c.args.path.now (phrases_of (map part_tree c.args.parts.now)) in
    case_do_checked c.args.place first c.args.self.now.log c.phrase.new.self.log c.cases.new.self.log _ _ _ a os c.in_ok-subject.ensures.found c.in_ok-gives.ensures.found (c.case_do_verdict.ensures os.gives c.in_ok-gives.ensures.found.gives)

pub case-returns-in-Empty-clause-found : goal.case-returns-in-Empty-clause-found
case-returns-in-Empty-clause-found t c = empty_noted c.args.path.now c.args.self.now.log c.args.part.now _ c.in-Empty.is

pub is_class-returns-clause-found : goal.is_class-returns-clause-found
is_class-returns-clause-found t c first =
    let x = c.args.class.now in
    is_checked c.args.path.now c.args.place first (tree_of c.args.operand.now) x c.args.self.now.log c.phrase.new.self.log _ c.target.new.self.log _ _ c.in_ok-operand.ensures.found c.in_ok-class_fault.ensures refl c.in_ok-target.ensures.added _ c.in_ok-target.ensures.target (c.is_verdict.ensures x)

pub assign-returns-clause-found : goal.assign-returns-clause-found
assign-returns-clause-found t c first = let h = c.in_ok-found.ensures.found first in h.checked

pub assignment-returns-clause-found : goal.assignment-returns-clause-found
assignment-returns-clause-found t c first = assigned c.args.path.now c.args.place first _ (tree_of c.args.assignment.now.target) (tree_of c.args.assignment.now.value) c.args.self.now.log c.phrase.new.self.log c.value.new.self.log _ _ _ _ c.left_of-left.ensures c.in_ok-target.ensures.found c.in_ok-value.ensures.found c.assigned_verdict-verdict.ensures

pub controlled-returns-clause-found : goal.controlled-returns-clause-found
controlled-returns-clause-found t c =
    subst (λ (q : Scopes). IfOk c.phrase.result (λ v. Noted c.args.self.now.log c.phrase.new.self.log (view.verdict v) (typed_phrase q (tree_of c.args.body.now)))) c.control.ensures c.phrase.ensures.found

pub for_range-returns-clause-found : goal.for_range-returns-clause-found
for_range-returns-clause-found t c first = noted_before c.args.self.now.log c.controlled.new.self.log c.note_control.new.found _ _ (range_checked c.args.path.now c.args.place first c.args.name.now (record c.args.self.now.log { names = c.note_control.new.found }) c.range.new.self.log c.controlled.new.self.log c.in_ok-range.range _ _ _ _ _ _ c.in_ok-range.ensures.found c.in_ok-body.ensures.found c.range_verdict.ensures)

pub for_list-returns-clause-found : goal.for_list-returns-clause-found
for_list-returns-clause-found t c first =
    let os = typed_phrases c.args.path.now (phrases_of (map tree_of c.args.values.now)) in
    let body = typed_phrase (control_scope c.args.place c.args.name.now ∷ c.args.path.now) (tree_of c.args.body.now) in
    noted_before c.args.self.now.log c.controlled.new.self.log c.note_control.new.found _ _ (for_list_checked c.args.place first (record c.args.self.now.log { names = c.note_control.new.found }) c.phrases.new.self.log c.controlled.new.self.log _ _ _ os body c.in_ok-values.ensures.found c.in_ok-body.ensures.found (c.for_list_verdict.ensures os.gives c.in_ok-values.ensures.found.gives))

pub bound-returns-clause-found : goal.bound-returns-clause-found
bound-returns-clause-found t c =
    let own = c.args.bound.now in
    IfOk-weaker c.note.result _ _
    (λ _ h. bound_checked c.args.path.now own.place (tree_of own.lower) (tree_of own.upper) c.args.self.now.log c.pair.new.self.log c.note.new.self.log _ _ (view.verdict c.bound_verdict.result) c.in_ok-lower.ensures.found c.bound_verdict.ensures h)
    c.note.ensures.found

pub inside-returns-in-Named-clause-found : goal.inside-returns-in-Named-clause-found
inside-returns-in-Named-clause-found t c = by_kind c.name_alone-in-Named.result c.args.self.now.log c.name_alone-in-Named.new.self.log c.args.path.now c.args.phrase.now.place c.args.phrase.now.first _ _ (ap kind_tree c.in-Named.is ∙ ap (λ (x : List ℕ). tree.Named x tree.no_lists) (sym c.spelling.ensures)) c.name_alone-in-Named.ensures.found

pub value-returns-in_default-clause-found : goal.value-returns-in_default-clause-found
value-returns-in_default-clause-found t c =
    let own = c.args.phrase.now in
    plain_value c.args.path.now own.place own.first (kind_tree own.kind) c.args.self.now.log c.phrase.new.self.log _ _ (no_assignment own.kind c.in_default.not-Assign) c.in_ok-verdict.ensures.found c.given-end.ensures

pub value-returns-clause-found : goal.value-returns-clause-found
value-returns-clause-found t c =
    let own = c.args.phrase.now in
    let to = c.deref.result.now in
    let is = assignment_at own.kind c.in-Assign.assignment to c.in-Assign.is c.deref.ensures in
    inner_value c.args.path.now own.place own.first (kind_tree own.kind) (tree_of to.target) (tree_of to.value) c.args.self.now.log c.assignment.new.self.log c.note.new.self.log c.add.new.self _ _ c.uncounted.result is (c.in_ok-found.ensures.found own.first) c.in_ok-note.ensures.found
    c.in_ok-add.ensures.faults c.in_ok-add.ensures.findings c.uncounted.ensures

-- ---- what is noted

pub inside-returns-in-Chain-clause-notes : goal.inside-returns-in-Chain-clause-notes
inside-returns-in-Chain-clause-notes t c = noted_kind c.chain.result c.args.self.now.log c.chain.new.self.log (frame_view c.args.frame) (names_along c.args.path.now) c.args.phrase.now.place _ _ (chain_in _ c.in-Chain.chain c.deref-in-Chain.result.now c.deref-in-Chain-2.result.now c.deref-in-Chain-3.result.now c.in-Chain.is c.deref-in-Chain.ensures c.deref-in-Chain-2.ensures c.deref-in-Chain-3.ensures.value) c.chain.ensures.notes

pub inside-returns-in-CaseValue-clause-notes : goal.inside-returns-in-CaseValue-clause-notes
inside-returns-in-CaseValue-clause-notes t c = noted_kind c.case_value.result c.args.self.now.log c.case_value.new.self.log (frame_view c.args.frame) (names_along c.args.path.now) c.args.phrase.now.place _ _ (case_value_in _ c.in-CaseValue.case c.deref-in-CaseValue.result.now c.deref-in-CaseValue-2.result.now c.deref-in-CaseValue-3.result.now c.in-CaseValue.is c.deref-in-CaseValue.ensures c.deref-in-CaseValue-2.ensures c.deref-in-CaseValue-3.ensures.value) c.case_value.ensures.notes

pub inside-returns-in-CaseDo-clause-notes : goal.inside-returns-in-CaseDo-clause-notes
inside-returns-in-CaseDo-clause-notes t c = noted_kind c.case_do.result c.args.self.now.log c.case_do.new.self.log (frame_view c.args.frame) (names_along c.args.path.now) c.args.phrase.now.place _ _ (case_do_in _ c.in-CaseDo.case c.deref-in-CaseDo.result.now c.deref-in-CaseDo-2.result.now c.deref-in-CaseDo-3.result.now c.in-CaseDo.is c.deref-in-CaseDo.ensures c.deref-in-CaseDo-2.ensures c.deref-in-CaseDo-3.ensures.value) c.case_do.ensures.notes

pub inside-returns-in-ForList-clause-notes : goal.inside-returns-in-ForList-clause-notes
inside-returns-in-ForList-clause-notes t c = noted_kind c.for_list.result c.args.self.now.log c.for_list.new.self.log (frame_view c.args.frame) (names_along c.args.path.now) c.args.phrase.now.place _ _ (for_list_in _ c.in-ForList.turns c.deref-in-ForList.result.now c.deref-in-ForList-2.result.now c.deref-in-ForList-4.result.now c.deref-in-ForList-3.result.now c.in-ForList.is c.deref-in-ForList.ensures c.deref-in-ForList-2.ensures c.deref-in-ForList-4.ensures c.deref-in-ForList-3.ensures.value) c.for_list.ensures.notes

pub inside-returns-in-Block-clause-notes : goal.inside-returns-in-Block-clause-notes
inside-returns-in-Block-clause-notes t c = noted_kind c.block.result c.args.self.now.log c.block.new.self.log (frame_view c.args.frame) (names_along c.args.path.now) c.args.phrase.now.place _ _ (block_in _ c.in-Block.block c.deref-in-Block.result.now c.deref-in-Block-3.result.now c.deref-in-Block-2.result.now c.deref-in-Block-4.result.now c.in-Block.is c.deref-in-Block.ensures c.deref-in-Block-3.ensures c.deref-in-Block-2.ensures.value c.deref-in-Block-4.ensures.value) c.block.ensures.notes

pub inside-returns-in-IfThen-clause-notes : goal.inside-returns-in-IfThen-clause-notes
inside-returns-in-IfThen-clause-notes t c = noted_kind c.conditional.result c.args.self.now.log c.conditional.new.self.log (frame_view c.args.frame) (names_along c.args.path.now) c.args.phrase.now.place _ _ (conditional_in _ c.in-IfThen.choice c.deref-in-IfThen.result.now c.deref-in-IfThen-2.result.now c.deref-in-IfThen-3.result.now c.in-IfThen.is c.deref-in-IfThen.ensures c.deref-in-IfThen-2.ensures c.deref-in-IfThen-3.ensures) c.conditional.ensures.notes

pub inside-returns-in-IsClass-clause-notes : goal.inside-returns-in-IsClass-clause-notes
inside-returns-in-IsClass-clause-notes t c = noted_kind c.is_class.result c.args.self.now.log c.is_class.new.self.log (frame_view c.args.frame) (names_along c.args.path.now) c.args.phrase.now.place _ _ (class_test_in _ c.in-IsClass.test c.deref-in-IsClass.result.now c.deref-in-IsClass-2.result.now c.in-IsClass.is c.deref-in-IsClass.ensures c.deref-in-IsClass-2.ensures) c.is_class.ensures.notes

pub inside-returns-in-ForStep-clause-notes : goal.inside-returns-in-ForStep-clause-notes
inside-returns-in-ForStep-clause-notes t c = noted_kind c.for_range.result c.args.self.now.log c.for_range.new.self.log (frame_view c.args.frame) (names_along c.args.path.now) c.args.phrase.now.place _ _ (for_step_in _ c.in-ForStep.turns c.deref-in-ForStep.result.now c.deref-in-ForStep-2.result.now c.deref-in-ForStep-3.result.now c.deref-in-ForStep-4.result.now c.deref-in-ForStep-5.result.now c.in-ForStep.is c.deref-in-ForStep.ensures c.deref-in-ForStep-2.ensures c.deref-in-ForStep-3.ensures c.deref-in-ForStep-4.ensures c.deref-in-ForStep-5.ensures) c.for_range.ensures.notes

pub inside-returns-in-Listed-clause-notes : goal.inside-returns-in-Listed-clause-notes
inside-returns-in-Listed-clause-notes t c = noted_kind c.named.result c.args.self.now.log c.named.new.self.log (frame_view c.args.frame) (names_along c.args.path.now) c.args.phrase.now.place _ _ (listed_in _ c.in-Listed.listed c.deref-in-Listed.result.now c.deref-in-Listed-2.result.now c.deref-in-Listed-3.result.now c.in-Listed.is c.deref-in-Listed.ensures c.deref-in-Listed-2.ensures c.deref-in-Listed-3.ensures.value) c.named.ensures.notes

pub inside-returns-in-Relation-clause-notes : goal.inside-returns-in-Relation-clause-notes
inside-returns-in-Relation-clause-notes t c = noted_kind c.relation.result c.args.self.now.log c.relation.new.self.log (frame_view c.args.frame) (names_along c.args.path.now) c.args.phrase.now.place _ _ (relation_at _ c.in-Relation.relation c.deref-in-Relation.result.now c.in-Relation.is c.deref-in-Relation.ensures) c.relation.ensures.notes

pub inside-returns-in-Assign-clause-notes : goal.inside-returns-in-Assign-clause-notes
inside-returns-in-Assign-clause-notes t c = noted_kind c.assign.result c.args.self.now.log c.assign.new.self.log (frame_view c.args.frame) (names_along c.args.path.now) c.args.phrase.now.place _ _ (assignment_at _ c.in-Assign.assignment c.deref-in-Assign.result.now c.in-Assign.is c.deref-in-Assign.ensures) c.assign.ensures.notes

pub inside-returns-in-WhileDo-clause-notes : goal.inside-returns-in-WhileDo-clause-notes
inside-returns-in-WhileDo-clause-notes t c = noted_kind c.while_do.result c.args.self.now.log c.while_do.new.self.log (frame_view c.args.frame) (names_along c.args.path.now) c.args.phrase.now.place _ _ (repetition_at _ c.in-WhileDo.repetition c.deref-in-WhileDo.result.now c.in-WhileDo.is c.deref-in-WhileDo.ensures) c.while_do.ensures.notes

pub inside-returns-in-Applied-clause-notes : goal.inside-returns-in-Applied-clause-notes
inside-returns-in-Applied-clause-notes t c = noted_kind c.applied.result c.args.self.now.log c.applied.new.self.log (frame_view c.args.frame) (names_along c.args.path.now) c.args.phrase.now.place _ _ (applied_at _ c.in-Applied.applied c.deref-in-Applied.result.now c.in-Applied.is c.deref-in-Applied.ensures) c.applied.ensures.notes

pub inside-returns-in-Named-clause-notes : goal.inside-returns-in-Named-clause-notes
inside-returns-in-Named-clause-notes t c = noted_kind c.name_alone-in-Named.result c.args.self.now.log c.name_alone-in-Named.new.self.log (frame_view c.args.frame) (names_along c.args.path.now) c.args.phrase.now.place _ _ (ap kind_tree c.in-Named.is ∙ ap (λ (x : List ℕ). tree.Named x tree.no_lists) (sym c.spelling.ensures)) c.name_alone-in-Named.ensures.notes

pub phrase-returns-clause-notes : goal.phrase-returns-clause-notes
phrase-returns-clause-notes t c = notes_still c.args.self.now.log c.inside.new.self.log c.conclude.new.self.log _ c.in_ok-verdict.ensures.notes c.in_ok-conclude.ensures.notes

pub pair-returns-clause-notes : goal.pair-returns-clause-notes
pair-returns-clause-notes t c = notes_and c.args.self.now.log c.phrase.new.self.log c.phrase-2.new.self.log _ _ c.in_ok-first.ensures.notes c.in_ok-second.ensures.notes

pub cases-returns-clause-notes : goal.cases-returns-clause-notes
cases-returns-clause-notes t c = finish (λ xs. phrases_naming (frame_view c.args.frame) (names_along c.args.path.now) (phrases_of (map part_tree xs))) refl c.args.parts.now c.loop-part.part-index c.args.self.now.log c.loop-part.self.log c.loop-part-test.false c.loop-part.invariant.1

pub links-returns-clause-notes : goal.links-returns-clause-notes
links-returns-clause-notes t c = finish (λ xs. links_naming (frame_view c.args.frame) (names_along c.args.path.now) (links_of (map link_tree xs))) refl c.args.links.now c.loop-link.link-index c.args.self.now.log c.loop-link.self.log c.loop-link-test.false c.loop-link.invariant.1

pub phrases-returns-clause-notes : goal.phrases-returns-clause-notes
phrases-returns-clause-notes t c = finish (λ xs. phrases_naming (frame_view c.args.frame) (names_along c.args.path.now) (phrases_of (map tree_of xs))) refl c.args.phrases.now c.loop-phrase.phrase-index c.args.self.now.log c.loop-phrase.self.log c.loop-phrase-test.false c.loop-phrase.invariant.1

pub parts-returns-clause-notes : goal.parts-returns-clause-notes
parts-returns-clause-notes t c = finish (λ xs. actuals_naming (frame_view c.args.frame) (names_along c.args.path.now) (actuals_of (map actual_tree xs))) refl c.args.actuals.now c.loop-actual.actual-index c.args.self.now.log c.loop-actual.self.log c.loop-actual-test.false c.loop-actual.invariant.1

pub bounds-returns-clause-notes : goal.bounds-returns-clause-notes
bounds-returns-clause-notes t c = finish (λ xs. bounds_naming (frame_view c.args.frame) (names_along c.args.path.now) (bounds_of (map bound_tree xs))) refl c.args.bounds.now c.loop-bound.bound-index c.args.self.now.log c.loop-bound.self.log c.loop-bound-test.false c.loop-bound.invariant.1

pub items-returns-clause-notes : goal.items-returns-clause-notes
items-returns-clause-notes t c = finish (λ xs. items_naming (frame_view c.args.frame) (names_along c.args.path.now) (items_of (map item_tree xs))) refl c.args.items.now c.loop-position.position c.args.self.now.log c.loop-position.self.log c.loop-position-test.false c.loop-position.invariant.1

pub decls-returns-clause-notes : goal.decls-returns-clause-notes
decls-returns-clause-notes t c around noted = finish (λ xs. decls_naming (frame_view c.args.frame) around (names_along c.args.path.now) (decls_of (map decl_tree xs))) refl c.args.decls.now c.loop-position.position c.args.self.now.log c.loop-position.self.log c.loop-position-test.false (c.loop-position.invariant.1 around noted)

pub named-returns-clause-notes : goal.named-returns-clause-notes
named-returns-clause-notes t c =
    ok_always c.alone.result _
    (notes_and c.args.self.now.log c.target.new.self.log c.loop-list.self.log nothing _ c.in_ok-target.ensures.notes
    (finish (λ xs. lists_naming (frame_view c.args.frame) (names_along c.args.path.now) (lists_of (map list_tree xs))) refl c.args.lists.now c.loop-list.list-index c.target.new.self.log c.loop-list.self.log c.loop-list-test.false c.loop-list.invariant.1))

pub list-returns-in_ok-parts-in-Actuals-clause-notes : goal.list-returns-in_ok-parts-in-Actuals-clause-notes
list-returns-in_ok-parts-in-Actuals-clause-notes t c =
    ok_always c.with_list.result (Notes c.args.self.now.log c.parts.new.self.log (listing_naming (frame_view c.args.frame) (names_along c.args.path.now) (list_tree c.args.list.now)))
    (subst (λ (l : tree.Listing). Notes c.args.self.now.log c.parts.new.self.log (listing_naming (frame_view c.args.frame) (names_along c.args.path.now) l)) (sym (actuals_at c.args.list.now.place _ c.in-Actuals.actuals _ c.in-Actuals.is c.deref.ensures.value)) c.in_ok-parts-in-Actuals.ensures.notes)

pub applied-returns-clause-notes : goal.applied-returns-clause-notes
applied-returns-clause-notes t c = c.in_ok-verdict.ensures.notes _ c.short-application.ensures

pub application-returns-clause-notes : goal.application-returns-clause-notes
application-returns-clause-notes t c k h =
    subst (λ (z : tree.Kind). Notes c.args.self.now.log c.parts.new.self.log (kind_naming (frame_view c.args.frame) (names_along c.args.path.now) c.args.place z)) (sym h.kind)
    (notes_and c.args.self.now.log c.parts.new.self.log c.parts.new.self.log _ nothing
    (notes_and c.args.self.now.log c.add.new.self c.parts.new.self.log nothing _ c.in_ok-add.ensures.notes c.in_ok-parts.ensures.notes) (notes_nothing c.parts.new.self.log))

pub actual-returns-in_ok-conclude-in-Phrase-clause-notes : goal.actual-returns-in_ok-conclude-in-Phrase-clause-notes
actual-returns-in_ok-conclude-in-Phrase-clause-notes t c =
    subst (λ (l : tree.Actual). Notes c.args.self.now.log c.conclude.new.self.log (actual_naming (frame_view c.args.frame) (names_along c.args.path.now) l)) (sym (ap actual_tree c.in-Phrase.is))
    (notes_still c.args.self.now.log c.given.new.self.log c.conclude.new.self.log _ c.in_ok-given-in-Phrase.ensures.notes c.in_ok-conclude-in-Phrase.ensures.notes)

pub given-returns-clause-notes : goal.given-returns-clause-notes
given-returns-clause-notes t c =
    ok_always c.list_given.result (Notes c.args.self.now.log c.application.new.self.log (kind_naming (frame_view c.args.frame) (names_along c.args.path.now) c.args.phrase.now.place (kind_tree c.args.phrase.now.kind)))
    (c.in_ok-verdict-2.ensures.notes (kind_tree c.args.phrase.now.kind) c.in-Some.ensures)

pub block-returns-clause-notes : goal.block-returns-clause-notes
block-returns-clause-notes t c =
    let path = c.args.path.now in
    let f = frame_view c.args.frame in
    let g = frame_view c.in_ok-within.within in
    let decls = decls_of (map decl_tree c.args.decls.now) in
    let items = items_of (map item_tree c.args.items.now) in
    let xs = block_names decls items in
    let declared = c.names-2.ensures ∙ ap placed_of c.in_ok-names.ensures ∙ named_block decls items in
    let inner = names_along c.inner-inner.result in
    let scope_is = c.in_ok-declare_labels.ensures ∙ ap (λ (s : Scope Known). s ++ label_entries items) (c.in_ok-bounds.ensures.scope ∙ ap (λ (s : Scope Known). s ++ rules_of.meanings path c.inner.result decls) c.new-scope.ensures) in
    let along : inner ≡ scope_of xs ∷ names_along path =
    ap names_along c.inner-inner.ensures ∙ ap (λ (ys : List Placed). scope_of ys ∷ names_along path) (ap placed_of scope_is ∙ known_block path c.inner.result decls items) in
    let before : Log = record { faults = c.twice.new.faults; findings = c.args.self.now.log.findings; names = c.note_names.new.found; classes = c.args.self.now.log.classes } in
    let scope = notes_scope c.args.self.now.log before f _ xs declared c.in_ok-within.ensures.noted refl in
    let same : c.meanings.new.self.log ≡ before = c.in_ok-bounds.ensures.log in
    let ds = subst (λ (b : Log). Notes b c.decls.new.self.log (decls_naming g (names_along path) inner decls)) same (c.in_ok-decls.ensures.notes (names_along path) c.in_ok-bounds.ensures.notes) in
    ok_weaker c.items.result _ _ (λ is. block_notes c.args.self.now.log before c.decls.new.self.log c.items.new.self.log f g (names_along path) inner xs decls items (c.in_ok-within.ensures.inner ∙ ap (inside f) declared) along scope ds is) c.items.ensures.notes

pub decl_bounds-returns-clause-notes : goal.decl_bounds-returns-clause-notes
decl_bounds-returns-clause-notes t c =
    both_ok_if c.kept.result _ _ _
    (λ b ns cs. bounds_noted (frame_view c.args.frame) (names_along c.args.path.now) c.args.decl.now c.in-Array.field-0 c.in-Array.field-1 c.in-Array.bounds c.deref.result.now c.replace-before.new.dest c.bounds.new.self.log c.replace-found.result b
    c.in-Array.is c.deref.ensures.value c.new.result c.new.ensures.names c.new.ensures.classes c.replace-before.ensures.after c.in_ok-bounds.ensures.notes c.replace-found.ensures.value ns cs)
    c.kept.ensures.names c.kept.ensures.classes

pub decl-returns-in-Array-clause-notes : goal.decl-returns-in-Array-clause-notes
decl-returns-in-Array-clause-notes t c around noted =
    subst (λ (n : Naming). OnOk c.array.result (Notes c.args.self.now.log c.array.new.log n)) (noted ∙ noted_array (frame_view c.args.frame) around (names_along c.args.path.now) c.args.decl.now c.in-Array.spec c.in-Array.names c.in-Array.sizes c.in-Array.is) c.array.ensures.notes

pub procedure-returns-clause-notes : goal.procedure-returns-clause-notes
procedure-returns-clause-notes t c around =
    let path = c.args.path.now in
    let f = frame_view c.args.frame in
    let g = frame_view c.in_ok-of_procedure.field-0 in
    let own = out-ProcDecl c.args.declared.now in
    let formals = map formal_tree own.formals.items in
    let xs = formal_names formals in
    let headed = c.read_head.new.log in
    let before : Log = record { faults = c.twice.new.faults; findings = headed.findings; names = c.note_names.new.found; classes = headed.classes } in
    let declared = c.names.ensures ∙ ap placed_of (c.in_ok-formals.ensures ∙ ap (λ fs. formal_scope path (map formal_tree fs)) c.deref-2.ensures.value) ∙ named_formals path formals in
    let scope = notes_and c.args.self.now.log headed before nothing (declares g xs) c.in_ok-head.ensures.notes (notes_scope headed before g _ xs declared c.in_ok-within.ensures.noted refl) in
    let along : names_along c.inner.result ≡ scope_of xs ∷ names_along path =
    ap names_along c.inner.ensures ∙ ap (λ (ys : List Placed). scope_of ys ∷ names_along path) (ap placed_of (c.in_ok-formals.ensures ∙ ap (λ fs. formal_scope path (map formal_tree fs)) c.deref-2.ensures.value) ∙ named_formals path formals) in
    let body = subst (λ (q : NamePath). Notes before c.phrase.new.self.log (naming (frame_view c.in_ok-within.within) q (tree_of own.body.value))) along
    (subst (λ (b : Phrase). Notes before c.phrase.new.self.log (naming (frame_view c.in_ok-within.within) (names_along c.inner.result) (tree_of b))) c.deref-3.ensures c.in_ok-body.ensures.notes) in
    ok_weaker c.note.result _ _
    (λ h. subst (λ (z : tree.Decl). Notes c.args.self.now.log c.note.new.self.log (decl_naming f around (names_along path) z)) (sym (procedure_is c.args.declared.now))
    (notes_still c.args.self.now.log c.phrase.new.self.log c.note.new.self.log _ (procedure_notes c.args.self.now.log before c.phrase.new.self.log f g (frame_view c.in_ok-within.within) (names_along path) formals (tree_of own.body.value) c.in_ok-of_procedure.ensures (c.in_ok-within.ensures.inner ∙ ap (inside g) declared) scope body) h))
    c.note.ensures.notes

pub chain-returns-clause-notes : goal.chain-returns-clause-notes
chain-returns-clause-notes t c = ok_weaker c.links.result _ _ (λ h. notes_and c.args.self.now.log c.phrase.new.self.log c.links.new.self.log _ _ c.in_ok-first.ensures.notes h) c.links.ensures.notes

pub case_value-returns-clause-notes : goal.case_value-returns-clause-notes
case_value-returns-clause-notes t c = ok_always c.case_value_verdict.result _ (notes_and c.args.self.now.log c.phrase.new.self.log c.phrases.new.self.log _ _ c.in_ok-subject.ensures.notes c.in_ok-values.ensures.notes)

pub case_do-returns-clause-notes : goal.case_do-returns-clause-notes
case_do-returns-clause-notes t c = notes_and c.args.self.now.log c.phrase.new.self.log c.cases.new.self.log _ _ c.in_ok-subject.ensures.notes c.in_ok-gives.ensures.notes

pub is_class-returns-clause-notes : goal.is_class-returns-clause-notes
is_class-returns-clause-notes t c = notes_still c.args.self.now.log c.phrase.new.self.log c.target.new.self.log _ c.in_ok-operand.ensures.notes (record { names = c.in_ok-target.ensures.notes.names; classes = c.in_ok-target.ensures.notes.classes })

pub assignment-returns-clause-notes : goal.assignment-returns-clause-notes
assignment-returns-clause-notes t c = notes_and c.args.self.now.log c.phrase.new.self.log c.value.new.self.log _ _ c.in_ok-target.ensures.notes c.in_ok-value.ensures.notes

pub controlled-returns-clause-notes : goal.controlled-returns-clause-notes
controlled-returns-clause-notes t c =
    let along : names_along c.control.result ≡ scope_of ((c.args.name.now, c.args.place) ∷ []) ∷ names_along c.args.path.now = ap names_along c.control.ensures in
    subst (λ (q : NamePath). OnOk c.phrase.result (Notes c.args.self.now.log c.phrase.new.self.log (naming (frame_view c.args.frame) q (tree_of c.args.body.now)))) along c.phrase.ensures.notes

pub for_range-returns-clause-notes : goal.for_range-returns-clause-notes
for_range-returns-clause-notes t c =
    let xs : List Placed = (c.args.name.now, c.args.place) ∷ [] in
    let before : Log = record c.args.self.now.log { names = c.note_control.new.found } in
    range_notes c.args.self.now.log before c.range.new.self.log c.controlled.new.self.log (frame_view c.args.frame) (frame_view c.in_ok-inner.inner) (names_along c.args.path.now) c.args.place c.args.name.now (tree_of c.args.start.now) (optional_tree c.args.step.now) (tree_of c.args.limit.now) (tree_of c.args.body.now)
    (notes_scope c.args.self.now.log before (frame_view c.args.frame) xs xs refl c.in_ok-inner.ensures.noted refl) c.in_ok-inner.ensures.inner c.in_ok-range.ensures.notes c.in_ok-body.ensures.notes

pub for_list-returns-clause-notes : goal.for_list-returns-clause-notes
for_list-returns-clause-notes t c =
    let xs : List Placed = (c.args.name.now, c.args.place) ∷ [] in
    let before : Log = record c.args.self.now.log { names = c.note_control.new.found } in
    values_notes c.args.self.now.log before c.phrases.new.self.log c.controlled.new.self.log (frame_view c.args.frame) (frame_view c.in_ok-inner.inner) (names_along c.args.path.now) c.args.place c.args.name.now (phrases_of (map tree_of c.args.values.now)) (tree_of c.args.body.now)
    (notes_scope c.args.self.now.log before (frame_view c.args.frame) xs xs refl c.in_ok-inner.ensures.noted refl) c.in_ok-inner.ensures.inner c.in_ok-values.ensures.notes c.in_ok-body.ensures.notes

pub range-returns-clause-notes : goal.range-returns-clause-notes
range-returns-clause-notes t c = notes_and c.args.self.now.log c.phrase.new.self.log c.phrase-2.new.self.log _ _ c.in_ok-start.ensures.notes (notes_and c.phrase.new.self.log c.step.new.self.log c.phrase-2.new.self.log _ _ c.in_ok-step.ensures.notes c.in_ok-limit.ensures.notes)

pub bound-returns-clause-notes : goal.bound-returns-clause-notes
bound-returns-clause-notes t c = ok_weaker c.note.result _ _ (λ h. notes_still c.args.self.now.log c.pair.new.self.log c.note.new.self.log _ c.in_ok-lower.ensures.notes h) c.note.ensures.notes

pub value-returns-clause-notes : goal.value-returns-clause-notes
value-returns-clause-notes t c =
    let own = c.args.phrase.now in
    let to = c.deref.result.now in
    let is = assignment_at own.kind c.in-Assign.assignment to c.in-Assign.is c.deref.ensures in
    subst (λ (z : tree.Kind). Notes c.args.self.now.log c.add.new.self (kind_naming (frame_view c.args.frame) (names_along c.args.path.now) own.place z)) (sym is)
    (notes_still c.args.self.now.log c.note.new.self.log c.add.new.self _ (notes_still c.args.self.now.log c.assignment.new.self.log c.note.new.self.log _ c.in_ok-found.ensures.notes c.in_ok-note.ensures.notes) c.in_ok-add.ensures.notes)

pub relation-returns-clause-notes : goal.relation-returns-clause-notes
relation-returns-clause-notes t c = c.in_ok-left.ensures.notes

pub while_do-returns-clause-notes : goal.while_do-returns-clause-notes
while_do-returns-clause-notes t c = c.in_ok-condition.ensures.notes

pub item_phrase-returns-clause-notes : goal.item_phrase-returns-clause-notes
item_phrase-returns-clause-notes t c = notes_still c.args.self.now.log c.phrase.new.self.log c.note.new.self.log _ c.in_ok-found.ensures.notes c.in_ok-note.ensures.notes
