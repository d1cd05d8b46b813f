use Rattle.std.proofs.Common.{◌≡◌, ◌+◌, length, true, Some, refl, sym, ap, ◌∙◌, subst, arith, ◌≤◌, [], ◌∷◌, max, false, inl, inr, rules, Option, List}
use Rattle.std.proofs.lemmas.Result.{IfOk-weaker}
use Rattle.algolw_tree.specs.declared.programs.Node.{Node}
use Rattle.algolw_tree.specs.declared.programs.TypedBound.{TypedBound}
use Rattle.algolw_tree.specs.declared.programs.TypedDecl.{TypedDecl}
use Rattle.algolw_typing.specs.ProgramView.{kind_view}
use Rattle.algolw_typing.specs.Typed as typed
use Rattle.code_emitter.proofs.Composing.{fits_there, stays_both, stays_itself, fits_after}
use Rattle.code_emitter.proofs.Joining.{codes_nothing, codes_most}
use Rattle.code_emitter.proofs.Lines.{before_codes}
use Rattle.code_emitter.proofs.Remaining.{remains_all}
use Rattle.code_emitter.specs.Appending.{appended, replaced, with_goto, with_name, with_quoted}
use Rattle.code_emitter.specs.Parts.{is_plain, next, phrase_in, scene, none_own}
use Rattle.code_emitter.specs.declared.emitter.Emitter.{Emitter}
use Rattle.stack_code.specs.CodeView.{InstrFits, KindsFit, formal_type_view}
use Rattle.stack_code.specs.declared.instructions.Constant.TheVariants as constant
use Rattle.stack_code.specs.declared.instructions.Instr.TheVariants as held
use Rattle.stack_code.specs.declared.instructions.Mode.TheVariants as mode
use Rattle.stack_codegen.proofs.ActualSizes.{kind_size, kind_smaller}
use Rattle.stack_codegen.proofs.ActualTexts.{closed_text, closing, inside_codable, inside_fits, inside_is, subarray_coded, subscripts_ready, value_done, given_branch}
use Rattle.stack_codegen.proofs.AppliedParts.{alone_fit, alone_told, applied_done, both_ensured, none_told, plan_fits, plan_plain, plan_told, planned_ready}
use Rattle.stack_codegen.proofs.AssignedBack.{back_fits, back_other, back_other_formal, back_result_done, back_statement, back_value_result_done}
use Rattle.stack_codegen.proofs.BlockBounds.{bounds_done, bounds_more, lower_ready, remains_most, upper_ready, left_bounds, marks_of_bounds}
use Rattle.stack_codegen.proofs.BlockDecls.{decl_declared_there, decl_ready_there, decl_reserved_there, decls_begin, decls_done, decls_step}
use Rattle.stack_codegen.proofs.BlockItems.{item_ready_there, items_step, items_begin, items_done, items_none, no_length, some_length, target_there}
use Rattle.stack_codegen.proofs.BlockMeasures.{body_less, bounds_less_at, decl_less, item_less, lower_less, procedure_less, upper_less}
use Rattle.stack_codegen.proofs.BlockScopes.{decls_reserved, scope_closed, scope_items_ready, scope_items_reserved}
use Rattle.stack_codegen.proofs.BlockSteps.{block_closed, block_declared, block_decls_ready, block_items_ready, block_reserved, names_numbered}
use Rattle.stack_codegen.proofs.CallLoops.{actual_smaller, backs_done, backs_end, backs_found, backs_inside, backs_more, backs_node, backs_past, backs_ready, backs_told, line_actual, line_done, line_end, line_found, line_more, line_node, line_past, line_ready, texts_done, texts_end, texts_more, texts_node, texts_past, texts_ready}
use Rattle.stack_codegen.proofs.CalledParts.{call_begins, call_goes_on, call_known, call_stands, call_told}
use Rattle.stack_codegen.proofs.CallsMade.{call_done, call_ready, call_through_done, compared_at, compared_count, compared_fits, compared_in, entered_heads, entered_ready, inside_e, pending_within, through_backs_heads, through_backs_ready, through_ready}
use Rattle.stack_codegen.proofs.CaseDone.{case_done, case_ready, case_type}
use Rattle.stack_codegen.proofs.CaseParts.{choices_ready, chosen_statement_coded, chosen_statement_less, chosen_statement_ready, chosen_value_coded, chosen_value_less, chosen_value_ready, ends_within, jump_more, jump_there_yet, parts_begun, parts_ended_there, parts_more, pending_least, statement_inside, value_inside}
use Rattle.stack_codegen.proofs.Chains.{chain_begun, chain_done, chain_more, wanted_alone, wanted_inside}
use Rattle.stack_codegen.proofs.Leaves.{missing_fits, quoted_done}
use Rattle.stack_codegen.proofs.ListParts.{listed_begun, listed_done}
use Rattle.stack_codegen.proofs.ListSizes.{called_size, parted_size, start_smaller, first_smaller, listed_smaller}
use Rattle.stack_codegen.proofs.ListSteps.{gives_fit_behind, larger_was, listed_next, listed_past}
use Rattle.stack_codegen.proofs.LoopParts.{list_done, list_ready, step_done, step_ready, turn_in_range, while_done, while_ready}
use Rattle.stack_codegen.proofs.NamedParts.{variable_goes_on, variable_told}
use Rattle.stack_codegen.proofs.NamesAlone.{none_marked}
use Rattle.stack_codegen.proofs.NodeSizes.{item_smaller, node_size, nothing, perhaps_size, size_links, node_less}
use Rattle.stack_codegen.proofs.Nodes.{assign_ready, chain_ready, if_ready}
use Rattle.stack_codegen.proofs.OneDecl.{array_bounds, array_done, simple_done, class_done, kind_behind, names_behind, simple_known}
use Rattle.stack_codegen.proofs.Parts.{link_ready, phrase_listed}
use Rattle.stack_codegen.proofs.Passings.{aside_done, found_fits, part_pushed, passed_done, reserve_done, stuck_done, thunk_done}
use Rattle.stack_codegen.proofs.PhraseArms.{block_coded, block_known, goto_coded, named_coded, named_known}
use Rattle.stack_codegen.proofs.PhraseCalls.{and_done, assignment_coded, branch_done, branch_ready, chain_node, chosen_stays, if_then_coded, link_done, missing_done, nothing_told, or_done, statement_coded}
use Rattle.stack_codegen.proofs.RowParts.{empty_item_coded, empty_part_coded, item_phrase_coded, item_phrase_ready, item_phrase_size, labelled_is, part_phrase_coded, part_phrase_ready, part_phrase_size, plain_is}
use Rattle.stack_codegen.proofs.PhraseCases.{abs_given, abs_sized, abs_told, assert_given, assert_sized, assert_told, assign_given, assign_sized, assign_told, block_sized, case_do_given, case_do_sized, case_do_told, case_value_given, case_value_sized, case_value_told, chain_given, chain_sized, chain_told, for_list_given, for_list_sized, for_list_told, for_step_given, for_step_sized, for_step_told, if_given, if_sized, if_told, is_class_given, is_class_sized, is_class_told, lent_same, minus_told, named_sized, negated_given, negated_sized, negated_told, plus_told, relation_given, relation_sized, relation_told, signed_given, signed_sized, while_given, while_sized, while_told}
use Rattle.stack_codegen.proofs.PhraseKinds.{class_test_plain, instruction_done, kind_done, leaf_done}
use Rattle.stack_codegen.proofs.PhraseLinks.{constant_ready, missing_sized, written_ready, written_sized}
use Rattle.stack_codegen.proofs.PhraseParts.{branches_done, first_jump_there, operand_done, pair_done, put_right, second_jump_there}
use Rattle.stack_codegen.proofs.PlanParts.{alone_plan, begun_stays, first_held_ready, listed_plan, use_ready}
use Rattle.stack_codegen.proofs.ProcedureBodies.{begin_there, opened_formals, opened_ready, procedure_done, result_fits, result_is, body_done, body_is, body_numbered, body_ready}
use Rattle.stack_codegen.proofs.Ready.{branch_after, perhaps_after, perhaps_fits, ready_after, stays_begun, stays_next, stays_put, stays_step}
use Rattle.stack_codegen.proofs.SettingParts.{placed_coded, placed_ready, placed_told, set_coded, set_ready, set_smaller, set_told, written_listed}
use Rattle.stack_codegen.proofs.StandsThere.{standing_fits}
use Rattle.stack_codegen.proofs.Steps.{jump_last, jump_later, jump_there, max_was, put_as, ready_appended, ready_replaced, stays_one}
use Rattle.stack_codegen.proofs.StringParts.{is_no_part, is_part, part_begins, string_begun, string_done, string_more, string_stopped, whole_string}
use Rattle.stack_codegen.proofs.TurnParts.{turn_done, turn_ready}
use Rattle.stack_codegen.proofs.WholeWrites.{end_fits, standard_applied, write_alone, writes_coded, writes_ready}
use Rattle.stack_codegen.proofs.WriteParts.{writes_begun, writes_done, writes_over, writes_told}
use Rattle.stack_codegen.proofs.Typing.{given_fits, variable_fits}
use Rattle.stack_codegen.proofs.ValueParts.{turn_fits_there, value_ready, values_begun, values_done, values_more}
use Rattle.stack_codegen.specs.Blocks.{CodesBounds, CodesDecls, closed_procedure, AreReserved, DeclIsDeclared, decls_own}
use Rattle.stack_codegen.specs.Calls.{IsProcedureFormal, IsCodableKind, actual_in}
use Rattle.stack_codegen.specs.Codable.{node_in, CodesNode, IsCodableLists, IsCodable, IsCodableBounds, IsCodableDecls}
use Rattle.stack_codegen.specs.Listed.{CodesPlan, phrase_count, PartsSuit}
use Rattle.stack_codegen.specs.Names.{named_node}
use Rattle.stack_codegen.specs.Operations.{CodesBefore, branch_phrase, first_wanted, optional_phrase}
use Rattle.stack_codegen.specs.declared.actuals.ActualKind.TheVariants as actual_kinds
use Rattle.stack_codegen.specs.declared.actuals.ActualKind.{ActualKind}
use Rattle.symbol_table.specs.Contexts.{Scene, numbers_in}
use Rattle.symbol_table.specs.Heres.{in_statement, type_given, variable_type}
use Rattle.symbol_table.specs.Parts.{links_in}
use Rattle.symbol_table.specs.Standings.{standing_of}
use Rattle.symbol_table.specs.Symbols.{class_at, SymbolsView, taken_back}
use Rattle.symbol_table.specs.declared.here.Here.{Here}
use Rattle.symbol_table.specs.declared.standings.Standing.TheVariants as standing
use Rattle.value_ops.specs.declared.values.SimpleType.{SimpleType}
use Rattle.stack_codegen.proofs.+phrases.Goals as goal

pub phrases::emit_perhaps-emit_phrase-requires : goal.phrases::emit_perhaps-emit_phrase-requires
phrases::emit_perhaps-emit_phrase-requires t c = (let size = ap perhaps_size c.in-Some.is in omega (arith, size), branch_ready c.args.emitter.now c.args.branch c.in-Some.node c.in-Some.is c.requires)

pub phrases::emit_perhaps-alone-requires : goal.phrases::emit_perhaps-alone-requires
phrases::emit_perhaps-alone-requires t c = missing_fits c.args.emitter.now c.args.branch.missing c.requires.missing

pub phrases::emit_perhaps-returns-in-Some : goal.phrases::emit_perhaps-returns-in-Some
phrases::emit_perhaps-returns-in-Some t c = IfOk-weaker c.emit_phrase.result _ _ (λ m h. branch_done c.args.here c.args.mode c.args.branch c.in-Some.node c.in-Some.is h) c.emit_phrase.ensures

pub phrases::emit_perhaps-returns-in-None : goal.phrases::emit_perhaps-returns-in-None
phrases::emit_perhaps-returns-in-None t c =
    instruction_done c.alone.result _ c.alone.ensures.none c.alone.ensures.appended
    (λ e. missing_done c.args.here c.args.mode c.args.branch c.in-None.is c.requires (perhaps_fits c.args.emitter.now c.args.branch.phrase c.requires.phrase).code e)

pub phrases::emit_before-emit_perhaps-requires : goal.phrases::emit_before-emit_perhaps-requires
phrases::emit_before-emit_perhaps-requires t c = (omega arith, record { phrase = c.requires.suits; missing = refl })

pub phrases::emit_before-append-requires : goal.phrases::emit_before-append-requires
phrases::emit_before-append-requires t c = fits_there c.args.does c.in_ok-marks.ensures.stays c.requires.fits

pub phrases::emit_before-returns : goal.phrases::emit_before-returns
phrases::emit_before-returns t c = before_codes c.args.here mode.Value (optional_phrase (scene c.args.emitter.now) c.args.a) c.args.does c.requires.plain c.requires.fits c.in_ok-marks.ensures c.in_ok-append.ensures.appended

pub phrases::emit_is_class-emit_before-requires : goal.phrases::emit_is_class-emit_before-requires
phrases::emit_is_class-emit_before-requires t c = (
  omega arith,
  (c.requires.suits, (subst (InstrFits c.args.emitter.now.code.given c.args.emitter.now.code.added) (sym c.class_test-test.ensures) c.requires.fits, ap is_plain c.class_test-test.ensures ∙ class_test_plain (class_at c.args.emitter.now.symbols.classes c.args.class))),
)

pub phrases::emit_is_class-returns : goal.phrases::emit_is_class-returns
phrases::emit_is_class-returns t c =
    IfOk-weaker c.emit_before.result _ _ (λ m h. subst (λ i. CodesBefore c.args.emitter.now c.emit_before.new.emitter c.args.here (phrase_in (scene c.args.emitter.now) (node_in c.args.a.now (scene c.args.emitter.now))) i m) c.class_test-test.ensures h) c.emit_before.ensures

pub phrases::emit_statement-emit_before-requires : goal.phrases::emit_statement-emit_before-requires
phrases::emit_statement-emit_before-requires t c =
    let begun = stays_step c.in_statement-here.result held.Begin (perhaps_fits c.args.emitter.now c.args.a c.requires.suits).code tt c.in_ok-append.ensures.appended in
    (omega arith, (perhaps_after c.args.a begun c.requires.suits, (fits_there c.args.does begun c.requires.fits, c.requires.plain)))

pub phrases::emit_statement-returns : goal.phrases::emit_statement-returns
phrases::emit_statement-returns t c =
    IfOk-weaker c.emit_before.result _ _ (λ m h. statement_coded (in_statement c.args.here c.args.node.now.statement) c.in_statement-here.result c.args.a c.args.does c.in_statement-here.ensures (perhaps_fits c.args.emitter.now c.args.a c.requires.suits).code c.in_ok-append.ensures.appended h) c.emit_before.ensures

pub phrases::emit_pair-emit_phrase-requires : goal.phrases::emit_pair-emit_phrase-requires
phrases::emit_pair-emit_phrase-requires t c = (omega arith, c.requires.first)

pub phrases::emit_pair-emit_before-requires : goal.phrases::emit_pair-emit_before-requires
phrases::emit_pair-emit_before-requires t c =
    let pushed = stays_next c.args.here held.Push tt c.in_ok-left.ensures.stays c.in_ok-append.ensures.appended in
    (omega arith, (ready_after pushed c.requires.second, (fits_there c.args.does pushed c.requires.fits, c.requires.plain)))

pub phrases::emit_pair-returns : goal.phrases::emit_pair-returns
phrases::emit_pair-returns t c = rw c.max.ensures (pair_done c.args.here c.args.mode (phrase_in (scene c.args.emitter.now) (node_in c.args.a.now (scene c.args.emitter.now))) (Some c.args.b) c.args.does c.in_ok-left.ensures c.in_ok-append.ensures.appended c.in_ok-right.ensures)

pub phrases::emit_operand-emit_before-requires : goal.phrases::emit_operand-emit_before-requires
phrases::emit_operand-emit_before-requires t c =
    let pushed = stays_step c.args.here held.Push c.requires.fits.code tt c.in_ok-append.ensures.appended in
    (omega arith, (ready_after pushed c.requires, (tt, refl)))

pub phrases::emit_operand-returns : goal.phrases::emit_operand-returns
phrases::emit_operand-returns t c = IfOk-weaker c.emit_before.result _ _ (λ m h. operand_done c.args.here c.args.op (Some c.args.right) c.in_ok-append.ensures.appended h) c.emit_before.ensures

pub phrases::emit_branches-emit_perhaps-requires : goal.phrases::emit_branches-emit_perhaps-requires
phrases::emit_branches-emit_perhaps-requires t c =
    let jump = stays_step c.args.here (held.JumpUnless 0) (perhaps_fits c.args.emitter.now c.args.consequent.phrase c.requires.first.phrase).code tt c.in_ok-unless.ensures.appended in
    (omega arith, branch_after c.args.consequent jump c.requires.first)

pub phrases::emit_branches-replace-requires : goal.phrases::emit_branches-replace-requires
phrases::emit_branches-replace-requires t c = record {
  there = rw c.in_ok-unless.ensures.number (first_jump_there c.args.emitter.now _ _ _ c.args.here (held.JumpUnless 0) (held.Jump 0) (branch_phrase (scene c.append.new.self) c.args.consequent) c.in_ok-unless.ensures.appended c.in_ok-first.ensures c.in_ok-end.ensures.appended);
  fits = tt;
  within = refl;
}

pub phrases::emit_branches-emit_perhaps-requires-2 : goal.phrases::emit_branches-emit_perhaps-requires-2
phrases::emit_branches-emit_perhaps-requires-2 t c =
    let jump = stays_step c.args.here (held.JumpUnless 0) (perhaps_fits c.args.emitter.now c.args.consequent.phrase c.requires.first.phrase).code tt c.in_ok-unless.ensures.appended in
    let end = stays_next c.args.here (held.Jump 0) tt (stays_both jump c.in_ok-first.ensures.stays) c.in_ok-end.ensures.appended in
    let put = put_right c.append-2.new.self c.replace.new.self _ (held.JumpUnless (next c.emit_perhaps.new.emitter + 1)) _ (next c.args.emitter.now) c.replace.ensures c.in_ok-unless.ensures.number (ap held.JumpUnless (c.in_ok-further.ensures ∙ ap (λ n. n + 1) c.in_ok-end.ensures.number)) in
    (omega arith, branch_after c.args.alternative (stays_put (next c.args.emitter.now) (held.JumpUnless (next c.emit_perhaps.new.emitter + 1)) tt end put) c.requires.second)

pub phrases::emit_branches-replace-requires-2-clause-there : goal.phrases::emit_branches-replace-requires-2-clause-there
phrases::emit_branches-replace-requires-2-clause-there t c =
    let e : Emitter = record c.append-2.new.self { code = c.replace.new.self } in
    let put : e ≡ replaced c.append-2.new.self (next c.args.emitter.now) (held.JumpUnless (next c.emit_perhaps.new.emitter + 1)) = put_right c.append-2.new.self c.replace.new.self _ (held.JumpUnless (next c.emit_perhaps.new.emitter + 1)) _ (next c.args.emitter.now) c.replace.ensures c.in_ok-unless.ensures.number (ap held.JumpUnless (c.in_ok-further.ensures ∙ ap (λ n. n + 1) c.in_ok-end.ensures.number)) in
    rw c.in_ok-end.ensures.number (second_jump_there c.emit_perhaps.new.emitter c.append-2.new.self e c.emit_perhaps-2.new.emitter c.args.here (next c.args.emitter.now) (held.JumpUnless (next c.emit_perhaps.new.emitter + 1)) (held.Jump 0) (branch_phrase (scene e) c.args.alternative) c.in_ok-end.ensures.appended put c.in_ok-second.ensures)

pub phrases::emit_branches-returns : goal.phrases::emit_branches-returns
phrases::emit_branches-returns t c =
    let first = put_right c.append-2.new.self c.replace.new.self _ (held.JumpUnless (next c.emit_perhaps.new.emitter + 1)) _ (next c.args.emitter.now) c.replace.ensures c.in_ok-unless.ensures.number (ap held.JumpUnless (c.in_ok-further.ensures ∙ ap (λ n. n + 1) c.in_ok-end.ensures.number)) in
    let second = put_right c.emit_perhaps-2.new.emitter c.replace-2.new.self _ (held.Jump (next c.emit_perhaps-2.new.emitter)) _ (next c.emit_perhaps.new.emitter) c.replace-2.ensures c.in_ok-end.ensures.number (ap held.Jump c.in_ok-behind.ensures) in
    rw c.max.ensures (λ n. branches_done c.args.here (λ s. branch_phrase s c.args.consequent) (λ s. branch_phrase s c.args.alternative) c.in_ok-unless.ensures.appended c.in_ok-first.ensures c.in_ok-end.ensures.appended first c.in_ok-second.ensures second n)

pub phrases::emit_assign-emit_pair-requires : goal.phrases::emit_assign-emit_pair-requires
phrases::emit_assign-emit_pair-requires t c =
    let begun = stays_begun c.args.here c.args.node.now.statement c.requires.fits.code c.in_ok-begin.ensures in
    let parts = assign_ready c.args.emitter.now c.args.node.now (node_in c.args.a.now) (node_in c.args.b.now) c.requires in
    (omega arith, (ready_after begun parts.0, (ready_after begun parts.1, (rw c.variable_type.ensures (fits_there (held.Assign (variable_type c.args.a.now.gives) true) begun (variable_fits (scene c.args.emitter.now) c.requires.fits.scene c.args.a.now.gives parts.0.knows.0)), refl))))

pub phrases::emit_assign-returns : goal.phrases::emit_assign-returns
phrases::emit_assign-returns t c =
    IfOk-weaker c.emit_pair.result _ _
    (λ m h. assignment_coded c.args.here c.in_statement.result c.args.node.now c.args.a.now c.args.b.now c.variable_type.result c.is_none.result c.in_statement.ensures c.variable_type.ensures (nothing_told c.args.node.now.statement c.is_none.result c.is_none.ensures) c.requires.fits.code c.in_ok-begin.ensures h)
    c.emit_pair.ensures

pub phrases::emit_if_then-emit_phrase-requires : goal.phrases::emit_if_then-emit_phrase-requires
phrases::emit_if_then-emit_phrase-requires t c =
    let begun = stays_begun c.args.here c.args.node.now.statement c.requires.fits.code c.in_ok-begin.ensures in
    (omega arith, ready_after begun (if_ready c.args.emitter.now c.args.node.now (node_in c.args.c.now) (node_in c.args.a.now) c.args.b c.requires).0)

pub phrases::emit_if_then-emit_branches-requires : goal.phrases::emit_if_then-emit_branches-requires
phrases::emit_if_then-emit_branches-requires t c =
    let begun = stays_begun c.args.here c.args.node.now.statement c.requires.fits.code c.in_ok-begin.ensures in
    let there = stays_both begun c.in_ok-condition.ensures.stays in
    let parts = if_ready c.args.emitter.now c.args.node.now (node_in c.args.c.now) (node_in c.args.a.now) c.args.b c.requires in
    let size = written_sized c.args.a.now c.args.a c.written.result c.written.ensures refl in
    (omega (arith, size), (rw c.written.ensures (record { phrase = ready_after there parts.1; missing = refl }), record { phrase = perhaps_after c.args.b there parts.2; missing = refl }))

pub phrases::emit_if_then-make-requires : goal.phrases::emit_if_then-make-requires
phrases::emit_if_then-make-requires t c =
    let begun = stays_begun c.args.here c.args.node.now.statement c.requires.fits.code c.in_ok-begin.ensures in
    let there = stays_both begun (chosen_stays c.in_ok-inside.inside c.in_statement-here.result (phrase_in (scene c.begin.new.self) (node_in c.args.c.now (scene c.begin.new.self))) c.written.result (record { phrase = c.args.b; missing = held.Nothing }) c.in_ok-condition.ensures c.in_ok-inside.ensures) in
    subst (λ k. KindsFit c.emit_branches.new.emitter.code.given k) (sym c.type_given.ensures)
    (subst (λ (s : Scene). KindsFit s.given (type_given c.args.node.now.gives)) (sym there.scene) (given_fits (scene c.args.emitter.now) c.requires.fits.scene c.args.node.now.gives c.requires.knows.0))

pub phrases::emit_if_then-returns : goal.phrases::emit_if_then-returns
phrases::emit_if_then-returns t c =
    rw c.max.ensures (if_then_coded _ c.args.here c.in_statement-here.result c.args.node.now c.args.c.now c.args.a c.args.b c.type_given.result c.written.result _ c.in_statement-here.ensures c.type_given.ensures c.written.ensures refl c.requires.fits.code
    (given_fits (scene c.args.emitter.now) c.requires.fits.scene c.args.node.now.gives c.requires.knows.0) c.in_ok-begin.ensures c.in_ok-condition.ensures c.in_ok-inside.ensures c.in_ok-make.ensures)

pub phrases::emit_chain-emit_phrase-requires : goal.phrases::emit_chain-emit_phrase-requires
phrases::emit_chain-emit_phrase-requires t c = (omega arith, (chain_ready c.args.emitter.now c.args.node.now (node_in c.args.first.now) c.args.links.now c.requires).0)

pub phrases::emit_chain-loop-link-init : goal.phrases::emit_chain-loop-link-init
phrases::emit_chain-loop-link-init t c = chain_begun c.args.here (first_wanted c.args.mode (length c.args.links.now)) c.first_wanted-wanted.result c.is_logical-logical.result (phrase_in (scene c.args.emitter.now) (node_in c.args.first.now (scene c.args.emitter.now))) c.args.links.now c.first_wanted-wanted.ensures c.in_ok-marks.ensures

pub phrases::emit_chain-emit_link-requires : goal.phrases::emit_chain-emit_link-requires
phrases::emit_chain-emit_link-requires t c = (
  let less = item_smaller (λ ls. size_links (links_in nothing ls)) (λ l. node_size l.right) (λ l ls. refl) c.args.links.now c.loop-link.link-index c.link-item.result c.loop-link-test.true c.link-item.is in omega (arith, less),
  link_ready c.loop-link.emitter c.args.links.now c.loop-link.link-index c.link-item.result c.loop-link-test.true c.link-item.is (ready_after c.loop-link.invariant.codes.stays (chain_ready c.args.emitter.now c.args.node.now (node_in c.args.first.now) c.args.links.now c.requires).1),
)

pub phrases::emit_chain-loop-link-preserved : goal.phrases::emit_chain-loop-link-preserved
phrases::emit_chain-loop-link-preserved t c =
    rw c.max-marks.ensures (chain_more _ c.args.here (first_wanted c.args.mode (length c.args.links.now)) c.is_logical-logical.result _ c.args.links.now c.loop-link.link-index c.link-item.result (wanted_inside c.args.mode c.args.links.now c.loop-link.link-index c.loop-link-test.true) c.loop-link-test.true c.link-item.is c.loop-link.invariant c.in_ok-right.ensures)

pub phrases::emit_chain-returns : goal.phrases::emit_chain-returns
phrases::emit_chain-returns t c =
    chain_node c.args.here c.args.mode c.args.node.now c.args.first.now c.args.links.now c.is_logical-logical.result c.is_logical-logical.ensures
    (chain_done c.args.here c.args.mode (first_wanted c.args.mode (length c.args.links.now)) c.is_logical-logical.result (phrase_in (scene c.args.emitter.now) (node_in c.args.first.now (scene c.args.emitter.now))) c.args.links.now c.loop-link.link-index c.loop-link-test.false (λ none. wanted_alone c.args.mode c.args.links.now none) c.loop-link.invariant)

pub phrases::emit_phrase-returns-in-Empty : goal.phrases::emit_phrase-returns-in-Empty
phrases::emit_phrase-returns-in-Empty t c = instruction_done c.alone.result _ c.alone.ensures.none c.alone.ensures.appended (λ e. leaf_done c.args.here c.args.mode c.args.node.now typed.Empty held.Nothing refl refl c.requires.fits.code (ap (kind_view (numbers_in (scene c.args.emitter.now))) c.in-Empty.is) e)

pub phrases::emit_phrase-returns-in-Null : goal.phrases::emit_phrase-returns-in-Null
phrases::emit_phrase-returns-in-Null t c = instruction_done c.alone-in-Null.result _ c.alone-in-Null.ensures.none c.alone-in-Null.ensures.appended (λ e. leaf_done c.args.here c.args.mode c.args.node.now typed.Null (held.Constant constant.Null) refl refl c.requires.fits.code (ap (kind_view (numbers_in (scene c.args.emitter.now))) c.in-Null.is) e)

pub phrases::emit_phrase-returns-in-Number : goal.phrases::emit_phrase-returns-in-Number
phrases::emit_phrase-returns-in-Number t c = instruction_done c.alone-in-Number.result _ c.alone-in-Number.ensures.none c.alone-in-Number.ensures.appended (λ e. leaf_done c.args.here c.args.mode c.args.node.now (typed.Number c.in-Number.n) (held.Constant (constant.Integer c.in-Number.n)) refl refl c.requires.fits.code (ap (kind_view (numbers_in (scene c.args.emitter.now))) c.in-Number.is) (e ∙ ap (appended c.args.emitter.now c.args.here) c.number.ensures))

pub phrases::emit_phrase-alone-requires-in-Number : goal.phrases::emit_phrase-alone-requires-in-Number
phrases::emit_phrase-alone-requires-in-Number t c = subst (InstrFits c.args.emitter.now.code.given c.args.emitter.now.code.added) (sym c.number.ensures) tt

pub phrases::emit_phrase-alone-requires-in-Truth : goal.phrases::emit_phrase-alone-requires-in-Truth
phrases::emit_phrase-alone-requires-in-Truth t c = subst (InstrFits c.args.emitter.now.code.given c.args.emitter.now.code.added) (sym c.truth.ensures) tt

pub phrases::emit_phrase-returns-in-Truth : goal.phrases::emit_phrase-returns-in-Truth
phrases::emit_phrase-returns-in-Truth t c = instruction_done c.alone-in-Truth.result _ c.alone-in-Truth.ensures.none c.alone-in-Truth.ensures.appended (λ e. leaf_done c.args.here c.args.mode c.args.node.now (typed.Truth c.in-Truth.value) (held.Constant (constant.Logical c.in-Truth.value)) refl refl c.requires.fits.code (ap (kind_view (numbers_in (scene c.args.emitter.now))) c.in-Truth.is) (e ∙ ap (appended c.args.emitter.now c.args.here) c.truth.ensures))

pub phrases::emit_phrase-returns-in-BitsLit : goal.phrases::emit_phrase-returns-in-BitsLit
phrases::emit_phrase-returns-in-BitsLit t c = instruction_done c.alone-in-BitsLit.result _ c.alone-in-BitsLit.ensures.none c.alone-in-BitsLit.ensures.appended (λ e. leaf_done c.args.here c.args.mode c.args.node.now (typed.BitsLit c.in-BitsLit.bits) (held.Constant (constant.Bits c.in-BitsLit.bits)) refl refl c.requires.fits.code (ap (kind_view (numbers_in (scene c.args.emitter.now))) c.in-BitsLit.is) e)

pub phrases::emit_phrase-returns-in-Quoted : goal.phrases::emit_phrase-returns-in-Quoted
phrases::emit_phrase-returns-in-Quoted t c = instruction_done c.quoted.result _ c.quoted.ensures.none c.quoted.ensures.made (λ e. kind_done c.args.here c.args.mode c.args.node.now (λ s. typed.Quoted c.in-Quoted.text.value) (ap (kind_view (numbers_in (scene c.args.emitter.now))) c.in-Quoted.is) (quoted_done c.args.here c.args.mode c.in-Quoted.text.value c.requires.fits.code (e ∙ ap (λ s. with_quoted c.args.emitter.now c.args.here s) c.deref.ensures)))

pub phrases::emit_phrase-returns-in-Goto : goal.phrases::emit_phrase-returns-in-Goto
phrases::emit_phrase-returns-in-Goto t c =
    instruction_done c.emit_goto.result _ c.emit_goto.ensures.none c.emit_goto.ensures.made
    (λ e. goto_coded c.args.here c.args.mode c.args.node.now c.in-Goto.name c.in-Goto.is c.requires (e ∙ ap (λ (h : Here). with_goto c.args.emitter.now h (standing_of c.args.emitter.now.symbols.names c.in-Goto.name)) c.in_statement.ensures))

pub phrases::emit_phrase-emit_named-requires : goal.phrases::emit_phrase-emit_named-requires
phrases::emit_phrase-emit_named-requires t c = (let size = named_sized c.args.node.now c.in-Named.name c.in-Named.lists c.deref-in-Named.result.now c.in-Named.is c.deref-in-Named.ensures.value in omega (arith, size), named_known c.args.emitter.now c.args.node.now c.requires c.in-Named.name c.in-Named.lists c.deref-in-Named.result.now c.in-Named.is c.deref-in-Named.ensures.value)

pub phrases::emit_phrase-returns-in-Named : goal.phrases::emit_phrase-returns-in-Named
phrases::emit_phrase-returns-in-Named t c = IfOk-weaker c.emit_named.result _ _ (λ m h. named_coded c.args.here c.args.mode c.args.node.now c.in-Named.name c.in-Named.lists c.deref-in-Named.result.now c.in-Named.is c.deref-in-Named.ensures.value h) c.emit_named.ensures

pub phrases::emit_phrase-emit_before-requires : goal.phrases::emit_phrase-emit_before-requires
phrases::emit_phrase-emit_before-requires t c =
    (let size = negated_sized c.args.node.now c.in-Negated.a c.deref-in-Negated.result.now c.in-Negated.is c.deref-in-Negated.ensures in omega (arith, size), (negated_given c.args.emitter.now c.args.node.now c.requires c.in-Negated.a c.deref-in-Negated.result.now c.in-Negated.is c.deref-in-Negated.ensures, (tt, refl)))

pub phrases::emit_phrase-returns-in-Negated : goal.phrases::emit_phrase-returns-in-Negated
phrases::emit_phrase-returns-in-Negated t c = IfOk-weaker c.emit_before.result _ _ (λ m h. negated_told c.args.here c.args.mode c.args.node.now c.in-Negated.a c.deref-in-Negated.result.now c.negation.result c.in-Negated.is c.deref-in-Negated.ensures c.negation.ensures h) c.emit_before.ensures

pub phrases::emit_phrase-emit_before-requires-in-Abs : goal.phrases::emit_phrase-emit_before-requires-in-Abs
phrases::emit_phrase-emit_before-requires-in-Abs t c =
    (let size = abs_sized c.args.node.now c.in-Abs.a c.deref-in-Abs.result.now c.in-Abs.is c.deref-in-Abs.ensures in omega (arith, size), (abs_given c.args.emitter.now c.args.node.now c.requires c.in-Abs.a c.deref-in-Abs.result.now c.in-Abs.is c.deref-in-Abs.ensures, (tt, refl)))

pub phrases::emit_phrase-returns-in-Abs : goal.phrases::emit_phrase-returns-in-Abs
phrases::emit_phrase-returns-in-Abs t c = IfOk-weaker c.emit_before-in-Abs.result _ _ (λ m h. abs_told c.args.here c.args.mode c.args.node.now c.in-Abs.a c.deref-in-Abs.result.now c.in-Abs.is c.deref-in-Abs.ensures h) c.emit_before-in-Abs.ensures

pub phrases::emit_phrase-emit_before-requires-in-Signed-true-default : goal.phrases::emit_phrase-emit_before-requires-in-Signed-true-default
phrases::emit_phrase-emit_before-requires-in-Signed-true-default t c =
    (let size = signed_sized c.args.node.now c.in-Signed-true-default.field-0 c.in-Signed-true-default.a c.deref-in-Signed-true-default.result.now c.in-Signed-true-default.is c.deref-in-Signed-true-default.ensures in omega (arith, size), (signed_given c.args.emitter.now c.args.node.now c.requires c.in-Signed-true-default.field-0 c.in-Signed-true-default.a c.deref-in-Signed-true-default.result.now c.in-Signed-true-default.is c.deref-in-Signed-true-default.ensures, (tt, refl)))

pub phrases::emit_phrase-returns-in-Signed-true-default : goal.phrases::emit_phrase-returns-in-Signed-true-default
phrases::emit_phrase-returns-in-Signed-true-default t c = IfOk-weaker c.emit_before-in-Signed-true-default.result _ _ (λ m h. minus_told c.args.here c.args.mode c.args.node.now c.in-Signed-true-default.field-0 c.in-Signed-true-default.a c.deref-in-Signed-true-default.result.now (sym c.in-Signed-true-default.field-0-is ∙ c.in-Signed-true-default.field-0-test) c.in-Signed-true-default.is c.deref-in-Signed-true-default.ensures h) c.emit_before-in-Signed-true-default.ensures

pub phrases::emit_phrase-emit_phrase-requires : goal.phrases::emit_phrase-emit_phrase-requires
phrases::emit_phrase-emit_phrase-requires t c =
    (let size = signed_sized c.args.node.now c.in-Signed-false-default.field-0 c.in-Signed-false-default.a c.deref-in-Signed-false-default.result.now c.in-Signed-false-default.is c.deref-in-Signed-false-default.ensures in omega (arith, size), signed_given c.args.emitter.now c.args.node.now c.requires c.in-Signed-false-default.field-0 c.in-Signed-false-default.a c.deref-in-Signed-false-default.result.now c.in-Signed-false-default.is c.deref-in-Signed-false-default.ensures)

pub phrases::emit_phrase-returns-in-Signed-false-default : goal.phrases::emit_phrase-returns-in-Signed-false-default
phrases::emit_phrase-returns-in-Signed-false-default t c = IfOk-weaker c.emit_phrase.result _ _ (λ m h. plus_told c.args.here c.args.mode c.args.node.now c.in-Signed-false-default.field-0 c.in-Signed-false-default.a c.deref-in-Signed-false-default.result.now (sym c.in-Signed-false-default.field-0-is ∙ c.in-Signed-false-default.field-0-test) c.in-Signed-false-default.is c.deref-in-Signed-false-default.ensures h) c.emit_phrase.ensures

pub phrases::emit_phrase-emit_chain-requires : goal.phrases::emit_phrase-emit_chain-requires
phrases::emit_phrase-emit_chain-requires t c =
    (let size = chain_sized c.args.node.now c.in-Chain.first c.in-Chain.links c.deref-in-Chain.result.now c.deref-in-Chain-2.result.now c.in-Chain.is c.deref-in-Chain.ensures c.deref-in-Chain-2.ensures.value in omega (arith, size), chain_given c.args.emitter.now c.args.node.now c.requires c.in-Chain.first c.in-Chain.links c.deref-in-Chain.result.now c.deref-in-Chain-2.result.now c.in-Chain.is c.deref-in-Chain.ensures c.deref-in-Chain-2.ensures.value)

pub phrases::emit_phrase-returns-in-Chain : goal.phrases::emit_phrase-returns-in-Chain
phrases::emit_phrase-returns-in-Chain t c = IfOk-weaker c.emit_chain.result _ _ (λ m h. chain_told c.args.here c.args.mode c.args.node.now c.in-Chain.first c.in-Chain.links c.deref-in-Chain.result.now c.deref-in-Chain-2.result.now c.in-Chain.is c.deref-in-Chain.ensures c.deref-in-Chain-2.ensures.value h) c.emit_chain.ensures

pub phrases::emit_phrase-emit_pair-requires : goal.phrases::emit_phrase-emit_pair-requires
phrases::emit_phrase-emit_pair-requires t c =
    let both = relation_given c.args.emitter.now c.args.node.now c.requires c.in-Relation.op c.in-Relation.a c.in-Relation.b c.deref-in-Relation.result.now c.deref-in-Relation-2.result.now c.in-Relation.is c.deref-in-Relation.ensures c.deref-in-Relation-2.ensures in
    (let size = relation_sized c.args.node.now c.in-Relation.op c.in-Relation.a c.in-Relation.b c.deref-in-Relation.result.now c.deref-in-Relation-2.result.now c.in-Relation.is c.deref-in-Relation.ensures c.deref-in-Relation-2.ensures in omega (arith, size), (both.0, (both.1, (tt, refl))))

pub phrases::emit_phrase-returns-in-Relation : goal.phrases::emit_phrase-returns-in-Relation
phrases::emit_phrase-returns-in-Relation t c = IfOk-weaker c.emit_pair.result _ _ (λ m h. relation_told c.args.here c.args.mode c.args.node.now c.in-Relation.op c.in-Relation.a c.in-Relation.b c.deref-in-Relation.result.now c.deref-in-Relation-2.result.now c.in-Relation.is c.deref-in-Relation.ensures c.deref-in-Relation-2.ensures h) c.emit_pair.ensures

pub phrases::emit_phrase-emit_is_class-requires : goal.phrases::emit_phrase-emit_is_class-requires
phrases::emit_phrase-emit_is_class-requires t c =
    let both = is_class_given c.args.emitter.now c.args.node.now c.requires c.in-IsClass.a c.in-IsClass.class _ c.deref-in-IsClass.result.now c.in-IsClass.is c.deref-in-IsClass.ensures in
    (let size = is_class_sized c.args.node.now c.in-IsClass.a c.in-IsClass.class _ c.deref-in-IsClass.result.now c.in-IsClass.is c.deref-in-IsClass.ensures in omega (arith, size), (both.0, both.1))

pub phrases::emit_phrase-returns-in-IsClass : goal.phrases::emit_phrase-returns-in-IsClass
phrases::emit_phrase-returns-in-IsClass t c = IfOk-weaker c.emit_is_class.result _ _ (λ m h. is_class_told c.args.here c.args.mode c.args.node.now c.in-IsClass.a c.in-IsClass.class _ c.deref-in-IsClass.result.now c.in-IsClass.is c.deref-in-IsClass.ensures c.requires h) c.emit_is_class.ensures

pub phrases::emit_phrase-emit_assign-requires : goal.phrases::emit_phrase-emit_assign-requires
phrases::emit_phrase-emit_assign-requires t c =
    (let size = assign_sized c.args.node.now c.in-Assign.a c.in-Assign.b c.deref-in-Assign.result.now c.deref-in-Assign-2.result.now c.in-Assign.is c.deref-in-Assign.ensures c.deref-in-Assign-2.ensures in omega (arith, size), assign_given c.args.emitter.now c.args.node.now c.requires c.in-Assign.a c.in-Assign.b c.deref-in-Assign.result.now c.deref-in-Assign-2.result.now c.in-Assign.is c.deref-in-Assign.ensures c.deref-in-Assign-2.ensures)

pub phrases::emit_phrase-returns-in-Assign : goal.phrases::emit_phrase-returns-in-Assign
phrases::emit_phrase-returns-in-Assign t c = IfOk-weaker c.emit_assign.result _ _ (λ m h. assign_told c.args.here c.args.mode c.args.node.now c.in-Assign.a c.in-Assign.b c.deref-in-Assign.result.now c.deref-in-Assign-2.result.now c.in-Assign.is c.deref-in-Assign.ensures c.deref-in-Assign-2.ensures h) c.emit_assign.ensures

pub phrases::emit_phrase-emit_if_then-requires : goal.phrases::emit_phrase-emit_if_then-requires
phrases::emit_phrase-emit_if_then-requires t c =
    (let size = if_sized c.args.node.now c.in-IfThen.c c.in-IfThen.a c.in-IfThen.b c.deref-in-IfThen.result.now c.deref-in-IfThen-2.result.now c.as_deref.result c.in-IfThen.is c.deref-in-IfThen.ensures c.deref-in-IfThen-2.ensures (lent_same c.in-IfThen.b c.as_deref.result c.as_deref.ensures.cases) in omega (arith, size), if_given c.args.emitter.now c.args.node.now c.requires c.in-IfThen.c c.in-IfThen.a c.in-IfThen.b c.deref-in-IfThen.result.now c.deref-in-IfThen-2.result.now c.as_deref.result c.in-IfThen.is c.deref-in-IfThen.ensures c.deref-in-IfThen-2.ensures (lent_same c.in-IfThen.b c.as_deref.result c.as_deref.ensures.cases))

pub phrases::emit_phrase-returns-in-IfThen : goal.phrases::emit_phrase-returns-in-IfThen
phrases::emit_phrase-returns-in-IfThen t c = IfOk-weaker c.emit_if_then.result _ _ (λ m h. if_told c.args.here c.args.mode c.args.node.now c.in-IfThen.c c.in-IfThen.a c.in-IfThen.b c.deref-in-IfThen.result.now c.deref-in-IfThen-2.result.now c.as_deref.result c.in-IfThen.is c.deref-in-IfThen.ensures c.deref-in-IfThen-2.ensures (lent_same c.in-IfThen.b c.as_deref.result c.as_deref.ensures.cases) h) c.emit_if_then.ensures

pub phrases::emit_phrase-emit_case-requires : goal.phrases::emit_phrase-emit_case-requires
phrases::emit_phrase-emit_case-requires t c = (
  let size = case_value_sized c.args.node.now c.in-CaseValue.subject c.in-CaseValue.values c.deref-in-CaseValue.result.now c.deref-in-CaseValue-2.result.now c.in-CaseValue.is c.deref-in-CaseValue.ensures c.deref-in-CaseValue-2.ensures.value in omega (arith, size),
  case_value_given c.args.emitter.now c.args.node.now c.requires c.in-CaseValue.subject c.in-CaseValue.values c.deref-in-CaseValue.result.now c.deref-in-CaseValue-2.result c.in-CaseValue.is c.deref-in-CaseValue.ensures c.deref-in-CaseValue-2.ensures.value,
)

pub phrases::emit_phrase-returns-in-CaseValue : goal.phrases::emit_phrase-returns-in-CaseValue
phrases::emit_phrase-returns-in-CaseValue t c = IfOk-weaker c.emit_case.result _ _ (λ m h. case_value_told c.args.here c.args.mode c.args.node.now c.in-CaseValue.subject c.in-CaseValue.values c.deref-in-CaseValue.result.now c.deref-in-CaseValue-2.result c.in-CaseValue.is c.deref-in-CaseValue.ensures c.deref-in-CaseValue-2.ensures.value h) c.emit_case.ensures

pub phrases::emit_phrase-emit_case-requires-in-CaseDo : goal.phrases::emit_phrase-emit_case-requires-in-CaseDo
phrases::emit_phrase-emit_case-requires-in-CaseDo t c = (
  let size = case_do_sized c.args.node.now c.in-CaseDo.subject c.in-CaseDo.parts c.deref-in-CaseDo.result.now c.deref-in-CaseDo-2.result.now c.in-CaseDo.is c.deref-in-CaseDo.ensures c.deref-in-CaseDo-2.ensures.value in omega (arith, size),
  case_do_given c.args.emitter.now c.args.node.now c.requires c.in-CaseDo.subject c.in-CaseDo.parts c.deref-in-CaseDo.result.now c.deref-in-CaseDo-2.result c.in-CaseDo.is c.deref-in-CaseDo.ensures c.deref-in-CaseDo-2.ensures.value,
)

pub phrases::emit_phrase-returns-in-CaseDo : goal.phrases::emit_phrase-returns-in-CaseDo
phrases::emit_phrase-returns-in-CaseDo t c = IfOk-weaker c.emit_case-in-CaseDo.result _ _ (λ m h. case_do_told c.args.here c.args.mode c.args.node.now c.in-CaseDo.subject c.in-CaseDo.parts c.deref-in-CaseDo.result.now c.deref-in-CaseDo-2.result c.in-CaseDo.is c.deref-in-CaseDo.ensures c.deref-in-CaseDo-2.ensures.value h) c.emit_case-in-CaseDo.ensures

pub phrases::emit_phrase-emit_for_step-requires : goal.phrases::emit_phrase-emit_for_step-requires
phrases::emit_phrase-emit_for_step-requires t c = (let size = for_step_sized c.args.node.now c.in-ForStep.x c.in-ForStep.a c.in-ForStep.b c.in-ForStep.c c.in-ForStep.body c.deref-in-ForStep.result.now c.as_deref-in-ForStep.result c.deref-in-ForStep-2.result.now c.deref-in-ForStep-3.result.now c.in-ForStep.is c.deref-in-ForStep.ensures (lent_same c.in-ForStep.b c.as_deref-in-ForStep.result c.as_deref-in-ForStep.ensures.cases) c.deref-in-ForStep-2.ensures c.deref-in-ForStep-3.ensures in omega (arith, size), for_step_given c.args.emitter.now c.args.node.now c.requires c.in-ForStep.x c.in-ForStep.a c.in-ForStep.b c.in-ForStep.c c.in-ForStep.body c.deref-in-ForStep.result.now c.as_deref-in-ForStep.result c.deref-in-ForStep-2.result.now c.deref-in-ForStep-3.result.now c.in-ForStep.is c.deref-in-ForStep.ensures (lent_same c.in-ForStep.b c.as_deref-in-ForStep.result c.as_deref-in-ForStep.ensures.cases) c.deref-in-ForStep-2.ensures c.deref-in-ForStep-3.ensures)

pub phrases::emit_phrase-returns-in-ForStep : goal.phrases::emit_phrase-returns-in-ForStep
phrases::emit_phrase-returns-in-ForStep t c = IfOk-weaker c.emit_for_step.result _ _ (λ m h. for_step_told c.args.here c.args.mode c.args.node.now c.in-ForStep.x c.in-ForStep.a c.in-ForStep.b c.in-ForStep.c c.in-ForStep.body c.deref-in-ForStep.result.now c.as_deref-in-ForStep.result c.deref-in-ForStep-2.result.now c.deref-in-ForStep-3.result.now c.in-ForStep.is c.deref-in-ForStep.ensures (lent_same c.in-ForStep.b c.as_deref-in-ForStep.result c.as_deref-in-ForStep.ensures.cases) c.deref-in-ForStep-2.ensures c.deref-in-ForStep-3.ensures h) c.emit_for_step.ensures

pub phrases::emit_phrase-emit_for_list-requires : goal.phrases::emit_phrase-emit_for_list-requires
phrases::emit_phrase-emit_for_list-requires t c = (let size = for_list_sized c.args.node.now c.in-ForList.x c.in-ForList.values c.in-ForList.body c.deref-in-ForList.result.now c.deref-in-ForList-2.result.now c.in-ForList.is c.deref-in-ForList.ensures.value c.deref-in-ForList-2.ensures in omega (arith, size), for_list_given c.args.emitter.now c.args.node.now c.requires c.in-ForList.x c.in-ForList.values c.in-ForList.body c.deref-in-ForList.result.now c.deref-in-ForList-2.result.now c.in-ForList.is c.deref-in-ForList.ensures.value c.deref-in-ForList-2.ensures)

pub phrases::emit_phrase-returns-in-ForList : goal.phrases::emit_phrase-returns-in-ForList
phrases::emit_phrase-returns-in-ForList t c = IfOk-weaker c.emit_for_list.result _ _ (λ m h. for_list_told c.args.here c.args.mode c.args.node.now c.in-ForList.x c.in-ForList.values c.in-ForList.body c.deref-in-ForList.result.now c.deref-in-ForList-2.result.now c.in-ForList.is c.deref-in-ForList.ensures.value c.deref-in-ForList-2.ensures h) c.emit_for_list.ensures

pub phrases::emit_phrase-emit_while_do-requires : goal.phrases::emit_phrase-emit_while_do-requires
phrases::emit_phrase-emit_while_do-requires t c = (let size = while_sized c.args.node.now c.in-WhileDo.c c.in-WhileDo.body c.deref-in-WhileDo.result.now c.deref-in-WhileDo-2.result.now c.in-WhileDo.is c.deref-in-WhileDo.ensures c.deref-in-WhileDo-2.ensures in omega (arith, size), while_given c.args.emitter.now c.args.node.now c.requires c.in-WhileDo.c c.in-WhileDo.body c.deref-in-WhileDo.result.now c.deref-in-WhileDo-2.result.now c.in-WhileDo.is c.deref-in-WhileDo.ensures c.deref-in-WhileDo-2.ensures)

pub phrases::emit_phrase-returns-in-WhileDo : goal.phrases::emit_phrase-returns-in-WhileDo
phrases::emit_phrase-returns-in-WhileDo t c = IfOk-weaker c.emit_while_do.result _ _ (λ m h. while_told c.args.here c.args.mode c.args.node.now c.in-WhileDo.c c.in-WhileDo.body c.deref-in-WhileDo.result.now c.deref-in-WhileDo-2.result.now c.in-WhileDo.is c.deref-in-WhileDo.ensures c.deref-in-WhileDo-2.ensures h) c.emit_while_do.ensures

pub phrases::emit_phrase-emit_statement-requires : goal.phrases::emit_phrase-emit_statement-requires
phrases::emit_phrase-emit_statement-requires t c =
    (let size = assert_sized c.args.node.now c.in-Assert.c c.deref-in-Assert.result.now c.in-Assert.is c.deref-in-Assert.ensures in omega (arith, size), (assert_given c.args.emitter.now c.args.node.now c.requires c.in-Assert.c c.deref-in-Assert.result.now c.in-Assert.is c.deref-in-Assert.ensures, (tt, refl)))

pub phrases::emit_phrase-returns-in-Assert : goal.phrases::emit_phrase-returns-in-Assert
phrases::emit_phrase-returns-in-Assert t c = IfOk-weaker c.emit_statement.result _ _ (λ m h. assert_told c.args.here c.args.mode c.args.node.now c.in-Assert.c c.deref-in-Assert.result.now c.in-Assert.is c.deref-in-Assert.ensures c.requires h) c.emit_statement.ensures

pub phrases::emit_phrase-emit_block-requires : goal.phrases::emit_phrase-emit_block-requires
phrases::emit_phrase-emit_block-requires t c = (let size = block_sized c.args.node.now c.in-Block.decls c.in-Block.items c.deref-in-Block.result.now c.deref-in-Block-2.result.now c.in-Block.is c.deref-in-Block.ensures.value c.deref-in-Block-2.ensures.value in omega (arith, size), block_known c.args.emitter.now c.args.node.now c.requires c.in-Block.decls c.in-Block.items c.deref-in-Block.result.now c.deref-in-Block-2.result.now c.in-Block.is c.deref-in-Block.ensures.value c.deref-in-Block-2.ensures.value)

pub phrases::emit_phrase-returns-in-Block : goal.phrases::emit_phrase-returns-in-Block
phrases::emit_phrase-returns-in-Block t c = IfOk-weaker c.emit_block.result _ _ (λ m h. block_coded c.args.here c.args.mode c.args.node.now c.in-Block.decls c.in-Block.items c.deref-in-Block.result.now c.deref-in-Block-2.result.now c.in-Block.is c.deref-in-Block.ensures.value c.deref-in-Block-2.ensures.value h) c.emit_block.ensures

pub phrases::emit_link-emit_branches-requires : goal.phrases::emit_link-emit_branches-requires
phrases::emit_link-emit_branches-requires t c =
    let written = written_sized c.args.link.now.right _ c.written.result c.written.ensures refl in
    let missing = missing_sized c.constant.result c.constant.ensures.phrase in
    (omega (arith, written, missing), (constant_ready c.args.emitter.now c.constant.result _ c.constant.ensures.phrase c.constant.ensures.missing c.requires.fits, written_ready c.args.emitter.now c.args.link.now.right _ c.written.result c.written.ensures refl c.requires))

pub phrases::emit_link-returns-in-Some-true : goal.phrases::emit_link-returns-in-Some-true
phrases::emit_link-returns-in-Some-true t c = IfOk-weaker c.emit_branches.result _ _ (λ m h. or_done m c.args.here c.args.logical c.args.link.now.op _ c.constant.result c.written.result (sym c.deciding.ensures ∙ c.in-Some-true.is ∙ ap Some c.in-Some-true.field-0-test) c.constant.ensures.phrase c.constant.ensures.missing c.written.ensures h) c.emit_branches.ensures

pub phrases::emit_link-emit_branches-requires-in-Some-false : goal.phrases::emit_link-emit_branches-requires-in-Some-false
phrases::emit_link-emit_branches-requires-in-Some-false t c =
    let written = written_sized c.args.link.now.right _ c.written-in-Some-false.result c.written-in-Some-false.ensures refl in
    let missing = missing_sized c.constant-in-Some-false.result c.constant-in-Some-false.ensures.phrase in
    (omega (arith, written, missing), (written_ready c.args.emitter.now c.args.link.now.right _ c.written-in-Some-false.result c.written-in-Some-false.ensures refl c.requires, constant_ready c.args.emitter.now c.constant-in-Some-false.result _ c.constant-in-Some-false.ensures.phrase c.constant-in-Some-false.ensures.missing c.requires.fits))

pub phrases::emit_link-returns-in-Some-false : goal.phrases::emit_link-returns-in-Some-false
phrases::emit_link-returns-in-Some-false t c = IfOk-weaker c.emit_branches-in-Some-false.result _ _ (λ m h. and_done m c.args.here c.args.logical c.args.link.now.op _ c.written-in-Some-false.result c.constant-in-Some-false.result (sym c.deciding.ensures ∙ c.in-Some-false.is ∙ ap Some c.in-Some-false.field-0-test) c.written-in-Some-false.ensures c.constant-in-Some-false.ensures.phrase c.constant-in-Some-false.ensures.missing h) c.emit_branches-in-Some-false.ensures

pub phrases::emit_link-emit_operand-requires : goal.phrases::emit_link-emit_operand-requires
phrases::emit_link-emit_operand-requires t c = (omega arith, c.requires)

pub phrases::emit_link-returns-in-None : goal.phrases::emit_link-returns-in-None
phrases::emit_link-returns-in-None t c = IfOk-weaker c.emit_operand.result _ _ (λ m h. link_done m c.args.here c.args.logical c.args.link.now.op c.args.link.now.right (sym c.deciding.ensures ∙ c.in-None.is) h) c.emit_operand.ensures

pub names::emit_named-emit_parts-requires : goal.names::emit_named-emit_parts-requires
names::emit_named-emit_parts-requires t c =
    (omega arith, variable_goes_on c.args.here c.args.mode c.args.node.now c.args.name c.in-Variable.kind c.standing-standing.result c.args.lists.now c.length_of.result c.standing-standing.ensures c.in-Variable.is c.requires (let same : c.in-Variable.standing ≡ c.standing-standing.result = cc (c.in-Variable.standing-is) in subst (λ y. c.name.new.self ≡ with_name c.args.emitter.now c.args.here c.args.mode y) same c.in_ok-marks-in-Variable.ensures.made) c.length_of.ensures)

pub names::emit_named-returns-in-Procedure : goal.names::emit_named-returns-in-Procedure
names::emit_named-returns-in-Procedure t c = IfOk-weaker c.emit_called.result _ _ (λ m h. h c.args.mode) c.emit_called.ensures

pub names::emit_named-returns-in_ok-marks-in-Variable : goal.names::emit_named-returns-in_ok-marks-in-Variable
names::emit_named-returns-in_ok-marks-in-Variable t c = IfOk-weaker c.emit_parts.result _ _ (λ k more. variable_told c.args.here c.args.mode c.args.node.now c.args.name c.in-Variable.kind c.standing-standing.result c.args.lists.now c.length_of.result c.standing-standing.ensures c.in-Variable.is c.requires (let same : c.in-Variable.standing ≡ c.standing-standing.result = cc (c.in-Variable.standing-is) in subst (λ y. c.name.new.self ≡ with_name c.args.emitter.now c.args.here c.args.mode y) same c.in_ok-marks-in-Variable.ensures.made) c.length_of.ensures c.in_ok-marks-in-Variable.ensures.none more) c.emit_parts.ensures

pub names::emit_named-emit_called-requires : goal.names::emit_named-emit_called-requires
names::emit_named-emit_called-requires t c =
    (omega arith, (c.requires, search rules))

pub names::emit_named-emit_applied-requires : goal.names::emit_named-emit_applied-requires
names::emit_named-emit_applied-requires t c =
    (omega arith, (c.requires, search rules))

pub names::emit_applied-emit_with_list-requires : goal.names::emit_applied-emit_with_list-requires
names::emit_applied-emit_with_list-requires t c = (
  let h = parted_size c.args.lists.now c.in-Some.actuals.now c.in-Some.rest.now c.in-Some.ensures in omega (arith, h),
  (
    (planned_ready c.args.emitter.now c.args.here c.args.mode c.args.node.now c.args.name c.args.lists.now c.in-Some.actuals.now c.in-Some.rest.now (phrase_count c.in-Some.actuals.now) c.in-Some-list_plan.plan c.in-Some.ensures
        (plan_told c.args.here c.args.mode c.standing-standing.result (standing_of c.args.emitter.now.symbols.names c.args.name) c.in_ok-count-in-Some.count (phrase_count c.in-Some.actuals.now) c.list_plan.result c.in-Some-list_plan.plan c.standing-standing.ensures c.in_ok-count-in-Some.ensures c.list_plan.ensures c.in-Some-list_plan.is) c.requires.codable).0,
    (
      plan_fits c.args.emitter.now c.requires.codable.fits c.args.here c.args.mode (standing_of c.args.emitter.now.symbols.names c.args.name) (phrase_count c.in-Some.actuals.now) c.in-Some-list_plan.plan (standing_fits (scene c.args.emitter.now) c.requires.codable.fits.scene c.args.name)
          (plan_told c.args.here c.args.mode c.standing-standing.result (standing_of c.args.emitter.now.symbols.names c.args.name) c.in_ok-count-in-Some.count (phrase_count c.in-Some.actuals.now) c.list_plan.result c.in-Some-list_plan.plan c.standing-standing.ensures c.in_ok-count-in-Some.ensures c.list_plan.ensures c.in-Some-list_plan.is),
      plan_plain c.args.here c.args.mode (standing_of c.args.emitter.now.symbols.names c.args.name) (phrase_count c.in-Some.actuals.now) c.in-Some-list_plan.plan (plan_told c.args.here c.args.mode c.standing-standing.result (standing_of c.args.emitter.now.symbols.names c.args.name) c.in_ok-count-in-Some.count (phrase_count c.in-Some.actuals.now) c.list_plan.result c.in-Some-list_plan.plan c.standing-standing.ensures c.in_ok-count-in-Some.ensures c.list_plan.ensures c.in-Some-list_plan.is),
    ),
  ),
)

pub names::emit_applied-emit_parts_of_given-requires : goal.names::emit_applied-emit_parts_of_given-requires
names::emit_applied-emit_parts_of_given-requires t c = (
  let h = parted_size c.args.lists.now c.in-Some.actuals.now c.in-Some.rest.now c.in-Some.ensures in omega (arith, h),
  ready_after c.in_ok-marks-in-Some-list_plan.ensures.stays (
      planned_ready c.args.emitter.now c.args.here c.args.mode c.args.node.now c.args.name c.args.lists.now c.in-Some.actuals.now c.in-Some.rest.now (phrase_count c.in-Some.actuals.now) c.in-Some-list_plan.plan c.in-Some.ensures
      (plan_told c.args.here c.args.mode c.standing-standing.result (standing_of c.args.emitter.now.symbols.names c.args.name) c.in_ok-count-in-Some.count (phrase_count c.in-Some.actuals.now) c.list_plan.result c.in-Some-list_plan.plan c.standing-standing.ensures c.in_ok-count-in-Some.ensures c.list_plan.ensures c.in-Some-list_plan.is) c.requires.codable).1,
)

pub names::emit_applied-emit_name_alone-requires-in-None : goal.names::emit_applied-emit_name_alone-requires-in-None
names::emit_applied-emit_name_alone-requires-in-None t c = alone_fit c.args.emitter.now c.requires.codable.fits c.args.mode c.args.name c.standing-standing.result c.standing-standing.ensures

pub names::emit_applied-returns-in_ok-marks-in-Some-list_plan : goal.names::emit_applied-returns-in_ok-marks-in-Some-list_plan
names::emit_applied-returns-in_ok-marks-in-Some-list_plan t c = IfOk-weaker c.emit_parts_of_given.result _ _ (λ k more. applied_done c.args.here c.args.mode c.args.node.now c.args.name c.args.lists.now c.in-Some.actuals.now c.in-Some.rest.now c.in-Some-list_plan.plan c.in-Some.ensures
    (plan_told c.args.here c.args.mode c.standing-standing.result (standing_of c.args.emitter.now.symbols.names c.args.name) c.in_ok-count-in-Some.count (phrase_count c.in-Some.actuals.now) c.list_plan.result c.in-Some-list_plan.plan c.standing-standing.ensures c.in_ok-count-in-Some.ensures c.list_plan.ensures c.in-Some-list_plan.is) c.requires.codable
    (subst (λ h. CodesPlan c.args.emitter.now c.emit_with_list.new.emitter h c.in-Some-list_plan.plan c.in-Some.actuals.now c.in_ok-marks-in-Some-list_plan.marks) c.place-inner.ensures c.in_ok-marks-in-Some-list_plan.ensures) more) c.emit_parts_of_given.ensures

pub names::emit_applied-returns-in-None-list_plan : goal.names::emit_applied-returns-in-None-list_plan
names::emit_applied-returns-in-None-list_plan t c = both_ensured c.emit_name_alone.result (λ m. CodesNode c.args.emitter.now c.emit_name_alone.new.emitter c.args.here c.args.mode (named_node c.args.node.now c.args.name c.args.lists.now) m) c.emit_name_alone.ensures.none c.emit_name_alone.ensures.made
    (λ m none made. alone_told c.args.here c.args.mode c.args.node.now c.args.name c.args.lists.now c.standing-standing.result c.standing-standing.ensures c.requires.codable c.requires.applied
    (inr (none_told c.args.here c.args.mode c.standing-standing.result c.in_ok-count-in-Some.count c.list_plan.result c.list_plan.ensures c.in-None-list_plan.is)) none made)

pub names::emit_applied-returns-in-None : goal.names::emit_applied-returns-in-None
names::emit_applied-returns-in-None t c = both_ensured c.emit_name_alone-in-None.result (λ m. CodesNode c.args.emitter.now c.emit_name_alone-in-None.new.emitter c.args.here c.args.mode (named_node c.args.node.now c.args.name c.args.lists.now) m) c.emit_name_alone-in-None.ensures.none c.emit_name_alone-in-None.ensures.made
    (λ m none made. alone_told c.args.here c.args.mode c.args.node.now c.args.name c.args.lists.now c.standing-standing.result c.standing-standing.ensures c.requires.codable c.requires.applied (inl c.in-None.ensures) none made)

pub names::emit_parts-loop-list-init : goal.names::emit_parts-loop-list-init
names::emit_parts-loop-list-init t c = string_begun c.args.emitter.now c.args.here c.args.whole c.args.lists.now c.args.marks c.requires

pub names::emit_parts-returns-in_default : goal.names::emit_parts-returns-in_default
names::emit_parts-returns-in_default t c = string_stopped c.args.here c.loop-list.whole (whole_string c.args.emitter.now c.args.whole c.args.lists.now) c.args.lists.now c.loop-list.list-index c.list-item.result c.loop-list-test.true c.list-item.is (is_no_part c.list-item.result c.in_default.field-0 c.in_default.is) c.loop-list.invariant

pub names::emit_parts-emit_before-requires : goal.names::emit_parts-emit_before-requires
names::emit_parts-emit_before-requires t c = (
  let h = start_smaller c.args.lists.now c.loop-list.list-index c.list-item.result c.loop-list-test.true c.list-item.is c.deref.result.now c.in-Part.length (is_part c.list-item.result c.in-Part.start c.in-Part.length c.deref.result.now c.in-Part.is c.deref.ensures) in omega (arith, h),
  (
    part_begins c.args.here c.loop-list.whole (whole_string c.args.emitter.now c.args.whole c.args.lists.now) c.args.lists.now c.loop-list.list-index c.list-item.result c.loop-list-test.true c.list-item.is c.deref.result.now c.in-Part.length (is_part c.list-item.result c.in-Part.start c.in-Part.length c.deref.result.now c.in-Part.is c.deref.ensures) c.loop-list.invariant c.in_ok-append.ensures.appended,
    (
      tt,
      refl,
    ),
  ),
)

pub names::emit_parts-loop-list-preserved : goal.names::emit_parts-loop-list-preserved
names::emit_parts-loop-list-preserved t c = string_more c.args.here c.loop-list.whole c.in_ok-count.count (whole_string c.args.emitter.now c.args.whole c.args.lists.now) c.args.lists.now c.loop-list.list-index c.list-item.result c.loop-list-test.true c.list-item.is c.deref.result.now c.in-Part.length (is_part c.list-item.result c.in-Part.start c.in-Part.length c.deref.result.now c.in-Part.is c.deref.ensures) c.in_ok-count.ensures c.loop-list.invariant c.in_ok-append.ensures.appended c.in_ok-inside.ensures c.max-marks.result c.max-marks.ensures

pub names::emit_parts-returns : goal.names::emit_parts-returns
names::emit_parts-returns t c = string_done c.args.here c.loop-list.whole (whole_string c.args.emitter.now c.args.whole c.args.lists.now) c.args.lists.now c.loop-list.list-index c.loop-list-test.false c.loop-list.invariant

pub names::emit_called-emit_call-requires : goal.names::emit_called-emit_call-requires
names::emit_called-emit_call-requires t c = (
  let h = called_size c.args.lists.now c.called_lists.result.0.now c.called_lists.result.1.now c.called_lists.ensures in omega (arith, h),
  (
    call_known c.args.emitter.now c.begin.new.self c.args.here c.args.node.now c.args.name c.standing.result (standing.Procedure c.in-Procedure.procedure) false c.in-Procedure.procedure.result c.args.lists.now c.called_lists.result.0.now c.called_lists.result.1.now c.standing.ensures c.in-Procedure.is refl c.called_lists.ensures c.requires.codable c.in_ok-begin.ensures,
    (
      call_stands c.args.emitter.now c.begin.new.self c.args.here c.args.node.now c.args.name c.standing.result (standing.Procedure c.in-Procedure.procedure) false c.in-Procedure.procedure.result c.args.lists.now c.called_lists.result.0.now c.called_lists.result.1.now c.standing.ensures c.in-Procedure.is refl c.called_lists.ensures c.requires.codable c.in_ok-begin.ensures,
      call_begins c.args.emitter.now c.begin.new.self c.args.here c.args.node.now c.args.name c.standing.result (standing.Procedure c.in-Procedure.procedure) false c.in-Procedure.procedure.result c.args.lists.now c.called_lists.result.0.now c.called_lists.result.1.now c.standing.ensures c.in-Procedure.is refl c.called_lists.ensures c.requires.codable c.in_ok-begin.ensures,
    ),
  ),
)

pub names::emit_called-emit_parts-requires : goal.names::emit_called-emit_parts-requires
names::emit_called-emit_parts-requires t c =
    (let h = called_size c.args.lists.now c.called_lists.result.0.now c.called_lists.result.1.now c.called_lists.ensures in omega (arith, h), call_goes_on c.args.emitter.now c.begin.new.self c.args.here c.args.node.now c.args.name c.standing.result (standing.Procedure c.in-Procedure.procedure) false c.in-Procedure.procedure.result c.args.lists.now c.called_lists.result.0.now c.called_lists.result.1.now c.standing.ensures c.in-Procedure.is refl c.called_lists.ensures c.requires.codable c.in_ok-begin.ensures c.length_given.result c.length_given.ensures c.in_ok-marks-in-Procedure.ensures)

pub names::emit_called-emit_call_through-requires : goal.names::emit_called-emit_call_through-requires
names::emit_called-emit_call_through-requires t c = (
  let h = called_size c.args.lists.now c.called_lists.result.0.now c.called_lists.result.1.now c.called_lists.ensures in omega (arith, h),
  (
    call_known c.args.emitter.now c.begin.new.self c.args.here c.args.node.now c.args.name c.standing.result (standing.ProcedureFormal c.in-ProcedureFormal.result c.in-ProcedureFormal.entry) true c.in-ProcedureFormal.result c.args.lists.now c.called_lists.result.0.now c.called_lists.result.1.now c.standing.ensures c.in-ProcedureFormal.is refl c.called_lists.ensures c.requires.codable c.in_ok-begin.ensures,
    (
      subst (λ y. IsProcedureFormal y c.in-ProcedureFormal.entry) (sym (call_stands c.args.emitter.now c.begin.new.self c.args.here c.args.node.now c.args.name c.standing.result (standing.ProcedureFormal c.in-ProcedureFormal.result c.in-ProcedureFormal.entry) true c.in-ProcedureFormal.result c.args.lists.now c.called_lists.result.0.now c.called_lists.result.1.now c.standing.ensures c.in-ProcedureFormal.is refl c.called_lists.ensures c.requires.codable c.in_ok-begin.ensures)) refl,
      call_begins c.args.emitter.now c.begin.new.self c.args.here c.args.node.now c.args.name c.standing.result (standing.ProcedureFormal c.in-ProcedureFormal.result c.in-ProcedureFormal.entry) true c.in-ProcedureFormal.result c.args.lists.now c.called_lists.result.0.now c.called_lists.result.1.now c.standing.ensures c.in-ProcedureFormal.is refl c.called_lists.ensures c.requires.codable c.in_ok-begin.ensures,
    ),
  ),
)

pub names::emit_called-emit_parts-requires-in-ProcedureFormal : goal.names::emit_called-emit_parts-requires-in-ProcedureFormal
names::emit_called-emit_parts-requires-in-ProcedureFormal t c =
    (let h = called_size c.args.lists.now c.called_lists.result.0.now c.called_lists.result.1.now c.called_lists.ensures in omega (arith, h), call_goes_on c.args.emitter.now c.begin.new.self c.args.here c.args.node.now c.args.name c.standing.result (standing.ProcedureFormal c.in-ProcedureFormal.result c.in-ProcedureFormal.entry) true c.in-ProcedureFormal.result c.args.lists.now c.called_lists.result.0.now c.called_lists.result.1.now c.standing.ensures c.in-ProcedureFormal.is refl c.called_lists.ensures c.requires.codable c.in_ok-begin.ensures c.length_given-in-ProcedureFormal.result c.length_given-in-ProcedureFormal.ensures c.in_ok-marks-in-ProcedureFormal.ensures)

pub names::emit_called-returns-in_ok-marks-in-Procedure : goal.names::emit_called-returns-in_ok-marks-in-Procedure
names::emit_called-returns-in_ok-marks-in-Procedure t c = IfOk-weaker c.emit_parts.result _ _ (λ k more. call_told c.args.emitter.now c.begin.new.self c.args.here c.args.node.now c.args.name c.standing.result (standing.Procedure c.in-Procedure.procedure) false c.in-Procedure.procedure.result c.args.lists.now c.called_lists.result.0.now c.called_lists.result.1.now c.standing.ensures c.in-Procedure.is refl c.called_lists.ensures c.requires.codable c.in_ok-begin.ensures
    c.in_statement-inner.result c.length_given.result c.in_statement-inner.ensures c.length_given.ensures c.in_ok-marks-in-Procedure.ensures more) c.emit_parts.ensures

pub names::emit_called-returns-in_ok-marks-in-ProcedureFormal : goal.names::emit_called-returns-in_ok-marks-in-ProcedureFormal
names::emit_called-returns-in_ok-marks-in-ProcedureFormal t c = IfOk-weaker c.emit_parts-in-ProcedureFormal.result _ _ (λ k more. call_told c.args.emitter.now c.begin.new.self c.args.here c.args.node.now c.args.name c.standing.result (standing.ProcedureFormal c.in-ProcedureFormal.result c.in-ProcedureFormal.entry) true c.in-ProcedureFormal.result c.args.lists.now c.called_lists.result.0.now c.called_lists.result.1.now c.standing.ensures c.in-ProcedureFormal.is refl c.called_lists.ensures c.requires.codable c.in_ok-begin.ensures
    c.in_statement-inner.result c.length_given-in-ProcedureFormal.result c.in_statement-inner.ensures c.length_given-in-ProcedureFormal.ensures c.in_ok-marks-in-ProcedureFormal.ensures more) c.emit_parts-in-ProcedureFormal.ensures

pub lists::emit_with_list-emit_listed-requires : goal.lists::emit_with_list-emit_listed-requires
lists::emit_with_list-emit_listed-requires t c =
    (omega arith, use_ready c.args.here c.args.plan.begins c.args.plan.list c.in-Some.list c.args.actuals.now c.in-Some.is c.requires.ready.fits.code c.in_ok-begin_list.ensures c.requires.ready)

pub lists::emit_with_list-emit_before-requires : goal.lists::emit_with_list-emit_before-requires
lists::emit_with_list-emit_before-requires t c = (
  let h = first_smaller c.args.actuals.now c.first_phrase.result c.first_phrase.ensures in omega (arith, h),
  (
    first_held_ready c.args.here c.args.plan.begins c.args.plan.list c.first_phrase.result c.args.actuals.now c.in-None.is c.first_phrase.ensures c.requires.ready.fits.code c.in_ok-begin_list.ensures c.requires.ready,
    (
      fits_there c.args.plan.does (begun_stays c.args.here c.args.plan.begins c.requires.ready.fits.code c.in_ok-begin_list.ensures) c.requires.fits,
      c.requires.plain,
    ),
  ),
)

pub lists::emit_with_list-returns-in_ok-append-in-Some : goal.lists::emit_with_list-returns-in_ok-append-in-Some
lists::emit_with_list-returns-in_ok-append-in-Some t c = listed_plan c.args.here c.args.plan c.in-Some.list c.args.actuals.now c.in-Some.is c.requires.plain c.requires.fits c.requires.ready.fits.code c.in_ok-begin_list.ensures c.in_ok-marks-in-Some.ensures c.in_ok-append-in-Some.ensures.appended

pub lists::emit_with_list-returns-in-None : goal.lists::emit_with_list-returns-in-None
lists::emit_with_list-returns-in-None t c = IfOk-weaker c.emit_before.result _ _ (λ m part. alone_plan c.args.here c.args.plan c.first_phrase.result c.args.actuals.now c.in-None.is c.first_phrase.ensures c.requires.ready.fits.code c.in_ok-begin_list.ensures part) c.emit_before.ensures

pub lists::emit_parts_of_given-emit_parts-requires : goal.lists::emit_parts_of_given-emit_parts-requires
lists::emit_parts_of_given-emit_parts-requires t c =
    (omega arith, subst (λ o. IsCodableLists c.args.emitter.now c.args.rest.now (PartsSuit o)) c.in-Some.is c.requires)

pub lists::emit_listed-loop-actual-init : goal.lists::emit_listed-loop-actual-init
lists::emit_listed-loop-actual-init t c = record { left = listed_begun c.args.emitter.now c.args.here c.args.list c.args.actuals.now c.requires.fits.code; within = omega arith }

pub lists::emit_listed-emit_phrase-requires : goal.lists::emit_listed-emit_phrase-requires
lists::emit_listed-emit_phrase-requires t c = (
  let h = listed_smaller c.args.actuals.now c.loop-actual.actual-index c.actual-item.result c.in-Phrase.node c.in-Phrase.is c.loop-actual-test.true c.actual-item.is in omega (arith, h),
  ready_after c.loop-actual.invariant.left.stays (phrase_listed c.args.emitter.now c.args.list c.args.actuals.now c.loop-actual.actual-index c.actual-item.result c.in-Phrase.node c.in-Phrase.is c.loop-actual-test.true c.actual-item.is c.requires),
)

pub lists::emit_listed-behind-requires-clause-kind : goal.lists::emit_listed-behind-requires-clause-kind
lists::emit_listed-behind-requires-clause-kind t c = gives_fit_behind c.args.here c.mode.result c.in-Phrase.node c.in_ok-inside.ensures
    (ready_after c.loop-actual.invariant.left.stays (phrase_listed c.args.emitter.now c.args.list c.args.actuals.now c.loop-actual.actual-index c.actual-item.result c.in-Phrase.node c.in-Phrase.is c.loop-actual-test.true c.actual-item.is c.requires))

pub lists::emit_listed-loop-actual-preserved : goal.lists::emit_listed-loop-actual-preserved
lists::emit_listed-loop-actual-preserved t c = let within : c.loop-actual.position + 1 ≤ c.loop-actual.actual-index + 1 = omega (arith, c.loop-actual.invariant.within) in
    record {
      left = listed_next c.args.here c.args.list c.loop-actual.position c.args.actuals.now c.loop-actual.actual-index c.actual-item.result c.in-Phrase.node c.mode.result c.max-marks.result c.in-Phrase.is c.loop-actual-test.true c.actual-item.is
          (ready_after c.loop-actual.invariant.left.stays (phrase_listed c.args.emitter.now c.args.list c.args.actuals.now c.loop-actual.actual-index c.actual-item.result c.in-Phrase.node c.in-Phrase.is c.loop-actual-test.true c.actual-item.is c.requires))
          c.mode.ensures (larger_was c.loop-actual.marks c.in_ok-inside.inside c.max-marks.result c.max-marks.ensures) c.loop-actual.invariant.left c.in_ok-inside.ensures c.in_ok-behind.ensures;
      within = within;
    }

pub lists::emit_listed-loop-actual-preserved-in_default : goal.lists::emit_listed-loop-actual-preserved-in_default
lists::emit_listed-loop-actual-preserved-in_default t c = let within : c.loop-actual.position ≤ c.loop-actual.actual-index + 1 = omega (arith, c.loop-actual.invariant.within) in
    record {
      left = listed_past c.args.here c.args.list c.loop-actual.position c.args.actuals.now c.loop-actual.actual-index c.actual-item.result c.in_default.field-0 c.in_default.is c.loop-actual-test.true c.actual-item.is c.loop-actual.invariant.left;
      within = within;
    }

pub lists::emit_listed-returns : goal.lists::emit_listed-returns
lists::emit_listed-returns t c = listed_done c.args.here c.args.list c.loop-actual.position c.args.actuals.now c.loop-actual.actual-index c.loop-actual-test.false c.loop-actual.invariant.left

pub names::emit_named-emit_standard-requires : goal.names::emit_named-emit_standard-requires
names::emit_named-emit_standard-requires t c =
    (omega arith, (c.requires, sym c.standing-standing.ensures ∙ c.in-Standard.is))

pub names::emit_standard-emit_write-requires : goal.names::emit_standard-emit_write-requires
names::emit_standard-emit_write-requires t c =
    (omega arith, (c.requires.codable, c.requires.stands ∙ ap standing.Standard c.in-Write.is))

pub names::emit_standard-emit_applied-requires : goal.names::emit_standard-emit_applied-requires
names::emit_standard-emit_applied-requires t c =
    (omega arith, (c.requires.codable, standard_applied c.args.emitter.now c.args.name c.args.standard c.requires.stands c.in_default.not-Write))

pub writes::emit_write-append-requires : goal.writes::emit_write-append-requires
writes::emit_write-append-requires t c = tt

pub writes::emit_write-emit_writes-requires : goal.writes::emit_write-emit_writes-requires
writes::emit_write-emit_writes-requires t c = (
  let h = parted_size c.args.lists.now c.in-Some.actuals.now c.in-Some.field-0-1.now c.in-Some.ensures in omega (arith, h),
  writes_ready c.args.emitter.now c.args.here c.args.node.now c.args.name c.args.first c.args.lists.now c.in-Some.actuals.now c.in-Some.field-0-1.now c.in-Some.ensures c.requires.codable c.requires.stands c.in_statement-inner.result c.in_statement-inner.ensures c.in_ok-append-in-Some.ensures.appended,
)

pub writes::emit_write-returns-in_ok-append-in-Some : goal.writes::emit_write-returns-in_ok-append-in-Some
writes::emit_write-returns-in_ok-append-in-Some t c = IfOk-weaker c.emit_writes.result _ _ (λ m h. writes_coded c.args.emitter.now c.args.here c.args.node.now c.args.name c.args.first c.args.lists.now c.in-Some.actuals.now c.in-Some.field-0-1.now c.in-Some.ensures c.requires.codable c.requires.stands c.args.mode c.in_statement-inner.result c.in_statement-inner.ensures c.in_ok-append-in-Some.ensures.appended h) c.emit_writes.ensures

pub writes::emit_write-returns-in-None : goal.writes::emit_write-returns-in-None
writes::emit_write-returns-in-None t c = both_ensured c.name.result (λ m. CodesNode c.args.emitter.now c.name.new.self c.args.here c.args.mode (named_node c.args.node.now c.args.name c.args.lists.now) m) c.name.ensures.none c.name.ensures.made
    (λ m none made. write_alone c.args.here c.args.mode c.args.node.now c.args.name c.args.first c.args.lists.now c.standing-standing.result c.standing-standing.ensures c.requires.codable c.requires.stands c.in-None.ensures none made)

pub writes::emit_writes-loop-actual-init : goal.writes::emit_writes-loop-actual-init
writes::emit_writes-loop-actual-init t c = writes_begun c.args.emitter.now c.args.here c.args.first c.args.actuals.now c.requires.fits.code

pub writes::emit_writes-emit_written-requires : goal.writes::emit_writes-emit_written-requires
writes::emit_writes-emit_written-requires t c = (
  let h = listed_smaller c.args.actuals.now c.loop-actual.actual-index c.actual-item.result c.in-Phrase.node c.in-Phrase.is c.loop-actual-test.true c.actual-item.is in omega (arith, h),
  ready_after c.loop-actual.invariant.left.stays (written_listed c.args.emitter.now c.args.actuals.now c.loop-actual.actual-index c.actual-item.result c.in-Phrase.node c.in-Phrase.is c.loop-actual-test.true c.actual-item.is c.requires),
)

pub writes::emit_writes-loop-actual-preserved : goal.writes::emit_writes-loop-actual-preserved
writes::emit_writes-loop-actual-preserved t c =
    writes_told c.args.here c.args.first c.args.actuals.now c.loop-actual.actual-index c.actual-item.result c.in-Phrase.node c.in-Phrase.is c.loop-actual-test.true c.actual-item.is (larger_was c.loop-actual.marks c.in_ok-inside.inside c.max-marks.result c.max-marks.ensures) c.loop-actual.invariant c.in_ok-inside.ensures

pub writes::emit_writes-loop-actual-preserved-in_default : goal.writes::emit_writes-loop-actual-preserved-in_default
writes::emit_writes-loop-actual-preserved-in_default t c =
    writes_over c.args.here c.args.first c.args.actuals.now c.loop-actual.actual-index c.actual-item.result c.in_default.field-0 c.in_default.is c.loop-actual-test.true c.actual-item.is c.loop-actual.invariant

pub writes::emit_writes-append-requires : goal.writes::emit_writes-append-requires
writes::emit_writes-append-requires t c = end_fits c.loop-actual.emitter.code.given c.loop-actual.emitter.code.added c.end.result c.loop-actual.writing.position c.end.ensures

pub writes::emit_writes-returns : goal.writes::emit_writes-returns
writes::emit_writes-returns t c = IfOk-weaker c.further.result _ _ (λ k total. writes_done c.args.here c.args.first c.args.actuals.now c.loop-actual.actual-index c.loop-actual-test.false c.loop-actual.invariant (c.in_ok-append.ensures.appended ∙ ap (appended c.loop-actual.emitter c.loop-actual.writing.here) c.end.ensures) (total ∙ ap (λ n. n + c.loop-actual.marks) c.marks.ensures)) c.further.ensures

pub writes::emit_written-emit_phrase-requires : goal.writes::emit_written-emit_phrase-requires
writes::emit_written-emit_phrase-requires t c =
    let told = set_told c.args.emitter.now.symbols.names c.args.node.now c.setting.result (c.in-Some.width, c.in-Some.value) c.in-Some.is c.setting.ensures.width c.setting.ensures.value in (
      let h = set_smaller c.args.emitter.now c.args.node.now c.requires c.in-Some.width c.in-Some.value.now told.0 told.1 in omega (arith, h),
      set_ready c.args.emitter.now c.args.node.now c.requires c.in-Some.width c.in-Some.value.now told.0 told.1,
    )

pub writes::emit_written-returns-in_ok-opened-in-Some : goal.writes::emit_written-returns-in_ok-opened-in-Some
writes::emit_written-returns-in_ok-opened-in-Some t c =
    let told = set_told c.args.emitter.now.symbols.names c.args.node.now c.setting.result (c.in-Some.width, c.in-Some.value) c.in-Some.is c.setting.ensures.width c.setting.ensures.value in
    set_coded c.args.emitter.now c.args.node.now c.requires c.in-Some.width c.in-Some.value.now told.0 told.1 c.args.writing _ c.in_ok-marks-in-Some.ensures c.in_ok-append-in-Some.ensures.appended c.in_ok-opened-in-Some.ensures

pub writes::emit_written-emit_phrase-requires-in-None : goal.writes::emit_written-emit_phrase-requires-in-None
writes::emit_written-emit_phrase-requires-in-None t c =
    (omega arith, placed_ready c.args.emitter.now c.args.node.now c.requires (placed_told c.args.emitter.now.symbols.names c.args.node.now c.setting.result c.in-None.is c.setting.ensures.width))

pub writes::emit_written-returns-in_ok-append-in-None : goal.writes::emit_written-returns-in_ok-append-in-None
writes::emit_written-returns-in_ok-append-in-None t c =
    placed_coded c.args.emitter.now c.args.node.now c.requires (placed_told c.args.emitter.now.symbols.names c.args.node.now c.setting.result c.in-None.is c.setting.ensures.width) c.args.writing _ c.in_ok-marks-in-None.ensures c.in_ok-append-in-None.ensures.appended c.behind_value.ensures

pub actuals::emit_content-emit_listed-requires : goal.actuals::emit_content-emit_listed-requires
actuals::emit_content-emit_listed-requires t c =
    let ready = subst (λ (k : ActualKind). IsCodableKind c.args.emitter.now k) c.in-Subarray.is c.requires.codable in
    let size : kind_size c.args.kind ≡ kind_size (actual_kinds.Subarray c.in-Subarray.name c.in-Subarray.subscripts) = ap kind_size c.in-Subarray.is in
    (omega (arith, size), subscripts_ready c.args.emitter.now c.in-Subarray.subscripts.now ready.1)

pub actuals::emit_content-returns-in_ok-take_part-in-Subarray : goal.actuals::emit_content-returns-in_ok-take_part-in-Subarray
actuals::emit_content-returns-in_ok-take_part-in-Subarray t c =
    subarray_coded c.args.here c.args.mode c.args.kind c.in-Subarray.name c.in-Subarray.subscripts c.in-Subarray.is c.in_ok-marks-in-Subarray.ensures c.in_ok-take_part-in-Subarray.ensures

pub actuals::emit_value-returns : goal.actuals::emit_value-returns
actuals::emit_value-returns t c = value_done c.args.here c.args.of c.requires.kind c.in_ok-marks.ensures c.in_ok-append.ensures.appended c.in_ok-append-2.ensures.appended

pub actuals::emit_text-emit_content-requires : goal.actuals::emit_text-emit_content-requires
actuals::emit_text-emit_content-requires t c =
    let head = c.in_ok-head.head in
    let opened = c.in_ok-text.ensures.opened in
    (omega arith, (inside_fits c.args.here head c.requires.fits c.in_ok-head.ensures.fits opened, inside_codable c.args.here head c.args.kind c.requires.fits c.in_ok-head.ensures.fits opened c.requires.codable))

pub actuals::emit_text-close_text-requires-clause-head : goal.actuals::emit_text-close_text-requires-clause-head
actuals::emit_text-close_text-requires-clause-head t c =
    let head = c.in_ok-head.head in
    (closing c.args.emitter.now c.args.here head (actual_in (scene c.args.emitter.now) c.args.kind) c.in_ok-text.text c.in_ok-text.ensures.text
    (inside_is c.args.emitter.now c.args.here c.in_ok-inner_text.field-0 head c.args.kind c.in_ok-text.ensures.opened c.in_ok-inner_text.ensures c.in_ok-marks.ensures)).0

pub actuals::emit_text-returns-clause-coded : goal.actuals::emit_text-returns-clause-coded
actuals::emit_text-returns-clause-coded t c =
    let head = c.in_ok-head.head in
    closed_text c.args.here head (actual_in (scene c.args.emitter.now) c.args.kind) c.in_ok-text.text c.requires.fits.code c.in_ok-head.ensures c.in_ok-text.ensures.text
    (inside_is c.args.emitter.now c.args.here c.in_ok-inner_text.field-0 head c.args.kind c.in_ok-text.ensures.opened c.in_ok-inner_text.ensures c.in_ok-marks.ensures) c.in_ok-close_text.ensures

pub actuals::emit_actual-emit_value-requires : goal.actuals::emit_actual-emit_value-requires
actuals::emit_actual-emit_value-requires t c =
    let kind = c.actual_kind-kind.result in
    let size : kind_size kind ≤ node_size c.args.node.now = kind_smaller c.args.node.now kind c.actual_kind-kind.ensures.within in
    (omega (arith, size), (c.requires.codable.fits, (c.actual_kind-kind.ensures.codable, found_fits c.args.emitter.now.code.given kind c.args.formal _ c.in-Value.ensures c.requires.formal)))

pub actuals::emit_actual-emit_text-requires : goal.actuals::emit_actual-emit_text-requires
actuals::emit_actual-emit_text-requires t c =
    let kind = c.actual_kind-kind.result in
    let size : kind_size kind ≤ node_size c.args.node.now = kind_smaller c.args.node.now kind c.actual_kind-kind.ensures.within in
    (omega (arith, size), (c.requires.codable.fits, c.actual_kind-kind.ensures.codable))

pub actuals::emit_actual-emit_text-requires-in-Thunk : goal.actuals::emit_actual-emit_text-requires-in-Thunk
actuals::emit_actual-emit_text-requires-in-Thunk t c =
    let kind = c.actual_kind-kind.result in
    let size : kind_size kind ≤ node_size c.args.node.now = kind_smaller c.args.node.now kind c.actual_kind-kind.ensures.within in
    (omega (arith, size), (c.requires.codable.fits, c.actual_kind-kind.ensures.codable))

pub actuals::emit_actual-emit_content-requires : goal.actuals::emit_actual-emit_content-requires
actuals::emit_actual-emit_content-requires t c =
    let kind = c.actual_kind-kind.result in
    let size : kind_size kind ≤ node_size c.args.node.now = kind_smaller c.args.node.now kind c.actual_kind-kind.ensures.within in
    (omega (arith, size), (c.requires.codable.fits, c.actual_kind-kind.ensures.codable))

pub actuals::emit_actual-returns-in-Reserve : goal.actuals::emit_actual-returns-in-Reserve
actuals::emit_actual-returns-in-Reserve t c =
    let actual = actual_in (scene c.args.emitter.now) c.actual_kind-kind.result in
    none_marked c.alone.result c.alone.ensures.none c.alone.ensures.appended
    (λ q. passed_done c.args.here c.actual_kind-kind.result c.args.formal _ _ c.in-Reserve.ensures c.actual_kind-kind.ensures.actual c.requires.passed (reserve_done c.args.here actual c.requires.codable.fits q))

pub actuals::emit_actual-returns-in_ok-aside-in-Aside : goal.actuals::emit_actual-returns-in_ok-aside-in-Aside
actuals::emit_actual-returns-in_ok-aside-in-Aside t c =
    let text = c.in_ok-text-in-Aside in
    let actual = actual_in (scene c.args.emitter.now) c.actual_kind-kind.result in
    passed_done c.args.here c.actual_kind-kind.result c.args.formal _ _ c.in-Aside.ensures c.actual_kind-kind.ensures.actual c.requires.passed
    (aside_done c.args.here actual c.in-Aside.of text.text.head text.ensures.head (found_fits c.args.emitter.now.code.given c.actual_kind-kind.result c.args.formal _ c.in-Aside.ensures c.requires.formal) text.ensures.coded c.in_ok-aside-in-Aside.ensures)

pub actuals::emit_actual-returns-in_ok-thunk-in-Thunk : goal.actuals::emit_actual-returns-in_ok-thunk-in-Thunk
actuals::emit_actual-returns-in_ok-thunk-in-Thunk t c =
    let text = c.in_ok-text-in-Thunk in
    let actual = actual_in (scene c.args.emitter.now) c.actual_kind-kind.result in
    passed_done c.args.here c.actual_kind-kind.result c.args.formal _ _ c.in-Thunk.ensures c.actual_kind-kind.ensures.actual c.requires.passed
    (thunk_done c.args.here actual c.in-Thunk.of c.in-Thunk.is_variable text.text.head text.ensures.head (found_fits c.args.emitter.now.code.given c.actual_kind-kind.result c.args.formal _ c.in-Thunk.ensures c.requires.formal) text.ensures.coded c.in_ok-thunk-in-Thunk.ensures)

pub actuals::emit_actual-returns-in-HandOn : goal.actuals::emit_actual-returns-in-HandOn
actuals::emit_actual-returns-in-HandOn t c =
    IfOk-weaker c.hand_on.result _ _ (λ m part. passed_done c.args.here c.actual_kind-kind.result c.args.formal _ _ c.in-HandOn.ensures c.actual_kind-kind.ensures.actual c.requires.passed part) c.hand_on.ensures

pub actuals::emit_actual-returns-in_ok-append-in-Subarray : goal.actuals::emit_actual-returns-in_ok-append-in-Subarray
actuals::emit_actual-returns-in_ok-append-in-Subarray t c =
    let actual = actual_in (scene c.args.emitter.now) c.actual_kind-kind.result in
    passed_done c.args.here c.actual_kind-kind.result c.args.formal _ _ c.in-Subarray.ensures c.actual_kind-kind.ensures.actual c.requires.passed (part_pushed c.args.here actual c.in_ok-marks-in-Subarray.ensures c.in_ok-append-in-Subarray.ensures.appended)

pub actuals::emit_actual-returns-in-Stuck : goal.actuals::emit_actual-returns-in-Stuck
actuals::emit_actual-returns-in-Stuck t c =
    let actual = actual_in (scene c.args.emitter.now) c.actual_kind-kind.result in
    none_marked c.alone-in-Stuck.result c.alone-in-Stuck.ensures.none c.alone-in-Stuck.ensures.appended
    (λ q. passed_done c.args.here c.actual_kind-kind.result c.args.formal _ _ c.in-Stuck.ensures c.actual_kind-kind.ensures.actual c.requires.passed (stuck_done c.args.here actual c.requires.codable.fits q))

pub calls::emit_texts-actual_kind-kind-requires : goal.calls::emit_texts-actual_kind-kind-requires
calls::emit_texts-actual_kind-kind-requires t c = texts_ready c.in-Phrase.node _ (texts_node c.args.actuals.now c.loop-actual.actual-index c.actual-item.result c.in-Phrase.node c.in-Phrase.is c.loop-actual-test.true c.actual-item.is c.loop-actual.invariant)

pub calls::emit_texts-emit_text-requires : goal.calls::emit_texts-emit_text-requires
calls::emit_texts-emit_text-requires t c =
    let less = actual_smaller c.args.actuals.now c.loop-actual.actual-index c.actual-item.result c.in-Phrase.node c.in-Phrase.is c.loop-actual-test.true c.actual-item.is in
    let within = kind_smaller c.in-Phrase.node c.actual_kind-kind.result c.actual_kind-kind.ensures.within in
    let left = texts_node c.args.actuals.now c.loop-actual.actual-index c.actual-item.result c.in-Phrase.node c.in-Phrase.is c.loop-actual-test.true c.actual-item.is c.loop-actual.invariant in
    (omega (arith, less, within), ((texts_ready c.in-Phrase.node _ left).fits, c.actual_kind-kind.ensures.codable))

pub calls::emit_texts-loop-actual-preserved : goal.calls::emit_texts-loop-actual-preserved
calls::emit_texts-loop-actual-preserved t c =
    texts_more c.in-Phrase.node _ _ c.push.new.self c.in_ok-text.text.head c.in_ok-most.most c.max-marks.result c.in_ok-most.ensures (max_was c.loop-actual.marks c.in_ok-most.most c.max-marks.result c.max-marks.ensures) c.actual_kind-kind.ensures.actual c.in_ok-text.ensures.head c.in_ok-text.ensures.coded c.in_ok-push.ensures.items
    (texts_node c.args.actuals.now c.loop-actual.actual-index c.actual-item.result c.in-Phrase.node c.in-Phrase.is c.loop-actual-test.true c.actual-item.is c.loop-actual.invariant)

pub calls::emit_texts-returns : goal.calls::emit_texts-returns
calls::emit_texts-returns t c = texts_done (texts_end c.args.actuals.now c.loop-actual.actual-index c.loop-actual-test.false c.loop-actual.invariant)

pub calls::emit_texts-loop-actual-preserved-in_default : goal.calls::emit_texts-loop-actual-preserved-in_default
calls::emit_texts-loop-actual-preserved-in_default t c = texts_past c.args.actuals.now c.loop-actual.actual-index c.actual-item.result c.in_default.field-0 c.in_default.is c.loop-actual-test.true c.actual-item.is c.loop-actual.invariant

pub calls::emit_in_line-returns-in_default-formal : goal.calls::emit_in_line-returns-in_default-formal
calls::emit_in_line-returns-in_default-formal t c = absurd (line_found c.in-Phrase.node _ (sym c.in_default-formal.ensures) (line_node c.args.actuals.now c.loop-actual.actual-index c.actual-item.result c.in-Phrase.node c.in-Phrase.is c.loop-actual-test.true c.actual-item.is c.loop-actual.invariant))

pub calls::emit_in_line-emit_actual-requires : goal.calls::emit_in_line-emit_actual-requires
calls::emit_in_line-emit_actual-requires t c =
    let less = actual_smaller c.args.actuals.now c.loop-actual.actual-index c.actual-item.result c.in-Phrase.node c.in-Phrase.is c.loop-actual-test.true c.actual-item.is in
    let left = line_node c.args.actuals.now c.loop-actual.actual-index c.actual-item.result c.in-Phrase.node c.in-Phrase.is c.loop-actual-test.true c.actual-item.is c.loop-actual.invariant in
    let known = line_ready c.in-Phrase.node _ c.in-Some.formal (sym c.in-Some.ensures) left in
    (omega (arith, less), (line_actual c.in-Phrase.node _ c.in-Some.formal c.push.new.self (sym c.in-Some.ensures) left, (known.formal, known.passed)))

pub calls::emit_in_line-loop-actual-preserved : goal.calls::emit_in_line-loop-actual-preserved
calls::emit_in_line-loop-actual-preserved t c =
    line_more c.in-Phrase.node _ c.in-Some.formal c.push.new.self c.in_ok-begin.begin c.in_ok-most.most c.max-marks.result c.in_ok-most.ensures c.max-marks.ensures (sym c.in-Some.ensures) c.in_ok-begin.ensures c.in_ok-push.ensures.items c.in_ok-inside.ensures
    (line_node c.args.actuals.now c.loop-actual.actual-index c.actual-item.result c.in-Phrase.node c.in-Phrase.is c.loop-actual-test.true c.actual-item.is c.loop-actual.invariant)

pub calls::emit_in_line-returns : goal.calls::emit_in_line-returns
calls::emit_in_line-returns t c = line_done (line_end c.args.actuals.now c.loop-actual.actual-index c.loop-actual-test.false c.loop-actual.invariant)

pub calls::emit_in_line-loop-actual-preserved-in_default : goal.calls::emit_in_line-loop-actual-preserved-in_default
calls::emit_in_line-loop-actual-preserved-in_default t c = line_past c.args.actuals.now c.loop-actual.actual-index c.actual-item.result c.in_default.field-0 c.in_default.is c.loop-actual-test.true c.actual-item.is c.loop-actual.invariant

pub calls::emit_back-returns-in_default : goal.calls::emit_back-returns-in_default
calls::emit_back-returns-in_default t c = back_other c.args.emitter.now c.args.here c.args.formal c.args.text c.actual_kind.result _ (formal_type_view c.args.emitter.now.code.given c.args.of) c.requires.fits.code c.in_default.not-Given c.actual_kind.ensures.actual

pub calls::emit_back-returns-in_default-gives : goal.calls::emit_back-returns-in_default-gives
calls::emit_back-returns-in_default-gives t c = back_statement c.args.emitter.now c.args.here c.args.formal c.args.text c.in-Given.given _ (formal_type_view c.args.emitter.now.code.given c.args.of) c.requires.fits.code c.in_default-gives.is c.in-Given.ensures.actual

pub calls::emit_back-emit_perhaps-requires : goal.calls::emit_back-emit_perhaps-requires
calls::emit_back-emit_perhaps-requires t c =
    let size : perhaps_size c.in-Given.given.phrase ≤ node_size c.args.node.now = kind_smaller c.args.node.now (actual_kinds.Given c.in-Given.given) c.in-Given.ensures.within in
    (omega (arith, size), given_branch c.args.emitter.now c.in-Given.given c.in-Given.ensures.codable)

pub calls::emit_back-append-requires : goal.calls::emit_back-append-requires
calls::emit_back-append-requires t c = back_fits c.in-Given.given c.in-Simple.kind c.in-Simple.is c.in-Given.ensures.codable.1 c.in_ok-marks-in-Result.ensures.stays

pub calls::emit_back-returns-in_ok-append-in-Result : goal.calls::emit_back-returns-in_ok-append-in-Result
calls::emit_back-returns-in_ok-append-in-Result t c =
    let fits = back_fits c.in-Given.given c.in-Simple.kind c.in-Simple.is c.in-Given.ensures.codable.1 (stays_itself none_own c.args.emitter.now c.requires.fits.code) in
    IfOk-weaker c.further.result _ _ (λ n one. back_result_done c.args.here c.args.formal c.args.text c.in-Given.given _ c.in-Simple.kind c.in-Result.field-0 c.args.of n c.in-Result.is one fits c.in-Simple.is c.in-Given.ensures.actual c.in_ok-marks-in-Result.ensures c.in_ok-append-in-Result.ensures.appended) c.further.ensures

pub calls::emit_back-returns-in_ok-append-in-ValueResult-3 : goal.calls::emit_back-returns-in_ok-append-in-ValueResult-3
calls::emit_back-returns-in_ok-append-in-ValueResult-3 t c =
    let fits = back_fits c.in-Given.given c.in-Simple.kind c.in-Simple.is c.in-Given.ensures.codable.1 (stays_itself none_own c.args.emitter.now c.requires.fits.code) in
    back_value_result_done c.args.here c.args.formal c.args.text c.in-Given.given _ c.in-Simple.kind c.in-ValueResult.field-0 c.args.of c.in-ValueResult.is c.requires.fits.code fits c.in-Simple.is c.in-Given.ensures.actual c.in_ok-append-in-ValueResult.ensures.appended c.in_ok-append-in-ValueResult-2.ensures.appended c.in_ok-append-in-ValueResult-3.ensures.appended

pub calls::emit_back-returns-in_default-of : goal.calls::emit_back-returns-in_default-of
calls::emit_back-returns-in_default-of t c = back_other_formal c.args.emitter.now c.args.here c.args.formal c.args.text c.in-Given.given _ c.in-Simple.kind c.args.of c.requires.fits.code c.in-Simple.is c.in_default-of.not-Result c.in_default-of.not-ValueResult c.in-Given.ensures.actual

pub calls::emit_backs-returns-in_default-formal : goal.calls::emit_backs-returns-in_default-formal
calls::emit_backs-returns-in_default-formal t c = absurd (backs_found c.in-Phrase.node _ (sym c.in_default-formal.ensures) (backs_node c.args.actuals.now c.loop-actual.actual-index c.actual-item.result c.in-Phrase.node c.in-Phrase.is c.loop-actual-test.true c.actual-item.is c.loop-actual.invariant))

pub calls::emit_backs-index-text-requires : goal.calls::emit_backs-index-text-requires
calls::emit_backs-index-text-requires t c =
    let inside = backs_inside c.in-Phrase.node _ c.in-Some.formal (sym c.in-Some.ensures) (backs_node c.args.actuals.now c.loop-actual.actual-index c.actual-item.result c.in-Phrase.node c.in-Phrase.is c.loop-actual-test.true c.actual-item.is c.loop-actual.invariant) in
    search (rules, inside)

pub calls::emit_backs-emit_back-requires : goal.calls::emit_backs-emit_back-requires
calls::emit_backs-emit_back-requires t c =
    let less = actual_smaller c.args.actuals.now c.loop-actual.actual-index c.actual-item.result c.in-Phrase.node c.in-Phrase.is c.loop-actual-test.true c.actual-item.is in
    let left = backs_node c.args.actuals.now c.loop-actual.actual-index c.actual-item.result c.in-Phrase.node c.in-Phrase.is c.loop-actual-test.true c.actual-item.is c.loop-actual.invariant in
    (omega (arith, less), (backs_ready c.in-Phrase.node _ c.in-Some.formal (sym c.in-Some.ensures) left).actual)

pub calls::emit_backs-loop-actual-preserved : goal.calls::emit_backs-loop-actual-preserved
calls::emit_backs-loop-actual-preserved t c =
    backs_more c.in-Phrase.node _ c.in-Some.formal c.index-text.result.now c.in_ok-place.place c.max-marks.result _ c.max-marks.ensures (sym c.in-Some.ensures) c.index-text.ensures c.in_ok-place.ensures c.in_ok-back.ensures
    (backs_node c.args.actuals.now c.loop-actual.actual-index c.actual-item.result c.in-Phrase.node c.in-Phrase.is c.loop-actual-test.true c.actual-item.is c.loop-actual.invariant)

pub calls::emit_backs-returns : goal.calls::emit_backs-returns
calls::emit_backs-returns t c = backs_told c.args.here c.in_ok-called.called c.args.procedure c.args.pending c.in_ok-entries.entries c.args.actuals.now c.in_ok-entries.ensures c.in_ok-called.ensures (backs_done (backs_end c.args.actuals.now c.loop-actual.actual-index c.loop-actual-test.false c.loop-actual.invariant))

pub calls::emit_backs-loop-actual-preserved-in_default : goal.calls::emit_backs-loop-actual-preserved-in_default
calls::emit_backs-loop-actual-preserved-in_default t c = backs_past c.args.actuals.now c.loop-actual.actual-index c.actual-item.result c.in_default.field-0 c.in_default.is c.loop-actual-test.true c.actual-item.is c.loop-actual.invariant

pub calls::emit_call-emit_in_line-requires : goal.calls::emit_call-emit_in_line-requires
calls::emit_call-emit_in_line-requires t c = (
  omega arith,
  call_ready c.args.emitter.now c.args.here c.args.name c.args.procedure c.args.actuals.now c.requires.known c.requires.procedure c.requires.ready,
)

pub calls::emit_call-emit_backs-requires : goal.calls::emit_call-emit_backs-requires
calls::emit_call-emit_backs-requires t c =
    let all : c.len-pending.result ≡ length c.args.emitter.now.pending.items = search rules in (
      omega arith,
      (
        entered_ready c.args.here c.args.site c.args.name c.args.procedure c.args.actuals.now c.links-links.result c.requires.known c.requires.procedure c.requires.ready c.in_ok-ready.ensures c.in_ok-append.ensures.appended,
        entered_heads c.args.here c.args.site c.args.procedure c.args.actuals.now c.len-pending.result c.links-links.result all c.in_ok-ready.ensures c.in_ok-append.ensures.appended,
      ),
    )

pub calls::emit_call-returns : goal.calls::emit_call-returns
calls::emit_call-returns t c =
    let all : c.len-pending.result ≡ length c.args.emitter.now.pending.items = search rules in
    let done = call_done c.args.here c.args.site c.args.name c.args.procedure c.args.actuals.now c.len-pending.result c.links-links.result c.truncate.new.self c.requires.known c.requires.procedure c.requires.ready all c.links-links.ensures c.in_ok-ready.ensures c.in_ok-append.ensures.appended c.in_ok-back.ensures c.in_ok-append-2.ensures.appended c.truncate.ensures.items in
    codes_most _ _ (c.max.ensures ∙ done.most) done

pub calls::emit_call_through-emit_texts-requires : goal.calls::emit_call_through-emit_texts-requires
calls::emit_call_through-emit_texts-requires t c = (
  omega arith,
  through_ready c.args.emitter.now c.args.name c.args.actuals.now c.requires.ready,
)

pub calls::emit_call_through-compared-requires : goal.calls::emit_call_through-compared-requires
calls::emit_call_through-compared-requires t c =
    let all : c.len-pending.result ≡ length c.args.emitter.now.pending.items = search rules in
    pending_within c.len-pending.result all c.in_ok-marks.ensures

pub calls::emit_call_through-append-requires : goal.calls::emit_call_through-append-requires
calls::emit_call_through-append-requires t c = compared_in c.in_ok-call.call c.in_ok-call.ensures.number c.in_ok-call.ensures.added

pub calls::emit_call_through-prepare-requires-clause-fits : goal.calls::emit_call_through-prepare-requires-clause-fits
calls::emit_call_through-prepare-requires-clause-fits t c = compared_fits c.args.here c.in_ok-call.call c.in_ok-marks.ensures.codes.stays.fits c.in_ok-call.ensures.number c.in_ok-call.ensures.added c.in_ok-append.ensures.appended

pub calls::emit_call_through-prepare-requires-clause-call : goal.calls::emit_call_through-prepare-requires-clause-call
calls::emit_call_through-prepare-requires-clause-call t c = compared_at c.args.here c.in_ok-call.call c.in_ok-call.ensures.number c.in_ok-call.ensures.added c.in_ok-append.ensures.appended

pub calls::emit_call_through-prepare-requires-clause-count : goal.calls::emit_call_through-prepare-requires-clause-count
calls::emit_call_through-prepare-requires-clause-count t c =
    let all : c.len-pending.result ≡ length c.args.emitter.now.pending.items = search rules in
    compared_count c.args.here c.args.actuals.now c.len-pending.result c.in_ok-call.call _ all c.in_ok-marks.ensures c.in_ok-call.ensures.number c.in_ok-call.ensures.added c.in_ok-append.ensures.appended c.in_ok-phrase_count.ensures

pub calls::emit_call_through-append-requires-2 : goal.calls::emit_call_through-append-requires-2
calls::emit_call_through-append-requires-2 t c =
    let all : c.len-pending.result ≡ length c.args.emitter.now.pending.items = search rules in
    inside_e c.args.here c.args.site c.args.entry c.args.actuals.now c.len-pending.result c.links-links.result c.in_ok-call.call c.in_ok-end.end all c.links-links.ensures c.in_ok-marks.ensures c.in_ok-end.ensures c.in_ok-call.ensures.number c.in_ok-call.ensures.added c.in_ok-append.ensures.appended c.in_ok-prepare.ensures refl

pub calls::emit_call_through-place_backs-requires-clause-ready : goal.calls::emit_call_through-place_backs-requires-clause-ready
calls::emit_call_through-place_backs-requires-clause-ready t c =
    let all : c.len-pending.result ≡ length c.args.emitter.now.pending.items = search rules in
    through_backs_ready c.args.here c.args.site c.args.entry c.args.actuals.now c.len-pending.result c.links-links.result c.in_ok-call.call c.in_ok-end.end all c.links-links.ensures c.in_ok-marks.ensures c.in_ok-end.ensures c.in_ok-call.ensures.number c.in_ok-call.ensures.added c.in_ok-append.ensures.appended c.in_ok-prepare.ensures c.in_ok-append-2.ensures.appended (through_ready c.args.emitter.now c.args.name c.args.actuals.now c.requires.ready)

pub calls::emit_call_through-place_backs-requires-clause-heads : goal.calls::emit_call_through-place_backs-requires-clause-heads
calls::emit_call_through-place_backs-requires-clause-heads t c =
    let all : c.len-pending.result ≡ length c.args.emitter.now.pending.items = search rules in
    through_backs_heads c.args.here c.args.site c.args.entry c.args.actuals.now c.len-pending.result c.links-links.result c.in_ok-call.call c.in_ok-end.end all c.links-links.ensures c.in_ok-marks.ensures c.in_ok-end.ensures c.in_ok-call.ensures.number c.in_ok-call.ensures.added c.in_ok-append.ensures.appended c.in_ok-prepare.ensures c.in_ok-append-2.ensures.appended

pub calls::emit_call_through-returns : goal.calls::emit_call_through-returns
calls::emit_call_through-returns t c =
    let all : c.len-pending.result ≡ length c.args.emitter.now.pending.items = search rules in
    call_through_done c.args.here c.args.site c.args.entry c.args.actuals.now c.len-pending.result c.links-links.result c.in_ok-call.call c.in_ok-end.end all c.links-links.ensures c.in_ok-marks.ensures c.in_ok-end.ensures c.in_ok-call.ensures.number c.in_ok-call.ensures.added c.in_ok-append.ensures.appended c.in_ok-prepare.ensures c.in_ok-append-2.ensures.appended c.args.name c.truncate.new.self c.requires.known c.requires.formal (through_ready c.args.emitter.now c.args.name c.args.actuals.now c.requires.ready) c.in_ok-place_backs.ensures c.in_ok-append-3.ensures.appended c.truncate.ensures.items

pub blocks::emit_block-append-requires : goal.blocks::emit_block-append-requires
blocks::emit_block-append-requires t c = tt

pub blocks::emit_block-append-requires-2 : goal.blocks::emit_block-append-requires-2
blocks::emit_block-append-requires-2 t c = tt

pub blocks::emit_block-declare_block-requires : goal.blocks::emit_block-declare_block-requires
blocks::emit_block-declare_block-requires t c =
    names_numbered c.args.here c.in_statement-here.result c.in_ok-outside.outside c.in_ok-targets.targets c.in_ok-count.count c.args.node.now c.args.decls.now c.args.items.now c.requires c.in_ok-begin.ensures c.in_ok-append.ensures.appended c.in_ok-outside.ensures c.in_ok-targets.ensures.rest

pub blocks::emit_block-emit_scope-requires : goal.blocks::emit_block-emit_scope-requires
blocks::emit_block-emit_scope-requires t c = (
  omega arith,
  (
    block_decls_ready c.args.here c.in_statement-here.result c.in_ok-outside.outside c.in_ok-targets.targets c.in_ok-count.count c.args.node.now c.args.decls.now c.args.items.now c.requires c.in_ok-begin.ensures c.in_ok-append.ensures.appended c.in_ok-outside.ensures c.in_ok-targets.ensures.rest
        (ap (λ (v : SymbolsView). let x : Emitter = record c.add_targets.new.self { symbols = v } in x) c.in_ok-declare_block.ensures),
    (
      block_items_ready c.args.here c.in_statement-here.result c.in_ok-outside.outside c.in_ok-targets.targets c.in_ok-count.count c.args.node.now c.args.decls.now c.args.items.now c.requires c.in_ok-begin.ensures c.in_ok-append.ensures.appended c.in_ok-outside.ensures c.in_ok-targets.ensures.rest
          (ap (λ (v : SymbolsView). let x : Emitter = record c.add_targets.new.self { symbols = v } in x) c.in_ok-declare_block.ensures),
      (
        block_declared c.args.here c.in_statement-here.result c.in_ok-outside.outside c.in_ok-targets.targets c.in_ok-count.count c.args.node.now c.args.decls.now c.args.items.now c.requires c.in_ok-begin.ensures c.in_ok-append.ensures.appended c.in_ok-outside.ensures c.in_ok-targets.ensures.rest
            (ap (λ (v : SymbolsView). let x : Emitter = record c.add_targets.new.self { symbols = v } in x) c.in_ok-declare_block.ensures),
        (
          block_reserved c.args.here c.in_statement-here.result c.in_ok-outside.outside c.in_ok-targets.targets c.in_ok-count.count c.args.node.now c.args.decls.now c.args.items.now c.requires c.in_ok-begin.ensures c.in_ok-append.ensures.appended c.in_ok-outside.ensures c.in_ok-targets.ensures.rest
              (ap (λ (v : SymbolsView). let x : Emitter = record c.add_targets.new.self { symbols = v } in x) c.in_ok-declare_block.ensures)
              (let a = c.in_ok-count.ensures in let b = c.in_ok-procedures.ensures in let d = c.in_ok-number.ensures in omega (arith, a, b, d)) c.in_ok-targets.ensures.first c.in_ok-targets.ensures.added,
          (
            ap (λ (h : Here). h.statement) c.in_ok-inside.ensures,
            ap (λ (h : Here). h.level) c.in_ok-inside.ensures,
          ),
        ),
      ),
    ),
  ),
)

pub blocks::emit_block-take_back-requires : goal.blocks::emit_block-take_back-requires
blocks::emit_block-take_back-requires t c = c.mark-mark.ensures.standard

pub blocks::emit_block-returns : goal.blocks::emit_block-returns
blocks::emit_block-returns t c =
    block_closed c.args.here c.in_statement-here.result c.in_ok-outside.outside c.in_ok-targets.targets c.in_ok-count.count c.args.node.now c.args.decls.now c.args.items.now c.requires c.in_ok-begin.ensures c.in_ok-append.ensures.appended c.in_ok-outside.ensures c.in_ok-targets.ensures.rest
    (ap (λ (v : SymbolsView). let x : Emitter = record c.add_targets.new.self { symbols = v } in x) c.in_ok-declare_block.ensures)
    (let a = c.in_ok-count.ensures in let b = c.in_ok-procedures.ensures in let d = c.in_ok-number.ensures in omega (arith, a, b, d)) c.in_ok-targets.ensures.first c.in_ok-targets.ensures.added
    mode.Value c.in_ok-inside.inside c.in_ok-entries.entries c.mark-mark.result c.in_statement-here.ensures c.in_ok-inside.ensures (c.in_ok-entries.ensures ∙ ap (λ n. n + 1) c.in_ok-entry_count.ensures) c.mark-mark.ensures.all c.in_ok-most.ensures c.in_ok-append-2.ensures.appended
    (ap (λ (v : SymbolsView). let x : Emitter = record c.append-2.new.self { symbols = v } in x) c.take_back.ensures) c.in_ok-marks.ensures

pub blocks::emit_scope-emit_decls-requires : goal.blocks::emit_scope-emit_decls-requires
blocks::emit_scope-emit_decls-requires t c = (omega arith, (c.requires.decls, (c.requires.declared, (decls_reserved c.args.emitter.now c.args.targets c.args.decls.now c.args.items.now c.requires.reserved, (c.requires.places, c.requires.levels)))))

pub blocks::emit_scope-append-requires : goal.blocks::emit_scope-append-requires
blocks::emit_scope-append-requires t c = tt

pub blocks::emit_scope-emit_items-requires : goal.blocks::emit_scope-emit_items-requires
blocks::emit_scope-emit_items-requires t c = (
  omega arith,
  (
    scope_items_ready c.args.outside c.args.inside c.args.targets c.in_ok-behind.behind c.args.decls.now c.args.items.now c.requires.reserved c.in_ok-first.ensures c.in_ok-append.ensures.appended (c.in_ok-behind.ensures ∙ ap (λ n. c.args.targets + n) c.in_ok-procedures.ensures) c.requires.items,
    scope_items_reserved c.args.outside c.args.inside c.args.targets c.in_ok-behind.behind c.args.decls.now c.args.items.now c.requires.reserved c.in_ok-first.ensures c.in_ok-append.ensures.appended (c.in_ok-behind.ensures ∙ ap (λ n. c.args.targets + n) c.in_ok-procedures.ensures),
  ),
)

pub blocks::emit_scope-returns : goal.blocks::emit_scope-returns
blocks::emit_scope-returns t c =
    scope_closed c.args.outside c.args.inside c.args.targets c.in_ok-behind.behind c.args.decls.now c.args.items.now c.requires.reserved c.in_ok-first.ensures c.in_ok-append.ensures.appended (c.in_ok-behind.ensures ∙ ap (λ n. c.args.targets + n) c.in_ok-procedures.ensures) c.in_ok-rest.ensures c.max.ensures

pub blocks::emit_decls-emit_decl-requires : goal.blocks::emit_decls-emit_decl-requires
blocks::emit_decls-emit_decl-requires t c =
    let less = decl_less c.args.decls.now c.loop-decl.decl-index c.decl-item.result c.loop-decl-test.true c.decl-item.is in (
      omega (arith, less),
      (
        decl_ready_there c.args.outside c.loop-decl.there c.args.inside c.args.targets c.loop-decl.target c.args.decls.now c.loop-decl.decl-index c.decl-item.result c.loop-decl-test.true c.decl-item.is c.loop-decl.invariant c.requires.ready,
        (
          decl_declared_there c.args.outside c.loop-decl.there c.args.inside c.args.targets c.loop-decl.target c.args.decls.now c.loop-decl.decl-index c.decl-item.result c.loop-decl-test.true c.decl-item.is c.loop-decl.invariant c.requires.declared,
          (
            decl_reserved_there c.args.outside c.loop-decl.there c.args.inside c.args.targets c.loop-decl.target c.args.decls.now c.loop-decl.decl-index c.decl-item.result c.loop-decl-test.true c.decl-item.is c.loop-decl.invariant,
            (
              c.requires.places ∙ sym c.loop-decl.invariant.statement,
              c.requires.levels ∙ sym c.loop-decl.invariant.level,
            ),
          ),
        ),
      ),
    )

pub blocks::emit_decls-loop-decl-init : goal.blocks::emit_decls-loop-decl-init
blocks::emit_decls-loop-decl-init t c = decls_begin c.args.emitter.now c.args.outside c.args.inside c.args.targets c.args.decls.now c.requires.ready.fits.code c.requires.reserved

pub blocks::emit_decls-loop-decl-preserved : goal.blocks::emit_decls-loop-decl-preserved
blocks::emit_decls-loop-decl-preserved t c =
    decls_step c.args.outside c.loop-decl.there c.args.inside c.args.targets c.loop-decl.target c.args.decls.now c.loop-decl.decl-index c.decl-item.result c.loop-decl-test.true c.decl-item.is c.loop-decl.invariant
    c.in_ok-there.there c.in_ok-target.target c.in_ok-entries.entries c.in_ok-found.ensures c.in_ok-there.ensures (c.in_ok-entries.ensures ∙ c.entries_of.ensures) (c.in_ok-target.ensures ∙ ap (λ n. c.loop-decl.target + n) c.procedures_of.ensures) (max_was c.loop-decl.marks c.in_ok-found.found c.max-marks.result c.max-marks.ensures)

pub blocks::emit_decls-returns : goal.blocks::emit_decls-returns
blocks::emit_decls-returns t c =
    decls_done c.args.outside c.loop-decl.there c.args.inside c.args.targets c.loop-decl.target c.args.decls.now c.loop-decl.decl-index (omega (arith, c.loop-decl-test.false)) c.loop-decl.invariant

pub blocks::emit_decl-variables-requires-clause-fits : goal.blocks::emit_decl-variables-requires-clause-fits
blocks::emit_decl-variables-requires-clause-fits t c = c.requires.ready.fits

pub blocks::emit_decl-variables-requires-clause-known : goal.blocks::emit_decl-variables-requires-clause-known
blocks::emit_decl-variables-requires-clause-known t c =
    simple_known c.args.emitter.now c.in-Simple.field-0 c.in-Simple.names (subst (λ (d : TypedDecl). IsCodableDecls c.args.emitter.now (d ∷ [])) c.in-Simple.is c.requires.ready)

pub blocks::emit_decl-returns-in_ok-variables-in-Simple : goal.blocks::emit_decl-returns-in_ok-variables-in-Simple
blocks::emit_decl-returns-in_ok-variables-in-Simple t c =
    subst (λ (d : TypedDecl). CodesDecls c.args.emitter.now c.variables.new.emitter c.args.outside c.args.inside c.args.target (d ∷ []) 0) (sym c.in-Simple.is)
    (simple_done c.args.outside c.args.inside c.args.target c.in-Simple.field-0 c.in-Simple.names c.in_ok-variables-in-Simple.ensures)

pub blocks::emit_decl-emit_bounds-requires : goal.blocks::emit_decl-emit_bounds-requires
blocks::emit_decl-emit_bounds-requires t c =
    let less = bounds_less_at c.args.decl.now c.in-Array.kind c.in-Array.names c.in-Array.bounds c.deref.result.now c.in-Array.is c.deref.ensures.value in (
      omega (arith, less),
      subst (λ (ys : List TypedBound). IsCodableBounds c.args.emitter.now ys) (sym c.deref.ensures.value)
          (array_bounds c.args.emitter.now c.in-Array.kind c.in-Array.names c.in-Array.bounds (subst (λ (d : TypedDecl). IsCodableDecls c.args.emitter.now (d ∷ [])) c.in-Array.is c.requires.ready)),
    )

pub blocks::emit_decl-arrays-requires-clause-fits : goal.blocks::emit_decl-arrays-requires-clause-fits
blocks::emit_decl-arrays-requires-clause-fits t c = fits_after c.in_ok-marks-in-Array.ensures.stays c.requires.ready.fits

pub blocks::emit_decl-arrays-requires-clause-kind : goal.blocks::emit_decl-arrays-requires-clause-kind
blocks::emit_decl-arrays-requires-clause-kind t c =
    kind_behind c.args.emitter.now c.in-Array.kind c.in-Array.names c.in-Array.bounds (subst (λ (d : TypedDecl). IsCodableDecls c.args.emitter.now (d ∷ [])) c.in-Array.is c.requires.ready) c.in_ok-marks-in-Array.ensures.stays

pub blocks::emit_decl-arrays-requires-clause-known : goal.blocks::emit_decl-arrays-requires-clause-known
blocks::emit_decl-arrays-requires-clause-known t c =
    names_behind c.args.emitter.now c.in-Array.kind c.in-Array.names c.in-Array.bounds (subst (λ (d : TypedDecl). IsCodableDecls c.args.emitter.now (d ∷ [])) c.in-Array.is c.requires.ready) c.in_ok-marks-in-Array.ensures.stays

pub blocks::emit_decl-returns-in_ok-arrays-in-Array : goal.blocks::emit_decl-returns-in_ok-arrays-in-Array
blocks::emit_decl-returns-in_ok-arrays-in-Array t c =
    subst (λ (d : TypedDecl). CodesDecls c.args.emitter.now c.arrays.new.emitter c.args.outside c.args.inside c.args.target (d ∷ []) c.in_ok-marks-in-Array.marks) (sym c.in-Array.is)
    (array_done c.args.outside c.args.inside c.args.target c.in-Array.kind c.in-Array.names c.in-Array.bounds
    (subst (λ (ys : List TypedBound). CodesBounds c.args.emitter.now c.emit_bounds.new.emitter c.args.outside ys c.in_ok-marks-in-Array.marks) c.deref.ensures.value c.in_ok-marks-in-Array.ensures)
    c.in_ok-arrays-in-Array.ensures)

pub blocks::emit_decl-emit_procedure-requires : goal.blocks::emit_decl-emit_procedure-requires
blocks::emit_decl-emit_procedure-requires t c =
    let less = procedure_less c.args.decl.now c.in-Proc.procedure c.in-Proc.is in (
      omega (arith, less),
      (
        subst (λ (d : TypedDecl). IsCodableDecls c.args.emitter.now (d ∷ [])) c.in-Proc.is c.requires.ready,
        (
          subst (λ (d : TypedDecl). DeclIsDeclared c.args.emitter.now.symbols d) c.in-Proc.is c.requires.declared,
          subst (λ (d : TypedDecl). AreReserved c.args.emitter.now (decls_own c.args.target (d ∷ []))) c.in-Proc.is c.requires.reserved,
        ),
      ),
    )

pub blocks::emit_decl-returns-in-Proc : goal.blocks::emit_decl-returns-in-Proc
blocks::emit_decl-returns-in-Proc t c =
    IfOk-weaker c.emit_procedure.result _ _ (λ m h. subst (λ (d : TypedDecl). CodesDecls c.args.emitter.now c.emit_procedure.new.emitter c.args.outside c.args.inside c.args.target (d ∷ []) m) (sym c.in-Proc.is) (h c.args.outside (sym c.requires.places))) c.emit_procedure.ensures

pub blocks::emit_decl-returns-in-Class : goal.blocks::emit_decl-returns-in-Class
blocks::emit_decl-returns-in-Class t c =
    subst (λ (d : TypedDecl). CodesDecls c.args.emitter.now c.args.emitter.now c.args.outside c.args.inside c.args.target (d ∷ []) 0) (sym c.in-Class.is)
    (class_done c.args.emitter.now c.args.outside c.args.inside c.args.target c.in-Class.field-0 c.requires.ready.fits.code)

pub blocks::emit_bounds-loop-bound-init : goal.blocks::emit_bounds-loop-bound-init
blocks::emit_bounds-loop-bound-init t c =
    remains_all none_own c.args.emitter.now (left_bounds c.args.here c.args.bounds.now) (marks_of_bounds (scene c.args.emitter.now) c.args.bounds.now) c.requires.fits.code

pub blocks::emit_bounds-emit_before-requires : goal.blocks::emit_bounds-emit_before-requires
blocks::emit_bounds-emit_before-requires t c =
    let less = lower_less c.args.bounds.now c.loop-bound.bound-index c.bound-item.result c.loop-bound-test.true c.bound-item.is in (
      omega (arith, less),
      (
        lower_ready c.args.bounds.now c.loop-bound.bound-index c.bound-item.result c.loop-bound-test.true c.bound-item.is c.requires c.loop-bound.invariant,
        (
          tt,
          refl,
        ),
      ),
    )

pub blocks::emit_bounds-emit_before-requires-in-loop-bound : goal.blocks::emit_bounds-emit_before-requires-in-loop-bound
blocks::emit_bounds-emit_before-requires-in-loop-bound t c =
    let less = upper_less c.args.bounds.now c.loop-bound.bound-index c.bound-item.result c.loop-bound-test.true c.bound-item.is in (
      omega (arith, less),
      (
        upper_ready c.args.here c.args.bounds.now c.loop-bound.bound-index c.bound-item.result c.loop-bound-test.true c.bound-item.is c.requires c.loop-bound.invariant c.in_ok-lower.ensures,
        (
          tt,
          refl,
        ),
      ),
    )

pub blocks::emit_bounds-loop-bound-preserved : goal.blocks::emit_bounds-loop-bound-preserved
blocks::emit_bounds-loop-bound-preserved t c =
    let up = c.max.ensures in
    let most = max_was c.loop-bound.marks c.max.result c.max-marks.result c.max-marks.ensures in
    remains_most c.max-marks.result (omega (arith, up, most))
    (bounds_more c.args.here c.args.bounds.now c.loop-bound.bound-index c.bound-item.result c.loop-bound-test.true c.bound-item.is c.loop-bound.invariant c.in_ok-lower.ensures c.in_ok-upper.ensures)

pub blocks::emit_bounds-append-requires : goal.blocks::emit_bounds-append-requires
blocks::emit_bounds-append-requires t c = tt

pub blocks::emit_bounds-returns : goal.blocks::emit_bounds-returns
blocks::emit_bounds-returns t c =
    bounds_done c.args.here c.args.bounds.now c.loop-bound.bound-index c.in_ok-number.field-0 (omega (arith, c.loop-bound-test.false)) (c.in_ok-number.ensures) c.loop-bound.invariant c.in_ok-append.ensures.appended

pub blocks::emit_procedure-declared_as-declared-requires : goal.blocks::emit_procedure-declared_as-declared-requires
blocks::emit_procedure-declared_as-declared-requires t c = c.requires.declared

pub blocks::emit_procedure-open_procedure-requires-clause-ready : goal.blocks::emit_procedure-open_procedure-requires-clause-ready
blocks::emit_procedure-open_procedure-requires-clause-ready t c = c.requires.ready

pub blocks::emit_procedure-open_procedure-requires-clause-formals : goal.blocks::emit_procedure-open_procedure-requires-clause-formals
blocks::emit_procedure-open_procedure-requires-clause-formals t c = c.declared_as-declared.ensures.formals

pub blocks::emit_procedure-open_procedure-requires-clause-reserved : goal.blocks::emit_procedure-open_procedure-requires-clause-reserved
blocks::emit_procedure-open_procedure-requires-clause-reserved t c = let there = c.requires.reserved.there in omega (arith, there)

pub blocks::emit_procedure-emit_body-requires : goal.blocks::emit_procedure-emit_body-requires
blocks::emit_procedure-emit_body-requires t c = (
  omega arith,
  (
    opened_ready c.args.emitter.now c.open_procedure.new.emitter c.args.here c.args.target c.args.procedure.now c.in_ok-opened.opened c.requires.ready c.in_ok-opened.ensures,
    (
      opened_formals c.args.emitter.now c.open_procedure.new.emitter c.args.here c.args.target c.args.procedure.now c.in_ok-opened.opened c.requires.ready c.in_ok-opened.ensures c.declared_as-declared.result c.declared_as-declared.ensures.formals,
      c.declared_as-declared.ensures.counted,
    ),
  ),
)

pub blocks::emit_procedure-close_procedure-requires-clause-kind : goal.blocks::emit_procedure-close_procedure-requires-clause-kind
blocks::emit_procedure-close_procedure-requires-clause-kind t c =
    subst (λ (t : Option SimpleType). KindsFit c.emit_body.new.emitter.code.given t) (sym (result_is c.args.procedure.now))
    (result_fits c.args.emitter.now c.open_procedure.new.emitter c.args.here c.args.target c.args.procedure.now c.in_ok-opened.opened c.requires.ready c.in_ok-opened.ensures c.in_ok-marks.ensures)

pub blocks::emit_procedure-close_procedure-requires-clause-begin : goal.blocks::emit_procedure-close_procedure-requires-clause-begin
blocks::emit_procedure-close_procedure-requires-clause-begin t c = (begin_there c.args.here c.args.target c.args.procedure.now c.in_ok-opened.opened c.in_ok-opened.ensures c.in_ok-marks.ensures).0

pub blocks::emit_procedure-close_procedure-requires-clause-head : goal.blocks::emit_procedure-close_procedure-requires-clause-head
blocks::emit_procedure-close_procedure-requires-clause-head t c = (begin_there c.args.here c.args.target c.args.procedure.now c.in_ok-opened.opened c.in_ok-opened.ensures c.in_ok-marks.ensures).1

pub blocks::emit_procedure-returns : goal.blocks::emit_procedure-returns
blocks::emit_procedure-returns t c =
    let there = c.requires.reserved.there in
    procedure_done c.args.emitter.now c.open_procedure.new.emitter c.args.here c.args.target c.args.procedure.now c.in_ok-opened.opened c.requires.ready c.in_ok-opened.ensures c.in_ok-marks.ensures
    (c.in_ok-close_procedure.ensures ∙ ap (λ (t : Option SimpleType). closed_procedure c.emit_body.new.emitter c.args.here t c.in_ok-opened.opened) (result_is c.args.procedure.now))
    (omega (arith, there))

pub blocks::emit_body-declare_formals-requires : goal.blocks::emit_body-declare_formals-requires
blocks::emit_body-declare_formals-requires t c = body_numbered c.args.emitter.now c.args.procedure.now c.args.declared c.requires.ready

pub blocks::emit_body-emit_phrase-requires : goal.blocks::emit_body-emit_phrase-requires
blocks::emit_body-emit_phrase-requires t c =
    let less = body_less c.args.procedure.now c.deref.result.now c.deref.ensures in (
      omega (arith, less),
      let e : Emitter = c.args.emitter.now in
          subst (λ (n : Node). IsCodable (record e { symbols = c.declare_formals.new.self }) (node_in n)) (sym (c.deref.ensures ∙ body_is c.args.procedure.now))
          (body_ready e (record e { symbols = c.declare_formals.new.self }) c.args.here c.in_ok-inside.inside c.args.procedure.now c.args.declared c.requires.ready c.requires.formals c.in_ok-inside.ensures
          (ap (λ (v : SymbolsView). let x : Emitter = record e { symbols = v } in x) c.in_ok-declare_formals.ensures)),
    )

pub blocks::emit_body-take_back-requires : goal.blocks::emit_body-take_back-requires
blocks::emit_body-take_back-requires t c = c.mark-mark.ensures.standard

pub blocks::emit_body-returns : goal.blocks::emit_body-returns
blocks::emit_body-returns t c =
    let e : Emitter = c.args.emitter.now in
    let after : Emitter = c.emit_phrase.new.emitter in
    let part = subst (λ (n : Node). CodesNode (record e { symbols = c.declare_formals.new.self }) after c.in_ok-inside.inside mode.Value (node_in n) c.in_ok-marks.marks) (c.deref.ensures ∙ body_is c.args.procedure.now) c.in_ok-marks.ensures in
    body_done c.args.here c.in_ok-inside.inside c.args.procedure.now c.args.declared c.requires.ready c.requires.formals c.requires.counted c.in_ok-inside.ensures
    (ap (λ (v : SymbolsView). let x : Emitter = record e { symbols = v } in x) c.in_ok-declare_formals.ensures) part
    (ap (λ (v : SymbolsView). let x : Emitter = record after { symbols = v } in x) (c.take_back.ensures ∙ ap (λ m. taken_back after.symbols m) c.mark-mark.ensures.all))

pub blocks::emit_items-alone-requires : goal.blocks::emit_items-alone-requires
blocks::emit_items-alone-requires t c = tt

pub blocks::emit_items-returns-then-is_empty : goal.blocks::emit_items-returns-then-is_empty
blocks::emit_items-returns-then-is_empty t c =
    instruction_done c.alone.result _ c.alone.ensures.none c.alone.ensures.appended
    (λ e. items_none c.args.here c.args.targets c.args.items.now (no_length (length c.args.items.now) (sym c.is_empty.ensures ∙ c.if-is_empty.true)) c.requires.ready.fits.code e refl)

pub blocks::emit_items-loop-item-init : goal.blocks::emit_items-loop-item-init
blocks::emit_items-loop-item-init t c = items_begin c.args.emitter.now c.args.here c.args.targets c.args.items.now c.requires.ready.fits.code c.requires.reserved

pub blocks::emit_items-place-requires : goal.blocks::emit_items-place-requires
blocks::emit_items-place-requires t c = target_there c.args.here c.args.targets c.loop-item.target c.args.items.now c.loop-item.item-index c.item-item.result c.loop-item-test.true c.item-item.is c.loop-item.invariant

pub blocks::emit_items-emit_item-requires : goal.blocks::emit_items-emit_item-requires
blocks::emit_items-emit_item-requires t c =
    let less = item_less c.args.items.now c.loop-item.item-index c.item-item.result c.loop-item-test.true c.item-item.is in
    (omega (arith, less), item_ready_there c.args.here c.args.targets c.loop-item.target c.args.items.now c.loop-item.item-index c.item-item.result c.loop-item-test.true c.item-item.is c.requires.ready c.loop-item.invariant c.in_ok-place.ensures.rest c.in_ok-place.ensures.placed)

pub blocks::emit_items-loop-item-preserved : goal.blocks::emit_items-loop-item-preserved
blocks::emit_items-loop-item-preserved t c =
    items_step c.args.here c.args.targets c.loop-item.target c.in_ok-target.target c.args.items.now c.loop-item.item-index c.item-item.result c.loop-item-test.true c.item-item.is c.loop-item.invariant c.in_ok-place.ensures.rest c.in_ok-place.ensures.placed c.in_ok-inside.ensures
    c.in_ok-target.ensures (max_was c.loop-item.marks c.in_ok-inside.inside c.max-marks.result c.max-marks.ensures)

pub blocks::emit_items-returns : goal.blocks::emit_items-returns
blocks::emit_items-returns t c =
    items_done c.args.here c.args.targets c.loop-item.target c.args.items.now c.loop-item.item-index (some_length (length c.args.items.now) (sym c.is_empty.ensures ∙ c.if-is_empty.false)) (omega (arith, c.loop-item-test.false)) c.loop-item.invariant

pub blocks::emit_item-alone-requires : goal.blocks::emit_item-alone-requires
blocks::emit_item-alone-requires t c = tt

pub blocks::emit_item-returns-in-Empty : goal.blocks::emit_item-returns-in-Empty
blocks::emit_item-returns-in-Empty t c = instruction_done c.alone.result _ c.alone.ensures.none c.alone.ensures.appended (λ e. empty_item_coded c.args.here c.args.item.now c.in-Empty.field-0 c.in-Empty.is c.requires.fits.code e)

pub blocks::emit_item-emit_phrase-requires : goal.blocks::emit_item-emit_phrase-requires
blocks::emit_item-emit_phrase-requires t c =
    let same = plain_is c.args.item.now c.in-Plain.phrase c.deref.result.now c.in-Plain.is c.deref.ensures in
    let size = item_phrase_size c.args.item.now c.deref.result.now same in
    (omega (arith, size), item_phrase_ready c.args.item.now c.deref.result.now same c.args.emitter.now c.requires)

pub blocks::emit_item-returns-in-Plain : goal.blocks::emit_item-returns-in-Plain
blocks::emit_item-returns-in-Plain t c =
    let same = plain_is c.args.item.now c.in-Plain.phrase c.deref.result.now c.in-Plain.is c.deref.ensures in
    IfOk-weaker c.emit_phrase.result _ _ (λ m h. item_phrase_coded c.args.item.now c.deref.result.now same c.args.here h) c.emit_phrase.ensures

pub blocks::emit_item-emit_phrase-requires-in-Labelled : goal.blocks::emit_item-emit_phrase-requires-in-Labelled
blocks::emit_item-emit_phrase-requires-in-Labelled t c =
    let same = labelled_is c.args.item.now c.in-Labelled.labelled c.deref-in-Labelled.result.now c.deref-in-Labelled-2.result.now c.in-Labelled.is c.deref-in-Labelled.ensures c.deref-in-Labelled-2.ensures in
    let size = item_phrase_size c.args.item.now c.deref-in-Labelled-2.result.now same in
    (omega (arith, size), item_phrase_ready c.args.item.now c.deref-in-Labelled-2.result.now same c.args.emitter.now c.requires)

pub blocks::emit_item-returns-in-Labelled : goal.blocks::emit_item-returns-in-Labelled
blocks::emit_item-returns-in-Labelled t c =
    let same = labelled_is c.args.item.now c.in-Labelled.labelled c.deref-in-Labelled.result.now c.deref-in-Labelled-2.result.now c.in-Labelled.is c.deref-in-Labelled.ensures c.deref-in-Labelled-2.ensures in
    IfOk-weaker c.emit_phrase-in-Labelled.result _ _ (λ m h. item_phrase_coded c.args.item.now c.deref-in-Labelled-2.result.now same c.args.here h) c.emit_phrase-in-Labelled.ensures

pub loops::emit_turn-emit_phrase-requires : goal.loops::emit_turn-emit_phrase-requires
loops::emit_turn-emit_phrase-requires t c = (omega arith, turn_ready c.args.emitter.now c.args.here c.args.x c.in_ok-further.field-0 c.args.body.now c.declare_control.new.self c.in_ok-further.ensures c.in_ok-declare_control.ensures c.requires)

pub loops::emit_turn-returns : goal.loops::emit_turn-returns
loops::emit_turn-returns t c =
    IfOk-weaker c.further-2.result _ _
    (λ n q. turn_done c.args.here c.in_ok-with_entries.field-0 c.args.x c.in_ok-further.field-0 n c.args.body.now c.declare_control.new.self c.take_back.new.self c.mark-mark.result c.requires c.mark-mark.ensures.all c.in_ok-further.ensures c.in_ok-declare_control.ensures c.in_ok-with_entries.ensures c.in_ok-marks.ensures c.take_back.ensures q)
    c.further-2.ensures

pub loops::emit_values-loop-value-init : goal.loops::emit_values-loop-value-init
loops::emit_values-loop-value-init t c = values_begun c.args.emitter.now c.args.here c.args.x c.args.target c.args.values.now c.requires.ready

pub loops::emit_values-emit_before-requires : goal.loops::emit_values-emit_before-requires
loops::emit_values-emit_before-requires t c = (omega (arith, node_less c.args.values.now c.loop-value.value-index c.value-item.result (omega arith) c.value-item.is), (value_ready c.args.here c.args.x c.args.target c.args.values.now c.loop-value.value-index c.value-item.result (omega arith) c.value-item.is c.requires.ready c.loop-value.invariant, (turn_fits_there c.args.here c.args.x c.args.target c.args.values.now c.loop-value.value-index c.requires.known c.loop-value.invariant, refl)))

pub loops::emit_values-loop-value-preserved : goal.loops::emit_values-loop-value-preserved
loops::emit_values-loop-value-preserved t c =
    values_more c.args.here c.args.x c.args.target c.args.values.now c.loop-value.value-index c.max-marks.result c.value-item.result c.requires.ready c.requires.known (omega arith) c.value-item.is c.loop-value.invariant c.in_ok-inside.ensures (max_was c.loop-value.marks c.in_ok-inside.inside c.max-marks.result c.max-marks.ensures)

pub loops::emit_values-returns : goal.loops::emit_values-returns
loops::emit_values-returns t c = values_done c.args.here c.args.x c.args.target c.args.values.now c.loop-value.value-index (omega arith) c.loop-value.invariant

pub loops::emit_while_do-emit_phrase-requires : goal.loops::emit_while_do-emit_phrase-requires
loops::emit_while_do-emit_phrase-requires t c = (
  omega arith,
  ready_appended c.in_statement-here.result (held.Jump 0) c.in_ok-jump.ensures.appended tt
      (ready_appended c.in_statement-here.result held.Begin c.in_ok-append.ensures.appended tt (while_ready c.args.emitter.now c.args.node.now (node_in c.args.c.now) (node_in c.args.body.now) c.requires).2),
)

pub loops::emit_while_do-replace-requires-clause-there : goal.loops::emit_while_do-replace-requires-clause-there
loops::emit_while_do-replace-requires-clause-there t c = jump_there c.append.new.self c.in_statement-here.result (held.Jump 0) c.in_ok-jump.jump c.in_ok-jump.ensures.number c.in_ok-jump.ensures.appended c.in_ok-body.ensures

pub loops::emit_while_do-emit_before-requires : goal.loops::emit_while_do-emit_before-requires
loops::emit_while_do-emit_before-requires t c = (
  omega arith,
  (
    ready_replaced c.in_ok-jump.jump (held.Jump c.in_ok-test.test) (put_as c.emit_phrase.new.emitter c.replace.new.self c.in_ok-jump.jump (held.Jump c.in_ok-test.test) c.replace.ensures) tt
        (ready_after c.in_ok-body.ensures.stays
        (ready_appended c.in_statement-here.result (held.Jump 0) c.in_ok-jump.ensures.appended tt
        (ready_appended c.in_statement-here.result held.Begin c.in_ok-append.ensures.appended tt (while_ready c.args.emitter.now c.args.node.now (node_in c.args.c.now) (node_in c.args.body.now) c.requires).1))),
    (tt, refl),
  ),
)

pub loops::emit_while_do-returns : goal.loops::emit_while_do-returns
loops::emit_while_do-returns t c =
    while_done c.args.here c.in_statement-here.result c.args.node.now c.args.body.now c.args.c.now c.in_ok-jump.jump c.in_ok-test.test c.in_ok-further.field-0 c.max.result c.in_statement-here.ensures c.requires
    c.in_ok-append.ensures.appended c.in_ok-jump.ensures.number c.in_ok-jump.ensures.appended c.in_ok-body.ensures c.in_ok-test.ensures
    (put_as c.emit_phrase.new.emitter c.replace.new.self c.in_ok-jump.jump (held.Jump c.in_ok-test.test) c.replace.ensures) c.in_ok-further.ensures c.in_ok-condition.ensures c.max.ensures

pub loops::emit_for_list-emit_turn-requires : goal.loops::emit_for_list-emit_turn-requires
loops::emit_for_list-emit_turn-requires t c = (
  omega arith,
  ready_appended c.in_statement-here.result (held.Jump 0) c.in_ok-jump.ensures.appended tt
      (ready_appended c.in_statement-here.result held.Begin c.in_ok-append.ensures.appended tt (list_ready c.args.emitter.now c.args.node.now c.args.x c.args.values.now c.args.body.now c.requires).2),
)

pub loops::emit_for_list-replace-requires-clause-there : goal.loops::emit_for_list-replace-requires-clause-there
loops::emit_for_list-replace-requires-clause-there t c =
    jump_later c.append.new.self c.in_statement-here.result c.in_statement-here.result (held.Jump 0) (held.EndTurn c.in_statement-here.result.entries) c.in_ok-jump.jump c.in_ok-jump.ensures.number c.in_ok-jump.ensures.appended c.in_ok-marks.ensures c.in_ok-append-2.ensures.appended

pub loops::emit_for_list-emit_values-requires : goal.loops::emit_for_list-emit_values-requires
loops::emit_for_list-emit_values-requires t c = (
  omega arith,
  (
    turn_in_range _ c.args.x c.args.body.now
        (ready_replaced c.in_ok-jump.jump (held.Jump c.in_ok-list.list) (put_as c.append-3.new.self c.replace.new.self c.in_ok-jump.jump (held.Jump c.in_ok-list.list) c.replace.ensures) tt
        (ready_appended c.in_statement-here.result (held.EndTurn c.in_statement-here.result.entries) c.in_ok-append-2.ensures.appended tt
        (ready_after c.in_ok-marks.ensures.stays
        (ready_appended c.in_statement-here.result (held.Jump 0) c.in_ok-jump.ensures.appended tt
        (ready_appended c.in_statement-here.result held.Begin c.in_ok-append.ensures.appended tt (list_ready c.args.emitter.now c.args.node.now c.args.x c.args.values.now c.args.body.now c.requires).2))))),
    ready_replaced c.in_ok-jump.jump (held.Jump c.in_ok-list.list) (put_as c.append-3.new.self c.replace.new.self c.in_ok-jump.jump (held.Jump c.in_ok-list.list) c.replace.ensures) tt
        (ready_appended c.in_statement-here.result (held.EndTurn c.in_statement-here.result.entries) c.in_ok-append-2.ensures.appended tt
        (ready_after c.in_ok-marks.ensures.stays
        (ready_appended c.in_statement-here.result (held.Jump 0) c.in_ok-jump.ensures.appended tt
        (ready_appended c.in_statement-here.result held.Begin c.in_ok-append.ensures.appended tt (list_ready c.args.emitter.now c.args.node.now c.args.x c.args.values.now c.args.body.now c.requires).1)))),
  ),
)

pub loops::emit_for_list-returns : goal.loops::emit_for_list-returns
loops::emit_for_list-returns t c =
    list_done c.args.here c.in_statement-here.result c.args.node.now c.args.x c.args.values.now c.args.body.now c.in_ok-jump.jump c.in_ok-target.target c.in_ok-list.list c.max.result c.in_statement-here.ensures c.requires
    c.in_ok-append.ensures.appended c.in_ok-jump.ensures.number c.in_ok-jump.ensures.appended c.in_ok-target.ensures c.in_ok-marks.ensures c.in_ok-append-2.ensures.appended c.in_ok-list.ensures
    (put_as c.append-3.new.self c.replace.new.self c.in_ok-jump.jump (held.Jump c.in_ok-list.list) c.replace.ensures) c.in_ok-turns.ensures c.in_ok-append-3.ensures.appended c.max.ensures

pub loops::emit_for_step-emit_before-requires : goal.loops::emit_for_step-emit_before-requires
loops::emit_for_step-emit_before-requires t c = (omega arith, (ready_appended c.in_statement-here.result held.Begin c.in_ok-append.ensures.appended tt (step_ready c.args.emitter.now c.args.node.now c.args.x c.args.a.now c.args.b c.args.c.now c.args.body.now c.requires).1, (tt, refl)))

pub loops::emit_for_step-emit_perhaps-requires : goal.loops::emit_for_step-emit_perhaps-requires
loops::emit_for_step-emit_perhaps-requires t c = (
  omega arith,
  record {
    phrase = perhaps_after c.args.b c.in_ok-start.ensures.stays (perhaps_after c.args.b (stays_one c.in_statement-here.result held.Begin c.in_ok-append.ensures.appended c.requires.fits.code tt) (step_ready c.args.emitter.now c.args.node.now c.args.x c.args.a.now c.args.b c.args.c.now c.args.body.now c.requires).2);
    missing = refl;
  },
)

pub loops::emit_for_step-emit_before-requires-2 : goal.loops::emit_for_step-emit_before-requires-2
loops::emit_for_step-emit_before-requires-2 t c = (
  omega arith,
  (
    ready_appended c.in_statement-here.result held.Push c.in_ok-append-2.ensures.appended tt
        (ready_after c.in_ok-step.ensures.stays (ready_after c.in_ok-start.ensures.stays
        (ready_appended c.in_statement-here.result held.Begin c.in_ok-append.ensures.appended tt (step_ready c.args.emitter.now c.args.node.now c.args.x c.args.a.now c.args.b c.args.c.now c.args.body.now c.requires).3))),
    (tt, refl),
  ),
)

pub loops::emit_for_step-append-requires-4 : goal.loops::emit_for_step-append-requires-4
loops::emit_for_step-append-requires-4 t c =
    turn_in_range _ c.args.x c.args.body.now
    (ready_appended c.in_statement-here.result (held.FirstTurn 0) c.in_ok-first.ensures.appended tt (ready_after c.in_ok-limit.ensures.stays
    (ready_appended c.in_statement-here.result held.Push c.in_ok-append-2.ensures.appended tt
    (ready_after c.in_ok-step.ensures.stays (ready_after c.in_ok-start.ensures.stays
    (ready_appended c.in_statement-here.result held.Begin c.in_ok-append.ensures.appended tt (step_ready c.args.emitter.now c.args.node.now c.args.x c.args.a.now c.args.b c.args.c.now c.args.body.now c.requires).4))))))

pub loops::emit_for_step-emit_turn-requires : goal.loops::emit_for_step-emit_turn-requires
loops::emit_for_step-emit_turn-requires t c = (
  omega arith,
  ready_appended c.in_statement-here.result (held.Turn c.args.x) c.in_ok-target.ensures.appended (turn_in_range _ c.args.x c.args.body.now
      (ready_appended c.in_statement-here.result (held.FirstTurn 0) c.in_ok-first.ensures.appended tt (ready_after c.in_ok-limit.ensures.stays
      (ready_appended c.in_statement-here.result held.Push c.in_ok-append-2.ensures.appended tt
      (ready_after c.in_ok-step.ensures.stays (ready_after c.in_ok-start.ensures.stays
      (ready_appended c.in_statement-here.result held.Begin c.in_ok-append.ensures.appended tt (step_ready c.args.emitter.now c.args.node.now c.args.x c.args.a.now c.args.b c.args.c.now c.args.body.now c.requires).4)))))))
      (ready_appended c.in_statement-here.result (held.FirstTurn 0) c.in_ok-first.ensures.appended tt (ready_after c.in_ok-limit.ensures.stays
      (ready_appended c.in_statement-here.result held.Push c.in_ok-append-2.ensures.appended tt
      (ready_after c.in_ok-step.ensures.stays (ready_after c.in_ok-start.ensures.stays
      (ready_appended c.in_statement-here.result held.Begin c.in_ok-append.ensures.appended tt (step_ready c.args.emitter.now c.args.node.now c.args.x c.args.a.now c.args.b c.args.c.now c.args.body.now c.requires).4)))))),
)

pub loops::emit_for_step-replace-requires-clause-there : goal.loops::emit_for_step-replace-requires-clause-there
loops::emit_for_step-replace-requires-clause-there t c =
    jump_last c.emit_before-2.new.emitter c.in_statement-here.result c.in_statement-here.result c.in_statement-here.result (held.FirstTurn 0) (held.Turn c.args.x) (held.NextTurn c.in_ok-target.target c.in_statement-here.result.entries) c.in_ok-first.first c.in_ok-first.ensures.number c.in_ok-first.ensures.appended c.in_ok-target.ensures.appended c.in_ok-body.ensures c.in_ok-next.ensures.appended

pub loops::emit_for_step-returns : goal.loops::emit_for_step-returns
loops::emit_for_step-returns t c =
    step_done c.args.here c.in_statement-here.result c.args.node.now c.args.x c.args.a.now c.args.b c.args.c.now c.args.body.now c.in_ok-first.first c.in_ok-target.target c.in_ok-behind.behind _ c.in_statement-here.ensures c.requires
    c.in_ok-append.ensures.appended c.in_ok-start.ensures c.in_ok-step.ensures c.in_ok-append-2.ensures.appended c.in_ok-limit.ensures c.in_ok-first.ensures.number c.in_ok-first.ensures.appended c.in_ok-target.ensures.number c.in_ok-target.ensures.appended
    c.in_ok-body.ensures c.in_ok-next.ensures.appended (c.in_ok-behind.ensures ∙ ap (λ k. k + 1) c.in_ok-next.ensures.number) (put_as c.append-5.new.self c.replace.new.self c.in_ok-first.first (held.FirstTurn c.in_ok-behind.behind) c.replace.ensures) (c.max-3.ensures ∙ ap (max c.in_ok-start.start) (c.max-2.ensures ∙ ap (max c.in_ok-step.step) c.max.ensures))

pub loops::emit_choices-loop-choice-init : goal.loops::emit_choices-loop-choice-init
loops::emit_choices-loop-choice-init t c = codes_nothing none_own c.args.emitter.now c.requires.fits.code

pub loops::emit_choices-loop-choice-preserved : goal.loops::emit_choices-loop-choice-preserved
loops::emit_choices-loop-choice-preserved t c = jump_more c.args.here c.loop-choice._choice c.loop-choice.invariant c.in_ok-append.ensures.appended

pub loops::emit_choices-loop-index-init : goal.loops::emit_choices-loop-index-init
loops::emit_choices-loop-index-init t c = parts_begun c.args.here c.args.choices c.len-pending.result c.loop-choice._choice c.in_ok-jump.jump (omega arith) c.loop-choice.invariant c.in_ok-jump.ensures (omega arith)

pub loops::emit_choices-replace-requires-clause-there : goal.loops::emit_choices-replace-requires-clause-there
loops::emit_choices-replace-requires-clause-there t c = jump_there_yet c.args.here c.args.choices c.len-pending.result c.loop-index.index c.loop-index.jump (omega arith) c.loop-index.invariant

pub loops::emit_choices-emit_choice-requires : goal.loops::emit_choices-emit_choice-requires
loops::emit_choices-emit_choice-requires t c = (
  omega arith,
  (
    choices_ready c.args.here c.args.choices c.len-pending.result c.loop-index.index c.loop-index.jump c.in_ok-begin.begin c.requires c.loop-index.invariant
        (put_as c.loop-index.emitter c.replace.new.self c.loop-index.jump (held.Jump c.in_ok-begin.begin) c.replace.ensures),
    omega arith,
  ),
)

pub loops::emit_choices-loop-index-preserved : goal.loops::emit_choices-loop-index-preserved
loops::emit_choices-loop-index-preserved t c =
    parts_more c.args.here c.args.choices c.len-pending.result c.loop-index.index c.loop-index.jump c.in_ok-begin.begin c.in_ok-jump-2.jump c.in_ok-end.end c.push.new.self (omega arith) c.loop-index.invariant c.in_ok-begin.ensures
    (put_as c.loop-index.emitter c.replace.new.self c.loop-index.jump (held.Jump c.in_ok-begin.begin) c.replace.ensures) c.in_ok-jump-2.ensures c.in_ok-inside.ensures c.in_ok-end.ensures.number c.in_ok-end.ensures.appended c.in_ok-push.ensures.items
    c.max-marks.result (max_was c.loop-index.marks c.in_ok-inside.inside c.max-marks.result c.max-marks.ensures)

pub loops::emit_choices-end_jumps-requires-clause-pending : goal.loops::emit_choices-end_jumps-requires-clause-pending
loops::emit_choices-end_jumps-requires-clause-pending t c = pending_least c.args.here c.args.choices c.len-pending.result c.loop-index.index c.loop-index.jump c.loop-index.invariant

pub loops::emit_choices-end_jumps-requires-clause-jumps : goal.loops::emit_choices-end_jumps-requires-clause-jumps
loops::emit_choices-end_jumps-requires-clause-jumps t c = ends_within c.args.here c.args.choices c.len-pending.result c.loop-index.index c.loop-index.jump c.loop-index.invariant

pub loops::emit_choices-returns : goal.loops::emit_choices-returns
loops::emit_choices-returns t c = parts_ended_there c.args.here c.args.choices c.len-pending.result c.loop-index.index c.loop-index.jump (omega arith) c.loop-index.invariant c.in_ok-end_jumps.ensures

pub loops::emit_choice-bounds-values-index : goal.loops::emit_choice-bounds-values-index
loops::emit_choice-bounds-values-index t c = value_inside c.args.choices c.args.index c.requires.there c.in-Values.values c.in-Values.is

pub loops::emit_choice-emit_phrase-requires : goal.loops::emit_choice-emit_phrase-requires
loops::emit_choice-emit_phrase-requires t c =
    let less = chosen_value_less c.args.choices c.args.index c.requires.there c.args.emitter.now c.requires.ready c.in-Values.values c.index-values-index.result c.in-Values.is c.index-values-index.is in
    (omega (arith, less), chosen_value_ready c.args.choices c.args.index c.requires.there c.args.emitter.now c.requires.ready c.in-Values.values c.index-values-index.result c.in-Values.is c.index-values-index.is)

pub loops::emit_choice-returns-in-Values : goal.loops::emit_choice-returns-in-Values
loops::emit_choice-returns-in-Values t c = IfOk-weaker c.emit_phrase.result _ _ (λ m h. chosen_value_coded c.args.choices c.args.index c.requires.there c.args.emitter.now c.requires.ready c.in-Values.values c.index-values-index.result c.in-Values.is c.index-values-index.is c.args.here h) c.emit_phrase.ensures

pub loops::emit_choice-bounds-parts-index : goal.loops::emit_choice-bounds-parts-index
loops::emit_choice-bounds-parts-index t c = statement_inside c.args.choices c.args.index c.requires.there c.in-Statements.parts c.in-Statements.is

pub loops::emit_choice-emit_part-requires : goal.loops::emit_choice-emit_part-requires
loops::emit_choice-emit_part-requires t c =
    let less = chosen_statement_less c.args.choices c.args.index c.requires.there c.args.emitter.now c.requires.ready c.in-Statements.parts c.index-parts-index.result c.in-Statements.is c.index-parts-index.is in
    (omega (arith, less), chosen_statement_ready c.args.choices c.args.index c.requires.there c.args.emitter.now c.requires.ready c.in-Statements.parts c.index-parts-index.result c.in-Statements.is c.index-parts-index.is)

pub loops::emit_choice-returns-in-Statements : goal.loops::emit_choice-returns-in-Statements
loops::emit_choice-returns-in-Statements t c = IfOk-weaker c.emit_part.result _ _ (λ m h. chosen_statement_coded c.args.choices c.args.index c.requires.there c.args.emitter.now c.requires.ready c.in-Statements.parts c.index-parts-index.result c.in-Statements.is c.index-parts-index.is c.args.here h) c.emit_part.ensures

pub loops::emit_part-alone-requires : goal.loops::emit_part-alone-requires
loops::emit_part-alone-requires t c = tt

pub loops::emit_part-returns-in-Empty : goal.loops::emit_part-returns-in-Empty
loops::emit_part-returns-in-Empty t c = instruction_done c.alone.result _ c.alone.ensures.none c.alone.ensures.appended (λ e. empty_part_coded c.args.here c.args.part.now c.in-Empty.field-0 c.in-Empty.is c.requires.fits.code e)

pub loops::emit_part-emit_phrase-requires : goal.loops::emit_part-emit_phrase-requires
loops::emit_part-emit_phrase-requires t c =
    let size = part_phrase_size c.args.part.now c.in-Phrase.phrase c.deref.result.now c.in-Phrase.is c.deref.ensures in
    (omega (arith, size), part_phrase_ready c.args.part.now c.in-Phrase.phrase c.deref.result.now c.in-Phrase.is c.deref.ensures c.args.emitter.now c.requires)

pub loops::emit_part-returns-in-Phrase : goal.loops::emit_part-returns-in-Phrase
loops::emit_part-returns-in-Phrase t c = IfOk-weaker c.emit_phrase.result _ _ (λ m h. part_phrase_coded c.args.part.now c.in-Phrase.phrase c.deref.result.now c.in-Phrase.is c.deref.ensures c.args.here h) c.emit_phrase.ensures

pub loops::emit_case-emit_before-requires : goal.loops::emit_case-emit_before-requires
loops::emit_case-emit_before-requires t c = (omega arith, (ready_after (stays_begun c.args.here c.args.node.now.statement c.requires.fits.code c.in_ok-begin.ensures) (case_ready c.args.emitter.now c.args.node.now (node_in c.args.subject.now) c.args.choices c.requires).0, (tt, refl)))

pub loops::emit_case-emit_choices-requires : goal.loops::emit_case-emit_choices-requires
loops::emit_case-emit_choices-requires t c = (
  omega arith,
  ready_after c.in_ok-subject.ensures.stays
      (ready_after (stays_begun c.args.here c.args.node.now.statement c.requires.fits.code c.in_ok-begin.ensures) (case_ready c.args.emitter.now c.args.node.now (node_in c.args.subject.now) c.args.choices c.requires).1),
)

pub loops::emit_case-make-requires : goal.loops::emit_case-make-requires
loops::emit_case-make-requires t c =
    subst (λ k. KindsFit c.emit_choices.new.emitter.code.given k) (sym c.type_given.ensures)
    (case_type c.args.node.now (node_in c.args.subject.now) c.args.choices c.requires
    (stays_both (stays_both (stays_begun c.args.here c.args.node.now.statement c.requires.fits.code c.in_ok-begin.ensures) c.in_ok-subject.ensures.stays) c.in_ok-parts.ensures.stays))

pub loops::emit_case-returns : goal.loops::emit_case-returns
loops::emit_case-returns t c =
    case_done c.args.here c.in_statement-here.result c.args.node.now c.args.subject.now c.args.choices c.in_ok-number.field-0 c.max.result c.type_given.result c.in_statement-here.ensures c.type_given.ensures c.requires
    c.in_ok-begin.ensures (c.in_ok-number.ensures ∙ c.count.ensures) c.in_ok-subject.ensures c.in_ok-parts.ensures c.in_ok-make.ensures c.max.ensures
