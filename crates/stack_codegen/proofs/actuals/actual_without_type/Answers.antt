use Rattle.std.proofs.Common.{◌≡◌, List, false, subst}
use Rattle.algolw_tree.specs.declared.programs.TypedList.{TypedList}
use Rattle.algolw_typing.specs.ProgramView.{Numbers}
use Rattle.symbol_table.specs.Parts.{lists_in}
use Rattle.stack_codegen.specs.Listed.{AreParted, begins_with_phrases}
use Rattle.stack_codegen.proofs.ActualKinds.{alone_passed, subarray_codable, subarray_passed, subarray_within}
use Rattle.stack_codegen.proofs.actuals.actual_without_type.Goals as goal

pub returns-in-Some-clause-codable : goal.returns-in-Some-clause-codable
returns-in-Some-clause-codable c =
    let parted = subst (λ (l : List TypedList). AreParted l c.in-Some.subscripts.now c.in-Some.field-0-1.now) c.deref.ensures.value c.in-Some.ensures in
    subarray_codable c.args.node.now c.in-Named.name c.in-Named.lists c.in-Some.subscripts c.in-Some.field-0-1.now c.requires c.in-Named.is parted

pub returns-in-Some-clause-within : goal.returns-in-Some-clause-within
returns-in-Some-clause-within c =
    let parted = subst (λ (l : List TypedList). AreParted l c.in-Some.subscripts.now c.in-Some.field-0-1.now) c.deref.ensures.value c.in-Some.ensures in
    subarray_within c.args.node.now c.in-Named.name c.in-Named.lists c.in-Some.subscripts c.in-Some.field-0-1.now c.requires c.in-Named.is parted

pub returns-in-Some-clause-actual : goal.returns-in-Some-clause-actual
returns-in-Some-clause-actual c =
    let parted = subst (λ (l : List TypedList). AreParted l c.in-Some.subscripts.now c.in-Some.field-0-1.now) c.deref.ensures.value c.in-Some.ensures in
    subarray_passed c.args.node.now c.in-Named.name c.in-Named.lists c.in-Some.subscripts c.in-Some.field-0-1.now c.requires c.in-Named.is parted

pub returns-in-None-clause-actual : goal.returns-in-None-clause-actual
returns-in-None-clause-actual c =
    alone_passed c.args.node.now c.in-Named.name c.in-Named.lists c.requires c.in-Named.is
    (subst (λ (l : List TypedList). (ns : Numbers) → begins_with_phrases (lists_in ns l) ≡ false) c.deref.ensures.value c.in-None.ensures)
