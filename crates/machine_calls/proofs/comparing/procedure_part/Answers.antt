use Rattle.std.proofs.Common.{◌≡◌, ◌≢◌, length, sym, ap, ◌∙◌, rules, tests}
use Rattle.std.specs.Option.{option_map}
use Rattle.std.specs.Prelude.{false}
use Rattle.algolw_typing.specs.Meanings as typing
use Rattle.algolw_typing.specs.ProgramView.{gives_view}
use Rattle.stack_code.specs.declared.heads.FormalType.TheVariants as formal
use Rattle.stack_code.specs.CodeView.{numbers, formal_type_view, procedure_view, instructions_view}
use Rattle.stack_code.specs.Code.{procedure_head}
use Rattle.stack_code.specs.Table as table
use Rattle.machine_calls.proofs.Heads.{procedure_found}
use Rattle.machine_calls.proofs.HeadParts.{plain_part, formals_part}
use Rattle.machine_calls.proofs.comparing.procedure_part.Goals as goal

pub returns-in_default-clause-is : goal.returns-in_default-clause-is
returns-in_default-clause-is c = sym (ap (table.procedure_part (formal_type_view c.args.code.now.given c.args.formal)) (procedure_found c.args.code.now c.requires.code c.args.head ∙ ap (option_map (procedure_view c.args.code.now.given)) c.in_default.ensures.is))

pub returns-in-Procedure-clause-is : goal.returns-in-Procedure-clause-is
returns-in-Procedure-clause-is c =
    sym (ap (λ f. table.procedure_part (formal_type_view c.args.code.now.given f) (procedure_head (instructions_view c.args.code.now) c.args.head)) c.in-Procedure.is
    ∙ ap (table.procedure_part (formal_type_view c.args.code.now.given (formal.Procedure c.in-Procedure.field-0))) (procedure_found c.args.code.now c.requires.code c.args.head ∙ ap (option_map (procedure_view c.args.code.now.given)) c.in-Some.ensures.is))

pub returns-in_default-formal-clause-is : goal.returns-in_default-formal-clause-is
returns-in_default-formal-clause-is c =
    let none : length c.as_slice.result.now ≡ 0 = search (rules, tests) in
    ap (λ t. typing.a_phrase false (gives_view (numbers c.args.code.now.given) t)) c.gives_of.ensures
    ∙ plain_part c.args.code.now.given c.args.formal c.in-Some.head.now c.in_default-formal.not-Procedure (sym (ap length c.as_slice.ensures.value) ∙ none) ∙ ap (table.procedure_part (formal_type_view c.args.code.now.given c.args.formal)) (sym (procedure_found c.args.code.now c.requires.code c.args.head ∙ ap (option_map (procedure_view c.args.code.now.given)) c.in-Some.ensures.is))

pub returns-in_default-2-clause-is : goal.returns-in_default-2-clause-is
returns-in_default-2-clause-is c =
    let some : length c.as_slice.result.now ≢ 0 = search (rules, tests) in
    formals_part c.args.code.now.given c.args.formal c.in-Some.head.now c.in_default-formal.not-Procedure (λ e. some (ap length c.as_slice.ensures.value ∙ e)) ∙ ap (table.procedure_part (formal_type_view c.args.code.now.given c.args.formal)) (sym (procedure_found c.args.code.now c.requires.code c.args.head ∙ ap (option_map (procedure_view c.args.code.now.given)) c.in-Some.ensures.is))
