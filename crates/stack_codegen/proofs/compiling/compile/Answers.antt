use Rattle.std.proofs.Common.{◌≡◌, ◌<◌, List, ℕ, length, sym, ap, subst, arith, ◌∙◌}
use Rattle.std.specs.List.{All}
use Rattle.std.specs.Prelude.{IfOk}
use Rattle.std.proofs.lemmas.Result.{IfOk-weaker}
use Rattle.algolw_typing.specs.Programs.{program_of}
use Rattle.compilable_programs.proofs.Programs.{programs_without_faults_are_compilable}
use Rattle.stack_code.specs.CodeView.{CodeView, Given, GivenFits, code_view}
use Rattle.symbol_table.specs.Symbols.{only_standard}
use Rattle.stack_codegen.proofs.ProgramParts.{class_names_there, program_coded, program_given_fits, program_outermost, program_ready}
use Rattle.stack_codegen.proofs.compiling.compile.Goals as goal

pub new-requires : goal.new-requires
new-requires g c =
    let many : length c.args.program.now.names.items ≡ c.len.result = omega arith in
    subst (λ k. All (λ (n : ℕ). n < k) c.deref.result.now) many
    (subst (λ (ns : List ℕ). All (λ (n : ℕ). n < length c.args.program.now.names.items) ns) (sym c.deref.ensures.value) (class_names_there c.args.program.now (program_of g.x) (programs_without_faults_are_compilable g.x c.args.program.now c.requires.1.1.0 c.requires.0 c.requires.1.0 c.requires.1.1.1)))

pub program_tables-requires : goal.program_tables-requires
program_tables-requires g c = class_names_there c.args.program.now (program_of g.x) (programs_without_faults_are_compilable g.x c.args.program.now c.requires.1.1.0 c.requires.0 c.requires.1.0 c.requires.1.1.1)

pub new-requires-2 : goal.new-requires-2
new-requires-2 g c = subst GivenFits (sym c.in_ok-tables.ensures) (program_given_fits c.args.program.now (program_of g.x) (programs_without_faults_are_compilable g.x c.args.program.now c.requires.1.1.0 c.requires.0 c.requires.1.0 c.requires.1.1.1))

pub code_of-requires-clause-outermost : goal.code_of-requires-clause-outermost
code_of-requires-clause-outermost g c = λ ts. program_outermost c.new-emitter.result c.len.result c.deref.result.now ts (c.new-emitter.ensures.symbols ∙ c.in_ok-symbols.ensures)

pub code_of-requires-clause-codable : goal.code_of-requires-clause-codable
code_of-requires-clause-codable g c =
    let many : length c.args.program.now.names.items ≡ c.len.result = omega arith in
    program_ready c.args.program.now (program_of g.x) (programs_without_faults_are_compilable g.x c.args.program.now c.requires.1.1.0 c.requires.0 c.requires.1.0 c.requires.1.1.1) c.new-emitter.result c.in_ok-tables.tables c.new-2.result c.in_ok-tables.ensures c.new-2.ensures c.new-emitter.ensures.code
    (c.new-emitter.ensures.symbols ∙ c.in_ok-symbols.ensures ∙ ap (λ k. only_standard k c.deref.result.now) (sym many) ∙ ap (only_standard (length c.args.program.now.names.items)) c.deref.ensures.value)

pub returns-clause-code : goal.returns-clause-code
returns-clause-code g c =
    let many : length c.args.program.now.names.items ≡ c.len.result = omega arith in
    subst (λ k. IfOk c.code_of.result (λ made. code_view made ≡ k))
    (program_coded c.args.program.now (program_of g.x) (programs_without_faults_are_compilable g.x c.args.program.now c.requires.1.1.0 c.requires.0 c.requires.1.0 c.requires.1.1.1) c.new-emitter.result c.in_ok-tables.tables c.new-2.result c.in_ok-tables.ensures c.new-2.ensures c.new-emitter.ensures.code
    (c.new-emitter.ensures.symbols ∙ c.in_ok-symbols.ensures ∙ ap (λ k. only_standard k c.deref.result.now) (sym many) ∙ ap (only_standard (length c.args.program.now.names.items)) c.deref.ensures.value))
    c.code_of.ensures.code

pub returns-clause-statements : goal.returns-clause-statements
returns-clause-statements g c =
    IfOk-weaker c.code_of.result _ _
    (λ made is. ap (λ (v : Given). v.statements) is ∙ ap (λ (v : CodeView). v.given.statements) (c.new-emitter.ensures.code ∙ c.new-2.ensures) ∙ ap (λ (v : Given). v.statements) c.in_ok-tables.ensures ∙ c.requires.1.1.1.statements)
    c.code_of.ensures.given
