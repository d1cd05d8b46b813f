use Rattle.std.proofs.Common.{refl, ap, ◌∙◌}
use Rattle.std.proofs.lemmas.Result.{IfOk-weaker}
use Rattle.code_emitter.specs.declared.emitter.Emitter.{Emitter}
use Rattle.symbol_table.specs.Contexts.{Scene}
use Rattle.stack_codegen.proofs.ProgramParts.{here_outermost, program_done, program_given}
use Rattle.stack_codegen.proofs.compiling.code_of.Goals as goal

pub returns-clause-code : goal.returns-clause-code
returns-clause-code c =
    IfOk-weaker c.into_code.result _ _
    (λ made is. program_done {a = c.args.emitter} {b = c.emit_phrase.new.emitter} {c = c.append.new.self} (record c.append.new.self { code = c.set_marks.new.self }) _ c.args.root.now c.requires.empty c.requires.outermost
    (here_outermost c.args.emitter.code.given c.in_ok-number.field-0 (c.in_ok-number.ensures ∙ c.statement_count.ensures)) c.in_ok-marks.ensures c.in_ok-append.ensures.appended c.set_marks.ensures refl made is)
    c.into_code.ensures

pub returns-clause-given : goal.returns-clause-given
returns-clause-given c =
    IfOk-weaker c.into_code.result _ _
    (λ made is. program_given c.args.emitter c.emit_phrase.new.emitter c.append.new.self (record c.append.new.self { code = c.set_marks.new.self }) (ap (λ (s : Scene). s.given) c.in_ok-marks.ensures.stays.scene) (ap (λ (e : Emitter). e.code.given) c.in_ok-append.ensures.appended) c.set_marks.ensures made is)
    c.into_code.ensures
