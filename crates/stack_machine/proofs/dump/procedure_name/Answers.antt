use Rattle.std.proofs.Common.{sym, ap, ◌∙◌}
use Rattle.std.specs.Option.{option_map}
use Rattle.stack_code.specs.declared.heads.CodedName.{CodedName}
use Rattle.stack_code.specs.CodeView.{procedure_view}
use Rattle.stack_code.specs.Run.{name_of}
use Rattle.machine_calls.proofs.Heads.{procedure_found}
use Rattle.stack_machine.proofs.DumpLines.{or_any}
use Rattle.stack_machine.proofs.dump.procedure_name.Goals as goal

pub returns-in-None : goal.returns-in-None
returns-in-None c = c.new.ensures ∙ sym (ap name_of (procedure_found c.args.code.now c.requires c.args.head ∙ ap (option_map (procedure_view c.args.code.now.given)) c.in-None.ensures.is))

pub returns-in-Some : goal.returns-in-Some
returns-in-Some c =
    ap (λ (x : CodedName). x.text) (c.name.ensures ∙ or_any c.args.code.now.given.names c.in-Some.procedure.now.name _ _ c.in-Some.ensures.fits.name)
    ∙ sym (ap name_of (procedure_found c.args.code.now c.requires c.args.head ∙ ap (option_map (procedure_view c.args.code.now.given)) c.in-Some.ensures.is))
