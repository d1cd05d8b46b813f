use Rattle.std.proofs.Common.{sym, ap, ◌∙◌}
use Rattle.std.specs.Option.{option_map}
use Rattle.stack_code.specs.CodeView.{text_head_view}
use Rattle.stack_code.specs.Run.{first_of}
use Rattle.machine_calls.proofs.Heads.{text_found}
use Rattle.stack_machine.proofs.dump.text_place.Goals as goal

pub returns-in-None : goal.returns-in-None
returns-in-None c = sym (ap first_of (text_found c.args.code.now c.requires c.args.head ∙ ap (option_map (text_head_view c.args.code.now.given)) (sym c.in-None.ensures)))

pub returns-in-Some : goal.returns-in-Some
returns-in-Some c = sym (ap first_of (text_found c.args.code.now c.requires c.args.head ∙ ap (option_map (text_head_view c.args.code.now.given)) (sym c.in-Some.ensures)))
