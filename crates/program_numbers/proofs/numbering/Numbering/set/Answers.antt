use Rattle.program_numbers.proofs.SetMaking.{set_answered, set_known}
use Rattle.program_numbers.proofs.numbering.Numbering.set.Goals as goal

pub returns-in-Some : goal.returns-in-Some
returns-in-Some c = set_known c.args.self.now c.args.table.now c.in-Some.set.0 c.args.classes.now c.in-Some.ensures.there c.in-Some.ensures.same

pub returns : goal.returns
returns c = set_answered c.args.self.now c.args.table.now c.add_set.new.self c.in_ok-ids.ids.items c.args.classes.now c.add_set.result c.add_set.ensures.number c.add_set.ensures.added c.in_ok-ids.ensures.places c.in_ok-ids.ensures.members c.requires.rising
