use Rattle.stack_code.specs.CodeView.{CodeView}
use Rattle.stack_code.specs.Making.{given_by, added_by}
use Rattle.stack_code.proofs.Limited.{within_linked}
use Rattle.stack_code.proofs.Linked.{fits_linked}
use Rattle.stack_code.proofs.code.Code.link.Goals as goal

pub invariant_of-self : goal.invariant_of-self
invariant_of-self c =
    let held : CodeView = record { instructions = c.self.inside.instructions; marks = c.self.inside.marks; given = given_by c.self.inside.tables; added = added_by c.self.inside.strings c.self.inside.procedures c.self.inside.texts c.self.inside.calls c.self.inside.stars } in
    rw (c.link_instructions.ensures, c.link_texts.ensures, c.link_calls.ensures) (fits_linked held c.args.targets.now c.self.invariant.0, within_linked held c.args.targets.now c.self.invariant.1)
