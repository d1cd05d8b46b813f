use Rattle.std.proofs.Common.{sym, subst, ◌∙◌}
use Rattle.stack_code.specs.CodeView.{CodeView, ProcedureFits}
use Rattle.stack_code.specs.Making.{given_by, added_by}
use Rattle.stack_code.proofs.Keeping.{fits_with_procedure}
use Rattle.stack_code.proofs.Limited.{within_with_procedure}
use Rattle.stack_code.proofs.code.Code.add_procedure.Goals as goal

pub invariant_of-self-2 : goal.invariant_of-self-2
invariant_of-self-2 c =
    let held : CodeView = record { instructions = c.self.inside.instructions; marks = c.self.inside.marks; given = given_by c.self.inside.tables; added = added_by c.self.inside.strings c.self.inside.procedures c.self.inside.texts c.self.inside.calls c.self.inside.stars } in (
      fits_with_procedure held c.args.head c.push.new.self.items c.in_ok-push.ensures.items c.self.invariant.0 (subst (λ (v : CodeView). ProcedureFits v.given c.args.head) (sym c.self.view_is) c.requires),
      within_with_procedure held c.args.head c.push.new.self.items c.in_ok-push.ensures.items c.self.invariant.1 (sym c.is_within_limits.ensures ∙ c.in_ok-within.ensures),
    )
