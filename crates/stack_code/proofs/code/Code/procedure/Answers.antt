use Rattle.std.proofs.Common.{◌<◌, length, sym, subst}
use Rattle.stack_code.specs.CodeView.{CodeView}
use Rattle.stack_code.specs.Limits.{ProcedureRuns}
use Rattle.stack_code.specs.Making.{given_by, added_by}
use Rattle.stack_code.proofs.Limited.{procedure_run}
use Rattle.stack_code.proofs.code.Code.procedure.Goals as goal

pub returns-clause-runs : goal.returns-clause-runs
returns-clause-runs c =
    let held : CodeView = record { instructions = c.self.inside.instructions; marks = c.self.inside.marks; given = given_by c.self.inside.tables; added = added_by c.self.inside.strings c.self.inside.procedures c.self.inside.texts c.self.inside.calls c.self.inside.stars } in
    subst (λ (v : CodeView). ProcedureRuns v.given c.index.result.now) c.self.view_is
    (procedure_run held c.args.number c.index.result.now c.self.invariant (subst (λ (v : CodeView). c.args.number < length v.added.procedures) (sym c.self.view_is) c.requires) c.index.ensures)
