use Rattle.std.proofs.Common.{sym, subst}
use Rattle.stack_code.specs.CodeView.{CodeView, InstrFits}
use Rattle.stack_code.specs.Making.{given_by, added_by}
use Rattle.stack_code.proofs.Keeping.{fits_replaced}
use Rattle.stack_code.proofs.Limited.{within_replaced}
use Rattle.stack_code.proofs.code.Code.replace.Goals as goal

pub invariant_of-self : goal.invariant_of-self
invariant_of-self c =
    let held : CodeView = record { instructions = c.self.inside.instructions; marks = c.self.inside.marks; given = given_by c.self.inside.tables; added = added_by c.self.inside.strings c.self.inside.procedures c.self.inside.texts c.self.inside.calls c.self.inside.stars } in (
      fits_replaced held c.args.number (record { at = c.index_mut.result.now.at; does = c.args.does }) c.self.invariant.0 (subst (λ (v : CodeView). InstrFits v.given v.added c.args.does) (sym c.self.view_is) c.requires.fits),
      within_replaced held c.args.number (record { at = c.index_mut.result.now.at; does = c.args.does }) c.self.invariant.1 c.requires.within,
    )
