use Rattle.std.proofs.Common.{List, sym, subst}
use Rattle.batch_core.specs.declared.event.Event.{Event}
use Rattle.operator_board.specs.Tallies.{FitsWords, tallies}
use Rattle.operator_board.proofs.Counts.{legal_fits}
use Rattle.office.proofs.office.Office.tallies.Goals as goal

pub of-requires : goal.of-requires
of-requires g c =
    let r = c.self.inside.register in
    subst (λ (events : List Event). FitsWords (tallies events)) (sym c.journal.ensures) (legal_fits r.core.openings r.journal c.self.invariant.0.stands.register.legal)
