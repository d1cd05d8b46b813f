use Rattle.std.proofs.Common.{◌≡◌, ◌∙◌, sym, subst}
use Rattle.std.specs.Prelude.{IfSome}
use Rattle.operator_board.proofs.Counts.{legal_adds_up}
use Rattle.operator_board.specs.Tallies.{tallies}
use Rattle.office.specs.OfficeView.{OfficeView}
use Rattle.office.proofs.Boards.{read_adds_up, read_is, read_there, shows_read}
use Rattle.office.proofs.office.Office.board_read.Goals as goal

pub invariant_of-self : goal.invariant_of-self
invariant_of-self g c = (c.self.invariant.0, shows_read _ c.self.inside.register c.self.inside.posting c.read.new.posting c.read.result c.self.invariant.1 c.read.ensures)

pub returns-clause-some : goal.returns-clause-some
returns-clause-some g c =
    let there = read_there _ c.self.inside.register c.self.inside.posting c.read.new.posting c.read.result c.self.invariant.1 c.read.ensures in
    (λ some. sym there ∙ some, λ boarded. there ∙ boarded)

pub returns-clause-tallies : goal.returns-clause-tallies
returns-clause-tallies g c =
    subst (λ (o : OfficeView). IfSome c.read.result (λ t. t ≡ tallies o.register.journal)) c.self.view_is
    (read_is _ c.self.inside.register c.self.inside.posting c.read.new.posting c.read.result c.self.invariant.1 c.read.ensures)

pub returns-clause-adds_up : goal.returns-clause-adds_up
returns-clause-adds_up g c =
    read_adds_up _ c.self.inside.register c.self.inside.posting c.read.new.posting c.read.result c.self.invariant.1 c.read.ensures
    (legal_adds_up c.self.inside.register.core.openings c.self.inside.register.journal c.self.invariant.0.stands.register.legal)
