use Rattle.std.proofs.Common.{None, subst, sym}
use Rattle.algolw_tree.specs.Tree.{Phrase}
use Rattle.algolw_meaning.specs.DeckDiagnostics.{HasProgram}
use Rattle.type_checker.specs.Says.{Says}
use Rattle.job_runner.proofs.deck.compile_alone.Goals as goal

pub check_alone-requires : goal.check_alone-requires
check_alone-requires g c = (c.requires.1.0, subst (HasProgram c.requires.1.0) c.requires.0 c.requires.1.1)

pub compile_checked-requires : goal.compile_checked-requires
compile_checked-requires g c = (subst (λ (x : Phrase). Says x c.in_ok-checked.checked) (sym c.requires.0) c.in_ok-checked.ensures, (None, c.requires.1.0, tt, c.requires.1.1))

pub returns : goal.returns
returns g c = λ deck program. c.compile_checked.ensures None deck program
