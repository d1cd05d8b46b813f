use Rattle.std.proofs.Common.{sym, subst, ◌∙◌}
use Rattle.algolw_typing.specs.Faults.{program_faults}
use Rattle.type_checker.specs.Says.{Says}
use Rattle.type_checker.specs.declared.checking.Checked.TheVariants.{Bad, Good}
use Rattle.deck_programs.proofs.Together.{trees_of_jobs}
use Rattle.algolw_meaning.proofs.Composing.{program_shown}
use Rattle.job_runner.proofs.Compiling.{some_shown}
use Rattle.job_runner.proofs.deck.compile_checked.Goals as goal

pub compile-requires : goal.compile-requires
compile-requires g c =
    let says : Says g.x (Good c.in-Good.program) = subst (Says g.x) c.in-Good.is c.requires.0 in
    let spelled = c.requires.1 in
    (trees_of_jobs.trees spelled.0 spelled.1 g.x spelled.2 spelled.3, (trees_of_jobs.placed spelled.0 spelled.1 g.x spelled.2 spelled.3, (says.0, says.1)))

pub returns-in_ok-compile-in-Good : goal.returns-in_ok-compile-in-Good
returns-in_ok-compile-in-Good g c = λ library deck spelled.
    let says : Says g.x (Good c.in-Good.program) = subst (Says g.x) c.in-Good.is c.requires.0 in
    record { program = g.x; spelled = spelled; faultless = says.0; code = c.in_ok-compile-in-Good.ensures.code; statements = c.in_ok-compile-in-Good.ensures.statements }

pub returns-in-Bad : goal.returns-in-Bad
returns-in-Bad g c = λ library deck spelled.
    let says : Says g.x (Bad c.in-Bad.faults) = subst (Says g.x) c.in-Bad.is c.requires.0 in
    (some_shown (program_faults g.x) c.in-Bad.faults.items says.0 says.1, says.1 ∙ sym (program_shown library deck g.x spelled))
