use Rattle.std.proofs.Common.{Some, subst, sym}
use Rattle.algolw_tree.specs.Tree.{Phrase}
use Rattle.algolw_tree.specs.View.{tree}
use Rattle.procedure_library.specs.Views.{library_tree}
use Rattle.type_checker.specs.Says.{Says}
use Rattle.job_runner.proofs.deck.compile_composed.Goals as goal

pub compile_checked-requires : goal.compile_checked-requires
compile_checked-requires g c = (
  subst (λ (x : Phrase). Says x c.in_ok-checked.checked) (sym c.requires.0) c.in_ok-checked.ensures,
  (
    Some c.requires.1.0.0,
    c.requires.1.1.0,
    (c.requires.1.1.1, c.requires.1.1.2),
    (library_tree c.args.library.now, tree c.args.phrase, c.requires.1.0.1, c.requires.1.1.3, c.requires.0),
  ),
)

pub returns : goal.returns
returns g c = λ cards deck library program. c.compile_checked.ensures (Some cards) deck (library_tree c.args.library.now, tree c.args.phrase, library, program, c.requires.0)
