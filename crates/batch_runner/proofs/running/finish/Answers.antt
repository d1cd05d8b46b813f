use Rattle.std.proofs.Common.{◌∙◌}
use Rattle.batch_runner.specs.ProgressLaws.{goes_further}
use Rattle.batch_runner.proofs.running.finish.Goals as goal

pub returns-clause-goes_on : goal.returns-clause-goes_on
returns-clause-goes_on g c = goes_further _ _ _ c.write_rest.ensures.goes_on (c.read_board.ensures.goes_on _)

pub returns-clause-finished : goal.returns-clause-finished
returns-clause-finished g c = λ none. rw (c.read_board.ensures.same.0, c.read_board.ensures.same.1) (c.write_rest.ensures.finished (c.read_board.ensures.halted none))
