use Rattle.std.proofs.Common.{List, ◌++◌, ap, append-nil, sym, ◌∙◌}
use Rattle.deck_reader.specs.JobView.{JobView}
use Rattle.deck_reader.proofs.Staying.{if_none, taken_and_kept}
use Rattle.deck_reader.proofs.reader.Reader.take_job.Goals as goal

pub returns-clause-none : goal.returns-clause-none
returns-clause-none c = λ given taken input stands. if_none c.pop.result c.pop.ensures.none (λ empty.
    sym (taken_and_kept given c.args.self.now taken input stands) ∙ ap (λ (js : List JobView). taken ++ js) empty ∙ append-nil taken)
