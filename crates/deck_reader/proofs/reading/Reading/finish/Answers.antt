use Rattle.std.proofs.Common.{List, ◌++◌, ap}
use Rattle.deck_reader.specs.JobView.{JobView}
use Rattle.deck_reader.specs.Reading.{put_back}
use Rattle.deck_reader.proofs.Arrivals.{whole_batch, closes_back, finished}
use Rattle.deck_reader.proofs.reading.Reading.finish.Goals as goal

pub returns-clause-batch : goal.returns-clause-batch
returns-clause-batch c = λ given taken cards at.
    let closing = c.close.new.self in
    finished given (put_back taken c.args.self) (put_back taken closing) cards _ at (closes_back _ _ taken c.in_ok-close.ensures)
    (ap (λ (js : List JobView). whole_batch closing.accounts (taken ++ js) closing.stray) c.into_listed.ensures)
