use Rattle.std.proofs.Common.{◌≡◌, List, [], ◌++◌, Some, Err, ap, subst, ◌∙◌}
use Rattle.deck_reader.specs.declared.batch.Account.{Account}
use Rattle.deck_reader.specs.declared.batch.Batch.{Batch}
use Rattle.deck_reader.specs.Batch.{batch_with}
use Rattle.deck_reader.specs.declared.reader.FeedError.{FeedError}
use Rattle.deck_reader.specs.declared.reader.FeedError.TheVariants.{TooLarge}
use Rattle.deck_reader.specs.Fed.{StandsFor}
use Rattle.night_shares.specs.Batches.{lone_batch}
use Rattle.night_shares.proofs.Batches.{batch_of_run, run_fits, run_passes_not}
use Rattle.night_shares.proofs.Results.{ok_by, same_error}
use Rattle.night_shares.proofs.jobs.read_run.Goals as goal

pub returns-clause-batch : goal.returns-clause-batch
returns-clause-batch c = λ lines is text_is.
    let stands = subst (λ (a : List Account). StandsFor (Some a) c.in_ok-reader.reader [] []) c.new.ensures c.in_ok-reader.ensures in
    ok_by c.finish.result (λ (b : Batch). record b { jobs = [] ++ b.jobs } ≡ batch_with (Some []) ([] ++ c.args.run.now)) (λ (b : Batch). b ≡ lone_batch lines)
    (c.finish.ensures.batch (Some []) [] ([] ++ c.args.run.now) (c.in_ok-feed.ensures.fed (Some []) [] [] stands))
    (λ b h. h ∙ batch_of_run lines c.args.run.now is text_is)

pub returns-clause-fits : goal.returns-clause-fits
returns-clause-fits c = λ lines is text_is err.
    let stands = subst (λ (a : List Account). StandsFor (Some a) c.in_ok-reader.reader [] []) c.new.ensures c.in_ok-reader.ensures in
    let large = c.finish.ensures.large (Some []) [] ([] ++ c.args.run.now) (c.in_ok-feed.ensures.fed (Some []) [] [] stands) err in
    let fits = run_fits lines c.args.run.now is text_is c.requires in
    cc

pub returns-in_err-feed-clause-fits : goal.returns-in_err-feed-clause-fits
returns-in_err-feed-clause-fits c = λ lines is text_is err.
    let stands = subst (λ (a : List Account). StandsFor (Some a) c.in_ok-reader.reader [] []) c.new.ensures c.in_ok-reader.ensures in
    let same = same_error c.from_residual-in_err-feed.result c.in_err-feed.field-0.0 TooLarge c.from_residual-in_err-feed.ensures.1 err in
    let large = c.in_err-feed.ensures.large (Some []) [] [] stands (ap (λ (e : FeedError). Err e) same) in
    let fits = run_passes_not lines c.args.run.now is text_is c.requires in
    cc
