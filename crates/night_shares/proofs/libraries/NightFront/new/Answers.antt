use Rattle.std.proofs.Common.{List, [], ◌++◌, codes, Some, Err, subst, ap, ◌∙◌}
use Rattle.deck_reader.specs.declared.batch.Account.{Account}
use Rattle.deck_reader.specs.declared.batch.Batch.{Batch}
use Rattle.deck_reader.specs.declared.reader.FeedError.{FeedError}
use Rattle.deck_reader.specs.declared.reader.FeedError.TheVariants.{TooLarge}
use Rattle.deck_reader.specs.Fed.{StandsFor}
use Rattle.night_shares.proofs.Fronts.{front_over, head_over, head_within, libraries_kept, libraries_known_then, strays_known, whole_over}
use Rattle.night_shares.proofs.Results.{same_error}
use Rattle.night_shares.proofs.libraries.NightFront.new.Goals as goal
use Rattle.night_shares.proofs.libraries.NightFront.new.Goals.{in-Some+in_ok-libraries-in-Some, in-None}

pub returns-in_err-feed-clause-large : goal.returns-in_err-feed-clause-large
returns-in_err-feed-clause-large c = λ lines all none is err.
    let stands = subst (λ (a : List Account). StandsFor (Some a) c.in_ok-reader.reader [] []) c.new.ensures c.in_ok-reader.ensures in
    let same = same_error c.from_residual-in_err-feed.result c.in_err-feed.field-0.0 TooLarge c.from_residual-in_err-feed.ensures.1 err in
    front_over lines c.args.front.now all none is (c.in_err-feed.ensures.large (Some []) [] [] stands (ap (λ (e : FeedError). Err e) same))

pub returns-in_err-feed-2-clause-large : goal.returns-in_err-feed-2-clause-large
returns-in_err-feed-2-clause-large c = λ lines all none is err.
    let stands = subst (λ (a : List Account). StandsFor (Some a) c.in_ok-reader.reader [] []) c.new.ensures c.in_ok-reader.ensures in
    let fed = c.in_ok-feed.ensures.fed (Some []) [] [] stands in
    let same = same_error c.from_residual-in_err-feed-2.result c.in_err-feed-2.field-0.0 TooLarge c.from_residual-in_err-feed-2.ensures.1 err in
    head_over lines c.args.front.now all none is (c.in_err-feed-2.ensures.large (Some []) [] c.args.front.now fed (ap (λ (e : FeedError). Err e) same))

pub returns-in_err-batch-clause-large : goal.returns-in_err-batch-clause-large
returns-in_err-batch-clause-large c = λ lines all none is err.
    let stands = subst (λ (a : List Account). StandsFor (Some a) c.in_ok-reader.reader [] []) c.new.ensures c.in_ok-reader.ensures in
    let fed = c.in_ok-feed.ensures.fed (Some []) [] [] stands in
    let fed' = c.in_ok-feed-2.ensures.fed (Some []) [] c.args.front.now fed in
    let same = same_error c.from_residual-in_err-batch.result c.in_err-batch.field-0.0 TooLarge c.from_residual-in_err-batch.ensures.1 err in
    whole_over lines c.args.front.now all none is (c.in_err-batch.ensures.large (Some []) [] (c.args.front.now ++ codes "%JOB\n") fed' (ap (λ (e : FeedError). Err e) same))

pub returns-clause-libraries : goal.returns-clause-libraries
returns-clause-libraries c = λ lines all none is.
    let stands = subst (λ (a : List Account). StandsFor (Some a) c.in_ok-reader.reader [] []) c.new.ensures c.in_ok-reader.ensures in
    let fed = c.in_ok-feed.ensures.fed (Some []) [] [] stands in
    let fed' = c.in_ok-feed-2.ensures.fed (Some []) [] c.args.front.now fed in
    let input = c.args.front.now ++ codes "%JOB\n" in
    elim c.match-libraries.branch [
      | in-Some+in_ok-libraries-in-Some w ↦
          ap (λ v. v.items) w.libraries-is ∙ w.in_ok-libraries-in-Some.ensures
          ∙ libraries_kept lines c.args.front.now w.in-Some.shelf.now all none is (w.in-Some.ensures (Some []) [] input fed')
      | in-None w ↦ absurd (libraries_known_then lines c.args.front.now all none is (w.in-None.ensures (Some []) [] input fed'))
    ]

pub returns-clause-fits : goal.returns-clause-fits
returns-clause-fits c =
    let stands = subst (λ (a : List Account). StandsFor (Some a) c.in_ok-reader.reader [] []) c.new.ensures c.in_ok-reader.ensures in
    let fed = c.in_ok-feed.ensures.fed (Some []) [] [] stands in
    head_within c.args.front.now (c.in_ok-feed-2.ensures.fits (Some []) [] c.args.front.now fed)

pub returns-clause-stray : goal.returns-clause-stray
returns-clause-stray c = λ lines all none is.
    let stands = subst (λ (a : List Account). StandsFor (Some a) c.in_ok-reader.reader [] []) c.new.ensures c.in_ok-reader.ensures in
    let fed = c.in_ok-feed.ensures.fed (Some []) [] [] stands in
    let fed' = c.in_ok-feed-2.ensures.fed (Some []) [] c.args.front.now fed in
    let input = c.args.front.now ++ codes "%JOB\n" in
    ap (λ (b : Batch). b.stray) (c.in_ok-batch.ensures.batch (Some []) [] input fed') ∙ strays_known lines c.args.front.now all none is
