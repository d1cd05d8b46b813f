use Rattle.std.proofs.Common.{◌≡◌, ℕ, ◌+◌, ◌<◌, List, Some, slice_get, refl, sym, ap, ◌∙◌, arith}
use Rattle.deck_reader.specs.JobView.{JobView}
use Rattle.batch_core.specs.Core.{Core, start}
use Rattle.listing_order.specs.Decisions.{cost}
use Rattle.listing_order.proofs.OneByOne.{AtRest, all_arrive, all_come, all_end, one_by_one}
use Rattle.listing_order.proofs.laws.batches_come_to_an_end.Goals as goal

-- the jobs at one place are one job
one_job : (jobs : List JobView) (place other : ℕ) (job found : JobView) → slice_get jobs place ≡ Some job → slice_get jobs other ≡ Some found → place ≡ other → found ≡ job
one_job jobs place other job found is at same =
    let both : Some found ≡ Some job = sym at ∙ ap (slice_get jobs) (sym same) ∙ is in
    cc

pub returns : goal.returns
returns c = λ openings jobs there few.
    let core : Core = start openings in
    let still : AtRest core = record { decided = refl; printed = refl; over = λ place within. let none : place < 0 = within in absurd (omega arith) } in
    let (legal, complete) = all_come core jobs still there (omega (arith, few)) in (
      one_by_one core jobs,
      record {
        legal = legal;
        complete = complete;
        claims = all_arrive core jobs;
        charges = λ place paid job is has.
            let end = all_end core jobs (place + 1) paid has in
            end.costs ∙ ap cost (one_job jobs place end.place job end.job is end.is (omega (arith, end.at)));
      },
    )
