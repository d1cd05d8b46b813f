use Rattle.std.proofs.Common.{◌≡◌, ◌≤◌, List, ℕ, OnOk, slice_index, ◌∙◌, sym, subst, ap}
use Rattle.deck_reader.specs.JobView.{JobView}
use Rattle.account_book.specs.Charges.{charge}
use Rattle.algolw_meaning.specs.Running.{job_result}
use Rattle.batch_listing.specs.Listing.{verdict}
use Rattle.batch_listing.proofs.Deciding.{settled_accepted}
use Rattle.batch_listing.proofs.audit.Audit.push_body.Goals as goal

pub push_ended-requires : goal.push_ended-requires
push_ended-requires c =
    let covered : JobView → Type 0 = λ job. charge (job_result job).counts ≤ slice_index c.args.self.now.book.balances c.in-Accepted.account in
    subst covered (c.deref.ensures ∙ sym c.deref-in-Accepted.ensures ∙ sym c.in-Some.ensures.equal) (c.decide.ensures.covered c.in-Accepted.account c.in-Accepted.is)

pub returns-in-Some-clause-book : goal.returns-in-Some-clause-book
returns-in-Some-clause-book c =
    let lowers : List ℕ → Type 0 = λ balances. OnOk c.push_ended.result (c.push_ended.new.self.book.balances ≡ balances) in
    let decided = ap (verdict (slice_index c.args.self.now.book.balances)) (sym c.deref.ensures) ∙ sym c.decide.ensures.verdict ∙ c.in-Accepted.is in
    subst lowers (settled_accepted c.args.self.now.book.balances c.args.job.now.value c.in-Some.ended.job c.in-Accepted.account decided (c.in-Some.ensures.equal ∙ c.deref-in-Accepted.ensures))
    c.push_ended.ensures.book

pub returns-in_ok-decision-in-None-clause-book : goal.returns-in_ok-decision-in-None-clause-book
returns-in_ok-decision-in-None-clause-book c =
    let decided = ap (verdict (slice_index c.args.self.now.book.balances)) (sym c.deref.ensures) ∙ sym c.decide.ensures.verdict ∙ c.in-Accepted.is in
    c.in_ok-decision-in-None.ensures.book
    ∙ settled_accepted c.args.self.now.book.balances c.args.job.now.value c.in_ok-ended-in-None.ended.job c.in-Accepted.account decided c.in_ok-ended-in-None.ensures
