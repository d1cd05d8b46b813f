use Rattle.std.proofs.Common.{◌≡◌, ◌⊎◌, ◌+◌, ◌++◌, ℕ, List, Bool, true, false, Some, min, slice_index, subst, ap, ◌∙◌}
use Rattle.account_book.specs.BookView.{openings_of}
use Rattle.batch_listing.specs.Texts.{title}
use Rattle.batch_listing.specs.Listing.{body, verdict}
use Rattle.batch_listing.specs.Behind.{Fits}
use Rattle.batch_listing.proofs.Deciding.{accepted_at, became_at, section_at}
use Rattle.batch_listing.proofs.Tallying.{tally_behind}
use Rattle.batch_listing.proofs.audit.Audit.section.Goals as goal

pub returns-in_err-decision-clause-spared : goal.returns-in_err-decision-clause-spared
returns-in_err-decision-clause-spared c = λ earlier behind.
    let openings = openings_of c.args.self.now.book.accounts in
    let spared : Bool → Type 0 = λ taken. (taken ≡ false) ⊎ Fits c.args.brought c.args.job.now.value → (c.push_body.new.desk ≡ c.args.desk.now) × (c.push_body.new.self.reruns ≡ c.args.self.now.reruns) in
    subst spared (accepted_at openings c.args.self.now.book.balances earlier c.args.job.now.value behind) c.in_err-decision.ensures.spared

pub returns-clause-text : goal.returns-clause-text
returns-clause-text c = λ earlier behind.
    let openings = openings_of c.args.self.now.book.accounts in
    let job = c.args.job.now.value in
    let made = body (verdict (slice_index c.args.self.now.book.balances) job) job in
    c.in_ok-decision.ensures.text
    ∙ ap (λ (text : List ℕ). text ++ made) (c.in_ok-push_title.ensures ∙ ap (λ (text : List ℕ). text ++ title c.deref.result.now) c.new-out.ensures.items ∙ ap title c.deref.ensures)
    ∙ section_at openings c.args.self.now.book.balances earlier job behind

pub returns-clause-spared : goal.returns-clause-spared
returns-clause-spared c = λ earlier behind.
    let openings = openings_of c.args.self.now.book.accounts in
    let spared : Bool → Type 0 = λ taken. (taken ≡ false) ⊎ Fits c.args.brought c.args.job.now.value → (c.push_body.new.desk ≡ c.args.desk.now) × (c.push_body.new.self.reruns ≡ c.args.self.now.reruns) in
    subst spared (accepted_at openings c.args.self.now.book.balances earlier c.args.job.now.value behind) c.in_ok-decision.ensures.spared

pub returns-clause-rerun : goal.returns-clause-rerun
returns-clause-rerun c = λ earlier behind.
    let openings = openings_of c.args.self.now.book.accounts in
    let rerun : Bool → Type 0 = λ taken. taken ≡ true → (Fits c.args.brought c.args.job.now.value → ⊥) → c.push_body.new.self.reruns ≡ min (c.args.self.now.reruns + 1) 4294967295 in
    subst rerun (accepted_at openings c.args.self.now.book.balances earlier c.args.job.now.value behind) c.in_ok-decision.ensures.rerun

pub returns-clause-tally : goal.returns-clause-tally
returns-clause-tally c = λ earlier behind kept.
    let job = c.args.job.now.value in
    let balances = c.args.self.now.book.balances in
    let made = body (verdict (slice_index balances) job) job in
    let text = c.in_ok-decision.ensures.text
    ∙ ap (λ (text : List ℕ). text ++ made) (c.in_ok-push_title.ensures ∙ ap (λ (text : List ℕ). text ++ title c.deref.result.now) c.new-out.ensures.items ∙ ap title c.deref.ensures) in
    tally_behind (openings_of c.args.self.now.book.accounts) balances earlier job c.push_body.new.out.items c.args.self.now.tally c.push_body.new.self.tally behind text kept c.in_ok-decision.ensures.tally

pub returns-clause-last : goal.returns-clause-last
returns-clause-last c = λ earlier behind.
    ap Some (c.in_ok-decision.ensures.decided ∙ became_at (openings_of c.args.self.now.book.accounts) c.args.self.now.book.balances earlier c.args.job.now.value behind)
