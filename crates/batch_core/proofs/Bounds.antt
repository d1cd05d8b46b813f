-- The balance at the place of the next undecided job is between the bounds.
use Rattle.std.proofs.Common.{◌≡◌, ℕ, ◌+◌, ◌-◌, ◌<◌, ◌≤◌, ◌↔◌, ◌&&◌, ◌==◌, Bool, true, false, cond, List, [], ◌∷◌, Option, Some, None, length, get_or, take, fold, zero, suc, refl, ap, sym, ◌∙◌, arith}
use Rattle.std.proofs.lemmas.List.Sums.{sum_by-cons}
use Rattle.std.proofs.lemmas.Bool.Decides.{nat_tests}
use Rattle.account_book.specs.Places as places
use Rattle.batch_core.specs.declared.job.Claim.{Claim}
use Rattle.batch_core.specs.declared.job.Stage.{Stage}
use Rattle.batch_core.specs.declared.job.Stage.TheVariants.{Undecided, Refused, Outstanding, Ended}
use Rattle.batch_core.specs.declared.job.JobState.{JobState}
use Rattle.batch_core.specs.Core.{no_job, charged, held, share, settled_on, reserved_on, cards_on}
use Rattle.batch_core.specs.Order.{MayCost, AreCharges, Agrees, claimed, priced}
use Rattle.batch_core.specs.Kept.{IsDecided}

-- a balance that was lowered by something between the least and the most that a job can take
pub record Between (balance lowered least most : ℕ) : Type 0 where
  pub low : balance - most ≤ lowered
  pub high : lowered ≤ balance - least

-- what a job takes of an account, where it is the job's (same) and covers its reserve
takes : (stage : Stage) (claim : Claim) (same covered covered' : Bool) (balance charge : ℕ) → IsDecided stage → Agrees stage covered → (same ≡ true → covered ≡ covered') → MayCost stage claim charge
    → Between balance (cond (same && covered') (balance - charge) balance)
    (cond same (charged stage) 0 + cond same (held stage claim.cards) 0)
    (cond same (charged stage) 0 + cond same (held stage claim.reserve) 0)
takes Undecided claim same covered covered' balance charge decided agrees alike costs = absurd decided
takes Refused claim false covered covered' balance charge decided agrees alike costs = record { low = omega arith; high = omega arith }
takes Refused claim true covered true balance charge decided agrees alike costs = let e : true ≡ false = sym (alike refl) ∙ agrees in cc
takes Refused claim true covered false balance charge decided agrees alike costs = record { low = omega arith; high = omega arith }
takes Outstanding claim false covered covered' balance charge decided agrees alike costs = record { low = omega arith; high = omega arith }
takes Outstanding claim true covered true balance charge decided agrees alike costs = record { low = omega (arith, costs.0, costs.1); high = omega (arith, costs.0, costs.1) }
takes Outstanding claim true covered false balance charge decided agrees alike costs = let e : false ≡ true = sym (alike refl) ∙ agrees in cc
takes (Ended settled) claim false covered covered' balance charge decided agrees alike costs = record { low = omega arith; high = omega arith }
takes (Ended settled) claim true covered true balance charge decided agrees alike costs = record { low = omega (arith, costs); high = omega (arith, costs) }
takes (Ended settled) claim true covered false balance charge decided agrees alike costs = let e : false ≡ true = sym (alike refl) ∙ agrees in cc

-- the balance of an account behind a decided job
behind : (stage : Stage) (claim : Claim) (payer : Option ℕ) (balance : ℕ → ℕ) (account charge : ℕ) → IsDecided stage
    → Agrees stage (places.is_accepted balance (record { account = payer; reserve = claim.reserve })) → MayCost stage claim charge
    → Between (balance account) (places.after account (balance account) (record { account = payer; reserve = claim.reserve }, charge))
    (cond (places.is_on account payer) (charged stage) 0 + cond (places.is_on account payer) (held stage claim.cards) 0)
    (cond (places.is_on account payer) (charged stage) 0 + cond (places.is_on account payer) (held stage claim.reserve) 0)
behind stage claim None balance account charge decided agrees costs = record { low = omega arith; high = omega arith }
behind stage claim (Some payer) balance account charge decided agrees costs =
    let is : (payer == account) ≡ true → payer ≡ account = λ e. grind (arith, nat_tests) in
    takes stage claim (payer == account) (places.is_accepted balance (record { account = Some payer; reserve = claim.reserve })) (places.is_accepted (λ _. balance account) (record { account = Some payer; reserve = claim.reserve }))
    (balance account) charge decided agrees (λ e. ap (λ (n : ℕ). places.is_accepted (λ _. balance n) (record { account = Some payer; reserve = claim.reserve })) (is e)) costs

pub undecided : (stage : Stage) → (IsDecided stage → ⊥) → stage ≡ Undecided
undecided Undecided not = refl
undecided Refused not = absurd (not tt)
undecided Outstanding not = absurd (not tt)
undecided (Ended charge) not = absurd (not tt)

pub cond_zero : (b : Bool) → ◌≡◌ {A = ℕ} (cond b 0 0) 0
cond_zero true = refl
cond_zero false = refl

-- jobs of which none is decided hold nothing
nothing_held : (jobs : List JobState) (account : ℕ) → ((place : ℕ) → place < length jobs → IsDecided (get_or jobs place no_job).stage → ⊥) → settled_on jobs account + cards_on jobs account ≡ 0
nothing_held [] account none = refl
nothing_held (job ∷ jobs) account none =
    let e : job.stage ≡ Undecided = undecided job.stage (none 0 (omega arith)) in
    let rest : settled_on jobs account + cards_on jobs account ≡ 0 = nothing_held jobs account (λ place within. none (suc place) (omega arith)) in
    let first : share (λ j. charged j.stage) account job ≡ 0 = ap (λ (s : Stage). cond (places.is_on account job.claim.account) (charged s) 0) e ∙ cond_zero (places.is_on account job.claim.account) in
    let second : share (λ j. held j.stage j.claim.cards) account job ≡ 0 = ap (λ (s : Stage). cond (places.is_on account job.claim.account) (held s job.claim.cards) 0) e ∙ cond_zero (places.is_on account job.claim.account) in
    let settled = sum_by-cons (share (λ (j : JobState). charged j.stage) account) job jobs in
    let cards = sum_by-cons (share (λ (j : JobState). held j.stage j.claim.cards) account) job jobs in
    omega arith

-- the decisions on these jobs are those of their places, from these balances on
abbrev pub Ordered : (ℕ → ℕ) → List JobState → List ℕ → Type 0
Ordered balance jobs charges = (place : ℕ) → place < length jobs → Agrees (get_or jobs place no_job).stage (places.is_accepted (λ account. fold (places.after account) (balance account) (take place (priced jobs charges))) (claimed (get_or jobs place no_job)))

-- the first jobs are decided, so many of them
abbrev pub FirstDecided : List JobState → ℕ → Type 0
FirstDecided jobs decided = (place : ℕ) → place < length jobs → IsDecided (get_or jobs place no_job).stage ↔ (place < decided)

pub between : (decided : ℕ) (jobs : List JobState) (charges : List ℕ) (balance : ℕ → ℕ) (account : ℕ) → AreCharges jobs charges → Ordered balance jobs charges → FirstDecided jobs decided
    → Between (balance account) (fold (places.after account) (balance account) (take decided (priced jobs charges)))
    (settled_on jobs account + cards_on jobs account) (settled_on jobs account + reserved_on jobs account)
between zero jobs charges balance account are ordered first =
    let none = nothing_held jobs account (λ place within is. absurd (omega (arith, (first place within).0 is))) in
    record { low = omega arith; high = omega arith }
between (suc decided) [] charges balance account are ordered first = record { low = omega arith; high = omega arith }
between (suc decided) (job ∷ jobs) [] balance account are ordered first = absurd are
between (suc decided) (job ∷ jobs) (charge ∷ charges) balance account are ordered first =
    let here = behind job.stage job.claim job.claim.account balance account charge ((first 0 (omega arith)).1 (omega arith)) (ordered 0 (omega arith)) are.0 in
    let rest = between decided jobs charges (λ a. places.after a (balance a) (claimed job, charge)) account are.1
    (λ place within. ordered (suc place) (omega arith))
    (λ place within. ((λ is. omega (arith, (first (suc place) (omega arith)).0 is)), (λ before. (first (suc place) (omega arith)).1 (omega arith)))) in
    let settled = sum_by-cons (share (λ (j : JobState). charged j.stage) account) job jobs in
    let reserved = sum_by-cons (share (λ (j : JobState). held j.stage j.claim.reserve) account) job jobs in
    let cards = sum_by-cons (share (λ (j : JobState). held j.stage j.claim.cards) account) job jobs in
    record { low = omega arith; high = omega arith }
