-- Phrases are balanced by copying too.
use Rattle.std.proofs.Common.{ℕ, subst}
use Rattle.program_meaning.specs.State.{State, Outcome, on, jump, stop, Setting, Given}
use Rattle.program_meaning.specs.Copying as copying
use Rattle.program_meaning.specs.Environments as environments
use Rattle.program_meaning.specs.Environments.{Bodied}
use Rattle.program_meaning.specs.Closing.{closed_state, closed_outcome}
use Rattle.program_meaning.specs.Laws.{IsBalanced, MayBegin, MayBeginCopied, PhrasesAreBalanced}
use Rattle.program_meaning.proofs.Law.{environments_give_what_copying_gives}
use Rattle.program_meaning.proofs.Opening.{opened_state, opened_job, closed_again, closed_job_again}
use Rattle.program_meaning.proofs.Balance.{balanced_run}

closed_balanced : (s : State Bodied) (r : Outcome Bodied Given) → IsBalanced s r → IsBalanced (closed_state s) (closed_outcome (λ a. a) r)
closed_balanced s (on a t) b = b
closed_balanced s (jump l t) b = b
closed_balanced s (stop y w t) b = b

opened_begins : (job : copying.Job) (s : State copying.Closed) → MayBeginCopied job s → MayBegin (opened_job job) (opened_state s)
opened_begins (copying.phrase_job u w a) s h = h
opened_begins (copying.while_job w c body) s h = h
opened_begins (copying.step_job w x i j k body) s h = h
opened_begins (copying.list_job w x i body) s h = h
opened_begins (copying.items_job b w items k) s h = h

balanced_copying : (set : Setting) (n : ℕ) (job : copying.Job) (s : State copying.Closed) → MayBeginCopied job s → IsBalanced s (copying.run set n job s)
balanced_copying set n job s h =
    let t = opened_state s in
    let opened = opened_job job in
    let closed = closed_balanced t (environments.run set n opened t) (balanced_run set n opened t (opened_begins job s h)) in
    subst (λ (s' : State copying.Closed). IsBalanced s' (copying.run set n job s')) (closed_again s)
    (subst (λ (j : copying.Job). IsBalanced (closed_state t) (copying.run set n j (closed_state t))) (closed_job_again job)
    (subst (λ (r : Outcome copying.Closed Given). IsBalanced (closed_state t) r) (environments_give_what_copying_gives set n opened t) closed))

pub phrases_are_balanced : PhrasesAreBalanced
phrases_are_balanced = record { by_copying = balanced_copying; by_environments = balanced_run }
