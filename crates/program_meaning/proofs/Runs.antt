-- A run keeps its limits.
use Rattle.std.proofs.Common.{ℕ, suc, ◌-◌, ◌<◌, ◌≤◌, List, [], ◌∷◌, length, min, Bool, true, false, refl, sym, subst, arith}
use Rattle.std.proofs.lemmas.List.{length-take}
use Rattle.value_ops.specs.declared.places.Place.{Place}
use Rattle.algolw_typing.specs.Types.{is_place}
use Rattle.output_editing.specs.Layout.{lay}
use Rattle.output_editing.proofs.Cutting.{lines_are_cut}
use Rattle.program_meaning.specs.State.{State, Outcome, on, jump, stop, Setting, for_value, Given}
use Rattle.program_meaning.specs.Copying as copying
use Rattle.program_meaning.specs.Environments as environments
use Rattle.program_meaning.specs.Environments.{Bodied}
use Rattle.program_meaning.specs.Closing.{closed_state, closed_outcome}
use Rattle.program_meaning.specs.Results.{initial, nowhere, outcome, state_of, begun_at}
use Rattle.program_meaning.specs.Laws.{BoundedRunsEnd, KeepsItsCounts, RunsKeepTheirLimits}
use Rattle.program_meaning.proofs.Law.{environments_give_what_copying_gives}
use Rattle.program_meaning.proofs.Alive.{Good, alive_run}
use Rattle.program_meaning.proofs.Opening.{opened_state, opened_job, closed_again, closed_job_again}

begun_within_at : (st : Place) (b : Bool) (n k : ℕ) → n ≤ k → elim b [ true ↦ suc n | false ↦ n ] ≤ suc k
begun_within_at st true n k h = omega (arith, h)
begun_within_at st false n k h = omega (arith, h)

begun_within : (st : Place) (begun : List Place) → begun_at st begun ≤ length begun
begun_within st [] = omega arith
begun_within st (w ∷ begun) = begun_within_at st (is_place st w) (begun_at st begun) (length begun) (begun_within st begun)

-- ---- any job, from any state

kept : (set : Setting) (s : State Bodied) (r : Outcome Bodied Given) → Good set.steps s r → KeepsItsCounts set s r
kept set s (on a t) g = record { finished = tt; grown = g.grown; steps = g.steps; begun = g.begun }
kept set s (jump l t) g = record { finished = tt; grown = g.1.grown; steps = g.1.steps; begun = g.1.begun }
kept set s (stop y w t) g = record { finished = g.0; grown = g.1.grown; steps = g.1.steps; begun = g.1.begun }

kept_by_environments : (set : Setting) (n : ℕ) (job : environments.Job) (s : State Bodied) → set.steps - s.steps < n → KeepsItsCounts set s (environments.run set n job s)
kept_by_environments set n job s b = kept set s (environments.run set n job s) ((alive_run set n job).by s b)

closed_kept : (set : Setting) (s : State Bodied) (r : Outcome Bodied Given) → KeepsItsCounts set s r → KeepsItsCounts set (closed_state s) (closed_outcome (λ a. a) r)
closed_kept set s (on a t) k = record { finished = tt; grown = k.grown; steps = k.steps; begun = k.begun }
closed_kept set s (jump l t) k = record { finished = tt; grown = k.grown; steps = k.steps; begun = k.begun }
closed_kept set s (stop y w t) k = record { finished = k.finished; grown = k.grown; steps = k.steps; begun = k.begun }

kept_by_copying : (set : Setting) (n : ℕ) (job : copying.Job) (s : State copying.Closed) → set.steps - s.steps < n → KeepsItsCounts set s (copying.run set n job s)
kept_by_copying set n job s b =
    let t = opened_state s in
    let opened = opened_job job in
    let closed = closed_kept set t (environments.run set n opened t) (kept_by_environments set n opened t b) in
    subst (λ (s' : State copying.Closed). KeepsItsCounts set s' (copying.run set n job s')) (closed_again s)
    (subst (λ (j : copying.Job). KeepsItsCounts set (closed_state t) (copying.run set n j (closed_state t))) (closed_job_again job)
    (subst (λ (r : Outcome copying.Closed Given). KeepsItsCounts set (closed_state t) r) (environments_give_what_copying_gives set n opened t) closed))

pub bounded_runs_end : BoundedRunsEnd
bounded_runs_end = record { by_copying = kept_by_copying; by_environments = kept_by_environments }

-- ---- programs

min_within : (m n : ℕ) → min m n ≤ m
min_within m n = omega arith

pub runs_keep_their_limits : RunsKeepTheirLimits
runs_keep_their_limits set program =
    let k = kept_by_copying set (suc set.steps) (copying.phrase_job for_value nowhere program) initial (omega arith) in
    let s = state_of (outcome set program) in
    record {
      finished = k.finished;
      steps = omega (arith, k.steps);
      lines = subst (λ n. n ≤ set.lines) (sym (length-take set.lines (lay s.pieces))) (min_within set.lines (length (lay s.pieces)));
      printed = (lay s.pieces, (lines_are_cut).cut s.pieces, refl);
      begun = λ st. let h = begun_within st s.begun in omega (arith, h, k.begun);
    }
