-- What a list of events makes of each job.
use Rattle.std.proofs.Common.{◌≡◌, ◌≢◌, ℕ, ◌+◌, ◌-◌, ◌<◌, ◌≤◌, ◌⊎◌, List, [], ◌∷◌, ◌++◌, length, get_or, zero, suc, refl, ap, sym, subst, inl, inr, ◌∙◌, arith, Contains}
use Rattle.std.proofs.lemmas.Bool.{cases_eq, cases_lt}
use Rattle.std.proofs.lemmas.List.{get_or-set_same, get_or-set_other, get_or_append_left, get_or_push, get_or_past, length_push}
use Rattle.std.proofs.lemmas.List.Elements.{Contains-append_right}
use Rattle.batch_core.specs.declared.event.Event.{Event}
use Rattle.batch_core.specs.declared.event.Event.TheVariants.{Arrive, Accept, Refuse, End, Print}
use Rattle.batch_core.specs.declared.job.Stage.{Stage}
use Rattle.batch_core.specs.declared.job.Stage.TheVariants.{Undecided, Refused, Outstanding, Ended}
use Rattle.batch_core.specs.declared.job.JobState.{JobState}
use Rattle.batch_core.specs.Core.{Core, start, no_job, arrived, job_at}
use Rattle.batch_core.specs.Events.{Allowed, staged, step, replay, Legal}
use Rattle.batch_core.specs.Kept.{Kept}
use Rattle.batch_core.specs.Laws.{IsAccepted, IsRefused, AsListed}
use Rattle.batch_core.proofs.Steps.{keeps, is_undecided, outstanding}

-- what an event does to the stage of the job at a place
pub record Move (place : ℕ) (old : Stage) (event : Event) (new : Stage) : Type 0 where
  pub keeps_accepted : IsAccepted old → IsAccepted new
  pub keeps_refused : IsRefused old → IsRefused new
  pub keeps_ended : (charge : ℕ) → old ≡ Ended charge → new ≡ Ended charge
  pub accepts : event ≡ Accept (place + 1) → IsAccepted new
  pub refuses : event ≡ Refuse (place + 1) → IsRefused new
  pub ends : (charge : ℕ) → event ≡ End (place + 1) charge → new ≡ Ended charge
  pub from_accepted : IsAccepted new → (event ≡ Accept (place + 1)) ⊎ IsAccepted old
  pub from_refused : IsRefused new → (event ≡ Refuse (place + 1)) ⊎ IsRefused old
  pub from_ended : (charge : ℕ) → new ≡ Ended charge → (event ≡ End (place + 1) charge) ⊎ (old ≡ Ended charge)

-- an event of another job
other_job : (place : ℕ) (old : Stage) (event : Event) (new : Stage) → new ≡ old → (event ≡ Accept (place + 1) → ⊥) → (event ≡ Refuse (place + 1) → ⊥) → ((charge : ℕ) → event ≡ End (place + 1) charge → ⊥)
    → Move place old event new
other_job place old event new same not_accept not_refuse not_end = record {
  keeps_accepted = λ is. subst IsAccepted (sym same) is;
  keeps_refused = λ is. subst IsRefused (sym same) is;
  keeps_ended = λ charge is. same ∙ is;
  accepts = λ is. absurd (not_accept is);
  refuses = λ is. absurd (not_refuse is);
  ends = λ charge is. absurd (not_end charge is);
  from_accepted = λ is. inr (subst IsAccepted same is);
  from_refused = λ is. inr (subst IsRefused same is);
  from_ended = λ charge is. inr (sym same ∙ is);
}

accepted_move : (place number : ℕ) → number ≡ place + 1 → Move place Undecided (Accept number) Outstanding
accepted_move place number same = record {
  keeps_accepted = λ is. absurd is;
  keeps_refused = λ is. absurd is;
  keeps_ended = λ charge is. cc;
  accepts = λ is. tt;
  refuses = λ is. cc;
  ends = λ charge is. cc;
  from_accepted = λ is. inl (ap (λ (n : ℕ). Accept n) same);
  from_refused = λ is. absurd is;
  from_ended = λ charge is. cc;
}

refused_move : (place number : ℕ) → number ≡ place + 1 → Move place Undecided (Refuse number) Refused
refused_move place number same = record {
  keeps_accepted = λ is. absurd is;
  keeps_refused = λ is. absurd is;
  keeps_ended = λ charge is. cc;
  accepts = λ is. cc;
  refuses = λ is. tt;
  ends = λ charge is. cc;
  from_accepted = λ is. absurd is;
  from_refused = λ is. inl (ap (λ (n : ℕ). Refuse n) same);
  from_ended = λ charge is. cc;
}

ended_move : (place number charge : ℕ) → number ≡ place + 1 → Move place Outstanding (End number charge) (Ended charge)
ended_move place number charge same = record {
  keeps_accepted = λ is. tt;
  keeps_refused = λ is. absurd is;
  keeps_ended = λ paid is. cc;
  accepts = λ is. tt;
  refuses = λ is. cc;
  ends = λ paid is. cc;
  from_accepted = λ is. inr tt;
  from_refused = λ is. absurd is;
  from_ended = λ paid is. inl cc;
}

-- a stage that an event sets
set_move : (core : Core) (place at : ℕ) (old new : Stage) (event : Event) → at < length core.jobs → (job_at core at).stage ≡ old
    → (place ≡ at → Move place old event new)
    → (place ≢ at → Move place (job_at core place).stage event (job_at core place).stage)
    → Move place (job_at core place).stage event (get_or (staged core at new) place no_job).stage
set_move core place at old new event within is here elsewhere =
    let job : JobState = record { claim = (job_at core at).claim; stage = new } in
    elim (cases_eq place at) [
      | inl same ↦
          let now : get_or (staged core at new) place no_job ≡ job = ap (λ (n : ℕ). get_or (staged core at new) n no_job) same ∙ get_or-set_same core.jobs at job no_job within in
          let was : (job_at core place).stage ≡ old = ap (λ (n : ℕ). (job_at core n).stage) same ∙ is in
          let F : Stage → Type 0 = λ s. Move place s event (get_or (staged core at new) place no_job).stage in
          let G : JobState → Type 0 = λ j. Move place old event j.stage in
          subst F (sym was) (subst G (sym now) (here same))
      | inr apart ↦
          let G : JobState → Type 0 = λ j. Move place (job_at core place).stage event j.stage in
          subst G (sym (get_or-set_other core.jobs at place job no_job apart)) (elsewhere apart)
    ]

moves : (core : Core) (event : Event) (place : ℕ) → Kept core → Allowed core event → Move place (job_at core place).stage event (job_at (step core event) place).stage
moves core (Arrive claim) place kept may =
    let same : (get_or (core.jobs ++ arrived claim ∷ []) place no_job).stage ≡ (job_at core place).stage = elim (cases_lt place (length core.jobs)) [
      | inl less ↦ ap (λ (j : JobState). j.stage) (get_or_append_left core.jobs (arrived claim ∷ []) no_job place less)
      | inr more ↦
          let was : (job_at core place).stage ≡ Undecided = ap (λ (j : JobState). j.stage) (get_or_past core.jobs place no_job more) in
          elim (cases_lt (length core.jobs) place) [
            | inl past ↦
                let beyond : length (core.jobs ++ arrived claim ∷ []) ≤ place = omega (arith, length_push core.jobs (arrived claim)) in
                ap (λ (j : JobState). j.stage) (get_or_past (core.jobs ++ arrived claim ∷ []) place no_job beyond) ∙ sym was
            | inr not ↦
                let here : length core.jobs ≡ place = omega arith in
                ap (λ (j : JobState). j.stage) (get_or_push core.jobs (arrived claim) no_job place here) ∙ sym was
          ]
    ] in
    other_job place _ _ _ same (λ e. cc) (λ e. cc) (λ charge e. cc)
moves core (Accept number) place kept may =
    let at : number - 1 ≡ core.decided = omega (arith, may.0) in
    set_move core place (number - 1) Undecided Outstanding (Accept number) (omega (arith, may.1.0)) (ap (λ (n : ℕ). (job_at core n).stage) at ∙ is_undecided core kept may.1.0)
    (λ same. accepted_move place number (omega (arith, may.0)))
    (λ apart. other_job place _ _ _ refl (λ e. let n : number ≡ place + 1 = cc in apart (omega (arith, may.0))) (λ e. cc) (λ charge e. cc))
moves core (Refuse number) place kept may =
    let at : number - 1 ≡ core.decided = omega (arith, may.0) in
    set_move core place (number - 1) Undecided Refused (Refuse number) (omega (arith, may.1.0)) (ap (λ (n : ℕ). (job_at core n).stage) at ∙ is_undecided core kept may.1.0)
    (λ same. refused_move place number (omega (arith, may.0)))
    (λ apart. other_job place _ _ _ refl (λ e. cc) (λ e. let n : number ≡ place + 1 = cc in apart (omega (arith, may.0))) (λ charge e. cc))
moves core (End number charge) place kept may =
    set_move core place (number - 1) Outstanding (Ended charge) (End number charge) may.1.0 (outstanding (job_at core (number - 1)).stage may.1.1)
    (λ same. ended_move place number charge (omega (arith, may.0)))
    (λ apart. other_job place _ _ _ refl (λ e. cc) (λ e. cc) (λ paid e. let n : number ≡ place + 1 = cc in apart (omega (arith, may.0))))
moves core (Print number) place kept may = other_job place _ _ _ refl (λ e. cc) (λ e. cc) (λ charge e. cc)

first : (event : Event) (events : List Event) → Contains (event ∷ events) event
first event events = let here : 0 < length (event ∷ events) = omega arith in (0, here, refl)

later : (event other : Event) (events : List Event) → Contains events other → Contains (event ∷ events) other
later event other events is = Contains-append_right (event ∷ []) events other is

either_at : (event other : Event) (events : List Event) (k : ℕ) → k < length (event ∷ events) → get_or (event ∷ events) k other ≡ other → (event ≡ other) ⊎ Contains events other
either_at event other events zero within is = inl is
either_at event other events (suc k) within is = let there : k < length events = omega (arith, within) in inr (k, there, is)

pub either : (event other : Event) (events : List Event) → Contains (event ∷ events) other → (event ≡ other) ⊎ Contains events other
either event other events (k, within, is) = either_at event other events k within is

-- what a list of them does
pub record Moves (place : ℕ) (old : Stage) (events : List Event) (new : Stage) : Type 0 where
  pub keeps_accepted : IsAccepted old → IsAccepted new
  pub keeps_refused : IsRefused old → IsRefused new
  pub keeps_ended : (charge : ℕ) → old ≡ Ended charge → new ≡ Ended charge
  pub accepts : Contains events (Accept (place + 1)) → IsAccepted new
  pub refuses : Contains events (Refuse (place + 1)) → IsRefused new
  pub ends : (charge : ℕ) → Contains events (End (place + 1) charge) → new ≡ Ended charge
  pub from_accepted : IsAccepted new → Contains events (Accept (place + 1)) ⊎ IsAccepted old
  pub from_refused : IsRefused new → Contains events (Refuse (place + 1)) ⊎ IsRefused old
  pub from_ended : (charge : ℕ) → new ≡ Ended charge → Contains events (End (place + 1) charge) ⊎ (old ≡ Ended charge)

followed : (place : ℕ) (old middle new : Stage) (event : Event) (events : List Event) → Move place old event middle → Moves place middle events new → Moves place old (event ∷ events) new
followed place old middle new event events one rest = record {
  keeps_accepted = λ is. rest.keeps_accepted (one.keeps_accepted is);
  keeps_refused = λ is. rest.keeps_refused (one.keeps_refused is);
  keeps_ended = λ charge is. rest.keeps_ended charge (one.keeps_ended charge is);
  accepts = λ has. elim (either event (Accept (place + 1)) events has) [ inl is ↦ rest.keeps_accepted (one.accepts is) | inr has' ↦ rest.accepts has' ];
  refuses = λ has. elim (either event (Refuse (place + 1)) events has) [ inl is ↦ rest.keeps_refused (one.refuses is) | inr has' ↦ rest.refuses has' ];
  ends = λ charge has. elim (either event (End (place + 1) charge) events has) [ inl is ↦ rest.keeps_ended charge (one.ends charge is) | inr has' ↦ rest.ends charge has' ];
  from_accepted = λ is. elim (rest.from_accepted is) [
    | inl has ↦ inl (later event (Accept (place + 1)) events has)
    | inr was ↦ elim (one.from_accepted was) [
      | inl this ↦ inl (subst (Contains (event ∷ events)) this (first event events))
      | inr before ↦ inr before
    ]
  ];
  from_refused = λ is. elim (rest.from_refused is) [
    | inl has ↦ inl (later event (Refuse (place + 1)) events has)
    | inr was ↦ elim (one.from_refused was) [
      | inl this ↦ inl (subst (Contains (event ∷ events)) this (first event events))
      | inr before ↦ inr before
    ]
  ];
  from_ended = λ charge is. elim (rest.from_ended charge is) [
    | inl has ↦ inl (later event (End (place + 1) charge) events has)
    | inr was ↦ elim (one.from_ended charge was) [
      | inl this ↦ inl (subst (Contains (event ∷ events)) this (first event events))
      | inr before ↦ inr before
    ]
  ];
}

none : (event : Event) → Contains [] event → ⊥
none event (k, within, is) = let below : k < 0 = within in absurd (omega arith)

all_moves : (events : List Event) (core : Core) (place : ℕ) → Kept core → Legal core events → Moves place (job_at core place).stage events (job_at (replay core events) place).stage
all_moves [] core place kept legal = record {
  keeps_accepted = λ is. is;
  keeps_refused = λ is. is;
  keeps_ended = λ charge is. is;
  accepts = λ has. absurd (none (Accept (place + 1)) has);
  refuses = λ has. absurd (none (Refuse (place + 1)) has);
  ends = λ charge has. absurd (none (End (place + 1) charge) has);
  from_accepted = λ is. inr is;
  from_refused = λ is. inr is;
  from_ended = λ charge is. inr is;
}
all_moves (event ∷ events) core place kept legal =
    followed place _ _ _ event events (moves core event place kept legal.0) (all_moves events (step core event) place (keeps core event kept legal.0) legal.1)

pub as_listed : (openings : List ℕ) (events : List Event) (place : ℕ) → Kept (start openings) → Legal (start openings) events → AsListed events (replay (start openings) events) place
as_listed openings events place kept legal =
    let all = all_moves events (start openings) place kept legal in
    record {
      accepted = (all.accepts, (λ is. elim (all.from_accepted is) [ inl has ↦ has | inr never ↦ absurd never ]));
      refused = (all.refuses, (λ is. elim (all.from_refused is) [ inl has ↦ has | inr never ↦ absurd never ]));
      ended = λ charge. (all.ends charge, (λ is. elim (all.from_ended charge is) [ inl has ↦ has | inr never ↦ cc ]));
    }
