-- What a list of events says of the jobs that have arrived and of those that are printed.
use Rattle.std.proofs.Common.{◌≡◌, ℕ, ◌+◌, List, [], ◌∷◌, ◌++◌, map, sym, ap, ◌∙◌, refl, arith, filter_map}
use Rattle.std.specs.List.{range_with_len}
use Rattle.std.proofs.lemmas.List.{append-nil, append_assoc, map-id, map_push}
use Rattle.std.proofs.lemmas.List.FromFn.{map-range_with_len_more}
use Rattle.batch_core.specs.declared.event.Event.{Event}
use Rattle.batch_core.specs.declared.event.Event.TheVariants.{Arrive, Accept, Refuse, End, Print}
use Rattle.batch_core.specs.declared.job.Claim.{Claim}
use Rattle.batch_core.specs.declared.job.Stage.TheVariants.{Refused, Outstanding, Ended}
use Rattle.batch_core.specs.Core.{Core, arrived}
use Rattle.batch_core.specs.Events.{step, replay, Legal}
use Rattle.batch_core.specs.Laws.{claim_of, printed_by}
use Rattle.batch_core.proofs.Charges.{claims_stay}

pub have_arrived : (events : List Event) (core : Core) → map (λ job. job.claim) (replay core events).jobs ≡ map (λ job. job.claim) core.jobs ++ filter_map claim_of events
have_arrived [] core = sym (append-nil (map (λ job. job.claim) core.jobs))
have_arrived (Arrive claim ∷ events) core =
    have_arrived events (step core (Arrive claim))
    ∙ ap (λ (front : List Claim). front ++ filter_map claim_of events) (map_push (λ job. job.claim) core.jobs (arrived claim))
    ∙ append_assoc (map (λ job. job.claim) core.jobs) (claim ∷ []) (filter_map claim_of events)
have_arrived (Accept number ∷ events) core =
    have_arrived events (step core (Accept number)) ∙ ap (λ (front : List Claim). front ++ filter_map claim_of events) (claims_stay (λ claim. claim) core.jobs _ Outstanding)
have_arrived (Refuse number ∷ events) core =
    have_arrived events (step core (Refuse number)) ∙ ap (λ (front : List Claim). front ++ filter_map claim_of events) (claims_stay (λ claim. claim) core.jobs _ Refused)
have_arrived (End number charge ∷ events) core =
    have_arrived events (step core (End number charge)) ∙ ap (λ (front : List Claim). front ++ filter_map claim_of events) (claims_stay (λ claim. claim) core.jobs _ (Ended charge))
have_arrived (Print number ∷ events) core = have_arrived events (step core (Print number))

-- one more number
pub one_more : (a n : ℕ) → range_with_len a (n + 1) ≡ range_with_len a n ++ (a + n) ∷ []
one_more a n =
    sym (map-id (range_with_len a (n + 1))) ∙ map-range_with_len_more (λ x. x) a n (a + n) refl ∙ ap (λ (front : List ℕ). front ++ (a + n) ∷ []) (map-id (range_with_len a n))

pub are_printed : (events : List Event) (core : Core) → Legal core events → range_with_len 1 (replay core events).printed ≡ range_with_len 1 core.printed ++ filter_map printed_by events
are_printed [] core legal = sym (append-nil (range_with_len 1 core.printed))
are_printed (Arrive claim ∷ events) core legal = are_printed events (step core (Arrive claim)) legal.1
are_printed (Accept number ∷ events) core legal = are_printed events (step core (Accept number)) legal.1
are_printed (Refuse number ∷ events) core legal = are_printed events (step core (Refuse number)) legal.1
are_printed (End number charge ∷ events) core legal = are_printed events (step core (End number charge)) legal.1
are_printed (Print number ∷ events) core legal =
    let next : 1 + core.printed ≡ number = omega (arith, legal.0.0) in
    are_printed events (step core (Print number)) legal.1
    ∙ ap (λ (front : List ℕ). front ++ filter_map printed_by events) (one_more 1 core.printed ∙ ap (λ (n : ℕ). range_with_len 1 core.printed ++ n ∷ []) next)
    ∙ append_assoc (range_with_len 1 core.printed) (number ∷ []) (filter_map printed_by events)
