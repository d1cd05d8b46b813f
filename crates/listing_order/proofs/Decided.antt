-- Whether a list of events decides a job is whether the decision is in the list.
use Rattle.std.proofs.Common.{◌≡◌, ◌↔◌, ℕ, Bool, true, false, not, List, refl, ap, sym, subst, Contains, get_or}
use Rattle.std.proofs.lemmas.Bool.{eqb-true, eq-eqb, false_from_ne_true}
use Rattle.std.proofs.lemmas.List.Folds.{Any-from_list_any, list_any-from_Any}
use Rattle.batch_core.specs.declared.event.Event.{Event}
use Rattle.batch_core.specs.declared.event.Event.TheVariants.{Arrive, Accept, Refuse, End, Print}
use Rattle.batch_core.specs.declared.job.Stage.{Stage}
use Rattle.batch_core.specs.declared.job.Stage.TheVariants.{Undecided, Refused, Outstanding, Ended}
use Rattle.batch_core.specs.Events.{IsOver}
use Rattle.batch_core.specs.Laws.{IsAccepted, IsRefused}
use Rattle.batch_core.specs.Order.{Agrees}
use Rattle.listing_order.specs.Decisions.{accepts, refuses, is_acceptance, is_refusal}

is_accept : (number : ℕ) (event : Event) → is_acceptance number event ≡ true → event ≡ Accept number
is_accept number (Arrive claim) is = cc
is_accept number (Accept other) is = ap (λ (n : ℕ). Accept n) (sym (eqb-true number other is))
is_accept number (Refuse other) is = cc
is_accept number (End other paid) is = cc
is_accept number (Print other) is = cc

is_refuse : (number : ℕ) (event : Event) → is_refusal number event ≡ true → event ≡ Refuse number
is_refuse number (Arrive claim) is = cc
is_refuse number (Accept other) is = cc
is_refuse number (Refuse other) is = ap (λ (n : ℕ). Refuse n) (sym (eqb-true number other is))
is_refuse number (End other paid) is = cc
is_refuse number (Print other) is = cc

-- an event of the list that is this one
there : (events : List Event) (k : ℕ) (event other : Event) → event ≡ other → get_or events k event ≡ event → get_or events k other ≡ other
there events k event other same at = subst (λ (e : Event). get_or events k e ≡ e) same at

pub accepts_listed : (events : List Event) (number : ℕ) → (accepts events number ≡ true) ↔ Contains events (Accept number)
accepts_listed events number = (
  (λ is. let (k, event, within, at, passes) = Any-from_list_any (is_acceptance number) events is in (k, within, there events k event (Accept number) (is_accept number event passes) at)),
  (λ has. let (k, within, at) = has in list_any-from_Any (is_acceptance number) events (k, Accept number, within, at, eq-eqb number number refl)),
)

pub refuses_listed : (events : List Event) (number : ℕ) → (refuses events number ≡ true) ↔ Contains events (Refuse number)
refuses_listed events number = (
  (λ is. let (k, event, within, at, passes) = Any-from_list_any (is_refusal number) events is in (k, within, there events k event (Refuse number) (is_refuse number event passes) at)),
  (λ has. let (k, within, at) = has in list_any-from_Any (is_refusal number) events (k, Refuse number, within, at, eq-eqb number number refl)),
)

-- what is decided of a job that is over
pub record DecidedAs (taken refused accepted : Bool) : Type 0 where
  pub accepts : taken ≡ accepted
  pub refuses : refused ≡ not accepted

pub decided_as : (stage : Stage) (taken refused accepted : Bool) → IsOver stage → Agrees stage accepted → (taken ≡ true) ↔ IsAccepted stage → (refused ≡ true) ↔ IsRefused stage → DecidedAs taken refused accepted
decided_as Undecided taken refused accepted over agrees accepts refuses = absurd over
decided_as Refused taken refused accepted over agrees accepts refuses =
    let no : taken ≡ false = false_from_ne_true taken accepts.0 in
    let yes : refused ≡ true = refuses.1 tt in
    record { accepts = cc; refuses = rw agrees yes }
decided_as Outstanding taken refused accepted over agrees accepts refuses = absurd over
decided_as (Ended paid) taken refused accepted over agrees accepts refuses =
    let yes : taken ≡ true = accepts.1 tt in
    let no : refused ≡ false = false_from_ne_true refused refuses.0 in
    record { accepts = cc; refuses = rw agrees no }
