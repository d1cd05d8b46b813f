-- One more event behind a list of events.
use Rattle.std.proofs.Common.{◌≡◌, List, [], ◌∷◌, ◌++◌, refl}
use Rattle.batch_core.specs.declared.event.Event.{Event}
use Rattle.batch_core.specs.Core.{Core}
use Rattle.batch_core.specs.Events.{Allowed, Legal, replay, step}

pub replay_more : (events : List Event) (core : Core) (event : Event) → replay core (events ++ event ∷ []) ≡ step (replay core events) event
replay_more [] core event = refl
replay_more (first ∷ events) core event = replay_more events (step core first) event

pub legal_more : (events : List Event) (core : Core) (event : Event) → Legal core events → Allowed (replay core events) event → Legal core (events ++ event ∷ [])
legal_more [] core event legal may = (may, tt)
legal_more (first ∷ events) core event legal may = (legal.0, legal_more events (step core first) event legal.1 may)
