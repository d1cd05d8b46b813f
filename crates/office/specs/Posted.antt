-- What of a journal stands on a board.
use Rattle.std.specs.Prelude.{ℕ, ◌≡◌, ◌++◌, ◌∷◌, [], List}
use Rattle.batch_core.specs.declared.event.Event.{Event}
use Rattle.operator_board.specs.declared.rule.BoardView.{BoardView}
use Rattle.office.specs.Register.{RegisterView}

-- a writer has posted these events, on a board that was opened with these balances
pub record HasPosted (openings : List ℕ) (events : List Event) (v : BoardView) : Type 0 where
  pub openings_are : v.openings ≡ openings
  pub events_are : v.events ≡ events

-- it has posted all events of a register but the newest
pub record LacksNewest (r : RegisterView) (v : BoardView) : Type 0 where
  pub earlier : List Event
  pub newest : Event
  pub journal : r.journal ≡ earlier ++ newest ∷ []
  pub posted : HasPosted r.core.openings earlier v
