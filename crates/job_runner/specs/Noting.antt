-- Counts that are noted on cards, one statement after the other.
use Rattle.std.specs.Prelude.{ℕ, ◌+◌, List, Option, Some, None, true, false, slice_set}
use Rattle.value_ops.specs.declared.places.Place.{Place}
use Rattle.algolw_typing.specs.Types.{is_place}
use Rattle.job_runner.specs.declared.source.First.{First}
use Rattle.job_runner.specs.Counted.{first_on}

-- the first statement on a card on which so much begins at a place
abbrev pub noted : Option First → Place → ℕ → Option First
noted None place count = Some (record { place = place; count = count })
noted (Some first) place count = elim (is_place first.place place) [ true ↦ Some (record { place = place; count = first.count + count }) | false ↦ Some first ]

abbrev pub noted_on : Place → ℕ → List (Option First) → List (Option First)
noted_on place count firsts = slice_set firsts place.card (noted (first_on firsts place.card) place count)
