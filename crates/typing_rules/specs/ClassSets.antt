-- Sets of record classes in order of place.
use Rattle.std.specs.Prelude.{Bool, true, ◌&&◌, List, [], ◌∷◌}
use Rattle.std.specs.List.Sorted.{IsStrictlySortedBy, IsStrictlySortedBy-prop}
use Rattle.value_ops.specs.declared.places.Place.{Place}
use Rattle.algolw_typing.specs.Laws.{place_cmp}
use Rattle.algolw_typing.specs.Types.{has}

-- each class once, in order of place
abbrev pub Rising : List Place → Type 0
Rising set = IsStrictlySortedBy place_cmp set

-- there is at most one proof of that
pub Rising-prop : (set : List Place) → IsProp (Rising set)
Rising-prop set = IsStrictlySortedBy-prop place_cmp set

-- each class of the first set is in the second
abbrev pub is_within : List Place → List Place → Bool
is_within [] others = true
is_within (c ∷ set) others = has others c && is_within set others
