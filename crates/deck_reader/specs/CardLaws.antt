-- What the pieces of an input are for.
use Rattle.std.specs.Prelude.{◌≡◌, ℕ, List, [], ◌∷◌, ◌++◌}
use Rattle.std.specs.List.{flat_map}
use Rattle.deck_reader.specs.Cards.{ended, under_way}

-- the pieces, put together with line feeds, are the input again
abbrev pub PiecesJoined : Type 0
PiecesJoined = (bytes : List ℕ) → flat_map (λ piece. piece ++ 10 ∷ []) (ended bytes) ++ under_way bytes ≡ bytes
