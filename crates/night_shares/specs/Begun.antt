-- How a part is begun.
use Rattle.std.specs.Prelude.{ℕ, List, [], ◌∷◌}

-- a part that is begun: where it has no text yet, with the libraries'
abbrev pub begun : List ℕ → List ℕ → List ℕ
begun libraries [] = libraries
begun libraries (b ∷ text) = b ∷ text
