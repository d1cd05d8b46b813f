-- The lengths of a listing's parts.
use Rattle.std.specs.Prelude.{ℕ, List, [], ◌∷◌, ◌++◌, length, flat_map, reverse, decimal}

-- how many bytes a part has, as a line
abbrev pub row : List ℕ → List ℕ
row part = decimal (length part) ++ 10 ∷ []

-- the lines of sections, of which the last one stands first, and that of the closing lines
abbrev pub rows : List (List ℕ) → List ℕ → List ℕ
rows sections closing = flat_map row (reverse sections) ++ row closing
