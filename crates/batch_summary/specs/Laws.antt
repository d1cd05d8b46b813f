-- What tallies keep.
use Rattle.std.specs.Prelude.{ℕ, ◌+◌, ◌≡◌, List, [], ◌∷◌, ◌++◌, flat_map, length, take}
use Rattle.std.specs.List.{enumerate_from}
use Rattle.batch_summary.specs.declared.tally.Entry.{Entry}
use Rattle.batch_summary.specs.Tally.{at_places, tally_of, tally_with}

-- to add section by section, each by those before it, gives the tally of all
abbrev pub TallyBySections : Type 0 → Type 0
TallyBySections X = (before : ℕ) (f : List X → X → Entry) (xs : List X) (last : X)
    → tally_with (tally_of before (at_places f xs)) (f xs last) ≡ tally_of before (at_places f (xs ++ last ∷ []))

-- the bytes are those of the sections' texts, one after the other
abbrev pub BytesOfSections : Type 0 → Type 0
BytesOfSections X = (before : ℕ) (f : List X → X → Entry) (text : List X → X → List ℕ)
    → ((earlier : List X) (x : X) → (f earlier x).bytes ≡ length (text earlier x))
    → (xs : List X) → (tally_of before (at_places f xs)).bytes ≡ before + length (flat_map (λ p. text (take p.0 xs) p.1) (enumerate_from 0 xs))
