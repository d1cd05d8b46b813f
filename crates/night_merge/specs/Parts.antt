-- The listing of a part, as it is taken apart.
use Rattle.std.specs.Prelude.{ℕ, ◌≡◌, ◌+◌, true, List, map, reverse}
use Rattle.std.specs.List.{list_all}
use Rattle.listing_parts.specs.Lines.{IsUpward, text_up}
use Rattle.listing_parts.specs.Sections.{IsListing, begins}
use Rattle.night_merge.specs.declared.shelf.Part.{Part}
use Rattle.night_merge.specs.Texts.{closing, numbered_each}

-- The lines of the text, the last one first, are a listing by its form; its sections, the last one first, have these behind their numbers, which go up from 1, and its
-- closing lines have these for the accounts.
pub record IsPart (text : List ℕ) (rests : List (List ℕ)) (balances : List ℕ) : Type 0 where
  pub up : List (List ℕ)
  pub closing_part : List (List ℕ)
  pub sections_part : List (List (List ℕ))
  pub stray : ℕ
  pub upward : IsUpward text up
  pub form : IsListing up closing_part sections_part
  pub sections_are : map text_up (reverse sections_part) ≡ numbered_each 1 rests
  pub closing_is : text_up closing_part ≡ closing balances stray
  pub blanks : list_all (begins 32) rests ≡ true

-- what the window of this number has of a chain, which is numbered from 0 here
abbrev pub part_at : ℕ → ℕ → Part
part_at chain number = record { chain = chain + 1; window = number }
