-- A listing can be taken apart in one way.
use Rattle.std.specs.Prelude.{ℕ, ◌≡◌, List}
use Rattle.listing_parts.specs.Lines.{IsUpward}
use Rattle.listing_parts.specs.Sections.{IsListing}

-- the parts of a listing: its closing lines, and its sections, the last one first
pub record SameParts (closing closing' : List (List ℕ)) (sections sections' : List (List (List ℕ))) : Type 0 where
  pub closing_same : closing ≡ closing'
  pub sections_same : sections ≡ sections'

-- a text has at most one list of lines
abbrev pub LinesOnce : Type 0
LinesOnce = (text : List ℕ) (lines lines' : List (List ℕ)) → IsUpward text lines → IsUpward text lines' → lines ≡ lines'

-- whatever jobs print, a text has at most one closing and one list of sections
abbrev pub ApartInOneWay : Type 0
ApartInOneWay = (lines closing closing' : List (List ℕ)) (sections sections' : List (List (List ℕ)))
    → IsListing lines closing sections → IsListing lines closing' sections' → SameParts closing closing' sections sections'
