-- How a listing is read, from its last line upwards: what stands above its last part.
use Rattle.std.specs.Prelude.{ℕ, Bool, List, [], ◌∷◌, Option, Some, None, if◌then◌else◌, bytes_eq, codes, drop}
use Rattle.listing_parts.specs.Sections.{begins, is_card, ends_in_digit}

-- above the lines that are so
abbrev pub above_all : (List ℕ → Bool) → List (List ℕ) → List (List ℕ)
above_all is_so [] = []
above_all is_so (line ∷ up) = if is_so line then above_all is_so up else line ∷ up

-- above a line that is so
abbrev pub above_one : (List ℕ → Bool) → List (List ℕ) → Option (List (List ℕ))
above_one is_so [] = None
above_one is_so (line ∷ up) = if is_so line then Some up else None

-- above a line that is this text
abbrev pub above_text : List ℕ → List (List ℕ) → Option (List (List ℕ))
above_text text [] = None
above_text text (line ∷ up) = if bytes_eq line text then Some up else None

-- above a title and the empty line over it
abbrev pub above_head : List (List ℕ) → Option (List (List ℕ))
above_head [] = None
above_head (title ∷ up) = if begins 74 title then above_text [] up else None

-- above the cards of a deck and the head of its section
abbrev pub above_deck : List (List ℕ) → Option (List (List ℕ))
above_deck lines = above_head (above_all is_card lines)

-- above a line, whatever it is
abbrev pub above_line : Option (List (List ℕ)) → Option (List (List ℕ))
above_line None = None
above_line (Some []) = None
above_line (Some (line ∷ up)) = Some up

-- above the dump of a run that was stopped, and its ending
abbrev pub above_dump : List (List ℕ) → Option (List (List ℕ))
above_dump lines = above_line (above_text (codes "POST-MORTEM") (above_all (begins 32) lines))

-- above the first of these that is there
abbrev pub one_of : Option (List (List ℕ)) → Option (List (List ℕ)) → Option (List (List ℕ))
one_of (Some up) other = Some up
one_of None other = other

-- above the ending of a run
abbrev pub above_ending : List (List ℕ) → Option (List (List ℕ))
above_ending lines = one_of (above_text (codes "ENDED NORMALLY") lines) (above_dump lines)

-- above a deck that such lines end with
abbrev pub above_output : Option (List (List ℕ)) → Option (List (List ℕ))
above_output None = None
above_output (Some lines) = above_deck lines

-- above what stands over a sum: an ending, so many lines that were printed, and a deck; or diagnostics and a deck
abbrev pub above_run : ℕ → Option (List (List ℕ)) → List (List ℕ) → Option (List (List ℕ))
above_run printed (Some up) lines = above_output (above_text (codes "OUTPUT") (drop printed up))
above_run printed None lines = above_deck (above_all (begins 68) lines)

abbrev pub above_sum : ℕ → List (List ℕ) → Option (List (List ℕ))
above_sum printed lines = above_run printed (above_ending lines) lines

-- above an empty line
abbrev pub above_empty : Option (List (List ℕ)) → Option (List (List ℕ))
above_empty None = None
above_empty (Some lines) = above_text [] lines

-- above the closing lines
abbrev pub above_closing : List (List ℕ) → Option (List (List ℕ))
above_closing [] = None
above_closing (stray ∷ up) = above_empty (above_text (codes "CLOSING BALANCES") (above_all ends_in_digit up))
