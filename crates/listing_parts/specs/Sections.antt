-- The form of a listing, as lines of which the last one stands first.
use Rattle.std.specs.Prelude.{ℕ, ◌≡◌, ◌==◌, ◌<◌, ◌^◌, ◌&&◌, ◌||◌, nat_le, nat_lt, slice_index, ◌-◌, Bool, true, false, List, [], ◌∷◌, ◌++◌, length, codes, decimal}
use Rattle.std.specs.List.{list_all}

-- whether the line begins with this byte
abbrev pub begins : ℕ → List ℕ → Bool
begins byte [] = false
begins byte (b ∷ line) = b == byte

abbrev pub is_digit : ℕ → Bool
is_digit b = nat_le 48 b && nat_le b 57

-- a card of a deck begins with its number, right in four columns
abbrev pub is_card : List ℕ → Bool
is_card [] = false
is_card (b ∷ line) = b == 32 || is_digit b

-- the sum of a job that printed so many lines
pub record IsSum (line : List ℕ) (printed : ℕ) : Type 0 where
  pub cards : ℕ
  pub steps : ℕ
  pub charge : ℕ
  pub text : line ≡ codes "CARDS " ++ decimal cards ++ codes " STEPS " ++ decimal steps ++ codes " LINES " ++ decimal printed ++ codes " CHARGE " ++ decimal charge
  pub cards_fit : cards < 2 ^ 64
  pub steps_fit : steps < 2 ^ 64
  pub printed_fit : printed < 2 ^ 64

-- the title of a section, below an empty line
abbrev pub head : List ℕ → List (List ℕ)
head title = title ∷ [] ∷ []

-- the section of a job that was refused (R), diagnosed (D), ended normally, or was stopped; its title begins with J. What a job printed may be anything
pub data IsSection : List (List ℕ) → Type 0 where
  refused : (line title : List ℕ) → begins 82 line ≡ true → begins 74 title ≡ true → IsSection (line ∷ head title)
  diagnosed : (sum title : List ℕ) (printed : ℕ) (diagnostics cards : List (List ℕ)) → IsSum sum printed → list_all (begins 68) diagnostics ≡ true
      → list_all is_card cards ≡ true → begins 74 title ≡ true → IsSection (sum ∷ (diagnostics ++ (cards ++ head title)))
  ended : (sum title : List ℕ) (printed cards : List (List ℕ)) → IsSum sum (length printed) → list_all is_card cards ≡ true → begins 74 title ≡ true
      → IsSection (sum ∷ codes "ENDED NORMALLY" ∷ (printed ++ codes "OUTPUT" ∷ (cards ++ head title)))
  stopped : (sum ending title : List ℕ) (dump printed cards : List (List ℕ)) → IsSum sum (length printed) → list_all (begins 32) dump ≡ true
      → list_all is_card cards ≡ true → begins 74 title ≡ true
      → IsSection (sum ∷ (dump ++ codes "POST-MORTEM" ∷ ending ∷ (printed ++ codes "OUTPUT" ∷ (cards ++ head title))))

-- the heading with sections below it, the last one first
pub data AreSections : List (List ℕ) → List (List (List ℕ)) → Type 0 where
  heading : AreSections (codes "ALGOL W BATCH" ∷ []) []
  section_and : (section : List (List ℕ)) (above : List (List ℕ)) (sections : List (List (List ℕ)))
      → IsSection section → AreSections above sections → AreSections (section ++ above) (section ∷ sections)

-- whether the line's last byte is a digit
abbrev pub ends_in_digit : List ℕ → Bool
ends_in_digit line = nat_lt 0 (length line) && is_digit (slice_index line (length line - 1))

-- the closing lines: how many cards were stray, the accounts' balances, and their title below an empty line
pub data IsClosing : List (List ℕ) → Type 0 where
  closing : (stray : List ℕ) (balances : List (List ℕ)) → list_all ends_in_digit balances ≡ true
      → IsClosing (stray ∷ (balances ++ codes "CLOSING BALANCES" ∷ [] ∷ []))

-- a listing: closing lines, below sections, below the heading
pub record IsListing (lines closing : List (List ℕ)) (sections : List (List (List ℕ))) : Type 0 where
  pub above : List (List ℕ)
  pub whole : lines ≡ closing ++ above
  pub is_closing : IsClosing closing
  pub are_sections : AreSections above sections
