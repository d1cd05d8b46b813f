-- The forms of the cards, as functions that give a card's parts.
use Rattle.std.specs.Prelude.{ℕ, ◌+◌, ◌-◌, ◌^◌, min, position, Bool, true, false, ◌&&◌, ◌||◌, List, [], ◌∷◌, ◌==◌, nat_le, if◌then◌else◌, length, take, drop, map, codes, bytes_eq, Option, Some, None}
use Rattle.std.specs.List.{list_all, prefix_len}
use Rattle.std.specs.Option.{option_map}
use Rattle.std.specs.Str.Parse.{digits_value}
use Rattle.short_text.specs.Blanks.{trimmed}
use Rattle.deck_reader.specs.declared.forms.AccountCard.{AccountCard}

-- a small letter
abbrev pub is_small : ℕ → Bool
is_small c = nat_le 97 c && nat_le c 122

-- a letter, in either case
abbrev pub is_letter : ℕ → Bool
is_letter c = nat_le 65 c && nat_le c 90 || is_small c

-- a digit
abbrev pub is_digit : ℕ → Bool
is_digit c = nat_le 48 c && nat_le c 57

-- a small letter as its capital, and any other byte as it is
abbrev pub capital : ℕ → ℕ
capital c = if is_small c then c - 32 else c

-- in capitals
abbrev pub folded : List ℕ → List ℕ
folded bytes = map capital bytes

-- a letter, and at most 7 more letters or digits
abbrev pub is_name : List ℕ → Bool
is_name [] = false
is_name (c ∷ cs) = is_letter c && (nat_le (length cs) 7 && list_all (λ d. is_letter d || is_digit d) cs)

-- one digit or more
abbrev pub is_digits : List ℕ → Bool
is_digits [] = false
is_digits (c ∷ cs) = list_all is_digit (c ∷ cs)

-- nothing, or a blank first
abbrev pub ends_a_word : List ℕ → Bool
ends_a_word [] = true
ends_a_word (c ∷ cs) = c == 32

-- the word in column 1, in either case of letters, and then a blank or the card's end
abbrev pub is_control : List ℕ → List ℕ → Bool
is_control word card = bytes_eq (folded (take (length word) card)) word && ends_a_word (drop (length word) card)

-- a card that opens an account, where it has the form
abbrev pub is_account : List ℕ → Bool
is_account card = is_control (codes "%ACCOUNT") card

-- a card that begins a job
abbrev pub is_head : List ℕ → Bool
is_head card = is_control (codes "%JOB") card

-- a card that ends a job's deck and begins its data
abbrev pub is_data : List ℕ → Bool
is_data card = is_control (codes "%DATA") card

-- a card that ends a job
abbrev pub is_end : List ℕ → Bool
is_end card = is_control (codes "%EOJ") card

-- a card that begins a library, where it has the form
abbrev pub is_library : List ℕ → Bool
is_library card = is_control (codes "%LIBRARY") card

-- a control card of those before the first head
abbrev pub is_control_card : List ℕ → Bool
is_control_card card = is_account card || (is_head card || (is_data card || (is_end card || is_library card)))

-- what stands before and behind the first of these bytes
abbrev pub parted : ℕ → List ℕ → Option (List ℕ × List ℕ)
parted byte bytes = option_map (λ at. (take at bytes, drop (at + 1) bytes)) (position (λ b. b == byte) bytes)

-- without the blanks in front
abbrev pub behind_blanks : List ℕ → List ℕ
behind_blanks bytes = drop (prefix_len (λ b. b == 32) bytes) bytes

-- without the blanks on either side
abbrev pub stripped : List ℕ → List ℕ
stripped bytes = trimmed (behind_blanks bytes)

-- the name in capitals, where these bytes are one
abbrev pub name_of : List ℕ → Option (List ℕ)
name_of bytes = if is_name bytes then Some (folded bytes) else None

-- the number that digits stand for
abbrev pub number_of : List ℕ → Option ℕ
number_of digits = if is_digits digits then Some (digits_value 10 digits) else None

-- the number that digits stand for, where it is at most the largest balance
abbrev pub balance_of : List ℕ → Option ℕ
balance_of digits = if is_digits digits && nat_le (digits_value 10 digits) 999999999 then Some (digits_value 10 digits) else None

-- an account card with this name and this balance
abbrev pub account_with : Option (List ℕ) → Option ℕ → Option AccountCard
account_with None balance = None
account_with (Some name) None = None
account_with (Some name) (Some balance) = Some (record { name = name; balance = balance })

-- the name and the balance of what is parted at a blank
abbrev pub name_and_balance : Option (List ℕ × List ℕ) → Option AccountCard
name_and_balance None = None
name_and_balance (Some (name, rest)) = account_with (name_of name) (balance_of (behind_blanks rest))

-- an account's name and opening balance: the control word, blanks, a name, blanks, digits
abbrev pub account_card : List ℕ → Option AccountCard
account_card card = if is_account card then name_and_balance (parted 32 (behind_blanks (drop 8 card))) else None

-- the name of the library that a card begins: the control word, blanks and a name, with nothing behind it
abbrev pub library_card : List ℕ → Option (List ℕ)
library_card card = if is_library card then name_of (behind_blanks (drop 8 card)) else None

-- a number that stops at the largest of 32 bits, as the code counts
abbrev pub in_32_bits : ℕ → ℕ
in_32_bits n = min (2 ^ 32 - 1) n

-- a byte that may stand on a card
abbrev pub is_allowed : ℕ → Bool
is_allowed b = nat_le 32 b && nat_le b 126
