-- What the tokens of a deck keep, and what the number of a diagnostic means.
use Rattle.std.specs.Prelude.{◌≡◌, ◌==◌, ◌⊎◌, ◌<◌, ◌≤◌, ◌+◌, ℕ, Bool, true, false, not, List, [], ◌∷◌, ◌++◌, length, None, All}
use Rattle.std.specs.List.{list_any, list_all}
use Rattle.std.specs.Char.{is_ascii_digit, is_ascii_alphanumeric}
use Rattle.value_ops.specs.declared.places.Place.{Place}
use Rattle.value_ops.specs.declared.places.Diagnostic.{Diagnostic}
use Rattle.deck_reader.specs.CardFlaws.{is_long, is_foul}
use Rattle.algolw_tree.specs.declared.tokens.Token.{Token}
use Rattle.algolw_tree.specs.declared.tokens.TokenKind.{TokenKind}
use Rattle.algolw_tree.specs.declared.tokens.TokenKind.TheVariants.{Finish}
use Rattle.algolw_tree.specs.Chars.{name_char, begins, spoils, value_from, class, Letter, Other, are_bits}
use Rattle.algolw_tree.specs.Symbols.{short}
use Rattle.algolw_tree.specs.Tokens.{AreTokens, IsFault, IsRun, Spells, ReadsNothing, fault}
use Rattle.algolw_tree.specs.Words.{opens_comment}
use Rattle.algolw_scanner.specs.declared.scanning.Scanned.{Scanned}
use Rattle.algolw_scanner.specs.declared.scanning.Scanned.TheVariants.{Tokens, Bad}
use Rattle.algolw_scanner.specs.Decks.{Reading, AllTokens, FirstFault, scanned}

-- the cards of a deck that may be scanned: few, none too long, and none with a byte that isn't allowed
pub record IsDeck (cards : List (List ℕ)) : Type 0 where
  pub few : length cards ≤ 2000
  pub long : list_any is_long cards ≡ false
  pub foul : list_any is_foul cards ≡ false

-- what scanning says of a deck: its tokens, or the place where they stop
abbrev pub IsScanOf : List (List ℕ) → Scanned → Type 0
IsScanOf cards (Tokens tokens) = AreTokens cards tokens.items
IsScanOf cards (Bad diagnostic) = IsFault cards diagnostic

-- and there is nothing else to say
abbrev pub IsOnlyScanOf : List (List ℕ) → Scanned → Type 0
IsOnlyScanOf cards (Tokens tokens) = ((others : List Token) → AreTokens cards others → others ≡ tokens.items) × ((d : Diagnostic) → IsFault cards d → ⊥)
IsOnlyScanOf cards (Bad diagnostic) = ((tokens : List Token) → AreTokens cards tokens → ⊥) × ((d : Diagnostic) → IsFault cards d → d ≡ diagnostic)

-- what a reading says of a deck
abbrev pub IsReading : List (List ℕ) → Reading → Type 0
IsReading cards (AllTokens tokens) = AreTokens cards tokens
IsReading cards (FirstFault diagnostic) = IsFault cards diagnostic

-- what a deck scans to is its tokens, or the place where they stop
abbrev pub ScannedIsReading : Type 0
ScannedIsReading = (cards : List (List ℕ)) → IsReading cards (scanned cards)

-- one place is before another
abbrev pub IsBefore : Place → Place → Type 0
IsBefore a b = (a.card < b.card) ⊎ ((a.card ≡ b.card) × (a.column < b.column))

-- a place is on one of so many cards
pub record IsOnCards (n : ℕ) (place : Place) : Type 0 where
  pub from_first : 1 ≤ place.card
  pub to_last : place.card ≤ n
  pub from_left : 1 ≤ place.column
  pub to_right : place.column ≤ 80

abbrev pub is_finish : TokenKind → Bool
is_finish Finish = true
is_finish _ = false

-- each token is before the next
abbrev pub Rise : List Token → Type 0
Rise [] = Unit {0}
Rise (token ∷ []) = Unit {0}
Rise (token ∷ next ∷ tokens) = IsBefore token.place next.place × Rise (next ∷ tokens)

-- the last token is the end of the deck, behind its last card, and stands nowhere else; the others are on its cards; each is
-- before the next; and there are at most 160,001
pub record AreOfDeck (cards : List (List ℕ)) (tokens : List Token) : Type 0 where
  pub front : List Token
  pub cut : tokens ≡ front ++ record { place = record { card = length cards + 1; column = 1 }; kind = Finish } ∷ []
  pub others : All (λ token. is_finish token.kind ≡ false) front
  pub on_cards : All (λ token. IsOnCards (length cards) token.place) front
  pub rise : Rise tokens
  pub few : length tokens ≤ 160001

abbrev pub TokensOfDecks : Type 0
TokensOfDecks = (cards : List (List ℕ)) (tokens : List Token) → IsDeck cards → AreTokens cards tokens → AreOfDeck cards tokens

-- a fault is on the deck's cards
abbrev pub FaultsOfDecks : Type 0
FaultsOfDecks = (cards : List (List ℕ)) (d : Diagnostic) → IsDeck cards → IsFault cards d → IsOnCards (length cards) d.place

-- what scanning says is of the deck
abbrev pub IsOfDeck : List (List ℕ) → Scanned → Type 0
IsOfDeck cards (Tokens tokens) = AreOfDeck cards tokens.items
IsOfDeck cards (Bad diagnostic) = IsOnCards (length cards) diagnostic.place

-- what is wrong with a text that begins no token, by the number
pub data IsWrong : ℕ → List ℕ → Type 0 where
  -- its first character begins no symbol and nothing else
  not_used : {c : ℕ} {rest : List ℕ} → class c ≡ Other → (c == 10) ≡ false → short c ≡ None → IsWrong 10 (c ∷ rest)
  -- no literal that begins at its quote is closed on the card, but for an empty one that goes on with a quote
  not_closed : {rest : List ℕ} → ((inner said after : List ℕ) → rest ≡ inner ++ 34 ∷ after → Spells inner said → (inner ≡ []) × (begins (λ c. c == 34) after ≡ true)) → IsWrong 11 (34 ∷ rest)
  -- its digits are a number that is too large
  too_large : {text : List ℕ} (digits after : List ℕ) → text ≡ digits ++ after → 1 ≤ length digits → IsRun is_ascii_digit digits after → spoils after ≡ false → 2147483647 < value_from 0 digits → IsWrong 12 text
  -- behind its digits stands what may not follow a number
  no_integer : {text : List ℕ} (digits after : List ℕ) → text ≡ digits ++ after → 1 ≤ length digits → IsRun is_ascii_digit digits after → spoils after ≡ true → IsWrong 13 text
  -- the letters and digits behind its sharp aren't one to eight hexadecimal digits
  no_bits : {rest : List ℕ} (digits after : List ℕ) → rest ≡ digits ++ after → IsRun is_ascii_alphanumeric digits after → are_bits digits ≡ false → IsWrong 14 (35 ∷ rest)
  -- it begins with two quotes, and no third
  no_characters : {rest : List ℕ} → begins (λ c. c == 34) rest ≡ false → IsWrong 15 (34 ∷ 34 ∷ rest)
  -- it begins with the word COMMENT, and no semicolon follows
  not_ended : {c : ℕ} {rest : List ℕ} (more after : List ℕ) → rest ≡ more ++ after → class c ≡ Letter → IsRun name_char (c ∷ more) after → opens_comment (c ∷ more) ≡ true → list_all (λ d. not (d == 59)) after ≡ true → IsWrong 16 (c ∷ rest)

-- the number that is given where nothing is read says what is wrong
abbrev pub FaultsMeanIt : Type 0
FaultsMeanIt = (c : ℕ) (rest : List ℕ) → ReadsNothing (c ∷ rest) → IsWrong (fault (c ∷ rest)) (c ∷ rest)
