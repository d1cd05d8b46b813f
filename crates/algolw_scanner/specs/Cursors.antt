-- A place in a deck, with what stands behind it.
use Rattle.std.specs.Prelude.{◌≡◌, ◌==◌, ℕ, ◌+◌, ◌≤◌, List, [], ◌∷◌, ◌++◌, length, Bool, true, not, Option, Some, None}
use Rattle.std.specs.List.{list_all}
use Rattle.algolw_tree.specs.Tokens.{text, walk, Separator, OfKind, Reads, ReadsNothing, fault}
use Rattle.algolw_tree.specs.declared.tokens.TokenKind.{TokenKind}
use Rattle.algolw_scanner.specs.declared.cursor.Cursor.{Cursor}
use Rattle.algolw_scanner.specs.declared.cursor.Next.{Next}
use Rattle.algolw_scanner.specs.declared.cursor.Next.TheVariants.{Token, Skipped, Finished, Fault}

-- no line feed stands in it
abbrev pub clean : List ℕ → Bool
clean line = list_all (λ c. not (c == 10)) line

abbrev pub AreClean : List (List ℕ) → Type 0
AreClean cards = list_all clean cards ≡ true

-- the text from the cursor on
abbrev pub text_at : Cursor → List ℕ
text_at c = c.line.now ++ 10 ∷ text c.later.now

pub record Sound (c : Cursor) : Type 0 where
  pub clean : clean c.line.now ≡ true
  pub later : AreClean c.later.now
  pub short : length c.line.now ≤ 80
  pub column : c.place.column + length c.line.now ≤ 81
  pub card : c.place.card + length c.later.now ≤ 2000

-- the cursor stands behind the characters u
pub record Behind (from : Cursor) (u : List ℕ) (to : Cursor) : Type 0 where
  pub cut : text_at from ≡ u ++ text_at to
  pub place : to.place ≡ walk from.place u
  pub sound : Sound to

abbrev pub no_semicolon : List ℕ → Bool
no_semicolon u = list_all (λ c. not (c == 59)) u

-- the next card, behind the end of this one, or this was the last
abbrev pub IsNextCard : Cursor → Option Cursor → Type 0
IsNextCard c None = text_at c ≡ 10 ∷ []
IsNextCard c (Some n) = Behind c (10 ∷ []) n

-- behind the first semicolon, or there is none
abbrev pub BehindSemicolon : Cursor → Option Cursor → Type 0
BehindSemicolon c None = no_semicolon (text_at c) ≡ true
BehindSemicolon c (Some n) = (u : List ℕ) × (no_semicolon u ≡ true) × Behind c (u ++ 59 ∷ []) n

-- the next piece of the text, where the kind of a token is written down
abbrev pub IsNext : Cursor → TokenKind → Next → Type 0
IsNext c k (Token n) = (u : List ℕ) × Reads (text_at c) u (OfKind k) (text_at n) × (n.place ≡ walk c.place u) × Sound n
IsNext c k (Skipped n) = (u : List ℕ) × Reads (text_at c) u Separator (text_at n) × (n.place ≡ walk c.place u) × Sound n
IsNext c k (Finished p) = (u : List ℕ) × Reads (text_at c) u Separator [] × (p ≡ walk c.place u)
IsNext c k (Fault d) = ReadsNothing (text_at c) × (d.number ≡ fault (text_at c)) × (d.place ≡ c.place)
