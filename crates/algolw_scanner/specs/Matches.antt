-- What the front of a line says of the text, where t follows the line's end.
use Rattle.std.specs.Prelude.{◌≡◌, ℕ, List, ◌∷◌, ◌++◌, true}
use Rattle.algolw_tree.specs.Words.{opens_comment}
use Rattle.algolw_tree.specs.Chars.{name_char, class, Letter}
use Rattle.algolw_scanner.specs.Front.{Outcome, Found, Open, Pass, Fault}
use Rattle.algolw_tree.specs.Tokens.{Separator, OfKind, Reads, ReadsNothing, IsRun, fault}

-- the word COMMENT stands there
pub record Opens (line t r : List ℕ) : Type 0 where
  pub first : ℕ
  pub more : List ℕ
  pub letter : class first ≡ Letter
  pub cut : line ≡ (first ∷ more) ++ r
  pub run : IsRun name_char (first ∷ more) (r ++ 10 ∷ t)
  pub comment : opens_comment (first ∷ more) ≡ true

abbrev pub Matches : List ℕ → List ℕ → Outcome → Type 0
Matches line t (Found k r) = (u : List ℕ) × (line ≡ u ++ r) × Reads (line ++ 10 ∷ t) u (OfKind k) (r ++ 10 ∷ t)
Matches line t (Pass r) = (u : List ℕ) × (line ≡ u ++ r) × Reads (line ++ 10 ∷ t) u Separator (r ++ 10 ∷ t)
Matches line t (Open r) = Opens line t r
Matches line t (Fault n) = ReadsNothing (line ++ 10 ∷ t) × (n ≡ fault (line ++ 10 ∷ t))
