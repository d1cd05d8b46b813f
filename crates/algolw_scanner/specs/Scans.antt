-- What scanning gives.
use Rattle.std.specs.Prelude.{◌≡◌, ℕ, List, [], ◌∷◌, Bool, false, cond, ◌&&◌}
use Rattle.algolw_tree.specs.declared.tokens.Token.{Token}
use Rattle.value_ops.specs.declared.places.Place.{Place}
use Rattle.algolw_scanner.specs.declared.scanning.Scanned.{Scanned}
use Rattle.algolw_scanner.specs.declared.scanning.Scanned.TheVariants.{Tokens, Bad}
use Rattle.algolw_tree.specs.Tokens.{is_name, kept, Gives, Stops}
use Rattle.algolw_scanner.specs.Decks.{Reading, AllTokens, FirstFault}

abbrev pub kept_one : Bool → Token → List Token
kept_one e t = cond (e && is_name t.kind) [] (t ∷ [])

-- the text from a place on has these tokens, or stops so
abbrev pub Says : Place → List ℕ → Scanned → Type 0
Says p rest (Tokens v) = (all : List Token) × Gives p rest all × (v.items ≡ kept false all)
Says p rest (Bad d) = Stops p rest d

-- what is given, as a reading
abbrev pub reading : Scanned → Reading
reading (Tokens v) = AllTokens v.items
reading (Bad d) = FirstFault d
