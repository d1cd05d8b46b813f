-- How a token is kept.
use Rattle.std.specs.Prelude.{◌≡◌, ℕ, List, [], ◌∷◌}
use Rattle.value_ops.specs.declared.places.Place.{Place}
use Rattle.algolw_tree.specs.declared.tokens.Token.{Token}
use Rattle.algolw_tree.specs.declared.tokens.TokenKind.{TokenKind}
use Rattle.algolw_tree.specs.declared.tokens.TokenKind.TheVariants.{Word, Named, Number, BitsLit, Quoted, Symbol, Finish}
use Rattle.kept_tokens.specs.declared.kept.Held.{Held}
use Rattle.kept_tokens.specs.declared.kept.Held.TheVariants as held
use Rattle.kept_tokens.specs.declared.kept.KeptToken.TheInside.{Inside}
use Rattle.kept_tokens.specs.declared.kept.TokenSort.{TokenSort}
use Rattle.kept_tokens.specs.declared.kept.TokenSort.TheVariants as sort

-- the token
abbrev pub token_of : Held → Token
token_of (held.Word place word) = record { place = place; kind = Word word }
token_of (held.ShortName place name) = record { place = place; kind = Named name }
token_of (held.LongName place name) = record { place = place; kind = Named name.value }
token_of (held.Number place number) = record { place = place; kind = Number number }
token_of (held.BitsLit place bits) = record { place = place; kind = BitsLit bits }
token_of (held.Quoted place text) = record { place = place; kind = Quoted text.value }
token_of (held.Symbol place symbol) = record { place = place; kind = Symbol symbol }
token_of (held.Finish place) = record { place = place; kind = Finish }

abbrev pub kept_token : Inside → Token
kept_token kept = token_of kept.held

-- the place of the first token; on no card where there is none
abbrev pub place_at : List Token → Place
place_at [] = record { card = 0; column = 0 }
place_at (t ∷ w) = t.place

-- a kind of this sort
abbrev pub IsSortOf : TokenSort → TokenKind → Type 0
IsSortOf (sort.Word word) kind = kind ≡ Word word
IsSortOf sort.Named kind = (name : List ℕ) × (kind ≡ Named name)
IsSortOf (sort.Number number) kind = kind ≡ Number number
IsSortOf (sort.BitsLit bits) kind = kind ≡ BitsLit bits
IsSortOf sort.Quoted kind = (text : List ℕ) × (kind ≡ Quoted text)
IsSortOf (sort.Symbol symbol) kind = kind ≡ Symbol symbol
IsSortOf sort.Finish kind = kind ≡ Finish
