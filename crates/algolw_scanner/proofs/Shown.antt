-- What two decks scan to.
use Rattle.std.proofs.Common.{◌≡◌, [], ◌∷◌, refl}
use Rattle.std.specs.Prelude.{codes}
use Rattle.algolw_tree.specs.declared.tokens.TokenKind.TheVariants.{Word as AWord, Symbol as ASymbol, Finish}
use Rattle.algolw_tree.specs.declared.tokens.Word.TheVariants.{Begin, End}
use Rattle.algolw_tree.specs.declared.tokens.Symbol.TheVariants as S
use Rattle.algolw_scanner.specs.Decks.{scanned, AllTokens, FirstFault}

empty_block : scanned (codes "BEGIN END." ∷ []) ≡ AllTokens (
    record { place = record { card = 1; column = 1 }; kind = AWord Begin }
    ∷ record { place = record { card = 1; column = 7 }; kind = AWord End }
    ∷ record { place = record { card = 1; column = 10 }; kind = ASymbol S.Stop }
    ∷ record { place = record { card = 2; column = 1 }; kind = Finish } ∷ [])
unfolding scanned
empty_block = refl

open_comment : scanned (codes "X := #F0;" ∷ codes "COMMENT A" ∷ []) ≡ FirstFault (record { number = 16; place = record { card = 2; column = 1 } })
unfolding scanned
open_comment = refl
