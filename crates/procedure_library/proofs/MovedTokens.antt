-- The tokens of a library, moved behind the cards of a deck.
use Rattle.std.proofs.Common.{◌≡◌, List, [], ◌∷◌, ◌++◌, map, refl, sym, ap, ◌∙◌, append_assoc}
use Rattle.value_ops.specs.declared.places.Place.{Place}
use Rattle.algolw_tree.specs.declared.tokens.Token.{Token}
use Rattle.algolw_tree.specs.declared.tokens.TokenKind.TheVariants.{Word as AWord, Finish}
use Rattle.algolw_tree.specs.declared.tokens.Word.TheVariants.{Begin, End}
use Rattle.algolw_tree.specs.Grammar.{finish_at}
use Rattle.algolw_tree.specs.Libraries.{library_place, moved_place, moved_token, moved_tokens, wrapped}
use Rattle.procedure_library.specs.Laws.{WrappedAreEnded}

-- the tokens that are added
abbrev pub begin : Token
begin = record { place = library_place; kind = AWord Begin }

abbrev pub placed_end : Place → Token
placed_end place = record { place = place; kind = AWord End }

abbrev pub placed_finish : Place → Token
placed_finish place = record { place = place; kind = Finish }

-- the last token becomes END and the end behind it
moved_last : (front : List Token) (t : Token) → moved_tokens (front ++ t ∷ []) ≡ map moved_token front ++ placed_end (moved_place t.place) ∷ placed_finish (moved_place t.place) ∷ []
moved_last [] t = refl
moved_last (x ∷ []) t = refl
moved_last (x ∷ y ∷ front) t = ap (λ (ts : List Token). moved_token x ∷ ts) (moved_last (y ∷ front) t)

-- in the order in which they are added
pub added : (tokens front program : List Token) (t : Token) → tokens ≡ front ++ t ∷ []
    → program ≡ ((([] ++ begin ∷ []) ++ map moved_token front) ++ placed_end (moved_place t.place) ∷ []) ++ placed_finish (moved_place t.place) ∷ [] → program ≡ wrapped tokens
added tokens front program t parts is =
    is
    ∙ append_assoc ((begin ∷ []) ++ map moved_token front) (placed_end (moved_place t.place) ∷ []) (placed_finish (moved_place t.place) ∷ [])
    ∙ sym (ap wrapped parts ∙ ap (λ (ts : List Token). begin ∷ ts) (moved_last front t))

-- where the last token is the end, so is that of the program
pub wrapped_are_ended : WrappedAreEnded
wrapped_are_ended tokens ended =
    let front = ended.0 in
    let place = moved_place ended.1 in (
      begin ∷ (map moved_token front ++ placed_end place ∷ []),
      place,
      ap wrapped ended.2
          ∙ ap (λ (ts : List Token). begin ∷ ts) (moved_last front (finish_at ended.1) ∙ sym (append_assoc (map moved_token front) (placed_end place ∷ []) (finish_at place ∷ []))),
    )
