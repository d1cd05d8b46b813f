-- What parsing gives, by what reading gives.
use Rattle.std.proofs.Common.{◌≡◌, ◌==◌, true, false, List, [], ◌∷◌, length, refl, sym, ◌∙◌, ap, subst, arith, Some, None}
use Rattle.std.proofs.lemmas.Bool.{eqb-true}
use Rattle.value_ops.specs.declared.places.Place.{Place}
use Rattle.algolw_tree.specs.declared.tokens.Token.{Token}
use Rattle.algolw_tree.specs.Tree.{Phrase}
use Rattle.algolw_tree.specs.Programs.{Answer, Program, Unexpected, TooDeep, IsAnswer, IsEnded}
use Rattle.algolw_tree.specs.View.{tree}
use Rattle.algolw_grammar.specs.Readers.{Got, Bad, Deep}
use Rattle.algolw_grammar.specs.Reading.{read_program}
use Rattle.algolw_grammar.specs.Parsing.{parsed, answer_of}
use Rattle.algolw_grammar.proofs.Verdict.{answered, names_token, names_deep}
use Rattle.token_reader.specs.declared.stop.Stop.{Stop}
use Rattle.token_reader.specs.declared.stop.Stop.TheVariants as stop
use Rattle.kept_tokens.specs.Kept.{place_at}
use Rattle.token_reader.specs.Gives.{Fails}
use Rattle.algolw_parser.specs.declared.parsing.Parsed.{Parsed}
use Rattle.algolw_parser.specs.declared.parsing.Parsed.TheVariants as parsed
use Rattle.algolw_parser.specs.Parsed.{Means, Reads}

-- what is read is what is meant
means_by : (w : List Token) (p : Parsed) → (x : Answer) × (parsed w ≡ Some x) × IsAnswer w x → Reads w p → Means w p
means_by w (parsed.Tree y) (x, e, i) h = let k : x ≡ Program (tree y) = same x (Program (tree y)) (sym e ∙ h) in subst (IsAnswer w) k i
  where
    same : (a b : Answer) → Some a ≡ Some b → a ≡ b
    same a b h = cc
means_by w (parsed.Bad d) (x, e, i) (a, h, k) = (a, subst (IsAnswer w) (same x a (sym e ∙ h)) i, k)
  where
    same : (a b : Answer) → Some a ≡ Some b → a ≡ b
    same a b h = cc

pub means_read : (w : List Token) (p : Parsed) → IsEnded w → Reads w p → Means w p
means_read w p i h = means_by w p (answered w i) h

pub reads_program : (w : List Token) (x : Phrase) (r : List Token) → read_program w ≡ Got x None r → (length r == 0) ≡ true → parsed w ≡ Some (Program x)
unfolding parsed
reads_program w x [] e h = ap answer_of e
reads_program w x (t ∷ r) e h = absurd (let k : length (t ∷ r) ≡ 0 = eqb-true (length (t ∷ r)) 0 h in omega arith)

-- a diagnostic of the number, at a token that is left
bad_place : (p : Place) (r : List Token) (t : Token) (b : Parsed) (n : _) → p ≡ place_at (t ∷ r) → b ≡ parsed.Bad (record { number = n; place = p }) → b ≡ parsed.Bad (record { number = n; place = t.place })
bad_place p r t b n e h = subst (λ (q : Place). b ≡ parsed.Bad (record { number = n; place = q })) e h

pub reads_more : (w : List Token) (x : Phrase) (r : List Token) (p : Place) (b : Parsed) → read_program w ≡ Got x None r → (length r == 0) ≡ false → p ≡ place_at r → b ≡ parsed.Bad (record { number = 20; place = p }) → Reads w b
unfolding parsed
reads_more w x [] p b e h i k = cc
reads_more w x (t ∷ r) p b e h i k = subst (Reads w) (sym (bad_place p r t b 20 i k)) (Unexpected t r, ap answer_of e, refl)

module _ (w : List Token) (p q : Place) (e : Stop) (ended : IsEnded w) (place : q ≡ p) where
  module _ (is : e ≡ stop.Unexpected p) where
    named : Fails {A = Phrase} e (read_program w) → (t : Token) × (r : List Token) × (read_program w ≡ Bad None (t ∷ r)) × (q ≡ t.place)
    named f = go (subst (λ e. Fails {A = Phrase} e (read_program w)) is f)
      where
        more : (r : List Token) → read_program w ≡ Bad None r → p ≡ place_at r → (t : Token) × (r2 : List Token) × (r ≡ t ∷ r2) → (t : Token) × (r : List Token) × (read_program w ≡ Bad None (t ∷ r)) × (q ≡ t.place)
        more r h i (t, r2, k) = (t, r2, h ∙ ap (Bad None) k, place ∙ i ∙ ap place_at k)

        go : Fails {A = Phrase} (stop.Unexpected p) (read_program w) → (t : Token) × (r : List Token) × (read_program w ≡ Bad None (t ∷ r)) × (q ≡ t.place)
        go (r, h, i) = more r h i (names_token w r ended h)

    pub reads_unexpected : (b : Parsed) → Fails {A = Phrase} e (read_program w) → b ≡ parsed.Bad (record { number = 20; place = q }) → Reads w b
    unfolding parsed
    reads_unexpected b f k = go (named f)
      where
        go : (t : Token) × (r : List Token) × (read_program w ≡ Bad None (t ∷ r)) × (q ≡ t.place) → Reads w b
        go (t, r, h, i) = subst (Reads w) (sym (bad_place q r t b 20 i k)) (Unexpected t r, ap answer_of h, refl)

  module _ (is : e ≡ stop.TooDeep p) where
    deep_named : Fails {A = Phrase} e (read_program w) → (t : Token) × (r : List Token) × (read_program w ≡ Deep (t ∷ r)) × (q ≡ t.place)
    deep_named f = go (subst (λ e. Fails {A = Phrase} e (read_program w)) is f)
      where
        more : (r : List Token) → read_program w ≡ Deep r → p ≡ place_at r → (t : Token) × (r2 : List Token) × (r ≡ t ∷ r2) → (t : Token) × (r : List Token) × (read_program w ≡ Deep (t ∷ r)) × (q ≡ t.place)
        more r h i (t, r2, k) = (t, r2, h ∙ ap Deep k, place ∙ i ∙ ap place_at k)

        go : Fails {A = Phrase} (stop.TooDeep p) (read_program w) → (t : Token) × (r : List Token) × (read_program w ≡ Deep (t ∷ r)) × (q ≡ t.place)
        go (r, h, i) = more r h i (names_deep w r ended h)

    pub reads_too_deep : (b : Parsed) → Fails {A = Phrase} e (read_program w) → b ≡ parsed.Bad (record { number = 21; place = q }) → Reads w b
    unfolding parsed
    reads_too_deep b f k = go (deep_named f)
      where
        go : (t : Token) × (r : List Token) × (read_program w ≡ Deep (t ∷ r)) × (q ≡ t.place) → Reads w b
        go (t, r, h, i) = subst (Reads w) (sym (bad_place q r t b 21 i k)) (TooDeep t r, ap answer_of h, refl)
