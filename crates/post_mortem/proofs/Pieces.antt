-- What is put on a line in a loop, a piece at a time.
use Rattle.std.proofs.Common.{◌≡◌, ◌≢◌, ℕ, zero, suc, ◌+◌, ◌<◌, eqb, List, [], ◌∷◌, ◌++◌, length, take, get_or, map, ◌≤◌, refl, sym, ap, ◌∙◌, append_assoc, arith, ℤ}
use Rattle.std.proofs.lemmas.List.{take_more, map_more, length-map, length-take-le}
use Rattle.std.proofs.lemmas.Bool.Decides.{nat_tests}
use Rattle.std.specs.Prelude.{if◌then◌else◌, codes}
use Rattle.std.specs.List.{join_with_byte}
use Rattle.post_mortem.specs.Values.{quoted}
use Rattle.post_mortem.specs.Shown.{pair_text}
use Rattle.post_mortem.proofs.Cut.{both, three}

-- the quotes of two texts, one behind the other
quoted-append : (a b : List ℕ) → quoted (a ++ b) ≡ quoted a ++ quoted b
quoted-append [] b = refl
quoted-append (x ∷ a) b = ap (λ (text : List ℕ). (if eqb x 34 then 34 ∷ 34 ∷ [] else x ∷ []) ++ text) (quoted-append a b) ∙ sym (append_assoc (if eqb x 34 then 34 ∷ 34 ∷ [] else x ∷ []) (quoted a) (quoted b))

-- a quote stands twice
pub quote_twice : (character : ℕ) → character ≡ 34 → 34 ∷ 34 ∷ [] ≡ quoted (character ∷ [])
quote_twice character is = sym (ap (λ (c : ℕ). quoted (c ∷ [])) is)

-- another character stands as it is
pub other_once : (character : ℕ) → character ≢ 34 → character ∷ [] ≡ quoted (character ∷ [])
other_once character other = grind (arith, nat_tests)

-- the line of a string with one character more
pub quoted_so_far : (line text so_far next : List ℕ) (i : ℕ) → i < length text
    → so_far ≡ take 132 (line ++ (34 ∷ quoted (take i text)))
    → next ≡ take 132 (so_far ++ quoted (get_or text i 0 ∷ []))
    → next ≡ take 132 (line ++ (34 ∷ quoted (take (i + 1) text)))
quoted_so_far line text so_far next i within so_far_is next_is =
    both line (34 ∷ quoted (take i text)) (quoted (get_or text i 0 ∷ [])) so_far next so_far_is next_is
    ∙ ap (λ (pieces : List ℕ). take 132 (line ++ (34 ∷ pieces))) (sym (ap quoted (take_more text i 0 within) ∙ quoted-append (take i text) (get_or text i 0 ∷ [])))

-- one piece more, behind a comma
join-push : (pieces : List (List ℕ)) (piece : List ℕ) → 0 < length pieces → join_with_byte 44 (pieces ++ piece ∷ []) ≡ join_with_byte 44 pieces ++ (44 ∷ piece)
join-push [] piece some = absurd (omega arith)
join-push (x ∷ []) piece some = refl
join-push (x ∷ y ∷ pieces) piece some = ap (λ (text : List ℕ). x ++ (44 ∷ text)) (join-push (y ∷ pieces) piece (omega arith)) ∙ sym (append_assoc x (44 ∷ join_with_byte 44 (y ∷ pieces)) (44 ∷ piece))

-- the first dimensions, with commas between them
abbrev joined : List (ℤ × ℤ) → ℕ → List ℕ
joined pairs i = join_with_byte 44 (map pair_text (take i pairs))

joined_first : (pairs : List (ℤ × ℤ)) (i : ℕ) (d : ℤ × ℤ) → i < length pairs → i ≤ 0 → joined pairs (i + 1) ≡ joined pairs i ++ pair_text (get_or pairs i d)
joined_first pairs zero d within none = ap (join_with_byte 44) (map_more pair_text pairs 0 d within)
joined_first pairs (suc i) d within none = absurd (omega arith)

joined_more : (pairs : List (ℤ × ℤ)) (i : ℕ) (d : ℤ × ℤ) → i < length pairs → 0 < i → joined pairs (i + 1) ≡ joined pairs i ++ (44 ∷ pair_text (get_or pairs i d))
joined_more pairs i d within some =
    ap (join_with_byte 44) (map_more pair_text pairs i d within)
    ∙ join-push (map pair_text (take i pairs)) (pair_text (get_or pairs i d)) (omega (arith, some, length-map (take i pairs) pair_text, length-take-le i pairs (omega (arith, within))))

-- the line of an array with its first dimension
pub first_dimension : (line : List ℕ) (pairs : List (ℤ × ℤ)) (i : ℕ) (d : ℤ × ℤ) (so_far next : List ℕ) → i < length pairs → i ≤ 0
    → so_far ≡ take 132 (line ++ (codes " ARRAY (" ++ joined pairs i))
    → next ≡ take 132 (so_far ++ pair_text (get_or pairs i d))
    → next ≡ take 132 (line ++ (codes " ARRAY (" ++ joined pairs (i + 1)))
first_dimension line pairs i d so_far next within none so_far_is next_is =
    both line (codes " ARRAY (" ++ joined pairs i) (pair_text (get_or pairs i d)) so_far next so_far_is next_is
    ∙ ap (λ (text : List ℕ). take 132 (line ++ (codes " ARRAY (" ++ text))) (sym (joined_first pairs i d within none))

-- the line of an array with one dimension more
pub next_dimension : (line : List ℕ) (pairs : List (ℤ × ℤ)) (i : ℕ) (d : ℤ × ℤ) (so_far comma next : List ℕ) → i < length pairs → 0 < i
    → so_far ≡ take 132 (line ++ (codes " ARRAY (" ++ joined pairs i))
    → comma ≡ take 132 (so_far ++ 44 ∷ [])
    → next ≡ take 132 (comma ++ pair_text (get_or pairs i d))
    → next ≡ take 132 (line ++ (codes " ARRAY (" ++ joined pairs (i + 1)))
next_dimension line pairs i d so_far comma next within some so_far_is comma_is next_is =
    three line (codes " ARRAY (" ++ joined pairs i) (44 ∷ []) (pair_text (get_or pairs i d)) so_far comma next so_far_is comma_is next_is
    ∙ ap (λ (text : List ℕ). take 132 (line ++ (codes " ARRAY (" ++ text))) (append_assoc (joined pairs i) (44 ∷ []) (pair_text (get_or pairs i d)) ∙ sym (joined_more pairs i d within some))
