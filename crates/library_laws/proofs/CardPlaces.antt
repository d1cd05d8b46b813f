-- The tokens of a deck of at most 1,999 cards stand on these, but for the end of the deck; and so does its tree.
use Rattle.std.proofs.Common.{◌≡◌, ◌==◌, ℕ, suc, ◌+◌, ◌≤◌, List, [], ◌∷◌, ◌++◌, length, Bool, true, false, cond, ◌&&◌, refl, sym, subst, ap, ◌∙◌, arith}
use Rattle.std.specs.Prelude.{⊤}
use Rattle.std.proofs.lemmas.Bool.{and_parts}
use Rattle.std.proofs.lemmas.Bool.Decides.{leb_tells}
use Rattle.value_ops.specs.declared.places.Place.{Place}
use Rattle.algolw_tree.specs.declared.tokens.Token.{Token}
use Rattle.algolw_tree.specs.Tokens.{Piece, text, step, walk, IsFront, Gives, finish, skip, token, kept, is_name, is_end}
use Rattle.algolw_tree.specs.Libraries.{composed, library_cards, library_place}
use Rattle.algolw_typing.specs.Faults.{program_faults}
use Rattle.library_laws.specs.LibraryLaws.{in_library}
use Rattle.library_laws.specs.Stands.{is_of_deck, line_feeds, AreCards, TreesOfDecksStand, LibraryIsTheSame}
use Rattle.library_laws.proofs.SpelledPlaces.{init_stands, init_and, spelled}
use Rattle.library_laws.proofs.Roots.{IsBlockAt, root}
use Rattle.library_laws.proofs.Same.{same}

-- ---- texts that end with a line feed

abbrev Ended : List ℕ → Type 0
Ended [] = ⊤
Ended (c ∷ []) = (c == 10) ≡ true
Ended (c ∷ d ∷ cs) = Ended (d ∷ cs)

ended_tail : (c : ℕ) (cs : List ℕ) → Ended (c ∷ cs) → Ended cs
ended_tail c [] h = tt
ended_tail c (d ∷ cs) h = h

ended_behind : (u w : List ℕ) → Ended (u ++ w) → Ended w
ended_behind [] w h = h
ended_behind (c ∷ u) w h = ended_behind u w (ended_tail c (u ++ w) h)

feeds_more : (c : ℕ) (cs : List ℕ) → line_feeds cs ≤ line_feeds (c ∷ cs)
feeds_more c cs = go (c == 10)
  where
    go : (b : Bool) → line_feeds cs ≤ cond b (suc (line_feeds cs)) (line_feeds cs)
    go true = omega arith
    go false = omega arith

some_feed : (c : ℕ) (cs : List ℕ) → Ended (c ∷ cs) → 1 ≤ line_feeds (c ∷ cs)
some_feed c [] h = go (c == 10) h
  where
    go : (b : Bool) → b ≡ true → 1 ≤ cond b 1 0
    go true e = omega arith
    go false e = absurd (cc e)
some_feed c (d ∷ cs) h = omega (arith, some_feed d cs h, feeds_more c (d ∷ cs))

feeds_both : (u w : List ℕ) → line_feeds (u ++ w) ≡ line_feeds u + line_feeds w
feeds_both [] w = omega arith
feeds_both (c ∷ u) w = go (c == 10) (feeds_both u w)
  where
    go : (b : Bool) → line_feeds (u ++ w) ≡ line_feeds u + line_feeds w → cond b (suc (line_feeds (u ++ w))) (line_feeds (u ++ w)) ≡ cond b (suc (line_feeds u)) (line_feeds u) + line_feeds w
    go true h = omega (arith, h)
    go false h = h

walk_card : (p : Place) (u : List ℕ) → (walk p u).card ≡ p.card + line_feeds u
walk_card p [] = omega arith
walk_card p (c ∷ u) = walk_card (step p c) u ∙ go (c == 10)
  where
    go : (b : Bool) → (cond {A = Place} b (record { card = p.card + 1; column = 1 }) (record { card = p.card; column = p.column + 1 })).card + line_feeds u ≡ p.card + cond b (suc (line_feeds u)) (line_feeds u)
    go true = omega arith
    go false = refl

-- ---- tokens

few_cards : (p : Place) → suc p.card ≤ library_cards → is_of_deck p ≡ true
few_cards p h = grind (arith, leb_tells)

front_card : (p : Place) (rest u w : List ℕ) (x : Piece) → rest ≡ u ++ w → IsFront u w x → Ended rest → p.card + line_feeds rest ≤ library_cards → is_of_deck p ≡ true
front_card p rest [] w x e f h k = absurd f
front_card p rest (c ∷ u) w x e f h k =
    let some : 1 ≤ line_feeds rest = subst (λ r. 1 ≤ line_feeds r) (sym e) (some_feed c (u ++ w) (subst (λ r. Ended r) e h)) in
    few_cards p (omega (arith, some, k))

further : (p : Place) (rest u w : List ℕ) → rest ≡ u ++ w → p.card + line_feeds rest ≤ library_cards → (walk p u).card + line_feeds w ≤ library_cards
further p rest u w e k = omega (arith, walk_card p u, feeds_both u w, ap line_feeds e, k)

gives_stand : {p : Place} {rest : List ℕ} {all : List Token} → Gives p rest all → Ended rest → p.card + line_feeds rest ≤ library_cards → init_stands is_of_deck all ≡ true
gives_stand finish h k = refl
gives_stand (skip {p = p} {rest = rest} u w r g) h k = gives_stand g (ended_behind u w (subst (λ r. Ended r) r.cut h)) (further p rest u w r.cut k)
gives_stand (token {p = p} {rest = rest} {ts = ts} kind u w r g) h k =
    init_and is_of_deck (record { place = p; kind = kind }) ts (front_card p rest u w _ r.cut r.is h k) (gives_stand g (ended_behind u w (subst (λ r. Ended r) r.cut h)) (further p rest u w r.cut k))

kept_stand : (q : Place → Bool) (e : Bool) (ts : List Token) → init_stands q ts ≡ true → init_stands q (kept e ts) ≡ true
kept_stand q e [] h = refl
kept_stand q e (t ∷ []) h = go (e && is_name t.kind)
  where
    go : (d : Bool) → init_stands q (cond d [] (t ∷ [])) ≡ true
    go true = refl
    go false = refl
kept_stand q e (t ∷ s ∷ ts) h =
    let parts = and_parts (q t.place) (init_stands q (s ∷ ts)) h in
    go (e && is_name t.kind) (kept_stand q false (s ∷ ts) parts.1) (init_and q t (kept (is_end t.kind) (s ∷ ts)) parts.0 (kept_stand q (is_end t.kind) (s ∷ ts) parts.1))
  where
    go : (d : Bool) → init_stands q (kept false (s ∷ ts)) ≡ true → init_stands q (t ∷ kept (is_end t.kind) (s ∷ ts)) ≡ true → init_stands q (cond d (kept false (s ∷ ts)) (t ∷ kept (is_end t.kind) (s ∷ ts))) ≡ true
    go true h k = h
    go false h k = k

-- ---- decks

line_ended : (card rest : List ℕ) → Ended rest → Ended ((card ++ 10 ∷ []) ++ rest)
line_ended [] [] h = refl
line_ended [] (d ∷ rest) h = h
line_ended (c ∷ []) rest h = line_ended [] rest h
line_ended (c ∷ d ∷ card) rest h = line_ended (d ∷ card) rest h

text_ended : (cards : List (List ℕ)) → Ended (text cards)
text_ended [] = tt
text_ended (card ∷ cards) = line_ended card (text cards) (text_ended cards)

one_feed : (card : List ℕ) → line_feeds card ≡ 0 → line_feeds (card ++ 10 ∷ []) ≡ 1
one_feed card h = feeds_both card (10 ∷ []) ∙ ap (λ n. n + 1) h

text_feeds : (cards : List (List ℕ)) → AreCards cards → line_feeds (text cards) ≡ length cards
text_feeds [] h = refl
text_feeds (card ∷ cards) h = feeds_both (card ++ 10 ∷ []) (text cards) ∙ omega (arith, one_feed card h.0, text_feeds cards h.1)

pub trees_stand : TreesOfDecksStand
trees_stand x d =
    let all = d.are_tokens in
    let stand = gives_stand all.1 (text_ended d.cards) (omega (arith, text_feeds d.cards d.are_cards, d.few)) in
    spelled is_of_deck d.tokens x d.beyond d.spelled (ap (init_stands is_of_deck) all.2 ∙ kept_stand is_of_deck false all.0 stand)

pub same_for_decks : LibraryIsTheSame
same_for_decks library deck other spelled_by h k =
    let block : IsBlockAt library_place library = root _ _ library spelled_by.beyond spelled_by.spelled in
    ap (λ x. in_library (program_faults (composed x deck))) block.is ∙ same library_place block.decls block.items deck other (trees_stand deck h) (trees_stand other k)
    ∙ ap (λ x. in_library (program_faults (composed x other))) (sym block.is)
