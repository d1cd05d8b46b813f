-- A card is the same when it is read again, with a carriage return behind it.
use Rattle.std.proofs.Common.{◌≡◌, ℕ, suc, zero, ◌==◌, ◌&&◌, ◌||◌, Bool, true, false, cond, List, [], ◌∷◌, ◌++◌, take, map, refl, sym, subst, inl, inr, ap, ◌∙◌}
use Rattle.std.specs.Prelude.{⊤, ◌⊎◌}
use Rattle.std.specs.List.{AllByRecursion as AllOf, list_any, slice_split, onto_first}
use Rattle.std.proofs.lemmas.List.Elements.{All-from_recursion}
use Rattle.std.proofs.lemmas.List.Splits.{slice_split-cons_yes, slice_split-cons_no}
use Rattle.short_text.specs.Blanks.{trimmed}
use Rattle.short_text.proofs.Trimmed.{trimmed-append_blanks, trimmed_and_blanks}
use Rattle.deck_reader.specs.Cards.{all_but_last, cards, cleaned, ended, last_of, parts, pieces, under_way, unless_empty, with_tildes, without_return, without_tabs}
use Rattle.account_shares.specs.Laws.{CardsArePlain, IsPlain}
use Rattle.account_shares.proofs.Firsts.{all_append, any_take, neither_of}

-- a byte doesn't stand in a text
abbrev Lacks : ℕ → List ℕ → Type 0
Lacks t text = list_any (λ b. b == t) text ≡ false

one_more : (t b : ℕ) (bs : List ℕ) → (b == t) ≡ false → Lacks t bs → Lacks t (b ∷ bs)
one_more t b bs this rest = ap (λ (v : Bool). v || list_any (λ c. c == t) bs) this ∙ rest

-- ---- no line feed stands in a piece

onto_by : (b : Bool) (x : ℕ) (xs : List ℕ) (ps : List (List ℕ)) → (x == 10) ≡ b → slice_split (λ c. c == 10) xs ≡ ps → AllOf (Lacks 10) ps → AllOf (Lacks 10) (slice_split (λ c. c == 10) (x ∷ xs))
onto_by true x xs ps is e all = subst (AllOf (Lacks 10)) (sym (slice_split-cons_yes (λ c. c == 10) x xs is ∙ ap (λ (qs : List (List ℕ)). [] ∷ qs) e)) (refl, all)
onto_by false x xs [] is e all = subst (AllOf (Lacks 10)) (sym (slice_split-cons_no (λ c. c == 10) x xs is ∙ ap (onto_first x) e)) (one_more 10 x [] is refl, tt)
onto_by false x xs (p ∷ ps) is e all = subst (AllOf (Lacks 10)) (sym (slice_split-cons_no (λ c. c == 10) x xs is ∙ ap (onto_first x) e)) (one_more 10 x p is all.0, all.1)

parts_lack : (bytes : List ℕ) → AllOf (Lacks 10) (parts bytes)
parts_lack [] = (refl, tt)
parts_lack (x ∷ xs) = onto_by (x == 10) x xs (parts xs) refl refl (parts_lack xs)

ended_lack : (ps : List (List ℕ)) → AllOf (Lacks 10) ps → AllOf (Lacks 10) (all_but_last ps)
ended_lack [] all = tt
ended_lack (p ∷ []) all = tt
ended_lack (p ∷ q ∷ ps) all = (all.0, ended_lack (q ∷ ps) all.1)

last_lacks : (ps : List (List ℕ)) → AllOf (Lacks 10) ps → Lacks 10 (last_of ps)
last_lacks [] all = refl
last_lacks (p ∷ []) all = all.0
last_lacks (p ∷ q ∷ ps) all = last_lacks (q ∷ ps) all.1

unless_lacks : (p : List ℕ) → Lacks 10 p → AllOf (Lacks 10) (unless_empty p)
unless_lacks [] h = tt
unless_lacks (b ∷ bs) h = (h, tt)

pieces_lack : (bytes : List ℕ) → AllOf (Lacks 10) (pieces bytes)
pieces_lack bytes =
    all_append (Lacks 10) (ended bytes) (unless_empty (under_way bytes)) (ended_lack (parts bytes) (parts_lack bytes))
    (unless_lacks (under_way bytes) (last_lacks (parts bytes) (parts_lack bytes)))

-- ---- nor in its card, and no tab

return_lacks : (t : ℕ) (p : List ℕ) → Lacks t p → Lacks t (without_return p)
return_lacks t [] h = refl
return_lacks t (b ∷ []) h = by (b == 13)
  where
    by : (v : Bool) → Lacks t (cond v [] (b ∷ []))
    by true = refl
    by false = h
return_lacks t (b ∷ c ∷ p) h =
    let parts = neither_of (b == t) (list_any (λ d. d == t) (c ∷ p)) h in
    one_more t b (without_return (c ∷ p)) parts.0 (return_lacks t (c ∷ p) parts.1)

blank_for : (t b : ℕ) (v : Bool) → (b == 9) ≡ v → (t ≡ 9) ⊎ ((b == t) ≡ false) → (32 == t) ≡ false → (cond v 32 b == t) ≡ false
blank_for t b true is h other = other
blank_for t b false is (inl e) other = ap (λ (k : ℕ). b == k) e ∙ is
blank_for t b false is (inr h) other = h

no_tabs : (p : List ℕ) → Lacks 9 (without_tabs p)
no_tabs [] = refl
no_tabs (b ∷ p) = one_more 9 (cond (b == 9) 32 b) (without_tabs p) (blank_for 9 b (b == 9) refl (inl refl) refl) (no_tabs p)

tabs_lack : (p : List ℕ) → Lacks 10 p → Lacks 10 (without_tabs p)
tabs_lack [] h = refl
tabs_lack (b ∷ p) h =
    let parts = neither_of (b == 10) (list_any (λ d. d == 10) p) h in
    one_more 10 (cond (b == 9) 32 b) (without_tabs p) (blank_for 10 b (b == 9) refl (inr parts.0) refl) (tabs_lack p parts.1)

tildes_lack : (t : ℕ) (p : List ℕ) → (126 == t) ≡ false → Lacks t p → Lacks t (with_tildes p)
tildes_lack t [] other h = refl
tildes_lack t (b ∷ []) other h = h
tildes_lack t (b ∷ c ∷ p) other h =
    let first = neither_of (b == t) (list_any (λ d. d == t) (c ∷ p)) h in
    let second = neither_of (c == t) (list_any (λ d. d == t) p) first.1 in
    by (b == 194 && c == 172) first.0 (tildes_lack t p other second.1) (tildes_lack t (c ∷ p) other first.1)
  where
    by : (v : Bool) → (b == t) ≡ false → Lacks t (with_tildes p) → Lacks t (with_tildes (c ∷ p)) → Lacks t (cond v (126 ∷ with_tildes p) (b ∷ with_tildes (c ∷ p)))
    by true this behind rest = one_more t 126 (with_tildes p) other behind
    by false this behind rest = one_more t b (with_tildes (c ∷ p)) this rest

card_lacks : (t : ℕ) (p : List ℕ) → (126 == t) ≡ false → Lacks t (without_tabs (without_return p)) → Lacks t (cleaned p)
card_lacks t p other h =
    let text = with_tildes (without_tabs (without_return p)) in
    any_take (λ b. b == t) _ text (tildes_lack t (without_tabs (without_return p)) other h)

-- ---- no pair of bytes that stands for the not sign

-- this byte and the first of these are no such pair
abbrev NoPair : ℕ → List ℕ → Type 0
NoPair b [] = ⊤
NoPair b (c ∷ text) = (b == 194 && c == 172) ≡ false

abbrev NoPairs : List ℕ → Type 0
NoPairs [] = ⊤
NoPairs (b ∷ text) = NoPair b text × NoPairs text

and_false : (a : Bool) → (a && false) ≡ false
and_false true = refl
and_false false = refl

tilde_behind : (b : ℕ) (v : Bool) (text others : List ℕ) → NoPair b others → NoPair b (cond v (126 ∷ text) others)
tilde_behind b true text others h = and_false (b == 194)
tilde_behind b false text others h = h

no_pair : (b c : ℕ) (p : List ℕ) → (b == 194 && c == 172) ≡ false → NoPair b (with_tildes (c ∷ p))
no_pair b c [] h = h
no_pair b c (d ∷ p) h = tilde_behind b (c == 194 && d == 172) (with_tildes p) (c ∷ with_tildes (d ∷ p)) h

behind_tilde : (text : List ℕ) → NoPair 126 text
behind_tilde [] = tt
behind_tilde (c ∷ text) = refl

no_pairs : (p : List ℕ) → NoPairs (with_tildes p)
no_pairs [] = tt
no_pairs (b ∷ []) = (tt, tt)
no_pairs (b ∷ c ∷ p) = by (b == 194 && c == 172) refl (no_pairs p) (no_pairs (c ∷ p))
  where
    by : (v : Bool) → (b == 194 && c == 172) ≡ v → NoPairs (with_tildes p) → NoPairs (with_tildes (c ∷ p)) → NoPairs (cond v (126 ∷ with_tildes p) (b ∷ with_tildes (c ∷ p)))
    by true is behind rest = (behind_tilde (with_tildes p), behind)
    by false is behind rest = (no_pair b c p is, rest)

pair_take : (n b : ℕ) (text : List ℕ) → NoPair b text → NoPair b (take n text)
pair_take zero b text h = tt
pair_take (suc n) b [] h = tt
pair_take (suc n) b (c ∷ text) h = h

pairs_take : (n : ℕ) (text : List ℕ) → NoPairs text → NoPairs (take n text)
pairs_take zero text h = tt
pairs_take (suc n) [] h = tt
pairs_take (suc n) (b ∷ text) h = (pair_take n b text h.0, pairs_take n text h.1)

-- ---- the card again

return_off : (c : List ℕ) → without_return (c ++ 13 ∷ []) ≡ c
return_off [] = refl
return_off (b ∷ []) = refl
return_off (b ∷ d ∷ c) = ap (λ (xs : List ℕ). b ∷ xs) (return_off (d ∷ c))

tabs_stay : (c : List ℕ) → Lacks 9 c → without_tabs c ≡ c
tabs_stay [] h = refl
tabs_stay (b ∷ c) h =
    let parts = neither_of (b == 9) (list_any (λ d. d == 9) c) h in
    ap (λ (v : Bool). cond v 32 b ∷ without_tabs c) parts.0 ∙ ap (λ (xs : List ℕ). b ∷ xs) (tabs_stay c parts.1)

tildes_stay : (c : List ℕ) → NoPairs c → with_tildes c ≡ c
tildes_stay [] h = refl
tildes_stay (b ∷ []) h = refl
tildes_stay (b ∷ d ∷ c) h =
    ap (λ (v : Bool). cond v (126 ∷ with_tildes c) (b ∷ with_tildes (d ∷ c))) h.0 ∙ ap (λ (xs : List ℕ). b ∷ xs) (tildes_stay (d ∷ c) h.1)

trimmed_stays : (text : List ℕ) → trimmed (trimmed text) ≡ trimmed text
trimmed_stays text = sym (trimmed-append_blanks (trimmed text) _) ∙ ap trimmed (sym (trimmed_and_blanks text))

card_again : (p : List ℕ) → Lacks 10 p → IsPlain (cleaned p)
card_again p lacks =
    let card = cleaned p in
    let text = with_tildes (without_tabs (without_return p)) in
    record {
      stays = ap (λ (x : List ℕ). trimmed (with_tildes (without_tabs x))) (return_off card)
          ∙ ap (λ (x : List ℕ). trimmed (with_tildes x)) (tabs_stay card (card_lacks 9 p refl (no_tabs (without_return p))))
          ∙ ap trimmed (tildes_stay card (pairs_take _ text (no_pairs (without_tabs (without_return p))))) ∙ trimmed_stays text;
      no_feed = card_lacks 10 p refl (tabs_lack (without_return p) (return_lacks 10 p lacks));
    }

cleaned_again : (ps : List (List ℕ)) → AllOf (Lacks 10) ps → AllOf IsPlain (map cleaned ps)
cleaned_again [] all = tt
cleaned_again (p ∷ ps) all = (card_again p all.0, cleaned_again ps all.1)

-- all cards of an input are
pub all_again : (bytes : List ℕ) → AllOf IsPlain (cards bytes)
all_again bytes = cleaned_again (pieces bytes) (pieces_lack bytes)

pub cards_are_plain : CardsArePlain
cards_are_plain bytes = All-from_recursion IsPlain (cards bytes) (all_again bytes)
