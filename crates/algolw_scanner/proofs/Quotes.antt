-- Literals: the longest that is closed.
use Rattle.std.proofs.Common.{◌≡◌, ◌==◌, ℕ, zero, ◌+◌, ◌≤◌, List, [], ◌∷◌, ◌++◌, length, Bool, true, false, cond, refl, sym, ◌∙◌, ap, subst, arith, append_assoc, length-append, ◌&&◌, Option, Some, None}
use Rattle.std.specs.List.{list_all}
use Rattle.std.proofs.Common.{not}
use Rattle.std.specs.Char.{is_ascii_alphabetic, is_ascii_digit}
use Rattle.std.proofs.lemmas.Bool.Decides.{nat_tests}
use Rattle.algolw_tree.specs.declared.tokens.TokenKind.TheVariants.{Quoted}
use Rattle.algolw_scanner.proofs.Classes.{quote_test}
use Rattle.algolw_tree.specs.Chars.{class, Quote, begins}
use Rattle.algolw_scanner.specs.Front.{Fault, literal, behind_quote, onto_char, or_closed, quoted_of, quoted_at}
use Rattle.algolw_tree.specs.Tokens.{Piece, OfKind, Reads, ReadsNothing, IsLiteral, Spells, nothing, plain, pair, fault}
use Rattle.algolw_scanner.specs.Matches.{Matches}
use Rattle.algolw_scanner.proofs.Fronts.{reads_by, nothing_by, head_is, tail_is}

-- the text from behind the first quote on closes at no place, or last behind i
abbrev Closes : List ℕ → List ℕ → Option (List ℕ × List ℕ) → Type 0
Closes s t None = (j n z : List ℕ) → Spells j n → s ++ 10 ∷ t ≡ j ++ 34 ∷ z → ⊥
Closes s t (Some x) = (i : List ℕ) × Spells i x.0 × (s ≡ i ++ 34 ∷ x.1) × ((j n z : List ℕ) → Spells j n → s ++ 10 ∷ t ≡ j ++ 34 ∷ z → length j ≤ length i)

plain_none : (c : ℕ) (s t : List ℕ) → (c == 34) ≡ false → ((j n z : List ℕ) → Spells j n → s ++ 10 ∷ t ≡ j ++ 34 ∷ z → ⊥) → (j n z : List ℕ) → Spells j n → c ∷ (s ++ 10 ∷ t) ≡ j ++ 34 ∷ z → ⊥
plain_none c s t e h j n z nothing g = let k : c ≡ 34 = head_is g in let f : (c == 34) ≡ true = ap (λ x. x == 34) k in cc
plain_none c s t e h j n z (plain {c = d} {s = j2} {m = n2} a b r) g = h j2 n2 z r (tail_is g)
plain_none c s t e h j n z (pair {s = j2} r) g = let k : c ≡ 34 = head_is g in let f : (c == 34) ≡ true = ap (λ x. x == 34) k in cc

plain_most : (c : ℕ) (s t i : List ℕ) → (c == 34) ≡ false → ((j n z : List ℕ) → Spells j n → s ++ 10 ∷ t ≡ j ++ 34 ∷ z → length j ≤ length i) → (j n z : List ℕ) → Spells j n → c ∷ (s ++ 10 ∷ t) ≡ j ++ 34 ∷ z → length j ≤ length (c ∷ i)
plain_most c s t i e h j n z nothing g = omega arith
plain_most c s t i e h j n z (plain {c = d} {s = j2} {m = n2} a b r) g = let k : length j2 ≤ length i = h j2 n2 z r (tail_is g) in omega arith
plain_most c s t i e h j n z (pair {s = j2} r) g = let k : c ≡ 34 = head_is g in let f : (c == 34) ≡ true = ap (λ x. x == 34) k in absurd (cc)

-- a character that is no quote
closes_plain : (c : ℕ) (s t : List ℕ) → (c == 34) ≡ false → (c == 10) ≡ false → (o : Option (List ℕ × List ℕ)) → Closes s t o → Closes (c ∷ s) t (onto_char c o)
closes_plain c s t e f None h = plain_none c s t e h
closes_plain c s t e f (Some x) (i, r, g, m) = (c ∷ i, plain e f r, ap (λ y. c ∷ y) g, plain_most c s t i e m)

-- a quote at the end of the line, or before another character
single_most : (s : List ℕ) → begins (λ c. c == 34) s ≡ false → (j n z : List ℕ) → Spells j n → 34 ∷ s ≡ j ++ 34 ∷ z → length j ≤ zero
single_most s e j n z nothing g = omega arith
single_most s e j n z (plain {c = d} a b r) g = let k : 34 ≡ d = head_is g in let f : (34 == 34) ≡ (d == 34) = ap (λ x. x == 34) k in absurd (cc)
single_most s e j n z (pair {s = j2} r) g = let f : begins (λ c. c == 34) s ≡ true = ap (begins (λ c. c == 34)) (tail_is g) in absurd (cc)

-- a pair
pair_most_none : (s t : List ℕ) → ((j n z : List ℕ) → Spells j n → s ++ 10 ∷ t ≡ j ++ 34 ∷ z → ⊥) → (j n z : List ℕ) → Spells j n → 34 ∷ 34 ∷ (s ++ 10 ∷ t) ≡ j ++ 34 ∷ z → length j ≤ zero
pair_most_none s t h j n z nothing g = omega arith
pair_most_none s t h j n z (plain {c = d} a b r) g = let k : 34 ≡ d = head_is g in let f : (34 == 34) ≡ (d == 34) = ap (λ x. x == 34) k in absurd (cc)
pair_most_none s t h j n z (pair {s = j2} {m = n2} r) g = absurd (h j2 n2 z r (tail_is (tail_is g)))

pair_most : (s t i : List ℕ) → ((j n z : List ℕ) → Spells j n → s ++ 10 ∷ t ≡ j ++ 34 ∷ z → length j ≤ length i) → (j n z : List ℕ) → Spells j n → 34 ∷ 34 ∷ (s ++ 10 ∷ t) ≡ j ++ 34 ∷ z → length j ≤ length (34 ∷ 34 ∷ i)
pair_most s t i h j n z nothing g = omega arith
pair_most s t i h j n z (plain {c = d} a b r) g = let k : 34 ≡ d = head_is g in let f : (34 == 34) ≡ (d == 34) = ap (λ x. x == 34) k in absurd (cc)
pair_most s t i h j n z (pair {s = j2} {m = n2} r) g = let k : length j2 ≤ length i = h j2 n2 z r (tail_is (tail_is g)) in omega arith

closes_pair : (s t : List ℕ) → (o : Option (List ℕ × List ℕ)) → Closes s t o → Closes (34 ∷ 34 ∷ s) t (or_closed s o)
closes_pair s t None h = ([], nothing, refl, pair_most_none s t h)
closes_pair s t (Some x) (i, r, g, m) = (34 ∷ 34 ∷ i, pair r, ap (λ y. 34 ∷ 34 ∷ y) g, pair_most s t i m)

clean_head : (c : ℕ) (s : List ℕ) → list_all (λ x. not (x == 10)) (c ∷ s) ≡ true → (c == 10) ≡ false
clean_head c s e = go (c == 10) e
  where
    go : (b : Bool) → not b && list_all (λ x. not (x == 10)) s ≡ true → b ≡ false
    go true h = sym h
    go false h = refl

clean_tail : (c : ℕ) (s : List ℕ) → list_all (λ x. not (x == 10)) (c ∷ s) ≡ true → list_all (λ x. not (x == 10)) s ≡ true
clean_tail c s e = go (c == 10) e
  where
    go : (b : Bool) → not b && list_all (λ x. not (x == 10)) s ≡ true → list_all (λ x. not (x == 10)) s ≡ true
    go true h = absurd (cc)
    go false h = h

closes_char : (c : ℕ) (s t : List ℕ) → (c == 10) ≡ false → Closes s t (literal s) → (c ≡ 34 → Closes (34 ∷ s) t (behind_quote s)) → (b : Bool) → (c == 34) ≡ b → Closes (c ∷ s) t (cond b (behind_quote s) (onto_char c (literal s)))
closes_char c s t n h k true e = let f : c ≡ 34 = grind (arith, nat_tests) in subst (λ x. Closes (x ∷ s) t (behind_quote s)) (sym f) (k f)
closes_char c s t n h k false e = closes_plain c s t e n (literal s) h

closes_after : (c : ℕ) (s t : List ℕ) → (c ≡ 34 → Closes (34 ∷ 34 ∷ s) t (or_closed s (literal s))) → (b : Bool) → (c == 34) ≡ b → Closes (34 ∷ c ∷ s) t (cond b (or_closed s (literal s)) (Some ([], c ∷ s)))
closes_after c s t h true e = let f : c ≡ 34 = grind (arith, nat_tests) in subst (λ x. Closes (34 ∷ x ∷ s) t (or_closed s (literal s))) (sym f) (h f)
closes_after c s t h false e = ([], nothing, refl, single_most (c ∷ (s ++ 10 ∷ t)) e)

closes_nil : (t j m z : List ℕ) → Spells j m → 10 ∷ t ≡ j ++ 34 ∷ z → ⊥
closes_nil t j m z nothing g = let k : ◌≡◌ {A = ℕ} 10 34 = head_is g in absurd (omega arith)
closes_nil t j m z (plain {c = d} a b r) g = let k : 10 ≡ d = head_is g in let f : (10 == 10) ≡ (d == 10) = ap (λ x. x == 10) k in cc
closes_nil t j m z (pair r) g = let k : ◌≡◌ {A = ℕ} 10 34 = head_is g in absurd (omega arith)

mutual
  closes : (s t : List ℕ) → list_all (λ x. not (x == 10)) s ≡ true → Closes s t (literal s)
  closes [] t n = closes_nil t
  closes (c ∷ s) t n = closes_char c s t (clean_head c s n) (closes s t (clean_tail c s n)) (λ f. closes_behind s t (clean_tail c s n)) (c == 34) refl

  closes_behind : (s t : List ℕ) → list_all (λ x. not (x == 10)) s ≡ true → Closes (34 ∷ s) t (behind_quote s)
  closes_behind [] t n = ([], nothing, refl, single_most (10 ∷ t) refl)
  closes_behind (c ∷ s) t n = closes_after c s t (λ f. closes_pair s t (literal s) (closes s t (clean_tail c s n))) (c == 34) refl

-- what a literal at the front says of the text behind its first quote
inner_at : (s v z : List ℕ) (y : Piece) → s ≡ v ++ z → (r : IsLiteral (34 ∷ v) y) → s ≡ r.inner ++ 34 ∷ z
inner_at s v z y e r = e ∙ ap (λ x. x ++ z) (tail_is r.cut) ∙ append_assoc r.inner (34 ∷ []) z

inner_length : (v : List ℕ) (y : Piece) → (r : IsLiteral (34 ∷ v) y) → length v ≡ length r.inner + 1
inner_length v y r = let h : v ≡ r.inner ++ 34 ∷ [] = tail_is r.cut in omega (arith, ap length h, length-append r.inner (34 ∷ []))

or_closed_some : (s : List ℕ) (o : Option (List ℕ × List ℕ)) → or_closed s o ≡ None → ⊥
or_closed_some s None e = cc
or_closed_some s (Some x) e = cc

behind_some : (s : List ℕ) → behind_quote s ≡ None → ⊥
behind_some [] e = cc
behind_some (c ∷ s) e = go (c == 34) e
  where
    go : (b : Bool) → ◌≡◌ {A = Option (List ℕ × List ℕ)} (cond b (or_closed s (literal s)) (Some ([], c ∷ s))) None → ⊥
    go true h = or_closed_some s (literal s) h
    go false h = cc

begins_same : (p : ℕ → Bool) (r t : List ℕ) → p 10 ≡ false → begins p (r ++ 10 ∷ t) ≡ begins p r
begins_same p [] t e = e
begins_same p (c ∷ r) t e = refl

none_fault : (s t : List ℕ) → literal s ≡ None → 11 ≡ fault (34 ∷ (s ++ 10 ∷ t))
none_fault [] t e = refl
none_fault (c ∷ s) t e = go (c == 34) e
  where
    go : (b : Bool) → cond b (behind_quote s) (onto_char c (literal s)) ≡ None → ◌≡◌ {A = ℕ} 11 (cond b (cond (begins (λ x. x == 34) (s ++ 10 ∷ t)) 11 15) 11)
    go true h = absurd (behind_some s h)
    go false h = refl

empty_inner : (j m : List ℕ) (d : ℕ) → Spells j (d ∷ m) → length j ≤ zero → ⊥
empty_inner j m d (plain a b r) h = omega arith
empty_inner j m d (pair r) h = omega arith

no_text : (i : List ℕ) → Spells i [] → i ≡ []
no_text i nothing = refl

empty_cases : (s t r : List ℕ) → s ≡ 34 ∷ r → ReadsNothing (34 ∷ (s ++ 10 ∷ t)) → (b : Bool) → begins (λ c. c == 34) r ≡ b → Matches (34 ∷ s) t (cond b (Fault 11) (Fault 15))
empty_cases s t r e n true f = (n, sym (ap (λ x. fault (34 ∷ (x ++ 10 ∷ t))) e ∙ ap (λ x. cond x 11 15) (begins_same (λ c. c == 34) r t refl ∙ f)))
empty_cases s t r e n false f = (n, sym (ap (λ x. fault (34 ∷ (x ++ 10 ∷ t))) e ∙ ap (λ x. cond x 11 15) (begins_same (λ c. c == 34) r t refl ∙ f)))

empty_nothing : (s t i : List ℕ) → i ≡ [] → ((j n z : List ℕ) → Spells j n → s ++ 10 ∷ t ≡ j ++ 34 ∷ z → length j ≤ length i) → ReadsNothing (34 ∷ (s ++ 10 ∷ t))
empty_nothing s t i e m = nothing_by 34 (s ++ 10 ∷ t) Quote refl (λ v z y g r. empty_inner r.inner r.more r.first r.spells (let k : length r.inner ≤ length i = m r.inner (r.first ∷ r.more) z r.spells (inner_at (s ++ 10 ∷ t) v z y g r) in let h : length i ≡ 0 = ap length e in omega arith))

cut_at : (s t i r : List ℕ) → s ≡ i ++ 34 ∷ r → (i ++ 34 ∷ []) ++ (r ++ 10 ∷ t) ≡ s ++ 10 ∷ t
cut_at s t i r e = append_assoc i (34 ∷ []) (r ++ 10 ∷ t) ∙ sym (append_assoc i (34 ∷ r) (10 ∷ t)) ∙ ap (λ x. x ++ 10 ∷ t) (sym e)

said_reads : (s t i r m : List ℕ) (d : ℕ) → Spells i (d ∷ m) → s ≡ i ++ 34 ∷ r → ((j n z : List ℕ) → Spells j n → s ++ 10 ∷ t ≡ j ++ 34 ∷ z → length j ≤ length i) → Reads (34 ∷ ((i ++ 34 ∷ []) ++ (r ++ 10 ∷ t))) (34 ∷ (i ++ 34 ∷ [])) (OfKind (Quoted (d ∷ m))) (r ++ 10 ∷ t)
said_reads s t i r m d p e h = reads_by 34 (i ++ 34 ∷ []) (r ++ 10 ∷ t) (OfKind (Quoted (d ∷ m))) Quote refl (record { inner = i; first = d; more = m; cut = refl; spells = p; is = refl })
    (λ v z y g x. let k : length x.inner ≤ length i = h x.inner (x.first ∷ x.more) z x.spells (inner_at (s ++ 10 ∷ t) v z y (sym (cut_at s t i r e) ∙ g) x) in omega (arith, inner_length v y x, length-append i (34 ∷ [])))

quoted_cases : (s t : List ℕ) (o : Option (List ℕ × List ℕ)) → literal s ≡ o → Closes s t o → Matches (34 ∷ s) t (quoted_of o)
quoted_cases s t None e h =
    (nothing_by 34 (s ++ 10 ∷ t) Quote refl (λ v z y g r. h r.inner (r.first ∷ r.more) z r.spells (inner_at (s ++ 10 ∷ t) v z y g r)), none_fault s t e)
quoted_cases s t (Some ([], r)) e (i, p, g, m) =
    empty_cases s t r (g ∙ ap (λ x. x ++ 34 ∷ r) (no_text i p)) (empty_nothing s t i (no_text i p) m) (begins (λ c. c == 34) r) refl
quoted_cases s t (Some (d ∷ n, r)) e (i, p, g, m) =
    (34 ∷ (i ++ 34 ∷ []), ap (λ x. 34 ∷ x) (g ∙ sym (append_assoc i (34 ∷ []) r)), subst (λ x. Reads (34 ∷ x) (34 ∷ (i ++ 34 ∷ [])) (OfKind (Quoted (d ∷ n))) (r ++ 10 ∷ t)) (cut_at s t i r g) (said_reads s t i r n d p g m))

quoted_here : (s t : List ℕ) → list_all (λ x. not (x == 10)) s ≡ true → Matches (34 ∷ s) t (quoted_at (34 ∷ s))
unfolding quoted_at
quoted_here s t n = quoted_cases s t (literal s) refl (closes s t n)

pub quoted_matches : (c : ℕ) (s t : List ℕ) → class c ≡ Quote → list_all (λ x. not (x == 10)) s ≡ true → Matches (c ∷ s) t (quoted_at (c ∷ s))
quoted_matches c s t l n =
    let q : (c == 34) ≡ true = quote_test (c == 32) (is_ascii_alphabetic c) (is_ascii_digit c) (c == 34) (c == 35) l in
    let f : c ≡ 34 = grind (arith, nat_tests) in
    subst (λ x. Matches (x ∷ s) t (quoted_at (x ∷ s))) (sym f) (quoted_here s t n)
