-- Symbols, and the other fronts that begin with no letter, digit or quote.
use Rattle.std.proofs.Common.{◌≡◌, ◌==◌, ℕ, ◌≤◌, List, [], ◌∷◌, ◌++◌, length, Bool, true, false, cond, refl, sym, ap, subst, arith, Option, Some, None, inl, inr}
use Rattle.algolw_tree.specs.declared.tokens.TokenKind.TheVariants.{Symbol as ASymbol}
use Rattle.algolw_tree.specs.declared.tokens.Symbol.{Symbol}
use Rattle.algolw_tree.specs.Chars.{class, Other}
use Rattle.algolw_tree.specs.Symbols.{short, long}
use Rattle.algolw_scanner.specs.Front.{one_sign, two_signs, symbol_at}
use Rattle.algolw_tree.specs.Tokens.{OfKind, Reads, ReadsNothing, symbol_of, fault, fault_of}
use Rattle.algolw_scanner.specs.Matches.{Matches}
use Rattle.algolw_scanner.proofs.Fronts.{reads_by, nothing_by, head_is, tail_is}

other_fault : (c : ℕ) (cs t : List ℕ) → class c ≡ Other → 10 ≡ fault (c ∷ (cs ++ 10 ∷ t))
other_fault c cs t e = sym (ap (λ k. fault_of k (c ∷ (cs ++ 10 ∷ t))) e)

-- no symbol is longer than two characters
two_at_most : (c : ℕ) (v : List ℕ) (s : Symbol) → symbol_of (c ∷ v) ≡ Some s → length v ≤ 1
two_at_most c [] s e = omega arith
two_at_most c (d ∷ []) s e = omega arith
two_at_most c (d ∷ x ∷ v) s e = absurd (cc)

-- where the next character makes no symbol of two
one_at_most : (c d : ℕ) (r v z : List ℕ) (s : Symbol) → long c d ≡ None → d ∷ r ≡ v ++ z → symbol_of (c ∷ v) ≡ Some s → length v ≤ 0
one_at_most c d r [] z s n g e = omega arith
one_at_most c d r (x ∷ []) z s n g e = let k : d ≡ x = head_is g in let f : long c x ≡ None = subst (λ y. long c y ≡ None) k n in absurd (cc)
one_at_most c d r (x ∷ y ∷ v) z s n g e = absurd (cc)

-- where a character is no symbol either
none_at_all : (c d : ℕ) (r v z : List ℕ) (s : Symbol) → long c d ≡ None → short c ≡ None → d ∷ r ≡ v ++ z → symbol_of (c ∷ v) ≡ Some s → ⊥
none_at_all c d r [] z s n m g e = cc
none_at_all c d r (x ∷ []) z s n m g e = let k : d ≡ x = head_is g in let f : long c x ≡ None = subst (λ y. long c y ≡ None) k n in cc
none_at_all c d r (x ∷ y ∷ v) z s n m g e = cc

feed_short : (c : ℕ) (v : List ℕ) → c ∷ v ≡ 10 ∷ [] → length v ≤ 0
feed_short c v e = let h : v ≡ [] = tail_is e in omega (arith, ap length h)

feed_not : (c : ℕ) (v : List ℕ) → (c == 10) ≡ false → c ∷ v ≡ 10 ∷ [] → ⊥
feed_not c v n e = let h : c ≡ 10 = head_is e in let f : (c == 10) ≡ true = ap (λ x. x == 10) h in cc

two_reads : (c d : ℕ) (r : List ℕ) (s : Symbol) → class c ≡ Other → long c d ≡ Some s → Reads (c ∷ d ∷ r) (c ∷ d ∷ []) (OfKind (ASymbol s)) r
two_reads c d r s l e = reads_by c (d ∷ []) r (OfKind (ASymbol s)) Other l (inr (s, e, refl))
    (λ v z y g h. elim h [ inl a ↦ (let k : length v ≤ 0 = feed_short c v a.0 in omega arith) | inr b ↦ two_at_most c v b.0 b.1 ])

one_reads : (c d : ℕ) (r : List ℕ) (s : Symbol) → class c ≡ Other → long c d ≡ None → short c ≡ Some s → Reads (c ∷ d ∷ r) (c ∷ []) (OfKind (ASymbol s)) (d ∷ r)
one_reads c d r s l n e = reads_by c [] (d ∷ r) (OfKind (ASymbol s)) Other l (inr (s, e, refl))
    (λ v z y g h. elim h [ inl a ↦ feed_short c v a.0 | inr b ↦ one_at_most c d r v z b.0 n g b.1 ])

sign_nothing : (c d : ℕ) (r : List ℕ) → class c ≡ Other → (c == 10) ≡ false → long c d ≡ None → short c ≡ None → ReadsNothing (c ∷ d ∷ r)
sign_nothing c d r l f n e = nothing_by c (d ∷ r) Other l
    (λ v z y g h. elim h [ inl a ↦ feed_not c v f a.0 | inr b ↦ none_at_all c d r v z b.0 n e g b.1 ])

one_cases : (c d : ℕ) (cs r t : List ℕ) → cs ++ 10 ∷ t ≡ d ∷ r → class c ≡ Other → (c == 10) ≡ false → long c d ≡ None → (b : Option Symbol) → short c ≡ b → Matches (c ∷ cs) t (one_sign b cs)
one_cases c d cs r t j l f n None e = (subst (λ x. ReadsNothing (c ∷ x)) (sym j) (sign_nothing c d r l f n e), other_fault c cs t l)
one_cases c d cs r t j l f n (Some s) e = (c ∷ [], refl, subst (λ x. Reads (c ∷ x) (c ∷ []) (OfKind (ASymbol s)) x) (sym j) (one_reads c d r s l n e))

two_cases : (c d : ℕ) (r t : List ℕ) → class c ≡ Other → (c == 10) ≡ false → (a : Option Symbol) → long c d ≡ a → Matches (c ∷ d ∷ r) t (two_signs a (short c) r (d ∷ r))
two_cases c d r t l f None e = one_cases c d (d ∷ r) (r ++ 10 ∷ t) t refl l f e (short c) refl
two_cases c d r t l f (Some s) e = (c ∷ d ∷ [], refl, two_reads c d (r ++ 10 ∷ t) s l e)

none_or : (b : Bool) (o : Option Symbol) → o ≡ None → cond b None o ≡ None
none_or true o e = refl
none_or false o e = e

long_feed : (c : ℕ) → long c 10 ≡ None
long_feed c = none_or (c == 58) _ (none_or (c == 126) _ (none_or (c == 60) _ (none_or (c == 62) _ (none_or (c == 42) None refl))))

pub symbol_matches : (c : ℕ) (cs t : List ℕ) → class c ≡ Other → (c == 10) ≡ false → Matches (c ∷ cs) t (symbol_at (c ∷ cs))
unfolding symbol_at
symbol_matches c [] t l f = one_cases c 10 [] t t refl l f (long_feed c) (short c) refl
symbol_matches c (d ∷ r) t l f = two_cases c d r t l f (long c d) refl
