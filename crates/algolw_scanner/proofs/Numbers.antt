-- Numbers.
use Rattle.std.proofs.Common.{◌≡◌, ◌==◌, ℕ, ◌+◌, ◌≤◌, ◌<◌, List, [], ◌∷◌, ◌++◌, length, Bool, true, false, cond, refl, sym, ◌∙◌, ap, subst, arith, append_assoc, take, drop, one-add, pos, nat_lt}
use Rattle.std.specs.List.{list_all, prefix_len}
use Rattle.std.specs.Char.{is_ascii_alphabetic, is_ascii_digit}
use Rattle.std.proofs.lemmas.List.{take-append-drop, append_cancel_left}
use Rattle.std.proofs.lemmas.Bool.Decides.{nat_tests}
use Rattle.algolw_tree.specs.declared.tokens.TokenKind.TheVariants.{Number}
use Rattle.algolw_scanner.proofs.Classes.{digit_test}
use Rattle.algolw_tree.specs.Chars.{class, Digit, begins, spoils, value_from}
use Rattle.algolw_scanner.specs.Front.{Found, Fault, number_of, number_at}
use Rattle.algolw_tree.specs.Tokens.{Piece, OfKind, Reads, ReadsNothing, IsNumber, fault, fault_of, past_digits}
use Rattle.algolw_scanner.specs.Matches.{Matches}
use Rattle.algolw_scanner.proofs.Runs.{run_all}
use Rattle.algolw_scanner.proofs.Fronts.{reads_by, nothing_by, run_one, run_ends, tail_is}

pub spoils_same : (r t : List ℕ) → spoils (r ++ 10 ∷ t) ≡ spoils r
spoils_same [] t = refl
spoils_same (c ∷ []) t = refl
spoils_same (c ∷ d ∷ r) t = refl

past_more : (x : ℕ) (xs t : List ℕ) → past_digits (xs ++ 10 ∷ t) ≡ drop (prefix_len is_ascii_digit xs) xs ++ 10 ∷ t → (b : Bool) → cond b (past_digits (xs ++ 10 ∷ t)) (x ∷ (xs ++ 10 ∷ t)) ≡ drop (cond b (1 + prefix_len is_ascii_digit xs) 0) (x ∷ xs) ++ 10 ∷ t
past_more x xs t h true = rw one-add h
past_more x xs t h false = refl

past_is : (xs t : List ℕ) → past_digits (xs ++ 10 ∷ t) ≡ drop (prefix_len is_ascii_digit xs) xs ++ 10 ∷ t
past_is [] t = refl
past_is (x ∷ xs) t = past_more x xs t (past_is xs t) (is_ascii_digit x)

past_here : (c : ℕ) (cs t : List ℕ) → is_ascii_digit c ≡ true → past_digits (c ∷ (cs ++ 10 ∷ t)) ≡ drop (prefix_len is_ascii_digit cs) cs ++ 10 ∷ t
past_here c cs t e = rw e (past_is cs t)

module _ (c : ℕ) (u w : List ℕ) (digit : class c ≡ Digit) (all : list_all is_ascii_digit (c ∷ u) ≡ true) (ends : begins is_ascii_digit w ≡ false) where
  same_number : (v z : List ℕ) (y : Piece) → u ++ w ≡ v ++ z → IsNumber (c ∷ v) z y → u ≡ v
  same_number v z y e n = tail_is (run_one is_ascii_digit (c ∷ u) w (c ∷ v) z (ap (λ s. c ∷ s) e) all ends n.run.all n.run.ends)

  same_after : (v z : List ℕ) (y : Piece) → u ++ w ≡ v ++ z → IsNumber (c ∷ v) z y → w ≡ z
  same_after v z y e n = append_cancel_left u w z (e ∙ ap (λ s. s ++ z) (sym (same_number v z y e n)))

  pub number_reads : spoils w ≡ false → value_from 0 (c ∷ u) ≤ 2147483647 → Reads (c ∷ (u ++ w)) (c ∷ u) (OfKind (Number (pos (value_from 0 (c ∷ u))))) w
  number_reads f g = reads_by c u w (OfKind (Number (pos (value_from 0 (c ∷ u))))) Digit digit (record { run = record { all = all; ends = ends }; clean = f; fits = g; is = refl }) (λ v z y e n. let h : u ≡ v = same_number v z y e n in omega (arith, ap length h))

  pub spoiled_nothing : spoils w ≡ true → ReadsNothing (c ∷ (u ++ w))
  spoiled_nothing f = nothing_by c (u ++ w) Digit digit (λ v z y e n. let h : w ≡ z = same_after v z y e n in let g : spoils w ≡ spoils z = ap spoils h in let k : spoils z ≡ false = n.clean in cc)

  pub large_nothing : 2147483647 < value_from 0 (c ∷ u) → ReadsNothing (c ∷ (u ++ w))
  large_nothing f = nothing_by c (u ++ w) Digit digit (λ v z y e n. let h : u ≡ v = same_number v z y e n in let g : value_from 0 (c ∷ u) ≡ value_from 0 (c ∷ v) = ap (λ s. value_from 0 (c ∷ s)) h in let k : value_from 0 (c ∷ v) ≤ 2147483647 = n.fits in omega arith)

number_split : (c : ℕ) (cs : List ℕ) → is_ascii_digit c ≡ true → number_at (c ∷ cs) ≡ number_of (value_from 0 (c ∷ take (prefix_len is_ascii_digit cs) cs)) (drop (prefix_len is_ascii_digit cs) cs)
unfolding number_at
number_split c cs e = rw (e, one-add) refl

joined : (u r cs t : List ℕ) → u ++ r ≡ cs → u ++ (r ++ 10 ∷ t) ≡ cs ++ 10 ∷ t
joined u r cs t e = sym (append_assoc u r (10 ∷ t)) ∙ ap (λ s. s ++ 10 ∷ t) e

number_fault : (c : ℕ) (cs t r : List ℕ) → class c ≡ Digit → past_digits (c ∷ (cs ++ 10 ∷ t)) ≡ r ++ 10 ∷ t → (b : Bool) → spoils r ≡ b → cond b 13 12 ≡ fault (c ∷ (cs ++ 10 ∷ t))
number_fault c cs t r l p b e =
    let f : spoils (past_digits (c ∷ (cs ++ 10 ∷ t))) ≡ b = ap spoils p ∙ spoils_same r t ∙ e in
    sym (ap (λ k. fault_of k (c ∷ (cs ++ 10 ∷ t))) l ∙ ap (λ x. cond x 13 12) f)

number_cases : (c : ℕ) (cs t u r : List ℕ) → class c ≡ Digit → u ++ r ≡ cs → list_all is_ascii_digit (c ∷ u) ≡ true → begins is_ascii_digit (r ++ 10 ∷ t) ≡ false → past_digits (c ∷ (cs ++ 10 ∷ t)) ≡ r ++ 10 ∷ t → (b : Bool) → spoils r ≡ b → (d : Bool) → nat_lt 2147483647 (value_from 0 (c ∷ u)) ≡ d → Matches (c ∷ cs) t (cond b (Fault 13) (cond d (Fault 12) (Found (Number (pos (value_from 0 (c ∷ u)))) r)))
number_cases c cs t u r l e a n p true f d g =
    (subst (λ s. ReadsNothing (c ∷ s)) (joined u r cs t e) (spoiled_nothing c u (r ++ 10 ∷ t) l a n (spoils_same r t ∙ f)), number_fault c cs t r l p true f)
number_cases c cs t u r l e a n p false f true g =
    let h : 2147483647 < value_from 0 (c ∷ u) = grind (arith, nat_tests) in
    (subst (λ s. ReadsNothing (c ∷ s)) (joined u r cs t e) (large_nothing c u (r ++ 10 ∷ t) l a n h), number_fault c cs t r l p false f)
number_cases c cs t u r l e a n p false f false g =
    let h : value_from 0 (c ∷ u) ≤ 2147483647 = grind (arith, nat_tests) in
    (c ∷ u, ap (λ s. c ∷ s) (sym e), subst (λ s. Reads (c ∷ s) (c ∷ u) (OfKind (Number (pos (value_from 0 (c ∷ u))))) (r ++ 10 ∷ t)) (joined u r cs t e) (number_reads c u (r ++ 10 ∷ t) l a n (spoils_same r t ∙ f) h))

pub number_matches : (c : ℕ) (cs t : List ℕ) → class c ≡ Digit → Matches (c ∷ cs) t (number_at (c ∷ cs))
number_matches c cs t l =
    let p : is_ascii_digit c ≡ true = digit_test (c == 32) (is_ascii_alphabetic c) (is_ascii_digit c) (c == 34) (c == 35) l in
    let u : List ℕ = take (prefix_len is_ascii_digit cs) cs in
    let r : List ℕ = drop (prefix_len is_ascii_digit cs) cs in
    subst (Matches (c ∷ cs) t) (sym (number_split c cs p))
    (number_cases c cs t u r l (take-append-drop (prefix_len is_ascii_digit cs) cs) (rw p (run_all is_ascii_digit cs)) (run_ends is_ascii_digit cs t refl) (past_here c cs t p) (spoils r) refl (nat_lt 2147483647 (value_from 0 (c ∷ u))) refl)
