-- Names, words, and the word COMMENT.
use Rattle.std.proofs.Common.{◌≡◌, ◌==◌, ℕ, ◌≤◌, List, [], ◌∷◌, ◌++◌, length, Bool, true, false, cond, refl, sym, ◌∙◌, ap, subst, arith, append_assoc, ◌||◌, take, drop, one-add, ◌⊎◌, inl, inr}
use Rattle.std.specs.List.{list_all, prefix_len}
use Rattle.std.specs.Char.{is_ascii_alphabetic, is_ascii_digit}
use Rattle.std.specs.Int.{is_in_range}
use Rattle.std.proofs.lemmas.List.{take-append-drop}
use Rattle.algolw_tree.specs.Words.{name_kind, opens_comment}
use Rattle.algolw_scanner.proofs.Classes.{letter_test}
use Rattle.algolw_tree.specs.Chars.{class, Letter, begins, name_char}
use Rattle.algolw_scanner.specs.Front.{Found, Open, name_of, name_at}
use Rattle.algolw_tree.specs.Tokens.{Piece, OfKind, Reads, IsName, IsComment}
use Rattle.algolw_scanner.specs.Matches.{Matches}
use Rattle.algolw_scanner.proofs.Runs.{run_all}
use Rattle.algolw_scanner.proofs.Fronts.{reads_by, run_one, run_ends, tail_is}

name_test : (d u l x : Bool) → (u || l) ≡ true → (((d || u) || l) || x) ≡ true
name_test true u l x e = refl
name_test false true l x e = refl
name_test false false true x e = refl
name_test false false false x e = cc

pub letter_in_name : (c : ℕ) → class c ≡ Letter → name_char c ≡ true
letter_in_name c e = name_test (is_in_range 48 57 c) (is_in_range 65 90 c) (is_in_range 97 122 c) (c == 95) (letter_test (c == 32) (is_ascii_alphabetic c) (is_ascii_digit c) (c == 34) (c == 35) e)

begins_more : (p : ℕ → Bool) (b z : List ℕ) (x : ℕ) → begins p (b ++ x ∷ []) ≡ false → begins p ((b ++ x ∷ []) ++ z) ≡ false
begins_more p [] z x e = e
begins_more p (y ∷ b) z x e = e

module _ (c : ℕ) (u w : List ℕ) (letter : class c ≡ Letter) (all : list_all name_char (c ∷ u) ≡ true) (ends : begins name_char w ≡ false) where
  -- what else stands at the front is the same run, or a comment that it opens
  pub same_name : (v z : List ℕ) (y : Piece) → u ++ w ≡ v ++ z → IsName (c ∷ v) z y → c ∷ u ≡ c ∷ v
  same_name v z y e n = run_one name_char (c ∷ u) w (c ∷ v) z (ap (λ s. c ∷ s) e) all ends n.run.all n.run.ends

  pub same_comment : (v z : List ℕ) (y : Piece) → u ++ w ≡ v ++ z → (r : IsComment (c ∷ v) y) → c ∷ u ≡ r.word
  same_comment v z y e r =
      run_one name_char (c ∷ u) w r.word ((r.words ++ 59 ∷ []) ++ z) (ap (λ s. c ∷ s) e ∙ ap (λ s. s ++ z) r.cut ∙ append_assoc r.word (r.words ++ 59 ∷ []) z) all ends r.run.all (begins_more name_char r.words z 59 r.run.ends)

  no_longer : opens_comment (c ∷ u) ≡ false → (v z : List ℕ) (y : Piece) → u ++ w ≡ v ++ z → IsName (c ∷ v) z y ⊎ IsComment (c ∷ v) y → length v ≤ length u
  no_longer f v z y e (inl n) = let h : u ≡ v = tail_is (same_name v z y e n) in omega (arith, ap length h)
  no_longer f v z y e (inr r) = let h : c ∷ u ≡ r.word = same_comment v z y e r in let g : opens_comment r.word ≡ false = subst (λ s. opens_comment s ≡ false) h f in let k : opens_comment r.word ≡ true = r.comment in absurd (cc)

  pub name_reads : opens_comment (c ∷ u) ≡ false → Reads (c ∷ (u ++ w)) (c ∷ u) (OfKind (name_kind (c ∷ u))) w
  name_reads f = reads_by c u w (OfKind (name_kind (c ∷ u))) Letter letter (inl (record { run = record { all = all; ends = ends }; no_comment = f; is = refl })) (no_longer f)

name_split : (c : ℕ) (cs : List ℕ) → name_char c ≡ true → name_at (c ∷ cs) ≡ name_of (c ∷ take (prefix_len name_char cs) cs) (drop (prefix_len name_char cs) cs)
unfolding name_at
name_split c cs e = rw (e, one-add) refl

name_cases : (c : ℕ) (cs t u r : List ℕ) → class c ≡ Letter → u ++ r ≡ cs → list_all name_char (c ∷ u) ≡ true → begins name_char (r ++ 10 ∷ t) ≡ false → (b : Bool) → opens_comment (c ∷ u) ≡ b → Matches (c ∷ cs) t (cond b (Open r) (Found (name_kind (c ∷ u)) r))
name_cases c cs t u r l e a n true f = record {
  first = c;
  more = u;
  letter = l;
  cut = ap (λ s. c ∷ s) (sym e);
  run = record { all = a; ends = n };
  comment = f;
}
name_cases c cs t u r l e a n false f =
    (c ∷ u, ap (λ s. c ∷ s) (sym e), subst (λ s. Reads (c ∷ s) (c ∷ u) (OfKind (name_kind (c ∷ u))) (r ++ 10 ∷ t)) (sym (append_assoc u r (10 ∷ t)) ∙ ap (λ s. s ++ 10 ∷ t) e) (name_reads c u (r ++ 10 ∷ t) l a n f))

pub name_matches : (c : ℕ) (cs t : List ℕ) → class c ≡ Letter → Matches (c ∷ cs) t (name_at (c ∷ cs))
name_matches c cs t l =
    let p : name_char c ≡ true = letter_in_name c l in
    subst (Matches (c ∷ cs) t) (sym (name_split c cs p))
    (name_cases c cs t (take (prefix_len name_char cs) cs) (drop (prefix_len name_char cs) cs) l (take-append-drop (prefix_len name_char cs) cs) (rw p (run_all name_char cs)) (run_ends name_char cs t refl) (opens_comment (c ∷ take (prefix_len name_char cs) cs)) refl)
