-- Bits.
use Rattle.std.proofs.Common.{◌≡◌, ◌==◌, ℕ, List, ◌∷◌, ◌++◌, length, Bool, true, false, cond, refl, sym, ◌∙◌, ap, subst, arith, append_assoc, take, drop}
use Rattle.std.specs.List.{list_all, prefix_len}
use Rattle.std.specs.Char.{is_ascii_alphabetic, is_ascii_digit, is_ascii_alphanumeric}
use Rattle.std.proofs.lemmas.List.{take-append-drop}
use Rattle.std.proofs.lemmas.Bool.Decides.{nat_tests}
use Rattle.algolw_tree.specs.declared.tokens.TokenKind.TheVariants.{BitsLit}
use Rattle.algolw_tree.specs.Chars.{class, Sharp, begins, hex_from, are_bits}
use Rattle.algolw_scanner.specs.Front.{Found, Fault, bits_at}
use Rattle.algolw_tree.specs.Tokens.{Piece, OfKind, Reads, ReadsNothing, IsBits}
use Rattle.algolw_scanner.specs.Matches.{Matches}
use Rattle.algolw_scanner.proofs.Classes.{sharp_test}
use Rattle.algolw_scanner.proofs.Runs.{run_all}
use Rattle.algolw_scanner.proofs.Fronts.{reads_by, nothing_by, run_one, run_ends, tail_is}

module _ (u w : List ℕ) (all : list_all is_ascii_alphanumeric u ≡ true) (ends : begins is_ascii_alphanumeric w ≡ false) where
  same_bits : (v z : List ℕ) (y : Piece) → u ++ w ≡ v ++ z → IsBits (35 ∷ v) z y → u ≡ v
  same_bits v z y e n =
      let f : v ≡ n.digits = tail_is n.cut in
      run_one is_ascii_alphanumeric u w v z e all ends (subst (λ s. list_all is_ascii_alphanumeric s ≡ true) (sym f) n.run.all) n.run.ends

  pub bits_reads : are_bits u ≡ true → Reads (35 ∷ (u ++ w)) (35 ∷ u) (OfKind (BitsLit (hex_from 0 u))) w
  bits_reads f = reads_by 35 u w (OfKind (BitsLit (hex_from 0 u))) Sharp refl (record { digits = u; cut = refl; run = record { all = all; ends = ends }; hex = f; is = refl })
      (λ v z y e n. let h : u ≡ v = same_bits v z y e n in omega (arith, ap length h))

  pub bits_nothing : are_bits u ≡ false → ReadsNothing (35 ∷ (u ++ w))
  bits_nothing f = nothing_by 35 (u ++ w) Sharp refl
      (λ v z y e n. let h : u ≡ n.digits = same_bits v z y e n ∙ tail_is n.cut in let g : are_bits u ≡ are_bits n.digits = ap are_bits h in let k : are_bits n.digits ≡ true = n.hex in cc)

joined : (u r cs t : List ℕ) → u ++ r ≡ cs → u ++ (r ++ 10 ∷ t) ≡ cs ++ 10 ∷ t
joined u r cs t e = sym (append_assoc u r (10 ∷ t)) ∙ ap (λ s. s ++ 10 ∷ t) e

bits_cases : (cs t u r : List ℕ) → u ++ r ≡ cs → list_all is_ascii_alphanumeric u ≡ true → begins is_ascii_alphanumeric (r ++ 10 ∷ t) ≡ false → (b : Bool) → are_bits u ≡ b → Matches (35 ∷ cs) t (cond b (Found (BitsLit (hex_from 0 u)) r) (Fault 14))
bits_cases cs t u r e a n true f = (35 ∷ u, ap (λ s. 35 ∷ s) (sym e), subst (λ s. Reads (35 ∷ s) (35 ∷ u) (OfKind (BitsLit (hex_from 0 u))) (r ++ 10 ∷ t)) (joined u r cs t e) (bits_reads u (r ++ 10 ∷ t) a n f))
bits_cases cs t u r e a n false f = (subst (λ s. ReadsNothing (35 ∷ s)) (joined u r cs t e) (bits_nothing u (r ++ 10 ∷ t) a n f), refl)

bits_here : (cs t : List ℕ) → Matches (35 ∷ cs) t (bits_at (35 ∷ cs))
unfolding bits_at
bits_here cs t =
    let u : List ℕ = take (prefix_len is_ascii_alphanumeric cs) cs in
    bits_cases cs t u (drop (prefix_len is_ascii_alphanumeric cs) cs) (take-append-drop (prefix_len is_ascii_alphanumeric cs) cs) (run_all is_ascii_alphanumeric cs) (run_ends is_ascii_alphanumeric cs t refl) (are_bits u) refl

pub bits_matches : (c : ℕ) (cs t : List ℕ) → class c ≡ Sharp → Matches (c ∷ cs) t (bits_at (c ∷ cs))
bits_matches c cs t l =
    let q : (c == 35) ≡ true = sharp_test (c == 32) (is_ascii_alphabetic c) (is_ascii_digit c) (c == 34) (c == 35) l in
    let f : c ≡ 35 = grind (arith, nat_tests) in
    subst (λ x. Matches (x ∷ cs) t (bits_at (x ∷ cs))) (sym f) (bits_here cs t)
