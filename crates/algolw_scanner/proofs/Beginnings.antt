-- The words that begin with a letter stand together in the table.
use Rattle.std.proofs.Common.{◌≡◌, ℕ, List, refl, sym, subst, map, take, drop, []}
use Rattle.algolw_tree.specs.declared.tokens.Word.{Word}
use Rattle.algolw_tree.specs.declared.words.TheConstants.{WORDS}
use Rattle.algolw_tree.specs.Words.{word_of}
use Rattle.algolw_scanner.specs.Beginnings.{HasWords}

-- each word behind its spelling
abbrev spelled : List (List ℕ × Word)
spelled = map (λ e. (e.0.now, e.1)) WORDS

-- so many words from a place on
abbrev part : ℕ → ℕ → List (List ℕ × Word)
part from count = take count (drop from spelled)

pub whole : (first : ℕ) → HasWords first spelled
unfolding word_of
whole first rest = refl

pub begins_a : (first : ℕ) → first ≡ 65 → HasWords first (part 0 5)
unfolding word_of
begins_a first e = subst (λ f. HasWords f (part 0 5)) (sym e) (λ rest. refl)

pub begins_b : (first : ℕ) → first ≡ 66 → HasWords first (part 5 2)
unfolding word_of
begins_b first e = subst (λ f. HasWords f (part 5 2)) (sym e) (λ rest. refl)

pub begins_c : (first : ℕ) → first ≡ 67 → HasWords first (part 7 3)
unfolding word_of
begins_c first e = subst (λ f. HasWords f (part 7 3)) (sym e) (λ rest. refl)

pub begins_d : (first : ℕ) → first ≡ 68 → HasWords first (part 10 2)
unfolding word_of
begins_d first e = subst (λ f. HasWords f (part 10 2)) (sym e) (λ rest. refl)

pub begins_e : (first : ℕ) → first ≡ 69 → HasWords first (part 12 2)
unfolding word_of
begins_e first e = subst (λ f. HasWords f (part 12 2)) (sym e) (λ rest. refl)

pub begins_f : (first : ℕ) → first ≡ 70 → HasWords first (part 14 3)
unfolding word_of
begins_f first e = subst (λ f. HasWords f (part 14 3)) (sym e) (λ rest. refl)

pub begins_g : (first : ℕ) → first ≡ 71 → HasWords first (part 17 2)
unfolding word_of
begins_g first e = subst (λ f. HasWords f (part 17 2)) (sym e) (λ rest. refl)

pub begins_i : (first : ℕ) → first ≡ 73 → HasWords first (part 19 3)
unfolding word_of
begins_i first e = subst (λ f. HasWords f (part 19 3)) (sym e) (λ rest. refl)

pub begins_l : (first : ℕ) → first ≡ 76 → HasWords first (part 22 2)
unfolding word_of
begins_l first e = subst (λ f. HasWords f (part 22 2)) (sym e) (λ rest. refl)

pub begins_n : (first : ℕ) → first ≡ 78 → HasWords first (part 24 1)
unfolding word_of
begins_n first e = subst (λ f. HasWords f (part 24 1)) (sym e) (λ rest. refl)

pub begins_o : (first : ℕ) → first ≡ 79 → HasWords first (part 25 2)
unfolding word_of
begins_o first e = subst (λ f. HasWords f (part 25 2)) (sym e) (λ rest. refl)

pub begins_p : (first : ℕ) → first ≡ 80 → HasWords first (part 27 1)
unfolding word_of
begins_p first e = subst (λ f. HasWords f (part 27 1)) (sym e) (λ rest. refl)

pub begins_r : (first : ℕ) → first ≡ 82 → HasWords first (part 28 5)
unfolding word_of
begins_r first e = subst (λ f. HasWords f (part 28 5)) (sym e) (λ rest. refl)

pub begins_s : (first : ℕ) → first ≡ 83 → HasWords first (part 33 5)
unfolding word_of
begins_s first e = subst (λ f. HasWords f (part 33 5)) (sym e) (λ rest. refl)

pub begins_t : (first : ℕ) → first ≡ 84 → HasWords first (part 38 3)
unfolding word_of
begins_t first e = subst (λ f. HasWords f (part 38 3)) (sym e) (λ rest. refl)

pub begins_u : (first : ℕ) → first ≡ 85 → HasWords first (part 41 1)
unfolding word_of
begins_u first e = subst (λ f. HasWords f (part 41 1)) (sym e) (λ rest. refl)

pub begins_v : (first : ℕ) → first ≡ 86 → HasWords first (part 42 1)
unfolding word_of
begins_v first e = subst (λ f. HasWords f (part 42 1)) (sym e) (λ rest. refl)

pub begins_w : (first : ℕ) → first ≡ 87 → HasWords first (part 43 1)
unfolding word_of
begins_w first e = subst (λ f. HasWords f (part 43 1)) (sym e) (λ rest. refl)

pub begins_h : (first : ℕ) → first ≡ 72 → HasWords first []
unfolding word_of
begins_h first e = subst (λ f. HasWords f []) (sym e) (λ rest. refl)

pub begins_j : (first : ℕ) → first ≡ 74 → HasWords first []
unfolding word_of
begins_j first e = subst (λ f. HasWords f []) (sym e) (λ rest. refl)

pub begins_k : (first : ℕ) → first ≡ 75 → HasWords first []
unfolding word_of
begins_k first e = subst (λ f. HasWords f []) (sym e) (λ rest. refl)

pub begins_m : (first : ℕ) → first ≡ 77 → HasWords first []
unfolding word_of
begins_m first e = subst (λ f. HasWords f []) (sym e) (λ rest. refl)

pub begins_q : (first : ℕ) → first ≡ 81 → HasWords first []
unfolding word_of
begins_q first e = subst (λ f. HasWords f []) (sym e) (λ rest. refl)

pub begins_x : (first : ℕ) → first ≡ 88 → HasWords first []
unfolding word_of
begins_x first e = subst (λ f. HasWords f []) (sym e) (λ rest. refl)

pub begins_y : (first : ℕ) → first ≡ 89 → HasWords first []
unfolding word_of
begins_y first e = subst (λ f. HasWords f []) (sym e) (λ rest. refl)

pub begins_z : (first : ℕ) → first ≡ 90 → HasWords first []
unfolding word_of
begins_z first e = subst (λ f. HasWords f []) (sym e) (λ rest. refl)
