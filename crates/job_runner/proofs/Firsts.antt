-- The first statements on the cards of a deck, noted one after the other.
use Rattle.std.proofs.Common.{◌≡◌, ◌≢◌, ℕ, zero, suc, ◌+◌, ◌<◌, ◌≤◌, List, ◌∷◌, Bool, true, false, Option, Some, None, length, drop, replicate, refl, sym, ap, ◌∙◌, subst, arith}
use Rattle.std.specs.Prelude.{nat_eq, slice_get, IfSome}
use Rattle.std.proofs.lemmas.Bool.Decides.{nat_tests}
use Rattle.std.proofs.Math.Seq.{drop-cons}
use Rattle.std.proofs.lemmas.List.{get_or-set_same, get_or-set_other, drop_all, get_or_past, length-set}
use Rattle.std.proofs.lemmas.Option.{get_or_from_slice_get, slice_get_within}
use Rattle.value_ops.specs.declared.places.Place.{Place}
use Rattle.job_runner.specs.declared.source.First.{First}
use Rattle.job_runner.specs.Counted.{AreFew, HasCounts, IsCounted, IsWithinSteps, count_beside, first_on}
use Rattle.job_runner.specs.Noting.{noted, noted_on}
use Rattle.job_runner.proofs.Noted.{told, told_count, told_few, told_grows}

-- what is noted stands on the card of its place
noted_each : (p : Place) (n : ℕ) (firsts : List (Option First)) (card : ℕ) → card < length firsts
    → first_on (noted_on p n firsts) card ≡ elim (nat_eq p.card card) [ true ↦ noted (first_on firsts card) p n | false ↦ first_on firsts card ]
noted_each p n firsts card l = go (nat_eq p.card card) refl where
  go : (b : Bool) → nat_eq p.card card ≡ b → first_on (noted_on p n firsts) card ≡ elim b [ true ↦ noted (first_on firsts card) p n | false ↦ first_on firsts card ]
  go true h =
      let same : p.card ≡ card = grind (arith, nat_tests) in
      ap (λ k. first_on (noted_on p n firsts) k) (sym same)
      ∙ get_or-set_same firsts p.card (noted (first_on firsts p.card) p n) None (subst (λ k. k < length firsts) (sym same) l)
      ∙ ap (λ k. noted (first_on firsts k) p n) same
  go false h =
      let other : card ≢ p.card = grind (arith, nat_tests) in
      get_or-set_other firsts p.card card (noted (first_on firsts p.card) p n) None other

-- no card is added
pub noted_length : (p : Place) (n : ℕ) (firsts later : List (Option First)) → later ≡ noted_on p n firsts → length later ≡ length firsts
noted_length p n firsts later e = ap length e ∙ length-set firsts p.card (noted (first_on firsts p.card) p n)

-- what is left, from an element on
pub next_of : {A : Type 0} (xs : List A) (m : ℕ) (x : A) → slice_get xs m ≡ Some x → drop m xs ≡ x ∷ drop (m + 1) xs
next_of {A} xs m x e =
    let next : suc m ≡ m + 1 = omega arith in
    drop-cons xs m x (slice_get_within xs m x e) ∙ ap (λ (y : A). y ∷ drop (suc m) xs) (get_or_from_slice_get xs m x x e) ∙ ap (λ n. x ∷ drop n xs) next

-- each card has the first of the statements so far, so that with those that are left it has the first of all
abbrev pub AreTold : (statements : List Place) (counts : List ℕ) (m : ℕ) → List (Option First) → Type 0
AreTold statements counts m firsts = (card : ℕ) → card < length firsts → told card (first_on firsts card) (drop m statements) (drop m counts) ≡ told card None statements counts

none_on : (n card : ℕ) → first_on (replicate n None) card ≡ None
none_on zero card = refl
none_on (suc n) zero = refl
none_on (suc n) (suc card) = none_on n card

pub none_told : (statements : List Place) (counts : List ℕ) (n : ℕ) (firsts : List (Option First)) → firsts ≡ replicate n None → AreTold statements counts 0 firsts
none_told statements counts n firsts e card l = ap (λ f. told card f statements counts) (ap (λ fs. first_on fs card) e ∙ none_on n card)

module _ (statements : List Place) (counts : List ℕ) (begun : List Place) (c : IsCounted statements counts begun) (few : IsWithinSteps begun) where
  -- a statement more
  pub one_told : (m : ℕ) (p : Place) (n : ℕ) (firsts later : List (Option First)) → slice_get statements m ≡ Some p → slice_get counts m ≡ Some n → later ≡ noted_on p n firsts → AreTold statements counts m firsts → AreTold statements counts (m + 1) later
  one_told m p n firsts later e d q h card l =
      let there : card < length firsts = subst (λ k. card < k) (noted_length p n firsts later q) l in
      ap (λ f. told card f (drop (m + 1) statements) (drop (m + 1) counts)) (ap (λ fs. first_on fs card) q ∙ noted_each p n firsts card there)
      ∙ sym (ap (λ ss. told card (first_on firsts card) ss (drop m counts)) (next_of statements m p e) ∙ ap (λ ns. told card (first_on firsts card) (p ∷ drop (m + 1) statements) ns) (next_of counts m n d))
      ∙ h card there

  -- no count is more than the steps
  pub few_told : (m : ℕ) (firsts : List (Option First)) → AreTold statements counts m firsts → AreFew firsts
  few_told m firsts h card = go (first_on firsts card) refl where
    within : (f : First) → first_on firsts card ≡ Some f → card < length firsts
    within f e = grind (arith, get_or_past, e)

    go : (o : Option First) → first_on firsts card ≡ o → IfSome o (λ first. first.count ≤ 10000000)
    go None e = tt
    go (Some f) e =
        told_grows card f (drop m statements) (drop m counts) 10000000
        (subst (λ o. IfSome o (λ (first : First). first.count ≤ 10000000)) (sym (h card (within f e)) ∙ ap (λ f. told card f (drop m statements) (drop m counts)) e) (told_few statements counts begun c card 10000000 few))

  -- where none is left, each card has its count
  pub all_told : (m cards : ℕ) (firsts : List (Option First)) → m ≡ length statements → length firsts ≡ cards + 1 → AreTold statements counts m firsts → HasCounts statements begun cards firsts
  all_told m cards firsts e every h = record {
    every = every;
    counts = λ k l.
        (let there : k + 1 < length firsts = omega (arith, every, l) in
        ap count_beside (sym (ap (λ ss. told (k + 1) (first_on firsts (k + 1)) ss (drop m counts)) (drop_all m statements (omega (arith, e)))) ∙ h (k + 1) there)
        ∙ told_count statements counts begun c (k + 1) (omega arith));
  }
