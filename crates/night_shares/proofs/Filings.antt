-- What is filed, text after text.
use Rattle.std.proofs.Common.{◌≡◌, ℕ, suc, zero, ◌+◌, ◌-◌, ◌<◌, ◌≤◌, List, [], ◌∷◌, ◌++◌, length, Option, Some, None, refl, sym, ap, subst, ◌∙◌, append_assoc, append-nil, add-one, arith}
use Rattle.std.specs.List.{flat_map, range_with_len}
use Rattle.std.proofs.lemmas.Grind.{flat_map-append}
use Rattle.night_shares.specs.declared.shelf.NightFile.{NightFile}
use Rattle.night_shares.specs.Filing.{Files, Filing, filed_unless_empty}
use Rattle.night_shares.specs.Held.{FilesFirst}

pub files_none : (now : Option (List Filing)) → Files now now []
files_none None = tt
files_none (Some filed) = sym (append-nil filed)

pub files_more : (before then now : Option (List Filing)) (some more : List Filing) → Files before then some → Files then now more → Files before now (some ++ more)
files_more None then now some more h k = tt
files_more (Some a) None now some more h k = absurd h
files_more (Some a) (Some b) None some more h k = absurd k
files_more (Some a) (Some b) (Some c) some more h k = k ∙ ap (λ (fs : List Filing). fs ++ more) h ∙ append_assoc a some more

-- what is filed first, behind what was
pub first_more : (before then now : Option (List Filing)) (done all rest : List Filing) → Files before then done → FilesFirst then now all → FilesFirst before now (done ++ (all ++ rest))
first_more before then now done all rest h k = record {
  done = done ++ k.done;
  rest = k.rest ++ rest;
  whole = ap (λ (fs : List Filing). done ++ (fs ++ rest)) k.whole ∙ simp append_assoc;
  filed = files_more before then now done k.done h k.filed;
}

pub first_none : (before now : Option (List Filing)) (done rest : List Filing) → Files before now done → FilesFirst before now (done ++ rest)
first_none before now done rest h = record { done = done; rest = rest; whole = refl; filed = h }

range_push : (a n : ℕ) → range_with_len a (suc n) ≡ range_with_len a n ++ (a + n) ∷ []
range_push a zero = let same : a ≡ a + 0 = omega arith in ap (λ (k : ℕ). k ∷ []) same
range_push a (suc n) =
    let same : a + 1 + n ≡ a + suc n = omega arith in
    ap (λ (ks : List ℕ). a ∷ ks) (range_push (a + 1) n ∙ ap (λ (k : ℕ). range_with_len (a + 1) n ++ k ∷ []) same)

nil_behind : {X : Type 0} (xs : List X) → xs ++ [] ≡ xs
nil_behind [] = refl
nil_behind (x ∷ xs) = ap (λ (ys : List _). x ∷ ys) (nil_behind xs)

-- what each of the first numbers gives, and one more
pub one_more : (f : ℕ → List Filing) (n : ℕ) → flat_map f (range_with_len 0 (n + 1)) ≡ flat_map f (range_with_len 0 n) ++ f n
one_more f n =
    let plain : 0 + n ≡ n = omega arith in
    ap (λ (k : ℕ). flat_map f (range_with_len 0 k)) (add-one n)
    ∙ ap (flat_map f) (range_push 0 n ∙ ap (λ (k : ℕ). range_with_len 0 n ++ k ∷ []) plain)
    ∙ flat_map-append f (range_with_len 0 n) (n ∷ [])
    ∙ ap (λ (fs : List Filing). flat_map f (range_with_len 0 n) ++ fs) (nil_behind (f n))

prefix : (f : ℕ → List Filing) (n k : ℕ) → (rest : List Filing) × (flat_map f (range_with_len 0 (n + k)) ≡ flat_map f (range_with_len 0 n) ++ rest)
prefix f n zero = let same : n + 0 ≡ n = omega arith in ([], ap (λ (m : ℕ). flat_map f (range_with_len 0 m)) same ∙ sym (append-nil (flat_map f (range_with_len 0 n))))
prefix f n (suc k) =
    let before = prefix f n k in
    let same : n + suc k ≡ n + k + 1 = omega arith in (
      before.0 ++ f (n + k),
      ap (λ (m : ℕ). flat_map f (range_with_len 0 m)) same
          ∙ one_more f (n + k) ∙ ap (λ (fs : List Filing). fs ++ f (n + k)) before.1 ∙ append_assoc (flat_map f (range_with_len 0 n)) before.0 (f (n + k)),
    )

-- what the first numbers give comes first in what all give
pub first_numbers : (f : ℕ → List Filing) (some all : ℕ) (more : List Filing) (before now : Option (List Filing)) → some ≤ all → Files before now (flat_map f (range_with_len 0 some))
    → FilesFirst before now (flat_map f (range_with_len 0 all) ++ more)
first_numbers f some all more before now few filed =
    let there = prefix f some (all - some) in
    let same : all ≡ some + (all - some) = omega (arith, few) in
    record {
      done = flat_map f (range_with_len 0 some);
      rest = there.0 ++ more;
      whole = ap (λ (m : ℕ). flat_map f (range_with_len 0 m) ++ more) same ∙ ap (λ (fs : List Filing). fs ++ more) there.1 ∙ append_assoc (flat_map f (range_with_len 0 some)) there.0 more;
      filed = filed;
    }

-- where nothing was filed since
pub files_still : (before then now : Option (List Filing)) (some : List Filing) → Files before then some → Files then now [] → Files before now some
files_still before then now some h k = subst (Files before now) (append-nil some) (files_more before then now some [] h k)

-- one number more
pub files_number : (f : ℕ → List Filing) (n : ℕ) (before then now : Option (List Filing)) (filing : List Filing) → Files before then (flat_map f (range_with_len 0 n)) → Files then now filing → filing ≡ f n
    → Files before now (flat_map f (range_with_len 0 (n + 1)))
files_number f n before then now filing h k is =
    subst (Files before now) (ap (λ (fs : List Filing). flat_map f (range_with_len 0 n) ++ fs) is ∙ sym (one_more f n)) (files_more before then now (flat_map f (range_with_len 0 n)) filing h k)

pub number_without : (f : ℕ → List Filing) (n : ℕ) (before now : Option (List Filing)) → Files before now (flat_map f (range_with_len 0 n)) → f n ≡ [] → Files before now (flat_map f (range_with_len 0 (n + 1)))
number_without f n before now h is = files_number f n before now now [] h (files_none now) (sym is)

-- a text that is filed, unless it is empty
pub filed_some : (file : NightFile) (text : List ℕ) → 0 < length text → record { file = file; text = text } ∷ [] ≡ filed_unless_empty file text
filed_some file [] some = absurd (omega arith)
filed_some file (b ∷ text) some = refl

pub no_text : (text : List ℕ) → length text ≡ 0 → text ≡ []
no_text [] none = refl
no_text (b ∷ text) none = absurd (omega arith)

pub some_text : (text : List ℕ) → (length text ≡ 0 → ⊥) → 0 < length text
some_text [] some = absurd (some refl)
some_text (b ∷ text) some = omega arith
