-- Classes in sets, and equal sets.
use Rattle.std.proofs.Common.{◌≡◌, ℕ, ◌==◌, Bool, true, false, ◌||◌, List, [], ◌∷◌, ◌++◌, refl, sym, ap, ◌∙◌, inl, inr}
use Rattle.std.proofs.lemmas.Bool.{eqb-true, eq-eqb, and_parts, and_from, or_cases, or_left, or_right}
use Rattle.value_ops.specs.declared.values.ClassId.{ClassId}
use Rattle.record_classes.specs.Classes.{has, is_within, is_same_set}

-- two tests that hold at once are one
both_ways : (a b : Bool) → (a ≡ true → b ≡ true) → (b ≡ true → a ≡ true) → a ≡ b
both_ways true b f g = sym (f refl)
both_ways false true f g = g refl
both_ways false false f g = refl

-- classes of one number are one class
pub same_class : (c d : ClassId) → (c.0 == d.0) ≡ true → c ≡ d
same_class c d h = ap {B = ClassId} (λ (n : ℕ). record { 0 = n }) (eqb-true c.0 d.0 h)

pub has-push : (set : List ClassId) (d c : ClassId) → has (set ++ d ∷ []) c ≡ (has set c || d.0 == c.0)
has-push [] d c = or_none (d.0 == c.0)
  where
    or_none : (b : Bool) → (b || false) ≡ b
    or_none true = refl
    or_none false = refl
has-push (e ∷ set) d c = ap (λ (b : Bool). e.0 == c.0 || b) (has-push set d c) ∙ or_or (e.0 == c.0) (has set c) (d.0 == c.0)
  where
    or_or : (a b c : Bool) → (a || (b || c)) ≡ ((a || b) || c)
    or_or true b c = refl
    or_or false b c = refl

pub from_within : (a b : List ClassId) (c : ClassId) → is_within a b ≡ true → has a c ≡ true → has b c ≡ true
from_within [] b c within h = cc
from_within (d ∷ a) b c within h =
    let parts = and_parts (has b d) (is_within a b) within in
    elim (or_cases (d.0 == c.0) (has a c) h) [
      | inl here ↦ ap (has b) (sym (same_class d c here)) ∙ parts.0
      | inr there ↦ from_within a b c parts.1 there
    ]

pub within_from : (a b : List ClassId) → ((c : ClassId) → has a c ≡ true → has b c ≡ true) → is_within a b ≡ true
within_from [] b f = refl
within_from (d ∷ a) b f =
    and_from (has b d) (is_within a b)
    (f d (or_left (d.0 == d.0) (has a d) (eq-eqb d.0 d.0 refl)))
    (within_from a b (λ c h. f c (or_right (d.0 == c.0) (has a c) h)))

-- equal sets have the same classes
pub has_same : (a b : List ClassId) (c : ClassId) → is_same_set a b ≡ true → has a c ≡ has b c
has_same a b c h =
    let parts = and_parts (is_within a b) (is_within b a) h in
    both_ways (has a c) (has b c) (from_within a b c parts.0) (from_within b a c parts.1)

-- sets with the same classes are equal
pub same_from_has : (a b : List ClassId) → ((c : ClassId) → has a c ≡ has b c) → is_same_set a b ≡ true
same_from_has a b f =
    and_from (is_within a b) (is_within b a)
    (within_from a b (λ c h. sym (f c) ∙ h))
    (within_from b a (λ c h. f c ∙ h))

pub same-refl : (a : List ClassId) → is_same_set a a ≡ true
same-refl a = same_from_has a a (λ c. refl)

pub same-sym : (a b : List ClassId) → is_same_set a b ≡ true → is_same_set b a ≡ true
same-sym a b h = same_from_has b a (λ c. sym (has_same a b c h))

pub same-trans : (a b c : List ClassId) → is_same_set a b ≡ true → is_same_set b c ≡ true → is_same_set a c ≡ true
same-trans a b c h k = same_from_has a c (λ d. has_same a b d h ∙ has_same b c d k)

-- a set is equal to both of two equal sets, or to none
pub same-congr : (s a b : List ClassId) → is_same_set a b ≡ true → is_same_set s a ≡ is_same_set s b
same-congr s a b h =
    both_ways (is_same_set s a) (is_same_set s b)
    (λ k. same-trans s a b k h)
    (λ k. same-trans s b a k (same-sym a b h))
