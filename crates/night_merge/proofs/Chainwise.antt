-- What a window leaves the accounts, chain by chain.
use Rattle.std.proofs.Common.{◌≡◌, ℕ, zero, suc, ◌+◌, ◌%◌, ◌<◌, ◌≤◌, ◌⊎◌, inl, inr, List, length, get_or, refl, sym, ap, ◌∙◌, arith}
use Rattle.std.proofs.lemmas.Bool.{cases_lt}
use Rattle.std.proofs.Math.Nat.{mod-lt}
use Rattle.night_merge.specs.Closing.{HasLeft, HasOwn, Settles}

-- the accounts of the chains below this one are settled, and the others aren't
pub record UpTo (chains chain : ℕ) (before after : ℕ → ℕ) (left : List ℕ) : Type 0 where
  pub settled : (k : ℕ) → k < length left → k % chains < chain → get_or left k 0 ≡ after k
  pub kept : (k : ℕ) → k < length left → chain ≤ k % chains → get_or left k 0 ≡ before k

pub up_to_begins : (chains : ℕ) (before after : ℕ → ℕ) (left : List ℕ) → HasLeft left before → UpTo chains 0 before after left
up_to_begins chains before after left has = record { settled = λ k within none. absurd (omega (arith, none)); kept = λ k within some. has k within }

pub up_to_own : (chains chain : ℕ) (before after : ℕ → ℕ) (left : List ℕ) → UpTo chains chain before after left → HasOwn chains chain left before
up_to_own chains chain before after left u = λ k within own. u.kept k within (omega (arith, own))

-- one chain more, where the window has so many jobs of it
more_by : (chains chain count : ℕ) (before after : ℕ → ℕ) (left grown : List ℕ) → ((count ≡ 0) ⊎ (0 < count)) → length grown ≡ length left → UpTo chains chain before after left
    → Settles chains chain count after left grown → ((k : ℕ) → k < length left → k % chains ≡ chain → count ≡ 0 → after k ≡ before k)
    → (k : ℕ) → k < length left → ((k % chains ≡ chain → get_or grown k 0 ≡ after k) × ((k % chains ≡ chain → ⊥) → get_or grown k 0 ≡ get_or left k 0))
more_by chains chain count before after left grown (inl none) long u s stays k within = (
  (λ own. ap (λ (l : List ℕ). get_or l k 0) (s.none none) ∙ u.kept k within (omega (arith, own)) ∙ sym (stays k within own none)),
  (λ other. ap (λ (l : List ℕ). get_or l k 0) (s.none none)),
)
more_by chains chain count before after left grown (inr some) long u s stays k within = ((λ own. (s.some some).own k within own), (λ other. (s.some some).others k other))

none_or_some : (n : ℕ) → (n ≡ 0) ⊎ (0 < n)
none_or_some zero = inl refl
none_or_some (suc n) = inr (omega arith)

pub up_to_more : (chains chain count : ℕ) (before after : ℕ → ℕ) (left grown : List ℕ) → length grown ≡ length left → UpTo chains chain before after left
    → Settles chains chain count after left grown → ((k : ℕ) → k < length left → k % chains ≡ chain → count ≡ 0 → after k ≡ before k) → UpTo chains (chain + 1) before after grown
up_to_more chains chain count before after left grown long u s stays = record {
  settled = λ k within below.
      let here = more_by chains chain count before after left grown (none_or_some count) long u s stays k (omega arith) in
      elim (cases_lt (k % chains) chain) [
        | inl less ↦ here.1 (λ own. omega (arith, own, less)) ∙ u.settled k (omega arith) less
        | inr from ↦ here.0 (omega (arith, from, below))
      ];
  kept = λ k within above.
      let here = more_by chains chain count before after left grown (none_or_some count) long u s stays k (omega arith) in
      here.1 (λ own. omega (arith, own, above)) ∙ u.kept k (omega arith) (omega (arith, above));
}

-- all chains are settled
pub up_to_ends : (chains : ℕ) (before after : ℕ → ℕ) (left : List ℕ) → 0 < chains → UpTo chains chains before after left → HasLeft left after
up_to_ends chains before after left some u = λ k within. u.settled k within (mod-lt k some)
