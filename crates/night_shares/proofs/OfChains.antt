-- The accounts of a chain: in order, and at most 500 where there are enough chains.
use Rattle.std.proofs.Common.{◌≡◌, ◌≢◌, ℕ, suc, ◌+◌, ◌-◌, ◌*◌, ◌%◌, ◌<◌, ◌≤◌, ◌==◌, ◌&&◌, Bool, true, false, cond, List, [], ◌∷◌, length, map, inl, inr, refl, ap, ◌∙◌, arith}
use Rattle.std.specs.Prelude.{◌⊎◌}
use Rattle.std.specs.List.{AllByRecursion, list_all}
use Rattle.std.specs.List.Sorted.{IsStrictlySortedBy}
use Rattle.std.specs.declared.cmp.Ordering.TheVariants.{Less}
use Rattle.std.proofs.Math.Nat.{lt_of_mul-lt-mul_left, mul-suc, suc-mul}
use Rattle.std.proofs.lemmas.Nat.{mod-mul-add}
use Rattle.std.proofs.lemmas.Bool.Decides.{nat_tests}
use Rattle.short_text.specs.Order.{bytes_cmp}
use Rattle.deck_reader.specs.declared.batch.Account.{Account}
use Rattle.accounts_text.specs.Text.{AreAccounts, is_account}
use Rattle.night_shares.specs.Accounts.{AreNightAccounts}
use Rattle.night_shares.specs.Chains.{accounts_from, accounts_of_chain}
use Rattle.night_shares.specs.Plan.{chain_of}

both_of : (a b : Bool) → (a && b) ≡ true → (a ≡ true) × (b ≡ true)
both_of true true h = (refl, refl)
both_of true false h = cc
both_of false b h = cc

and_true : (a b : Bool) → a ≡ true → b ≡ true → (a && b) ≡ true
and_true true b h k = k
and_true false b h k = cc

each_by : (v : Bool) (a : Account) (xs : List Account) → is_account a ≡ true → list_all is_account xs ≡ true → list_all is_account (cond v (a ∷ xs) xs) ≡ true
each_by true a xs h k = and_true _ _ h k
each_by false a xs h k = k

each_of : (chains chain n : ℕ) (accounts : List Account) → list_all is_account accounts ≡ true → list_all is_account (accounts_from chains chain n accounts) ≡ true
each_of chains chain n [] h = refl
each_of chains chain n (a ∷ accounts) h =
    let both = both_of _ _ h in
    each_by (chain_of chains n == chain) a (accounts_from chains chain (n + 1) accounts) both.0 (each_of chains chain (n + 1) accounts both.1)

abbrev Above : List ℕ → List Account → Type 0
Above name accounts = AllByRecursion (λ y. bytes_cmp name y ≡ Less) (map (λ a. a.name) accounts)

above_by : (v : Bool) (name : List ℕ) (a : Account) (xs : List Account) → bytes_cmp name a.name ≡ Less → Above name xs → Above name (cond v (a ∷ xs) xs)
above_by true name a xs h k = (h, k)
above_by false name a xs h k = k

above_of : (chains chain n : ℕ) (name : List ℕ) (accounts : List Account) → Above name accounts → Above name (accounts_from chains chain n accounts)
above_of chains chain n name [] h = tt
above_of chains chain n name (a ∷ accounts) h = above_by (chain_of chains n == chain) name a (accounts_from chains chain (n + 1) accounts) h.0 (above_of chains chain (n + 1) name accounts h.1)

abbrev Ascend : List Account → Type 0
Ascend accounts = IsStrictlySortedBy bytes_cmp (map (λ a. a.name) accounts)

ascend_by : (v : Bool) (a : Account) (xs : List Account) → Above a.name xs → Ascend xs → Ascend (cond v (a ∷ xs) xs)
unfolding IsStrictlySortedBy
ascend_by true a xs h k = (h, k)
ascend_by false a xs h k = k

ascend_of : (chains chain n : ℕ) (accounts : List Account) → Ascend accounts → Ascend (accounts_from chains chain n accounts)
unfolding IsStrictlySortedBy
ascend_of chains chain n [] h = tt
ascend_of chains chain n (a ∷ accounts) h =
    ascend_by (chain_of chains n == chain) a (accounts_from chains chain (n + 1) accounts) (above_of chains chain (n + 1) a.name accounts h.0) (ascend_of chains chain (n + 1) accounts h.1)

-- ---- how many there are

-- so far before an account of the chain
abbrev IsBefore : ℕ → ℕ → ℕ → ℕ → Type 0
IsBefore chains chain r d = (d < chains) × ((r + d ≡ chain) ⊎ (r + d ≡ chains + chain))

few_by : (v : Bool) (chains chain q r d n : ℕ) (a : Account) (accounts own : List Account) → (r == chain) ≡ v → chain < chains → r < chains → IsBefore chains chain r d
    → ((d' : ℕ) → ((r + 1 < chains) → IsBefore chains chain (r + 1) d' → chains * length own + d' + 1 ≤ length accounts + chains)
    × ((r + 1 ≡ chains) → IsBefore chains chain 0 d' → chains * length own + d' + 1 ≤ length accounts + chains))
    → chains * length (cond v (a ∷ own) own) + d + 1 ≤ length (a ∷ accounts) + chains
few_by true chains chain q r d n a accounts own is less within before rest =
    let here : r ≡ chain = grind (arith, nat_tests) in
    let zero_d : d ≡ 0 = at_chain before.1 in
    let step : chains * length own + (chains - 1) + 1 ≤ length accounts + chains = next (r + 1 == chains) refl in
    omega (arith, step, zero_d, mul-suc chains (length own))
  where
    at_chain : (r + d ≡ chain) ⊎ (r + d ≡ chains + chain) → d ≡ 0
    at_chain (inl h) = let here : r ≡ chain = grind (arith, nat_tests) in omega arith
    at_chain (inr h) = let here : r ≡ chain = grind (arith, nat_tests) in absurd (omega (arith, before.0))

    next : (w : Bool) → (r + 1 == chains) ≡ w → chains * length own + (chains - 1) + 1 ≤ length accounts + chains
    next true e =
        let last : r + 1 ≡ chains = grind (arith, nat_tests) in
        let here : r ≡ chain = grind (arith, nat_tests) in
        (rest (chains - 1)).1 last (omega arith, inl (omega arith))
    next false e =
        let other : r + 1 < chains = grind (arith, nat_tests) in
        let here : r ≡ chain = grind (arith, nat_tests) in
        (rest (chains - 1)).0 other (omega arith, inr (omega arith))
few_by false chains chain q r d n a accounts own is less within before rest =
    let elsewhere : r ≢ chain = λ same. (let yes : (r == chain) ≡ true = grind (arith, nat_tests) in cc) in
    let step : chains * length own + (d - 1) + 1 ≤ length accounts + chains = next before.1 (r + 1 == chains) refl in
    omega (arith, step)
  where
    not_here : r ≢ chain
    not_here same = let yes : (r == chain) ≡ true = grind (arith, nat_tests) in cc

    next : (r + d ≡ chain) ⊎ (r + d ≡ chains + chain) → (w : Bool) → (r + 1 == chains) ≡ w → chains * length own + (d - 1) + 1 ≤ length accounts + chains
    next (inl h) true e =
        let last : r + 1 ≡ chains = grind (arith, nat_tests) in
        absurd (not_here (omega arith))
    next (inr h) true e =
        let last : r + 1 ≡ chains = grind (arith, nat_tests) in
        (rest (d - 1)).1 last (omega (arith, before.0), inl (omega arith))
    next (inl h) false e =
        let other : r + 1 < chains = grind (arith, nat_tests) in
        let some : d ≢ 0 = λ none. not_here (omega arith) in
        (rest (d - 1)).0 other (omega (arith, before.0), inl (omega arith))
    next (inr h) false e =
        let other : r + 1 < chains = grind (arith, nat_tests) in
        (rest (d - 1)).0 other (omega (arith, before.0), inr (omega arith))

few_from : (chains chain q r d n : ℕ) (accounts : List Account) → n ≡ q * chains + r → chain < chains → r < chains → IsBefore chains chain r d
    → chains * length (accounts_from chains chain n accounts) + d + 1 ≤ length accounts + chains
few_from chains chain q r d n [] is less within before = omega (arith, before.0)
few_from chains chain q r d n (a ∷ accounts) is less within before =
    let own = accounts_from chains chain (n + 1) accounts in
    let place : chain_of chains n ≡ r = ap (λ (k : ℕ). k % chains) is ∙ mod-mul-add q chains r within in
    rw place (few_by (r == chain) chains chain q r d n a accounts own refl less within before
    (λ d'. (
      λ more before'. few_from chains chain q (r + 1) d' (n + 1) accounts (omega (arith, is)) less more before',
      λ last before'. few_from chains chain (suc q) 0 d' (n + 1) accounts (omega (arith, is, last, suc-mul q chains)) less (omega arith) before',
    )))

-- with as many chains as 500 accounts each need, a chain has at most 500
pub few_of_chain : (chains chain : ℕ) (accounts : List Account) → chain < chains → length accounts ≤ 500 * chains → length (accounts_of_chain chains chain accounts) ≤ 500
few_of_chain chains chain accounts less enough =
    let own = accounts_of_chain chains chain accounts in
    let bound : chains * length own + chain + 1 ≤ length accounts + chains = few_from chains chain 0 0 chain 0 accounts (omega arith) less (omega arith) (less, inl (omega arith)) in
    let times : chains * length own < chains * 501 = omega (arith, bound, enough) in
    let few : length own < 501 = lt_of_mul-lt-mul_left chains times in
    omega arith

-- the accounts of a chain are such as a batch has
pub are_accounts : (chains chain : ℕ) (accounts : List Account) → AreNightAccounts accounts → chain < chains → length accounts ≤ 500 * chains → AreAccounts (accounts_of_chain chains chain accounts)
are_accounts chains chain accounts rules less enough = record {
  few = few_of_chain chains chain accounts less enough;
  each = each_of chains chain 0 accounts rules.each;
  ascend = ascend_of chains chain 0 accounts rules.ascend;
}
