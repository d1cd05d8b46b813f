-- The closing lines of one chain's accounts, one after the other.
use Rattle.std.proofs.Common.{◌≡◌, ℕ, zero, suc, ◌+◌, ◌*◌, ◌/◌, ◌%◌, ◌<◌, ◌≤◌, ◌==◌, inl, inr, Bool, true, false, List, [], ◌∷◌, ◌++◌, length, drop, refl, sym, ap, ◌∙◌, arith}
use Rattle.std.proofs.lemmas.Bool.{cases_lt}
use Rattle.std.proofs.lemmas.Bool.Decides.{Decides-eqb}
use Rattle.std.proofs.Math.Nat.{div-add-mod, mul-le-mul_left, mul-suc, mod-eq_of_lt}
use Rattle.deck_reader.specs.declared.batch.Account.{Account}
use Rattle.night_merge.specs.Texts.{chain_lines, closing_line, closing_lines}

-- a number that is greater by less than the divisor leaves another rest
multiples_apart : (c q r j : ℕ) → c * r ≡ c * q + j → 0 < j → j < c → ⊥
multiples_apart c q r j e some less =
    elim (cases_lt q r) [
      | inl above ↦ (let more : c * suc q ≤ c * r = mul-le-mul_left c (omega arith) in omega (arith, more, mul-suc c q))
      | inr below ↦ (let most : c * r ≤ c * q = mul-le-mul_left c below in omega (arith, most))
    ]

pub mod_apart : (c number j : ℕ) → 0 < j → j < c → (number + j) % c ≡ number % c → ⊥
mod_apart c number j some less e =
    let a : c * (number / c) + number % c ≡ number = div-add-mod number c in
    let b : c * ((number + j) / c) + (number + j) % c ≡ number + j = div-add-mod (number + j) c in
    multiples_apart c (number / c) ((number + j) / c) j (omega (arith, a, b, e)) some less

by_test : (a b : ℕ) (v : Bool) → (a ≡ b → ⊥) → (a == b) ≡ v → v ≡ false
by_test a b false other e = refl
by_test a b true other e = absurd (other ((Decides-eqb a b).0 e))

other_number : (c chain number : ℕ) → (number % c ≡ chain → ⊥) → (number % c == chain) ≡ false
other_number c chain number other = by_test (number % c) chain (number % c == chain) other refl

-- accounts that aren't of the chain have no lines
pub skip : (c chain : ℕ) (before after : ℕ → ℕ) (n number : ℕ) (accounts : List Account) → ((i : ℕ) → i < n → (number + i) % c ≡ chain → ⊥)
    → chain_lines c chain before after number accounts ≡ chain_lines c chain before after (number + n) (drop n accounts)
skip c chain before after zero number accounts other = ap (λ (k : ℕ). chain_lines c chain before after k accounts) (omega arith)
skip c chain before after (suc n) number [] other = refl
skip c chain before after (suc n) number (account ∷ accounts) other =
    let here : (number % c == chain) ≡ false = other_number c chain number (λ e. other 0 (omega arith) (ap (λ (k : ℕ). k % c) (omega arith) ∙ e)) in
    let rest = skip c chain before after n (number + 1) accounts (λ i below e. other (suc i) (omega arith) (ap (λ (k : ℕ). k % c) (omega arith) ∙ e)) in
    rw here (rest ∙ ap (λ (k : ℕ). chain_lines c chain before after k (drop n accounts)) (omega arith))

-- behind the line of an account of the chain stand those of the accounts as much further as there are chains
pub next_line : (c chain : ℕ) (before after : ℕ → ℕ) (number : ℕ) (account : Account) (accounts : List Account) → 0 < c → number % c ≡ chain
    → chain_lines c chain before after number (account ∷ accounts)
    ≡ closing_line account.name (before number) (after number) ++ chain_lines c chain before after (number + c) (drop c (account ∷ accounts))
next_line zero chain before after number account accounts some own = absurd (omega arith)
next_line (suc d) chain before after number account accounts some own =
    let here : (number % suc d == chain) ≡ true = (Decides-eqb (number % suc d) chain).1 own in
    let rest = skip (suc d) chain before after d (number + 1) accounts
    (λ i below e. mod_apart (suc d) number (suc i) (omega arith) (omega arith) (ap (λ (k : ℕ). k % suc d) (omega arith) ∙ e ∙ sym own)) in
    rw here (ap (λ (l : List ℕ). closing_line account.name (before number) (after number) ++ l) (rest ∙ ap (λ (k : ℕ). chain_lines (suc d) chain before after k (drop d accounts)) (omega arith)))

-- the first account of a chain has its number
pub first_line : (c chain : ℕ) (before after : ℕ → ℕ) (accounts : List Account) → chain < c
    → chain_lines c chain before after 0 accounts ≡ chain_lines c chain before after chain (drop chain accounts)
first_line c chain before after accounts less =
    skip c chain before after chain 0 accounts
    (λ i below e. let small : i % c ≡ i = mod-eq_of_lt (omega arith) in let e' : i % c ≡ chain = ap (λ (k : ℕ). k % c) (omega arith) ∙ e in omega (arith, small, e'))
    ∙ ap (λ (k : ℕ). chain_lines c chain before after k (drop chain accounts)) (omega arith)

-- closing lines depend on what the accounts have alone
pub closing_lines-same : (f g : ℕ → ℕ) (number : ℕ) (accounts : List Account) → ((k : ℕ) → number ≤ k → k < number + length accounts → f k ≡ g k)
    → closing_lines f number accounts ≡ closing_lines g number accounts
closing_lines-same f g number [] same = refl
closing_lines-same f g number (account ∷ accounts) same =
    ap (λ (n : ℕ). closing_line account.name account.opening n ++ closing_lines f (number + 1) accounts) (same number (omega arith) (omega arith))
    ∙ ap (λ (l : List ℕ). closing_line account.name account.opening (g number) ++ l) (closing_lines-same f g (number + 1) accounts (λ k low high. same k (omega arith) (omega arith)))
