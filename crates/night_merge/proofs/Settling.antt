-- How the closing lines of a part are settled, one after the other.
use Rattle.std.proofs.Common.{◌≡◌, ℕ, suc, ◌+◌, ◌-◌, ◌%◌, ◌^◌, ◌<◌, ◌≤◌, ◌⊎◌, min, inl, inr, List, ◌∷◌, ◌++◌, Option, length, drop, get_or, slice_index, refl, sym, ap, ◌∙◌, arith, append_assoc}
use Rattle.std.proofs.lemmas.Bool.{cases_lt}
use Rattle.std.proofs.lemmas.List.{drop-drop, get_or-set_same, get_or-set_other}
use Rattle.std.proofs.Math.Nat.{add-mod_right, mod-le}
use Rattle.std.proofs.Math.ListN.{drop_of_length-le, set}
use Rattle.std.specs.Borrow.{Bor}
use Rattle.std.proofs.Math.Seq.{drop-cons}
use Rattle.deck_reader.specs.declared.batch.Account.{Account}
use Rattle.night_merge.specs.Closing.{HasOwn, IsLower, Settled, StatesLeft}
use Rattle.night_merge.specs.Texts.{chain_lines, closing_line, closing_title}
use Rattle.night_merge.proofs.Chains.{first_line, mod_apart, next_line}

-- the closing lines of the chain's accounts are settled up to this number; those from there on, and then this text, are still to be read
pub record Settling (c chain : ℕ) (before after : ℕ → ℕ) (accounts : List Account) (text : List ℕ) (at : ℕ) (rest start left : List ℕ) : Type 0 where
  pub ahead : rest ≡ chain_lines c chain before after at (drop at accounts) ++ text
  pub settled : (k : ℕ) → k < length start → k % c ≡ chain → k < at → get_or left k 0 ≡ after k
  pub kept : (k : ℕ) → k < length start → k % c ≡ chain → at ≤ k → get_or left k 0 ≡ before k
  pub others : (k : ℕ) → (k % c ≡ chain → ⊥) → get_or left k 0 ≡ get_or start k 0

pub settling_begins : (c chain : ℕ) (before after : ℕ → ℕ) (accounts : List Account) (text rest start : List ℕ) → chain < c → HasOwn c chain start before
    → rest ≡ chain_lines c chain before after 0 accounts ++ text → Settling c chain before after accounts text chain rest start start
settling_begins c chain before after accounts text rest start less has e = record {
  ahead = e ∙ ap (λ (l : List ℕ). l ++ text) (first_line c chain before after accounts less);
  settled = λ k within own early. absurd (omega (arith, mod-le k c, own));
  kept = λ k within own late. has k within own;
  others = λ k other. refl;
}

none_left : (c chain : ℕ) (before after : ℕ → ℕ) (m n : ℕ) (accounts : List Account) → length accounts ≤ m → length accounts ≤ n
    → chain_lines c chain before after m (drop m accounts) ≡ chain_lines c chain before after n (drop n accounts)
none_left c chain before after m n accounts past there =
    ap (λ (l : List Account). chain_lines c chain before after m l) (drop_of_length-le accounts past) ∙ ap (λ (l : List Account). chain_lines c chain before after n l) (sym (drop_of_length-le accounts there))

same_place : (c chain : ℕ) (before after : ℕ → ℕ) (m n : ℕ) (accounts : List Account) → ((m ≡ n) ⊎ ((length accounts ≤ m) × (length accounts ≤ n)))
    → chain_lines c chain before after m (drop m accounts) ≡ chain_lines c chain before after n (drop n accounts)
same_place c chain before after m n accounts (inl e) = ap (λ (k : ℕ). chain_lines c chain before after k (drop k accounts)) e
same_place c chain before after m n accounts (inr both) = none_left c chain before after m n accounts both.0 both.1

-- the lines of a chain's accounts from one of them on
lines_from : (c chain : ℕ) (before after : ℕ → ℕ) (accounts : List Account) (at : ℕ) (account : Account) → 0 < c → at % c ≡ chain → at < length accounts → get_or accounts at account ≡ account
    → chain_lines c chain before after at (drop at accounts) ≡ closing_line account.name (before at) (after at) ++ chain_lines c chain before after (at + c) (drop (at + c) accounts)
lines_from c chain before after accounts at account some own within is =
    let cut : drop at accounts ≡ account ∷ drop (suc at) accounts = drop-cons accounts at account within ∙ ap (λ (a : Account). a ∷ drop (suc at) accounts) is in
    ap (chain_lines c chain before after at) cut
    ∙ next_line c chain before after at account (drop (suc at) accounts) some own
    ∙ ap (λ (l : List Account). closing_line account.name (before at) (after at) ++ chain_lines c chain before after (at + c) l) (ap (drop c) (sym cut) ∙ drop-drop c at accounts)

-- the line of the account at this number
pub line_here : (c chain : ℕ) (before after : ℕ → ℕ) (accounts : List Account) (text rest : List ℕ) (at : ℕ) (account : Account) → 0 < c → at % c ≡ chain → at < length accounts
    → get_or accounts at account ≡ account → rest ≡ chain_lines c chain before after at (drop at accounts) ++ text
    → rest ≡ closing_line account.name (before at) (after at) ++ (chain_lines c chain before after (at + c) (drop (at + c) accounts) ++ text)
line_here c chain before after accounts text rest at account some own within is e =
    e ∙ ap (λ (l : List ℕ). l ++ text) (lines_from c chain before after accounts at account some own within is)
    ∙ append_assoc (closing_line account.name (before at) (after at)) (chain_lines c chain before after (at + c) (drop (at + c) accounts)) text

in_reach : (c at next k : ℕ) (accounts : List Account) → ((next ≡ at + c) ⊎ ((length accounts ≤ next) × (length accounts ≤ at + c))) → k < length accounts → k < next → k < at + c
in_reach c at next k accounts (inl e) within early = omega (arith, e)
in_reach c at next k accounts (inr both) within early = omega (arith, both.1)

beyond : (c at next k : ℕ) (accounts : List Account) → ((next ≡ at + c) ⊎ ((length accounts ≤ next) × (length accounts ≤ at + c))) → 0 < c → k < length accounts → next ≤ k → at < k
beyond c at next k accounts (inl e) some within late = omega (arith, e)
beyond c at next k accounts (inr both) some within late = absurd (omega (arith, both.0))

-- an account of the chain before the next one of the chain is this one or one before it
by_order : (c chain at k : ℕ) (P : Type 0) → at % c ≡ chain → k % c ≡ chain → k < at + c → (k < at → P) → (k ≡ at → P) → P
by_order c chain at k P own in_chain near before here =
    elim (cases_lt k at) [
      | inl less ↦ before less
      | inr from ↦ elim (cases_lt at k) [
        | inl more ↦ absurd (mod_apart c at (k - at) (omega arith) (omega arith) (ap (λ (n : ℕ). n % c) (omega arith) ∙ in_chain ∙ sym own))
        | inr same ↦ here (omega arith)
      ]
    ]

pub settling_more : (c chain : ℕ) (before after : ℕ → ℕ) (accounts : List Account) (text : List ℕ) (at next balance : ℕ) (rest behind start left grown : List ℕ)
    → ((next ≡ at + c) ⊎ ((length accounts ≤ next) × (length accounts ≤ at + c))) → 0 < c → at % c ≡ chain → at < length left → length start ≡ length left → length accounts ≡ length left
    → Settling c chain before after accounts text at rest start left → balance ≡ after at
    → behind ≡ chain_lines c chain before after (at + c) (drop (at + c) accounts) ++ text → grown ≡ set left at balance → Settling c chain before after accounts text next behind start grown
settling_more c chain before after accounts text at next balance rest behind start left grown place some own within long many s is e set_is = record {
  ahead = e ∙ ap (λ (l : List ℕ). l ++ text) (sym (same_place c chain before after next (at + c) accounts place));
  settled = λ k inside in_chain early.
      ap (λ (l : List ℕ). get_or l k 0) set_is
      ∙ by_order c chain at k (get_or (set left at balance) k 0 ≡ after k) own in_chain (in_reach c at next k accounts place (omega arith) early)
      (λ less. get_or-set_other left at k balance 0 (λ same. omega arith) ∙ s.settled k inside in_chain less)
      (λ here. ap (λ (n : ℕ). get_or (set left at balance) n 0) here ∙ get_or-set_same left at balance 0 within ∙ is ∙ ap after (sym here));
  kept = λ k inside in_chain late.
      ap (λ (l : List ℕ). get_or l k 0) set_is
      ∙ get_or-set_other left at k balance 0 (λ same. let past = beyond c at next k accounts place some (omega arith) late in omega (arith, past, same))
      ∙ s.kept k inside in_chain (let past = beyond c at next k accounts place some (omega arith) late in omega (arith, past));
  others = λ k other. ap (λ (l : List ℕ). get_or l k 0) set_is ∙ get_or-set_other left at k balance 0 (λ same. other (ap (λ (n : ℕ). n % c) same ∙ own)) ∙ s.others k other;
}

-- behind the last one stands the text, and all are settled
pub settling_ends : (c chain : ℕ) (before after : ℕ → ℕ) (accounts : List Account) (text : List ℕ) (at : ℕ) (rest start left : List ℕ) → length accounts ≤ at → length accounts ≡ length start
    → Settling c chain before after accounts text at rest start left → (rest ≡ text) × Settled c chain after start left
settling_ends c chain before after accounts text at rest start left past many s = (
  s.ahead ∙ ap (λ (l : List Account). chain_lines c chain before after at l ++ text) (drop_of_length-le accounts past),
  record { own = λ k within in_chain. s.settled k within in_chain (omega arith); others = s.others },
)

-- the next closing line is read
pub read_here : (c chain : ℕ) (before after : ℕ → ℕ) (accounts : List Account) (text : List ℕ) (at : ℕ) (rest start left name : List ℕ) (account : Account) (read : Option (ℕ × Bor (List ℕ)))
    → 0 < c → at % c ≡ chain → at < length start → length accounts ≡ length start → IsLower (length start) after before → account ≡ get_or accounts at account → name ≡ (get_or accounts at account).name
    → ((l : ℕ) (behind : List ℕ) → l ≤ get_or left at 0 → rest ≡ closing_line name (get_or left at 0) l ++ behind → StatesLeft l behind read)
    → Settling c chain before after accounts text at rest start left → StatesLeft (after at) (chain_lines c chain before after (at + c) (drop (at + c) accounts) ++ text) read
read_here c chain before after accounts text at rest start left name account read some own within many low is named f s =
    let behind : List ℕ = chain_lines c chain before after (at + c) (drop (at + c) accounts) ++ text in
    let opens : get_or left at 0 ≡ before at = s.kept at within own (omega arith) in
    let line = line_here c chain before after accounts text rest at account some own (omega (arith, within, many)) (sym is) s.ahead in
    let same : account.name ≡ name = ap (λ (a : Account). a.name) is ∙ sym named in
    f (after at) behind (omega (arith, opens, low at within))
    (line ∙ ap (λ (n : List ℕ). closing_line n (before at) (after at) ++ behind) same ∙ ap (λ (b : ℕ). closing_line name b (after at) ++ behind) (sym opens))

-- where the number of the next account is limited, which none has
pub next_place : (at c next count : ℕ) → next ≡ min (at + c) 18446744073709551615 → count < 2 ^ 64 → (next ≡ at + c) ⊎ ((count ≤ next) × (count ≤ at + c))
next_place at c next count e few =
    elim (cases_lt (at + c) 18446744073709551616) [
      | inl less ↦ inl (omega (arith, e, less))
      | inr more ↦ inr (omega (arith, e, more, few), omega (arith, more, few))
    ]

pub next_own : (at c chain next count : ℕ) → (next ≡ at + c) ⊎ ((count ≤ next) × (count ≤ at + c)) → at % c ≡ chain → next < count → next % c ≡ chain
next_own at c chain next count (inl e) own within = ap (λ (n : ℕ). n % c) e ∙ add-mod_right at c ∙ own
next_own at c chain next count (inr both) own within = absurd (omega (arith, both.0, within))

-- ---- closing lines that are taken for the chain's

-- Up to this number the lines were read, and those that stand before the rest open with what the accounts had at the start, and close with what they have; the accounts from
-- there on have what they had.
pub record Opening (c chain : ℕ) (accounts : List Account) (closing : List ℕ) (at : ℕ) (rest start left : List ℕ) : Type 0 where
  pub untouched : (k : ℕ) → k < length accounts → at ≤ k → get_or left k 0 ≡ get_or start k 0
  pub whole : (after : ℕ → ℕ) (text : List ℕ) → ((k : ℕ) → k < at → k % c ≡ chain → get_or left k 0 ≡ after k)
      → rest ≡ chain_lines c chain (slice_index start) after at (drop at accounts) ++ text
      → closing ≡ closing_title ++ (chain_lines c chain (slice_index start) after 0 accounts ++ text)

pub opening_begins : (c chain : ℕ) (accounts : List Account) (closing rest start : List ℕ) → chain < c → closing ≡ closing_title ++ rest → Opening c chain accounts closing chain rest start start
opening_begins c chain accounts closing rest start less is = record {
  untouched = λ k within late. refl;
  whole = λ after text settled e.
      is ∙ ap (λ (l : List ℕ). closing_title ++ l) (e ∙ ap (λ (l : List ℕ). l ++ text) (sym (first_line c chain (slice_index start) after accounts less)));
}

goes_up : (c at next : ℕ) (accounts : List Account) → ((next ≡ at + c) ⊎ ((length accounts ≤ next) × (length accounts ≤ at + c))) → 0 < c → at < length accounts → at < next
goes_up c at next accounts (inl e) some within = omega (arith, e)
goes_up c at next accounts (inr both) some within = omega (arith, both.0)

pub opening_more : (c chain : ℕ) (accounts : List Account) (closing : List ℕ) (at next balance : ℕ) (rest behind start left grown name : List ℕ) (account : Account)
    → ((next ≡ at + c) ⊎ ((length accounts ≤ next) × (length accounts ≤ at + c))) → 0 < c → at % c ≡ chain → at < length accounts → length accounts ≡ length left
    → account ≡ get_or accounts at account → name ≡ (get_or accounts at account).name → rest ≡ closing_line name (get_or left at 0) balance ++ behind → grown ≡ set left at balance
    → Opening c chain accounts closing at rest start left → Opening c chain accounts closing next behind start grown
opening_more c chain accounts closing at next balance rest behind start left grown name account place some own within many is named line set_is o = record {
  untouched = λ k inside late.
      let past = beyond c at next k accounts place some inside late in
      ap (λ (l : List ℕ). get_or l k 0) set_is ∙ get_or-set_other left at k balance 0 (λ same. omega (arith, past, same)) ∙ o.untouched k inside (omega (arith, past));
  whole = λ after text settled e.
      let up = goes_up c at next accounts place some within in
      let here : balance ≡ after at = sym (get_or-set_same left at balance 0 (omega (arith, within, many))) ∙ ap (λ (l : List ℕ). get_or l at 0) (sym set_is) ∙ settled at up own in
      let opened : get_or left at 0 ≡ slice_index start at = o.untouched at within (omega arith) in
      let called : name ≡ account.name = named ∙ ap (λ (a : Account). a.name) (sym is) in
      let further = chain_lines c chain (slice_index start) after (at + c) (drop (at + c) accounts) in
      let others : behind ≡ further ++ text = e ∙ ap (λ (l : List ℕ). l ++ text) (same_place c chain (slice_index start) after next (at + c) accounts place) in
      o.whole after text
      (λ k early in_chain.
      sym (ap (λ (l : List ℕ). get_or l k 0) set_is ∙ get_or-set_other left at k balance 0 (λ same. omega (arith, early, same))) ∙ settled k (omega (arith, early, up)) in_chain)
      (line
      ∙ ap (λ (n : List ℕ). closing_line n (get_or left at 0) balance ++ behind) called
      ∙ ap (λ (b : ℕ). closing_line account.name b balance ++ behind) opened
      ∙ ap (λ (b : ℕ). closing_line account.name (slice_index start at) b ++ behind) here
      ∙ ap (λ (l : List ℕ). closing_line account.name (slice_index start at) (after at) ++ l) others
      ∙ sym (append_assoc (closing_line account.name (slice_index start at) (after at)) further text)
      ∙ ap (λ (l : List ℕ). l ++ text) (sym (lines_from c chain (slice_index start) after accounts at account some own within (sym is))));
}

-- behind the last one the whole is known
pub opening_ends : (c chain : ℕ) (accounts : List Account) (closing : List ℕ) (at : ℕ) (rest start left : List ℕ) → length accounts ≤ at → Opening c chain accounts closing at rest start left
    → closing ≡ closing_title ++ (chain_lines c chain (slice_index start) (slice_index left) 0 accounts ++ rest)
opening_ends c chain accounts closing at rest start left past o =
    o.whole (slice_index left) rest (λ k early own. refl)
    (sym (ap (λ (l : List Account). chain_lines c chain (slice_index start) (slice_index left) at l ++ rest) (drop_of_length-le accounts past)))
