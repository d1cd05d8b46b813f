-- No account has the name of a job that can't be read.
use Rattle.std.proofs.Common.{◌≡◌, ℕ, suc, ◌+◌, ◌==◌, ◌&&◌, ◌||◌, Bool, true, false, cond, not, nat_le, nat_lt, List, [], ◌∷◌, length, codes, None, Some, refl, ap, ◌∙◌, arith}
use Rattle.std.specs.List.{list_all, list_any, position_or_len}
use Rattle.std.specs.Str.{bytes_eq}
use Rattle.std.proofs.lemmas.Bool.Decides.{nat_tests}
use Rattle.deck_reader.specs.declared.batch.Account.{Account}
use Rattle.accounts_text.specs.Text.{is_account, is_account_name, is_capital}
use Rattle.night_shares.specs.Cutting.{NoneUnread}

both_of : (a b : Bool) → (a && b) ≡ true → (a ≡ true) × (b ≡ true)
both_of true true h = (refl, refl)
both_of true false h = cc
both_of false b h = cc

capital_differs : (c : ℕ) (rest : Bool) → is_capital c ≡ true → ((c == 63) && rest) ≡ false
capital_differs c rest h = by (c == 63) refl
  where
    by : (v : Bool) → (c == 63) ≡ v → (v && rest) ≡ false
    by true e = let parts = both_of (nat_le 65 c) (nat_le c 90) h in absurd (let low : nat_le 65 c ≡ true = parts.0 in grind (arith, nat_tests))
    by false e = refl

name_differs : (name : List ℕ) → is_account_name name ≡ true → bytes_eq name (codes "?") ≡ false
name_differs [] h = refl
name_differs (c ∷ cs) h = capital_differs c (bytes_eq cs []) (both_of (is_capital c) _ h).0

none_has : (accounts : List Account) → list_all is_account accounts ≡ true → list_any (λ a. bytes_eq a.name (codes "?")) accounts ≡ false
none_has [] h = refl
none_has (a ∷ accounts) h =
    let both = both_of (is_account a) (list_all is_account accounts) h in
    ap (λ (v : Bool). v || list_any (λ b. bytes_eq b.name (codes "?")) accounts) (name_differs a.name (both_of (is_account_name a.name) _ both.0).0)
    ∙ none_has accounts both.1

missed_by : {X : Type 0} (b : Bool) (p : X → Bool) (xs : List X) → (b || list_any p xs) ≡ false → (list_any p xs ≡ false → position_or_len p xs ≡ length xs) → cond (not b) (1 + position_or_len p xs) 0 ≡ suc (length xs)
missed_by true p xs h rest = cc
missed_by false p xs h rest = let same : position_or_len p xs ≡ length xs = rest h in omega arith

missed : {X : Type 0} (p : X → Bool) (xs : List X) → list_any p xs ≡ false → position_or_len p xs ≡ length xs
missed p [] h = refl
missed p (x ∷ xs) h = missed_by (p x) p xs h (missed p xs)

not_below : (n : ℕ) → nat_lt n n ≡ false
not_below n = grind (arith, nat_tests)

pub none_unread : (accounts : List Account) → list_all is_account accounts ≡ true → NoneUnread accounts
none_unread accounts h =
    let at = position_or_len (λ a. bytes_eq a.name (codes "?")) accounts in
    let past : at ≡ length accounts = missed (λ a. bytes_eq a.name (codes "?")) accounts (none_has accounts h) in
    let none : nat_lt at (length accounts) ≡ false = ap (λ (n : ℕ). nat_lt n (length accounts)) past ∙ not_below (length accounts) in
    ap (λ (v : Bool). cond v (Some at) None) none
