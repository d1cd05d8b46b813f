-- The names of accounts.
use Rattle.std.proofs.Common.{◌≡◌, ℕ, zero, suc, ◌<◌, ◌≤◌, ◌&&◌, ◌||◌, Bool, true, false, nat_le, List, [], ◌∷◌, get_or, slice_index, length, refl, arith}
use Rattle.std.specs.List.{list_all}
use Rattle.std.specs.Str.{IsUtf8}
use Rattle.std.proofs.lemmas.Bool.Decides.{nat_tests}
use Rattle.std.proofs.lemmas.Str.{IsUtf8-from_ascii}
use Rattle.deck_reader.specs.declared.batch.Account.{Account}
use Rattle.deck_reader.specs.Forms.{is_digit}
use Rattle.accounts_text.specs.Text.{is_account, is_account_name, is_capital}

pub both_of : (a b : Bool) → (a && b) ≡ true → (a ≡ true) × (b ≡ true)
both_of true true h = (refl, refl)
both_of true false h = cc
both_of false b h = cc

low_by : (a b c d : Bool) (n : ℕ) → nat_le 65 n ≡ a → nat_le n 90 ≡ b → nat_le 48 n ≡ c → nat_le n 57 ≡ d → ((a && b) || (c && d)) ≡ true → n < 128
low_by a true c d n i j k l h = grind (arith, nat_tests)
low_by a false c true n i j k l h = grind (arith, nat_tests)
low_by true false c false n i j k l h = grind (arith, nat_tests)
low_by false false true false n i j k l h = cc
low_by false false false false n i j k l h = cc

low : (n : ℕ) → (is_capital n || is_digit n) ≡ true → n < 128
low n h = low_by (nat_le 65 n) (nat_le n 90) (nat_le 48 n) (nat_le n 57) n (λ i. nat_le 65 n) (λ i. nat_le n 90) (λ i. nat_le 48 n) (λ i. nat_le n 57) h

capital_low : (n : ℕ) → is_capital n ≡ true → n < 128
capital_low n h =
    let top : nat_le n 90 ≡ true = (both_of (nat_le 65 n) (nat_le n 90) h).1 in
    grind (arith, nat_tests)

all_low : (cs : List ℕ) → list_all (λ d. is_capital d || is_digit d) cs ≡ true → (i : ℕ) → slice_index cs i < 128
all_low [] h i = omega arith
all_low (c ∷ cs) h zero = low c (both_of _ _ h).0
all_low (c ∷ cs) h (suc i) = all_low cs (both_of _ _ h).1 i

name_low : (name : List ℕ) → is_account_name name ≡ true → (i : ℕ) → slice_index name i < 128
name_low [] h i = cc
name_low (c ∷ cs) h zero = capital_low c (both_of _ _ h).0
name_low (c ∷ cs) h (suc i) = all_low cs (both_of _ _ (both_of _ _ h).1).1 i

pub name_utf8 : (account : Account) → is_account account ≡ true → IsUtf8 account.name
name_utf8 account h = IsUtf8-from_ascii account.name (name_low account.name (both_of _ _ h).0)

pub each_of : (accounts : List Account) (i : ℕ) (d : Account) → list_all is_account accounts ≡ true → i < length accounts → is_account (get_or accounts i d) ≡ true
each_of [] i d h less = absurd (omega arith)
each_of (a ∷ accounts) zero d h less = (both_of _ _ h).0
each_of (a ∷ accounts) (suc i) d h less = each_of accounts i d (both_of _ _ h).1 (omega arith)

pub opening_small : (account : Account) → is_account account ≡ true → account.opening ≤ 999999999
opening_small account h =
    let part : nat_le account.opening 999999999 ≡ true = (both_of (is_account_name account.name) (nat_le account.opening 999999999) h).1 in
    grind (arith, nat_tests)
