-- What a night's accounts are left with, as a text in TOML.
use Rattle.std.proofs.Common.{◌≡◌, ℕ, zero, suc, ◌+◌, ◌≤◌, ◌&&◌, ◌||◌, nat_le, nat_lt, max, pos, Bool, true, false, List, [], ◌∷◌, ◌++◌, Some, Less, is_lt, length, get_or, map, codes, decimal, slice_get, refl, sym, ap, subst, ◌∙◌, append_assoc, append-nil, arith}
use Rattle.std.specs.List.{AllByRecursion, enumerate_from, list_all}
use Rattle.std.specs.List.Sorted.{IsStrictlySortedBy}
use Rattle.std.specs.Int.{w64}
use Rattle.std.specs.Prelude.{FitsSigned}
use Rattle.std.proofs.lemmas.Bool.Decides.{nat_tests}
use Rattle.std.proofs.lemmas.Option.{same_Some}
use Rattle.short_text.specs.Order.{bytes_cmp}
use Rattle.deck_reader.specs.declared.batch.Account.{Account}
use Rattle.deck_reader.specs.Forms.{is_digit}
use Rattle.account_book.specs.BookView.{openings_of}
use Rattle.toml_parser.specs.Lexical.{is_bare}
use Rattle.toml_parser.specs.Strings.{Key}
use Rattle.toml_writer.specs.Text.{key_text}
use Rattle.toml.specs.Data.{integer, is_before, members_are_sorted, members_depth, members_have_valid_dates}
use Rattle.toml.specs.Parse.{parse_document}
use Rattle.toml.specs.Tables.{Expression, key_value, std_table}
use Rattle.toml.specs.Text.{IsDocumentText, IsLineText, IsLinesText, expressions, header_of, pairs, sections}
use Rattle.toml.proofs.ReadBack.{parse_document-printed}
use Rattle.accounts_text.specs.Text.{is_account, is_account_name, is_capital, members_of, under_accounts}
use Rattle.night_merge.specs.Texts.{balance_lines, balances_file}
use Rattle.night_shares.specs.Accounts.{AreNightAccounts}

-- ---- tests

and_left : (a b : Bool) → (a && b) ≡ true → a ≡ true
and_left true b h = refl
and_left false b h = cc

and_right : (a b : Bool) → (a && b) ≡ true → b ≡ true
and_right true b h = h
and_right false b h = cc

-- ---- names

bare_capital : (c : ℕ) → is_capital c ≡ true → is_bare c ≡ true
bare_capital c h = grind (arith, nat_tests)

bare_byte : (c : ℕ) → (is_capital c || is_digit c) ≡ true → is_bare c ≡ true
bare_byte c h = grind (arith, nat_tests)

bare_bytes : (cs : List ℕ) → list_all (λ d. is_capital d || is_digit d) cs ≡ true → list_all is_bare cs ≡ true
bare_bytes [] h = refl
bare_bytes (c ∷ cs) h =
    ap (λ (v : Bool). v && list_all is_bare cs) (bare_byte c (and_left _ _ h)) ∙ bare_bytes cs (and_right (is_capital c || is_digit c) (list_all (λ d. is_capital d || is_digit d) cs) h)

-- such a name is a key as it stands
name_key : (name : List ℕ) → is_account_name name ≡ true → key_text name ≡ name
unfolding key_text
name_key [] h = cc
name_key (c ∷ cs) h =
    let rest = and_right (is_capital c) (nat_le (length cs) 7 && list_all (λ d. is_capital d || is_digit d) cs) h in
    let all : list_all is_bare (c ∷ cs) ≡ true =
    ap (λ (v : Bool). v && list_all is_bare cs) (bare_capital c (and_left _ _ h)) ∙ bare_bytes cs (and_right (nat_le (length cs) 7) (list_all (λ d. is_capital d || is_digit d) cs) rest) in
    let some : nat_lt 0 (length (c ∷ cs)) ≡ true = grind (arith, nat_tests) in
    rw (some, all) refl

opening_fits : (n : ℕ) → n ≤ 999999999 → FitsSigned w64 (pos n)
opening_fits n h = record { sfits = omega (arith, h) }

-- ---- the lines of a table of accounts

abbrev accounts_key : Key
accounts_key = ([], codes "accounts")

abbrev pair_of : Account → Expression
pair_of account = (([], account.name), key_value (integer (pos account.opening)))

pairs_are : (accounts : List Account) → pairs (members_of accounts) ≡ map pair_of accounts
pairs_are [] = refl
pairs_are (a ∷ accounts) = ap (λ (es : List Expression). pair_of a ∷ es) (pairs_are accounts)

none_inside : (path : List (List ℕ)) (accounts : List Account) → sections path (members_of accounts) ≡ []
none_inside path [] = refl
none_inside path (a ∷ accounts) = none_inside path accounts

headed : (accounts : List Account) → header_of accounts_key (members_of accounts) ≡ (accounts_key, std_table) ∷ []
headed [] = refl
headed (a ∷ accounts) = refl

expressions_are : (accounts : List Account) → expressions (under_accounts (members_of accounts)) ≡ (accounts_key, std_table) ∷ map pair_of accounts
expressions_are accounts =
    let members = members_of accounts in
    let inside = sections (codes "accounts" ∷ []) members in
    append-nil (header_of accounts_key members ++ (pairs members ++ inside))
    ∙ ap (λ (es : List Expression). es ++ (pairs members ++ inside)) (headed accounts)
    ∙ ap (λ (es : List Expression). (accounts_key, std_table) ∷ (pairs members ++ es)) (none_inside (codes "accounts" ∷ []) accounts)
    ∙ ap (λ (es : List Expression). (accounts_key, std_table) ∷ es) (append-nil (pairs members) ∙ pairs_are accounts)

-- a line for each account, with what it opens with
abbrev pub lines_of : List Account → List ℕ
lines_of [] = []
lines_of (a ∷ accounts) = a.name ++ (codes " = " ++ (decimal a.opening ++ 10 ∷ lines_of accounts))

line_text_is : (a : Account) → is_account a ≡ true → IsLineText false true ([], a.name) (key_value (integer (pos a.opening))) (a.name ++ (codes " = " ++ (decimal a.opening ++ 10 ∷ [])))
line_text_is a h =
    let name = and_left (is_account_name a.name) (nat_le a.opening 999999999) h in
    let small : nat_le a.opening 999999999 ≡ true = and_right (is_account_name a.name) (nat_le a.opening 999999999) h in
    let few : a.opening ≤ 999999999 = grind (arith, nat_tests) in
    (decimal a.opening, ap (λ (k : List ℕ). k ++ (codes " = " ++ (decimal a.opening ++ 10 ∷ []))) (sym (name_key a.name name)), (refl, opening_fits a.opening few))

lines_text_is : (accounts : List Account) → list_all is_account accounts ≡ true → IsLinesText false true (map pair_of accounts) (lines_of accounts)
lines_text_is [] h = refl
lines_text_is (a ∷ accounts) h =
    let this = a.name ++ (codes " = " ++ (decimal a.opening ++ 10 ∷ [])) in
    let whole : lines_of (a ∷ accounts) ≡ this ++ lines_of accounts =
    sym (
    append_assoc a.name (codes " = " ++ (decimal a.opening ++ 10 ∷ [])) (lines_of accounts)
    ∙ ap (λ (t : List ℕ). a.name ++ (codes " = " ++ t)) (append_assoc (decimal a.opening) (10 ∷ []) (lines_of accounts))) in
    (this, lines_of accounts, whole, line_text_is a (and_left (is_account a) (list_all is_account accounts) h), lines_text_is accounts (and_right (is_account a) (list_all is_account accounts) h))

title_is : IsLineText false false accounts_key std_table (codes "[accounts]\n")
unfolding key_text
title_is = refl

-- ---- the document

abbrev pub file_of : List Account → List ℕ
file_of accounts = codes "[accounts]\n" ++ lines_of accounts

text_is : (accounts : List Account) → list_all is_account accounts ≡ true → IsDocumentText false (under_accounts (members_of accounts)) (file_of accounts)
text_is accounts h =
    subst (λ (es : List Expression). IsLinesText false false es (file_of accounts)) (sym (expressions_are accounts))
    (codes "[accounts]\n", lines_of accounts, refl, title_is, lines_text_is accounts h)

not_deep : (accounts : List Account) → members_depth (members_of accounts) ≡ 0
not_deep [] = refl
not_deep (a ∷ accounts) = omega (arith, not_deep accounts)

no_dates : (accounts : List Account) → members_have_valid_dates (members_of accounts) ≡ true
no_dates [] = refl
no_dates (a ∷ accounts) = no_dates accounts

before_all : (a : Account) (accounts : List Account) → AllByRecursion (λ y. bytes_cmp a.name y ≡ Less) (map (λ x. x.name) accounts) → is_before a.name (members_of accounts) ≡ true
before_all a [] h = refl
before_all a (b ∷ accounts) h = ap is_lt h.0

sorted : (accounts : List Account) → IsStrictlySortedBy bytes_cmp (map (λ a. a.name) accounts) → members_are_sorted (members_of accounts) ≡ true
unfolding IsStrictlySortedBy
sorted [] h = refl
sorted (a ∷ accounts) h = ap (λ (v : Bool). (v && true) && members_are_sorted (members_of accounts)) (before_all a accounts h.0) ∙ sorted accounts h.1

pub document_of : (accounts : List Account) → AreNightAccounts accounts → parse_document (file_of accounts) ≡ Some (under_accounts (members_of accounts))
document_of accounts rules =
    let deep : members_depth (under_accounts (members_of accounts)) ≤ 80 = few (members_depth (members_of accounts)) (not_deep accounts) in
    let dates : members_have_valid_dates (under_accounts (members_of accounts)) ≡ true = ap (λ (v : Bool). v && true) (no_dates accounts) in
    let ordered : members_are_sorted (under_accounts (members_of accounts)) ≡ true = ap (λ (v : Bool). (true && v) && true) (sorted accounts rules.ascend) in
    parse_document-printed false (under_accounts (members_of accounts)) (file_of accounts) (text_is accounts rules.each) deep dates ordered
  where
    few : (n : ℕ) → n ≡ 0 → max (suc n) 0 ≤ 80
    few n none = subst (λ (m : ℕ). max (suc m) 0 ≤ 80) (sym none) (omega arith)

-- ---- accounts with what they are left with

-- these accounts, the first of which has this number, each with what it is left with as its opening
abbrev pub with_left : (ℕ → ℕ) → ℕ → List Account → List Account
with_left left number accounts = map (λ p. record { name = p.1.name; opening = left p.0 }) (enumerate_from number accounts)

lines_left : (left : ℕ → ℕ) (number : ℕ) (accounts : List Account) → balance_lines left number accounts ≡ lines_of (with_left left number accounts)
lines_left left number [] = refl
lines_left left number (a ∷ accounts) = ap (λ (t : List ℕ). a.name ++ (codes " = " ++ (decimal (left number) ++ 10 ∷ t))) (lines_left left (number + 1) accounts)

pub file_left : (left : ℕ → ℕ) (accounts : List Account) → balances_file left accounts ≡ file_of (with_left left 0 accounts)
file_left left accounts = ap (λ (t : List ℕ). codes "[accounts]\n" ++ t) (lines_left left 0 accounts)

names_left : (left : ℕ → ℕ) (number : ℕ) (accounts : List Account) → map (λ a. a.name) (with_left left number accounts) ≡ map (λ a. a.name) accounts
names_left left number [] = refl
names_left left number (a ∷ accounts) = ap (λ (names : List (List ℕ)). a.name ∷ names) (names_left left (number + 1) accounts)

-- none of these accounts is left with more than it opened with
abbrev pub IsLess : (ℕ → ℕ) → ℕ → List Account → Type 0
IsLess left number accounts = (k : ℕ) (a : Account) → slice_get accounts k ≡ Some a → left (number + k) ≤ a.opening

less_behind : (left : ℕ → ℕ) (number : ℕ) (a : Account) (accounts : List Account) → IsLess left number (a ∷ accounts) → IsLess left (number + 1) accounts
less_behind left number a accounts less k b at =
    let next : number + suc k ≡ number + 1 + k = omega arith in
    subst (λ (n : ℕ). left n ≤ b.opening) next (less (suc k) b at)

less_first : (left : ℕ → ℕ) (number : ℕ) (a : Account) (accounts : List Account) → IsLess left number (a ∷ accounts) → left number ≤ a.opening
less_first left number a accounts less =
    let same : number + 0 ≡ number = omega arith in
    subst (λ (n : ℕ). left n ≤ a.opening) same (less 0 a refl)

one_left : (a : Account) (n : ℕ) → is_account a ≡ true → n ≤ a.opening → is_account (record { name = a.name; opening = n }) ≡ true
one_left a n h less =
    let name = and_left (is_account_name a.name) (nat_le a.opening 999999999) h in
    let small : nat_le a.opening 999999999 ≡ true = and_right (is_account_name a.name) (nat_le a.opening 999999999) h in
    let few : nat_le n 999999999 ≡ true = grind (arith, nat_tests) in
    rw (name, few) refl

each_left : (left : ℕ → ℕ) (number : ℕ) (accounts : List Account) → list_all is_account accounts ≡ true → IsLess left number accounts → list_all is_account (with_left left number accounts) ≡ true
each_left left number [] h less = refl
each_left left number (a ∷ accounts) h less =
    ap (λ (v : Bool). v && list_all is_account (with_left left (number + 1) accounts)) (one_left a (left number) (and_left _ _ h) (less_first left number a accounts less))
    ∙ each_left left (number + 1) accounts (and_right (is_account a) (list_all is_account accounts) h) (less_behind left number a accounts less)

pub rules_left : (left : ℕ → ℕ) (accounts : List Account) → AreNightAccounts accounts → IsLess left 0 accounts → AreNightAccounts (with_left left 0 accounts)
rules_left left accounts rules less = record {
  each = each_left left 0 accounts rules.each less;
  ascend = subst (IsStrictlySortedBy bytes_cmp) (sym (names_left left 0 accounts)) rules.ascend;
}

-- ---- what accounts open with

pub opens_with : (accounts : List Account) (number : ℕ) (account : Account) → slice_get accounts number ≡ Some account → get_or (openings_of accounts) number 0 ≡ account.opening
opens_with [] number account at = cc
opens_with (a ∷ accounts) zero account at = ap (λ (x : Account). x.opening) (same_Some a account at)
opens_with (a ∷ accounts) (suc number) account at = opens_with accounts number account at
