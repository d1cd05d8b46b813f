-- The texts of a listing that don't come from its parts.
use Rattle.std.specs.Prelude.{ℕ, ◌-◌, ◌+◌, ◌%◌, ◌==◌, List, [], ◌∷◌, ◌++◌, codes, decimal, if◌then◌else◌}
use Rattle.deck_reader.specs.declared.batch.Account.{Account}

abbrev pub heading : List ℕ
heading = codes "ALGOL W BATCH\n"

-- a section under this number, of what it has behind it
abbrev pub numbered : ℕ → List ℕ → List ℕ
numbered number rest = codes "\nJOB " ++ (decimal number ++ rest)

-- sections under numbers from this one on
abbrev pub numbered_each : ℕ → List (List ℕ) → List (List ℕ)
numbered_each number [] = []
numbered_each number (rest ∷ rests) = numbered number rest ∷ numbered_each (number + 1) rests

-- the closing line of an account up to what was charged
abbrev pub closing_front : List ℕ → ℕ → List ℕ
closing_front name opening = name ++ (codes " OPENING " ++ (decimal opening ++ codes " CHARGES "))

-- the closing line of an account that opened with one balance and is left with another
abbrev pub closing_line : List ℕ → ℕ → ℕ → List ℕ
closing_line name opening left =
    name ++ (codes " OPENING " ++ (decimal opening ++ (codes " CHARGES " ++ (decimal (opening - left) ++ (codes " CLOSING " ++ (decimal left ++ 10 ∷ []))))))

-- the closing lines of these accounts, the first of which has this number, where they are left so
abbrev pub closing_lines : (ℕ → ℕ) → ℕ → List Account → List ℕ
closing_lines left number [] = []
closing_lines left number (account ∷ accounts) = closing_line account.name account.opening (left number) ++ closing_lines left (number + 1) accounts

-- the closing lines of one chain's accounts among these, where they opened and are left so
abbrev pub chain_lines : ℕ → ℕ → (ℕ → ℕ) → (ℕ → ℕ) → ℕ → List Account → List ℕ
chain_lines chains chain opening left number [] = []
chain_lines chains chain opening left number (account ∷ accounts) =
    if number % chains == chain then closing_line account.name (opening number) (left number) ++ chain_lines chains chain opening left (number + 1) accounts
    else chain_lines chains chain opening left (number + 1) accounts

abbrev pub closing_title : List ℕ
closing_title = codes "\nCLOSING BALANCES\n"

-- the last line of a listing
abbrev pub stray_line : ℕ → List ℕ
stray_line stray = codes "STRAY CARDS " ++ (decimal stray ++ 10 ∷ [])

-- the closing lines of a listing, with these for the accounts
abbrev pub closing : List ℕ → ℕ → List ℕ
closing balances stray = closing_title ++ (balances ++ stray_line stray)

-- a line for each of these accounts, the first of which has this number, with what it is left with
abbrev pub balance_lines : (ℕ → ℕ) → ℕ → List Account → List ℕ
balance_lines left number [] = []
balance_lines left number (account ∷ accounts) = account.name ++ (codes " = " ++ (decimal (left number) ++ 10 ∷ balance_lines left (number + 1) accounts))

-- what the accounts are left with, as an accounts file
abbrev pub balances_file : (ℕ → ℕ) → List Account → List ℕ
balances_file left accounts = codes "[accounts]\n" ++ balance_lines left 0 accounts
