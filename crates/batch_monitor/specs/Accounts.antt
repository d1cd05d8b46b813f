-- The accounts that are given to a run.
use Rattle.std.specs.Prelude.{ℕ, ◌≡◌, ◌<◌, ◌⊎◌, Bool, true, false, List, Option, Some, None, length}
use Rattle.std.specs.Io.KnownBytes.{Consumes, IsAtEnd}
use Rattle.deck_reader.specs.declared.batch.Account.{Account}
use Rattle.accounts_text.specs.Text.{AccountsText, AreAccounts}

-- a whole text was read, and it states these accounts
pub record ReadsAccounts (left left' : Option (List ℕ)) (accounts : List Account) : Type 0 where
  pub text : List ℕ
  pub read : Consumes left left' text
  pub to_end : IsAtEnd left'
  pub states : AccountsText text accounts

-- the accounts that are given to a run: with an accounts file those that its text states, and otherwise none
abbrev pub Given : Bool → Option (List ℕ) → Option (List ℕ) → Option (List Account) → Type 0
Given true left left' None = ⊥
Given true left left' (Some accounts) = ReadsAccounts left left' accounts
Given false left left' given = given ≡ None

-- a text states no accounts
abbrev pub StatesNone : List ℕ → Type 0
StatesNone text = (accounts : List Account) → AccountsText text accounts → ⊥

-- what was read of a text is too long whatever comes behind it, or is the whole text and states no accounts
pub record IsBadText (left left' : Option (List ℕ)) : Type 0 where
  pub text : List ℕ
  pub read : Consumes left left' text
  pub bad : (65536 < length text) ⊎ (IsAtEnd left' × StatesNone text)

-- a text is known to state accounts, where there is to be one
abbrev pub StatesSome : Bool → Option (List ℕ) → Type 0
StatesSome true left = (text : List ℕ) × (accounts : List Account) × (left ≡ Some text) × AccountsText text accounts
StatesSome false left = Unit {0}

-- accounts are given exactly where there is an accounts file, and then such as a text may state
abbrev pub AreGiven : Bool → Option (List Account) → Type 0
AreGiven true None = ⊥
AreGiven true (Some accounts) = AreAccounts accounts
AreGiven false given = given ≡ None
