-- The forms of the cards, as a grammar: relations between a card and its parts.
use Rattle.std.specs.Prelude.{◌≡◌, ◌≤◌, ◌↔◌, ℕ, List, [], ◌∷◌, ◌++◌, codes, Some, None}
use Rattle.short_text.specs.Blanks.{blanks}
use Rattle.deck_reader.specs.Forms.{account_card, library_card}
use Rattle.deck_reader.specs.JobCards.{job_card}
use Rattle.deck_reader.specs.Options.{Value, row, unset}
use Rattle.deck_reader.specs.Texts.{IsWord, IsName, IsNumber, IsField}
use Rattle.deck_reader.specs.declared.forms.AccountCard.{AccountCard}
use Rattle.deck_reader.specs.declared.forms.JobCard.{JobCard}
use Rattle.deck_reader.specs.declared.options.JobOption.{JobOption}
use Rattle.deck_reader.specs.declared.options.Settings.{Settings}

-- a setting is an option's word, an equals sign and a value of the option, with blanks round each
pub record IsSetting (option : JobOption) (value : Value option) (field : List ℕ) : Type 0 where
  pub left : List ℕ
  pub right : List ℕ
  pub text : field ≡ left ++ 61 ∷ right
  pub left_is : IsField (IsWord (row option).word) left
  pub right_is : IsField ((row option).Is value) right

-- settings have a comma before each, and each gives an option that none before it gave
pub data IsSettings : Settings → List ℕ → Type 0 where
  no_more : IsSettings unset []
  one_more : (before : Settings) (text : List ℕ) (option : JobOption) (value : Value option) (field : List ℕ)
      → IsSettings before text → (row option).held before ≡ None → IsSetting option value field → IsSettings ((row option).with_value before value) (text ++ 44 ∷ field)

-- a job card is `%JOB`, a blank, a job's name, a comma, an account's name and settings, with blanks round the names
pub record IsJobCard (card : List ℕ) (job : JobCard) : Type 0 where
  pub word : List ℕ
  pub name : List ℕ
  pub account : List ℕ
  pub settings : List ℕ
  pub text : card ≡ word ++ 32 ∷ (name ++ 44 ∷ (account ++ settings))
  pub word_is : IsWord (codes "%JOB") word
  pub name_is : IsField (IsName job.name) name
  pub account_is : IsField (IsName job.account) account
  pub settings_are : IsSettings job.settings settings

-- an account card is `%ACCOUNT`, blanks, a name, blanks and a number of at most 999,999,999
pub record IsAccountCard (card : List ℕ) (account : AccountCard) : Type 0 where
  pub word : List ℕ
  pub before : ℕ
  pub name : List ℕ
  pub between : ℕ
  pub digits : List ℕ
  pub text : card ≡ word ++ 32 ∷ (blanks before ++ (name ++ 32 ∷ (blanks between ++ digits)))
  pub word_is : IsWord (codes "%ACCOUNT") word
  pub name_is : IsName account.name name
  pub balance_is : IsNumber account.balance digits
  pub fits : account.balance ≤ 999999999

-- a library's first card is `%LIBRARY`, blanks and a name
pub record IsLibraryCard (card name : List ℕ) : Type 0 where
  pub word : List ℕ
  pub before : ℕ
  pub written : List ℕ
  pub text : card ≡ word ++ 32 ∷ (blanks before ++ written)
  pub word_is : IsWord (codes "%LIBRARY") word
  pub name_is : IsName name written

-- a job card states its parts, and no other card has such parts
abbrev pub JobCardByParts : Type 0
JobCardByParts = (card : List ℕ) (job : JobCard) → (job_card card ≡ Some job) ↔ IsJobCard card job

-- an account card states its parts, and no other card has such parts
abbrev pub AccountCardByParts : Type 0
AccountCardByParts = (card : List ℕ) (account : AccountCard) → (account_card card ≡ Some account) ↔ IsAccountCard card account

-- a library's first card states its name, and no other card has such parts
abbrev pub LibraryCardByParts : Type 0
LibraryCardByParts = (card name : List ℕ) → (library_card card ≡ Some name) ↔ IsLibraryCard card name
