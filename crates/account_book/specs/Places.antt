-- The money of a batch: what is left of each account at each place.
use Rattle.std.specs.Prelude.{ℕ, ◌-◌, Bool, false, ◌&&◌, ◌==◌, nat_le, if◌then◌else◌, List, Option, Some, None, fold, slice_index, slice_set}
use Rattle.deck_reader.specs.declared.batch.Flaw.{Flaw}
use Rattle.deck_reader.specs.JobView.{JobView}
use Rattle.account_book.specs.Charges.{reserve}

-- the account that is to pay, where there is one, and the most that it is to pay
pub record Claim : Type 0 where
  pub account : Option ℕ
  pub reserve : ℕ

abbrev pub is_on : ℕ → Option ℕ → Bool
is_on account None = false
is_on account (Some payer) = payer == account

-- whether an account's balance covers a reserve
abbrev pub covers : (ℕ → ℕ) → Option ℕ → ℕ → Bool
covers balance None reserve = false
covers balance (Some account) reserve = nat_le reserve (balance account)

-- a claim is accepted where it has an account and its reserve is at most the balance of that
abbrev pub is_accepted : (ℕ → ℕ) → Claim → Bool
is_accepted balance claim = covers balance claim.account claim.reserve

-- the balance of an account behind a claim and its charge
abbrev pub after : ℕ → ℕ → Claim × ℕ → ℕ
after account balance (claim, charge) = if is_on account claim.account && is_accepted (λ _. balance) claim then balance - charge else balance

-- the balance of an account at the place behind these claims, each with its charge: the opening less the charges of the accepted claims on it
abbrev pub place_balance : List ℕ → List (Claim × ℕ) → ℕ → ℕ
place_balance openings claims account = fold (after account) (slice_index openings account) claims

-- a table of balances in which one account has paid
abbrev pub lowered : List ℕ → Option ℕ → ℕ → List ℕ
lowered balances None charge = balances
lowered balances (Some account) charge = slice_set balances account (slice_index balances account - charge)

-- the table behind a claim and its charge
abbrev pub settled : List ℕ → Claim × ℕ → List ℕ
settled balances (claim, charge) = if is_accepted (slice_index balances) claim then lowered balances claim.account charge else balances

-- the table behind these claims, each with its charge
abbrev pub balances_behind : List ℕ → List (Claim × ℕ) → List ℕ
balances_behind openings claims = fold settled openings claims

abbrev pub account_by : Option Flaw → Option ℕ → Option ℕ
account_by (Some flaw) account = None
account_by None account = account

-- the claim of a job: that of its account, where it has no flaw
abbrev pub claim_of : JobView → Claim
claim_of job = record { account = account_by job.flaw job.account; reserve = reserve job }
