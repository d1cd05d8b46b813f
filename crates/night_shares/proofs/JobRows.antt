-- The job of a run alone, where no account is open, beside the job that it is in the night.
use Rattle.std.proofs.Common.{◌≡◌, ℕ, ◌+◌, Bool, true, false, cond, nat_lt, List, [], ◌∷◌, length, Option, Some, None, Result, Ok, Err, refl, sym, ap}
use Rattle.std.specs.List.{after_first, before_first, list_any}
use Rattle.deck_reader.specs.declared.batch.Account.{Account}
use Rattle.deck_reader.specs.declared.batch.Flaw.{Flaw}
use Rattle.deck_reader.specs.declared.batch.Flaw.TheVariants as flaws
use Rattle.deck_reader.specs.declared.forms.JobCard.{JobCard}
use Rattle.deck_reader.specs.Batch.{Front, Run, account_for, account_of, body, flawed, job_by, job_from, job_on, library_for, unread}
use Rattle.deck_reader.specs.CardFlaws.{is_foul, is_long}
use Rattle.deck_reader.specs.Forms.{is_data}
use Rattle.deck_reader.specs.JobCards.{job_card}
use Rattle.deck_reader.specs.JobView.{JobView}
use Rattle.deck_reader.specs.LibraryView.{LibraryView}
use Rattle.deck_reader.specs.Options.{is_in_range, unset}
use Rattle.night_shares.specs.Batches.{IsBeside, lone_job}
use Rattle.night_shares.specs.Cutting.{NoneUnread}
use Rattle.night_shares.specs.Jobs.{job_in}
use Rattle.night_shares.specs.Lines.{cleaned_run}
use Rattle.night_shares.specs.Plan.{job_row, row_by}

row_none : (chains : ℕ) (job : JobView) → job.account ≡ None → job_row chains job ≡ row_by chains job None
row_none chains job is = ap (row_by chains job) is

abbrev Found : Type 0
Found = Result (Option LibraryView) Flaw

some_none : {A : Type 0} (x : A) → Some x ≡ None → ⊥
some_none x h = cc

by_account : (accounts : List Account) (n m count : ℕ) (card : JobCard) (account : Option ℕ) (library library' : Found) (deck data_cards deck' data_cards' : List (List ℕ)) → account ≡ account_of accounts card.account
    → IsBeside accounts (job_on n count card account library deck data_cards) (job_on m count card None library' deck' data_cards')
by_account accounts n m count card None library library' deck data_cards deck' data_cards' is = record { account_is = is; flaw = flaws.AccountUnknown; has = refl; row_is = λ h chains. refl }
by_account accounts n m count card (Some account) (Err flaw) library' deck data_cards deck' data_cards' is = record { account_is = is; flaw = flaws.AccountUnknown; has = refl; row_is = λ h chains. absurd (some_none account h) }
by_account accounts n m count card (Some account) (Ok library) library' deck data_cards deck' data_cards' is = record { account_is = is; flaw = flaws.AccountUnknown; has = refl; row_is = λ h chains. absurd (some_none account h) }

by_many : (v : Bool) (accounts : List Account) (n m count : ℕ) (card : JobCard) (account : Option ℕ) (library library' : Found) (deck data_cards : List (List ℕ)) → account ≡ account_of accounts card.account
    → IsBeside accounts (cond v (flawed n count card account card.settings flaws.TooManyCards) (job_on n count card account library deck data_cards))
    (cond v (flawed m count card None card.settings flaws.TooManyCards) (job_on m count card None library' deck data_cards))
by_many true accounts n m count card account library library' deck data_cards is = record {
  account_is = is;
  flaw = flaws.TooManyCards;
  has = refl;
  row_is = λ h chains. row_none chains (flawed n count card account card.settings flaws.TooManyCards) h;
}
by_many false accounts n m count card account library library' deck data_cards is = by_account accounts n m count card account library library' deck data_cards deck data_cards is

by_range : (v w : Bool) (accounts : List Account) (n m count : ℕ) (card : JobCard) (account : Option ℕ) (library library' : Found) (deck data_cards : List (List ℕ)) → account ≡ account_of accounts card.account
    → IsBeside accounts
    (cond v (cond w (flawed n count card account card.settings flaws.TooManyCards) (job_on n count card account library deck data_cards)) (flawed n count card account unset flaws.NumberOutOfRange))
    (cond v (cond w (flawed m count card None card.settings flaws.TooManyCards) (job_on m count card None library' deck data_cards)) (flawed m count card None unset flaws.NumberOutOfRange))
by_range true w accounts n m count card account library library' deck data_cards is = by_many w accounts n m count card account library library' deck data_cards is
by_range false w accounts n m count card account library library' deck data_cards is = record {
  account_is = is;
  flaw = flaws.NumberOutOfRange;
  has = refl;
  row_is = λ h chains. row_none chains (flawed n count card account unset flaws.NumberOutOfRange) h;
}

unread_beside : (accounts : List Account) (n m count : ℕ) (flaw : Flaw) → NoneUnread accounts → IsBeside accounts (unread n count flaw) (unread m count flaw)
unread_beside accounts n m count flaw none = record { account_is = sym none; flaw = flaw; has = refl; row_is = λ h chains. refl }

by_card : (accounts : List Account) (n m count : ℕ) (card : Option JobCard) (library library' : Found) (deck data_cards : List (List ℕ)) → NoneUnread accounts
    → IsBeside accounts (job_by n count card (account_for accounts card) library deck data_cards) (job_by m count card (account_for [] card) library' deck data_cards)
by_card accounts n m count None library library' deck data_cards none = unread_beside accounts n m count flaws.JobCard none
by_card accounts n m count (Some card) library library' deck data_cards none =
    by_range (is_in_range card.settings) (nat_lt 2000 count) accounts n m count card (account_of accounts card.account) library library' deck data_cards refl

by_flaws : (v w : Bool) (accounts : List Account) (n m count : ℕ) (card : Option JobCard) (library library' : Found) (deck data_cards : List (List ℕ)) → NoneUnread accounts
    → IsBeside accounts (job_from n count v w card (account_for accounts card) library deck data_cards) (job_from m count v w card (account_for [] card) library' deck data_cards)
by_flaws true w accounts n m count card library library' deck data_cards none = unread_beside accounts n m count flaws.CardTooLong none
by_flaws false true accounts n m count card library library' deck data_cards none = unread_beside accounts n m count flaws.ByteNotAllowed none
by_flaws false false accounts n m count card library library' deck data_cards none = by_card accounts n m count card library library' deck data_cards none

-- the job of a run in the night, beside the job of the run alone
pub beside : (front : Front) (n : ℕ) (run : Run) → NoneUnread front.accounts → IsBeside front.accounts (job_in front n run) (lone_job run)
beside front n run none =
    let head = (cleaned_run run).head in
    let behind = body (cleaned_run run) in
    by_flaws (list_any is_long (head ∷ behind)) (list_any is_foul (head ∷ behind)) front.accounts n 1 (length behind + 1) (job_card head) (library_for front.shelf (job_card head)) (library_for [] (job_card head)) (before_first is_data behind) (after_first is_data behind) none
