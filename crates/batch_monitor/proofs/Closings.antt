-- The closing balances of a batch that was run.
use Rattle.std.proofs.Common.{◌≡◌, ℕ, Bool, true, false, [], List, Option, refl, sym, subst}
use Rattle.std.proofs.KnownBytes.{Appends-nil}
use Rattle.deck_reader.specs.declared.batch.Account.{Account}
use Rattle.deck_reader.specs.Batch.{batch_with}
use Rattle.account_book.specs.BookView.{openings_of}
use Rattle.accounts_text.specs.Text.{AccountsList}
use Rattle.batch_listing.specs.declared.audit.Audit.{Audit}
use Rattle.batch_listing.specs.Listing.{closed_accounts}
use Rattle.batch_runner.specs.Outcome.{IsListed}
use Rattle.batch_monitor.specs.declared.asked.Asked.{Asked}
use Rattle.batch_monitor.specs.Asked.{IsBalances}
use Rattle.batch_monitor.specs.Closing.{StatesClosing, StatesClosingInPart}
use Rattle.batch_monitor.specs.Outcome.{IsClosed, IsClosedInPart, IsWritten}

-- a text of the balances of the audit's accounts is one of the batch's
states_so : (asked : Asked) (given : Option (List Account)) (left left' written written' : Option (List ℕ)) (audit : Audit) (listed : IsListed given left left' written written' audit) (text : List ℕ) → asked.accounts ≡ true
    → AccountsList text (closed_accounts (openings_of audit.book.accounts) (batch_with given listed.input).jobs audit.book.accounts) → IsBalances asked.accounts (batch_with given listed.input) text
states_so asked given left left' written written' audit listed text e states =
    subst (λ (b : Bool). IsBalances b (batch_with given listed.input) text) (sym e)
    (subst (λ (accounts : List Account). AccountsList text (closed_accounts (openings_of accounts) (batch_with given listed.input).jobs accounts)) listed.accounts states)

pub closed_so : (asked : Asked) (given : Option (List Account)) (left left' written written' shown closed closed' : Option (List ℕ)) (audit : Audit) (listed : IsListed given left left' written written' audit) → IsWritten asked given left left' written shown listed.input → asked.accounts ≡ true
    → StatesClosing audit.book.accounts (batch_with given listed.input).jobs closed closed' → IsClosed asked given left left' written shown closed closed'
closed_so asked given left left' written written' shown closed closed' audit listed whole e s = record {
  input = listed.input;
  whole = whole;
  balances = s.text;
  states = states_so asked given left left' written written' audit listed s.text e s.states;
  stated = s.stated;
}

pub closed_in_part_so : (asked : Asked) (given : Option (List Account)) (left left' written written' shown closed closed' : Option (List ℕ)) (audit : Audit) (listed : IsListed given left left' written written' audit) → IsWritten asked given left left' written shown listed.input → asked.accounts ≡ true
    → StatesClosingInPart audit.book.accounts (batch_with given listed.input).jobs closed closed' → IsClosedInPart asked given left left' written shown closed closed'
closed_in_part_so asked given left left' written written' shown closed closed' audit listed whole e s = record {
  input = listed.input;
  whole = whole;
  balances = s.text;
  states = states_so asked given left left' written written' audit listed s.text e s.states;
  stated = s.stated;
}

pub closed_without : (asked : Asked) (given : Option (List Account)) (left left' written written' closed : Option (List ℕ)) (input : List ℕ) → IsWritten asked given left left' written written' input → asked.accounts ≡ false
    → IsClosed asked given left left' written written' closed closed
closed_without asked given left left' written written' closed input whole e = record {
  input = input;
  whole = whole;
  balances = [];
  states = subst (λ (b : Bool). IsBalances b (batch_with given input) []) (sym e) refl;
  stated = Appends-nil closed;
}
