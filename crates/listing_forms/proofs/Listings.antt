-- The listing of a batch has the form.
use Rattle.std.proofs.Common.{◌≡◌, ℕ, Bool, true, false, ◌&&◌, ◌==◌, not, List, [], ◌∷◌, ◌++◌, drop, flat_map, All, codes, filter, refl, sym, ap, ◌∙◌, arith, Option, Some, None}
use Rattle.std.specs.Prelude.{⊤, bytes_eq, filter_map, if◌then◌else◌}
use Rattle.std.specs.List.{list_all, cons_option}
use Rattle.std.specs.Option.{option_map}
use Rattle.std.proofs.lemmas.Bool.{eqb-true}
use Rattle.std.proofs.lemmas.List.Elements.{All-nil, All-cons, All-head, All-tail, All-append, All-take, All-filter}
use Rattle.deck_reader.specs.declared.batch.Account.{Account}
use Rattle.deck_reader.specs.declared.forms.AccountCard.{AccountCard}
use Rattle.deck_reader.specs.JobView.{JobView}
use Rattle.deck_reader.specs.Named.{first_by_name}
use Rattle.deck_reader.specs.Cards.{cards}
use Rattle.deck_reader.specs.Forms.{is_account, name_of, balance_of, behind_blanks, parted, account_with, name_and_balance, account_card}
use Rattle.deck_reader.specs.Batch.{runs, before_head, libraries_in, front_of, jobs_of, account_on, accounts_from, batch_with}
use Rattle.account_book.specs.BookView.{openings_of}
use Rattle.batch_listing.specs.Listing.{closing_lines}
use Rattle.batch_listing.specs.Texts.{heading, closing}
use Rattle.listing_parts.specs.Lines.{is_line, text_up}
use Rattle.listing_parts.specs.Sections as parts
use Rattle.listing_parts.proofs.Texts.{text_up-append}
use Rattle.printed_lines.specs.Texts.{IsPrintable, IsText}
use Rattle.printed_lines.proofs.Texts.{text_of}
use Rattle.printable_decks.specs.Laws.{JobHolds}
use Rattle.printable_decks.proofs.Batches.{jobs_hold, shelf_holds}
use Rattle.section_forms.specs.Laws.{SectionsHaveForm}
use Rattle.listing_forms.specs.Laws.{BatchesAreApart, InputsHold, IsListable, ListingsHaveForm, NameHolds, NamesHold, texts_after}
use Rattle.listing_forms.proofs.Jobs.{IsJob, MaybeText, name_of_text, jobs_are}
use Rattle.listing_forms.proofs.Parts.{below, sections_are}
use Rattle.listing_forms.proofs.Closing.{closing_has}

-- ---- accounts

abbrev CardHolds : Option AccountCard → Type 0
CardHolds None = ⊤
CardHolds (Some card) = IsText card.name

with_holds : (name : Option (List ℕ)) (balance : Option ℕ) → MaybeText name → CardHolds (account_with name balance)
with_holds None balance h = tt
with_holds (Some name) None h = tt
with_holds (Some name) (Some balance) h = h

parted_holds : (o : Option (List ℕ × List ℕ)) → CardHolds (name_and_balance o)
parted_holds None = tt
parted_holds (Some (name, rest)) = with_holds (name_of name) (balance_of (behind_blanks rest)) (name_of_text name)

card_at : (b : Bool) (o : Option AccountCard) → CardHolds o → CardHolds (if b then o else None)
card_at true o h = h
card_at false o h = tt

abbrev AccountHolds : Option Account → Type 0
AccountHolds None = ⊤
AccountHolds (Some account) = NameHolds account

account_of_card : (o : Option AccountCard) → CardHolds o → AccountHolds (option_map (λ c. record { name = c.name; opening = c.balance }) o)
account_of_card None h = tt
account_of_card (Some card) h = h

account_holds : (card : List ℕ) → AccountHolds (account_on card)
account_holds card = let fields = parted 32 (behind_blanks (drop 8 card)) in account_of_card (account_card card) (card_at (is_account card) (name_and_balance fields) (parted_holds fields))

one_more : (o : Option Account) (accounts : List Account) → AccountHolds o → All NameHolds accounts → All NameHolds (cons_option o accounts)
one_more None accounts h k = k
one_more (Some account) accounts h k = All-cons NameHolds account accounts h k

stated_hold : (xs : List (List ℕ)) → All NameHolds (filter_map account_on xs)
stated_hold [] = All-nil NameHolds
stated_hold (card ∷ xs) = one_more (account_on card) (filter_map account_on xs) (account_holds card) (stated_hold xs)

first_hold : (xs : List Account) → All NameHolds xs → All NameHolds (first_by_name (λ a. a.name) xs)
first_hold [] h = All-nil NameHolds
first_hold (x ∷ xs) h = All-cons NameHolds x (filter (λ y. not (bytes_eq y.name x.name)) (first_by_name (λ a. a.name) xs)) (All-head NameHolds x xs h) (All-filter (λ y. not (bytes_eq y.name x.name)) NameHolds (first_by_name (λ a. a.name) xs) (first_hold xs (All-tail NameHolds x xs h)))

accounts_hold : (given : Option (List Account)) (front : List (List ℕ)) → NamesHold given → All NameHolds (accounts_from given front)
accounts_hold None front h = All-take NameHolds 500 (first_by_name (λ a. a.name) (filter_map account_on front)) (first_hold (filter_map account_on front) (stated_hold front))
accounts_hold (Some accounts) front h = h

-- ---- lines

no_feed : (c : ℕ) → IsPrintable c → not (c == 10) ≡ true
no_feed c h = go (c == 10) (λ e. omega (arith, eqb-true c 10 e, h.0))
  where
    go : (b : Bool) → (b ≡ true → ⊥) → not b ≡ true
    go true never = absurd (never refl)
    go false never = refl

text_is_line : (s : List ℕ) → All IsPrintable s → is_line s ≡ true
text_is_line [] h = refl
text_is_line (c ∷ s) h = ap (λ (b : Bool). b && is_line s) (no_feed c (All-head IsPrintable c s h)) ∙ text_is_line s (All-tail IsPrintable c s h)

texts_are_lines : (xs : List (List ℕ)) → All IsText xs → list_all is_line xs ≡ true
texts_are_lines [] h = refl
texts_are_lines (x ∷ xs) h = ap (λ (b : Bool). b && list_all is_line xs) (text_is_line x (All-head IsText x xs h).each) ∙ texts_are_lines xs (All-tail IsText x xs h)

heading_is : text_up (codes "ALGOL W BATCH" ∷ []) ≡ heading
unfolding heading
heading_is = refl

-- ---- the listing

pub batches_are_apart : SectionsHaveForm → BatchesAreApart
batches_are_apart forms b h =
    let openings = openings_of b.accounts in
    let texts = texts_after openings [] b.jobs in
    let title : List (List ℕ) = codes "ALGOL W BATCH" ∷ [] in
    let s = below forms openings [] b.jobs title [] h.jobs (All-cons IsText (codes "ALGOL W BATCH") [] (text_of (codes "ALGOL W BATCH") refl) (All-nil IsText)) parts.heading in
    let c = closing_has openings b.jobs b.accounts b.stray h.accounts in
    record {
      up = c.up ++ s.up;
      closing_part = c.up;
      sections_part = s.parts;
      upward = record {
        whole = ap (λ (t : List ℕ). heading ++ t ++ closing (closing_lines openings b.jobs b.accounts) b.stray) (sections_are openings b.jobs)
            ∙ ap (λ (t : List ℕ). t ++ flat_map (λ text. text) texts ++ closing (closing_lines openings b.jobs b.accounts) b.stray) (sym heading_is)
            ∙ ap (λ (t : List ℕ). t ++ closing (closing_lines openings b.jobs b.accounts) b.stray) (sym s.whole)
            ∙ ap (λ (t : List ℕ). text_up s.up ++ t) (sym c.whole)
            ∙ sym (text_up-append c.up s.up);
        each = texts_are_lines (c.up ++ s.up) (All-append IsText c.up s.up c.each s.each);
      };
      form = record { above = s.up; whole = refl; is_closing = c.form; are_sections = s.form };
      closing_is = c.whole;
      sections_are = s.are;
    }

-- ---- inputs

listable : (jobs : List JobView) → All IsJob jobs → All JobHolds jobs → All IsListable jobs
listable jobs are hold k d l =
    let is = are k d l in
    record { name = is.name; account_name = is.account_name; cards = hold k d l; fit = is.fit }

pub inputs_hold : InputsHold
inputs_hold given bytes names =
    let front = front_of given (cards bytes) in
    let rs = runs (cards bytes) in
    record {
      accounts = accounts_hold given (before_head (cards bytes)) names;
      jobs = listable (jobs_of front 1 rs) (jobs_are front 1 rs) (jobs_hold front 1 rs (shelf_holds (libraries_in (before_head (cards bytes)))));
    }

pub listings_have_form : SectionsHaveForm → ListingsHaveForm
listings_have_form forms given bytes names = batches_are_apart forms (batch_with given bytes) (inputs_hold given bytes names)
