-- The listings of a night's parts come apart.
use Rattle.std.proofs.Common.{◌≡◌, ℕ, ◌+◌, Bool, true, false, cond, List, [], ◌∷◌, ◌++◌, map, filter, flat_map, All, Option, Some, refl, sym, ap, subst, ◌∙◌}
use Rattle.std.specs.List.{enumerate_from}
use Rattle.std.proofs.lemmas.List.{append_cancel_left, append_cancel_right}
use Rattle.std.proofs.lemmas.List.Elements.{All-nil, All-cons, All-head, All-tail, All-filter}
use Rattle.deck_reader.specs.declared.batch.Account.{Account}
use Rattle.deck_reader.specs.JobView.{JobView}
use Rattle.account_book.specs.BookView.{openings_of}
use Rattle.account_book.specs.Places.{place_balance}
use Rattle.algolw_meaning.specs.Charging.{charged}
use Rattle.account_shares.specs.Shares.{as_in, closing_in, is_in, numbered_in, part_from}
use Rattle.batch_listing.specs.Listing.{closed_account, closed_accounts, closing_lines, sections}
use Rattle.batch_listing.specs.Texts.{closing, closing_line, closing_title, heading, stray_line}
use Rattle.section_forms.specs.Laws.{SectionsHaveForm}
use Rattle.listing_forms.specs.Laws.{IsApart, IsListable, NameHolds}
use Rattle.listing_forms.proofs.Listings.{batches_are_apart, inputs_hold}
use Rattle.listing_forms.proofs.Parts.{sections_are}
use Rattle.night_listings.specs.Nights.{in_chain, numbered_from, part_of, rests_in}
use Rattle.night_listings.proofs.Parts.{part_listing}
use Rattle.night_forms.specs.Joining.{closings_in, left_after}
use Rattle.night_forms.specs.Laws.{PartsAreApart}
use Rattle.night_forms.proofs.Sections.{numbered_texts, part_texts}

-- ---- a part's jobs and accounts are such as a listing may have

all_behind : (P : JobView → Type 0) (xs ys : List JobView) → All P (xs ++ ys) → All P ys
all_behind P [] ys h = h
all_behind P (x ∷ xs) ys h = all_behind P xs ys (All-tail P x (xs ++ ys) h)

all_front : (P : JobView → Type 0) (xs ys : List JobView) → All P (xs ++ ys) → All P xs
all_front P [] ys h = All-nil P
all_front P (x ∷ xs) ys h = All-cons P x xs (All-head P x (xs ++ ys) h) (all_front P xs ys (All-tail P x (xs ++ ys) h))

as_listable : (own : Option ℕ → Bool) (number : ℕ) (job : JobView) → IsListable job → IsListable (as_in own number job)
as_listable own number job h = record {
  name = h.name;
  account_name = h.account_name;
  cards = record { library = h.cards.library; deck = h.cards.deck; data_cards = h.cards.data_cards };
  fit = λ e. record { cards = (h.fit e).cards; steps = (h.fit e).steps; lines = (h.fit e).lines };
}

numbered_listable : (own : Option ℕ → Bool) (number : ℕ) (jobs : List JobView) → All IsListable jobs → All IsListable (numbered_in own number jobs)
numbered_listable own number [] h = All-nil IsListable
numbered_listable own number (job ∷ jobs) h =
    All-cons IsListable (as_in own number job) (numbered_in own (number + 1) jobs)
    (as_listable own number job (All-head IsListable job jobs h)) (numbered_listable own (number + 1) jobs (All-tail IsListable job jobs h))

one_of : (b : Bool) (x : Account) (xs : List Account) → NameHolds x → All NameHolds xs → All NameHolds (cond b (x ∷ xs) xs)
one_of true x xs h k = All-cons NameHolds x xs h k
one_of false x xs h k = k

part_names : (own : Option ℕ → Bool) (n : ℕ) (accounts : List Account) → All NameHolds accounts → All NameHolds (part_from own n accounts)
part_names own n [] h = All-nil NameHolds
part_names own n (x ∷ xs) h = one_of (own (Some n)) x (part_from own (n + 1) xs) (All-head NameHolds x xs h) (part_names own (n + 1) xs (All-tail NameHolds x xs h))

closed_names : (openings : List ℕ) (jobs : List JobView) (n : ℕ) (accounts : List Account) → All NameHolds accounts
    → All NameHolds (map (λ p. closed_account openings jobs p.0 p.1) (enumerate_from n accounts))
closed_names openings jobs n [] h = All-nil NameHolds
closed_names openings jobs n (x ∷ xs) h =
    All-cons NameHolds (closed_account openings jobs n x) (map (λ p. closed_account openings jobs p.0 p.1) (enumerate_from (n + 1) xs))
    (All-head NameHolds x xs h) (closed_names openings jobs (n + 1) xs (All-tail NameHolds x xs h))

comes_apart : SectionsHaveForm → (chain : ℕ → ℕ) (c : ℕ) (accounts : List Account) (earlier jobs : List JobView) (stray : ℕ) → All NameHolds accounts → All IsListable jobs
    → IsApart (record (part_of chain c accounts earlier jobs) { stray = stray })
comes_apart forms chain c accounts earlier jobs stray names here =
    let own = in_chain chain c in
    batches_are_apart forms (record (part_of chain c accounts earlier jobs) { stray = stray }) (record {
      accounts = part_names own 0 (closed_accounts (openings_of accounts) earlier accounts) (closed_names (openings_of accounts) earlier 0 accounts names);
      jobs = numbered_listable own 1 (filter (is_in own) jobs) (All-filter (is_in own) IsListable jobs here);
    })

-- ---- its closing lines

-- the closing lines of accounts that open with what earlier jobs leave
closings_behind : (own : Option ℕ → Bool) (openings : List ℕ) (earlier jobs : List JobView) (accounts : List Account) (n : ℕ)
    → closing_in own n openings jobs (map (λ p. closed_account openings earlier p.0 p.1) (enumerate_from n accounts))
    ≡ closings_in own n (place_balance openings (map charged earlier)) (place_balance openings (map charged jobs)) accounts
closings_behind own openings earlier jobs [] n = refl
closings_behind own openings earlier jobs (a ∷ accounts) n =
    let rest = closings_behind own openings earlier jobs accounts (n + 1) in
    λ i. cond (own (Some n)) (closing_line (closed_account openings earlier n a) (place_balance openings (map charged jobs) n) ++ rest i) (rest i)

-- below the same sections stand the same lines
below_same : (above sections sections' one other : List ℕ) → above ++ sections ++ one ≡ above ++ sections' ++ other → sections ≡ sections' → one ≡ other
below_same above sections sections' one other e same =
    append_cancel_left (above ++ sections') one other (ap (λ (text : List ℕ). above ++ text ++ one) (sym same) ∙ e)

-- so these are the same
lines_same : (one other : List ℕ) (stray : ℕ) → closing one stray ≡ closing other stray → one ≡ other
lines_same one other stray e =
    append_cancel_left closing_title one other (append_cancel_right (closing_title ++ one) (closing_title ++ other) (stray_line stray) e)

part_closings : (chain : ℕ → ℕ) (c : ℕ) (accounts : List Account) (earlier jobs : List JobView)
    → closing_lines (openings_of (part_of chain c accounts earlier jobs).accounts) (part_of chain c accounts earlier jobs).jobs (part_of chain c accounts earlier jobs).accounts
    ≡ closings_in (in_chain chain c) 0 (left_after accounts earlier) (left_after accounts (earlier ++ jobs)) accounts
part_closings chain c accounts earlier jobs =
    let own = in_chain chain c in
    let openings = openings_of accounts in
    let part = part_of chain c accounts earlier jobs in
    let lines = closing_lines (openings_of part.accounts) part.jobs part.accounts in
    let lines' = closing_in own 0 openings (earlier ++ jobs) (closed_accounts openings earlier accounts) in
    let same : sections (openings_of (part_of chain c accounts earlier jobs).accounts) (part_of chain c accounts earlier jobs).jobs ≡ numbered_from 1 (rests_in (in_chain chain c) (openings_of accounts) earlier jobs) =
    sections_are (openings_of part.accounts) part.jobs
    ∙ ap (λ (texts : List (List ℕ)). flat_map (λ text. text) texts) (part_texts chain c accounts earlier jobs)
    ∙ numbered_texts 1 (rests_in own openings earlier jobs) in
    lines_same lines lines' 0
    (below_same heading (sections (openings_of part.accounts) part.jobs) (numbered_from 1 (rests_in own openings earlier jobs)) (closing lines 0) (closing lines' 0)
    (part_listing chain c accounts earlier jobs) same)
    ∙ closings_behind own openings earlier (earlier ++ jobs) accounts 0

-- ---- both

pub parts_are_apart : SectionsHaveForm → PartsAreApart
parts_are_apart forms chain c accounts bytes earlier jobs more stray names e =
    let night_holds = inputs_hold (Some accounts) bytes names in
    let all : All IsListable (earlier ++ (jobs ++ more)) = subst (All IsListable) e night_holds.jobs in
    let here : All IsListable jobs = all_front IsListable jobs more (all_behind IsListable earlier (jobs ++ more) all) in
    let apart = comes_apart forms chain c accounts earlier jobs stray names here in
    record {
      up = apart.up;
      closing_part = apart.closing_part;
      sections_part = apart.sections_part;
      upward = apart.upward;
      form = apart.form;
      sections_are = apart.sections_are ∙ part_texts chain c accounts earlier jobs;
      closing_is = apart.closing_is ∙ ap (λ (lines : List ℕ). closing lines stray) (part_closings chain c accounts earlier jobs);
    }
