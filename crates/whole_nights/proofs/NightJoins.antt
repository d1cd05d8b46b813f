-- A night joined from its plan and the listings of its parts.
use Rattle.std.proofs.Common.{◌≡◌, ℕ, ◌+◌, ◌-◌, ◌<◌, ◌≤◌, ◌%◌, ◌^◌, true, List, [], ◌∷◌, ◌++◌, All, Option, Some, length, get_or, filter, map, refl, sym, ap, subst, ◌∙◌, append_assoc, append-nil, arith, length-append}
use Rattle.std.specs.List.{AllByRecursion, list_all}
use Rattle.std.proofs.lemmas.List.{length-map}
use Rattle.std.proofs.lemmas.List.Folds.{list_all-append}
use Rattle.deck_reader.specs.declared.batch.Account.{Account}
use Rattle.deck_reader.specs.Cards.{cards}
use Rattle.deck_reader.specs.JobView.{JobView}
use Rattle.account_book.specs.BookView.{openings_of}
use Rattle.account_shares.proofs.Cut.{flaws_or_accounts}
use Rattle.batch_listing.specs.Listing.{listing_of}
use Rattle.batch_listing.specs.Listing as batch
use Rattle.batch_listing.specs.Texts as texts
use Rattle.listing_forms.specs.Laws.{NameHolds}
use Rattle.listing_parts.specs.Lines.{IsUpward}
use Rattle.night_forms.specs.Joining.{IsPartApart, closings_in, is_next, joined_windows, left_after, planned, windows_behind}
use Rattle.night_forms.specs.Laws.{PartsAreApart}
use Rattle.night_forms.proofs.Closings.{balances_fall, idle_chains_keep}
use Rattle.night_forms.proofs.Joined.{night_joined, parts_are_counted, rests_begin}
use Rattle.night_listings.specs.Nights.{in_chain, jobs_of_windows, night, part_of, rests_in}
use Rattle.night_merge.specs.declared.shelf.Part.{Part}
use Rattle.night_merge.specs.Entries.{count_of}
use Rattle.night_merge.specs.Joining.{IsWindow}
use Rattle.night_merge.specs.Nights.{AreWindows, windows_joined}
use Rattle.night_merge.specs.Parts.{IsPart}
use Rattle.night_merge.specs.Texts.{balances_file, chain_lines, closing, closing_lines}
use Rattle.night_shares.specs.Plan.{chain_of}
use Rattle.toml.specs.Parse.{parse_document}
use Rattle.whole_nights.specs.Plans.{AreAllListed, entries_of}
use Rattle.whole_nights.specs.Joining.{ArePartListings, NightsAreJoined, jobs_before, jobs_in_window, night_balances, night_rests}
use Rattle.whole_nights.proofs.Documents.{IsLess, document_of, file_left, opens_with, rules_left, with_left}
use Rattle.whole_nights.proofs.Said.{names_hold, plans_are_said}
use Rattle.whole_nights.proofs.SameJoins.{all_joined, and_left, and_right, before_is, can_stand, entries_many, jobs_below, jobs_counted, jobs_push, push_long, window_is}
use Rattle.whole_nights.proofs.SameTexts.{chain_same, closing_same, each_same, heading_same, lines_same}

-- ---- a part

part_is : (chains chain : ℕ) (accounts : List Account) (earlier jobs : List JobView) (stray : ℕ) (text : List ℕ) → text ≡ listing_of (record (part_of (chain_of chains) chain accounts earlier jobs) { stray = stray })
    → IsPartApart (chain_of chains) chain accounts earlier jobs stray
    → IsPart text (rests_in (in_chain (chain_of chains) chain) (openings_of accounts) earlier jobs) (chain_lines chains chain (left_after accounts earlier) (left_after accounts (earlier ++ jobs)) 0 accounts)
part_is chains chain accounts earlier jobs stray text is apart =
    let own = in_chain (chain_of chains) chain in
    let before = left_after accounts earlier in
    let after = left_after accounts (earlier ++ jobs) in
    record {
      up = apart.up;
      closing_part = apart.closing_part;
      sections_part = apart.sections_part;
      stray = stray;
      upward = subst (λ (t : List ℕ). IsUpward t apart.up) (sym is) apart.upward;
      form = apart.form;
      sections_are = apart.sections_are ∙ sym (each_same 1 (rests_in own (openings_of accounts) earlier jobs));
      closing_is = apart.closing_is ∙ sym (closing_same (closings_in own 0 before after accounts) stray) ∙ ap (λ (lines : List ℕ). closing lines stray) (sym (chain_same chains chain before after 0 accounts));
      blanks = rests_begin own (openings_of accounts) earlier jobs;
    }

-- ---- its windows

jobs_parted : (front rest : List (List JobView)) → jobs_of_windows (front ++ rest) ≡ jobs_of_windows front ++ jobs_of_windows rest
jobs_parted [] rest = refl
jobs_parted (window ∷ front) rest = ap (λ (js : List JobView). window ++ js) (jobs_parted front rest) ∙ sym (append_assoc window (jobs_of_windows front) (jobs_of_windows rest))

module _ (apart : PartsAreApart) (chains : ℕ) (some : 0 < chains) (accounts : List Account) (names : All NameHolds accounts) (bytes : List ℕ) (all : List (List JobView)) (known : Part → Option (List ℕ))
    (jobs_are : (night accounts bytes).jobs ≡ jobs_of_windows all) (listings : ArePartListings chains accounts all known) where
  window_ok : (front : List (List JobView)) (window : List JobView) (rest : List (List JobView)) (number : ℕ) → all ≡ front ++ window ∷ rest → number ≡ length front + 1
      → IsWindow chains accounts known number (entries_of chains window) (night_rests chains accounts all number) (night_balances accounts all number) (night_balances accounts all (number + 1))
  window_ok front window rest number whole at =
      let earlier = jobs_before all number in
      let jobs = jobs_in_window all number in
      let more = jobs_of_windows rest in
      let earlier_is : earlier ≡ jobs_of_windows front = before_is all front (window ∷ rest) number whole at in
      let jobs_is : jobs ≡ window = window_is all front window rest number whole at in
      let next_whole : all ≡ (front ++ window ∷ []) ++ rest = whole ∙ sym (append_assoc front (window ∷ []) rest) in
      let next_at : number + 1 ≡ length (front ++ window ∷ []) + 1 = omega (arith, at, push_long front window) in
      let both : earlier ++ jobs ≡ jobs_of_windows front ++ window = λ i. earlier_is i ++ jobs_is i in
      let next : jobs_before all (number + 1) ≡ earlier ++ jobs = before_is all (front ++ window ∷ []) rest (number + 1) next_whole next_at ∙ jobs_push front window ∙ sym both in
      let parted : (night accounts bytes).jobs ≡ earlier ++ (jobs ++ more) =
      jobs_are ∙ ap jobs_of_windows whole ∙ jobs_parted front (window ∷ rest) ∙ (λ i. sym earlier_is i ++ (sym jobs_is i ++ more)) in
      let long : length all ≡ length front + length (window ∷ rest) = ap length whole ∙ length-append front (window ∷ rest) in
      let within : number ≤ length all = omega (arith, at, long) in
      let first : 0 < number = omega (arith, at) in
      let counted : (chain : ℕ) → length (filter (is_next chain) (map (planned (chain_of chains)) jobs)) ≡ count_of chain (entries_of chains window) =
      λ chain. ap (λ (js : List JobView). length (filter (is_next chain) (map (planned (chain_of chains)) js))) jobs_is ∙ sym (jobs_counted chains chain window) in
      record {
        below = jobs_below chains window some;
        counted = λ chain less. parts_are_counted (chain_of chains) chain (openings_of accounts) earlier jobs ∙ counted chain;
        parts = λ chain text less has there.
            let many : 0 < length (night_rests chains accounts all number chain) = omega (arith, has, parts_are_counted (chain_of chains) chain (openings_of accounts) earlier jobs, counted chain) in
            let told = listings number chain text first within less many there in
            subst (λ (js : List JobView). IsPart text (night_rests chains accounts all number chain) (chain_lines chains chain (left_after accounts earlier) (left_after accounts js) 0 accounts)) (sym next)
            (part_is chains chain accounts earlier jobs told.0 text told.1 (apart (chain_of chains) chain accounts bytes earlier jobs more told.0 names parted));
        falls = λ k less. subst (λ (js : List JobView). left_after accounts js k ≤ left_after accounts earlier k) (sym next) (balances_fall accounts earlier jobs k);
        stays = λ account less idle. ap (λ (js : List JobView). left_after accounts js account) next ∙ idle_chains_keep (chain_of chains) accounts earlier jobs account (counted (account % chains) ∙ idle);
      }

  windows_ok : (front rest : List (List JobView)) (number : ℕ) → all ≡ front ++ rest → number ≡ length front + 1 → AllByRecursion (λ jobs. length jobs ≤ 2000) rest
      → AreAllListed (map (entries_of chains) rest) → list_all can_stand (jobs_of_windows rest) ≡ true
      → AreWindows chains accounts known (night_rests chains accounts all) (night_balances accounts all) number (map (entries_of chains) rest)
  windows_ok front [] number whole at few listed stand = tt
  windows_ok front (window ∷ rest) number whole at few listed stand =
      let both = sym (list_all-append can_stand window (jobs_of_windows rest)) ∙ stand in
      let here_stands : list_all can_stand window ≡ true = and_left (list_all can_stand window) (list_all can_stand (jobs_of_windows rest)) both in
      let rest_stands : list_all can_stand (jobs_of_windows rest) ≡ true = and_right (list_all can_stand window) (list_all can_stand (jobs_of_windows rest)) both in
      let next_whole : all ≡ (front ++ window ∷ []) ++ rest = whole ∙ sym (append_assoc front (window ∷ []) rest) in
      let next_at : number + 1 ≡ length (front ++ window ∷ []) + 1 = omega (arith, at, push_long front window) in
      let many : length (entries_of chains window) ≡ length window = entries_many chains window here_stands in
      let short : length window ≤ 2000 = few.0 in
      (listed.0, omega (arith, many, short), window_ok front window rest number whole at, windows_ok (front ++ window ∷ []) rest (number + 1) next_whole next_at few.1 listed.1 rest_stands)

-- ---- what accounts open with

falls_below : (accounts : List Account) (jobs : List JobView) → IsLess (left_after accounts jobs) 0 accounts
falls_below accounts jobs number account at =
    let opens : get_or (openings_of accounts) number 0 ≡ account.opening = opens_with accounts number account at in
    let less : left_after accounts jobs number ≤ get_or (openings_of accounts) number 0 = balances_fall accounts [] jobs number in
    let plain : number ≡ 0 + number = omega arith in
    let under : left_after accounts jobs number ≤ account.opening = subst (λ (n : ℕ). left_after accounts jobs number ≤ n) opens less in
    subst (λ (n : ℕ). left_after accounts jobs n ≤ account.opening) plain under

-- ---- the night

pub nights_are_joined : PartsAreApart → NightsAreJoined
nights_are_joined apart chains accounts bytes windows known rules jobs_are room listings =
    let openings = openings_of accounts in
    let stray = (night accounts bytes).stray in
    let jobs = (night accounts bytes).jobs in
    let said = plans_are_said chains accounts bytes windows room.some_chain room.few_chains rules jobs_are in
    let stand : list_all can_stand (jobs_of_windows windows) ≡ true = ap (list_all can_stand) (sym jobs_are) ∙ flaws_or_accounts (Some accounts) (cards bytes) in
    let names = names_hold accounts rules.each in
    let long : length (map (entries_of chains) windows) ≡ length windows = length-map windows (entries_of chains) in
    let last_at : 1 + length (map (entries_of chains) windows) ≡ length windows + 1 = omega (arith, long) in
    let last : jobs_before windows (1 + length (map (entries_of chains) windows)) ≡ jobs_of_windows windows = before_is windows windows [] (1 + length (map (entries_of chains) windows)) (sym (append-nil windows)) last_at in
    let left : night_balances accounts windows (1 + length (map (entries_of chains) windows)) ≡ left_after accounts jobs = ap (left_after accounts) (last ∙ sym jobs_are) in
    let lines : closing_lines (left_after accounts jobs) 0 accounts ≡ batch.closing_lines openings (jobs_of_windows windows) accounts =
    lines_same accounts jobs ∙ ap (λ (js : List JobView). batch.closing_lines openings js accounts) jobs_are in
    let sections : windows_joined 1 1 (night_rests chains accounts windows) (map (entries_of chains) windows) ≡ joined_windows 1 (windows_behind (chain_of chains) openings [] windows) =
    all_joined chains accounts windows [] windows 1 1 refl refl stand in
    let closes : closing (closing_lines (night_balances accounts windows (1 + length (map (entries_of chains) windows))) 0 accounts) stray ≡ texts.closing (batch.closing_lines openings (jobs_of_windows windows) accounts) stray =
    ap (λ (b : ℕ → ℕ). closing (closing_lines b 0 accounts) stray) left ∙ ap (λ (ls : List ℕ). closing ls stray) lines ∙ closing_same (batch.closing_lines openings (jobs_of_windows windows) accounts) stray in
    let document = file_left (left_after accounts jobs) accounts in
    let next_rules = rules_left (left_after accounts jobs) accounts rules (falls_below accounts jobs) in
    record {
      is_night = record {
        some_chain = room.some_chain;
        few_chains = room.few_chains;
        opened = said.0;
        few_accounts = room.few_accounts;
        few_windows = few_of (length (map (entries_of chains) windows)) (length windows) long room.few_windows;
        few_stray = room.few_stray;
        opens = opens_with accounts;
        windows = windows_ok apart chains room.some_chain accounts names bytes windows known jobs_are listings [] windows 1 refl refl room.few_jobs said.1 stand;
      };
      listing = (λ i. heading_same i ++ (sections i ++ closes i))
          ∙ sym (append_assoc texts.heading (joined_windows 1 (windows_behind (chain_of chains) openings [] windows)) (texts.closing (batch.closing_lines openings (jobs_of_windows windows) accounts) stray))
          ∙ sym (night_joined (chain_of chains) accounts bytes windows jobs_are);
      balances = record {
        document = ap (λ (b : ℕ → ℕ). parse_document (balances_file b accounts)) left ∙ ap parse_document document ∙ document_of (with_left (left_after accounts jobs) 0 accounts) next_rules;
        rules = next_rules;
      };
    }
  where
    few_of : (m n : ℕ) → m ≡ n → n < 2 ^ 32 - 2 → m < 2 ^ 32 - 2
    few_of m n same less = subst (λ (k : ℕ). k < 2 ^ 32 - 2) (sym same) less
