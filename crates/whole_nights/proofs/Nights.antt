-- A night that is cut, run in parts, and joined again.
use Rattle.std.proofs.Common.{◌≡◌, ℕ, zero, suc, ◌+◌, ◌-◌, ◌<◌, ◌≤◌, ◌^◌, List, [], ◌++◌, Option, Some, length, take, drop, get_or, filter, map, refl, sym, ap, subst, ◌∙◌, append-nil, arith}
use Rattle.std.specs.List.{AllByRecursion}
use Rattle.std.proofs.lemmas.List.{length-map}
use Rattle.deck_reader.specs.declared.batch.Account.{Account}
use Rattle.deck_reader.specs.Batch.{batch_with}
use Rattle.deck_reader.specs.Cards.{pieces}
use Rattle.deck_reader.specs.JobView.{JobView}
use Rattle.account_book.specs.BookView.{openings_of}
use Rattle.account_shares.specs.Shares.{is_in}
use Rattle.accounts_text.proofs.Members.{one_list}
use Rattle.batch_listing.specs.Listing.{closing_accounts_of, listing_of, listing_with}
use Rattle.night_forms.specs.Laws.{PartsAreApart}
use Rattle.night_forms.proofs.Joined.{jobs_are_counted, parts_are_counted}
use Rattle.night_listings.specs.Nights.{in_chain, jobs_of_windows, night, part_of}
use Rattle.night_merge.specs.declared.shelf.Part.{Part}
use Rattle.night_shares.specs.Chains.{accounts_of_chain}
use Rattle.night_shares.specs.Filing.{Filing, night_libraries, night_windows}
use Rattle.night_shares.specs.Jobs.{NightJob, jobs_of_lines}
use Rattle.night_shares.specs.Nights.{IsCut}
use Rattle.night_shares.specs.Plan.{chain_of}
use Rattle.night_shares.specs.Windows.{room_behind}
use Rattle.night_shares.proofs.PlanTexts.{plan_is_whole}
use Rattle.night_shares.proofs.WindowJobs.{jobs_are_the_nights, windows_are_the_jobs}
use Rattle.whole_nights.specs.Plans.{plan_of}
use Rattle.whole_nights.specs.Joining.{ArePartListings, IsPlannable, StatesAccounts, jobs_before, jobs_in_window, night_balances, night_rests}
use Rattle.whole_nights.specs.Parts.{accounts_then, filed_cards, part_cards, part_jobs, views_of}
use Rattle.whole_nights.specs.Whole.{AreRun, NightsAreWhole}
use Rattle.whole_nights.proofs.ChainAccounts.{chains_go_on, chains_open}
use Rattle.whole_nights.proofs.Cuts.{flat, next_jobs, parted_at, views_at, views_before, views_flat, views_short, windows_short}
use Rattle.whole_nights.proofs.FiledParts.{openings_are_filed, parts_are_filed}
use Rattle.whole_nights.proofs.NightJoins.{nights_are_joined}
use Rattle.whole_nights.proofs.PartCards.{HasText, cards_some, parts_are_batches, texts_some, views_chosen}
use Rattle.whole_nights.proofs.PlanTexts.{plans_are_one}

module _ (chains : ℕ) (accounts : List Account) (bytes : List ℕ) (known : Part → Option (List ℕ)) (stated : ℕ → ℕ → List Account) (filings : List Filing)
    (cut : IsCut chains accounts bytes filings) (run : AreRun chains filings known stated) where
  abbrev windows : List (List NightJob)
  windows = night_windows accounts (pieces bytes)

  abbrev views : List (List JobView)
  views = map views_of windows

  whole : flat windows ≡ jobs_of_lines accounts (pieces bytes)
  whole = windows_are_the_jobs accounts (pieces bytes)

  as_many : length views ≡ length windows
  as_many = length-map windows views_of

  place : (number : ℕ) → 0 < number → number ≤ length windows → number - 1 < length windows
  place number first within = omega (arith, first, within)

  -- the batch of a part
  part_is : (chain number : ℕ) → 0 < number → number ≤ length windows
      → batch_with (Some (accounts_then chains chain accounts (jobs_before views number))) (part_cards chains accounts bytes chain number)
      ≡ part_of (chain_of chains) chain accounts (jobs_before views number) (jobs_in_window views number)
  part_is chain number first within =
      let n = number - 1 in
      let earlier = flat (take n windows) in
      let window = get_or windows n [] in
      let more = flat (drop (suc n) windows) in
      let here : jobs_of_lines accounts (pieces bytes) ≡ earlier ++ (window ++ more) = sym whole ∙ parted_at windows n (place number first within) in
      let before : views_of earlier ≡ jobs_before views number = views_before windows n in
      let own : views_of window ≡ jobs_in_window views number = views_at windows n in
      ap (λ (js : List JobView). batch_with (Some (accounts_then chains chain accounts js)) (part_cards chains accounts bytes chain number)) (sym before)
      ∙ parts_are_batches chains chain accounts bytes earlier window more here
      ∙ ap (λ (js : List JobView). part_of (chain_of chains) chain accounts js (views_of window)) before
      ∙ ap (part_of (chain_of chains) chain accounts (jobs_before views number)) own

  next_before : (number : ℕ) → 0 < number → number ≤ length windows → jobs_before views (number + 1) ≡ jobs_before views number ++ jobs_in_window views number
  next_before number first within =
      let n = number - 1 in
      let less : n < length views = omega (arith, place number first within, as_many) in
      let at : number + 1 - 1 ≡ suc n = omega (arith, first) in
      ap (λ (k : ℕ). jobs_of_windows (take k views)) at ∙ next_jobs views n less

  opens : (chain : ℕ) → chain < chains → stated chain 1 ≡ accounts_of_chain chains chain accounts
  opens chain less =
      let filed = openings_are_filed chains accounts bytes filings chain cut less in
      one_list filed.0 (stated chain 1) (accounts_of_chain chains chain accounts) (run.opened chain filed.0 less filed.1) filed.2

  cards_are : (chain number : ℕ) → chain < chains → 0 < number → number ≤ length windows → filed_cards filings chain number ≡ part_cards chains accounts bytes chain number
  cards_are chain number less first within = parts_are_filed chains accounts bytes filings chain number cut less first within

  -- the accounts of a chain before a window
  stated_at : (k number chain : ℕ) → number ≡ k + 1 → k ≤ length windows → chain < chains → stated chain number ≡ accounts_then chains chain accounts (jobs_before views number)
  stated_at zero number chain at within less =
      let one : number ≡ 1 = omega (arith, at) in
      subst (λ (m : ℕ). stated chain m ≡ accounts_then chains chain accounts (jobs_before views m)) (sym one)
      (opens chain less ∙ sym (chains_open chains chain accounts))
  stated_at (suc k) number chain at within less =
      let prev = k + 1 in
      let next : prev + 1 ≡ number = omega (arith, at) in
      let first : 0 < prev = omega arith in
      let there : prev ≤ length windows = omega (arith, within) in
      let before = stated_at k prev chain refl (omega (arith, within)) less in
      let goes : stated chain (prev + 1) ≡ accounts_then chains chain accounts (jobs_before views (prev + 1)) =
      run.went_on chain prev less first
      ∙ ap (λ (text : List ℕ). closing_accounts_of (batch_with (Some (stated chain prev)) text)) (cards_are chain prev less first there)
      ∙ ap (λ (then : List Account). closing_accounts_of (batch_with (Some then) (part_cards chains accounts bytes chain prev))) before
      ∙ ap closing_accounts_of (part_is chain prev first there)
      ∙ chains_go_on chains chain accounts (jobs_before views prev) (jobs_in_window views prev)
      ∙ ap (accounts_then chains chain accounts) (sym (next_before prev first there)) in
      subst (λ (m : ℕ). stated chain m ≡ accounts_then chains chain accounts (jobs_before views m)) next goes

  listings : ArePartListings chains accounts views known
  listings number chain text first within less some there =
      let within' : number ≤ length windows = omega (arith, within, as_many) in
      let own = in_chain (chain_of chains) chain in
      let jobs = jobs_in_window views number in
      let window = get_or windows (number - 1) [] in
      let n : number ≡ number - 1 + 1 = omega (arith, first) in
      let counted = parts_are_counted (chain_of chains) chain (openings_of accounts) (jobs_before views number) jobs in
      let chosen = jobs_are_counted (chain_of chains) chain jobs in
      let same : length (filter (is_in own) jobs) ≡ length (part_jobs chains accounts bytes chain number) =
      ap (λ (js : List JobView). length (filter (is_in own) js)) (sym (views_at windows (number - 1)))
      ∙ ap length (sym (views_chosen chains chain window))
      ∙ length-map (part_jobs chains accounts bytes chain number) (λ (j : NightJob). j.job) in
      let has : 0 < length (part_jobs chains accounts bytes chain number) = omega (arith, some, counted, chosen, same) in
      let at = number - 1 in
      let here : jobs_of_lines accounts (pieces bytes) ≡ flat (take at windows) ++ (window ++ flat (drop (suc at) windows)) = sym whole ∙ parted_at windows at (place number first within') in
      let cards : 0 < length (part_cards chains accounts bytes chain number) =
      cards_some chains chain (night_libraries accounts (pieces bytes)) (flat (take at windows)) window (flat (drop (suc at) windows)) (subst (AllByRecursion HasText) here (texts_some accounts bytes)) has in
      let filed = cards_are chain number less first within' in
      let some_filed : 0 < length (filed_cards filings chain number) = omega (arith, cards, ap length filed) in
      let said = run.listed chain number text less first some_filed there in
      let before = stated_at (number - 1) number chain n (omega (arith, within')) less in (
        0,
        said
            ∙ ap (listing_with (Some (stated chain number))) filed
            ∙ ap (λ (then : List Account). listing_with (Some then) (part_cards chains accounts bytes chain number)) before
            ∙ ap listing_of (part_is chain number first within'),
      )

pub nights_are_whole : PartsAreApart → NightsAreWhole
nights_are_whole apart chains accounts bytes filings known stated listing balances rules room cut run joins =
    let all = night_windows accounts (pieces bytes) in
    let vs = map views_of all in
    let stray = (night accounts bytes).stray in
    let whole_is : flat all ≡ jobs_of_lines accounts (pieces bytes) = windows_are_the_jobs accounts (pieces bytes) in
    let jobs_are : (night accounts bytes).jobs ≡ jobs_of_windows vs = sym (jobs_are_the_nights accounts bytes) ∙ ap views_of (sym whole_is) ∙ views_flat all in
    let many : length all ≡ length vs = sym (length-map all views_of) in
    let plannable : IsPlannable chains accounts vs stray = record {
      some_chain = room.some_chain;
      few_chains = room.few_chains;
      few_accounts = room.few_accounts;
      few_windows = subst (λ (k : ℕ). k < 2 ^ 32 - 2) many room.few_windows;
      few_jobs = views_short all (windows_short (room_behind (night_libraries accounts (pieces bytes))) (jobs_of_lines accounts (pieces bytes)));
      few_stray = room.few_stray;
    } in
    let joined = nights_are_joined apart chains accounts bytes vs known rules jobs_are plannable (listings chains accounts bytes known stated filings cut run) in
    let filed = plan_is_whole chains accounts bytes filings cut ∙ sym (plans_are_one chains accounts vs stray) in
    let told = joins (plan_of chains accounts vs stray) [] (night_rests chains accounts vs) (night_balances accounts vs) (filed ∙ sym (append-nil _)) joined.is_night in
    (told.0 ∙ joined.listing, subst (λ (text : List ℕ). StatesAccounts text (closing_accounts_of (night accounts bytes))) (sym told.1) joined.balances)
