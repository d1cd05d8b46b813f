-- The parts of a night among the texts that are filed.
use Rattle.std.proofs.Common.{◌≡◌, ℕ, zero, suc, ◌+◌, ◌-◌, ◌<◌, ◌≤◌, ◌==◌, ◌&&◌, Bool, true, false, cond, Contains, List, [], ◌∷◌, ◌++◌, length, get_or, flat_map, refl, sym, ap, subst, ◌∙◌, append-nil, arith}
use Rattle.std.specs.List.{range_with_len}
use Rattle.std.proofs.lemmas.Bool.Decides.{nat_tests}
use Rattle.std.proofs.lemmas.Grind.{flat_map-append}
use Rattle.std.proofs.lemmas.List.Elements.{Contains-append_left, Contains-append_right, Contains-push}
use Rattle.deck_reader.specs.declared.batch.Account.{Account}
use Rattle.deck_reader.specs.Cards.{pieces}
use Rattle.accounts_text.specs.Text.{AccountsList}
use Rattle.night_shares.specs.declared.shelf.Part.{Part}
use Rattle.night_shares.specs.declared.shelf.NightFile.TheVariants as file
use Rattle.night_shares.specs.Chains.{accounts_of_chain}
use Rattle.night_shares.specs.Filing.{Filing, filed_unless_empty, night_filings, night_libraries, night_windows, part_filing, window_filings, windows_filings}
use Rattle.night_shares.specs.Jobs.{NightJob, strays_of_lines}
use Rattle.night_shares.specs.Nights.{IsCut}
use Rattle.night_shares.specs.Openings.{AreOpenings, no_more, one_more}
use Rattle.night_shares.specs.Plan.{front_rows, last_row, window_rows}
use Rattle.night_shares.specs.Windows.{jobs_of_chain, part_text}
use Rattle.whole_nights.specs.Parts.{HasOpenings, OpeningsAreFiled, PartsAreFiled, cards_piece, filed_cards, views_of}

-- ---- one part

module _ (chain number : ℕ) where
  cards_both : (xs ys : List Filing) → filed_cards (xs ++ ys) chain number ≡ filed_cards xs chain number ++ filed_cards ys chain number
  cards_both xs ys = flat_map-append (λ (f : Filing). cards_piece chain number f.file f.text) xs ys

  no_text : (v : Bool) → cond {A = List ℕ} v [] [] ≡ []
  no_text true = refl
  no_text false = refl

  one_part : (part : Part) (text : List ℕ) → filed_cards (filed_unless_empty (file.Cards part) text) chain number ≡ cond (part.chain == chain + 1 && part.window == number) text []
  one_part part [] = sym (no_text (part.chain == chain + 1 && part.window == number))
  one_part part (b ∷ text) = append-nil (cond (part.chain == chain + 1 && part.window == number) (b ∷ text) [])

  of_this : (part : Part) (text : List ℕ) → part.chain ≡ chain + 1 → part.window ≡ number → filed_cards (filed_unless_empty (file.Cards part) text) chain number ≡ text
  of_this part text is same =
      let this : (part.chain == chain + 1) ≡ true = grind (arith, nat_tests) in
      let there : (part.window == number) ≡ true = grind (arith, nat_tests) in
      one_part part text ∙ ap (λ (v : Bool). cond (v && part.window == number) text []) this ∙ ap (λ (v : Bool). cond v text []) there

  of_other_chain : (part : Part) (text : List ℕ) → (part.chain ≡ chain + 1 → ⊥) → filed_cards (filed_unless_empty (file.Cards part) text) chain number ≡ []
  of_other_chain part text differs =
      let other : (part.chain == chain + 1) ≡ false = grind (arith, nat_tests) in
      one_part part text ∙ ap (λ (v : Bool). cond (v && part.window == number) text []) other

  of_other_window : (part : Part) (text : List ℕ) → (part.window ≡ number → ⊥) → filed_cards (filed_unless_empty (file.Cards part) text) chain number ≡ []
  of_other_window part text differs =
      let other : (part.window == number) ≡ false = grind (arith, nat_tests) in
      one_part part text ∙ ap (λ (v : Bool). cond (part.chain == chain + 1 && v) text []) other ∙ ap (λ (v : Bool). cond v text []) (none_of (part.chain == chain + 1))
    where
      none_of : (v : Bool) → (v && false) ≡ false
      none_of true = refl
      none_of false = refl

  module _ (chains : ℕ) (libraries : List ℕ) where
    abbrev text_in : List NightJob → List ℕ
    text_in window = part_text libraries (jobs_of_chain chains chain window)

    -- chains behind this one
    behind_chain : (other : ℕ) (window : List NightJob) (from many : ℕ) → chain < from → filed_cards (flat_map (part_filing chains libraries other window) (range_with_len from many)) chain number ≡ []
    behind_chain other window from zero above = refl
    behind_chain other window from (suc many) above =
        cards_both (part_filing chains libraries other window from) (flat_map (part_filing chains libraries other window) (range_with_len (from + 1) many))
        ∙ ap (λ (t : List ℕ). t ++ filed_cards (flat_map (part_filing chains libraries other window) (range_with_len (from + 1) many)) chain number)
        (of_other_chain (record { chain = from + 1; window = other }) (part_text libraries (jobs_of_chain chains from window)) (λ same. omega (arith, above, same)))
        ∙ behind_chain other window (from + 1) many (omega (arith, above))

    chain_by : (v : Bool) (window : List NightJob) (from many : ℕ) → (from == chain) ≡ v
        → (from + 1 ≤ chain → filed_cards (flat_map (part_filing chains libraries number window) (range_with_len (from + 1) many)) chain number ≡ text_in window)
        → from ≤ chain → filed_cards (part_filing chains libraries number window from) chain number ++ filed_cards (flat_map (part_filing chains libraries number window) (range_with_len (from + 1) many)) chain number ≡ text_in window
    chain_by true window from many is rest low =
        let same : from ≡ chain = grind (arith, nat_tests) in
        let next : from + 1 ≡ chain + 1 = omega (arith, same) in
        let here : filed_cards (part_filing chains libraries number window from) chain number ≡ text_in window =
        of_this (record { chain = from + 1; window = number }) (part_text libraries (jobs_of_chain chains from window)) next refl ∙ ap (λ (c : ℕ). part_text libraries (jobs_of_chain chains c window)) same in
        let behind = behind_chain number window (from + 1) many (omega (arith, same)) in
        (λ i. here i ++ behind i) ∙ append-nil (text_in window)
    chain_by false window from many is rest low =
        let above : from + 1 ≤ chain = grind (arith, nat_tests) in
        let here = of_other_chain (record { chain = from + 1; window = number }) (part_text libraries (jobs_of_chain chains from window)) (λ same. omega (arith, above, same)) in
        let behind = rest above in
        λ i. here i ++ behind i

    at_chain : (window : List NightJob) (from many : ℕ) → from ≤ chain → chain < from + many → filed_cards (flat_map (part_filing chains libraries number window) (range_with_len from many)) chain number ≡ text_in window
    at_chain window from zero low high = absurd (omega (arith, low, high))
    at_chain window from (suc many) low high =
        cards_both (part_filing chains libraries number window from) (flat_map (part_filing chains libraries number window) (range_with_len (from + 1) many))
        ∙ chain_by (from == chain) window from many refl (λ above. at_chain window (from + 1) many above (omega (arith, high))) low

    -- ---- one window

    other_window : (other : ℕ) (window : List NightJob) (from many : ℕ) → (other ≡ number → ⊥) → filed_cards (flat_map (part_filing chains libraries other window) (range_with_len from many)) chain number ≡ []
    other_window other window from zero differs = refl
    other_window other window from (suc many) differs =
        cards_both (part_filing chains libraries other window from) (flat_map (part_filing chains libraries other window) (range_with_len (from + 1) many))
        ∙ ap (λ (t : List ℕ). t ++ filed_cards (flat_map (part_filing chains libraries other window) (range_with_len (from + 1) many)) chain number)
        (of_other_window (record { chain = from + 1; window = other }) (part_text libraries (jobs_of_chain chains from window)) differs)
        ∙ other_window other window (from + 1) many differs

    with_plan : (other : ℕ) (window : List NightJob) → filed_cards (window_filings chains libraries other window) chain number ≡ filed_cards (flat_map (part_filing chains libraries other window) (range_with_len 0 chains)) chain number
    with_plan other window =
        cards_both (flat_map (part_filing chains libraries other window) (range_with_len 0 chains)) (record { file = file.Plan; text = window_rows chains other (views_of window) } ∷ [])
        ∙ append-nil (filed_cards (flat_map (part_filing chains libraries other window) (range_with_len 0 chains)) chain number)

    -- ---- all windows

    later : (first : ℕ) (windows : List (List NightJob)) → number < first → filed_cards (windows_filings chains libraries first windows) chain number ≡ []
    later first [] above = refl
    later first (window ∷ windows) above =
        cards_both (window_filings chains libraries first window) (windows_filings chains libraries (first + 1) windows)
        ∙ ap (λ (t : List ℕ). t ++ filed_cards (windows_filings chains libraries (first + 1) windows) chain number) (with_plan first window ∙ other_window first window 0 chains (λ same. omega (arith, above, same)))
        ∙ later (first + 1) windows (omega (arith, above))

    -- the window at a place, from 0, where the first has this number
    in_windows : (first n : ℕ) (windows : List (List NightJob)) → chain < chains → number ≡ first + n → n < length windows
        → filed_cards (windows_filings chains libraries first windows) chain number ≡ text_in (get_or windows n [])
    in_windows first n [] less at within = absurd (omega (arith, within))
    in_windows first zero (window ∷ windows) less at within =
        let same : first ≡ number = omega (arith, at) in
        let here : filed_cards (window_filings chains libraries first window) chain number ≡ text_in window =
        ap (λ (k : ℕ). filed_cards (window_filings chains libraries k window) chain number) same ∙ with_plan number window ∙ at_chain window 0 chains (omega arith) (omega (arith, less)) in
        let behind = later (first + 1) windows (omega (arith, same)) in
        cards_both (window_filings chains libraries first window) (windows_filings chains libraries (first + 1) windows) ∙ (λ i. here i ++ behind i) ∙ append-nil (text_in window)
    in_windows first (suc n) (window ∷ windows) less at within =
        cards_both (window_filings chains libraries first window) (windows_filings chains libraries (first + 1) windows)
        ∙ ap (λ (t : List ℕ). t ++ filed_cards (windows_filings chains libraries (first + 1) windows) chain number) (with_plan first window ∙ other_window first window 0 chains (λ same. omega (arith, at, same)))
        ∙ in_windows (first + 1) n windows less (omega (arith, at)) (omega (arith, within))

  none_opened : (chains : ℕ) (accounts : List Account) (count : ℕ) (openings : List Filing) → AreOpenings chains accounts count openings → filed_cards openings chain number ≡ []
  none_opened chains accounts count openings no_more = refl
  none_opened chains accounts count openings (one_more before some text are states) =
      cards_both some (record { file = file.Accounts (before + 1); text = text } ∷ []) ∙ append-nil (filed_cards some chain number) ∙ none_opened chains accounts before some are

-- ---- of a night

pub parts_are_filed : PartsAreFiled
parts_are_filed chains accounts bytes filings chain number cut less first within =
    let lines = pieces bytes in
    let libraries = night_libraries accounts lines in
    let windows = night_windows accounts lines in
    let filed = windows_filings chains libraries 1 windows in
    let plan : Filing = record { file = file.Plan; text = front_rows chains accounts } in
    let last : Filing = record { file = file.Plan; text = last_row (strays_of_lines accounts lines) } in
    let at : number ≡ 1 + (number - 1) = omega (arith, first) in
    let inside : number - 1 < length windows = omega (arith, first, within) in
    ap (λ (fs : List Filing). filed_cards fs chain number) cut.whole
    ∙ cards_both chain number (plan ∷ cut.openings) (night_filings chains accounts lines)
    ∙ ap (λ (t : List ℕ). t ++ filed_cards (night_filings chains accounts lines) chain number) (none_opened chain number chains accounts chains cut.openings cut.are_openings)
    ∙ cards_both chain number filed (last ∷ [])
    ∙ append-nil (filed_cards filed chain number)
    ∙ in_windows chain number chains libraries 1 (number - 1) windows less at inside

of_night : (chains : ℕ) (accounts : List Account) (bytes : List ℕ) (filings : List Filing) (x : Filing) (cut : IsCut chains accounts bytes filings)
    → Contains (record { file = file.Plan; text = front_rows chains accounts } ∷ cut.openings ++ night_filings chains accounts (pieces bytes)) x → Contains filings x
of_night chains accounts bytes filings x cut has = subst (λ (fs : List Filing). Contains fs x) (sym cut.whole) has

-- ---- accounts files

-- the accounts file of a chain among these
record HasFile (chains : ℕ) (accounts : List Account) (chain : ℕ) (filings : List Filing) : Type 0 where
  pub text : List ℕ
  pub has : HasOpenings filings chain text
  pub states : AccountsList text (accounts_of_chain chains chain accounts)

file_by : (v : Bool) (chains : ℕ) (accounts : List Account) (before chain : ℕ) (some : List Filing) (text : List ℕ) → (chain == before) ≡ v → chain < before + 1
    → AccountsList text (accounts_of_chain chains before accounts) → (chain < before → HasFile chains accounts chain some)
    → HasFile chains accounts chain (some ++ record { file = file.Accounts (before + 1); text = text } ∷ [])
file_by true chains accounts before chain some text is less states rest =
    let same : before ≡ chain = grind (arith, nat_tests) in
    subst (λ (k : ℕ). HasFile chains accounts k (some ++ record { file = file.Accounts (before + 1); text = text } ∷ [])) same
    (record { text = text; has = Contains-push some (record { file = file.Accounts (before + 1); text = text }); states = states })
file_by false chains accounts before chain some text is less states rest =
    let under : chain < before = grind (arith, nat_tests) in
    let there = rest under in
    record {
      text = there.text;
      has = Contains-append_left some (record { file = file.Accounts (before + 1); text = text } ∷ []) (record { file = file.Accounts (chain + 1); text = there.text }) there.has;
      states = there.states;
    }

in_openings : (chains : ℕ) (accounts : List Account) (count : ℕ) (openings : List Filing) (chain : ℕ) → AreOpenings chains accounts count openings → chain < count → HasFile chains accounts chain openings
in_openings chains accounts count openings chain no_more less = absurd (omega (arith, less))
in_openings chains accounts count openings chain (one_more before some text are states) less =
    file_by (chain == before) chains accounts before chain some text refl less states (λ under. in_openings chains accounts before some chain are under)

pub openings_are_filed : OpeningsAreFiled
openings_are_filed chains accounts bytes filings chain cut less =
    let there = in_openings chains accounts chains cut.openings chain cut.are_openings less in
    let this : Filing = record { file = file.Accounts (chain + 1); text = there.text } in
    let plan : Filing = record { file = file.Plan; text = front_rows chains accounts } in (
      there.text,
      of_night chains accounts bytes filings this cut
          (Contains-append_left (plan ∷ cut.openings) (night_filings chains accounts (pieces bytes)) this (Contains-append_right (plan ∷ []) cut.openings this there.has)),
      there.states,
    )
