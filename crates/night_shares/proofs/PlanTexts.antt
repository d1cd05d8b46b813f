-- What is filed for the plan of a night, put together.
use Rattle.std.proofs.Common.{◌≡◌, ℕ, ◌+◌, List, [], ◌∷◌, ◌++◌, map, refl, sym, ap, ◌∙◌, append_assoc}
use Rattle.std.specs.List.{flat_map, range_with_len}
use Rattle.std.proofs.lemmas.Grind.{flat_map-append}
use Rattle.deck_reader.specs.declared.batch.Account.{Account}
use Rattle.deck_reader.specs.Cards.{pieces}
use Rattle.night_shares.specs.declared.shelf.NightFile.TheVariants.{Accounts, Cards, Plan}
use Rattle.night_shares.specs.Filing.{Filing, filed_unless_empty, night_filings, night_libraries, night_windows, part_filing, window_filings, windows_filings}
use Rattle.night_shares.specs.Jobs.{NightJob, strays_of_lines}
use Rattle.night_shares.specs.Laws.{PlanIsWhole, filed_plan, plan_piece}
use Rattle.night_shares.specs.Openings.{AreOpenings, no_more, one_more}
use Rattle.night_shares.specs.Plan.{front_rows, last_row, window_rows, windows_rows}
use Rattle.night_shares.specs.Windows.{jobs_of_chain, part_text}

plan_append : (some more : List Filing) → filed_plan (some ++ more) ≡ filed_plan some ++ filed_plan more
plan_append some more = flat_map-append (λ (f : Filing). plan_piece f.file f.text) some more

nil_behind : (xs : List ℕ) → xs ++ [] ≡ xs
nil_behind [] = refl
nil_behind (x ∷ xs) = ap (λ (ys : List ℕ). x ∷ ys) (nil_behind xs)

no_part : (chain window : ℕ) (text : List ℕ) → filed_plan (filed_unless_empty (Cards (record { chain = chain; window = window })) text) ≡ []
no_part chain window [] = refl
no_part chain window (b ∷ text) = refl

no_parts : (chains : ℕ) (libraries : List ℕ) (number : ℕ) (window : List NightJob) (own : List ℕ) → filed_plan (flat_map (part_filing chains libraries number window) own) ≡ []
no_parts chains libraries number window [] = refl
no_parts chains libraries number window (chain ∷ own) =
    plan_append (part_filing chains libraries number window chain) (flat_map (part_filing chains libraries number window) own)
    ∙ (λ i. no_part (chain + 1) number (part_text libraries (jobs_of_chain chains chain window)) i ++ no_parts chains libraries number window own i)

window_plan : (chains : ℕ) (libraries : List ℕ) (number : ℕ) (window : List NightJob) → filed_plan (window_filings chains libraries number window) ≡ window_rows chains number (map (λ j. j.job) window)
window_plan chains libraries number window =
    let rows = window_rows chains number (map (λ j. j.job) window) in
    plan_append (flat_map (part_filing chains libraries number window) (range_with_len 0 chains)) (record { file = Plan; text = rows } ∷ [])
    ∙ (λ i. no_parts chains libraries number window (range_with_len 0 chains) i ++ nil_behind rows i)

windows_plan : (chains : ℕ) (libraries : List ℕ) (number : ℕ) (windows : List (List NightJob))
    → filed_plan (windows_filings chains libraries number windows) ≡ windows_rows chains number (map (map (λ j. j.job)) windows)
windows_plan chains libraries number [] = refl
windows_plan chains libraries number (window ∷ windows) =
    plan_append (window_filings chains libraries number window) (windows_filings chains libraries (number + 1) windows)
    ∙ (λ i. window_plan chains libraries number window i ++ windows_plan chains libraries (number + 1) windows i)

no_openings : (chains : ℕ) (accounts : List Account) {count : ℕ} {filings : List Filing} → AreOpenings chains accounts count filings → filed_plan filings ≡ []
no_openings chains accounts no_more = refl
no_openings chains accounts (one_more before some text are states) =
    plan_append some (record { file = Accounts (before + 1); text = text } ∷ []) ∙ ap (λ (t : List ℕ). t ++ []) (no_openings chains accounts are)

pub plan_is_whole : PlanIsWhole
plan_is_whole chains accounts bytes filings cut =
    let lines = pieces bytes in
    let libraries = night_libraries accounts lines in
    let windows = night_windows accounts lines in
    let front = front_rows chains accounts in
    let last = last_row (strays_of_lines accounts lines) in
    let rest = windows_filings chains libraries 1 windows in
    let rest_is : filed_plan (night_filings chains accounts lines) ≡ windows_rows chains 1 (map (map (λ j. j.job)) windows) ++ last =
    plan_append rest (record { file = Plan; text = last } ∷ []) ∙ (λ i. windows_plan chains libraries 1 windows i ++ nil_behind last i) in
    ap filed_plan cut.whole
    ∙ ap (λ (t : List ℕ). front ++ t)
    (plan_append cut.openings (night_filings chains accounts lines) ∙ (λ i. no_openings chains accounts cut.are_openings i ++ rest_is i))
    ∙ sym (append_assoc front (windows_rows chains 1 (map (map (λ j. j.job)) windows)) last)
