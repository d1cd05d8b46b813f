-- The sections of a batch, one after the other, and its closing lines.
use Rattle.std.proofs.Common.{◌≡◌, ℕ, suc, ◌+◌, List, [], ◌∷◌, ◌++◌, length, take, map, slice_index, flat_map, refl, sym, ap, ◌∙◌, arith, append_assoc}
use Rattle.std.specs.List.{enumerate_from}
use Rattle.std.proofs.lemmas.List.{length-append}
use Rattle.std.proofs.Math.Seq.{take-append_seam}
use Rattle.deck_reader.specs.declared.batch.Account.{Account}
use Rattle.deck_reader.specs.JobView.{JobView}
use Rattle.account_book.specs.BookView.{BookView, openings_of}
use Rattle.account_book.specs.Places.{balances_behind, place_balance, settled}
use Rattle.account_book.proofs.Tables.{table_holds}
use Rattle.algolw_meaning.specs.Charging.{charged}
use Rattle.batch_listing.specs.Listing.{closing_lines, section, sections}
use Rattle.batch_listing.specs.Texts.{closing_line, balance_lines}
use Rattle.batch_listing.specs.Behind.{IsBehind}
use Rattle.batch_listing.specs.Laws.{sections_by_table}
use Rattle.batch_listing.proofs.Deciding.{section_at, settled_more}

-- the sections of these jobs, behind those
abbrev pub sections_behind : List ℕ → List JobView → List JobView → List ℕ
sections_behind openings earlier [] = []
sections_behind openings earlier (job ∷ jobs) = section openings earlier job ++ sections_behind openings (earlier ++ job ∷ []) jobs

sections_from : (openings : List ℕ) (earlier jobs : List JobView)
    → sections_behind openings earlier jobs ≡ flat_map (λ p. section openings (take p.0 (earlier ++ jobs)) p.1) (enumerate_from (length earlier) jobs)
sections_from openings earlier [] = refl
sections_from openings earlier (job ∷ jobs) =
    let one_more : length (earlier ++ job ∷ []) ≡ length earlier + 1 = length-append earlier (job ∷ []) in
    ap (λ (text : List ℕ). text ++ sections_behind openings (earlier ++ job ∷ []) jobs)
    (ap (λ (xs : List JobView). section openings xs job) (sym (take-append_seam earlier (job ∷ jobs))))
    ∙ ap (λ (text : List ℕ). section openings (take (length earlier) (earlier ++ job ∷ jobs)) job ++ text)
    (sections_from openings (earlier ++ job ∷ []) jobs
    ∙ ap (λ (xs : List JobView). flat_map (λ p. section openings (take p.0 xs) p.1) (enumerate_from (length (earlier ++ job ∷ [])) jobs)) (append_assoc earlier (job ∷ []) jobs)
    ∙ ap (λ (n : ℕ). flat_map (λ p. section openings (take p.0 (earlier ++ job ∷ jobs)) p.1) (enumerate_from n jobs)) one_more)

-- the sections one after the other are those by their places
pub sections_in_order : (openings : List ℕ) (jobs : List JobView) → sections_behind openings [] jobs ≡ sections openings jobs
sections_in_order openings jobs = sections_from openings [] jobs

lines_from : (accounts : List Account) (balances : List ℕ) (f : ℕ → ℕ) (n : ℕ) → length balances ≡ length accounts → ((k : ℕ) → slice_index balances k ≡ f (n + k))
    → balance_lines accounts balances ≡ flat_map (λ p. closing_line p.1 (f p.0)) (enumerate_from n accounts)
lines_from [] balances f n len is = refl
lines_from (account ∷ accounts) [] f n len is = absurd (omega arith)
lines_from (account ∷ accounts) (balance ∷ balances) f n len is =
    let first : n + 0 ≡ n = omega arith in
    let len' : length balances ≡ length accounts = omega arith in
    ap (λ (b : ℕ). closing_line account b ++ balance_lines accounts balances) (is 0 ∙ ap f first)
    ∙ ap (λ (text : List ℕ). closing_line account (f n) ++ text)
    (lines_from accounts balances f (n + 1) len' (λ k. let past : n + suc k ≡ n + 1 + k = omega arith in is (suc k) ∙ ap f past))

-- the lines by the table are those by the last place
pub lines_behind : (book : BookView) (jobs : List JobView) → length book.balances ≡ length book.accounts → IsBehind book jobs
    → balance_lines book.accounts book.balances ≡ closing_lines (openings_of book.accounts) jobs book.accounts
lines_behind book jobs len behind =
    let openings = openings_of book.accounts in
    lines_from book.accounts book.balances (place_balance openings (map charged jobs)) 0 len
    (λ k. let same : 0 + k ≡ k = omega arith in
    ap (λ (bs : List ℕ). slice_index bs k) behind ∙ table_holds openings (map charged jobs) k ∙ ap (place_balance openings (map charged jobs)) (sym same))

table_behind : (openings balances : List ℕ) (earlier jobs : List JobView) → balances ≡ balances_behind openings (map charged earlier) → sections_by_table balances jobs ≡ sections_behind openings earlier jobs
table_behind openings balances earlier [] behind = refl
table_behind openings balances earlier (job ∷ jobs) behind =
    ap (λ (text : List ℕ). text ++ sections_by_table (settled balances (charged job)) jobs) (section_at openings balances earlier job behind)
    ∙ ap (λ (text : List ℕ). section openings earlier job ++ text)
    (table_behind openings (settled balances (charged job)) (earlier ++ job ∷ []) jobs (settled_more openings balances earlier job behind))

-- the sections by a table are those by places
pub table_in_order : (openings : List ℕ) (jobs : List JobView) → sections_by_table openings jobs ≡ sections openings jobs
table_in_order openings jobs = table_behind openings openings [] jobs refl ∙ sections_in_order openings jobs
