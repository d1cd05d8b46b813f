-- What is filed of a whole night, from the lines before its first job and those behind.
use Rattle.std.proofs.Common.{◌≡◌, ℕ, ◌+◌, ◌≤◌, nat_lt, Bool, true, false, List, length, inl, inr, sum_by, Result, Ok, Err, IfErr, refl, sym, ap, subst, ◌∙◌, arith}
use Rattle.std.specs.List.{Contains, list_any, position_or_len}
use Rattle.std.proofs.lemmas.List.{take-append-drop}
use Rattle.batch_io.specs.Causes.{Rose}
use Rattle.deck_reader.specs.declared.reader.FeedError.{FeedError}
use Rattle.deck_reader.specs.declared.reader.FeedError.TheVariants as feed
use Rattle.deck_reader.specs.declared.batch.Account.{Account}
use Rattle.deck_reader.specs.Batch.{Run}
use Rattle.night_shares.specs.Batches.{front_libraries, front_strays, run_strays}
use Rattle.night_shares.specs.declared.stop.Stop.{Stop}
use Rattle.night_shares.specs.declared.stop.Stop.TheVariants.{NoMemory, ReadFault, WriteFault, TooLarge, BadAccounts}
use Rattle.night_shares.specs.Cutting.{AreTooLarge, CutCause, IsTooLarge, a_line, a_run, all_filed_of, the_jobs}
use Rattle.night_shares.specs.Filing.{night_filings, night_libraries}
use Rattle.night_shares.specs.Jobs.{jobs_of_lines, night_front, night_jobs, strays_of_lines}
use Rattle.night_shares.specs.Lines.{begins_job, front_lines, line_runs, lines_from_head, text_of_lines}
use Rattle.night_shares.specs.Running.{HasLongLine}
use Rattle.night_shares.specs.Stops.{stop_of}
use Rattle.night_shares.proofs.Cuttings.{libraries_of_front, long_behind, strays_of_night}
use Rattle.night_shares.proofs.LineRuns.{runs_from}
use Rattle.night_shares.proofs.NightRuns.{none_long, none_long_both}

pub night_is : (chains : ℕ) (accounts : List Account) (lines : List (List ℕ)) (libraries : List ℕ) (stray : ℕ) → libraries ≡ front_libraries (front_lines lines) → stray ≡ front_strays (front_lines lines)
    → all_filed_of chains libraries (night_jobs (night_front accounts lines) 1 (line_runs (lines_from_head lines))) (stray + sum_by run_strays (line_runs (lines_from_head lines))) ≡ night_filings chains accounts lines
night_is chains accounts lines libraries stray libraries_are stray_is =
    let kept : libraries ≡ night_libraries accounts lines = libraries_are ∙ libraries_of_front accounts lines in
    let strays : stray + sum_by run_strays (line_runs lines) ≡ strays_of_lines accounts lines = ap (λ (n : ℕ). n + sum_by run_strays (line_runs lines)) stray_is ∙ strays_of_night accounts lines in
    ap (λ (rs : List Run). all_filed_of chains libraries (night_jobs (night_front accounts lines) 1 rs) (stray + sum_by run_strays rs)) (sym (runs_from lines))
    ∙ (λ i. all_filed_of chains (kept i) (jobs_of_lines accounts lines) (strays i))

-- what is too large from the first job on is too large
large_whole : (libraries : List ℕ) (lines : List (List ℕ)) → AreTooLarge libraries (lines_from_head lines) → AreTooLarge libraries lines
large_whole libraries lines (a_line long) = a_line (subst HasLongLine (take-append-drop (position_or_len begins_job lines) lines) (long_behind (front_lines lines) (lines_from_head lines) long))
large_whole libraries lines (a_run run has large) = a_run run (subst (λ (rs : List Run). Contains rs run) (sym (runs_from lines)) has) large
large_whole libraries lines (the_jobs many) = the_jobs (omega (arith, many, ap length (runs_from lines)))

pub night_too_large : (accounts : List Account) (lines : List (List ℕ)) (libraries : List ℕ) → libraries ≡ front_libraries (front_lines lines) → AreTooLarge libraries (lines_from_head lines) → AreTooLarge (night_libraries accounts lines) lines
night_too_large accounts lines libraries is large = large_whole (night_libraries accounts lines) lines (subst (λ (l : List ℕ). AreTooLarge l (lines_from_head lines)) (is ∙ libraries_of_front accounts lines) large)

-- a night that isn't too large before its first job, nor from there on
pub night_small : (accounts : List Account) (lines : List (List ℕ)) (libraries : List ℕ) → libraries ≡ front_libraries (front_lines lines) → length (text_of_lines (front_lines lines)) + 5 ≤ 4194304
    → (AreTooLarge libraries (lines_from_head lines) → ⊥) → IsTooLarge accounts lines → ⊥
night_small accounts lines libraries is few small (inl over) = omega (arith, few, over)
night_small accounts lines libraries is few small (inr (a_line long)) = by (list_any (λ line. nat_lt 4194304 (length line)) (lines_from_head lines)) refl
  where
    by : (v : Bool) → list_any (λ line. nat_lt 4194304 (length line)) (lines_from_head lines) ≡ v → ⊥
    by true here = small (a_line here)
    by false none =
        let both = none_long_both (front_lines lines) (lines_from_head lines) (none_long (front_lines lines) (omega (arith, few))) none in
        let all : list_any (λ line. nat_lt 4194304 (length line)) lines ≡ false =
        ap (list_any (λ line. nat_lt 4194304 (length line))) (sym (take-append-drop (position_or_len begins_job lines) lines)) ∙ both in
        cc
night_small accounts lines libraries is few small (inr (a_run run has large)) =
    let same : night_libraries accounts lines ≡ libraries = sym (is ∙ libraries_of_front accounts lines) in
    small (a_run run (subst (λ (rs : List Run). Contains rs run) (runs_from lines) has) (omega (arith, large, ap length same)))
night_small accounts lines libraries is few small (inr (the_jobs many)) = small (the_jobs (omega (arith, many, ap length (runs_from lines))))

-- ---- why it stopped

pub cut_feed : (error : FeedError) (read read' filed filed' : ℕ) (Q : Type 0) → (error ≡ feed.TooLarge → Q) → CutCause (stop_of error) read read' filed filed' Q
cut_feed feed.TooLarge read read' filed filed' Q step = step refl
cut_feed feed.NoMemory read read' filed filed' Q step = tt

pub cut_by : (stop : Stop) (read then read' filed filed' : ℕ) (P Q : Type 0) → then ≡ read → (P → Q) → CutCause stop then read' filed filed' P → CutCause stop read read' filed filed' Q
cut_by NoMemory read then read' filed filed' P Q same step cause = tt
cut_by ReadFault read then read' filed filed' P Q same step cause = subst (λ (n : ℕ). Rose n read') same cause
cut_by WriteFault read then read' filed filed' P Q same step cause = cause
cut_by TooLarge read then read' filed filed' P Q same step cause = step cause
cut_by BadAccounts read then read' filed filed' P Q same step cause = cause

pub err_by : {T E : Type 0} (r : Result T E) (P Q : E → Type 0) → IfErr r P → ((e : E) → P e → Q e) → IfErr r Q
err_by (Ok x) P Q h step = tt
err_by (Err e) P Q h step = step e h
