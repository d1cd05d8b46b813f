-- A cutter with a job more.
use Rattle.std.proofs.Common.{◌≡◌, ℕ, ◌+◌, ◌-◌, ◌<◌, ◌≤◌, ◌&&◌, Bool, true, false, nat_le, nat_lt, List, [], ◌∷◌, ◌++◌, length, Option, refl, sym, ap, subst, ◌∙◌, append_assoc, append-nil, arith}
use Rattle.std.proofs.lemmas.Bool.Decides.{nat_tests}
use Rattle.std.proofs.lemmas.List.{length-append}
use Rattle.deck_reader.specs.declared.batch.Account.{Account}
use Rattle.night_shares.specs.declared.cutter.Cutter.{Cutter}
use Rattle.night_shares.specs.declared.window.Window.{Window}
use Rattle.night_shares.specs.declared.shelf.NightFile.TheVariants.{Plan}
use Rattle.deck_reader.specs.JobView.{JobView}
use Rattle.night_shares.specs.Batches.{IsBeside}
use Rattle.night_shares.specs.Cutting.{IsCutter, all_filed_of, filed_of}
use Rattle.night_shares.specs.Filing.{Files, Filing, window_filings, windows_filings}
use Rattle.night_shares.specs.Held.{FilesFirst, IsWindow}
use Rattle.night_shares.specs.Jobs.{NightJob}
use Rattle.night_shares.specs.Plan.{last_row}
use Rattle.night_shares.specs.Windows.{Windows, bytes_of, fits, room_behind, unless_none, windows_of}
use Rattle.night_shares.proofs.Cuttings.{filed_fit, filed_next, filings_append, one_window, windows_fit, windows_next, windows_stay}
use Rattle.night_shares.proofs.Filings.{files_more, first_more, first_none}

-- whether a job fits, as the window that is kept says it
pub fits_by : (chains : ℕ) (libraries : List ℕ) (number : ℕ) (jobs : List NightJob) (window : Window) (room bytes : ℕ) (job : NightJob) → IsWindow chains libraries number jobs window → bytes ≤ room → length job.text ≡ bytes
    → (nat_lt window.jobs 2000 && nat_le window.bytes (room - bytes)) ≡ fits room jobs job
fits_by chains libraries number jobs window room bytes job is within long =
    let count : nat_lt window.jobs 2000 ≡ nat_lt (length jobs) 2000 = ap (λ (n : ℕ). nat_lt n 2000) is.count_is in
    let space : nat_le window.bytes (room - bytes) ≡ nat_le (bytes_of jobs + length job.text) room =
    ap (λ (n : ℕ). nat_le n (room - bytes)) is.bytes_are ∙ moved (bytes_of jobs) ∙ ap (λ (n : ℕ). nat_le (bytes_of jobs + n) room) (sym long) in
    ap (λ (v : Bool). v && nat_le window.bytes (room - bytes)) count ∙ ap (λ (v : Bool). nat_lt (length jobs) 2000 && v) space
  where
    moved : (n : ℕ) → nat_le n (room - bytes) ≡ nat_le (n + bytes) room
    moved n = grind (arith, nat_tests)

pub no_job : (jobs : List NightJob) → length jobs ≡ 0 → jobs ≡ []
no_job [] none = refl
no_job (job ∷ jobs) none = absurd (omega arith)

-- all but the plan's last line is filed
pub record AllButLast (chains : ℕ) (libraries : List ℕ) (jobs : List NightJob) (stray : ℕ) (before filed : Option (List Filing)) : Type 0 where
  pub some : List Filing
  pub whole : all_filed_of chains libraries jobs stray ≡ some ++ record { file = Plan; text = last_row stray } ∷ []
  pub files : Files before filed some

module _ (chains : ℕ) (accounts : List Account) (libraries : List ℕ) (jobs : List NightJob) (stray : ℕ) where
  abbrev now : Windows
  now = windows_of (room_behind libraries) jobs

  -- a job that fits
  pub cutter_fit : (old new : Cutter) (job : NightJob) (more : ℕ) → IsCutter chains accounts libraries jobs stray old → fits (room_behind libraries) now.last job ≡ true
      → IsWindow chains libraries (1 + length now.full) (now.last ++ job ∷ []) new.window → new.chains ≡ old.chains → new.accounts ≡ old.accounts → new.libraries ≡ old.libraries → new.stray ≡ old.stray + more
      → IsCutter chains accounts libraries (jobs ++ job ∷ []) (stray + more) new
  cutter_fit old new job more is fit window chains_same accounts_same libraries_same stray_more =
      let P : Windows → Type 0 = λ w. IsWindow chains libraries (1 + length w.full) w.last new.window in
      record {
        chains_are = chains_same ∙ is.chains_are;
        accounts_are = accounts_same ∙ is.accounts_are;
        libraries_are = ap (λ v. v.items) libraries_same ∙ is.libraries_are;
        window_is = subst P (sym (windows_fit (room_behind libraries) jobs job fit)) window;
        stray_is = stray_more ∙ ap (λ (n : ℕ). n + more) is.stray_is;
      }

  -- one that begins a window
  pub cutter_next : (old new : Cutter) (job : NightJob) (more : ℕ) → IsCutter chains accounts libraries jobs stray old → fits (room_behind libraries) now.last job ≡ false
      → IsWindow chains libraries (1 + length now.full + 1) ([] ++ job ∷ []) new.window → new.chains ≡ old.chains → new.accounts ≡ old.accounts → new.libraries ≡ old.libraries → new.stray ≡ old.stray + more
      → IsCutter chains accounts libraries (jobs ++ job ∷ []) (stray + more) new
  cutter_next old new job more is fit window chains_same accounts_same libraries_same stray_more =
      let P : Windows → Type 0 = λ w. IsWindow chains libraries (1 + length w.full) w.last new.window in
      let Q : ℕ → Type 0 = λ n. IsWindow chains libraries n (job ∷ []) new.window in
      let number : 1 + length now.full + 1 ≡ 1 + length (now.full ++ now.last ∷ []) = omega (arith, length-append now.full (now.last ∷ [])) in
      record {
        chains_are = chains_same ∙ is.chains_are;
        accounts_are = accounts_same ∙ is.accounts_are;
        libraries_are = ap (λ v. v.items) libraries_same ∙ is.libraries_are;
        window_is = subst P (sym (windows_next (room_behind libraries) jobs job fit)) (subst Q number window);
        stray_is = stray_more ∙ ap (λ (n : ℕ). n + more) is.stray_is;
      }

  -- what is filed then
  pub filed_as_fit : (before filed : Option (List Filing)) (job : NightJob) → fits (room_behind libraries) now.last job ≡ true → Files before filed (filed_of chains libraries jobs) → Files before filed (filed_of chains libraries (jobs ++ job ∷ []))
  filed_as_fit before filed job fit h = subst (Files before filed) (sym (filed_fit chains libraries (room_behind libraries) jobs job fit)) h

  pub filed_as_next : (before then filed : Option (List Filing)) (job : NightJob) → fits (room_behind libraries) now.last job ≡ false → Files before then (filed_of chains libraries jobs)
      → Files then filed (window_filings chains libraries (1 + length now.full) now.last) → Files before filed (filed_of chains libraries (jobs ++ job ∷ []))
  filed_as_next before then filed job fit h k =
      subst (Files before filed) (sym (filed_next chains libraries (room_behind libraries) jobs job fit)) (files_more before then filed (filed_of chains libraries jobs) (window_filings chains libraries (1 + length now.full) now.last) h k)

  filed_prefix : (more : List NightJob) → (rest : List Filing) × (filed_of chains libraries (jobs ++ more) ≡ filed_of chains libraries jobs ++ rest)
  filed_prefix more =
      let stay = windows_stay (room_behind libraries) jobs more in (
        windows_filings chains libraries (1 + length now.full) stay.0,
        ap (windows_filings chains libraries 1) stay.1 ∙ filings_append chains libraries 1 now.full stay.0,
      )

  -- where it stops, the first of that
  pub first_by_now : (before filed : Option (List Filing)) (job : NightJob) → Files before filed (filed_of chains libraries jobs) → FilesFirst before filed (filed_of chains libraries (jobs ++ job ∷ []))
  first_by_now before filed job h =
      let prefix = filed_prefix (job ∷ []) in
      subst (FilesFirst before filed) (sym prefix.1) (first_none before filed (filed_of chains libraries jobs) prefix.0 h)

  pub first_in_next : (before then filed : Option (List Filing)) (job : NightJob) → fits (room_behind libraries) now.last job ≡ false → Files before then (filed_of chains libraries jobs)
      → FilesFirst then filed (window_filings chains libraries (1 + length now.full) now.last) → FilesFirst before filed (filed_of chains libraries (jobs ++ job ∷ []))
  first_in_next before then filed job fit h k =
      let some = filed_of chains libraries jobs in
      let window = window_filings chains libraries (1 + length now.full) now.last in
      subst (FilesFirst before filed) (ap (λ (fs : List Filing). some ++ fs) (append-nil window) ∙ sym (filed_next chains libraries (room_behind libraries) jobs job fit))
      (first_more before then filed some window [] h k)

  pub first_whole : (before filed : Option (List Filing)) (all : List Filing) → Files before filed all → FilesFirst before filed all
  first_whole before filed all h = subst (FilesFirst before filed) (append-nil all) (first_none before filed all [] h)

  -- ---- the end

  abbrev last_filing : Filing
  last_filing = record { file = Plan; text = last_row stray }

  all_by : (last : List NightJob) → now.last ≡ last → all_filed_of chains libraries jobs stray ≡ windows_filings chains libraries 1 (now.full ++ unless_none last) ++ last_filing ∷ []
  all_by last is = ap (λ (l : List NightJob). windows_filings chains libraries 1 (now.full ++ unless_none l) ++ last_filing ∷ []) is

  -- all that is filed where the last window has no job
  pub all_without : now.last ≡ [] → all_filed_of chains libraries jobs stray ≡ filed_of chains libraries jobs ++ last_filing ∷ []
  all_without is = all_by [] is ∙ ap (λ (ws : List (List NightJob)). windows_filings chains libraries 1 ws ++ last_filing ∷ []) (append-nil now.full)

  some_window : (last : List NightJob) → 0 < length last → unless_none last ≡ last ∷ []
  some_window [] h = absurd (omega arith)
  some_window (job ∷ last) h = refl

  -- and where it has some
  pub all_with : 0 < length now.last → all_filed_of chains libraries jobs stray ≡ (filed_of chains libraries jobs ++ window_filings chains libraries (1 + length now.full) now.last) ++ last_filing ∷ []
  all_with some =
      ap (λ (ws : List (List NightJob)). windows_filings chains libraries 1 (now.full ++ ws) ++ last_filing ∷ []) (some_window now.last some)
      ∙ ap (λ (fs : List Filing). fs ++ last_filing ∷ []) (filings_append chains libraries 1 now.full (now.last ∷ []) ∙ ap (λ (fs : List Filing). filed_of chains libraries jobs ++ fs) (one_window chains libraries (1 + length now.full) now.last))

  pub but_last_without : (before filed : Option (List Filing)) → now.last ≡ [] → Files before filed (filed_of chains libraries jobs) → AllButLast chains libraries jobs stray before filed
  but_last_without before filed none h = record { some = filed_of chains libraries jobs; whole = all_without none; files = h }

  pub but_last_with : (before then filed : Option (List Filing)) → 0 < length now.last → Files before then (filed_of chains libraries jobs) → Files then filed (window_filings chains libraries (1 + length now.full) now.last)
      → AllButLast chains libraries jobs stray before filed
  but_last_with before then filed some h k = record {
    some = filed_of chains libraries jobs ++ window_filings chains libraries (1 + length now.full) now.last;
    whole = all_with some;
    files = files_more before then filed (filed_of chains libraries jobs) (window_filings chains libraries (1 + length now.full) now.last) h k;
  }

  -- where the last window was filed in part
  pub first_in_last : (before then filed : Option (List Filing)) → 0 < length now.last → Files before then (filed_of chains libraries jobs) → FilesFirst then filed (window_filings chains libraries (1 + length now.full) now.last)
      → FilesFirst before filed (all_filed_of chains libraries jobs stray)
  first_in_last before then filed some h k =
      let full = filed_of chains libraries jobs in
      let window = window_filings chains libraries (1 + length now.full) now.last in
      subst (FilesFirst before filed) (sym (all_with some ∙ append_assoc full window (last_filing ∷ []))) (first_more before then filed full window (last_filing ∷ []) h k)

  -- where all but the last line was
  pub first_but_last : (before filed : Option (List Filing)) → AllButLast chains libraries jobs stray before filed → FilesFirst before filed (all_filed_of chains libraries jobs stray)
  first_but_last before filed h = subst (FilesFirst before filed) (sym h.whole) (first_none before filed h.some (last_filing ∷ []) h.files)

  -- and where that is filed too
  pub last_filed : (before then filed : Option (List Filing)) → AllButLast chains libraries jobs stray before then → Files then filed (last_filing ∷ []) → Files before filed (all_filed_of chains libraries jobs stray)
  last_filed before then filed h k = subst (Files before filed) (sym h.whole) (files_more before then filed h.some (last_filing ∷ []) h.files k)

  -- ---- the next job

  -- whether it fits, as the cutter tells it
  pub fits_is : (old : Cutter) (job : NightJob) (taken bytes : ℕ) (v : Bool) → IsCutter chains accounts libraries jobs stray old → taken ≡ length libraries → bytes ≤ 4194304 - taken → length job.text ≡ bytes
      → v ≡ (nat_lt old.window.jobs 2000 && nat_le old.window.bytes (4194304 - taken - bytes)) → fits (room_behind libraries) now.last job ≡ v
  fits_is old job taken bytes v is taken_is within long test =
      let few : bytes ≤ room_behind libraries = omega (arith, within, taken_is) in
      sym (test ∙ ap (λ (n : ℕ). nat_lt old.window.jobs 2000 && nat_le old.window.bytes (4194304 - n - bytes)) taken_is
      ∙ fits_by chains libraries (1 + length now.full) now.last old.window (room_behind libraries) bytes job is.window_is few long)

  -- the window with it
  pub enrolled : (mid new : Cutter) (number : ℕ) (window : List NightJob) (job : NightJob) (lone : JobView) (text : List ℕ) → mid.chains ≡ chains → mid.accounts ≡ accounts → mid.libraries.items ≡ libraries
      → IsWindow chains libraries number window mid.window → IsBeside accounts job.job lone → job.text ≡ text
      → (IsWindow mid.chains mid.libraries.items number window mid.window → IsBeside mid.accounts job.job lone → job.text ≡ text → IsWindow mid.chains mid.libraries.items number (window ++ job ∷ []) new.window)
      → IsWindow chains libraries number (window ++ job ∷ []) new.window
  enrolled mid new number window job lone text chains_are accounts_are libraries_are is beside text_is enrol =
      let before = subst (λ (n : ℕ). IsWindow n mid.libraries.items number window mid.window) (sym chains_are) (subst (λ (l : List ℕ). IsWindow chains l number window mid.window) (sym libraries_are) is) in
      let after = enrol before (subst (λ (a : List Account). IsBeside a job.job lone) (sym accounts_are) beside) text_is in
      subst (λ (l : List ℕ). IsWindow chains l number (window ++ job ∷ []) new.window) libraries_are (subst (λ (n : ℕ). IsWindow n mid.libraries.items number (window ++ job ∷ []) new.window) chains_are after)
