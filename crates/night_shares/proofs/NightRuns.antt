-- A night whose runs are cut, one after the other.
use Rattle.std.proofs.Common.{◌≡◌, ℕ, ◌+◌, ◌-◌, ◌<◌, ◌≤◌, ◌^◌, ◌||◌, nat_lt, Bool, true, false, List, [], ◌∷◌, ◌++◌, length, Option, sum_by, inl, inr, refl, sym, ap, subst, ◌∙◌, append_assoc, append-nil, arith}
use Rattle.std.specs.List.{AllByRecursion as AllOf, Contains, flat_map, list_any}
use Rattle.std.proofs.lemmas.Bool.Decides.{nat_tests}
use Rattle.std.proofs.lemmas.Grind.{flat_map-append}
use Rattle.std.proofs.lemmas.List.{length-append}
use Rattle.std.proofs.lemmas.List.Folds.{list_any-append}
use Rattle.std.proofs.lemmas.List.Elements.{All-contains, All-from_recursion, Contains-append_right}
use Rattle.std.proofs.lemmas.List.Sums.{sum_by-append, sum_by-cons}
use Rattle.batch_io.specs.Causes.{Rose}
use Rattle.deck_reader.specs.declared.batch.Account.{Account}
use Rattle.deck_reader.specs.Batch.{Front, Run}
use Rattle.night_shares.specs.declared.cutter.Cutter.{Cutter}
use Rattle.night_shares.specs.declared.stop.Stop.{Stop}
use Rattle.night_shares.specs.declared.stop.Stop.TheVariants.{NoMemory, ReadFault, WriteFault, TooLarge, BadAccounts}
use Rattle.night_shares.specs.declared.shelf.NightFile.TheVariants.{Plan}
use Rattle.night_shares.specs.Batches.{run_strays}
use Rattle.night_shares.specs.Cutting.{AreTooLarge, CutCause, IsCutter, IsLargeBehind, a_line, a_run, all_filed_of, cut_job, filed_of, the_jobs}
use Rattle.night_shares.specs.Filing.{Files, Filing}
use Rattle.night_shares.specs.Held.{FilesFirst}
use Rattle.night_shares.specs.Jobs.{NightJob, night_jobs}
use Rattle.night_shares.specs.Lines.{line_runs, run_lines, text_of_lines}
use Rattle.night_shares.specs.Plan.{last_row, row}
use Rattle.night_shares.specs.Running.{AtHead, HasLongLine, IsLargeRun, TakesRun}
use Rattle.night_shares.specs.Stops.{ReadCause, RunCause, WriteCause}
use Rattle.night_shares.specs.Windows.{room_behind}
use Rattle.night_shares.proofs.Cuttings.{filed_first, jobs_append, jobs_push, long_behind}
use Rattle.night_shares.proofs.Filings.{files_none}

-- runs of these lines were cut, and the others are to come
pub record HasCut (chains : ℕ) (accounts : List Account) (libraries : List ℕ) (stray : ℕ) (front : Front) (lines : List (List ℕ)) (before : Option (List Filing)) (head come : Option (List ℕ)) (cutter : Cutter) (filed : Option (List Filing)) : Type 0 where
  pub done : List Run
  pub rest : List (List ℕ)
  pub runs_are : line_runs lines ≡ done ++ line_runs rest
  pub at_head : AtHead head come rest
  pub cutter_is : IsCutter chains accounts libraries (night_jobs front 1 done) (stray + sum_by run_strays done) cutter
  pub files : Files before filed (filed_of chains libraries (night_jobs front 1 done))

-- a run has room in a part behind these libraries
abbrev pub HasRoom : List ℕ → Run → Type 0
HasRoom libraries run = length libraries + length (text_of_lines (run_lines run)) ≤ 4194304

-- so many runs of these lines were taken, each with room behind these libraries
pub record HasTaken (libraries : List ℕ) (lines : List (List ℕ)) (count : ℕ) (head come : Option (List ℕ)) : Type 0 where
  pub rest : List (List ℕ)
  pub done : List Run
  pub lines_are : lines ≡ flat_map run_lines done ++ rest
  pub runs_are : line_runs lines ≡ done ++ line_runs rest
  pub fit : AllOf (HasRoom libraries) done
  pub count_is : length done ≡ count
  pub at_head : AtHead head come rest

module _ (chains : ℕ) (accounts : List Account) (libraries : List ℕ) (stray : ℕ) (front : Front) (lines : List (List ℕ)) (before : Option (List Filing)) where
  pub none_cut : (head come : Option (List ℕ)) (cutter : Cutter) → IsCutter chains accounts libraries [] stray cutter → AtHead head come lines → HasCut chains accounts libraries stray front lines before head come cutter before
  none_cut head come cutter is at =
      let same : stray ≡ stray + sum_by run_strays [] = omega arith in
      record { done = []; rest = lines; runs_are = refl; at_head = at; cutter_is = subst (λ (n : ℕ). IsCutter chains accounts libraries [] n cutter) same is; files = files_none before }

  pub one_cut : (head come head' come' : Option (List ℕ)) (cutter cutter' : Cutter) (filed filed' : Option (List Filing)) (text : List ℕ) (h : HasCut chains accounts libraries stray front lines before head come cutter filed) (t : TakesRun h.rest head' come' text)
      → IsCutter chains accounts libraries (night_jobs front 1 h.done ++ cut_job front (1 + length h.done) t.run ∷ []) (stray + sum_by run_strays h.done + run_strays t.run) cutter'
      → Files before filed' (filed_of chains libraries (night_jobs front 1 h.done ++ cut_job front (1 + length h.done) t.run ∷ []))
      → HasCut chains accounts libraries stray front lines before head' come' cutter' filed'
  one_cut head come head' come' cutter cutter' filed filed' text h t is files =
      let jobs = jobs_push front 1 h.done t.run in
      let strays : stray + sum_by run_strays h.done + run_strays t.run ≡ stray + sum_by run_strays (h.done ++ t.run ∷ []) = omega (arith, sum_by-append run_strays h.done (t.run ∷ []), sum_by-cons run_strays t.run []) in
      record {
        done = h.done ++ t.run ∷ [];
        rest = t.rest;
        runs_are = h.runs_are ∙ ap (λ (rs : List Run). h.done ++ rs) t.runs_are ∙ sym (append_assoc h.done (t.run ∷ []) (line_runs t.rest));
        at_head = t.at_head;
        cutter_is = subst (λ (n : ℕ). IsCutter chains accounts libraries (night_jobs front 1 (h.done ++ t.run ∷ [])) n cutter') strays
            (subst (λ (js : List NightJob). IsCutter chains accounts libraries js (stray + sum_by run_strays h.done + run_strays t.run) cutter') (sym jobs) is);
        files = subst (λ (js : List NightJob). Files before filed' (filed_of chains libraries js)) (sym jobs) files;
      }

  abbrev total : ℕ
  total = stray + sum_by run_strays (line_runs lines)

  abbrev whole : List Filing
  whole = all_filed_of chains libraries (night_jobs front 1 (line_runs lines)) total

  abbrev last : List Filing
  last = record { file = Plan; text = last_row total } ∷ []

  -- what is filed of the first runs comes first in the whole
  first_runs : (done more : List Run) → line_runs lines ≡ done ++ more → (rest : List Filing) × (whole ≡ filed_of chains libraries (night_jobs front 1 done) ++ rest)
  first_runs done more are =
      let jobs = night_jobs front 1 done in
      let behind = night_jobs front (1 + length done) more in
      let first = filed_first chains libraries (room_behind libraries) jobs behind in (
        first.0 ++ last,
        ap (λ (rs : List Run). all_filed_of chains libraries (night_jobs front 1 rs) total) are
            ∙ ap (λ (js : List NightJob). all_filed_of chains libraries js total) (jobs_append front 1 done more)
            ∙ ap (λ (fs : List Filing). fs ++ last) first.1
            ∙ append_assoc (filed_of chains libraries jobs) first.0 last,
      )

  pub first_by_then : (head come : Option (List ℕ)) (cutter : Cutter) (filed : Option (List Filing)) → HasCut chains accounts libraries stray front lines before head come cutter filed → FilesFirst before filed whole
  first_by_then head come cutter filed h =
      let first = first_runs h.done (line_runs h.rest) h.runs_are in
      record { done = filed_of chains libraries (night_jobs front 1 h.done); rest = first.0; whole = first.1; filed = h.files }

  pub first_in_run : (head come head' come' : Option (List ℕ)) (cutter : Cutter) (filed filed' : Option (List Filing)) (text : List ℕ) (h : HasCut chains accounts libraries stray front lines before head come cutter filed) (t : TakesRun h.rest head' come' text)
      → FilesFirst before filed' (filed_of chains libraries (night_jobs front 1 h.done ++ cut_job front (1 + length h.done) t.run ∷ [])) → FilesFirst before filed' whole
  first_in_run head come head' come' cutter filed filed' text h t some =
      let are : line_runs lines ≡ (h.done ++ t.run ∷ []) ++ line_runs t.rest = h.runs_are ∙ ap (λ (rs : List Run). h.done ++ rs) t.runs_are ∙ sym (append_assoc h.done (t.run ∷ []) (line_runs t.rest)) in
      let first = first_runs (h.done ++ t.run ∷ []) (line_runs t.rest) are in
      record {
        done = some.done;
        rest = some.rest ++ first.0;
        whole = first.1
            ∙ ap (λ (js : List NightJob). filed_of chains libraries js ++ first.0) (jobs_push front 1 h.done t.run)
            ∙ ap (λ (fs : List Filing). fs ++ first.0) some.whole ∙ append_assoc some.done some.rest first.0;
        filed = some.filed;
      }

  -- at the end the runs that were cut are all
  pub all_cut : (head come : Option (List ℕ)) (cutter : Cutter) (filed : Option (List Filing)) (h : HasCut chains accounts libraries stray front lines before head come cutter filed) → h.rest ≡ [] → line_runs lines ≡ h.done
  all_cut head come cutter filed h none = h.runs_are ∙ ap (λ (ls : List (List ℕ)). h.done ++ line_runs ls) none ∙ append-nil h.done

-- ---- runs that are taken

pub none_taken : (libraries : List ℕ) (lines : List (List ℕ)) (head come : Option (List ℕ)) → AtHead head come lines → HasTaken libraries lines 0 head come
none_taken libraries lines head come at = record { rest = lines; done = []; lines_are = refl; runs_are = refl; fit = tt; count_is = refl; at_head = at }

all_more : (P : Run → Type 0) (done : List Run) (run : Run) → AllOf P done → P run → AllOf P (done ++ run ∷ [])
all_more P [] run all this = (this, tt)
all_more P (first ∷ done) run all this = (all.0, all_more P done run all.1 this)

pub one_taken : (libraries : List ℕ) (lines : List (List ℕ)) (count : ℕ) (head come head' come' : Option (List ℕ)) (text : List ℕ) (h : HasTaken libraries lines count head come) (t : TakesRun h.rest head' come' text) → HasRoom libraries t.run
    → HasTaken libraries lines (count + 1) head' come'
one_taken libraries lines count head come head' come' text h t room =
    let before = flat_map run_lines h.done in
    let one : before ++ run_lines t.run ≡ flat_map run_lines (h.done ++ t.run ∷ []) =
    ap (λ (ls : List (List ℕ)). before ++ ls) (sym (append-nil (run_lines t.run))) ∙ sym (flat_map-append run_lines h.done (t.run ∷ [])) in
    record {
      rest = t.rest;
      done = h.done ++ t.run ∷ [];
      lines_are = h.lines_are ∙ ap (λ (ls : List (List ℕ)). before ++ ls) t.lines_are ∙ sym (append_assoc before (run_lines t.run) t.rest) ∙ ap (λ (ls : List (List ℕ)). ls ++ t.rest) one;
      runs_are = h.runs_are ∙ ap (λ (rs : List Run). h.done ++ rs) t.runs_are ∙ sym (append_assoc h.done (t.run ∷ []) (line_runs t.rest));
      fit = all_more (HasRoom libraries) h.done t.run h.fit room;
      count_is = omega (arith, length-append h.done (t.run ∷ []), h.count_is);
      at_head = t.at_head;
    }

among : (lines : List (List ℕ)) (done more : List Run) (run : Run) → line_runs lines ≡ done ++ run ∷ more → Contains (line_runs lines) run
among lines done more run are = subst (λ (rs : List Run). Contains rs run) (sym are) (Contains-append_right done (run ∷ more) run (0, omega arith, refl))

-- a run that is too large, behind those that were taken
pub too_large_next : (libraries : List ℕ) (lines : List (List ℕ)) (count : ℕ) (head come : Option (List ℕ)) (h : HasTaken libraries lines count head come) → IsLargeRun h.rest → AreTooLarge libraries lines
too_large_next libraries lines count head come h (inl large) =
    a_run large.0 (among lines h.done large.1 large.0 (h.runs_are ∙ ap (λ (rs : List Run). h.done ++ rs) large.2)) (omega (arith, large.3))
too_large_next libraries lines count head come h (inr long) = a_line (subst HasLongLine (sym h.lines_are) (long_behind (flat_map run_lines h.done) h.rest long))

-- one that has no room behind the libraries
pub too_large_behind : (libraries : List ℕ) (lines : List (List ℕ)) (count : ℕ) (head come head' come' : Option (List ℕ)) (text : List ℕ) (h : HasTaken libraries lines count head come) (t : TakesRun h.rest head' come' text) → IsLargeBehind libraries t.run
    → AreTooLarge libraries lines
too_large_behind libraries lines count head come head' come' text h t large =
    a_run t.run (among lines h.done (line_runs t.rest) t.run (h.runs_are ∙ ap (λ (rs : List Run). h.done ++ rs) t.runs_are)) large

-- too many
pub too_many : (libraries : List ℕ) (lines : List (List ℕ)) (count : ℕ) (head come : Option (List ℕ)) → HasTaken libraries lines count head come → 2 ^ 32 - 1 ≤ count → AreTooLarge libraries lines
too_many libraries lines count head come h many = the_jobs (omega (arith, many, h.count_is, ap length h.runs_are, length-append h.done (line_runs h.rest)))

-- ---- runs that aren't too large

no_longer : (line : List ℕ) → length line ≤ 4194304 → nat_lt 4194304 (length line) ≡ false
no_longer line h = grind (arith, nat_tests)

-- no line of a text that isn't over 4,194,304 bytes is
pub none_long : (lines : List (List ℕ)) → length (text_of_lines lines) ≤ 4194304 → list_any (λ line. nat_lt 4194304 (length line)) lines ≡ false
none_long [] few = refl
none_long (line ∷ lines) few =
    let both : length (text_of_lines (line ∷ lines)) ≡ length line + 1 + length (text_of_lines lines) = omega (arith, length-append (row line) (text_of_lines lines), length-append line (10 ∷ [])) in
    ap (λ (v : Bool). v || list_any (λ l. nat_lt 4194304 (length l)) lines) (no_longer line (omega (arith, both, few))) ∙ none_long lines (omega (arith, both, few))

neither : (a b : Bool) → a ≡ false → b ≡ false → (a || b) ≡ false
neither false b h k = k
neither true b h k = cc

pub none_long_both : (some more : List (List ℕ)) → list_any (λ line. nat_lt 4194304 (length line)) some ≡ false → list_any (λ line. nat_lt 4194304 (length line)) more ≡ false
    → list_any (λ line. nat_lt 4194304 (length line)) (some ++ more) ≡ false
none_long_both some more h k = list_any-append (λ line. nat_lt 4194304 (length line)) some more ∙ neither _ _ h k

none_in_runs : (libraries : List ℕ) (rs : List Run) → AllOf (HasRoom libraries) rs → list_any (λ line. nat_lt 4194304 (length line)) (flat_map run_lines rs) ≡ false
none_in_runs libraries [] all = refl
none_in_runs libraries (run ∷ rs) all = none_long_both (run_lines run) (flat_map run_lines rs) (none_long (run_lines run) (omega (arith, all.0))) (none_in_runs libraries rs all.1)

-- where all were taken, they weren't too large
pub small_enough : (libraries : List ℕ) (lines : List (List ℕ)) (count : ℕ) (head come : Option (List ℕ)) (h : HasTaken libraries lines count head come) → h.rest ≡ [] → count < 2 ^ 32 - 1 → AreTooLarge libraries lines → ⊥
small_enough libraries lines count head come h none few (a_line long) =
    let are : lines ≡ flat_map run_lines h.done = h.lines_are ∙ ap (λ (ls : List (List ℕ)). flat_map run_lines h.done ++ ls) none ∙ append-nil (flat_map run_lines h.done) in
    let short : list_any (λ line. nat_lt 4194304 (length line)) lines ≡ false = ap (list_any (λ line. nat_lt 4194304 (length line))) are ∙ none_in_runs libraries h.done h.fit in
    cc
small_enough libraries lines count head come h none few (a_run run has large) =
    let are : line_runs lines ≡ h.done = h.runs_are ∙ ap (λ (ls : List (List ℕ)). h.done ++ line_runs ls) none ∙ append-nil h.done in
    let room : HasRoom libraries run = All-contains (HasRoom libraries) h.done run (All-from_recursion (HasRoom libraries) h.done h.fit) (subst (λ (rs : List Run). Contains rs run) are has) in
    omega (arith, room, large)
small_enough libraries lines count head come h none few (the_jobs many) =
    let are : line_runs lines ≡ h.done = h.runs_are ∙ ap (λ (ls : List (List ℕ)). h.done ++ line_runs ls) none ∙ append-nil h.done in
    omega (arith, many, few, h.count_is, ap length are)

-- ---- why it stopped

pub cut_read : (stop : Stop) (read then read' filed filed' : ℕ) (P Q : Type 0) → then ≡ read → ReadCause stop then read' P → (P → Q) → CutCause stop read read' filed filed' Q
cut_read NoMemory read then read' filed filed' P Q same cause step = tt
cut_read ReadFault read then read' filed filed' P Q same cause step = subst (λ (n : ℕ). Rose n read') same cause
cut_read WriteFault read then read' filed filed' P Q same cause step = absurd cause
cut_read TooLarge read then read' filed filed' P Q same cause step = step cause
cut_read BadAccounts read then read' filed filed' P Q same cause step = cause

pub cut_run : (stop : Stop) (read read' filed then filed' : ℕ) (P Q : Type 0) → then ≡ filed → RunCause stop then filed' P → (P → Q) → CutCause stop read read' filed filed' Q
cut_run NoMemory read read' filed then filed' P Q same cause step = tt
cut_run ReadFault read read' filed then filed' P Q same cause step = absurd cause
cut_run WriteFault read read' filed then filed' P Q same cause step = subst (λ (n : ℕ). Rose n filed') same cause
cut_run TooLarge read read' filed then filed' P Q same cause step = step cause
cut_run BadAccounts read read' filed then filed' P Q same cause step = cause

pub cut_write : (stop : Stop) (read read' filed then filed' : ℕ) (Q : Type 0) → then ≡ filed → WriteCause stop then filed' → CutCause stop read read' filed filed' Q
cut_write NoMemory read read' filed then filed' Q same cause = tt
cut_write ReadFault read read' filed then filed' Q same cause = absurd cause
cut_write WriteFault read read' filed then filed' Q same cause = subst (λ (n : ℕ). Rose n filed') same cause
cut_write TooLarge read read' filed then filed' Q same cause = absurd cause
cut_write BadAccounts read read' filed then filed' Q same cause = cause
