-- The lines before the first job, with a job card behind them.
use Rattle.std.proofs.Common.{◌≡◌, ℕ, ◌+◌, ◌-◌, ◌<◌, ◌≤◌, ◌||◌, Bool, true, false, cond, nat_lt, List, [], ◌∷◌, ◌++◌, length, map, codes, Some, None, refl, sym, ap, ◌∙◌, arith, sum_by}
use Rattle.std.specs.List.{AllByRecursion, list_any}
use Rattle.std.proofs.lemmas.Bool.Decides.{nat_tests}
use Rattle.std.proofs.lemmas.Grind.{flat_map-append}
use Rattle.std.proofs.lemmas.List.{length-append, map-append}
use Rattle.std.proofs.lemmas.List.Sums.{sum_by-cons}
use Rattle.deck_reader.specs.Batch.{Run, batch_with, before_head, claimed, known_libraries, known_libraries_of, libraries_in, outside, passes, runs, shelf_of, shelved, strays, too_large, written}
use Rattle.deck_reader.specs.Cards.{cards, cleaned, ended}
use Rattle.deck_reader.specs.Forms.{is_head}
use Rattle.deck_reader.specs.LibraryView.{Shelved}
use Rattle.deck_reader.proofs.Runs.{no_run, runs-passing}
use Rattle.night_shares.specs.Batches.{front_libraries, front_strays}
use Rattle.night_shares.specs.Jobs.{libraries_text}
use Rattle.night_shares.specs.Lines.{begins_job, text_of_lines}
use Rattle.night_shares.specs.Plan.{row}
use Rattle.night_shares.specs.Reading.{IsInLine}
use Rattle.night_shares.proofs.Batches.{fits_by, heads_same}
use Rattle.night_shares.proofs.LineRuns.{all_push, before_all, before_at}
use Rattle.night_shares.proofs.Texts.{cards_of_lines, ended_lines}

-- a line that begins a job
abbrev head_line : List ℕ
head_line = codes "%JOB"

-- the lines, and that one behind them
abbrev with_head : List (List ℕ) → List (List ℕ)
with_head lines = lines ++ head_line ∷ []

text_with_head : (lines : List (List ℕ)) (text : List ℕ) → text ≡ text_of_lines lines → text ++ codes "%JOB\n" ≡ text_of_lines (with_head lines)
text_with_head lines text is = ap (λ (t : List ℕ). t ++ codes "%JOB\n") is ∙ sym (flat_map-append row lines (head_line ∷ []))

in_lines : (lines : List (List ℕ)) → AllByRecursion IsInLine lines → AllByRecursion IsInLine (with_head lines)
in_lines lines all = all_push IsInLine lines head_line all refl

cards_with_head : (lines : List (List ℕ)) → map cleaned (with_head lines) ≡ map cleaned lines ++ cleaned head_line ∷ []
cards_with_head lines = map-append cleaned lines (head_line ∷ [])

no_head : (lines : List (List ℕ)) → list_any begins_job lines ≡ false → list_any is_head (map cleaned lines) ≡ false
no_head lines none = heads_same lines ∙ none

before_with_head : (lines : List (List ℕ)) → list_any begins_job lines ≡ false → before_head (map cleaned (with_head lines)) ≡ map cleaned lines
before_with_head lines none = ap before_head (cards_with_head lines) ∙ before_at is_head (map cleaned lines) (cleaned head_line) [] (no_head lines none) refl

runs_with_head : (lines : List (List ℕ)) → list_any begins_job lines ≡ false → runs (map cleaned (with_head lines)) ≡ record { head = cleaned head_line; behind = [] } ∷ []
runs_with_head lines none =
    ap runs (cards_with_head lines)
    ∙ runs-passing is_head (map cleaned lines) (cleaned head_line) refl
    ∙ ap (λ (rs : List Run). rs ++ record { head = cleaned head_line; behind = [] } ∷ []) (no_run is_head (map cleaned lines) (no_head lines none))

any_with_head : (cs : List (List ℕ)) (c : List ℕ) → is_head c ≡ true → list_any is_head (cs ++ c ∷ []) ≡ true
any_with_head [] c is = ap (λ (v : Bool). v || false) is
any_with_head (d ∷ cs) c is = ap (λ (v : Bool). is_head d || v) (any_with_head cs c is) ∙ or_true (is_head d)
  where
    or_true : (b : Bool) → (b || true) ≡ true
    or_true true = refl
    or_true false = refl

-- the libraries that are known behind it
pub libraries_known : (lines : List (List ℕ)) (text : List ℕ) → AllByRecursion IsInLine lines → list_any begins_job lines ≡ false → text ≡ text_of_lines lines
    → known_libraries (text ++ codes "%JOB\n") ≡ Some (shelf_of (map cleaned lines))
libraries_known lines text all none is =
    let some : list_any is_head (map cleaned (with_head lines)) ≡ true = ap (list_any is_head) (cards_with_head lines) ∙ any_with_head (map cleaned lines) (cleaned head_line) refl in
    let front : before_head (map cleaned lines) ≡ map cleaned lines = before_all is_head (map cleaned lines) (no_head lines none) in
    ap (λ (t : List ℕ). known_libraries_of (map cleaned (ended t))) (text_with_head lines text is)
    ∙ ap (λ (ls : List (List ℕ)). known_libraries_of (map cleaned ls)) (ended_lines (with_head lines) (in_lines lines all))
    ∙ ap (λ (v : Bool). cond v (Some (shelf_of (map cleaned (with_head lines)))) None) some
    ∙ ap (λ (before : List (List ℕ)). Some (shelf_by before)) (before_with_head lines none ∙ sym front)
  where
    shelf_by : List (List ℕ) → List Shelved
    shelf_by before = map shelved (libraries_in before)

-- how many cards are stray then
pub strays_known : (lines : List (List ℕ)) (text : List ℕ) → AllByRecursion IsInLine lines → list_any begins_job lines ≡ false → text ≡ text_of_lines lines
    → (batch_with (Some []) (text ++ codes "%JOB\n")).stray ≡ front_strays lines
strays_known lines text all none is =
    let counted : List (List ℕ) → List Run → ℕ = λ before rs. (written before - claimed (Some []) before) + sum_by (λ run. written (outside run)) rs in
    let front : before_head (map cleaned lines) ≡ map cleaned lines = before_all is_head (map cleaned lines) (no_head lines none) in
    let none_run : runs (map cleaned lines) ≡ [] = no_run is_head (map cleaned lines) (no_head lines none) in
    let here : counted (map cleaned lines) (record { head = cleaned head_line; behind = [] } ∷ []) ≡ counted (map cleaned lines) [] =
    omega (arith, sum_by-cons (λ run. written (outside run)) (record { head = cleaned head_line; behind = [] }) []) in
    ap (λ (t : List ℕ). strays (Some []) (cards t)) (text_with_head lines text is)
    ∙ ap (strays (Some [])) (cards_of_lines (with_head lines) (in_lines lines all))
    ∙ ap (λ (before : List (List ℕ)). counted before (runs (map cleaned (with_head lines)))) (before_with_head lines none)
    ∙ ap (counted (map cleaned lines)) (runs_with_head lines none)
    ∙ here
    ∙ ap (counted (map cleaned lines)) (sym none_run)
    ∙ ap (λ (before : List (List ℕ)). counted before (runs (map cleaned lines))) (sym front)

-- ---- the limits of a batch

pub front_passes_not : (lines : List (List ℕ)) (text : List ℕ) → AllByRecursion IsInLine lines → list_any begins_job lines ≡ false → text ≡ text_of_lines lines → length text ≤ 4194304 → passes text ≡ false
front_passes_not lines text all none is few =
    let cs : map cleaned (ended text) ≡ map cleaned lines = ap (λ (t : List ℕ). map cleaned (ended t)) is ∙ ap (map cleaned) (ended_lines lines all) in
    fits_by text (map cleaned (ended text)) 0 few (ap (λ (c : List (List ℕ)). length (runs c)) cs ∙ ap length (no_run is_head (map cleaned lines) (no_head lines none))) (omega arith)

pub head_passes_not : (lines : List (List ℕ)) (text : List ℕ) → AllByRecursion IsInLine lines → list_any begins_job lines ≡ false → text ≡ text_of_lines lines → length (text ++ codes "%JOB\n") ≤ 4194304
    → passes (text ++ codes "%JOB\n") ≡ false
head_passes_not lines text all none is few =
    let whole = text ++ codes "%JOB\n" in
    let cs : map cleaned (ended whole) ≡ map cleaned (with_head lines) = ap (λ (t : List ℕ). map cleaned (ended t)) (text_with_head lines text is) ∙ ap (map cleaned) (ended_lines (with_head lines) (in_lines lines all)) in
    fits_by whole (map cleaned (ended whole)) 1 few (ap (λ (c : List (List ℕ)). length (runs c)) cs ∙ ap length (runs_with_head lines none)) (omega arith)

pub head_fits : (lines : List (List ℕ)) (text : List ℕ) → AllByRecursion IsInLine lines → list_any begins_job lines ≡ false → text ≡ text_of_lines lines → length (text ++ codes "%JOB\n") ≤ 4194304
    → too_large (text ++ codes "%JOB\n") ≡ false
head_fits lines text all none is few =
    let whole = text ++ codes "%JOB\n" in
    let cs : cards whole ≡ map cleaned (with_head lines) = ap cards (text_with_head lines text is) ∙ cards_of_lines (with_head lines) (in_lines lines all) in
    fits_by whole (cards whole) 1 few (ap (λ (c : List (List ℕ)). length (runs c)) cs ∙ ap length (runs_with_head lines none)) (omega arith)

-- bytes that pass a limit, with a job card behind them, are too many
few_by : (v : Bool) (n : ℕ) → nat_lt 4194304 n ≡ v → (n ≤ 4194304 → ⊥) → 4194304 < n
few_by true n is over = grind (arith, nat_tests)
few_by false n is over = absurd (over (grind (arith, nat_tests)))

over_unless : (n : ℕ) → (n ≤ 4194304 → ⊥) → 4194304 < n
over_unless n over = few_by (nat_lt 4194304 n) n refl over

pub front_over : (lines : List (List ℕ)) (text : List ℕ) → AllByRecursion IsInLine lines → list_any begins_job lines ≡ false → text ≡ text_of_lines lines → passes text ≡ true → 4194304 < length text + 5
front_over lines text all none is over =
    over_unless (length text + 5) (λ few. (let fits = front_passes_not lines text all none is (omega (arith, few)) in cc))

pub head_over : (lines : List (List ℕ)) (text : List ℕ) → AllByRecursion IsInLine lines → list_any begins_job lines ≡ false → text ≡ text_of_lines lines → passes (text ++ codes "%JOB\n") ≡ true → 4194304 < length text + 5
head_over lines text all none is over =
    over_unless (length text + 5) (λ few. (let fits = head_passes_not lines text all none is (omega (arith, few, length-append text (codes "%JOB\n"))) in cc))

pub whole_over : (lines : List (List ℕ)) (text : List ℕ) → AllByRecursion IsInLine lines → list_any begins_job lines ≡ false → text ≡ text_of_lines lines → too_large (text ++ codes "%JOB\n") ≡ true → 4194304 < length text + 5
whole_over lines text all none is over =
    over_unless (length text + 5) (λ few. (let fits = head_fits lines text all none is (omega (arith, few, length-append text (codes "%JOB\n"))) in cc))

-- bytes that pass none are few enough
neither_of : (a b : Bool) → (a || b) ≡ false → (a ≡ false) × (b ≡ false)
neither_of true b h = cc
neither_of false b h = (refl, h)

not_over : (n : ℕ) → nat_lt 4194304 n ≡ false → n ≤ 4194304
not_over n is = grind (arith, nat_tests)

pub head_within : (text : List ℕ) → passes (text ++ codes "%JOB\n") ≡ false → length text + 5 ≤ 4194304
head_within text is =
    let few = not_over (length (text ++ codes "%JOB\n")) (neither_of _ _ is).0 in
    omega (arith, few, length-append text (codes "%JOB\n"))

-- the libraries that are kept then
pub libraries_kept : (lines : List (List ℕ)) (text : List ℕ) (shelf : List Shelved) → AllByRecursion IsInLine lines → list_any begins_job lines ≡ false → text ≡ text_of_lines lines
    → known_libraries (text ++ codes "%JOB\n") ≡ Some shelf → libraries_text shelf ≡ front_libraries lines
libraries_kept lines text shelf all none is known = let here = libraries_known lines text all none is in let same : shelf ≡ shelf_of (map cleaned lines) = cc in ap libraries_text same

pub libraries_known_then : (lines : List (List ℕ)) (text : List ℕ) → AllByRecursion IsInLine lines → list_any begins_job lines ≡ false → text ≡ text_of_lines lines
    → known_libraries (text ++ codes "%JOB\n") ≡ None → ⊥
libraries_known_then lines text all none is known = let here = libraries_known lines text all none is in cc
