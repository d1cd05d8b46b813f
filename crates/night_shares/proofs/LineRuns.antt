-- The lines up to the first that begins a job, and the runs of lines.
use Rattle.std.proofs.Common.{◌≡◌, ℕ, ◌+◌, ◌<◌, ◌||◌, Bool, true, false, cond, not, nat_lt, List, [], ◌∷◌, ◌++◌, length, take, drop, Option, Some, None, refl, sym, ap, subst, ◌∙◌, inl, inr, arith, append_assoc, append-nil, one-add}
use Rattle.std.specs.List.{AllByRecursion, before_first, list_any, position_or_len}
use Rattle.std.proofs.lemmas.Bool.Decides.{nat_tests}
use Rattle.std.proofs.lemmas.Grind.{flat_map-append}
use Rattle.std.proofs.lemmas.List.{length-append, take-append-drop}
use Rattle.deck_reader.specs.Batch.{Run}
use Rattle.deck_reader.specs.Cards.{pieces}
use Rattle.night_shares.specs.Lines.{begins_job, front_lines, line_runs, lines_from_head, text_of_lines}
use Rattle.night_shares.specs.Plan.{row}
use Rattle.night_shares.specs.Reading.{HasLongFirst, IsInLine}
use Rattle.night_shares.specs.Running.{AtHead, HasLongLine, IsLargeRun, IsLargeUpTo, TakesRun, TakesUpTo}

neither_of : (a b : Bool) → (a || b) ≡ false → (a ≡ false) × (b ≡ false)
neither_of true b h = cc
neither_of false b h = (refl, h)

module _ {X : Type 0} (p : X → Bool) where
  cons_before : (x : X) (xs : List X) → p x ≡ false → before_first p (x ∷ xs) ≡ x ∷ before_first p xs
  cons_before x xs other =
      ap (λ (v : Bool). take (cond (not v) (1 + position_or_len p xs) 0) (x ∷ xs)) other
      ∙ ap (λ (n : ℕ). take n (x ∷ xs)) (one-add (position_or_len p xs))

  cons_from : (x : X) (xs : List X) → p x ≡ false → drop (position_or_len p (x ∷ xs)) (x ∷ xs) ≡ drop (position_or_len p xs) xs
  cons_from x xs other =
      ap (λ (v : Bool). drop (cond (not v) (1 + position_or_len p xs) 0) (x ∷ xs)) other
      ∙ ap (λ (n : ℕ). drop n (x ∷ xs)) (one-add (position_or_len p xs))

  -- where one passes behind others that don't
  pub before_at : (done : List X) (x : X) (more : List X) → list_any p done ≡ false → p x ≡ true → before_first p (done ++ x ∷ more) ≡ done
  before_at [] x more none this = ap (λ (v : Bool). take (cond (not v) (1 + position_or_len p more) 0) (x ∷ more)) this
  before_at (d ∷ done) x more none this =
      let both = neither_of (p d) (list_any p done) none in
      cons_before d (done ++ x ∷ more) both.0 ∙ ap (λ (xs : List X). d ∷ xs) (before_at done x more both.1 this)

  pub from_at : (done : List X) (x : X) (more : List X) → list_any p done ≡ false → p x ≡ true → drop (position_or_len p (done ++ x ∷ more)) (done ++ x ∷ more) ≡ x ∷ more
  from_at [] x more none this = ap (λ (v : Bool). drop (cond (not v) (1 + position_or_len p more) 0) (x ∷ more)) this
  from_at (d ∷ done) x more none this =
      let both = neither_of (p d) (list_any p done) none in
      cons_from d (done ++ x ∷ more) both.0 ∙ from_at done x more both.1 this

  -- where none passes
  pub before_all : (done : List X) → list_any p done ≡ false → before_first p done ≡ done
  before_all [] none = refl
  before_all (d ∷ done) none =
      let both = neither_of (p d) (list_any p done) none in
      cons_before d done both.0 ∙ ap (λ (xs : List X). d ∷ xs) (before_all done both.1)

  pub from_all : (done : List X) → list_any p done ≡ false → drop (position_or_len p done) done ≡ []
  from_all [] none = refl
  from_all (d ∷ done) none = let both = neither_of (p d) (list_any p done) none in cons_from d done both.0 ∙ from_all done both.1

  -- what stands before those that don't pass stands before the first that does
  pub before_more : (done more : List X) → list_any p done ≡ false → before_first p (done ++ more) ≡ done ++ before_first p more
  before_more [] more none = refl
  before_more (d ∷ done) more none =
      let both = neither_of (p d) (list_any p done) none in
      cons_before d (done ++ more) both.0 ∙ ap (λ (xs : List X). d ∷ xs) (before_more done more both.1)

  none_more : (x : X) (rest : List X) → p x ≡ false → list_any p rest ≡ false → list_any p (x ∷ rest) ≡ false
  none_more x rest this others = ap (λ (v : Bool). v || list_any p rest) this ∙ others

  none_before_by : (v : Bool) (x : X) (xs : List X) → p x ≡ v → list_any p (before_first p xs) ≡ false → list_any p (take (cond (not v) (1 + position_or_len p xs) 0) (x ∷ xs)) ≡ false
  none_before_by true x xs is rest = refl
  none_before_by false x xs is rest =
      ap (λ (n : ℕ). list_any p (take n (x ∷ xs))) (one-add (position_or_len p xs)) ∙ none_more x (before_first p xs) is rest

  -- none passes of those before the first that does
  pub none_before : (xs : List X) → list_any p (before_first p xs) ≡ false
  none_before [] = refl
  none_before (x ∷ xs) = none_before_by (p x) x xs refl (none_before xs)

-- one more that doesn't pass
pub none_push : {X : Type 0} (p : X → Bool) (done : List X) (x : X) → list_any p done ≡ false → p x ≡ false → list_any p (done ++ x ∷ []) ≡ false
none_push p [] x none this = ap (λ (v : Bool). v || false) this
none_push p (d ∷ done) x none this =
    let both = neither_of (p d) (list_any p done) none in
    ap (λ (v : Bool). v || list_any p (done ++ x ∷ [])) both.0 ∙ none_push p done x both.1 this

pub all_push : (P : List ℕ → Type 0) (done : List (List ℕ)) (x : List ℕ) → AllByRecursion P done → P x → AllByRecursion P (done ++ x ∷ [])
all_push P [] x all this = (this, tt)
all_push P (d ∷ done) x all this = (all.0, all_push P done x all.1 this)

-- ---- the runs of lines

-- a line that begins a job begins a run
pub first_run : (head : List ℕ) (lines : List (List ℕ)) → begins_job head ≡ true → line_runs (head ∷ lines) ≡ record { head = head; behind = front_lines lines } ∷ line_runs lines
first_run head lines begins = ap (λ (v : Bool). cond v (record { head = head; behind = front_lines lines } ∷ line_runs lines) (line_runs lines)) begins

from_by : (v : Bool) (line : List ℕ) (lines : List (List ℕ)) → begins_job line ≡ v → line_runs lines ≡ line_runs (lines_from_head lines)
    → line_runs (line ∷ lines) ≡ line_runs (drop (cond (not v) (1 + position_or_len begins_job lines) 0) (line ∷ lines))
from_by true line lines is rest = refl
from_by false line lines is rest =
    ap (λ (v : Bool). cond v (record { head = line; behind = front_lines lines } ∷ line_runs lines) (line_runs lines)) is
    ∙ rest ∙ ap (λ (n : ℕ). line_runs (drop n (line ∷ lines))) (sym (one-add (position_or_len begins_job lines)))

-- the lines before the first job are in no run
pub runs_from : (lines : List (List ℕ)) → line_runs lines ≡ line_runs (lines_from_head lines)
runs_from [] = refl
runs_from (line ∷ lines) = from_by (begins_job line) line lines refl (runs_from lines)

-- ---- lines that are taken up to the next job

pub text_push : (text : List ℕ) (done : List (List ℕ)) (line : List ℕ) → (text ++ text_of_lines done) ++ row line ≡ text ++ text_of_lines (done ++ line ∷ [])
text_push text done line =
    append_assoc text (text_of_lines done) (row line)
    ∙ ap (λ (t : List ℕ). text ++ (text_of_lines done ++ t)) (sym (append-nil (row line)))
    ∙ ap (λ (t : List ℕ). text ++ t) (sym (flat_map-append row done (line ∷ [])))

-- up to a line that begins a job
pub taken_to_head : (before bytes : List ℕ) (head come : Option (List ℕ)) (text head_text line rest : List ℕ) (done : List (List ℕ))
    → pieces bytes ≡ done ++ line ∷ pieces rest → list_any begins_job done ≡ false → AllByRecursion IsInLine done → begins_job line ≡ true → IsInLine line
    → text ≡ before ++ text_of_lines done → head ≡ Some head_text → head_text ≡ row line → come ≡ Some rest → TakesUpTo before bytes head come text
taken_to_head before bytes head come text head_text line rest done are none all begins in_line text_is head_is row_is come_is =
    let front : front_lines (pieces bytes) ≡ done = ap front_lines are ∙ before_at begins_job done line (pieces rest) none begins in
    let from : lines_from_head (pieces bytes) ≡ line ∷ pieces rest = ap lines_from_head are ∙ from_at begins_job done line (pieces rest) none begins in
    let at : AtHead (Some head_text) come (line ∷ pieces rest) = (line, rest, come_is, row_is, in_line, begins, refl) in
    let P : Option (List ℕ) → Type 0 = λ h. AtHead h come (line ∷ pieces rest) in
    let Q : List (List ℕ) → Type 0 = λ ls. AtHead head come ls in
    record {
      text_is = text_is ∙ ap (λ (ls : List (List ℕ)). before ++ text_of_lines ls) (sym front);
      at_head = subst Q (sym from) (subst P (sym head_is) at);
      in_lines = subst (AllByRecursion IsInLine) (sym front) all;
    }

-- up to the end
pub taken_to_end : (before bytes : List ℕ) (head come : Option (List ℕ)) (text : List ℕ) (done : List (List ℕ))
    → pieces bytes ≡ done → list_any begins_job done ≡ false → AllByRecursion IsInLine done → text ≡ before ++ text_of_lines done → head ≡ None → come ≡ Some [] → TakesUpTo before bytes head come text
taken_to_end before bytes head come text done are none all text_is head_is come_is =
    let front : front_lines (pieces bytes) ≡ done = ap front_lines are ∙ before_all begins_job done none in
    let from : lines_from_head (pieces bytes) ≡ [] = ap lines_from_head are ∙ from_all begins_job done none in
    let at : AtHead None come [] = (come_is, refl) in
    let P : Option (List ℕ) → Type 0 = λ h. AtHead h come [] in
    let Q : List (List ℕ) → Type 0 = λ ls. AtHead head come ls in
    record {
      text_is = text_is ∙ ap (λ (ls : List (List ℕ)). before ++ text_of_lines ls) (sym front);
      at_head = subst Q (sym from) (subst P (sym head_is) at);
      in_lines = subst (AllByRecursion IsInLine) (sym front) all;
    }

-- lines that are too large by now
pub large_by_now : (before bytes text rest : List ℕ) (done : List (List ℕ)) → pieces bytes ≡ done ++ pieces rest → list_any begins_job done ≡ false
    → text ≡ before ++ text_of_lines done → 4194304 < length text → IsLargeUpTo before (pieces bytes)
large_by_now before bytes text rest done are none text_is long =
    let front : front_lines (pieces bytes) ≡ done ++ front_lines (pieces rest) = ap front_lines are ∙ before_more begins_job done (pieces rest) none in
    let all : text_of_lines (front_lines (pieces bytes)) ≡ text_of_lines done ++ text_of_lines (front_lines (pieces rest)) = ap text_of_lines front ∙ flat_map-append row done (front_lines (pieces rest)) in
    inl (omega (arith, long, ap length text_is, ap length all, length-append before (text_of_lines done), length-append before (text_of_lines (front_lines (pieces bytes))), length-append (text_of_lines done) (text_of_lines (front_lines (pieces rest)))))

is_long : (line : List ℕ) → 4194304 < length line → nat_lt 4194304 (length line) ≡ true
is_long line h = grind (arith, nat_tests)

or_true : (b : Bool) → (b || true) ≡ true
or_true true = refl
or_true false = refl

long_at : (done : List (List ℕ)) (line : List ℕ) (others : List (List ℕ)) → 4194304 < length line → HasLongLine (done ++ line ∷ others)
long_at [] line others long = ap (λ (v : Bool). v || list_any (λ l. nat_lt 4194304 (length l)) others) (is_long line long)
long_at (d ∷ done) line others long = ap (λ (v : Bool). nat_lt 4194304 (length d) || v) (long_at done line others long) ∙ or_true (nat_lt 4194304 (length d))

-- a line to come that is too long
pub long_to_come : (before bytes rest : List ℕ) (done : List (List ℕ)) → pieces bytes ≡ done ++ pieces rest → HasLongFirst rest → IsLargeUpTo before (pieces bytes)
long_to_come before bytes rest done are first =
    inr (subst HasLongLine (sym (are ∙ ap (λ (ls : List (List ℕ)). done ++ ls) first.are)) (long_at done first.line first.others first.long))

-- ---- a run that is taken

pub run_taken : (lines : List (List ℕ)) (head come : Option (List ℕ)) (text line bytes : List ℕ) → lines ≡ line ∷ pieces bytes → begins_job line ≡ true → IsInLine line
    → TakesUpTo (row line) bytes head come text → TakesRun lines head come text
run_taken lines head come text line bytes are begins in_line taken =
    let run : Run = record { head = line; behind = front_lines (pieces bytes) } in
    record {
      run = run;
      is_run = record { begins = begins; others = none_before begins_job (pieces bytes); in_lines = (in_line, taken.in_lines) };
      text_is = taken.text_is;
      rest = lines_from_head (pieces bytes);
      lines_are = are ∙ ap (λ (ls : List (List ℕ)). line ∷ ls) (sym (take-append-drop (position_or_len begins_job (pieces bytes)) (pieces bytes)));
      runs_are = ap line_runs are ∙ first_run line (pieces bytes) begins ∙ ap (λ (rs : List Run). run ∷ rs) (runs_from (pieces bytes));
      at_head = taken.at_head;
    }

pub run_large : (lines : List (List ℕ)) (line bytes : List ℕ) → lines ≡ line ∷ pieces bytes → begins_job line ≡ true → IsLargeUpTo (row line) (pieces bytes) → IsLargeRun lines
run_large lines line bytes are begins (inl long) = inl (record { head = line; behind = front_lines (pieces bytes) }, line_runs (pieces bytes), ap line_runs are ∙ first_run line (pieces bytes) begins, long)
run_large lines line bytes are begins (inr long) =
    inr (ap (list_any (λ l. nat_lt 4194304 (length l))) are ∙ ap (λ (v : Bool). nat_lt 4194304 (length line) || v) long ∙ or_true (nat_lt 4194304 (length line)))
