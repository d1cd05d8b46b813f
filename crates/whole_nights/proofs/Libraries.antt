-- The cards of a night's libraries begin the same libraries again.
use Rattle.std.proofs.Common.{◌≡◌, ℕ, zero, suc, ◌+◌, ◌||◌, not, nat_lt, Bool, true, false, cond, List, [], ◌∷◌, ◌++◌, Option, Some, None, length, take, map, filter, flat_map, filter_map, bytes_eq, refl, sym, ap, ◌∙◌, arith}
use Rattle.std.specs.Prelude.{⊤}
use Rattle.std.specs.List.{AllByRecursion, cons_option, list_all, list_any, position_or_len}
use Rattle.std.specs.Option.{option_map}
use Rattle.std.proofs.lemmas.Bool.Decides.{nat_tests}
use Rattle.std.proofs.lemmas.Grind.{flat_map-append}
use Rattle.std.proofs.lemmas.List.{map-append, take-map, take-take}
use Rattle.std.proofs.lemmas.List.Folds.{list_any-append}
use Rattle.std.proofs.lemmas.List.Sums.{sum_by-append, sum_by-cons}
use Rattle.deck_reader.specs.LibraryView.{LibraryView, Shelved}
use Rattle.deck_reader.specs.Batch.{Run, before_head, is_ill, libraries_in, libraries_on, library_on, runs_by, shelf_cards, shelf_of, shelved, written}
use Rattle.deck_reader.specs.CardFlaws.{is_foul, is_long}
use Rattle.deck_reader.specs.Cards.{cleaned}
use Rattle.deck_reader.specs.Forms.{is_account, is_allowed, is_control_card, is_head, is_library, library_card}
use Rattle.deck_reader.specs.Named.{first_by_name}
use Rattle.account_shares.proofs.Firsts.{all_append, all_take, neither_of}
use Rattle.account_shares.proofs.Kept.{AreRunsOf, IsRunOf, joined, one_if_written, runs_of}
use Rattle.account_shares.specs.Own.{run_cards}
use Rattle.night_shares.specs.Jobs.{libraries_text, library_cards, library_text}
use Rattle.night_shares.specs.Lines.{text_of_lines}
use Rattle.night_shares.specs.Plan.{row}
use Rattle.night_shares.specs.Reading.{IsInLine}
use Rattle.whole_nights.proofs.Shelves.{IsName, IsTrimmed, card_stays, head_begins, head_controls, head_of, head_shown, head_stays, named_on, one_line, trimmed_again}

-- ---- what is known of each library

pub record IsLibrary (l : LibraryView) : Type 0 where
  pub name : IsName l.name
  pub clear : list_any is_control_card l.cards ≡ false
  pub trimmed : AllByRecursion IsTrimmed l.cards

begun_by : (r : Option (List ℕ)) (run : Run) (ls : List LibraryView) → library_card run.head ≡ r → IsRunOf is_control_card IsTrimmed run → AllByRecursion IsLibrary ls
    → AllByRecursion IsLibrary (cons_option (option_map (λ name. record { name = name; cards = run.behind }) r) ls)
begun_by None run ls e is rest = rest
begun_by (Some name) run ls e is rest = (record { name = named_on (is_library run.head) run.head name e; clear = is.none; trimmed = is.others }, rest)

begun : (rs : List Run) → AreRunsOf is_control_card IsTrimmed rs → AllByRecursion IsLibrary (filter_map library_on rs)
begun [] are = tt
begun (run ∷ rs) are = begun_by (library_card run.head) run (filter_map library_on rs) refl are.0 (begun rs are.1)

filtered_by : (P : LibraryView → Type 0) (v : Bool) (l : LibraryView) (ls : List LibraryView) → P l → AllByRecursion P ls → AllByRecursion P (cond v (l ∷ ls) ls)
filtered_by P true l ls this rest = (this, rest)
filtered_by P false l ls this rest = rest

filtered : (P : LibraryView → Type 0) (q : LibraryView → Bool) (ls : List LibraryView) → AllByRecursion P ls → AllByRecursion P (filter q ls)
filtered P q [] all = tt
filtered P q (l ∷ ls) all = filtered_by P (q l) l (filter q ls) all.0 (filtered P q ls all.1)

firsts_all : (P : LibraryView → Type 0) (ls : List LibraryView) → AllByRecursion P ls → AllByRecursion P (first_by_name (λ l. l.name) ls)
firsts_all P [] all = tt
firsts_all P (l ∷ ls) all = (all.0, filtered P (λ m. not (bytes_eq m.name l.name)) (first_by_name (λ m. m.name) ls) (firsts_all P ls all.1))

taken_all : (P : LibraryView → Type 0) (n : ℕ) (ls : List LibraryView) → AllByRecursion P ls → AllByRecursion P (take n ls)
taken_all P zero ls all = tt
taken_all P (suc n) [] all = tt
taken_all P (suc n) (l ∷ ls) all = (all.0, taken_all P n ls all.1)

-- ---- no two have one name

abbrev AreOthers : List ℕ → List LibraryView → Type 0
AreOthers name ls = AllByRecursion (λ l. bytes_eq l.name name ≡ false) ls

abbrev AreDistinct : List LibraryView → Type 0
AreDistinct [] = ⊤
AreDistinct (l ∷ ls) = AreOthers l.name ls × AreDistinct ls

left_by : (v : Bool) (name : List ℕ) (l : LibraryView) (ls : List LibraryView) → bytes_eq l.name name ≡ v → AreOthers name ls → AreOthers name (cond (not v) (l ∷ ls) ls)
left_by true name l ls is rest = rest
left_by false name l ls is rest = (is, rest)

others_left : (name : List ℕ) (ls : List LibraryView) → AreOthers name (filter (λ l. not (bytes_eq l.name name)) ls)
others_left name [] = tt
others_left name (l ∷ ls) = left_by (bytes_eq l.name name) name l (filter (λ m. not (bytes_eq m.name name)) ls) refl (others_left name ls)

distinct_by : (v : Bool) (l : LibraryView) (ls : List LibraryView) → AreOthers l.name ls → AreDistinct ls → AreDistinct (cond v (l ∷ ls) ls)
distinct_by true l ls others rest = (others, rest)
distinct_by false l ls others rest = rest

distinct_filter : (q : LibraryView → Bool) (ls : List LibraryView) → AreDistinct ls → AreDistinct (filter q ls)
distinct_filter q [] are = tt
distinct_filter q (l ∷ ls) are = distinct_by (q l) l (filter q ls) (filtered (λ m. bytes_eq m.name l.name ≡ false) q ls are.0) (distinct_filter q ls are.1)

distinct_first : (ls : List LibraryView) → AreDistinct (first_by_name (λ l. l.name) ls)
distinct_first [] = tt
distinct_first (l ∷ ls) =
    let firsts = first_by_name (λ m. m.name) ls in
    (others_left l.name firsts, distinct_filter (λ m. not (bytes_eq m.name l.name)) firsts (distinct_first ls))

distinct_take : (n : ℕ) (ls : List LibraryView) → AreDistinct ls → AreDistinct (take n ls)
distinct_take zero ls are = tt
distinct_take (suc n) [] are = tt
distinct_take (suc n) (l ∷ ls) are = (taken_all (λ m. bytes_eq m.name l.name ≡ false) n ls are.0, distinct_take n ls are.1)

filter_none : (name : List ℕ) (ls : List LibraryView) → AreOthers name ls → filter (λ l. not (bytes_eq l.name name)) ls ≡ ls
filter_none name [] are = refl
filter_none name (l ∷ ls) are =
    let rest = filter (λ m. not (bytes_eq m.name name)) ls in
    ap (λ (v : Bool). cond (not v) (l ∷ rest) rest) are.0 ∙ ap (λ (ms : List LibraryView). l ∷ ms) (filter_none name ls are.1)

first_again : (ls : List LibraryView) → AreDistinct ls → first_by_name (λ l. l.name) ls ≡ ls
first_again [] are = refl
first_again (l ∷ ls) are =
    ap (λ (ms : List LibraryView). l ∷ filter (λ m. not (bytes_eq m.name l.name)) ms) (first_again ls are.1) ∙ ap (λ (ms : List LibraryView). l ∷ ms) (filter_none l.name ls are.0)

-- ---- the lines of a shelf

abbrev library_lines : Shelved → List (List ℕ)
library_lines kept = head_of kept.name ∷ library_cards kept.library

abbrev pub shelf_lines : List Shelved → List (List ℕ)
shelf_lines shelf = flat_map library_lines shelf

pub text_is : (shelf : List Shelved) → libraries_text shelf ≡ text_of_lines (shelf_lines shelf)
text_is [] = refl
text_is (kept ∷ shelf) = ap (λ (t : List ℕ). library_text kept ++ t) (text_is shelf) ∙ sym (flat_map-append row (library_lines kept) (shelf_lines shelf))

-- a library as its lines begin it
abbrev begun_again : Shelved → LibraryView
begun_again kept = record { name = kept.name; cards = library_cards kept.library }

-- ---- one library

no_head : (c : List ℕ) → is_control_card c ≡ false → is_head c ≡ false
no_head c h = (neither_of (is_head c) _ (neither_of (is_account c) _ h).1).0

none_head : (cs : List (List ℕ)) → list_any is_control_card cs ≡ false → list_any is_head cs ≡ false
none_head [] h = refl
none_head (c ∷ cs) h =
    let parts = neither_of (is_control_card c) (list_any is_control_card cs) h in
    ap (λ (v : Bool). v || list_any is_head cs) (no_head c parts.0) ∙ none_head cs parts.1

shown_by : (v : Bool) → not v ≡ false → v ≡ true
shown_by true h = refl
shown_by false h = cc

cards_stay : (cs : List (List ℕ)) → list_any is_foul cs ≡ false → AllByRecursion IsTrimmed cs → map cleaned cs ≡ cs
cards_stay [] h all = refl
cards_stay (c ∷ cs) h all =
    let parts = neither_of (is_foul c) (list_any is_foul cs) h in
    let first = card_stays c (shown_by (list_all is_allowed c) parts.0) all.0.stays in
    let rest = cards_stay cs parts.1 all.1 in
    λ i. first i ∷ rest i

cards_in_line : (cs : List (List ℕ)) → list_any is_foul cs ≡ false → AllByRecursion IsInLine cs
cards_in_line [] h = tt
cards_in_line (c ∷ cs) h =
    let parts = neither_of (is_foul c) (list_any is_foul cs) h in
    (one_line c (shown_by (list_all is_allowed c) parts.0), cards_in_line cs parts.1)

-- what is known of the cards that are written for a library
pub record AreWritten (l : LibraryView) (library : Option LibraryView) : Type 0 where
  pub clear : list_any is_control_card (library_cards library) ≡ false
  pub stay : map cleaned (library_cards library) ≡ library_cards library
  pub in_line : AllByRecursion IsInLine (library_cards library)
  pub again : shelved (record { name = l.name; cards = library_cards library }) ≡ record { name = l.name; library = library }

written_by : (v : Bool) (l : LibraryView) → is_ill l ≡ v → IsLibrary l → AreWritten l (cond v None (Some l))
written_by true l ill is = record { clear = refl; stay = refl; in_line = (refl, tt); again = refl }
written_by false l ill is =
    let fouls = (neither_of (list_any is_long l.cards) (list_any is_foul l.cards) (neither_of (nat_lt 500 (length l.cards)) _ ill).1).1 in
    record {
      clear = is.clear;
      stay = cards_stay l.cards fouls is.trimmed;
      in_line = cards_in_line l.cards fouls;
      again = ap (λ (v : Bool). record { name = l.name; library = cond v None (Some l) }) ill;
    }

are_written : (l : LibraryView) → IsLibrary l → AreWritten l (shelved l).library
are_written l is = written_by (is_ill l) l refl is

-- ---- all of them

lines_stay : (ls : List LibraryView) → AllByRecursion IsLibrary ls → map cleaned (shelf_lines (map shelved ls)) ≡ shelf_lines (map shelved ls)
lines_stay [] all = refl
lines_stay (l ∷ ls) all =
    let first = head_stays l.name all.0.name in
    let cards = (are_written l all.0).stay in
    let rest = lines_stay ls all.1 in
    map-append cleaned (library_lines (shelved l)) (shelf_lines (map shelved ls)) ∙ (λ i. (first i ∷ cards i) ++ rest i)

lines_in_line : (ls : List LibraryView) → AllByRecursion IsLibrary ls → AllByRecursion IsInLine (shelf_lines (map shelved ls))
lines_in_line [] all = tt
lines_in_line (l ∷ ls) all = (
  one_line (head_of l.name) (head_shown l.name all.0.name),
  all_append IsInLine (library_cards (shelved l).library) (shelf_lines (map shelved ls)) (are_written l all.0).in_line (lines_in_line ls all.1),
)

lines_no_job : (ls : List LibraryView) → AllByRecursion IsLibrary ls → list_any is_head (shelf_lines (map shelved ls)) ≡ false
lines_no_job [] all = refl
lines_no_job (l ∷ ls) all =
    list_any-append is_head (library_cards (shelved l).library) (shelf_lines (map shelved ls))
    ∙ ap (λ (v : Bool). v || list_any is_head (shelf_lines (map shelved ls))) (none_head (library_cards (shelved l).library) (are_written l all.0).clear)
    ∙ lines_no_job ls all.1

abbrev Any : List ℕ → Type 0
Any c = ⊤

any_all : (cs : List (List ℕ)) → AllByRecursion Any cs
any_all [] = tt
any_all (c ∷ cs) = (tt, any_all cs)

abbrev run_of : Shelved → Run
run_of kept = record { head = head_of kept.name; behind = library_cards kept.library }

are_runs : (ls : List LibraryView) → AllByRecursion IsLibrary ls → AreRunsOf is_control_card Any (map run_of (map shelved ls))
are_runs [] all = tt
are_runs (l ∷ ls) all =
    (record { passes = head_controls l.name; none = (are_written l all.0).clear; first = tt; others = any_all (library_cards (shelved l).library) }, are_runs ls all.1)

runs_flat : (shelf : List Shelved) → flat_map run_cards (map run_of shelf) ≡ shelf_lines shelf
runs_flat [] = refl
runs_flat (kept ∷ shelf) = ap (λ (cs : List (List ℕ)). library_lines kept ++ cs) (runs_flat shelf)

runs_are : (ls : List LibraryView) → AllByRecursion IsLibrary ls → runs_by is_control_card (shelf_lines (map shelved ls)) ≡ map run_of (map shelved ls)
runs_are ls all = ap (runs_by is_control_card) (sym (runs_flat (map shelved ls))) ∙ joined is_control_card Any (map run_of (map shelved ls)) (are_runs ls all)

libraries_begun : (ls : List LibraryView) → AllByRecursion IsLibrary ls → filter_map library_on (map run_of (map shelved ls)) ≡ map begun_again (map shelved ls)
libraries_begun [] all = refl
libraries_begun (l ∷ ls) all =
    let kept = shelved l in
    ap (λ (r : Option (List ℕ)). cons_option (option_map (λ name. record { name = name; cards = library_cards kept.library }) r) (filter_map library_on (map run_of (map shelved ls)))) (head_begins l.name all.0.name)
    ∙ ap (λ (ms : List LibraryView). begun_again kept ∷ ms) (libraries_begun ls all.1)

others_again : (name : List ℕ) (ls : List LibraryView) → AreOthers name ls → AreOthers name (map begun_again (map shelved ls))
others_again name [] are = tt
others_again name (l ∷ ls) are = (are.0, others_again name ls are.1)

distinct_again : (ls : List LibraryView) → AreDistinct ls → AreDistinct (map begun_again (map shelved ls))
distinct_again [] are = tt
distinct_again (l ∷ ls) are = (others_again l.name ls are.0, distinct_again ls are.1)

shelf_again : (ls : List LibraryView) → AllByRecursion IsLibrary ls → map shelved (map begun_again (map shelved ls)) ≡ map shelved ls
shelf_again [] all = refl
shelf_again (l ∷ ls) all = let first = (are_written l all.0).again in let rest = shelf_again ls all.1 in λ i. first i ∷ rest i

all_counted : (shelf : List Shelved) → written (shelf_lines shelf) ≡ shelf_cards (map begun_again shelf)
all_counted [] = refl
all_counted (kept ∷ shelf) =
    let rest = shelf_lines shelf in
    let some : nat_lt 0 (length (head_of kept.name)) ≡ true = grind (arith, nat_tests) in
    let head : one_if_written (head_of kept.name) ≡ 1 = ap (λ (v : Bool). cond v 1 0) some in
    omega (
      arith,
      sum_by-cons one_if_written (head_of kept.name) (library_cards kept.library ++ rest),
      head,
      sum_by-append one_if_written (library_cards kept.library) rest,
      sum_by-cons (λ (l : LibraryView). 1 + written l.cards) (begun_again kept) (map begun_again shelf),
      all_counted shelf,
    )

-- ---- of a night

trimmed_all : (lines : List (List ℕ)) → AllByRecursion IsTrimmed (map cleaned lines)
trimmed_all [] = tt
trimmed_all (line ∷ lines) = (trimmed_again line, trimmed_all lines)

module _ (lines : List (List ℕ)) where
  abbrev front : List (List ℕ)
  front = before_head (map cleaned lines)

  abbrev firsts : List LibraryView
  firsts = first_by_name (λ l. l.name) (filter_map library_on (runs_by is_control_card front))

  abbrev kept : List LibraryView
  kept = take 20 firsts

  abbrev pub shelf : List Shelved
  shelf = shelf_of (map cleaned lines)

  are : AllByRecursion IsLibrary kept
  are =
      let trimmed = all_take IsTrimmed (position_or_len is_head (map cleaned lines)) (map cleaned lines) (trimmed_all lines) in
      taken_all IsLibrary 20 firsts (firsts_all IsLibrary (filter_map library_on (runs_by is_control_card front)) (begun (runs_by is_control_card front) (runs_of is_control_card IsTrimmed front trimmed)))

  distinct : AreDistinct kept
  distinct = distinct_take 20 firsts (distinct_first (filter_map library_on (runs_by is_control_card front)))

  pub stays : map cleaned (shelf_lines shelf) ≡ shelf_lines shelf
  stays = lines_stay kept are

  pub in_lines : AllByRecursion IsInLine (shelf_lines shelf)
  in_lines = lines_in_line kept are

  pub no_jobs : list_any is_head (shelf_lines shelf) ≡ false
  no_jobs = lines_no_job kept are

  libraries_are : libraries_in (shelf_lines shelf) ≡ map begun_again shelf
  libraries_are =
      ap libraries_on (runs_are kept are)
      ∙ ap (λ (ls : List LibraryView). take 20 (first_by_name (λ l. l.name) ls)) (libraries_begun kept are)
      ∙ ap (take 20) (first_again (map begun_again shelf) (distinct_again kept distinct))
      ∙ take-map begun_again 20 shelf
      ∙ ap (map begun_again) (take-map shelved 20 kept ∙ ap (map shelved) (take-take 20 20 firsts (omega arith)))

  pub shelf_stays : map shelved (libraries_in (shelf_lines shelf)) ≡ shelf
  shelf_stays = ap (map shelved) libraries_are ∙ shelf_again kept are

  pub all_claimed : written (shelf_lines shelf) ≡ shelf_cards (libraries_in (shelf_lines shelf))
  all_claimed = all_counted shelf ∙ ap shelf_cards (sym libraries_are)
