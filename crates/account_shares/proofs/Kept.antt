-- The cards of the libraries that are kept are kept again: by themselves they begin the same libraries, and nothing else.
use Rattle.std.proofs.Common.{◌≡◌, ℕ, suc, zero, ◌+◌, ◌||◌, not, Bool, true, false, cond, nat_lt, List, [], ◌∷◌, ◌++◌, Option, Some, None, length, take, map, filter, flat_map, bytes_eq, refl, sym, ap, ◌∙◌, arith, append-nil}
use Rattle.std.specs.Prelude.{⊤}
use Rattle.std.specs.List.{AllByRecursion as AllOf, list_any, filter_map, before_first, position_or_len, cons_option}
use Rattle.std.specs.Option.{option_map}
use Rattle.std.proofs.lemmas.Bool.Decides.{nat_tests}
use Rattle.std.proofs.lemmas.List.{take-map, take-take}
use Rattle.std.proofs.lemmas.List.Sums.{sum_by-append, sum_by-cons}
use Rattle.deck_reader.specs.declared.batch.Account.{Account}
use Rattle.deck_reader.specs.LibraryView.{LibraryView}
use Rattle.deck_reader.specs.Forms.{is_control_card, is_head, library_card}
use Rattle.deck_reader.specs.Named.{first_by_name}
use Rattle.deck_reader.specs.Batch.{Run, account_on, before_head, libraries_on, library_on, runs_by, shelf_cards, written}
use Rattle.deck_reader.proofs.Shelving.{library_no_account, library_written, no_account}
use Rattle.account_shares.specs.Own.{kept_runs, kept_library_cards, named_run, run_cards}
use Rattle.account_shares.proofs.Firsts.{all_append, all_take, before-at_once, before-clear, before-past_all, neither_of}

-- ---- runs of any test

module _ (p : List ℕ → Bool) where
  -- a card that passes, and behind it none that does; and all of these cards are so
  pub record IsRunOf (P : List ℕ → Type 0) (run : Run) : Type 0 where
    pub passes : p run.head ≡ true
    pub none : list_any p run.behind ≡ false
    pub first : P run.head
    pub others : AllOf P run.behind

  abbrev pub AreRunsOf : (List ℕ → Type 0) → List Run → Type 0
  AreRunsOf P [] = ⊤
  AreRunsOf P (run ∷ rest) = IsRunOf P run × AreRunsOf P rest

  of_by : (P : List ℕ → Type 0) (b : Bool) (card : List ℕ) (cards : List (List ℕ)) → p card ≡ b → P card → AllOf P cards → AreRunsOf P (runs_by p cards) → AreRunsOf P (cond b (record { head = card; behind = before_first p cards } ∷ runs_by p cards) (runs_by p cards))
  of_by P true card cards is this all rest = (record { passes = is; none = before-clear p cards; first = this; others = all_take P (position_or_len p cards) cards all }, rest)
  of_by P false card cards is this all rest = rest

  pub runs_of : (P : List ℕ → Type 0) (cards : List (List ℕ)) → AllOf P cards → AreRunsOf P (runs_by p cards)
  runs_of P [] all = tt
  runs_of P (card ∷ cards) all = of_by P (p card) card cards refl all.0 all.1 (runs_of P cards all.1)

  pub past_none : (xs ys : List (List ℕ)) → list_any p xs ≡ false → runs_by p (xs ++ ys) ≡ runs_by p ys
  past_none [] ys h = refl
  past_none (x ∷ xs) ys h =
      let parts = neither_of (p x) (list_any p xs) h in
      ap (λ (b : Bool). cond b (record { head = x; behind = before_first p (xs ++ ys) } ∷ runs_by p (xs ++ ys)) (runs_by p (xs ++ ys))) parts.0 ∙ past_none xs ys parts.1

  first_passes : (P : List ℕ → Type 0) (rs : List Run) → AreRunsOf P rs → before_first p (flat_map run_cards rs) ≡ []
  first_passes P [] are = refl
  first_passes P (run ∷ rs) are = before-at_once p run.head (run.behind ++ flat_map run_cards rs) are.0.passes

  -- joined, they are the same runs again
  pub joined : (P : List ℕ → Type 0) (rs : List Run) → AreRunsOf P rs → runs_by p (flat_map run_cards rs) ≡ rs
  joined P [] are = refl
  joined P (run ∷ rs) are =
      let rest = flat_map run_cards rs in
      ap (λ (b : Bool). cond b (record { head = run.head; behind = before_first p (run.behind ++ rest) } ∷ runs_by p (run.behind ++ rest)) (runs_by p (run.behind ++ rest))) are.0.passes
      ∙ ap (λ (cards : List (List ℕ)). record { head = run.head; behind = cards } ∷ runs_by p (run.behind ++ rest))
      (before-past_all p run.behind rest are.0.none ∙ ap (λ (cards : List (List ℕ)). run.behind ++ cards) (first_passes P rs are.1) ∙ append-nil run.behind)
      ∙ ap (λ (rs' : List Run). run ∷ rs') (past_none run.behind rest are.0.none ∙ joined P rs are.1)

-- ---- the runs that begin libraries

abbrev Named : Type 0
Named = List ℕ × Run

-- a control card that begins the library of this name, with its run
record IsNamed (P : List ℕ → Type 0) (n : Named) : Type 0 where
  pub begins : library_card n.1.head ≡ Some n.0
  pub named : named_run n.1 ≡ Some n
  pub run : IsRunOf is_control_card P n.1

abbrev AreNamed : (List ℕ → Type 0) → List Named → Type 0
AreNamed P [] = ⊤
AreNamed P (n ∷ ns) = IsNamed P n × AreNamed P ns

named_by : (P : List ℕ → Type 0) (r : Option (List ℕ)) (run : Run) (ns : List Named) → library_card run.head ≡ r → IsRunOf is_control_card P run → AreNamed P ns → AreNamed P (cons_option (option_map (λ name. (name, run)) r) ns)
named_by P None run ns e is rest = rest
named_by P (Some name) run ns e is rest = (record { begins = e; named = ap (option_map (λ name. (name, run))) e; run = is }, rest)

named_all : (P : List ℕ → Type 0) (rs : List Run) → AreRunsOf is_control_card P rs → AreNamed P (filter_map named_run rs)
named_all P [] are = tt
named_all P (run ∷ rs) are = named_by P (library_card run.head) run (filter_map named_run rs) refl are.0 (named_all P rs are.1)

filter_by : (P : List ℕ → Type 0) (b : Bool) (n : Named) (ns : List Named) → IsNamed P n → AreNamed P ns → AreNamed P (cond b (n ∷ ns) ns)
filter_by P true n ns is rest = (is, rest)
filter_by P false n ns is rest = rest

named_filter : (P : List ℕ → Type 0) (q : Named → Bool) (ns : List Named) → AreNamed P ns → AreNamed P (filter q ns)
named_filter P q [] are = tt
named_filter P q (n ∷ ns) are = filter_by P (q n) n (filter q ns) are.0 (named_filter P q ns are.1)

named_first : (P : List ℕ → Type 0) (ns : List Named) → AreNamed P ns → AreNamed P (first_by_name (λ n. n.0) ns)
named_first P [] are = tt
named_first P (n ∷ ns) are = (are.0, named_filter P (λ m. not (bytes_eq m.0 n.0)) (first_by_name (λ n. n.0) ns) (named_first P ns are.1))

named_take : (P : List ℕ → Type 0) (k : ℕ) (ns : List Named) → AreNamed P ns → AreNamed P (take k ns)
named_take P zero ns are = tt
named_take P (suc k) [] are = tt
named_take P (suc k) (n ∷ ns) are = (are.0, named_take P k ns are.1)

kept_named : (P : List ℕ → Type 0) (rs : List Run) → AreRunsOf is_control_card P rs → AreNamed P (kept_runs rs)
kept_named P rs are = named_take P 20 (first_by_name (λ n. n.0) (filter_map named_run rs)) (named_first P (filter_map named_run rs) (named_all P rs are))

-- each names itself again
again : (P : List ℕ → Type 0) (ns : List Named) → AreNamed P ns → filter_map named_run (map (λ n. n.1) ns) ≡ ns
again P [] are = refl
again P (n ∷ ns) are = ap (λ (o : Option Named). cons_option o (filter_map named_run (map (λ n. n.1) ns))) are.0.named ∙ ap (λ (ms : List Named). n ∷ ms) (again P ns are.1)

-- ---- no two have one name

abbrev AreOthers : Named → List Named → Type 0
AreOthers n [] = ⊤
AreOthers n (m ∷ ms) = (bytes_eq m.0 n.0 ≡ false) × AreOthers n ms

abbrev AreDistinct : List Named → Type 0
AreDistinct [] = ⊤
AreDistinct (n ∷ ns) = AreOthers n ns × AreDistinct ns

others_by : (b : Bool) (n m : Named) (ms : List Named) → bytes_eq m.0 n.0 ≡ false → AreOthers n ms → AreOthers n (cond b (m ∷ ms) ms)
others_by true n m ms is rest = (is, rest)
others_by false n m ms is rest = rest

others_filter : (n : Named) (q : Named → Bool) (ms : List Named) → AreOthers n ms → AreOthers n (filter q ms)
others_filter n q [] are = tt
others_filter n q (m ∷ ms) are = others_by (q m) n m (filter q ms) are.0 (others_filter n q ms are.1)

left_by : (b : Bool) (n m : Named) (ms : List Named) → bytes_eq m.0 n.0 ≡ b → AreOthers n ms → AreOthers n (cond (not b) (m ∷ ms) ms)
left_by true n m ms is rest = rest
left_by false n m ms is rest = (is, rest)

others_left : (n : Named) (ms : List Named) → AreOthers n (filter (λ m. not (bytes_eq m.0 n.0)) ms)
others_left n [] = tt
others_left n (m ∷ ms) = left_by (bytes_eq m.0 n.0) n m (filter (λ m. not (bytes_eq m.0 n.0)) ms) refl (others_left n ms)

distinct_by : (b : Bool) (n : Named) (ns : List Named) → AreOthers n ns → AreDistinct ns → AreDistinct (cond b (n ∷ ns) ns)
distinct_by true n ns others rest = (others, rest)
distinct_by false n ns others rest = rest

distinct_filter : (q : Named → Bool) (ns : List Named) → AreDistinct ns → AreDistinct (filter q ns)
distinct_filter q [] are = tt
distinct_filter q (n ∷ ns) are = distinct_by (q n) n (filter q ns) (others_filter n q ns are.0) (distinct_filter q ns are.1)

distinct_first : (ns : List Named) → AreDistinct (first_by_name (λ n. n.0) ns)
distinct_first [] = tt
distinct_first (n ∷ ns) =
    let firsts = first_by_name (λ n. n.0) ns in
    (others_left n firsts, distinct_filter (λ m. not (bytes_eq m.0 n.0)) firsts (distinct_first ns))

others_take : (n : Named) (k : ℕ) (ms : List Named) → AreOthers n ms → AreOthers n (take k ms)
others_take n zero ms are = tt
others_take n (suc k) [] are = tt
others_take n (suc k) (m ∷ ms) are = (are.0, others_take n k ms are.1)

distinct_take : (k : ℕ) (ns : List Named) → AreDistinct ns → AreDistinct (take k ns)
distinct_take zero ns are = tt
distinct_take (suc k) [] are = tt
distinct_take (suc k) (n ∷ ns) are = (others_take n k ns are.0, distinct_take k ns are.1)

filter_none : (n : Named) (ms : List Named) → AreOthers n ms → filter (λ m. not (bytes_eq m.0 n.0)) ms ≡ ms
filter_none n [] are = refl
filter_none n (m ∷ ms) are =
    let rest = filter (λ m. not (bytes_eq m.0 n.0)) ms in
    ap (λ (b : Bool). cond (not b) (m ∷ rest) rest) are.0 ∙ ap (λ (ks : List Named). m ∷ ks) (filter_none n ms are.1)

first_again : (ns : List Named) → AreDistinct ns → first_by_name (λ n. n.0) ns ≡ ns
first_again [] are = refl
first_again (n ∷ ns) are =
    ap (λ (ms : List Named). n ∷ filter (λ m. not (bytes_eq m.0 n.0)) ms) (first_again ns are.1) ∙ ap (λ (ms : List Named). n ∷ ms) (filter_none n ns are.0)

kept_again : (P : List ℕ → Type 0) (rs : List Run) → AreRunsOf is_control_card P rs → kept_runs (map (λ n. n.1) (kept_runs rs)) ≡ kept_runs rs
kept_again P rs are =
    let firsts = first_by_name (λ n. n.0) (filter_map named_run rs) in
    let kept = take 20 firsts in
    ap (λ (ns : List Named). take 20 (first_by_name (λ n. n.0) ns)) (again P kept (kept_named P rs are))
    ∙ ap (take 20) (first_again kept (distinct_take 20 firsts (distinct_first (filter_map named_run rs))))
    ∙ take-take 20 20 firsts (omega arith)

-- ---- the libraries that they are

abbrev library_at : Named → LibraryView
library_at n = record { name = n.0; cards = n.1.behind }

library_by : (r : Option (List ℕ)) (run : Run) (ls : List LibraryView) (ns : List Named) → ls ≡ map library_at ns
    → cons_option (option_map (λ name. record { name = name; cards = run.behind }) r) ls ≡ map library_at (cons_option (option_map (λ name. (name, run)) r) ns)
library_by None run ls ns e = e
library_by (Some name) run ls ns e = ap (λ (xs : List LibraryView). record { name = name; cards = run.behind } ∷ xs) e

libraries_named : (rs : List Run) → filter_map library_on rs ≡ map library_at (filter_map named_run rs)
libraries_named [] = refl
libraries_named (run ∷ rs) = library_by (library_card run.head) run (filter_map library_on rs) (filter_map named_run rs) (libraries_named rs)

filtered_by : (b : Bool) (n : Named) (ls : List LibraryView) (ns : List Named) → ls ≡ map library_at ns → cond b (library_at n ∷ ls) ls ≡ map library_at (cond b (n ∷ ns) ns)
filtered_by true n ls ns e = ap (λ (xs : List LibraryView). library_at n ∷ xs) e
filtered_by false n ls ns e = e

filter_mapped : (q : LibraryView → Bool) (ns : List Named) → filter q (map library_at ns) ≡ map library_at (filter (λ n. q (library_at n)) ns)
filter_mapped q [] = refl
filter_mapped q (n ∷ ns) = filtered_by (q (library_at n)) n (filter q (map library_at ns)) (filter (λ n. q (library_at n)) ns) (filter_mapped q ns)

first_mapped : (ns : List Named) → first_by_name (λ l. l.name) (map library_at ns) ≡ map library_at (first_by_name (λ n. n.0) ns)
first_mapped [] = refl
first_mapped (n ∷ ns) =
    ap (λ (ls : List LibraryView). library_at n ∷ filter (λ l. not (bytes_eq l.name n.0)) ls) (first_mapped ns)
    ∙ ap (λ (ls : List LibraryView). library_at n ∷ ls) (filter_mapped (λ l. not (bytes_eq l.name n.0)) (first_by_name (λ n. n.0) ns))

libraries_are : (rs : List Run) → libraries_on rs ≡ map library_at (kept_runs rs)
libraries_are rs =
    ap (λ (ls : List LibraryView). take 20 (first_by_name (λ l. l.name) ls)) (libraries_named rs)
    ∙ ap (take 20) (first_mapped (filter_map named_run rs))
    ∙ take-map library_at 20 (first_by_name (λ n. n.0) (filter_map named_run rs))

-- ---- their cards

flat_named : (ns : List Named) → flat_map (λ n. run_cards n.1) ns ≡ flat_map run_cards (map (λ n. n.1) ns)
flat_named [] = refl
flat_named (n ∷ ns) = ap (λ (cards : List (List ℕ)). run_cards n.1 ++ cards) (flat_named ns)

named_runs : (P : List ℕ → Type 0) (ns : List Named) → AreNamed P ns → AreRunsOf is_control_card P (map (λ n. n.1) ns)
named_runs P [] are = tt
named_runs P (n ∷ ns) are = (are.0.run, named_runs P ns are.1)

all_cards : (P : List ℕ → Type 0) (ns : List Named) → AreNamed P ns → AllOf P (flat_map (λ n. run_cards n.1) ns)
all_cards P [] are = tt
all_cards P (n ∷ ns) are = (are.0.run.first, all_append P n.1.behind (flat_map (λ n. run_cards n.1) ns) are.0.run.others (all_cards P ns are.1))

none_of : (p : List ℕ → Bool) (cards : List (List ℕ)) → AllOf (λ c. p c ≡ false) cards → list_any p cards ≡ false
none_of p [] all = refl
none_of p (c ∷ cards) all = ap (λ (b : Bool). b || list_any p cards) all.0 ∙ none_of p cards all.1

all_not : (p : List ℕ → Bool) (cards : List (List ℕ)) → list_any p cards ≡ false → AllOf (λ c. p c ≡ false) cards
all_not p [] h = tt
all_not p (c ∷ cards) h = let parts = neither_of (p c) (list_any p cards) h in (parts.0, all_not p cards parts.1)

no_accounts : (cards : List (List ℕ)) → list_any is_control_card cards ≡ false → AllOf (λ c. account_on c ≡ None) cards
no_accounts [] h = tt
no_accounts (c ∷ cards) h = let parts = neither_of (is_control_card c) (list_any is_control_card cards) h in (no_account c parts.0, no_accounts cards parts.1)

open_none : (P : List ℕ → Type 0) (ns : List Named) → AreNamed P ns → AllOf (λ c. account_on c ≡ None) (flat_map (λ n. run_cards n.1) ns)
open_none P [] are = tt
open_none P (n ∷ ns) are =
    let Opens : List ℕ → Type 0 = λ c. account_on c ≡ None in
    (library_no_account n.1.head n.0 are.0.begins, all_append Opens n.1.behind (flat_map (λ n. run_cards n.1) ns) (no_accounts n.1.behind are.0.run.none) (open_none P ns are.1))

nothing_opened : (cards : List (List ℕ)) → AllOf (λ c. account_on c ≡ None) cards → filter_map account_on cards ≡ []
nothing_opened [] all = refl
nothing_opened (c ∷ cards) all = ap (λ (o : Option Account). cons_option o (filter_map account_on cards)) all.0 ∙ nothing_opened cards all.1

-- one for a card that isn't blank
abbrev pub one_if_written : List ℕ → ℕ
one_if_written c = cond (nat_lt 0 (length c)) 1 0

written_one : (c name : List ℕ) → library_card c ≡ Some name → one_if_written c ≡ 1
written_one c name begins =
    let some = library_written c name begins in
    let test : nat_lt 0 (length c) ≡ true = grind (arith, nat_tests) in
    ap (λ (b : Bool). cond b 1 0) test

counted : (P : List ℕ → Type 0) (ns : List Named) → AreNamed P ns → written (flat_map (λ n. run_cards n.1) ns) ≡ shelf_cards (map library_at ns)
counted P [] are = refl
counted P (n ∷ ns) are =
    let rest = flat_map (λ n. run_cards n.1) ns in
    omega (
      arith,
      sum_by-cons one_if_written n.1.head (n.1.behind ++ rest),
      written_one n.1.head n.0 are.0.begins,
      sum_by-append one_if_written n.1.behind rest,
      sum_by-cons (λ (l : LibraryView). 1 + written l.cards) (library_at n) (map library_at ns),
      counted P ns are.1,
    )

-- ---- of a batch

-- what holds of all cards holds of those of the libraries
pub all_kept : (P : List ℕ → Type 0) (cards : List (List ℕ)) → AllOf P cards → AllOf P (kept_library_cards cards)
all_kept P cards all =
    let front = before_head cards in
    let those = runs_of is_control_card P front (all_take P (position_or_len is_head cards) cards all) in
    all_cards P (kept_runs (runs_by is_control_card front)) (kept_named P (runs_by is_control_card front) those)

module _ (cards : List (List ℕ)) where
  abbrev controls : List Run
  controls = runs_by is_control_card (before_head cards)

  abbrev NoHead : List ℕ → Type 0
  NoHead c = is_head c ≡ false

  control_runs : AreRunsOf is_control_card NoHead controls
  control_runs = runs_of is_control_card NoHead (before_head cards) (all_not is_head (before_head cards) (before-clear is_head cards))

  kept : AreNamed NoHead (kept_runs controls)
  kept = kept_named NoHead controls control_runs

  pub no_heads : list_any is_head (kept_library_cards cards) ≡ false
  no_heads = none_of is_head (kept_library_cards cards) (all_cards NoHead (kept_runs controls) kept)

  pub no_openings : filter_map account_on (kept_library_cards cards) ≡ []
  no_openings = nothing_opened (kept_library_cards cards) (open_none NoHead (kept_runs controls) kept)

  same_runs : runs_by is_control_card (kept_library_cards cards) ≡ map (λ n. n.1) (kept_runs controls)
  same_runs = ap (runs_by is_control_card) (flat_named (kept_runs controls)) ∙ joined is_control_card NoHead (map (λ n. n.1) (kept_runs controls)) (named_runs NoHead (kept_runs controls) kept)

  -- they begin the same libraries
  pub libraries_alone : libraries_on (runs_by is_control_card (kept_library_cards cards)) ≡ libraries_on controls
  libraries_alone =
      ap libraries_on same_runs ∙ libraries_are (map (λ n. n.1) (kept_runs controls))
      ∙ ap (map library_at) (kept_again NoHead controls control_runs) ∙ sym (libraries_are controls)

  -- also behind a control card that begins none
  pub libraries_behind : (card : List ℕ) → is_control_card card ≡ true → library_card card ≡ None → libraries_on (runs_by is_control_card (card ∷ kept_library_cards cards)) ≡ libraries_on controls
  libraries_behind card is none =
      let libs = kept_library_cards cards in
      let behind = before_first is_control_card libs in
      let rest = runs_by is_control_card libs in
      ap (λ (b : Bool). libraries_on (cond b (record { head = card; behind = behind } ∷ rest) rest)) is
      ∙ ap (λ (r : Option (List ℕ)). take 20 (first_by_name (λ l. l.name) (cons_option (option_map (λ name. record { name = name; cards = behind }) r) (filter_map library_on rest)))) none
      ∙ libraries_alone

  -- and all of them are the libraries'
  pub all_counted : written (kept_library_cards cards) ≡ shelf_cards (libraries_on controls)
  all_counted = counted NoHead (kept_runs controls) kept ∙ ap shelf_cards (sym (libraries_are controls))

-- a card that opens an account begins no library
no_library_by : (r : Option (List ℕ)) (card : List ℕ) (a : Account) → library_card card ≡ r → account_on card ≡ Some a → library_card card ≡ None
no_library_by None card a e opens = e
no_library_by (Some name) card a e opens = let none = library_no_account card name e in absurd (cc (none, opens))

pub account_no_library : (card : List ℕ) (a : Account) → account_on card ≡ Some a → library_card card ≡ None
account_no_library card a opens = no_library_by (library_card card) card a refl opens
