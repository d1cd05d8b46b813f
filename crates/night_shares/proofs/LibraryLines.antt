-- The lines of libraries that are kept: none of them begins a job.
use Rattle.std.proofs.Common.{◌≡◌, ℕ, suc, zero, ◌-◌, ◌<◌, ◌≤◌, ◌==◌, ◌&&◌, ◌||◌, not, nat_le, Bool, true, false, cond, List, [], ◌∷◌, ◌++◌, length, take, drop, map, filter, codes, bytes_eq, Option, Some, None, refl, sym, ap, ◌∙◌, arith}
use Rattle.std.specs.Prelude.{⊤}
use Rattle.std.specs.List.{AllByRecursion as AllOf, cons_option, filter_map, flat_map, list_all, list_any, position_or_len}
use Rattle.std.specs.Option.{option_map}
use Rattle.std.proofs.lemmas.Bool.{leb-true}
use Rattle.std.proofs.lemmas.Bool.Decides.{nat_tests}
use Rattle.std.proofs.lemmas.Grind.{flat_map-append}
use Rattle.deck_reader.specs.Batch.{Run, is_ill, libraries_in, library_on, runs_by, shelved}
use Rattle.deck_reader.specs.CardFlaws.{is_foul, is_long}
use Rattle.deck_reader.specs.Forms.{behind_blanks, ends_a_word, folded, is_allowed, is_control_card, is_digit, is_head, is_letter, is_library, is_name, is_small, library_card, name_of}
use Rattle.deck_reader.specs.LibraryView.{LibraryView, Shelved}
use Rattle.deck_reader.specs.Named.{first_by_name}
use Rattle.deck_reader.proofs.Settings.{from_is_name}
use Rattle.night_shares.specs.Jobs.{libraries_text, library_cards, library_text, long_card}
use Rattle.night_shares.specs.Lines.{begins_job, text_of_lines}
use Rattle.night_shares.specs.Plan.{row}
use Rattle.night_shares.specs.Reading.{IsInLine}
use Rattle.night_shares.specs.WordEnds.{ArePlain, ends_word}
use Rattle.night_shares.proofs.ControlWords.{on_line}
use Rattle.night_shares.proofs.LineRuns.{none_before}
use Rattle.night_shares.proofs.Pieces.{all_append}

-- a line that begins no job
pub record IsQuiet (line : List ℕ) : Type 0 where
  pub in_line : IsInLine line
  pub no_job : begins_job line ≡ false

neither_of : (a b : Bool) → (a || b) ≡ false → (a ≡ false) × (b ≡ false)
neither_of true b h = cc
neither_of false b h = (refl, h)

both_of : (a b : Bool) → (a && b) ≡ true → (a ≡ true) × (b ≡ true)
both_of true true h = (refl, refl)
both_of true false h = cc
both_of false b h = cc

-- ---- what holds of all

pub all_take : {X : Type 0} (P : X → Type 0) (n : ℕ) (xs : List X) → AllOf P xs → AllOf P (take n xs)
all_take P zero xs h = tt
all_take P (suc n) [] h = tt
all_take P (suc n) (x ∷ xs) h = (h.0, all_take P n xs h.1)

filter_by : {X : Type 0} (P : X → Type 0) (v : Bool) (x : X) (xs : List X) → P x → AllOf P xs → AllOf P (cond v (x ∷ xs) xs)
filter_by P true x xs this rest = (this, rest)
filter_by P false x xs this rest = rest

pub all_filter : {X : Type 0} (P : X → Type 0) (p : X → Bool) (xs : List X) → AllOf P xs → AllOf P (filter p xs)
all_filter P p [] h = tt
all_filter P p (x ∷ xs) h = filter_by P (p x) x (filter p xs) h.0 (all_filter P p xs h.1)

-- ---- a card of a library

plain : ArePlain (codes "%JOB")
plain = (record { blank = refl; tab = refl; end = refl; tilde = refl; sign = refl }, (record { blank = refl; tab = refl; end = refl; tilde = refl; sign = refl }, (record { blank = refl; tab = refl; end = refl; tilde = refl; sign = refl }, (record { blank = refl; tab = refl; end = refl; tilde = refl; sign = refl }, tt))))

other : (least b : ℕ) → least < b → (b == least) ≡ false
other least b h = grind (arith, nat_tests)

allowed_from : (b : ℕ) → is_allowed b ≡ true → 32 ≤ b
allowed_from b h = leb-true 32 b (both_of (nat_le 32 b) (nat_le b 126) h).0

not_feed : (b : ℕ) → is_allowed b ≡ true → (b == 10) ≡ false
not_feed b h = other 10 b (omega (arith, allowed_from b h))

allowed_in_line : (card : List ℕ) → list_all is_allowed card ≡ true → IsInLine card
allowed_in_line [] h = refl
allowed_in_line (b ∷ card) h =
    let both = both_of (is_allowed b) (list_all is_allowed card) h in
    ap (λ (v : Bool). v || list_any (λ c. c == 10) card) (not_feed b both.0) ∙ allowed_in_line card both.1

allowed_behind : (n : ℕ) (card : List ℕ) → list_all is_allowed card ≡ true → list_all is_allowed (drop n card) ≡ true
allowed_behind zero card h = h
allowed_behind (suc n) [] h = refl
allowed_behind (suc n) (b ∷ card) h = allowed_behind n card (both_of (is_allowed b) (list_all is_allowed card) h).1

not_that : (b : ℕ) → is_allowed b ≡ true → ((b == 9) ≡ false) × ((b == 13) ≡ false)
not_that b h = (other 9 b (omega (arith, allowed_from b h)), other 13 b (omega (arith, allowed_from b h)))

or_none : (a : Bool) → (a || false) ≡ a
or_none true = refl
or_none false = refl

-- where each byte of a card is allowed, a word ends on its line where it ends on the card
ends_same : (rest : List ℕ) → list_all is_allowed rest ≡ true → ends_word rest ≡ ends_a_word rest
ends_same [] h = refl
ends_same (b ∷ []) h =
    let none = not_that b (both_of (is_allowed b) true h).0 in
    ap (λ (v : Bool). b == 32 || (v || (b == 13))) none.0 ∙ ap (λ (v : Bool). b == 32 || v) none.1 ∙ or_none (b == 32)
ends_same (b ∷ c ∷ rest) h =
    let none = not_that b (both_of (is_allowed b) (list_all is_allowed (c ∷ rest)) h).0 in
    ap (λ (v : Bool). b == 32 || v) none.0 ∙ or_none (b == 32)

not_foul : (v : Bool) → not v ≡ false → v ≡ true
not_foul true h = refl
not_foul false h = cc

card_quiet : (card : List ℕ) → is_foul card ≡ false → is_control_card card ≡ false → IsQuiet card
card_quiet card clean none =
    let allowed = not_foul (list_all is_allowed card) clean in
    let others = neither_of _ _ none in
    let head : is_head card ≡ false = (neither_of (is_head card) _ others.1).0 in
    record {
      in_line = allowed_in_line card allowed;
      no_job = on_line (codes "%JOB") card plain
          ∙ ap (λ (v : Bool). bytes_eq (folded (take (length (codes "%JOB")) card)) (codes "%JOB") && v) (ends_same (drop (length (codes "%JOB")) card) (allowed_behind (length (codes "%JOB")) card allowed))
          ∙ head;
    }

cards_quiet : (cards : List (List ℕ)) → list_any is_foul cards ≡ false → list_any is_control_card cards ≡ false → AllOf IsQuiet cards
cards_quiet [] clean none = tt
cards_quiet (card ∷ cards) clean none =
    let first = neither_of (is_foul card) (list_any is_foul cards) clean in
    let second = neither_of (is_control_card card) (list_any is_control_card cards) none in
    (card_quiet card first.0 second.0, cards_quiet cards first.1 second.1)

-- ---- a library's name

either : {N : Type 0} (a b : Bool) → a || b ≡ true → (a ≡ true → N) → (b ≡ true → N) → N
either true b h f g = f refl
either false b h f g = g h

between : (low high c : ℕ) → nat_le low c && nat_le c high ≡ true → low ≤ c
between low high c h = leb-true low c (both_of (nat_le low c) (nat_le c high) h).0

at_least : (c : ℕ) → is_letter c || is_digit c ≡ true → 48 ≤ c
at_least c h =
    either (is_letter c) (is_digit c) h
    (λ k. either (nat_le 65 c && nat_le c 90) (is_small c) k (λ e. (let l = between 65 90 c e in omega (arith, l))) (λ e. (let l = between 97 122 c e in omega (arith, l))))
    (between 48 57 c)

capital_by : (v : Bool) (c : ℕ) → is_small c ≡ v → 48 ≤ c → (cond v (c - 32) c == 10) ≡ false
capital_by true c is least = other 10 (c - 32) (omega (arith, between 97 122 c is))
capital_by false c is least = other 10 c (omega (arith, least))

folded_in_line : (bytes : List ℕ) → list_all (λ d. is_letter d || is_digit d) bytes ≡ true → IsInLine (folded bytes)
folded_in_line [] h = refl
folded_in_line (c ∷ bytes) h =
    let both = both_of (is_letter c || is_digit c) (list_all (λ d. is_letter d || is_digit d) bytes) h in
    ap (λ (v : Bool). v || list_any (λ b. b == 10) (folded bytes)) (capital_by (is_small c) c refl (at_least c both.0)) ∙ folded_in_line bytes both.1

abbrev NameInLine : Option (List ℕ) → Type 0
NameInLine None = ⊤
NameInLine (Some name) = IsInLine name

name_in_line : (bytes : List ℕ) → NameInLine (name_of bytes)
name_in_line bytes = by (is_name bytes) refl
  where
    by : (v : Bool) → is_name bytes ≡ v → NameInLine (cond v (Some (folded bytes)) None)
    by true is = folded_in_line bytes (from_is_name bytes is).0
    by false is = tt

library_name : (card : List ℕ) → NameInLine (library_card card)
library_name card = by (is_library card)
  where
    by : (v : Bool) → NameInLine (cond v (name_of (behind_blanks (drop 8 card))) None)
    by true = name_in_line (behind_blanks (drop 8 card))
    by false = tt

-- ---- a library

-- a library with a name and cards that begin nothing
record IsTame (library : LibraryView) : Type 0 where
  name : IsInLine library.name
  cards : list_any is_control_card library.cards ≡ false

-- the lines that stand for a library that is kept
abbrev pub kept_lines : Shelved → List (List ℕ)
kept_lines kept = (codes "%LIBRARY " ++ kept.name) ∷ library_cards kept.library

first_quiet : (name : List ℕ) → IsInLine name → IsQuiet (codes "%LIBRARY " ++ name)
first_quiet name h = record { in_line = h; no_job = on_line (codes "%JOB") (codes "%LIBRARY " ++ name) plain }

kept_by : (v : Bool) (library : LibraryView) → is_ill library ≡ v → IsTame library → AllOf IsQuiet (library_cards (cond v None (Some library)))
kept_by true library is tame = (record { in_line = refl; no_job = on_line (codes "%JOB") long_card plain }, tt)
kept_by false library is tame =
    let first = neither_of _ _ is in
    let second = neither_of (list_any is_long library.cards) (list_any is_foul library.cards) first.1 in
    cards_quiet library.cards second.1 tame.cards

kept_quiet : (library : LibraryView) → IsTame library → AllOf IsQuiet (kept_lines (shelved library))
kept_quiet library tame = (first_quiet library.name tame.name, kept_by (is_ill library) library refl tame)

-- the lines that stand for libraries
abbrev pub shelf_lines : List Shelved → List (List ℕ)
shelf_lines shelf = flat_map kept_lines shelf

pub shelf_text : (shelf : List Shelved) → libraries_text shelf ≡ text_of_lines (shelf_lines shelf)
shelf_text [] = refl
shelf_text (kept ∷ shelf) = ap (λ (t : List ℕ). library_text kept ++ t) (shelf_text shelf) ∙ sym (flat_map-append row (kept_lines kept) (shelf_lines shelf))

lines_quiet : (libraries : List LibraryView) → AllOf IsTame libraries → AllOf IsQuiet (shelf_lines (map shelved libraries))
lines_quiet [] all = tt
lines_quiet (library ∷ libraries) all = all_append IsQuiet (kept_lines (shelved library)) (shelf_lines (map shelved libraries)) (kept_quiet library all.0) (lines_quiet libraries all.1)

-- ---- those that control cards begin

abbrev BeginsNoneBehind : Run → Type 0
BeginsNoneBehind run = list_any is_control_card run.behind ≡ false

controls_by : (v : Bool) (card : List ℕ) (cards : List (List ℕ)) → AllOf BeginsNoneBehind (runs_by is_control_card cards)
    → AllOf BeginsNoneBehind (cond v (record { head = card; behind = take (position_or_len is_control_card cards) cards } ∷ runs_by is_control_card cards) (runs_by is_control_card cards))
controls_by true card cards rest = (none_before is_control_card cards, rest)
controls_by false card cards rest = rest

controls_of : (cards : List (List ℕ)) → AllOf BeginsNoneBehind (runs_by is_control_card cards)
controls_of [] = tt
controls_of (card ∷ cards) = controls_by (is_control_card card) card cards (controls_of cards)

tame_of : (runs : List Run) → AllOf BeginsNoneBehind runs → AllOf IsTame (filter_map library_on runs)
tame_of [] all = tt
tame_of (run ∷ runs) all = by (library_card run.head) (library_name run.head) (tame_of runs all.1)
  where
    by : (name : Option (List ℕ)) → NameInLine name → AllOf IsTame (filter_map library_on runs)
        → AllOf IsTame (cons_option (option_map (λ n. record { name = n; cards = run.behind }) name) (filter_map library_on runs))
    by None named rest = rest
    by (Some name) named rest = (record { name = named; cards = all.0 }, rest)

firsts_of : (libraries : List LibraryView) → AllOf IsTame libraries → AllOf IsTame (first_by_name (λ l. l.name) libraries)
firsts_of [] all = tt
firsts_of (library ∷ libraries) all =
    (all.0, all_filter IsTame (λ l. not (bytes_eq l.name library.name)) (first_by_name (λ l. l.name) libraries) (firsts_of libraries all.1))

-- the lines that stand for the libraries of these cards begin no job
pub shelf_quiet : (front : List (List ℕ)) → AllOf IsQuiet (shelf_lines (map shelved (libraries_in front)))
shelf_quiet front =
    let controls = runs_by is_control_card front in
    lines_quiet (libraries_in front) (all_take IsTame 20 (first_by_name (λ l. l.name) (filter_map library_on controls)) (firsts_of (filter_map library_on controls) (tame_of controls (controls_of front))))
