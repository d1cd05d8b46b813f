-- The cards of made jobs: none has a line feed in it, each job has one head, and they are short.
use Rattle.std.proofs.Common.{◌≡◌, ◌≤◌, ◌<◌, ◌∙◌, refl, ap, ap₂, ℕ, ◌+◌, ◌-◌, ◌*◌, ◌%◌, Bool, true, false, List, [], ◌∷◌, ◌++◌, length, map, take, suc, zero, arith, cond, count_by}
use Rattle.std.specs.Prelude.{◌==◌, ◌&&◌, ◌||◌, not, decimal, codes}
use Rattle.std.specs.List.{list_any, list_all, suffix_len}
use Rattle.short_text.specs.Blanks.{trimmed}
use Rattle.std.specs.Str.Parse.{AllDigits}
use Rattle.std.proofs.lemmas.Bool.Decides.{nat_tests}
use Rattle.std.proofs.lemmas.Fmt.{decimal_is_IsNumeral, length-decimal-le}
use Rattle.std.proofs.lemmas.List.{length-append, map-append}
use Rattle.std.proofs.lemmas.List.Sums.{sum_by-append}
use Rattle.std.proofs.lemmas.List.Folds.{list_any-append}
use Rattle.std.proofs.lemmas.Str.Parse.{digit_from_value}
use Rattle.deck_reader.specs.Cards.{cleaned, with_tildes, without_return, without_tabs}
use Rattle.deck_reader.specs.Forms.{capital, is_head}
use Rattle.made_batches.specs.declared.decks.Deck.{Deck}
use Rattle.made_batches.specs.declared.decks.Deck.TheVariants.{Loop, ByName, Array, ZeroDivisor, Undeclared, Recursion}
use Rattle.made_batches.specs.Decks.{cards_of, deck_by, filled, in_line, in_lines}
use Rattle.made_batches.specs.MadeBatch.{head_card, job_by, number_by}
use Rattle.made_batches.proofs.Filling.{filled_byte, filled_lines}

abbrev pub has_feed : List ℕ → Bool
has_feed bytes = list_any (λ b. b == 10) bytes

pub and_first : (a b : Bool) → (a && b) ≡ true → a ≡ true
and_first true b h = refl
and_first false b h = cc

pub and_second : (a b : Bool) → (a && b) ≡ true → b ≡ true
and_second true b h = h
and_second false b h = cc

pub not_true : (a : Bool) → not a ≡ true → a ≡ false
not_true false h = refl
not_true true h = cc

feed_append : (xs ys : List ℕ) → has_feed xs ≡ false → has_feed ys ≡ false → has_feed (xs ++ ys) ≡ false
feed_append xs ys h k = list_any-append (λ b. b == 10) xs ys ∙ ap₂ (λ (a b : Bool). a || b) h k

no_feed : (digit : ℕ) → 48 ≤ digit → (digit == 10) ≡ false
no_feed digit h = grind (arith, nat_tests)

digits_feed : (digits : List ℕ) → AllDigits 10 digits → has_feed digits ≡ false
digits_feed [] h = refl
digits_feed (digit ∷ digits) h = ap₂ (λ (a b : Bool). a || b) (no_feed digit (digit_from_value digit h.0).0) (digits_feed digits h.1)

decimal_feed : (number : ℕ) → number < 10000 → has_feed (decimal number) ≡ false
decimal_feed number small = digits_feed (decimal number) (decimal_is_IsNumeral number (omega (arith, small))).0.1

decimal_short : (number : ℕ) → number < 10000 → length (decimal number) ≤ 4
decimal_short number small = length-decimal-le 4 number (omega arith) (omega (arith, small)) (omega (arith, small))

byte_feed : (number byte : ℕ) (mark : Bool) → number < 10000 → (byte == 35) ≡ mark → (byte == 10) ≡ false → has_feed (filled_byte number byte) ≡ false
byte_feed number byte true small is other = rw is (decimal_feed number small)
byte_feed number byte false small is other = rw (is, other) refl

or_first : (a b : Bool) → (a || b) ≡ false → a ≡ false
or_first false b h = refl
or_first true b h = cc

or_second : (a b : Bool) → (a || b) ≡ false → b ≡ false
or_second false b h = h
or_second true b h = cc

filled_feed : (number : ℕ) (text : List ℕ) → number < 10000 → has_feed text ≡ false → has_feed (filled number text) ≡ false
filled_feed number [] small none = refl
filled_feed number (byte ∷ text) small none =
    feed_append (filled_byte number byte) (filled number text) (byte_feed number byte (byte == 35) small refl (or_first _ _ none))
    (filled_feed number text small (or_second _ _ none))

byte_short : (number byte : ℕ) (mark : Bool) → number < 10000 → (byte == 35) ≡ mark → length (filled_byte number byte) ≤ 4
byte_short number byte true small is = rw is (decimal_short number small)
byte_short number byte false small is = rw is (omega arith)

filled_short : (number : ℕ) (text : List ℕ) → number < 10000 → length (filled number text) ≤ 4 * length text
filled_short number [] small = omega arith
filled_short number (byte ∷ text) small = omega (arith, length-append (filled_byte number byte) (filled number text), byte_short number byte (byte == 35) small refl, filled_short number text small)

-- a card that begins so begins no job, filled or not, cleaned or not
abbrev begins_apart : ℕ → Bool
begins_apart byte = not (byte == 35) && (not (byte == 13) && (not (byte == 9) && (not (byte == 194) && not (capital byte == 37))))

abbrev is_apart : List ℕ → Bool
is_apart [] = true
is_apart (byte ∷ bytes) = begins_apart byte

record Apart (byte : ℕ) : Type 0 where
  mark : (byte == 35) ≡ false
  end : (byte == 13) ≡ false
  tab : (byte == 9) ≡ false
  pair : (byte == 194) ≡ false
  percent : (capital byte == 37) ≡ false

apart : (byte : ℕ) → begins_apart byte ≡ true → Apart byte
apart byte h =
    let mark = not (byte == 35) in
    let end = not (byte == 13) in
    let tab = not (byte == 9) in
    let pair = not (byte == 194) in
    let percent = not (capital byte == 37) in
    let behind_mark = and_second mark (end && (tab && (pair && percent))) h in
    let behind_end = and_second end (tab && (pair && percent)) behind_mark in
    let behind_tab = and_second tab (pair && percent) behind_end in
    record {
      mark = not_true (byte == 35) (and_first mark (end && (tab && (pair && percent))) h);
      end = not_true (byte == 13) (and_first end (tab && (pair && percent)) behind_mark);
      tab = not_true (byte == 9) (and_first tab (pair && percent) behind_end);
      pair = not_true (byte == 194) (and_first pair percent behind_tab);
      percent = not_true (capital byte == 37) (and_second pair percent behind_tab);
    }

-- nothing, or this byte first
record Begins (byte : ℕ) (bytes : List ℕ) : Type 0 where
  rest : List ℕ
  is : bytes ≡ byte ∷ rest

return_begins : (byte : ℕ) (bytes : List ℕ) → Apart byte → Begins byte (without_return (byte ∷ bytes))
return_begins byte [] a = record { rest = []; is = rw a.end refl }
return_begins byte (next ∷ bytes) a = record { rest = without_return (next ∷ bytes); is = refl }

tabs_begin : (byte : ℕ) (bytes : List ℕ) → Apart byte → Begins byte bytes → Begins byte (without_tabs bytes)
tabs_begin byte bytes a b = record { rest = without_tabs b.rest; is = ap without_tabs b.is ∙ rw a.tab refl }

tildes_at : (byte : ℕ) (rest : List ℕ) → Apart byte → Begins byte (with_tildes (byte ∷ rest))
tildes_at byte [] a = record { rest = []; is = refl }
tildes_at byte (next ∷ rest) a = record { rest = with_tildes (next ∷ rest); is = rw a.pair refl }

tildes_begin : (byte : ℕ) (bytes : List ℕ) → Apart byte → Begins byte bytes → Begins byte (with_tildes bytes)
tildes_begin byte bytes a b = let at = tildes_at byte b.rest a in record { rest = at.rest; is = ap with_tildes b.is ∙ at.is }

head_at : (byte : ℕ) (rest : List ℕ) (n : ℕ) → Apart byte → is_head (take n (byte ∷ rest)) ≡ false
head_at byte rest zero a = refl
head_at byte rest (suc n) a = rw a.percent refl

pub no_head : (card : List ℕ) → is_apart card ≡ true → is_head (cleaned card) ≡ false
no_head [] h = refl
no_head (byte ∷ bytes) h =
    let a = apart byte h in
    let b = tildes_begin byte _ a (tabs_begin byte _ a (return_begins byte bytes a)) in
    ap (λ (line : List ℕ). is_head (trimmed line)) b.is
    ∙ head_at byte b.rest (length (byte ∷ b.rest) - suffix_len (λ c. c == 32) (byte ∷ b.rest)) a

filled_apart : (number : ℕ) (card : List ℕ) → is_apart card ≡ true → is_apart (filled number card) ≡ true
filled_apart number [] h = refl
filled_apart number (byte ∷ bytes) h = rw (apart byte h).mark h

abbrev pub heads : List (List ℕ) → ℕ
heads cards = count_by is_head (map cleaned cards)

pub heads-append : (xs ys : List (List ℕ)) → heads (xs ++ ys) ≡ heads xs + heads ys
heads-append xs ys = ap (count_by is_head) (map-append cleaned xs ys) ∙ sum_by-append (λ (c : List ℕ). cond (is_head c) 1 0) (map cleaned xs) (map cleaned ys)

head_or_not : (is : Bool) → 0 + cond is 1 0 ≤ 1
head_or_not true = omega arith
head_or_not false = omega arith

one_head : (card : List ℕ) → heads (card ∷ []) ≤ 1
one_head card = head_or_not (is_head (cleaned card))

-- whether none of these cards has a line feed in it
abbrev pub are_lines : List (List ℕ) → Bool
are_lines cards = list_all (λ card. not (has_feed card)) cards

abbrev are_apart : List (List ℕ) → Bool
are_apart cards = list_all is_apart cards

filled_heads : (number : ℕ) (cards : List (List ℕ)) → are_apart cards ≡ true → heads (map (filled number) cards) ≡ 0
filled_heads number [] h = refl
filled_heads number (card ∷ cards) h =
    heads-append (filled number card ∷ []) (map (filled number) cards)
    ∙ ap₂ (λ (m n : ℕ). m + n) (ap (λ (is : Bool). 0 + cond is 1 0) (no_head (filled number card) (filled_apart number card (and_first _ _ h)))) (filled_heads number cards (and_second _ _ h))

filled_are_lines : (number : ℕ) (cards : List (List ℕ)) → number < 10000 → are_lines cards ≡ true → are_lines (map (filled number) cards) ≡ true
filled_are_lines number [] small h = refl
filled_are_lines number (card ∷ cards) small h =
    ap₂ (λ (a b : Bool). not a && b) (filled_feed number card small (not_true _ (and_first _ _ h))) (filled_are_lines number cards small (and_second _ _ h))

record Fair (deck : Deck) : Type 0 where
  apart : are_apart (cards_of deck) ≡ true
  lines : are_lines (cards_of deck) ≡ true
  short : length (in_lines (cards_of deck)) ≤ 200

fair : (deck : Deck) → Fair deck
fair Loop = record { apart = refl; lines = refl; short = omega arith }
fair ByName = record { apart = refl; lines = refl; short = omega arith }
fair Array = record { apart = refl; lines = refl; short = omega arith }
fair ZeroDivisor = record { apart = refl; lines = refl; short = omega arith }
fair Undeclared = record { apart = refl; lines = refl; short = omega arith }
fair Recursion = record { apart = refl; lines = refl; short = omega arith }

below : (n d : ℕ) → 0 < d → n % d < d
below n d h = grind (arith, h)

head_feed : (job : ℕ) → job < 10000 → has_feed (head_card job) ≡ false
head_feed job small =
    let four : job % 4 < 10000 = omega (arith, below job 4 (omega arith)) in
    let end = codes ",STEPS=5000,LINES=5" in
    let account = decimal (job % 4) ++ end in
    let comma = codes ",M" ++ account in
    feed_append (codes "%JOB J") (decimal job ++ comma) refl (feed_append (decimal job) comma (decimal_feed job small)
    (feed_append (codes ",M") account refl (feed_append (decimal (job % 4)) end (decimal_feed (job % 4) four) refl)))

head_short : (job : ℕ) → job < 10000 → length (in_line (head_card job)) ≤ 40
head_short job small =
    let four : job % 4 < 10000 = omega (arith, below job 4 (omega arith)) in
    omega (
      arith,
      length-append (head_card job) (10 ∷ []),
      length-append (codes "%JOB J") (decimal job ++ (codes ",M" ++ (decimal (job % 4) ++ codes ",STEPS=5000,LINES=5"))),
      length-append (decimal job) (codes ",M" ++ (decimal (job % 4) ++ codes ",STEPS=5000,LINES=5")),
      length-append (codes ",M") (decimal (job % 4) ++ codes ",STEPS=5000,LINES=5"),
      length-append (decimal (job % 4)) (codes ",STEPS=5000,LINES=5"),
      decimal_short job small,
      decimal_short (job % 4) four,
    )

-- what the cards of a job are
pub record IsJob (cards : List (List ℕ)) : Type 0 where
  pub lines : are_lines cards ≡ true
  pub head : heads cards ≤ 1
  pub short : length (in_lines cards) ≤ 840

pub is_job : (job first second : ℕ) → job < 10000 → IsJob (job_by job first second)
is_job job first second small =
    let number = number_by second in
    let few : number < 10000 = omega (arith, below second 50 (omega arith)) in
    let deck = deck_by first in
    let cards = cards_of deck in
    let text = in_lines cards in
    record {
      lines = ap₂ (λ (a b : Bool). not a && b) (head_feed job small) (filled_are_lines number cards few (fair deck).lines);
      head = omega (arith, heads-append (head_card job ∷ []) (map (filled number) cards), one_head (head_card job), filled_heads number cards (fair deck).apart);
      short = omega (arith, length-append (in_line (head_card job)) (in_lines (map (filled number) cards)), ap length (filled_lines number cards), head_short job small, filled_short number text few, (fair deck).short);
    }
