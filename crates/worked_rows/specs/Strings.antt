-- What the operations on strings give.
use Rattle.std.specs.Prelude.{◌≡◌, ℕ, ℤ, pos, List, [], ◌∷◌, map, replicate, Result, Ok, Err, codes, slice_index}
use Rattle.std.specs.Ordering.{ordering_reverse}
use Rattle.std.specs.declared.cmp.Ordering.{Ordering}
use Rattle.std.specs.declared.cmp.Ordering.TheVariants.{Less, Equal, Greater}
use Rattle.short_text.specs.Blanks.{blanks}
use Rattle.value_ops.specs.declared.faults.Fault.{Fault}
use Rattle.value_ops.specs.declared.faults.Fault.TheVariants.{PlaceOutsideString, CodeOutsideRange}
use Rattle.value_ops.specs.Strings.{filled, compared, part, with_part, character}
use Rattle.worked_rows.specs.Integers.{minus}

-- a string, or the fault in place of it
abbrev pub Answer : Type 0
Answer = Result (List ℕ) Fault

-- F, 256 times
abbrev pub long : List ℕ
long = replicate 256 70

-- ---- parts

-- a string, a place, so many characters, and the part
abbrev pub PartRow : Type 0
PartRow = List ℕ × ℤ × ℕ × Answer

abbrev pub outside : Answer
outside = Err PlaceOutsideString

abbrev pub parts : List PartRow
parts =
    (codes "ABCDE", pos 0, 2, Ok (codes "AB"))
    ∷ (codes "ABCDE", pos 0, 5, Ok (codes "ABCDE"))
    ∷ (codes "ABCDE", pos 0, 6, outside)
    ∷ (codes "ABCDE", pos 3, 2, Ok (codes "DE"))
    ∷ (codes "ABCDE", pos 4, 1, Ok (codes "E"))
    ∷ (codes "ABCDE", pos 4, 2, outside)
    ∷ (codes "ABCDE", pos 5, 1, outside)
    ∷ (codes "ABCDE", minus 1, 1, outside)
    ∷ (codes "ABCDE", pos 2147483647, 1, outside)
    ∷ (codes "ABCDE", minus 2147483648, 256, outside)
    ∷ (long, pos 0, 256, Ok long)
    ∷ (long, pos 255, 1, Ok (codes "F"))
    ∷ (long, pos 1, 256, outside)
    ∷ (long, pos 256, 1, outside)
    ∷ []

-- a string, a place, so many characters, what is put there, and the string then
abbrev pub PutRow : Type 0
PutRow = List ℕ × ℤ × ℕ × List ℕ × Answer

abbrev pub parts_put : List PutRow
parts_put =
    (codes "ABCDE", pos 0, 1, codes "X", Ok (codes "XBCDE"))
    ∷ (codes "ABCDE", pos 1, 2, codes "X", Ok (codes "AX DE"))
    ∷ (codes "ABCDE", pos 3, 2, codes "YZ", Ok (codes "ABCYZ"))
    ∷ (codes "ABCDE", pos 0, 5, [], Ok (codes "     "))
    ∷ (codes "ABCDE", pos 4, 2, codes "Q", outside)
    ∷ (codes "ABCDE", minus 1, 2, codes "Q", outside)
    ∷ (codes "ABCDE", pos 5, 1, codes "Q", outside)
    ∷ (long, pos 0, 256, long, Ok long)
    ∷ (long, pos 1, 256, codes "Q", outside)
    ∷ []

-- ---- order and length

-- a string, how it is to the second, and that
abbrev pub OrderRow : Type 0
OrderRow = List ℕ × Ordering × List ℕ

abbrev pub orders : List OrderRow
orders =
    ([], Equal, [])
    ∷ (codes "A", Equal, codes "A  ")
    ∷ (codes " ", Equal, [])
    ∷ (codes "AB", Greater, codes "A")
    ∷ (codes "A", Less, codes "AB")
    ∷ (codes "A!", Greater, codes "A")
    ∷ (codes "A ", Less, codes "A!")
    ∷ (codes "A", Less, codes "a")
    ∷ (codes "B", Greater, codes "AZ")
    ∷ (codes "9", Less, codes "A")
    ∷ []

-- a string, so many characters, and the string filled to so many
abbrev pub FillingRow : Type 0
FillingRow = List ℕ × ℕ × List ℕ

abbrev pub fillings : List FillingRow
fillings =
    (codes "AB", 4, codes "AB  ")
    ∷ (codes "AB", 2, codes "AB")
    ∷ ([], 256, blanks 256)
    ∷ []

-- ---- codes

-- a number, and the character whose code it is, if it is one
abbrev pub CodeRow : Type 0
CodeRow = ℤ × Answer

abbrev pub no_code : Answer
no_code = Err CodeOutsideRange

abbrev pub character_codes : List CodeRow
character_codes =
    (pos 32, Ok (codes " "))
    ∷ (pos 65, Ok (codes "A"))
    ∷ (pos 126, Ok (codes "~"))
    ∷ (pos 31, no_code)
    ∷ (pos 127, no_code)
    ∷ (minus 1, no_code)
    ∷ (pos 0, no_code)
    ∷ (minus 2147483648, no_code)
    ∷ (pos 2147483647, no_code)
    ∷ []

pub record StringsGive : Type 0 where
  pub taken : map (λ (r : PartRow). part r.0 r.1 r.2) parts ≡ map (λ (r : PartRow). r.3) parts
  pub put : map (λ (r : PutRow). with_part r.0 r.1 r.2 r.3) parts_put ≡ map (λ (r : PutRow). r.4) parts_put
  pub ordered : map (λ (r : OrderRow). compared r.0 r.2) orders ≡ map (λ (r : OrderRow). r.1) orders
  -- and the other way round
  pub reversed : map (λ (r : OrderRow). compared r.2 r.0) orders ≡ map (λ (r : OrderRow). ordering_reverse r.1) orders
  pub lengthened : map (λ (r : FillingRow). filled r.1 r.0) fillings ≡ map (λ (r : FillingRow). r.2) fillings
  pub coded : map (λ (r : CodeRow). character r.0) character_codes ≡ map (λ (r : CodeRow). r.1) character_codes
  -- the codes of characters, as DECODE gives them
  pub decoded : map (λ (c : List ℕ). slice_index c 0) (codes " " ∷ codes "A" ∷ codes "~" ∷ []) ≡ 32 ∷ 65 ∷ 126 ∷ []
