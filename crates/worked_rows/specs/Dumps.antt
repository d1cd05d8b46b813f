-- The lines of a dump and those of a source. The dumps and sections of `algolw_meaning` show more of them.
use Rattle.std.specs.Prelude.{◌≡◌, ℕ, ℤ, pos, true, Some, None, Option, List, [], ◌∷◌, ◌++◌, ◌-◌, map, length, replicate, codes}
use Rattle.short_text.specs.Blanks.{blanks}
use Rattle.value_ops.specs.declared.places.Place.{Place}
use Rattle.value_ops.specs.declared.values.Value.TheVariants.{Integer, Logical, Bits, Str}
use Rattle.post_mortem.specs.declared.entries.Entry.{Entry}
use Rattle.post_mortem.specs.declared.entries.Entry.TheVariants.{Call, For, Actual, Shown}
use Rattle.post_mortem.specs.declared.entries.Shown as shown
use Rattle.post_mortem.specs.declared.entries.Shown.TheVariants.{Undefined, Simple, Bounds, Procedure}
use Rattle.post_mortem.specs.Dump.{dump_text}
use Rattle.post_mortem.specs.Source.{source_text}
use Rattle.worked_rows.specs.Integers.{minus, bits}

abbrev pub at : ℕ → ℕ → Place
at card column = record { card = card; column = column }

-- an array with these bounds, at most 8; behind them come pairs without meaning
abbrev pub array : List (ℤ × ℤ) → shown.Shown
array bounds = Bounds (record { count = length bounds; bounds = bounds ++ replicate (8 - length bounds) (pos 0, pos 0) })

-- the bounds of all INTEGERs
abbrev pub all_integers : ℤ × ℤ
all_integers = (minus 2147483648, pos 2147483647)

-- 80 letters
abbrev pub letters : List ℕ
letters = codes "ABCDEFGHIJKLMNOPQRSTUVWXYZABCDEFGHIJKLMNOPQRSTUVWXYZABCDEFGHIJKLMNOPQRSTUVWXYZAB"

abbrev pub quotes : ℕ → List ℕ
quotes n = replicate n 34

-- ---- a dump

-- an entry, and its line
abbrev pub EntryRow : Type 0
EntryRow = Entry × List ℕ

abbrev pub entries : List EntryRow
entries =
    (Call (codes "BUMP") (at 4 1), codes "  CALL BUMP FROM 4,1")
    ∷ (For (at 3 1), codes "  FOR 3,1")
    ∷ (Actual (at 7 20), codes "  ACTUAL 7,20")
    ∷ (Shown (codes "L") (Simple (Logical true)), codes "    L = TRUE")
    ∷ (Shown (codes "B") (Simple (Bits (bits (codes "F")))), codes "    B = #0000000F")
    ∷ (Shown (codes "V") Undefined, codes "    V = ?")
    ∷ (Shown (codes "A") (array ((pos 1, pos 3) ∷ (pos 0, pos 2) ∷ [])), codes "    A ARRAY (1::3,0::2)")
    ∷ (Shown (codes "A") (array (all_integers ∷ [])), codes "    A ARRAY (-2147483648::2147483647)")
    ∷ (Shown (codes "P") Procedure, codes "    P PROCEDURE")
    ∷ (Shown (codes "Q") (Simple (Str (codes "\""))), codes "    Q = \"\"\"\"")
    ∷ (Shown (codes "I") (Simple (Integer (minus 2147483648))), codes "    I = -2147483648")
    -- a line is cut at 132 columns
    ∷ (
      Shown letters (array (replicate 8 all_integers)),
      codes "    ABCDEFGHIJKLMNOPQRSTUVWXYZABCDEFGHIJKLMNOPQRSTUVWXYZABCDEFGHIJKLMNOPQRSTUVWXYZAB ARRAY (-2147483648::2147483647,-2147483648::214",
    )
    ∷ (Shown (codes "Q") (Simple (Str (quotes 256))), codes "    Q = " ++ quotes 124)
    -- and has no blanks at its end
    ∷ (Shown (codes "Q") (Simple (Str (blanks 256))), codes "    Q = \"")
    ∷ []

-- ---- a source

-- a card, its number, so many statements where there are any, and its line
abbrev pub SourceRow : Type 0
SourceRow = List ℕ × ℕ × Option ℕ × List ℕ

abbrev pub cards : List SourceRow
cards =
    (codes "BEGIN INTEGER I;", 1, None, codes "   1           BEGIN INTEGER I;")
    ∷ (letters, 9999, Some 99999999, codes "9999 99999999  " ++ letters)
    ∷ (blanks 80, 12, None, codes "  12")
    ∷ []

pub record LinesAreShown : Type 0 where
  pub dump : map (λ (r : EntryRow). dump_text r.0) entries ≡ map (λ (r : EntryRow). r.1) entries
  pub source : map (λ (r : SourceRow). source_text r.0 r.1 r.2) cards ≡ map (λ (r : SourceRow). r.3) cards
