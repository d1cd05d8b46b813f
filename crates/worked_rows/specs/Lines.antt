-- The lines of what is printed. Decks of the manual and of `algolw_meaning` show the columns of most values.
use Rattle.std.specs.Prelude.{◌≡◌, ℕ, ℤ, pos, true, List, [], ◌∷◌, ◌++◌, map, replicate, Some, None, Result, Ok, Err, codes}
use Rattle.std.specs.List.{flat_map}
use Rattle.short_text.specs.Blanks.{blanks}
use Rattle.value_ops.specs.declared.faults.Limit.{Limit}
use Rattle.value_ops.specs.declared.faults.Limit.TheVariants as limit
use Rattle.value_ops.specs.declared.values.Value.{Value}
use Rattle.value_ops.specs.declared.values.Value.TheVariants.{Integer, Logical, Str, Reference}
use Rattle.output_editing.specs.declared.widths.Widths.{Widths}
use Rattle.output_editing.specs.Layout.{Piece, Break}
use Rattle.output_editing.specs.Written.{written_first, written_on}
use Rattle.output_editing.specs.Page.{page_of, answer}
use Rattle.worked_rows.specs.Integers.{minus}

-- ---- what is printed

-- the widths with which a job begins
abbrev pub usual : Widths
usual = record { integer = 14; blanks = 2 }

-- the values of a WRITEON
abbrev pub write_on : List Value → List Piece
write_on values = flat_map (λ value. written_on value usual) values

-- those of a WRITE
abbrev pub write : List Value → List Piece
write [] = []
write (value ∷ values) = written_first value usual ++ write_on values

-- an integer with so many columns, and so many blanks behind it
abbrev pub integer : ℤ → (columns blanks : ℕ) → List Piece
integer number columns blanks = written_on (Integer number) (record { integer = columns; blanks = blanks })

-- a truth value with so many blanks behind it
abbrev pub truth : ℕ → List Piece
truth blanks = written_on (Logical true) (record { integer = 1; blanks = blanks })

-- the end of a line
abbrev pub end_line : List Piece
end_line = Break ∷ []

abbrev pub one : Value
one = Integer (pos 1)

abbrev pub null : Value
null = Reference None

-- A, so many times
abbrev pub text : ℕ → List ℕ
text n = replicate n 65

abbrev pub string : ℕ → Value
string n = Str (text n)

-- blanks before a text
abbrev pub spaced : ℕ → List ℕ → List ℕ
spaced n text = blanks n ++ text

-- ---- ends of lines

-- what is printed, and its lines
abbrev pub LineRow : Type 0
LineRow = List Piece × List (List ℕ)

abbrev pub ends : List LineRow
ends =
    (write (Integer (minus 2147483648) ∷ []), codes "   -2147483648" ∷ [])
    -- eight integers fill a line
    ∷ (write_on (replicate 9 one), codes "             1               1               1               1               1               1               1               1" ∷ spaced 13 (codes "1") ∷ [])
    ∷ (write_on (string 120 ∷ one ∷ []), text 120 ∷ spaced 13 (codes "1") ∷ [])
    ∷ (write_on (string 132 ∷ string 1 ∷ []), text 132 ∷ text 1 ∷ [])
    -- a string of more than 132 characters begins on an empty line
    ∷ (write_on (string 1 ∷ string 133 ∷ []), text 1 ∷ text 132 ∷ text 1 ∷ [])
    -- so many blanks as there is room for come after a number
    ∷ (write_on (string 118 ∷ one ∷ string 1 ∷ []), (text 118 ++ spaced 13 (codes "1")) ∷ text 1 ∷ [])
    ∷ (write_on (string 117 ∷ one ∷ string 1 ∷ []), (text 117 ++ spaced 13 (codes "1")) ∷ text 1 ∷ [])
    ∷ (write_on (string 116 ∷ one ∷ string 1 ∷ []), (text 116 ++ spaced 13 (codes "1")) ∷ text 1 ∷ [])
    ∷ (write_on (string 115 ∷ one ∷ string 1 ∷ []), (text 115 ++ spaced 13 (codes "1  A")) ∷ [])
    -- blanks alone are an empty line
    ∷ (write_on (Str (codes "   ") ∷ []), [] ∷ [])
    -- where no line is open none ends
    ∷ (write_on (string 1 ∷ []) ++ end_line ++ end_line ++ write_on (Str (codes "B") ∷ []), codes "A" ∷ codes "B" ∷ [])
    -- references aren't printed
    ∷ (write (null ∷ []) ++ write (string 1 ∷ Reference (Some (record { 0 = 1 })) ∷ []) ++ write (null ∷ []) ++ end_line, codes "A" ∷ [])
    ∷ []

-- ---- widths

abbrev pub widths : List LineRow
widths =
    (integer (pos 7) 3 0 ++ integer (pos 12345) 3 0, codes "  712345" ∷ [])
    -- the columns, or those of the text, where these are more, are what must fit
    ∷ (integer (pos 1) 127 0 ++ integer (pos 2) 5 0 ++ integer (pos 3) 6 0, (spaced 126 (codes "1    2")) ∷ codes "     3" ∷ [])
    ∷ (integer (pos 1) 131 0 ++ integer (pos 2) 1 0, spaced 130 (codes "12") ∷ [])
    ∷ (integer (pos 1) 131 0 ++ integer (pos 22) 1 0, spaced 130 (codes "1") ∷ codes "22" ∷ [])
    ∷ (integer (minus 2147483648) 11 1 ++ integer (minus 2147483648) 10 0 ++ integer (pos 1) 1 0, codes "-2147483648 -21474836481" ∷ [])
    -- blanks that don't fit are left out, and don't go on on the next line
    ∷ (integer (pos 7) 132 132 ++ integer (pos 8) 132 132, spaced 131 (codes "7") ∷ spaced 131 (codes "8") ∷ [])
    ∷ (integer (pos 1) 130 9 ++ write_on (string 1 ∷ []), spaced 129 (codes "1") ∷ codes "A" ∷ [])
    ∷ (truth 0 ++ truth 132 ++ truth 2, codes "  TRUE  TRUE" ∷ codes "  TRUE" ∷ [])
    ∷ []

-- ---- limits

-- the answer to the last write
abbrev pub Answer : Type 0
Answer = Result (Unit {0}) Limit

abbrev pub allowed : Answer
allowed = Ok tt

abbrev pub refused : Answer
refused = Err limit.Lines

-- a limit of lines, what is printed under it, the answer to that, and the lines
abbrev pub LimitRow : Type 0
LimitRow = ℕ × List Piece × Answer × List (List ℕ)

abbrev pub limits : List LimitRow
limits =
    (2, write_on (string 256 ∷ Integer (pos 7) ∷ []), refused, text 132 ∷ text 124 ∷ [])
    ∷ (2, write_on (string 256 ∷ string 8 ∷ []), allowed, text 132 ∷ text 132 ∷ [])
    ∷ (1, write_on (string 133 ∷ []), refused, text 132 ∷ [])
    ∷ (1, write_on (one ∷ []) ++ end_line ++ write_on (null ∷ []), allowed, spaced 13 (codes "1") ∷ [])
    -- once the limit is met, whatever is written is refused
    ∷ (1, write (one ∷ []) ++ write (Integer (pos 2) ∷ []) ++ end_line ++ write_on (null ∷ []), refused, spaced 13 (codes "1") ∷ [])
    ∷ (1, write (one ∷ []) ++ write (Integer (pos 2) ∷ string 1 ∷ []), refused, spaced 13 (codes "1") ∷ [])
    ∷ []

pub record LinesArePrinted : Type 0 where
  -- under the greatest limit
  pub lines : map (λ (r : LineRow). (page_of 500 r.0).lines) ends ≡ map (λ (r : LineRow). r.1) ends
  pub by_widths : map (λ (r : LineRow). (page_of 500 r.0).lines) widths ≡ map (λ (r : LineRow). r.1) widths
  pub answers : map (λ (r : LineRow). answer 500 r.0) ends ≡ map (λ (r : LineRow). allowed) ends
  -- under the limits of the rows
  pub limited_lines : map (λ (r : LimitRow). (page_of r.0 r.1).lines) limits ≡ map (λ (r : LimitRow). r.3) limits
  pub limited_answers : map (λ (r : LimitRow). answer r.0 r.1) limits ≡ map (λ (r : LimitRow). r.2) limits
