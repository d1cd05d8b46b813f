-- The pieces of the values that a program writes.
use Rattle.std.specs.Prelude.{ℕ, nat_le, if◌then◌else◌, List, [], ◌∷◌, length, take, drop}
use Rattle.std.specs.Fmt.{signed_decimal}
use Rattle.short_text.specs.Blanks.{right}
use Rattle.line_text.specs.Texts.{bits_text, logical_text}
use Rattle.value_ops.specs.declared.values.Value.{Value}
use Rattle.value_ops.specs.declared.values.Value.TheVariants.{Integer, Logical, Bits, Str, Reference}
use Rattle.output_editing.specs.declared.widths.Widths.{Widths}
use Rattle.output_editing.specs.Layout.{Piece, Break, Put}

-- a string has no blanks after it; one that is longer than a line is its first 132 characters, and the rest
abbrev pub string_puts : List ℕ → List Piece
string_puts string = if nat_le (length string) 132 then Put string 0 ∷ [] else Put (take 132 string) 0 ∷ Put (drop 132 string) 0 ∷ []

-- A number stands right in its columns, or in as many as it has, where these are more; a truth value and bits stand right in theirs; each has its
-- blanks after it. A reference isn't printed.
abbrev pub puts : Value → Widths → List Piece
puts (Integer number) widths = Put (right widths.integer (signed_decimal number)) widths.blanks ∷ []
puts (Logical truth) widths = Put (right 6 (logical_text truth)) widths.blanks ∷ []
puts (Bits bits) widths = Put (right 14 (bits_text bits)) widths.blanks ∷ []
puts (Str string) widths = string_puts string
puts (Reference record_id) widths = []

-- the first value of WRITE begins a line
abbrev pub written_first : Value → Widths → List Piece
written_first value widths = Break ∷ puts value widths

-- the further ones, and those of WRITEON, go on
abbrev pub written_on : Value → Widths → List Piece
written_on value widths = puts value widths
