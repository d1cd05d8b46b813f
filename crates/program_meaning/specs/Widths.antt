-- The widths by which WRITE and WRITEON place values.
use Rattle.std.specs.Prelude.{ℕ, ℤ, pos, negsuc, List, Option, Some, None, Bool, true, false, ◌&&◌, nat_le}
use Rattle.value_ops.specs.declared.places.Place.{Place}
use Rattle.value_ops.specs.declared.faults.Fault.TheVariants as fault
use Rattle.value_ops.specs.declared.values.Value.{Value}
use Rattle.value_ops.specs.declared.values.Value.TheVariants as value
use Rattle.algolw_tree.specs.declared.standard.Width.{Width}
use Rattle.algolw_tree.specs.declared.standard.Width.TheVariants.{Columns, Blanks}
use Rattle.output_editing.specs.declared.widths.Widths.{Widths}
use Rattle.output_editing.specs.Layout.{Piece}
use Rattle.output_editing.specs.Written.{written_first, written_on}
use Rattle.program_meaning.specs.State.{M, Setting, ◌>>=◌, give, test, fault_at, look, integer_in, put_pieces}

-- the number of a standard variable: the two are there before any other
abbrev pub variable_of : Width → ℕ
variable_of Columns = 0
variable_of Blanks = 1

-- the widths that a WRITE has set by now
pub record WidthsSet : Type 0 where
  pub columns : Option ℤ
  pub blanks : Option ℤ

abbrev pub none_set : WidthsSet
none_set = record { columns = None; blanks = None }

abbrev pub with_width : Width → ℤ → WidthsSet → WidthsSet
with_width Columns n ws = record ws { columns = Some n }
with_width Blanks n ws = record ws { blanks = Some n }

-- a width is the one that is set, or the variable's value now
abbrev pub width_now : {P : Type 0} → Place → Width → Option ℤ → M P ℤ
width_now w k (Some n) = give n
width_now w k None = look w (variable_of k) >>= integer_in w

abbrev pub is_between : ℤ → (least most : ℕ) → Bool
is_between (pos n) least most = nat_le least n && nat_le n most
is_between (negsuc n) least most = false

-- whether a value can be placed with these columns and blanks
abbrev pub may_be_placed : Value → (columns blanks : ℤ) → Bool
may_be_placed (value.Integer n) columns blanks = is_between columns 1 132 && is_between blanks 0 132
may_be_placed (value.Logical b) columns blanks = is_between blanks 0 132
may_be_placed (value.Bits b) columns blanks = is_between blanks 0 132
may_be_placed v columns blanks = true

abbrev pub count_of : ℤ → ℕ
count_of (pos n) = n
count_of (negsuc n) = 0

abbrev pub widths_of : (columns blanks : ℤ) → Widths
widths_of columns blanks = record { integer = count_of columns; blanks = count_of blanks }

abbrev pub pieces_of : (first : Bool) → Value → Widths → List Piece
pieces_of true v widths = written_first v widths
pieces_of false v widths = written_on v widths

-- F17 where it can't be placed so
abbrev pub value_placed : {P : Type 0} → Setting → Place → (first : Bool) → Value → (columns blanks : ℤ) → M P (Unit {0})
value_placed set w first v columns blanks = test (may_be_placed v columns blanks) (put_pieces set w (pieces_of first v (widths_of columns blanks))) (fault_at fault.WidthOutOfRange w)

-- a value is placed by the widths that are set, or else by the variables
abbrev pub value_written : {P : Type 0} → Setting → Place → (first : Bool) → WidthsSet → Value → M P (Unit {0})
value_written set w first ws v = width_now w Columns ws.columns >>= λ columns. width_now w Blanks ws.blanks >>= λ blanks. value_placed set w first v columns blanks
