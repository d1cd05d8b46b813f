-- Names of every deck, and what operations on one value take and give.
use Rattle.std.specs.Prelude.{ℕ, List, [], ◌∷◌, map}
use denote.Ref.{Bor}
use Rattle.algolw_tree.specs.declared.standard.Basic.{Basic}
use Rattle.algolw_tree.specs.declared.standard.Basic.TheVariants.{Integer, Logical, Bits, Character}
use Rattle.algolw_tree.specs.declared.standard.Standard.{Standard}
use Rattle.algolw_tree.specs.declared.standard.TheConstants.{STANDARD}
use Rattle.algolw_tree.specs.declared.standard.UnaryOp.{UnaryOp}
use Rattle.algolw_tree.specs.declared.standard.UnaryOp.TheVariants.{Minus, Absolute, Not, Complement, IsOdd, ToBits, ToNumber, ToCharacter, ToCode}

-- names, each with what it is
abbrev pub StandardNames : Type 0
StandardNames = List (List ℕ × Standard)

-- the names of every deck, in the order of their places
abbrev pub standard_table : StandardNames
standard_table = map (λ e. (e.0.now, e.1)) STANDARD

-- names in memory
abbrev pub spelled : List (Bor (List ℕ) × Standard) → StandardNames
spelled [] = []
spelled (x ∷ names) = (x.0.now, x.1) ∷ spelled names

-- the type of an operation's operand
abbrev pub takes : UnaryOp → Basic
takes Minus = Integer
takes Absolute = Integer
takes Not = Logical
takes Complement = Bits
takes IsOdd = Integer
takes ToBits = Integer
takes ToNumber = Bits
takes ToCharacter = Integer
takes ToCode = Character

-- the type of its answer
abbrev pub gives : UnaryOp → Basic
gives Minus = Integer
gives Absolute = Integer
gives Not = Logical
gives Complement = Bits
gives IsOdd = Logical
gives ToBits = Bits
gives ToNumber = Integer
gives ToCharacter = Character
gives ToCode = Integer
