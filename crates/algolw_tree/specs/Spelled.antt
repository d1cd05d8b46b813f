-- How a name or a string is held.
use Rattle.std.specs.Prelude.{ℕ, ◌≤◌, List, take}
use Rattle.algolw_tree.specs.declared.spelling.Held.{Held}
use Rattle.algolw_tree.specs.declared.spelling.Held.TheVariants.{InPlace, Apart}
use Rattle.algolw_tree.specs.declared.spelling.Spelling.TheInside.{Inside}
use Rattle.algolw_tree.specs.declared.spelling.ShortName.TheInside as short

-- the characters
abbrev pub characters : Held → List ℕ
characters (InPlace bytes count) = take count bytes
characters (Apart name) = name.value

-- as many as are said to be in place are there
abbrev pub Holds : Held → Type 0
Holds (InPlace bytes count) = count ≤ 14
Holds (Apart name) = Unit {0}

abbrev pub spelled : Inside → List ℕ
spelled s = characters s.text

abbrev pub Fits : Inside → Type 0
Fits s = Holds s.text

-- the same of a short name
abbrev pub short_spelled : short.Inside → List ℕ
short_spelled s = take s.count s.bytes

abbrev pub FitsShort : short.Inside → Type 0
FitsShort s = s.count ≤ 7
