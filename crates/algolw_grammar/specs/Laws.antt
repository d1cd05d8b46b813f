-- What the grammar keeps.
use Rattle.std.specs.Prelude.{◌≡◌, List, ◌++◌, Some}
use Rattle.algolw_tree.specs.declared.tokens.Token.{Token}
use Rattle.algolw_tree.specs.Tree.{Phrase}
use Rattle.algolw_tree.specs.Parts.{Beyond}
use Rattle.algolw_tree.specs.Programs.{Spells, Begins, Answer, IsAnswer, IsEnded}
use Rattle.algolw_grammar.specs.Parsing.{parsed}

-- tokens spell at most one program, which goes beyond nesting 100 at one place
abbrev pub OneProgram : Type 0
OneProgram = (tokens : List Token) (x y : Phrase) (b d : Beyond) → Spells tokens x b → Spells tokens y d → (x ≡ y) × (b ≡ d)

-- what spells a program begins one
abbrev pub ProgramsBegin : Type 0
ProgramsBegin = (tokens : List Token) (x : Phrase) (b : Beyond) → Spells tokens x b → Begins tokens b

-- each front of what begins a program begins one
abbrev pub FrontsBegin : Type 0
FrontsBegin = (front more : List Token) (b : Beyond) → Begins (front ++ more) b → (d : Beyond) × Begins front d

-- of tokens there is at most one thing to say
abbrev pub OneAnswer : Type 0
OneAnswer = (tokens : List Token) (x y : Answer) → IsAnswer tokens x → IsAnswer tokens y → x ≡ y

-- and where the last is the end of the deck, reading them says it
abbrev pub ParsedIsAnswer : Type 0
ParsedIsAnswer = (tokens : List Token) → IsEnded tokens → (x : Answer) × (parsed tokens ≡ Some x) × IsAnswer tokens x
