-- What parsing tokens gives.
use Rattle.std.specs.Prelude.{◌≡◌, List, Some}
use Rattle.algolw_tree.specs.declared.tokens.Token.{Token}
use Rattle.algolw_tree.specs.Programs.{Answer, Program, IsAnswer}
use Rattle.algolw_tree.specs.View.{tree}
use Rattle.algolw_grammar.specs.Parsing.{parsed, diagnostic_of}
use Rattle.algolw_parser.specs.declared.parsing.Parsed.{Parsed}
use Rattle.algolw_parser.specs.declared.parsing.Parsed.TheVariants.{Tree, Bad}

-- The program that the tokens spell, or the diagnostic of what they are instead.
abbrev pub Means : List Token → Parsed → Type 0
Means tokens (Tree x) = IsAnswer tokens (Program (tree x))
Means tokens (Bad d) = (a : Answer) × IsAnswer tokens a × (diagnostic_of a ≡ Some d)

-- The same as reading them gives.
abbrev pub Reads : List Token → Parsed → Type 0
Reads tokens (Tree x) = parsed tokens ≡ Some (Program (tree x))
Reads tokens (Bad d) = (a : Answer) × (parsed tokens ≡ Some a) × (diagnostic_of a ≡ Some d)
