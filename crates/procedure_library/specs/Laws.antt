-- What is true of the tokens of libraries.
use Rattle.std.specs.Prelude.{List}
use Rattle.algolw_tree.specs.declared.tokens.Token.{Token}
use Rattle.algolw_tree.specs.Programs.{IsEnded}
use Rattle.algolw_tree.specs.Libraries.{wrapped}

-- where the last of a library's tokens is the end, so is that of the program's
abbrev pub WrappedAreEnded : Type 0
WrappedAreEnded = (tokens : List Token) → IsEnded tokens → IsEnded (wrapped tokens)
