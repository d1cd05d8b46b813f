-- What the programs of decks hold.
use Rattle.std.specs.Prelude.{ℕ, List, All}
use Rattle.algolw_tree.specs.declared.tokens.Token.{Token}
use Rattle.algolw_tree.specs.Tokens.{AreTokens}
use Rattle.algolw_tree.specs.Tree.{Phrase}
use Rattle.algolw_tree.specs.Parts.{Beyond}
use Rattle.algolw_tree.specs.Programs.{Spells}
use Rattle.algolw_typing.specs.Programs.{program_of}
use Rattle.program_meaning.specs.Translating.{program_phrase}
use Rattle.printed_lines.specs.Texts.{IsText}
use Rattle.printed_lines.specs.Phrases.{PhraseHolds}

-- What the tokens of a deck spell has no other strings than texts, and no other names than words, where each card is a text.
abbrev pub ProgramsHoldTexts : Type 0
ProgramsHoldTexts = (deck : List (List ℕ)) (tokens : List Token) (x : Phrase) (b : Beyond) → All IsText deck → AreTokens deck tokens → Spells tokens x b → PhraseHolds (program_phrase (program_of x))
