-- What runs print.
use Rattle.std.specs.Prelude.{All}
use Rattle.program_meaning.specs.Phrases.{Phrase}
use Rattle.program_meaning.specs.State.{Setting}
use Rattle.program_meaning.specs.Results.{outcome, state_of, printed_lines, dump_of}
use Rattle.printed_lines.specs.Texts.{IsText, IsIndented}
use Rattle.printed_lines.specs.Phrases.{PhraseHolds}
use Rattle.printed_lines.specs.States.{StateHolds}

-- the run of this program holds texts alone, each line that it prints is one, and each line of its dump is one that begins with a blank
pub record PrintsTexts (set : Setting) (program : Phrase) : Type 0 where
  pub state : StateHolds (state_of (outcome set program))
  pub printed : All IsText (printed_lines set (state_of (outcome set program)))
  pub dumped : All IsText (dump_of (outcome set program))
  pub indented : All IsIndented (dump_of (outcome set program))

-- So it is with each program in which the strings are texts and the names words, on data cards that are texts, whatever the limits.
abbrev pub RunsPrintTexts : Type 0
RunsPrintTexts = (set : Setting) (program : Phrase) → PhraseHolds program → All IsText set.cards → PrintsTexts set program
