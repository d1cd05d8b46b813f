-- The lines of a section.
use Rattle.std.specs.Prelude.{ℕ, ◌+◌, List, [], ◌∷◌, ◌++◌, decimal, codes, Option, None}
use Rattle.post_mortem.specs.Dump.{place_text}
use Rattle.post_mortem.specs.Source.{source_text}
use Rattle.account_book.specs.Charges.{charge}
use Rattle.account_book.specs.declared.charges.Counts.{Counts}
use Rattle.value_ops.specs.declared.places.Diagnostic.{Diagnostic}
use Rattle.value_ops.specs.Diagnostics.{diagnostic_text}

-- a text and a line feed
abbrev pub line : List ℕ → List ℕ
line text = text ++ 10 ∷ []

-- a card behind its number and a count, or none
abbrev pub source_line : ℕ → Option ℕ → List ℕ → List ℕ
source_line number count card = line (source_text card number count)

-- the cards from this number on, with no counts
abbrev pub source_lines : ℕ → List (List ℕ) → List ℕ
source_lines number [] = []
source_lines number (card ∷ cards) = source_line number None card ++ source_lines (number + 1) cards

-- what a job used, and its charge
abbrev pub sum_line : Counts → List ℕ
sum_line counts = line (codes "CARDS " ++ decimal counts.cards ++ codes " STEPS " ++ decimal counts.steps ++ codes " LINES " ++ decimal counts.lines ++ codes " CHARGE " ++ decimal (charge counts))

-- the number of a diagnostic, and its place
unfoldable pub diagnostic_head : Diagnostic → List ℕ
diagnostic_head d = codes "DIAGNOSTIC " ++ decimal d.number ++ codes " AT " ++ place_text d.place

-- what is wrong with a deck, and where
abbrev pub diagnostic_line : Diagnostic → List ℕ
diagnostic_line d = line (diagnostic_head d ++ codes ": " ++ diagnostic_text d.number)

-- a line for each diagnostic
abbrev pub diagnostic_lines : List Diagnostic → List ℕ
diagnostic_lines [] = []
diagnostic_lines (d ∷ faults) = diagnostic_line d ++ diagnostic_lines faults
