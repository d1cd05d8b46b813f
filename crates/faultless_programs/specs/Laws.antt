-- A program without faults is never wrong.
use Rattle.std.specs.Prelude.{◌≡◌, [], map, true, false}
use Rattle.value_ops.specs.declared.places.Place.{Place}
use Rattle.algolw_tree.specs.Tree.{Phrase}
use Rattle.algolw_typing.specs.Types.{has}
use Rattle.algolw_typing.specs.Faults.{program_faults}
use Rattle.algolw_typing.specs.Programs.{program_of}
use Rattle.program_meaning.specs.State.{Setting}
use Rattle.program_meaning.specs.Translating.{program_phrase}
use Rattle.program_soundness.specs.Kinds.{a_statement}
use Rattle.program_soundness.specs.Fits.{Fits}
use Rattle.program_soundness.specs.Tables.{infos, all_infos, are_apart, table_of}
use Rattle.program_soundness.specs.Laws.{NeverGoesWrong}
use Rattle.faultless_programs.specs.Filled.{IsFilled}

-- what every tree of a deck is: no two declarations stand at one place, and no quoted text is empty
pub record IsDeckTree (x : Phrase) : Type 0 where
  pub apart : are_apart (all_infos (program_of x).root) ≡ true
  pub filled : IsFilled x

-- and each of its declarations stands on a card, while the standard names stand on none
pub record IsPlaced (x : Phrase) : Type 0 where
  pub on_cards : (p : Place) → p.card ≡ 0 → has (map (λ i. i.place) (infos (program_of x).root)) p ≡ false

-- The phrase that is executed for a program without faults fits.
abbrev pub ProgramsWithoutFaultsFit : Type 0
ProgramsWithoutFaultsFit = (x : Phrase) → program_faults x ≡ [] → IsDeckTree x → Fits (table_of (all_infos (program_of x).root)) [] (program_phrase (program_of x)) a_statement

-- Run with any data and limits, it ends normally, or is stopped by a fault or a limit.
abbrev pub ProgramsWithoutFaultsAreNeverWrong : Type 0
ProgramsWithoutFaultsAreNeverWrong = (set : Setting) (x : Phrase) → program_faults x ≡ [] → IsDeckTree x → NeverGoesWrong set (program_phrase (program_of x))
