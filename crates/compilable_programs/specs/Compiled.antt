-- What a program is that may be compiled. A program without faults that tokens spell is one.
use Rattle.std.specs.Prelude.{◌≡◌, ℕ, ◌<◌, List, [], ◌++◌, map, length, false, true}
use Rattle.std.specs.List.{All}
use Rattle.value_ops.specs.declared.places.Place.{Place}
use Rattle.algolw_tree.specs.declared.programs.Program.{Program}
use Rattle.algolw_typing.specs.Types.{has}
use Rattle.algolw_typing.specs.Scopes.{standard_scope}
use Rattle.algolw_typing.specs.Known.{Knows}
use Rattle.algolw_typing.specs.Naming.{Class}
use Rattle.algolw_typing.specs.ProgramView.{HoldsProgram, numbered, nowhere}
use Rattle.algolw_typing.specs.Programs.{TypedProgram}
use Rattle.program_meaning.specs.Translating.{text_at, program_phrase}
use Rattle.program_soundness.specs.Tables.{all_infos, are_apart}
use Rattle.compilable_programs.specs.Begun.{Begun}
use Rattle.compilable_programs.specs.Suits.{Suits}

abbrev pub name_places : TypedProgram → List Place
name_places x = map (λ i. i.place) x.names

abbrev pub class_places : TypedProgram → List Place
class_places x = map (λ c. c.place) x.classes

-- the places of the names of every deck
abbrev pub standard_places : List Place
standard_places = map (λ e. e.place) standard_scope

-- no two of these places are one
abbrev pub AreApart : List Place → Type 0
AreApart places = (n k : ℕ) → n < length places → k < length places → numbered places n ≡ numbered places k → n ≡ k

-- Its names stand apart, those of every deck first; its classes are names; its tree has no names and classes but these, declares each once, begins
-- what it counts, and is one that suits.
pub record IsCompilable (p : Program) (x : TypedProgram) : Type 0 where
  pub holds : HoldsProgram p x
  pub apart : AreApart (name_places x)
  pub others : List Place
  pub standard : name_places x ≡ standard_places ++ others
  pub somewhere : has (name_places x) nowhere ≡ false
  pub classes_apart : AreApart (class_places x)
  pub classes_named : All (λ (c : Class). (has (name_places x) c.place ≡ true) × (text_at x.names c.place ≡ c.name)) x.classes
  pub knows : Knows (name_places x) (class_places x) x.root
  pub once : are_apart (all_infos x.root) ≡ true
  pub begun : Begun (class_places x) x.root
  pub suits : Suits [] (program_phrase x)
