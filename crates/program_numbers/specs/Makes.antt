-- What is made of a typed tree while sets of classes are added to a table.
use Rattle.std.specs.Prelude.{◌≡◌, ℕ, ◌<◌, ◌++◌, List, length, map}
use Rattle.std.specs.List.{All}
use Rattle.value_ops.specs.declared.places.Place.{Place}
use Rattle.value_ops.specs.declared.values.ClassId.{ClassId}
use Rattle.record_classes.specs.Classes.{Classes}
use Rattle.algolw_typing.specs.Typed as typed
use Rattle.algolw_typing.specs.ProgramView.{Numbers, numbered}
use Rattle.typing_rules.specs.ClassSets.{Rising}
use Rattle.typed_findings.specs.Findings.{Found}
use Rattle.program_numbers.specs.declared.numbering.Numbering.{Numbering}

abbrev pub Sets : Type 0
Sets = List (List ClassId)

-- sets that stand behind these
pub record Follows (sets later : Sets) : Type 0 where
  pub more : Sets
  pub is : later ≡ sets ++ more

-- the classes with these numbers, by place
abbrev pub places_in : List Place → List ClassId → List Place
places_in classes set = map (λ c. numbered classes c.0) set

-- each member is the number of a class
abbrev pub HasMembers : List Place → List ClassId → Type 0
HasMembers classes set = All (λ (c : ClassId). c.0 < length classes) set

-- each set is in order of place, with each class once, and has classes alone
pub record AreSets (classes : List Place) (sets : Sets) : Type 0 where
  pub rise : All (λ (set : List ClassId). Rising (places_in classes set)) sets
  pub members : All (HasMembers classes) sets

-- what numbers stand for, where the sets are these
abbrev pub numbers_in : Numbering → Sets → Numbers
numbers_in n sets = record { names = n.names; classes = n.classes; sets = sets; statements = n.statements }

-- what is declared, by its number
abbrev pub target_in : Numbering → ℕ × Place → typed.Placed
target_in n t = (numbered n.names t.0, t.1)

-- From table to table sets are added, and nothing else. What is seen of what was made is x, also when more sets are added.
pub record Makes {A : Type 0} (n : Numbering) (old new : Classes) (view : Numbers → A) (x : A) : Type 0 where
  pub classes : new.classes ≡ old.classes
  pub follows : Follows old.sets new.sets
  pub sets : AreSets n.classes old.sets → AreSets n.classes new.sets
  pub means : (later : Sets) → Follows new.sets later → AreSets n.classes later → view (numbers_in n later) ≡ x

-- What is made is what findings say of a phrase or of its parts, and the findings behind them are left.
pub record MakesTaken {A : Type 0} (n : Numbering) (old new : Classes) (view : Numbers → A) (behind : List Found) (taken : A × List Found) : Type 0 where
  pub made : Makes n old new view taken.0
  pub left : behind ≡ taken.1
