-- The names of a program, and its record classes, in order of place.
use Rattle.std.specs.Prelude.{◌≡◌, List, map}
use Rattle.algolw_tree.specs.declared.programs.NameInfo.{NameInfo}
use Rattle.algolw_tree.specs.Tree.{Phrase}
use Rattle.algolw_typing.specs.Naming.{program_naming}
use Rattle.algolw_typing.specs.Programs.{ordered_names, ordered_classes}
use Rattle.typed_findings.specs.ClassView.{class_view}
use Rattle.typed_findings.specs.declared.classes.FoundClass.{FoundClass}

pub record IsResolution (x : Phrase) (names : List NameInfo) (found : List FoundClass) : Type 0 where
  pub declared : names ≡ ordered_names (program_naming x)
  pub classes : map class_view found ≡ ordered_classes (program_naming x)
