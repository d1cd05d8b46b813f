-- The names and the record classes that a part of a program adds to a log.
use Rattle.std.specs.Prelude.{◌≡◌, ◌++◌, map}
use Rattle.algolw_typing.specs.Naming.{Naming}
use Rattle.typed_findings.specs.ClassView.{class_view}
use Rattle.typed_findings.specs.declared.findings.Log.{Log}

pub record Notes (old new : Log) (n : Naming) : Type 0 where
  pub names : new.names.items ≡ old.names.items ++ n.names
  pub classes : map class_view new.classes.items ≡ map class_view old.classes.items ++ n.classes
