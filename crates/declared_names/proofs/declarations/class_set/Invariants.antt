use Rattle.std.proofs.Common.{◌≡◌, ◌++◌, drop}
use Rattle.typing_rules.proofs.NamedClasses.{declared_classes}
use Rattle.declared_names.proofs.declarations.class_set.Given as goal

-- what is found and what is left are all
abbrev pub invariant-loop-name : goal.invariant-loop-name
invariant-loop-name l = l.classes.items ++ declared_classes l.path (drop l.name-index l.names.items) ≡ declared_classes l.path l.names.items
