-- What stands before the body of a procedure, as the rules see it.
use Rattle.std.specs.Prelude.{◌≡◌, Bool, true, false, List, [], ◌∷◌, Option}
use Rattle.std.specs.Option.{option_map}
use Rattle.value_ops.specs.declared.places.Place.{Place}
use Rattle.value_ops.specs.declared.places.Diagnostic.{Diagnostic}
use Rattle.algolw_tree.specs.Tree.{TypeSpec}
use Rattle.algolw_typing.specs.Rows.{procedure_row}
use Rattle.algolw_typing.specs.Scopes.{Scopes, result_faults, result_type}
use Rattle.algolw_typing.specs.Types.{ValueType, Gives}
use Rattle.algolw_typing.specs.Verdicts.{Verdict, Silent, part}
use Rattle.typing_rules.specs.View.{value_type}
use Rattle.declared_names.specs.declared.procedures.Head.{Head}

abbrev pub no_faults : List Diagnostic → Bool
no_faults [] = true
no_faults (f ∷ faults) = false

pub record IsHead (h : Head) (path : Scopes) (spec : Option TypeSpec) : Type 0 where
  pub sound : h.is_sound ≡ no_faults (result_faults path spec)
  pub result : option_map value_type h.result ≡ result_type path spec

-- the verdict of a procedure, whose type is sound or not, at PROCEDURE
abbrev pub verdict_of : Place → Bool → Option ValueType → Option Gives → Verdict
verdict_of p true result body = part body (procedure_row p result)
verdict_of p false result body = Silent
