-- Findings as they are taken, one by one.
use Rattle.std.specs.Prelude.{List, [], ◌∷◌, Option, Some, None}
use Rattle.value_ops.specs.declared.places.Place.{Place}
use Rattle.algolw_typing.specs.ProgramView.{nowhere}
use Rattle.algolw_typing.specs.Types as types
use Rattle.typed_findings.specs.Findings.{Found, Phrase, Name, gives_of}

-- the first, and those behind it; where there is none, that of a phrase without a type
abbrev pub first_found : List Found → Found
first_found [] = Phrase None None
first_found (f ∷ found) = f

abbrev pub rest_found : List Found → List Found
rest_found [] = []
rest_found (f ∷ found) = found

-- where a name is declared
abbrev pub name_of : Found → Place
name_of (Name p) = p
name_of (Phrase g s) = nowhere

-- a type, where there is one
abbrev pub value_given : Option types.Gives → Option types.ValueType
value_given (Some (types.Simple t)) = Some t
value_given g = None

abbrev pub type_of : Found → Option types.ValueType
type_of f = value_given (gives_of f)

-- a type that is there
abbrev pub type_or_integer : Option types.ValueType → types.ValueType
type_or_integer (Some t) = t
type_or_integer None = types.Integer

abbrev pub simple_type_of : Found → types.ValueType
simple_type_of f = type_or_integer (type_of f)
