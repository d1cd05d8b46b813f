-- The scopes that linked scopes are.
use Rattle.std.specs.Prelude.{List, ◌∷◌, Option, Some, None, length}
use denote.Ref.{Bor}
use Rattle.algolw_typing.specs.Names.{Scope}
use Rattle.algolw_typing.specs.Scopes.{Known, Scopes, control_scope}
use Rattle.name_scopes.specs.Nearest.{Nearest}
use Rattle.declared_names.specs.Standards.{standard_path}
use Rattle.declared_names.specs.declared.innermost.Innermost.{Innermost}
use Rattle.declared_names.specs.declared.innermost.Innermost.TheVariants.{Names, Control}

-- what is declared innermost: the names of a scope, or a control name alone
abbrev pub known_of : Innermost → Scope Known
known_of (Names scope) = scope.now
known_of (Control name place) = control_scope place name.now

-- the path
abbrev pub path_of : Option (Innermost × Bor Scopes) → Scopes
path_of None = standard_path
path_of (Some p) = known_of p.0 ∷ p.1.now

-- what stands behind its innermost scope
abbrev pub behind : Option (Innermost × Bor Scopes) → Scopes
behind None = standard_path
behind (Some p) = p.1.now

-- names are looked for by marks behind the innermost scope
abbrev pub IsPath : Option (Innermost × Bor Scopes) → List (Option (Bor Scopes)) → Type 0
IsPath scopes nearest = Nearest standard_path (behind scopes) 64 (length (path_of scopes)) nearest
