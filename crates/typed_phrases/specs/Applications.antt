-- A name with one list of subscripts, fields or actuals behind it.
use Rattle.std.specs.Prelude.{◌≡◌, ℕ, Bool, true, false, List, Option, Some, None, map}
use Rattle.std.specs.Option.{option_map}
use Rattle.algolw_tree.specs.Grammar.{actuals_of}
use Rattle.algolw_tree.specs.Tree as tree
use Rattle.algolw_tree.specs.View.{actual_tree}
use Rattle.algolw_typing.specs.Names.{declared}
use Rattle.algolw_typing.specs.Scopes.{Scopes}
use Rattle.declared_names.specs.KnownView.{entry_of}
use Rattle.typed_phrases.specs.declared.actuals.Application.{Application}

abbrev pub is_application : tree.Kind → Bool
is_application (tree.Named x (tree.list_and (tree.OfActuals q _) tree.no_lists)) = true
is_application k = false

-- a phrase of this kind is that name with that list
pub record Applies (path : Scopes) (k : tree.Kind) (a : Application) : Type 0 where
  pub name : List ℕ
  pub kind : k ≡ tree.Named name (tree.list_and (tree.OfActuals a.place (actuals_of (map actual_tree a.actuals.now))) tree.no_lists)
  pub target : option_map (entry_of name) a.target ≡ declared path name

-- where it is one
abbrev pub IsApplication : Scopes → tree.Kind → Option Application → Type 0
IsApplication path k None = is_application k ≡ false
IsApplication path k (Some a) = Applies path k a
