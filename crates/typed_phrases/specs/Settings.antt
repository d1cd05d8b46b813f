-- Settings: in a list of phrases, assignments to standard variables.
use Rattle.std.specs.Prelude.{Bool, true, false}
use Rattle.algolw_tree.specs.Tree as tree
use Rattle.algolw_typing.specs.Actuals.{Wanted}
use Rattle.algolw_typing.specs.Names.{declared}
use Rattle.algolw_typing.specs.Scopes.{Scopes}
use Rattle.algolw_typing.specs.Typing.{is_setting, is_width, meaning_of}

-- the name alone of a standard variable
abbrev pub names_width : Scopes → tree.Phrase → Bool
names_width path (tree.At p f (tree.Named x tree.no_lists)) = is_width (meaning_of (declared path x))
names_width path a = false

-- a phrase in a list, of which this is wanted
abbrev pub sets_width : Scopes → Wanted → tree.Phrase → Bool
sets_width path w (tree.At p f (tree.Assign a b)) = is_setting path w a b
sets_width path w a = false
