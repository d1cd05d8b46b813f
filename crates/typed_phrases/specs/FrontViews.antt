-- What stands before a list, as the rules see it.
use Rattle.std.specs.Prelude.{ℕ, List}
use Rattle.std.specs.Option.{option_map}
use Rattle.declared_names.specs.KnownView.{entry_of}
use Rattle.typing_rules.specs.View as view
use Rattle.typed_phrases.specs.Fronts.{Front, a_name, complete}
use Rattle.typed_phrases.specs.declared.designators.Front as code
use Rattle.typed_phrases.specs.declared.designators.Front.TheVariants as front

-- the name itself is not looked at
abbrev pub front_view : List ℕ → code.Front → Front
front_view x (front.Name p known) = a_name p (option_map (entry_of x) known)
front_view x (front.Complete v) = complete (view.verdict v)
