-- Scopes with what their names mean, as the rules see them.
use Rattle.std.specs.Prelude.{ℕ, List, [], ◌∷◌, Some, None, true, false}
use Rattle.std.specs.Option.{option_map}
use Rattle.algolw_tree.specs.Tree.{Placed}
use Rattle.algolw_typing.specs.Names as names
use Rattle.algolw_typing.specs.Scopes as rules
use Rattle.typing_rules.specs.MeaningView.{reading, meaning}
use Rattle.declared_names.specs.declared.known.Known.{Known}
use Rattle.declared_names.specs.declared.known.Facts.{Facts}
use Rattle.declared_names.specs.declared.known.Facts.TheVariants.{Nothing, Class, Label, Declared}
use Rattle.algolw_typing.specs.Actuals as actuals
use Rattle.algolw_typing.specs.Meanings as meanings

abbrev pub known_view : Known → rules.Known
known_view k = record { is_class = k.is_class; reading = reading k.reading; means = option_map meaning k.means }

-- a declaration of a name
abbrev pub entry_of : List ℕ → Known → names.Entry rules.Known
entry_of x k = record { name = x; place = k.place; is = known_view k }

-- what is known of names that are declared alike
abbrev pub facts_view : Facts → rules.Known
facts_view Nothing = record { is_class = false; reading = actuals.as_phrases; means = None }
facts_view Class = record { is_class = true; reading = actuals.as_phrases; means = None }
facts_view Label = record { is_class = false; reading = actuals.as_phrases; means = Some meanings.a_label }
facts_view (Declared d) = record { is_class = d.now.is_class; reading = reading d.now.reading; means = option_map meaning d.now.means }

-- a declaration of a name at a place
abbrev pub entry_with : Placed → rules.Known → names.Entry rules.Known
entry_with x k = record { name = x.0; place = x.1; is = k }

-- names that are declared alike
abbrev pub alike : List Placed → rules.Known → List (names.Entry rules.Known)
alike [] k = []
alike (x ∷ xs) k = entry_with x k ∷ alike xs k

-- the entries that names and what is known of them are, one by one
abbrev pub entries_of : List Placed → List Facts → List (names.Entry rules.Known)
entries_of [] fs = []
entries_of (x ∷ xs) [] = []
entries_of (x ∷ xs) (f ∷ fs) = entry_with x (facts_view f) ∷ entries_of xs fs
