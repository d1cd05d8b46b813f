-- A phrase in a list, as it is read there, by what was found of it as a phrase.
use Rattle.std.specs.Prelude.{◌≡◌, ◌++◌, false, List, Option, map}
use Rattle.value_ops.specs.declared.places.Place.{Place}
use Rattle.algolw_typing.specs.Meanings.{Part, a_star, a_phrase, a_setting, typeless}
use Rattle.algolw_typing.specs.Names.{Entry}
use Rattle.algolw_typing.specs.Scopes.{Known}
use Rattle.algolw_typing.specs.Typed as typed
use Rattle.algolw_typing.specs.Typing.{Out, PartOut, ListsOut, counted, named_out, parts_of_lists}
use Rattle.algolw_typing.specs.Types.{Statement}
use Rattle.algolw_typing.specs.Verdicts.{Verdict, Good, Silent, fault_of, type_of}
use Rattle.typing_rules.specs.MeaningView as meaning_view
use Rattle.typing_rules.specs.View as view
use Rattle.typed_phrases.specs.declared.actuals.Given.{Given}

-- what a part is read as where it isn't asked whether it is a variable: what isn't read as a phrase has no type, and a
-- setting is a statement
abbrev pub plain : Part → Part
plain a_star = a_star
plain (a_phrase v g) = a_phrase false g
plain a_setting = a_phrase false Statement
plain part = typeless

abbrev pub without_type : Verdict → Verdict
without_type (Good g) = Silent
without_type v = v

-- the node of a phrase that has this verdict instead; an empty one has always the same
abbrev pub with_verdict : Verdict → typed.Node → typed.Node
with_verdict v (typed.At p f g s typed.Empty) = typed.At p f g s typed.Empty
with_verdict v (typed.At p f g s k) = typed.At p f (type_of v) (counted f v) k

-- With its verdict there, and as this part, a phrase is read as the rules say.
pub record Reads (g : Given) (o : Out) (r : PartOut) : Type 0 where
  pub faults : r.inside ≡ o.inside ++ fault_of (view.verdict g.verdict)
  pub part : r.part ≡ meaning_view.part g.part
  pub node : r.node ≡ with_verdict (view.verdict g.verdict) o.node

-- so each name is read that has this verdict with the lists behind it
abbrev pub NameReads : Verdict → Given → (Out → PartOut) → Type 0
NameReads v g read = (p f : Place) (e : Option (Entry Known)) (lists : ListsOut) → lists.verdict ≡ v → Reads g (named_out p f e lists) (read (named_out p f e lists))

-- and so each whose first list has these parts
abbrev pub ListReads : Verdict → List Part → Given → (Out → PartOut) → Type 0
ListReads v parts g read =
    (p f : Place) (e : Option (Entry Known)) (lists : ListsOut) → lists.verdict ≡ v → map plain parts ≡ parts_of_lists lists.lists → Reads g (named_out p f e lists) (read (named_out p f e lists))
