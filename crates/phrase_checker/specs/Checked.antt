-- What checking a part of a program finds, and which faults it adds.
use Rattle.std.specs.Prelude.{◌≡◌, Bool, List, [], ◌∷◌, ◌++◌, map, Option, Some, None}
use Rattle.std.specs.Option.{option_map}
use Rattle.value_ops.specs.declared.places.Diagnostic.{Diagnostic}
use Rattle.value_ops.specs.declared.places.Place.{Place}
use Rattle.algolw_tree.specs.Tree as tree
use Rattle.algolw_typing.specs.Actuals.{Wanted}
use Rattle.algolw_typing.specs.Meanings.{Part}
use Rattle.algolw_typing.specs.Rows.{bound_row, item_row}
use Rattle.algolw_typing.specs.Scopes.{Scopes}
use Rattle.algolw_typing.specs.Typed as typed
use Rattle.algolw_typing.specs.Types.{Gives}
use Rattle.algolw_typing.specs.Typing.{Out, faults, gives, PhrasesOut, LinksOut, PartsOut, BoundsOut, DeclsOut, ItemsOut, first_token, given, has_labels, parts_of_kind, right_end, typed_phrase, uncounted}
use Rattle.algolw_typing.specs.Verdicts.{Verdict, fault_of, part as with_part, two_parts}
use Rattle.typing_rules.specs.View as view
use Rattle.typed_findings.specs.Findings.{Found, finding_view, found_of, found_of_kind, found_of_nodes, found_of_links, found_of_lists, found_of_actuals, found_of_bounds, found_of_decls, found_of_items, own_finding}
use Rattle.typed_findings.specs.declared.findings.Log.{Log}
use Rattle.typed_phrases.specs.Cases.{together}
use Rattle.typed_phrases.specs.FoundParts.{AreGiven}
use Rattle.typed_phrases.specs.Fronts.{ActualOut, ListOut}
use Rattle.typed_phrases.specs.Readings.{Reads, plain}
use Rattle.typed_phrases.specs.declared.actuals.Given.{Given}
use Rattle.typed_phrases.specs.declared.statements.Range.{Range}

-- these faults are added, and this is found
pub record Adds (old new : Log) (ds : List Diagnostic) (xs : List Found) : Type 0 where
  pub faults : new.faults.items ≡ old.faults.items ++ ds
  pub findings : map finding_view new.findings.items ≡ map finding_view old.findings.items ++ xs

-- what is found of a phrase itself, by its verdict: nothing where it is empty
abbrev pub found_itself : tree.Phrase → Verdict → List Found
found_itself (tree.At p f tree.Empty) v = []
found_itself (tree.At p f k) v = own_finding f v ∷ []

-- what is inside a phrase is added
pub record Checked (old new : Log) (v : Verdict) (o : Out) : Type 0 where
  pub added : Adds old new o.inside (found_of_kind (typed.kind o.node))
  pub verdict : v ≡ o.verdict

-- and what is found of it itself
pub record Noted (old new : Log) (v : Verdict) (o : Out) : Type 0 where
  pub added : Adds old new (faults o) (found_of o.node)
  pub verdict : v ≡ o.verdict

-- two phrases, the one behind the other
pub record PairChecked (path : Scopes) (old new : Log) (v w : Verdict) (a b : tree.Phrase) : Type 0 where
  pub between : Log
  pub first : Noted old between v (typed_phrase path a)
  pub second : Noted between new w (typed_phrase path b)

-- an assignment, and what the value at its right end gives
pub record AssignmentChecked (old new : Log) (v : Verdict) (g : Option Gives) (o : Out) : Type 0 where
  pub checked : Checked old new v o
  pub last : g ≡ right_end o.node

-- the value of an assignment
pub record ValueChecked (old new : Log) (v : Verdict) (g : Option Gives) (o : Out) : Type 0 where
  pub added : Adds old new (faults o) (found_of (uncounted o.node))
  pub verdict : v ≡ o.verdict
  pub last : g ≡ right_end o.node

-- the step of a FOR, where there is one
abbrev pub StepChecked : Scopes → Log → Log → Option Verdict → tree.Perhaps → Type 0
StepChecked path old new None tree.Missing = Adds old new [] []
StepChecked path old new (Some v) (tree.There a) = Noted old new v (typed_phrase path a)
StepChecked path old new v step = ⊥

-- the range of a FOR, part by part
pub record RangeChecked (path : Scopes) (old new : Log) (r : Range) (a : tree.Phrase) (s : tree.Perhaps) (b : tree.Phrase) : Type 0 where
  pub behind_start : Log
  pub behind_step : Log
  pub start : Noted old behind_start (view.verdict r.start) (typed_phrase path a)
  pub step : StepChecked path behind_start behind_step (option_map view.verdict r.step) s
  pub limit : Noted behind_step new (view.verdict r.limit) (typed_phrase path b)

-- phrases, of which each gives this where it has a type
pub record PhrasesChecked (old new : Log) (all : Option (List Gives)) (o : PhrasesOut) : Type 0 where
  pub added : Adds old new o.inside (found_of_nodes o.nodes)
  pub gives : AreGiven all o.gives

-- the statements of a CASE, which give this together
pub record CasesChecked (old new : Log) (all : Option Gives) (o : PhrasesOut) : Type 0 where
  pub added : Adds old new o.inside (found_of_nodes o.nodes)
  pub gives : all ≡ together o.gives

pub record LinksChecked (old new : Log) (v : Verdict) (o : LinksOut) : Type 0 where
  pub added : Adds old new o.inside (found_of_links o.links)
  pub verdict : v ≡ o.verdict

-- one of the lists behind a name
pub record ListChecked (old new : Log) (v : Verdict) (o : ListOut) : Type 0 where
  pub added : Adds old new o.inside (found_of_lists (typed.list_and o.listing typed.no_lists))
  pub verdict : v ≡ o.verdict

-- a name with one list, of which the parts are read so
pub record ApplicationChecked (old new : Log) (v : Verdict) (ps : List Part) (o : Out) : Type 0 where
  pub checked : Checked old new v o
  pub plain_parts : map plain ps ≡ parts_of_kind (typed.kind o.node)

-- a phrase in a list, which is read so: what is inside it is added
pub record GivenChecked (path : Scopes) (old new : Log) (g : Given) (w : Wanted) (a : tree.Phrase) : Type 0 where
  pub added : Adds old new (typed_phrase path a).inside (found_of_kind (typed.kind (typed_phrase path a).node))
  pub reads : Reads g (typed_phrase path a) (given path w a (typed_phrase path a))

-- one part of a list, and all of them
pub record ActualChecked (old new : Log) (p : Part) (o : ActualOut) : Type 0 where
  pub added : Adds old new o.inside (found_of_actuals (typed.actual_and o.actual typed.no_actuals))
  pub part : p ≡ o.part

pub record PartsChecked (old new : Log) (ps : List Part) (o : PartsOut) : Type 0 where
  pub added : Adds old new o.inside (found_of_actuals o.actuals)
  pub parts : ps ≡ o.parts

-- bounds, of one dimension and of all
abbrev pub BoundChecked : Log → Log → Place → (lower upper : Out) → Type 0
BoundChecked old new p lower upper = Adds old new (faults lower ++ faults upper ++ fault_of (two_parts (gives lower) (gives upper) (bound_row p))) (found_of lower.node ++ found_of upper.node)

abbrev pub BoundsChecked : Log → Log → BoundsOut → Type 0
BoundsChecked old new o = Adds old new o.inside (found_of_bounds o.bounds)

-- declarations
abbrev pub DeclsChecked : Log → Log → DeclsOut → Type 0
DeclsChecked old new o = Adds old new o.inside (found_of_decls o.decls)

-- the verdict of an item, which is the last or not, by what is found of its phrase
abbrev pub end_of : (is_last is_labelled : Bool) → Place → Out → Verdict
end_of is_last is_labelled first o = with_part (gives o) (item_row is_last is_labelled first)

-- the phrase of an item, and the verdict of the item, whose fault is added too
pub record EndChecked (old new : Log) (v : Verdict) (is_last is_labelled : Bool) (first : Place) (o : Out) : Type 0 where
  pub added : Adds old new (faults o ++ fault_of v) (found_of o.node)
  pub verdict : v ≡ end_of is_last is_labelled first o

-- an item, and all items
abbrev pub ItemChecked : Scopes → (is_last : Bool) → Log → Log → Verdict → tree.Item → Type 0
ItemChecked path is_last old new v (tree.Labelled labels a) = EndChecked old new v is_last (has_labels labels) (first_token a) (typed_phrase path a)

pub record ItemsChecked (old new : Log) (v : Verdict) (o : ItemsOut) : Type 0 where
  pub added : Adds old new o.inside (found_of_items o.items)
  pub verdict : v ≡ o.verdict
