-- What stands before a list, and what a list makes of it.
use Rattle.std.specs.Prelude.{ℤ, List, [], ◌∷◌, ◌++◌, Option}
use Rattle.value_ops.specs.declared.places.Place.{Place}
use Rattle.value_ops.specs.declared.places.Diagnostic.{Diagnostic}
use Rattle.algolw_tree.specs.Tree as tree
use Rattle.algolw_typing.specs.Actuals.{Reading, as_phrases, Wanted}
use Rattle.algolw_typing.specs.Meanings.{Part, a_star, base_row, part_row}
use Rattle.algolw_typing.specs.Names.{Entry}
use Rattle.algolw_typing.specs.Scopes.{Known, Scopes, written}
use Rattle.algolw_typing.specs.Typed as typed
use Rattle.algolw_typing.specs.Typing.{faults, gives, onward, ListsOut, PartsOut, reading_of, use_of, use_alone, use_with_list, list_verdict, given, typed_phrase, typed_parts, first_list, more_lists}
use Rattle.algolw_typing.specs.Types.{Gives}
use Rattle.algolw_typing.specs.Verdicts.{Verdict, part}

-- a name alone, or what is complete and has this verdict
pub data Front : Type 0 where
  a_name : Place → Option (Entry Known) → Front
  complete : Verdict → Front

abbrev pub front_reading : Front → Reading
front_reading (a_name p e) = reading_of e
front_reading (complete v) = as_phrases

-- with no list behind it
abbrev pub front_alone : Front → Verdict
front_alone (a_name p e) = use_alone p e
front_alone (complete v) = v

-- with a list of these parts at a place
abbrev pub front_list : Place → Front → List Part → Verdict
front_list q (a_name p e) parts = use_with_list p e parts
front_list q (complete v) parts = list_verdict q v parts

-- as the base of a substring list whose start gives this
abbrev pub front_base : Front → Option Gives → Verdict
front_base (a_name p e) start = use_of p e (λ m d. base_row p m start)
front_base (complete v) start = v

-- with a substring list of this length at a place
abbrev pub front_part : Place → ℤ → Front → Option Gives → Verdict
front_part q n front start = onward (front_base front start) (λ base. part start (part_row q (written n) base))

-- with all lists behind it
abbrev pub front_lists : Scopes → Front → tree.Lists → ListsOut
front_lists path (a_name p e) lists = first_list path p e lists
front_lists path (complete v) lists = more_lists path v lists

-- ---- one list

pub record ListOut : Type 0 where
  pub inside : List Diagnostic
  pub verdict : Verdict
  pub listing : typed.Listing

abbrev pub list_step : Scopes → Front → tree.Listing → ListOut
list_step path front (tree.OfActuals q actuals) =
    let r = typed_parts path (front_reading front) actuals in
    record { inside = r.inside; verdict = front_list q front r.parts; listing = typed.OfActuals q r.actuals }
list_step path front (tree.OfPart q a n) =
    let o = typed_phrase path a in
    record { inside = faults o; verdict = front_part q n front (gives o); listing = typed.OfPart q o.node n }

abbrev pub list_then : ListOut → ListsOut → ListsOut
list_then l more = record { inside = l.inside ++ more.inside; verdict = more.verdict; lists = typed.list_and l.listing more.lists }

-- ---- one part of a list

pub record ActualOut : Type 0 where
  pub inside : List Diagnostic
  pub part : Part
  pub actual : typed.Actual

abbrev pub actual_step : Scopes → Wanted → tree.Actual → ActualOut
actual_step path w (tree.Star q) = record { inside = []; part = a_star; actual = typed.Star q }
actual_step path w (tree.Given a) =
    let g = given path w a (typed_phrase path a) in
    record { inside = g.inside; part = g.part; actual = typed.Given g.node }

abbrev pub actual_then : ActualOut → PartsOut → PartsOut
actual_then a more = record { inside = a.inside ++ more.inside; parts = a.part ∷ more.parts; actuals = typed.actual_and a.actual more.actuals }
