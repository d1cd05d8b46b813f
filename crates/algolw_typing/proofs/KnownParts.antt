-- Names with their lists, actuals, items, bounds and declarations are known where the phrases in them are.
use Rattle.std.proofs.Common.{ℕ, ℤ, List, ◌++◌, Option, Some, None, Bool, true, false}
use Rattle.std.specs.Prelude.{⊤}
use Rattle.value_ops.specs.declared.places.Place.{Place}
use Rattle.value_ops.specs.declared.places.Diagnostic.{Diagnostic}
use Rattle.algolw_tree.specs.Tree as tree
use Rattle.algolw_typing.specs.Names.{Entry, declared}
use Rattle.algolw_typing.specs.Types.{ValueType}
use Rattle.algolw_typing.specs.Verdicts.{Verdict, fault_of, part}
use Rattle.algolw_typing.specs.Meanings.{Meaning, an_array, Part, a_phrase, typeless}
use Rattle.algolw_typing.specs.Actuals.{Wanted, name_read, is_subarray, subarray_row}
use Rattle.algolw_typing.specs.Scopes.{Known, Scopes}
use Rattle.algolw_typing.specs.Typed as typed
use Rattle.algolw_typing.specs.Typing.{Out, faults, meaning_of, target, ListsOut, listed, PartsOut, no_parts, star_and, PartOut, given_and, list_out, part_out, named_out, phrase_given, read_as, name_given, parts_of_kind, subarray_given, array_given, list_given, given, is_setting, setting_given, variable_name}
use Rattle.algolw_typing.specs.Naming.{Naming, and, nothing}
use Rattle.algolw_typing.specs.Known.{Knows, KnowsKind, KnowsLists, KnowsActuals}
use Rattle.algolw_typing.proofs.GoodScopes.{NoFaults, none_first, none_second, none_two}
use Rattle.algolw_typing.proofs.KnownTypes.{Tells}
use Rattle.algolw_typing.proofs.KnownNames.{FoundIs}
use Rattle.algolw_typing.proofs.KnownScopes.{IsHad}
use Rattle.algolw_typing.proofs.KnownOuts.{Sound, Fine, both, made, uncounted_known}

-- ---- a name and the lists behind it

pub record FineLists (names classes : List Place) (l : ListsOut) (n : Naming) : Type 0 where
  pub told : Tells classes l.verdict
  pub sound : NoFaults l.inside → Sound classes (KnowsLists names classes l.lists) n

pub listed_fine : {names classes : List Place} (v : Verdict) → Tells classes v → FineLists names classes (listed v) nothing
listed_fine v t = record { told = t; sound = λ h. record { tree = tt; fields = tt } }

pub record FineParts (names classes : List Place) (ps : PartsOut) (n : Naming) : Type 0 where
  pub sound : NoFaults ps.inside → Sound classes (KnowsActuals names classes ps.actuals) n

pub list_fine : {names classes : List Place} (q : Place) (ps : PartsOut) (more : ListsOut) (m n : Naming) → FineParts names classes ps m → FineLists names classes more n → FineLists names classes (list_out q ps more) (and m n)
list_fine q ps more m n i j = record { told = j.told; sound = λ h. let none = none_two ps.inside more.inside h in both m n (i.sound none.0) (j.sound none.1) }

pub part_fine : {names classes : List Place} (q : Place) (n : ℤ) (a : Out) (more : ListsOut) (m o : Naming) → Fine names classes a m → FineLists names classes more o → FineLists names classes (part_out q n a more) (and m o)
part_fine q n a more m o i j = record { told = j.told; sound = λ h. let none = none_two (faults a) more.inside h in both m o (i.sound none.0) (j.sound none.1) }

-- a name that is found stands for its declaration
abbrev pub IfFound : Option (Entry Known) → Type 0 → Type 0
IfFound None K = ⊤
IfFound (Some e) K = K

-- one that isn't is at fault
abbrev pub IfLost : Option (Entry Known) → Verdict → Type 0
IfLost None v = NoFaults (fault_of v) → ⊥
IfLost (Some e) v = ⊤

pub named_sound : {names classes : List Place} (e : Option (Entry Known)) (l : ListsOut) (n : Naming) → FoundIs (IsHad names) e → FineLists names classes l n → NoFaults l.inside
    → IfFound e (Sound classes (KnowsKind names classes (typed.Named (target e) l.lists)) n)
named_sound None l n k i h = tt
named_sound (Some e) l n k i h = let s = i.sound h in record { tree = (k, s.tree); fields = s.fields }

pub named_fine : {names classes : List Place} (p f : Place) (e : Option (Entry Known)) (l : ListsOut) (n : Naming) → FoundIs (IsHad names) e → IfLost e l.verdict → FineLists names classes l n
    → Fine names classes (named_out p f e l) n
named_fine p f None l n k lost i = record { told = i.told; sound = λ h. absurd (lost (none_second l.inside (fault_of l.verdict) h)) }
named_fine p f (Some e) l n k lost i = made l.inside p f l.verdict (typed.Named e.place l.lists) n i.told (named_sound (Some e) l n k i)

-- ---- actuals

pub record FineGiven (names classes : List Place) (g : PartOut) (n : Naming) : Type 0 where
  pub sound : NoFaults g.inside → Sound classes (Knows names classes g.node) n

pub no_parts_fine : {names classes : List Place} → FineParts names classes no_parts nothing
no_parts_fine = record { sound = λ h. record { tree = tt; fields = tt } }

pub star_fine : {names classes : List Place} (q : Place) (more : PartsOut) (n : Naming) → FineParts names classes more n → FineParts names classes (star_and q more) n
star_fine q more n i = record { sound = λ h. let s = i.sound h in record { tree = s.tree; fields = s.fields } }

pub given_fine : {names classes : List Place} (g : PartOut) (more : PartsOut) (m n : Naming) → FineGiven names classes g m → FineParts names classes more n → FineParts names classes (given_and g more) (and m n)
given_fine g more m n i j = record { sound = λ h. let none = none_two g.inside more.inside h in both m n (i.sound none.0) (j.sound none.1) }

-- what is known of a name with its lists, whatever verdict it has
abbrev pub Inner : (names classes : List Place) → Out → Naming → Type 0
Inner names classes o n = NoFaults o.inside → Sound classes (KnowsKind names classes (typed.kind o.node)) n

phrase_given_fine : {names classes : List Place} (v : Bool) (o : Out) (n : Naming) → Fine names classes o n → FineGiven names classes (phrase_given v o) n
phrase_given_fine v o n i = record { sound = i.sound }

setting_given_fine : {names classes : List Place} (o : Out) (n : Naming) → Fine names classes o n → FineGiven names classes (setting_given o) n
setting_given_fine {names = names} {classes = classes} o n i = record { sound = λ h. let s = i.sound h in record { tree = uncounted_known names classes o.node s.tree; fields = s.fields } }

untyped_known : (names classes : List Place) (n : typed.Node) → KnowsKind names classes (typed.kind n) → Knows names classes (typed.untyped n)
untyped_known names classes (typed.At p f g s k) h = (tt, h)

-- a name that stands for an array or a procedure, or may
stands_fine : {names classes : List Place} (inside : List Diagnostic) (part : Part) (o : Out) (n : Naming) → (NoFaults inside → NoFaults o.inside) → Inner names classes o n → FineGiven names classes (record { inside = inside; part = part; node = typed.untyped o.node }) n
stands_fine {names = names} {classes = classes} inside part o n e i = record { sound = λ h. let s = i (e h) in record { tree = untyped_known names classes o.node s.tree; fields = s.fields } }

read_fine : {names classes : List Place} (part : Part) (o : Out) (n : Naming) → Fine names classes o n → Inner names classes o n → FineGiven names classes (read_as part o) n
read_fine (a_phrase v g) o n i j = record { sound = i.sound }
read_fine typeless o n i j = record { sound = i.sound }
read_fine part o n i j = stands_fine o.inside _ o n (λ h. h) j

either_given : {names classes : List Place} (b : Bool) (g h : PartOut) (n : Naming) → FineGiven names classes g n → FineGiven names classes h n → FineGiven names classes (elim b [ true ↦ g | false ↦ h ]) n
either_given true g h n i j = i
either_given false g h n i j = j

array_fine : {names classes : List Place} (p : Place) (w : Wanted) (t : ValueType) (m : ℕ) (parts : List Part) (o : Out) (n : Naming) → Fine names classes o n → Inner names classes o n → FineGiven names classes (array_given p w t m parts o) n
array_fine p w t m parts o n i j =
    let v = subarray_row p m parts in
    either_given (is_subarray w parts) (subarray_given w t parts v o) (phrase_given true o) n (stands_fine (o.inside ++ fault_of v) _ o n (none_first o.inside (fault_of v)) j) (phrase_given_fine true o n i)

name_case : {names classes : List Place} (w : Wanted) (m : Option Meaning) (o : Out) (n : Naming) → Fine names classes o n → Inner names classes o n → FineGiven names classes (name_given w m o) n
name_case w None o n i j = phrase_given_fine false o n i
name_case w (Some m) o n i j = read_fine (name_read w m o.verdict) o n i j

list_case : {names classes : List Place} (p : Place) (w : Wanted) (m : Option Meaning) (o : Out) (n : Naming) → Fine names classes o n → Inner names classes o n → FineGiven names classes (list_given p w m o) n
list_case p w (Some (an_array t k)) o n i j = array_fine p w t k (parts_of_kind (typed.kind o.node)) o n i j
list_case p w m o n i j = phrase_given_fine (variable_name m) o n i

-- what is known of a name that is found
abbrev pub InnerFound : (names classes : List Place) → Option (Entry Known) → Out → Naming → Type 0
InnerFound names classes e o n = NoFaults o.inside → IfFound e (Sound classes (KnowsKind names classes (typed.kind o.node)) n)

name_given_fine : {names classes : List Place} (w : Wanted) (e : Option (Entry Known)) (o : Out) (n : Naming) → Fine names classes o n → InnerFound names classes e o n → FineGiven names classes (name_given w (meaning_of e) o) n
name_given_fine w None o n i j = phrase_given_fine false o n i
name_given_fine w (Some e) o n i j = name_case w e.is.means o n i j

list_given_fine : {names classes : List Place} (p : Place) (w : Wanted) (e : Option (Entry Known)) (o : Out) (n : Naming) → Fine names classes o n → InnerFound names classes e o n → FineGiven names classes (list_given p w (meaning_of e) o) n
list_given_fine p w None o n i j = phrase_given_fine false o n i
list_given_fine p w (Some e) o n i j = list_case p w e.is.means o n i j

-- what is shown of a phrase in a list: more of a name
abbrev pub InnerOf : (names classes : List Place) → Scopes → tree.Phrase → Out → Naming → Type 0
InnerOf names classes path (tree.At p f (tree.Named x lists)) o n = InnerFound names classes (declared path x) o n
InnerOf names classes path a o n = ⊤

pub actual_fine : {names classes : List Place} (path : Scopes) (w : Wanted) (a : tree.Phrase) (o : Out) (n : Naming) → Fine names classes o n → InnerOf names classes path a o n → FineGiven names classes (given path w a o) n
actual_fine path w (tree.At p f (tree.Named x tree.no_lists)) o n i j = name_given_fine w (declared path x) o n i j
actual_fine path w (tree.At p f (tree.Named x (tree.list_and (tree.OfActuals q _) tree.no_lists))) o n i j = list_given_fine p w (declared path x) o n i j
actual_fine path w (tree.At p f (tree.Named x lists)) o n i j = phrase_given_fine (variable_name (meaning_of (declared path x))) o n i
actual_fine path w (tree.At p f (tree.Assign a b)) o n i j = either_given (is_setting path w a b) (setting_given o) (phrase_given false o) n (setting_given_fine o n i) (phrase_given_fine false o n i)
actual_fine path w a o n i j = phrase_given_fine false o n i
