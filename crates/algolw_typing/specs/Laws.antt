-- What the rules of names keep.
use Rattle.std.specs.Prelude.{◌≡◌, ℕ, ℤ, List, [], ◌∷◌, Option, Some, None}
use Rattle.std.specs.List.Sorted.{IsPermutation, IsSorted}
use Rattle.std.specs.Ordering.{ordering_then, nat_cmp}
use Rattle.std.specs.declared.cmp.Ordering.{Ordering}
use Rattle.value_ops.specs.declared.places.Place.{Place}
use Rattle.value_ops.specs.declared.places.Diagnostic.{Diagnostic}
use Rattle.algolw_tree.specs.Tree.{Phrase, At, Named, Lists, no_lists, list_and, OfActuals, OfPart, Actuals}
use Rattle.algolw_typing.specs.Names.{Entry, Declares, declared}
use Rattle.algolw_typing.specs.Types.{ValueType, Gives, Simple, Reference}
use Rattle.algolw_typing.specs.Meanings.{Meaning, an_array, a_class, a_label}
use Rattle.algolw_typing.specs.Scopes.{Known, Scopes}
use Rattle.algolw_typing.specs.Typing.{gives, typed_phrase}
use Rattle.algolw_typing.specs.Faults.{typed_program, faults_found, program_faults}

-- The function gives exactly the declaration of the relation, and so there is at most one along a path.
pub record OneDeclaration : Type 0 where
  pub found : (path : Scopes) (x : List ℕ) (e : Entry Known) → declared path x ≡ Some e → Declares x e path
  pub gives : (path : Scopes) (x : List ℕ) (e : Entry Known) → Declares x e path → declared path x ≡ Some e
  pub one : (path : Scopes) (x : List ℕ) (e f : Entry Known) → Declares x e path → Declares x f path → e ≡ f

-- the order of places, and that of diagnostics: by place, and at one place by number
abbrev pub place_cmp : Place → Place → Ordering
place_cmp p q = ordering_then (nat_cmp p.card q.card) (nat_cmp p.column q.column)

abbrev pub diagnostic_cmp : Diagnostic → Diagnostic → Ordering
diagnostic_cmp d e = ordering_then (place_cmp d.place e.place) (nat_cmp d.number e.number)

-- The faults of a program are those that were found, each as often, in order.
pub record FaultsInOrder : Type 0 where
  pub same : (x : Phrase) → IsPermutation (faults_found x (typed_program x)) (program_faults x)
  pub sorted : (x : Phrase) → IsSorted diagnostic_cmp (program_faults x)

-- What a name gives, with the lists behind it, in the scopes of a path.
abbrev pub name_gives : Scopes → Place → Place → List ℕ → Lists → Option Gives
name_gives path p f x lists = gives (typed_phrase path (At p f (Named x lists)))

-- x means this along the path
abbrev pub Means : Scopes → List ℕ → Entry Known → Meaning → Type 0
Means path x e m = (declared path x ≡ Some e) × (e.is.means ≡ Some m)

-- A label has no type, whatever stands behind it; an array has none without its subscripts; a class has, alone or with its fields, that of a reference to it.
pub record NoValues : Type 0 where
  pub label : (path : Scopes) (p f : Place) (x : List ℕ) (lists : Lists) (e : Entry Known) → Means path x e a_label → name_gives path p f x lists ≡ None
  pub array : (path : Scopes) (p f : Place) (x : List ℕ) (e : Entry Known) (t : ValueType) (n : ℕ) → Means path x e (an_array t n) → name_gives path p f x no_lists ≡ None
  pub part_of_array : (path : Scopes) (p f q : Place) (x : List ℕ) (start : Phrase) (length : ℤ) (lists : Lists) (e : Entry Known) (t : ValueType) (n : ℕ) → Means path x e (an_array t n) → name_gives path p f x (list_and (OfPart q start length) lists) ≡ None
  pub class : (path : Scopes) (p f : Place) (x : List ℕ) (e : Entry Known) (fields : List ValueType) → Means path x e (a_class fields) → name_gives path p f x no_lists ≡ Some (Simple (Reference (e.place ∷ [])))
  pub record_made : (path : Scopes) (p f q : Place) (x : List ℕ) (values : Actuals) (g : Gives) (e : Entry Known) (fields : List ValueType) → Means path x e (a_class fields) → name_gives path p f x (list_and (OfActuals q values) no_lists) ≡ Some g → g ≡ Simple (Reference (e.place ∷ []))
