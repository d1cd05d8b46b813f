-- The set of the classes that names mean.
use Rattle.std.proofs.Common.{◌≡◌, ℕ, ◌≤◌, List, [], ◌∷◌, ◌++◌, length, drop, Option, Some, None, refl, sym, ap, ◌∙◌, append-nil}
use Rattle.std.proofs.Math.ListN.{drop_of_length-le}
use Rattle.algolw_tree.specs.Tree.{Placed}
use Rattle.algolw_typing.specs.Names.{Entry, Path, declared}
use Rattle.algolw_typing.specs.Scopes.{with_declared, class_set}
use Rattle.algolw_typing.specs.Types.{union}
use Rattle.value_ops.specs.declared.places.Place.{Place}

-- a class more, where a name means one
abbrev pub and_declared : {A : Type 0} → Option (Entry A) → List Place → List Place
and_declared None classes = classes
and_declared (Some e) classes = e.place ∷ classes

-- the classes that names mean along a path
abbrev pub declared_classes : {A : Type 0} → Path A → List Placed → List Place
declared_classes path [] = []
declared_classes path (x ∷ xs) = and_declared (declared path x.0) (declared_classes path xs)

with_more : {A : Type 0} (o : Option (Entry A)) (classes : List Place) → union (and_declared o classes) [] ≡ with_declared o (union classes [])
with_more None classes = refl
with_more (Some e) classes = refl

class_set_is : {A : Type 0} (path : Path A) (xs : List Placed) → union (declared_classes path xs) [] ≡ class_set path xs
class_set_is path [] = refl
class_set_is path (x ∷ xs) = with_more (declared path x.0) (declared_classes path xs) ∙ ap (with_declared (declared path x.0)) (class_set_is path xs)

-- the classes found for all names are the set of them
pub all_found : {A : Type 0} (path : Path A) (xs : List Placed) (i : ℕ) (classes : List Place) → length xs ≤ i → classes ++ declared_classes path (drop i xs) ≡ declared_classes path xs → union classes [] ≡ class_set path xs
all_found path xs i classes past found =
    let none : classes ++ declared_classes path (drop i xs) ≡ classes = ap (λ ys. classes ++ declared_classes path ys) (drop_of_length-le xs past) ∙ append-nil classes in
    ap (λ set. union set []) (sym none ∙ found) ∙ class_set_is path xs
