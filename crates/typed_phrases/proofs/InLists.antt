-- How a name with lists behind it is read in a list, and at the left of an assignment.
use Rattle.std.proofs.Common.{◌≡◌, ℕ, ◌<◌, false, List, [], ◌∷◌, length, map, refl, sym, ap, ◌∙◌, arith}
use Rattle.value_ops.specs.declared.places.Place.{Place}
use Rattle.algolw_tree.specs.declared.phrases.List as list
use Rattle.algolw_tree.specs.declared.phrases.Listed.{Listed, out-Listed}
use Rattle.algolw_tree.specs.Grammar.{lists_of}
use Rattle.algolw_tree.specs.Tree as tree
use Rattle.algolw_tree.specs.View.{list_tree, listed_tree}
use Rattle.algolw_typing.specs.Actuals.{Wanted}
use Rattle.algolw_typing.specs.Names.{declared}
use Rattle.algolw_typing.specs.Scopes.{Scopes}
use Rattle.algolw_typing.specs.Typing.{Out, given, meaning_of, name_given, phrase_given, variable_name, left_of, left_name}
use Rattle.typed_phrases.specs.Applications.{is_application}
use Rattle.algolw_tree.proofs.Rows.{listed_is}

at_listed : (path : Scopes) (w : Wanted) (p f : Place) (l : Listed) (o : Out) → given path w (tree.At p f (listed_tree l)) o ≡ given path w (tree.At p f (tree.Named (out-Listed l).name (lists_of (map list_tree (out-Listed l).lists.items)))) o
at_listed path w p f l o = ap (λ (z : tree.Kind). given path w (tree.At p f z) o) (listed_is l)

by_name : (path : Scopes) (w : Wanted) (p f : Place) (x : List ℕ) (xs : List list.List) (o : Out) → length xs ≡ 0 → given path w (tree.At p f (tree.Named x (lists_of (map list_tree xs)))) o ≡ name_given w (meaning_of (declared path x)) o
by_name path w p f x [] o h = refl
by_name path w p f x (y ∷ ys) o h = absurd (omega (arith, h))

-- a name alone
pub read_name : (path : Scopes) (w : Wanted) (p f : Place) (l : Listed) (o : Out) → length (out-Listed l).lists.items ≡ 0 → given path w (tree.At p f (listed_tree l)) o ≡ name_given w (meaning_of (declared path (out-Listed l).name)) o
read_name path w p f l o h = at_listed path w p f l o ∙ by_name path w p f (out-Listed l).name (out-Listed l).lists.items o h

more_at : (path : Scopes) (w : Wanted) (p f : Place) (x : List ℕ) (l : tree.Listing) (lists : tree.Lists) (o : Out) → is_application (tree.Named x (tree.list_and l lists)) ≡ false
    → given path w (tree.At p f (tree.Named x (tree.list_and l lists))) o ≡ phrase_given (variable_name (meaning_of (declared path x))) o
more_at path w p f x (tree.OfActuals q _) tree.no_lists o h = cc
more_at path w p f x (tree.OfPart q a n) tree.no_lists o h = refl
more_at path w p f x (tree.OfActuals q _) (tree.list_and m lists) o h = refl
more_at path w p f x (tree.OfPart q a n) (tree.list_and m lists) o h = refl

by_more : (path : Scopes) (w : Wanted) (p f : Place) (x : List ℕ) (xs : List list.List) (o : Out) → 0 < length xs → is_application (tree.Named x (lists_of (map list_tree xs))) ≡ false
    → given path w (tree.At p f (tree.Named x (lists_of (map list_tree xs)))) o ≡ phrase_given (variable_name (meaning_of (declared path x))) o
by_more path w p f x [] o some h = absurd (omega (arith, some))
by_more path w p f x (y ∷ ys) o some h = more_at path w p f x (list_tree y) (lists_of (map list_tree ys)) o h

-- with a substring list, or with more lists
pub read_more : (path : Scopes) (w : Wanted) (p f : Place) (l : Listed) (o : Out) → 0 < length (out-Listed l).lists.items → is_application (listed_tree l) ≡ false
    → given path w (tree.At p f (listed_tree l)) o ≡ phrase_given (variable_name (meaning_of (declared path (out-Listed l).name))) o
read_more path w p f l o some h =
    at_listed path w p f l o ∙ by_more path w p f (out-Listed l).name (out-Listed l).lists.items o some (ap is_application (sym (listed_is l)) ∙ h)

-- at the left of an assignment
pub left_listed : (path : Scopes) (p f : Place) (l : Listed) → left_of path (tree.At p f (listed_tree l)) ≡ left_name (meaning_of (declared path (out-Listed l).name))
left_listed path p f l = ap (λ (z : tree.Kind). left_of path (tree.At p f z)) (listed_is l)
