-- What is declared by names, one by one.
use Rattle.std.proofs.Common.{◌≡◌, ℕ, suc, ◌+◌, ◌<◌, false, List, [], ◌∷◌, ◌++◌, Option, length, get_or, drop, map, sym, ap, ◌∙◌, refl, drop-cons, add-one}
use Rattle.algolw_tree.specs.Tree.{Placed, TypeSpec}
use Rattle.algolw_typing.specs.Meanings.{Meaning}
use Rattle.algolw_typing.specs.Names.{Scope}
use Rattle.algolw_typing.specs.Actuals.{Reading, as_phrases}
use Rattle.algolw_typing.specs.Scopes.{Known, entry, entries, formal_entries, group_names, known}
use Rattle.declared_names.specs.KnownView.{alike}

-- the next item of a list, and those behind it
pub next : {X : Type 0} (xs : List X) (i : ℕ) (x : X) → i < length xs → x ≡ get_or xs i x → drop i xs ≡ x ∷ drop (i + 1) xs
next xs i x h e = drop-cons xs i x h ∙ ap (λ y. y ∷ drop (suc i) xs) (sym e) ∙ ap (λ j. x ∷ drop j xs) (sym (add-one i))

-- formals that are read as phrases are declared as variables are
pub entries_alike : (xs : List Placed) (means : Option Meaning) → entries xs means ≡ formal_entries xs as_phrases means
entries_alike [] means = refl
entries_alike (x ∷ xs) means = ap (λ (es : Scope Known). entry x means ∷ es) (entries_alike xs means)

-- the names of two lists are declared one after the other
pub entries_append : (xs ys : List Placed) (means : Option Meaning) → entries (xs ++ ys) means ≡ entries xs means ++ entries ys means
entries_append [] ys means = refl
entries_append (x ∷ xs) ys means = ap (λ (es : Scope Known). entry x means ∷ es) (entries_append xs ys means)

-- the fields of a class, group by group
pub fields_next : {X : Type 0} (f : X → TypeSpec × List Placed) (xs : List X) (i : ℕ) (x : X) (means : Option Meaning) → i < length xs → x ≡ get_or xs i x
    → entries (group_names (map f (drop i xs))) means ≡ entries (f x).1 means ++ entries (group_names (map f (drop (i + 1) xs))) means
fields_next f xs i x means within is = ap (λ ys. entries (group_names (map f ys)) means) (next xs i x within is) ∙ entries_append (f x).1 (group_names (map f (drop (i + 1) xs))) means

-- names that are declared alike, and are no classes
pub alike_formals : (xs : List Placed) (reading : Reading) (means : Option Meaning) → alike xs (record { is_class = false; reading = reading; means = means }) ≡ formal_entries xs reading means
alike_formals [] reading means = refl
alike_formals (x ∷ xs) reading means = ap (λ (es : Scope Known). known x false reading means ∷ es) (alike_formals xs reading means)

pub alike_entries : (xs : List Placed) (means : Option Meaning) → alike xs (record { is_class = false; reading = as_phrases; means = means }) ≡ entries xs means
alike_entries [] means = refl
alike_entries (x ∷ xs) means = ap (λ (es : Scope Known). entry x means ∷ es) (alike_entries xs means)
