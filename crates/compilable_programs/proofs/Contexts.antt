-- What coding knows of names beside what they mean: both are found in the same order.
use Rattle.std.proofs.Common.{◌≡◌, ℕ, List, [], ◌∷◌, ◌++◌, refl, sym, subst, ap, ◌∙◌}
use Rattle.std.specs.Prelude.{Some, None, Bool, true, false, ⊤, ◌||◌}
use Rattle.value_ops.specs.declared.places.Place.{Place}
use Rattle.algolw_typing.specs.Types.{ValueType, is_place, has}
use Rattle.algolw_typing.specs.Meanings.{FormalType, by_name, by_value, by_result, by_value_result, for_array, for_procedure}
use Rattle.program_meaning.specs.Phrases.{Name, Formal, Items, no_items, item_and, Decls, no_decls, variables_and, arrays_and, procedure_and, places, formal_places, decl_places, label_places, block_places}
use Rattle.program_meaning.specs.Copying.{dimensions, formal_types}
use Rattle.program_soundness.specs.Kinds as kinds
use Rattle.program_soundness.specs.Kinds.{Meaning, Meant, Context, meaning_in, Table, at_control, formal_meaning, with_formals, with_labels, with_arrays, with_variables, with_decls, with_block}
use Rattle.phrase_code.specs.Sizes.{Kind, a_variable, an_array, a_procedure_formal, a_procedure, Known, kind_at, kind_of_formal, name_known, formals_known, labels_known, items_known, decls_known, block_known}

-- ---- kinds and meanings

-- a procedure's kind has its formals
abbrev pub IsOf : Meaning → Kind → Type 0
IsOf (kinds.a_procedure result types) kind = (formals : List Formal) × (kind ≡ a_procedure formals) × (formal_types formals ≡ types)
IsOf (kinds.a_procedure_formal result) kind = kind ≡ a_procedure_formal
IsOf m kind = ⊤

-- name by name
abbrev pub Alike : List Known → Context → Type 0
Alike [] [] = ⊤
Alike (k ∷ known) (b ∷ c) = (k.place ≡ b.name) × IsOf b.is k.kind × Alike known c
Alike known c = ⊥

pub record Found (known : List Known) (x : Place) (m : Meaning) : Type 0 where
  pub kind : Kind
  pub is : kind_at known x ≡ Some kind
  pub shows : IsOf m kind

some_same : {A : Type 0} {a b : A} → Some a ≡ Some b → a ≡ b
some_same {a = a} e = ap (λ o. elim o [ Some x ↦ x | None ↦ a ]) e

found_case : (t : Bool) (k : Known) (b : Meant) (known : List Known) (c : Context) (x : Place) (m : Meaning) → is_place b.name x ≡ t → k.place ≡ b.name → IsOf b.is k.kind → (meaning_in c x ≡ Some m → Found known x m)
    → (elim t [ true ↦ Some b.is | false ↦ meaning_in c x ]) ≡ Some m → Found (k ∷ known) x m
found_case true k b known c x m test same kept more e = record {
  kind = k.kind;
  is = ap (λ t. elim t [ true ↦ Some k.kind | false ↦ kind_at known x ]) (ap (λ p. is_place p x) same ∙ test);
  shows = subst (λ m. IsOf m k.kind) (some_same e) kept;
}
found_case false k b known c x m test same kept more e =
    let f = more e in
    record { kind = f.kind; is = ap (λ t. elim t [ true ↦ Some k.kind | false ↦ kind_at known x ]) (ap (λ p. is_place p x) same ∙ test) ∙ f.is; shows = f.shows }

-- what means something is known
pub found : (known : List Known) (c : Context) (x : Place) (m : Meaning) → Alike known c → meaning_in c x ≡ Some m → Found known x m
found [] [] x m h e = absurd (cc e)
found [] (b ∷ c) x m h e = absurd h
found (k ∷ known) [] x m h e = absurd h
found (k ∷ known) (b ∷ c) x m h e = found_case (is_place b.name x) k b known c x m refl h.0 h.1 (λ f. found known c x m h.2 f) e

-- ---- scopes

alike_labels : (labels : List Place) (known : List Known) (c : Context) → Alike known c → Alike (labels_known labels known) (with_labels labels c)
alike_labels [] known c h = h
alike_labels (x ∷ xs) known c h = (refl, tt, alike_labels xs known c h)

labels_two : (xs ys : List Place) (c : Context) → with_labels (xs ++ ys) c ≡ with_labels xs (with_labels ys c)
labels_two [] ys c = refl
labels_two (x ∷ xs) ys c = ap (λ d. record { name = x; is = kinds.a_label } ∷ d) (labels_two xs ys c)

alike_items : (items : Items) (known : List Known) (c : Context) → Alike known c → Alike (items_known items known) (with_labels (label_places items) c)
alike_items no_items known c h = h
alike_items (item_and labels a rest) known c h =
    subst (Alike (labels_known labels (items_known rest known))) (sym (labels_two labels (label_places rest) c)) (alike_labels labels (items_known rest known) (with_labels (label_places rest) c) (alike_items rest known c h))

alike_arrays : (t : ValueType) (n : ℕ) (names : List Name) (known : List Known) (c : Context) → Alike known c → Alike (name_known an_array names known) (with_arrays t n names c)
alike_arrays t n [] known c h = h
alike_arrays t n (x ∷ xs) known c h = (refl, tt, alike_arrays t n xs known c h)

of_formal : (f : FormalType) → IsOf (formal_meaning f) (kind_of_formal f)
of_formal (by_name t) = tt
of_formal (by_value t) = tt
of_formal (by_result t) = tt
of_formal (by_value_result t) = tt
of_formal (for_array t n) = tt
of_formal (for_procedure result) = refl

pub alike_formals : (formals : List Formal) (known : List Known) (c : Context) → Alike known c → Alike (formals_known formals known) (with_formals formals c)
alike_formals [] known c h = h
alike_formals (f ∷ formals) known c h = (refl, of_formal f.is, alike_formals formals known c h)

module _ (table : Table) where
  alike_variables : (names : List Name) (known : List Known) (c : Context) → Alike known c → Alike (name_known a_variable names known) (with_variables table names c)
  alike_variables [] known c h = h
  alike_variables (x ∷ xs) known c h = (refl, tt, alike_variables xs known c h)

  alike_decls : (decls : Decls) (known : List Known) (c : Context) → Alike known c → Alike (decls_known decls known) (with_decls table decls c)
  alike_decls no_decls known c h = h
  alike_decls (variables_and names rest) known c h = alike_variables names (decls_known rest known) (with_decls table rest c) (alike_decls rest known c h)
  alike_decls (arrays_and t names bounds rest) known c h = alike_arrays t (dimensions bounds) names (decls_known rest known) (with_decls table rest c) (alike_decls rest known c h)
  alike_decls (procedure_and x result formals body rest) known c h = (refl, (formals, refl, refl), alike_decls rest known c h)

  pub alike_block : (decls : Decls) (items : Items) (known : List Known) (c : Context) → Alike known c → Alike (block_known decls items known) (with_block table decls items c)
  alike_block decls items known c h = alike_decls decls (items_known items known) (with_labels (label_places items) c) (alike_items items known c h)

-- ---- the places of a context

abbrev pub names_of : Context → List Place
names_of [] = []
names_of (b ∷ c) = b.name ∷ names_of c

pub labels_names : (labels : List Place) (c : Context) → names_of (with_labels labels c) ≡ labels ++ names_of c
labels_names [] c = refl
labels_names (x ∷ xs) c = ap (λ ps. x ∷ ps) (labels_names xs c)

arrays_names : (t : ValueType) (n : ℕ) (names : List Name) (c : Context) → names_of (with_arrays t n names c) ≡ places names ++ names_of c
arrays_names t n [] c = refl
arrays_names t n (x ∷ xs) c = ap (λ ps. x.place ∷ ps) (arrays_names t n xs c)

pub formals_names : (formals : List Formal) (c : Context) → names_of (with_formals formals c) ≡ formal_places formals ++ names_of c
formals_names [] c = refl
formals_names (f ∷ formals) c = ap (λ ps. f.name.place ∷ ps) (formals_names formals c)

three_lists : (xs ys zs : List Place) → xs ++ (ys ++ zs) ≡ (xs ++ ys) ++ zs
three_lists [] ys zs = refl
three_lists (x ∷ xs) ys zs = ap (λ ps. x ∷ ps) (three_lists xs ys zs)

module _ (table : Table) where
  variables_names : (names : List Name) (c : Context) → names_of (with_variables table names c) ≡ places names ++ names_of c
  variables_names [] c = refl
  variables_names (x ∷ xs) c = ap (λ ps. x.place ∷ ps) (variables_names xs c)

  decls_names : (decls : Decls) (c : Context) → names_of (with_decls table decls c) ≡ decl_places decls ++ names_of c
  decls_names no_decls c = refl
  decls_names (variables_and names rest) c = variables_names names (with_decls table rest c) ∙ ap (λ ps. places names ++ ps) (decls_names rest c) ∙ three_lists (places names) (decl_places rest) (names_of c)
  decls_names (arrays_and t names bounds rest) c = arrays_names t (dimensions bounds) names (with_decls table rest c) ∙ ap (λ ps. places names ++ ps) (decls_names rest c) ∙ three_lists (places names) (decl_places rest) (names_of c)
  decls_names (procedure_and x result formals body rest) c = ap (λ ps. x.place ∷ ps) (decls_names rest c)

  pub block_names : (decls : Decls) (items : Items) (c : Context) → names_of (with_block table decls items c) ≡ block_places decls items ++ names_of c
  block_names decls items c = decls_names decls (with_labels (label_places items) c) ∙ ap (λ ps. decl_places decls ++ ps) (labels_names (label_places items) c) ∙ three_lists (decl_places decls) (label_places items) (names_of c)

-- ---- what means something is one of them

meant_case : (t : Bool) (b : Meant) (c : Context) (x : Place) (m : Meaning) → is_place b.name x ≡ t → (meaning_in c x ≡ Some m → has (names_of c) x ≡ true) → (elim t [ true ↦ Some b.is | false ↦ meaning_in c x ]) ≡ Some m → (t || has (names_of c) x) ≡ true
meant_case true b c x m test more e = refl
meant_case false b c x m test more e = more e

pub is_meant : (c : Context) (x : Place) (m : Meaning) → meaning_in c x ≡ Some m → has (names_of c) x ≡ true
is_meant [] x m e = absurd (cc e)
is_meant (b ∷ c) x m e = meant_case (is_place b.name x) b c x m refl (is_meant c x m) e
