-- What a block and a call put for names, under closing.
use Rattle.std.proofs.Common.{◌≡◌, ℕ, suc, ◌+◌, ◌-◌, List, [], ◌∷◌, ◌++◌, refl, ap, ◌∙◌, sym, subst, map, length}
use Rattle.std.specs.Prelude.{None, Bool, true, false, nat_lt, replicate}
use Rattle.value_ops.specs.declared.places.Place.{Place}
use Rattle.program_meaning.specs.Phrases.{Phrase, Variable, Array, Items, no_items, item_and, Bounds, no_bounds, bound_and, Decls, no_decls, variables_and, arrays_and, procedure_and, Name, with, with_items, with_bounds, with_decls, kept, places, formal_places, decl_places, label_places, block_places}
use Rattle.program_meaning.specs.State.{State, on}
use Rattle.program_meaning.specs.Copying as copying
use Rattle.program_meaning.specs.Copying.{Closed, Put, puts, dimensions, free, variable_count, array_count, from, firsts}
use Rattle.program_meaning.specs.Environments as environments
use Rattle.program_meaning.specs.Environments.{Env, Bodied, Meant, Thing, to_variable, to_array, to_label, to_procedure, extend}
use Rattle.program_meaning.specs.Closing.{put_by, shut, closed_put, closed_procedure, closed_state}
use Rattle.program_meaning.proofs.Same.{Same, i, Yields}
use Rattle.program_meaning.proofs.Putting.{Fit, fit_kept, with_with, fit_extend, meant_places, label_places_same}

map_append : {A B : Type 0} (f : A → B) (xs ys : List A) → map f (xs ++ ys) ≡ map f xs ++ map f ys
map_append f [] ys = refl
map_append f (x ∷ xs) ys = ap (λ zs. f x ∷ zs) (map_append f xs ys)

length_map : {A B : Type 0} (f : A → B) (xs : List A) → length (map f xs) ≡ length xs
length_map f [] = refl
length_map f (x ∷ xs) = ap suc (length_map f xs)

append_assoc : {A : Type 0} (xs ys zs : List A) → (xs ++ ys) ++ zs ≡ xs ++ (ys ++ zs)
append_assoc [] ys zs = refl
append_assoc (x ∷ xs) ys zs = ap (λ ws. x ∷ ws) (append_assoc xs ys zs)

-- ---- fresh numbers

numbered_same : (by : ℕ → Thing) (by' : ℕ → Phrase) → ((k : ℕ) → shut (by k) ≡ by' k) → (k : ℕ) (xs : List Name) (bs : List Meant) (cs : List Put) → map closed_put bs ≡ cs → map closed_put (environments.numbered by k xs bs) ≡ copying.numbered by' k xs cs
numbered_same by by' h k [] bs cs e = e
numbered_same by by' h k (x ∷ xs) bs cs e =
    ap (λ p. record { name = x.place; by = p } ∷ map closed_put (environments.numbered by (k + 1) xs bs)) (h k)
    ∙ ap (λ zs. record { name = x.place; by = by' k } ∷ zs) (numbered_same by by' h (k + 1) xs bs cs e)

labels_same : (l : ℕ) (xs : List Place) → map closed_put (environments.label_things l xs) ≡ copying.label_puts l xs
labels_same l [] = refl
labels_same l (x ∷ xs) = ap (λ zs. closed_put (record { name = x; by = to_label l }) ∷ zs) (labels_same (l + 1) xs)

dimensions_same : (f : Place → Phrase) (bs : Bounds) → dimensions (with_bounds f bs) ≡ dimensions bs
dimensions_same f no_bounds = refl
dimensions_same f (bound_and a b bs) = ap (λ n. 1 + n) (dimensions_same f bs)

decls_same : (f g : Place → Phrase) (ds : Decls) (v a p : ℕ) (bs : List Meant) (cs : List Put) → map closed_put bs ≡ cs → map closed_put (environments.decl_things v a p ds bs) ≡ copying.decl_puts v a p (with_decls f g ds) cs
decls_same f g no_decls v a p bs cs e = e
decls_same f g (variables_and names ds) v a p bs cs e = numbered_same to_variable Variable (λ k. refl) v names _ _ (decls_same f g ds (v + length names) a p bs cs e)
decls_same f g (arrays_and t names pairs ds) v a p bs cs e = numbered_same (λ k. to_array k (free (dimensions pairs))) (λ k. Array k (free (dimensions (with_bounds f pairs)))) (λ k. ap (λ n. Array k (free n)) (sym (dimensions_same f pairs))) a names _ _ (decls_same f g ds v (a + length names) p bs cs e)
decls_same f g (procedure_and x result formals body ds) v a p bs cs e = ap (λ zs. closed_put (record { name = x.place; by = to_procedure p }) ∷ zs) (decls_same f g ds v a (p + 1) bs cs e)

fresh_same : (f g : Place → Phrase) (ds : Decls) (is : Items) (s : State Bodied) → map closed_put (environments.decl_things (length s.memory) (length s.arrays) (length s.procedures) ds (environments.label_things s.labels (label_places is))) ≡ copying.decl_puts (length s.memory) (length s.arrays) (length (map closed_procedure s.procedures)) (with_decls f g ds) (copying.label_puts s.labels (label_places (with_items g is)))
fresh_same f g ds is s = rw (label_places_same g is, length_map) (decls_same f g ds (length s.memory) (length s.arrays) (length s.procedures) _ _ (labels_same s.labels (label_places is)))

pub same_fresh : (f g : Place → Phrase) (ds : Decls) (is : Items) → Same (map closed_put) (environments.fresh ds is) (copying.fresh (with_decls f g ds) (with_items g is))
same_fresh f g ds is = record { by = λ s. ap (λ bs. on bs (closed_state s)) (fresh_same f g ds is s) }

pub same_firsts : Same i firsts firsts
same_firsts = record { by = λ s. refl }

-- ---- the names that get them

names_labels : (l : ℕ) (xs : List Place) → meant_places (environments.label_things l xs) ≡ xs
names_labels l [] = refl
names_labels l (x ∷ xs) = ap (λ zs. x ∷ zs) (names_labels (l + 1) xs)

names_numbered : (by : ℕ → Thing) (k : ℕ) (xs : List Name) (bs : List Meant) → meant_places (environments.numbered by k xs bs) ≡ places xs ++ meant_places bs
names_numbered by k [] bs = refl
names_numbered by k (x ∷ xs) bs = ap (λ zs. x.place ∷ zs) (names_numbered by (k + 1) xs bs)

names_decls : (ds : Decls) (v a p : ℕ) (bs : List Meant) → meant_places (environments.decl_things v a p ds bs) ≡ decl_places ds ++ meant_places bs
names_decls no_decls v a p bs = refl
names_decls (variables_and names ds) v a p bs =
    names_numbered to_variable v names _ ∙ ap (λ zs. places names ++ zs) (names_decls ds (v + length names) a p bs) ∙ sym (append_assoc (places names) (decl_places ds) (meant_places bs))
names_decls (arrays_and t names pairs ds) v a p bs =
    names_numbered (λ k. to_array k (free (dimensions pairs))) a names _ ∙ ap (λ zs. places names ++ zs) (names_decls ds v (a + length names) p bs) ∙ sym (append_assoc (places names) (decl_places ds) (meant_places bs))
names_decls (procedure_and x result formals body ds) v a p bs = ap (λ zs. x.place ∷ zs) (names_decls ds v a (p + 1) bs)

pub yields_fresh : (ds : Decls) (is : Items) → Yields (λ bs. meant_places bs ≡ block_places ds is) (environments.fresh ds is)
yields_fresh ds is = record { by = λ s. names_decls ds (length s.memory) (length s.arrays) (length s.procedures) (environments.label_things s.labels (label_places is)) ∙ ap (λ xs. decl_places ds ++ xs) (names_labels s.labels (label_places is)) }

-- what is put for names after their environment
pub fit_numbers : (bs : List Meant) (e : Env) (ns : List Place) → meant_places bs ≡ ns → (y : Place) → Fit (puts (map closed_put bs)) (kept ns (put_by e)) (put_by (extend bs e)) y
fit_numbers bs e ns h y = subst (λ xs. Fit (puts (map closed_put bs)) (kept xs (put_by e)) (put_by (extend bs e)) y) h (fit_extend bs e y)

-- ---- a block is opened

procedures_same : (w : Place) (f g g' : Place → Phrase) (e : Env) → ((y : Place) → Fit f g (put_by e) y) → (ds : Decls) → map closed_procedure (environments.bodied_procedures w e ds) ≡ copying.closed_procedures w f (with_decls g' g ds)
procedures_same w f g g' e t no_decls = refl
procedures_same w f g g' e t (variables_and names ds) = procedures_same w f g g' e t ds
procedures_same w f g g' e t (arrays_and ty names pairs ds) = procedures_same w f g g' e t ds
procedures_same w f g g' e t (procedure_and x result formals body ds) =
    let ns = formal_places formals in
    let d = with_with body (kept ns f) (kept ns g) (kept ns (put_by e)) (fit_kept ns f g (put_by e) t) in
    ap (λ b. record { name = x.text; result = result; formals = formals; body = b; statement = w } ∷ map closed_procedure (environments.bodied_procedures w e ds)) (sym d)
    ∙ ap (λ zs. record { name = x.text; result = result; formals = formals; body = with (kept ns f) (with (kept ns g) body); statement = w } ∷ zs) (procedures_same w f g g' e t ds)

variables_same : (f g : Place → Phrase) (ds : Decls) → variable_count (with_decls f g ds) ≡ variable_count ds
variables_same f g no_decls = refl
variables_same f g (variables_and names ds) = ap (λ n. length names + n) (variables_same f g ds)
variables_same f g (arrays_and t names pairs ds) = variables_same f g ds
variables_same f g (procedure_and x result formals body ds) = variables_same f g ds

arrays_same : (f g : Place → Phrase) (ds : Decls) → array_count (with_decls f g ds) ≡ array_count ds
arrays_same f g no_decls = refl
arrays_same f g (variables_and names ds) = arrays_same f g ds
arrays_same f g (arrays_and t names pairs ds) = ap (λ n. length names + n) (arrays_same f g ds)
arrays_same f g (procedure_and x result formals body ds) = arrays_same f g ds

abbrev opened_state : State Closed → ℕ → ℕ → List Closed → ℕ → State Closed
opened_state s m n ps l = record s { memory = s.memory ++ replicate m None; arrays = s.arrays ++ replicate n None; procedures = ps; labels = s.labels + l }

pub same_opened : (w : Place) (bs : List Meant) (e : Env) (ds : Decls) (is : Items) (g' : Place → Phrase) → meant_places bs ≡ block_places ds is
    → Same i (environments.opened w (extend bs e) ds is) (copying.opened w (map closed_put bs) (with_decls g' (kept (block_places ds is) (put_by e)) ds) (with_items (kept (block_places ds is) (put_by e)) is))
same_opened w bs e ds is g' h = record {
  by = λ s.
      let g = kept (block_places ds is) (put_by e) in
      let d = procedures_same w (puts (map closed_put bs)) g g' (extend bs e) (fit_numbers bs e (block_places ds is) h) ds in
      let a = map_append closed_procedure s.procedures (environments.bodied_procedures w (extend bs e) ds) in
      let ps = map closed_procedure s.procedures ++ copying.closed_procedures w (puts (map closed_put bs)) (with_decls g' g ds) in
      ap (λ qs. on tt (opened_state (closed_state s) (variable_count ds) (array_count ds) qs (length (label_places is)))) (a ∙ ap (λ qs. map closed_procedure s.procedures ++ qs) d)
      ∙ ap (λ m. on tt (opened_state (closed_state s) m (array_count ds) ps (length (label_places is)))) (sym (variables_same g' g ds))
      ∙ ap (λ n. on tt (opened_state (closed_state s) (variable_count (with_decls g' g ds)) n ps (length (label_places is)))) (sym (arrays_same g' g ds))
      ∙ ap (λ xs. on tt (opened_state (closed_state s) (variable_count (with_decls g' g ds)) (array_count (with_decls g' g ds)) ps (length xs))) (sym (label_places_same g is));
}

from_at : (b : Bool) (f : Place → Phrase) (x y y' : Items) → y' ≡ with_items f y → elim b [ true ↦ with_items f x | false ↦ y' ] ≡ with_items f (elim b [ true ↦ x | false ↦ y ])
from_at true f x y y' e = refl
from_at false f x y y' e = e

pub from_same : (f : Place → Phrase) (is : Items) (k : ℕ) → from k (with_items f is) ≡ with_items f (from k is)
from_same f no_items k = refl
from_same f (item_and labels a is) k = from_at (nat_lt k (length labels)) f (item_and labels a is) (from (k - length labels) is) _ (from_same f is (k - length labels))
