-- What is put for names, and shapes.
use Rattle.std.proofs.Common.{◌≡◌, List, [], ◌∷◌, ◌++◌, refl, ap, ◌∙◌, sym, subst, map, ◌⊎◌, inl, inr}
use Rattle.std.specs.Prelude.{Option, Some, None, Bool, true, false, ◌||◌}
use Rattle.value_ops.specs.declared.places.Place.{Place}
use Rattle.algolw_typing.specs.Types.{is_place, has}
use Rattle.program_meaning.specs.Phrases.{Phrase, Empty, Constant, Named, Variable, Array, Label, Procedure, Copied, Unary, Binary, Relation, IsClass, Element, Field, Part, Record, RecordAlone, IfThen, Case, Block, Call, Assign, WhileDo, ForStep, ForList, Goto, Assert, Write, Read, ReadCard, IoControl, Phrases, no_phrases, phrase_and, Targets, no_targets, target_and, Subscripts, no_subscripts, star_and, subscript_and, Actuals, no_actuals, actual_and, Actual, Given, Alone, Subarray, Items, no_items, item_and, Bounds, no_bounds, bound_and, Decls, no_decls, variables_and, arrays_and, procedure_and, Shape, leaf, one, two, three, shape, phrases_shape, targets_shape, subscripts_shape, actuals_shape, actual_shape, items_shape, bounds_shape, decls_shape, with, with_phrases, with_targets, with_subscripts, with_actuals, with_actual, with_items, with_bounds, with_decls, kept, places, formal_places, decl_places, label_places, block_places}
use Rattle.program_meaning.specs.Copying.{puts}
use Rattle.program_meaning.specs.Environments.{Env, empty, bind, Thing, to_constant, to_variable, to_array, to_label, to_procedure, thunk, Meant, extend, find}
use Rattle.program_meaning.specs.Closing.{put_by, shut, closed_put}

-- f after g is h, at a name: either g leaves it, or what g puts is closed
abbrev pub Fit : (Place → Phrase) → (Place → Phrase) → (Place → Phrase) → Place → Type 0
Fit f g h y = (g y ≡ Named y) × (f y ≡ h y) ⊎ ((f' : Place → Phrase) → with f' (g y) ≡ h y)

fit_at : (f g h : Place → Phrase) (y : Place) → Fit f g h y → with f (g y) ≡ h y
fit_at f g h y (inl p) = ap (with f) p.0 ∙ p.1
fit_at f g h y (inr p) = p f

fit_kept_at : (b : Bool) (f g h : Place → Phrase) (y : Place) → Fit f g h y → (elim b [ true ↦ Named y | false ↦ g y ] ≡ Named y) × (elim b [ true ↦ Named y | false ↦ f y ] ≡ elim b [ true ↦ Named y | false ↦ h y ]) ⊎ ((f' : Place → Phrase) → with f' (elim b [ true ↦ Named y | false ↦ g y ]) ≡ elim b [ true ↦ Named y | false ↦ h y ])
fit_kept_at true f g h y p = inl (refl, refl)
fit_kept_at false f g h y p = p

pub fit_kept : (xs : List Place) (f g h : Place → Phrase) → ((y : Place) → Fit f g h y) → (y : Place) → Fit (kept xs f) (kept xs g) (kept xs h) y
fit_kept xs f g h p y = fit_kept_at (has xs y) f g h y (p y)

pub decl_places_same : (f g : Place → Phrase) (ds : Decls) → decl_places (with_decls f g ds) ≡ decl_places ds
decl_places_same f g no_decls = refl
decl_places_same f g (variables_and names ds) = ap (λ xs. places names ++ xs) (decl_places_same f g ds)
decl_places_same f g (arrays_and t names pairs ds) = ap (λ xs. places names ++ xs) (decl_places_same f g ds)
decl_places_same f g (procedure_and x result formals body ds) = ap (λ xs. x.place ∷ xs) (decl_places_same f g ds)

pub label_places_same : (f : Place → Phrase) (is : Items) → label_places (with_items f is) ≡ label_places is
label_places_same f no_items = refl
label_places_same f (item_and labels a is) = ap (λ xs. labels ++ xs) (label_places_same f is)

-- ---- a second putting after a first is one putting
mutual
  pub with_with : (p : Phrase) (f g h : Place → Phrase) → ((y : Place) → Fit f g h y) → with f (with g p) ≡ with h p
  with_with Empty f g h t = refl
  with_with (Constant v) f g h t = refl
  with_with (Named x) f g h t = fit_at f g h x (t x)
  with_with (Variable k) f g h t = refl
  with_with (Array k given) f g h t = refl
  with_with (Label l) f g h t = refl
  with_with (Procedure k) f g h t = refl
  with_with (Copied m a) f g h t = refl
  with_with (Unary op a) f g h t = ap (Unary op) (with_with a f g h t)
  with_with (Binary op a b) f g h t = let e = with_with a f g h t in let d = with_with b f g h t in cc
  with_with (Relation op a b) f g h t = let e = with_with a f g h t in let d = with_with b f g h t in cc
  with_with (IsClass a class) f g h t = ap (λ p. IsClass p class) (with_with a f g h t)
  with_with (Element a subs) f g h t = let e = with_with a f g h t in let d = with_with_phrases subs f g h t in cc
  with_with (Field class n a) f g h t = ap (Field class n) (with_with a f g h t)
  with_with (Part m n a b) f g h t = let e = with_with a f g h t in let d = with_with b f g h t in cc
  with_with (Record class types values) f g h t = ap (Record class types) (with_with_phrases values f g h t)
  with_with (RecordAlone class n) f g h t = refl
  with_with (IfThen st ty c a b) f g h t = let e = with_with a f g h t in let d = with_with b f g h t in let k = with_with c f g h t in cc
  with_with (Case st ty c parts) f g h t = let e = with_with c f g h t in let d = with_with_phrases parts f g h t in cc
  with_with (Call st compares p a acts) f g h t = let e = with_with a f g h t in let d = with_with_actuals acts f g h t in cc
  with_with (Assign st ty a b) f g h t = let e = with_with a f g h t in let d = with_with b f g h t in cc
  with_with (WhileDo st a b) f g h t = let e = with_with a f g h t in let d = with_with b f g h t in cc
  with_with (ForStep st x a b c body) f g h t =
      let xs = x.place ∷ [] in
      let e = with_with a f g h t in let d = with_with b f g h t in let k = with_with c f g h t in
      let l = with_with body (kept xs f) (kept xs g) (kept xs h) (fit_kept xs f g h t) in cc
  with_with (ForList st x values body) f g h t =
      let xs = x.place ∷ [] in
      let e = with_with_phrases values f g h t in
      let l = with_with body (kept xs f) (kept xs g) (kept xs h) (fit_kept xs f g h t) in cc
  with_with (Goto st a) f g h t = ap (Goto st) (with_with a f g h t)
  with_with (Assert st a) f g h t = ap (Assert st) (with_with a f g h t)
  with_with (Write st first roles values) f g h t = ap (Write st first roles) (with_with_phrases values f g h t)
  with_with (Read st next ts) f g h t = ap (Read st next) (with_with_targets ts f g h t)
  with_with (ReadCard st ts) f g h t = ap (ReadCard st) (with_with_targets ts f g h t)
  with_with (IoControl st a) f g h t = ap (IoControl st) (with_with a f g h t)
  with_with (Block st p ds is) f g h t =
      let ns = block_places ds is in
      let gs = kept ns g in
      let e : block_places (with_decls g gs ds) (with_items gs is) ≡ ns = rw (decl_places_same g gs ds, label_places_same gs is) in
      ap (λ xs. Block st p (with_decls f (kept xs f) (with_decls g gs ds)) (with_items (kept xs f) (with_items gs is))) e
      ∙ ap (λ d. Block st p d (with_items (kept ns f) (with_items gs is))) (with_with_decls ds f (kept ns f) g gs h (kept ns h) t (fit_kept ns f g h t))
      ∙ ap (λ d. Block st p (with_decls h (kept ns h) ds) d) (with_with_items is (kept ns f) gs (kept ns h) (fit_kept ns f g h t))

  pub with_with_phrases : (ps : Phrases) (f g h : Place → Phrase) → ((y : Place) → Fit f g h y) → with_phrases f (with_phrases g ps) ≡ with_phrases h ps
  with_with_phrases no_phrases f g h t = refl
  with_with_phrases (phrase_and a ps) f g h t = let e = with_with a f g h t in let d = with_with_phrases ps f g h t in cc

  pub with_with_targets : (ps : Targets) (f g h : Place → Phrase) → ((y : Place) → Fit f g h y) → with_targets f (with_targets g ps) ≡ with_targets h ps
  with_with_targets no_targets f g h t = refl
  with_with_targets (target_and ty a ps) f g h t = let e = with_with a f g h t in let d = with_with_targets ps f g h t in cc

  pub with_with_subscripts : (ps : Subscripts) (f g h : Place → Phrase) → ((y : Place) → Fit f g h y) → with_subscripts f (with_subscripts g ps) ≡ with_subscripts h ps
  with_with_subscripts no_subscripts f g h t = refl
  with_with_subscripts (star_and ps) f g h t = ap star_and (with_with_subscripts ps f g h t)
  with_with_subscripts (subscript_and a ps) f g h t = let e = with_with a f g h t in let d = with_with_subscripts ps f g h t in cc

  pub with_with_actuals : (ps : Actuals) (f g h : Place → Phrase) → ((y : Place) → Fit f g h y) → with_actuals f (with_actuals g ps) ≡ with_actuals h ps
  with_with_actuals no_actuals f g h t = refl
  with_with_actuals (actual_and a ps) f g h t = let e = with_with_actual a f g h t in let d = with_with_actuals ps f g h t in cc

  pub with_with_actual : (a : Actual) (f g h : Place → Phrase) → ((y : Place) → Fit f g h y) → with_actual f (with_actual g a) ≡ with_actual h a
  with_with_actual (Given v gv first a) f g h t = ap (Given v gv first) (with_with a f g h t)
  with_with_actual (Alone p a) f g h t = ap (Alone p) (with_with a f g h t)
  with_with_actual (Subarray a ps) f g h t = let e = with_with a f g h t in let d = with_with_subscripts ps f g h t in cc

  pub with_with_items : (is : Items) (f g h : Place → Phrase) → ((y : Place) → Fit f g h y) → with_items f (with_items g is) ≡ with_items h is
  with_with_items no_items f g h t = refl
  with_with_items (item_and labels a is) f g h t = let e = with_with a f g h t in let d = with_with_items is f g h t in cc

  pub with_with_bounds : (bs : Bounds) (f g h : Place → Phrase) → ((y : Place) → Fit f g h y) → with_bounds f (with_bounds g bs) ≡ with_bounds h bs
  with_with_bounds no_bounds f g h t = refl
  with_with_bounds (bound_and a b bs) f g h t = let e = with_with a f g h t in let k = with_with b f g h t in let d = with_with_bounds bs f g h t in cc

  pub with_with_decls : (ds : Decls) (f f' g g' h h' : Place → Phrase) → ((y : Place) → Fit f g h y) → ((y : Place) → Fit f' g' h' y) → with_decls f f' (with_decls g g' ds) ≡ with_decls h h' ds
  with_with_decls no_decls f f' g g' h h' t t' = refl
  with_with_decls (variables_and names ds) f f' g g' h h' t t' = ap (variables_and names) (with_with_decls ds f f' g g' h h' t t')
  with_with_decls (arrays_and ty names pairs ds) f f' g g' h h' t t' = let e = with_with_bounds pairs f g h t in let d = with_with_decls ds f f' g g' h h' t t' in cc
  with_with_decls (procedure_and x result formals body ds) f f' g g' h h' t t' =
      let ns = formal_places formals in
      let e = with_with body (kept ns f') (kept ns g') (kept ns h') (fit_kept ns f' g' h' t') in
      let d = with_with_decls ds f f' g g' h h' t t' in cc

-- ---- environments

abbrev pub shut_or : Place → Option Thing → Phrase
shut_or y None = Named y
shut_or y (Some t) = shut t

put_find_at : (b : Bool) (t : Thing) (p : Phrase) (o : Option Thing) (y : Place) → p ≡ shut_or y o → elim b [ true ↦ shut t | false ↦ p ] ≡ shut_or y (elim b [ true ↦ Some t | false ↦ o ])
put_find_at true t p o y e = refl
put_find_at false t p o y e = e

pub put_find : (e : Env) (y : Place) → put_by e y ≡ shut_or y (find e y)
put_find empty y = refl
put_find (bind x t e) y = put_find_at (is_place x y) t (put_by e y) (find e y) y (put_find e y)

pub with_shut : (f : Place → Phrase) (t : Thing) → with f (shut t) ≡ shut t
with_shut f (to_constant v) = refl
with_shut f (to_variable k) = refl
with_shut f (to_array k given) = refl
with_shut f (to_label l) = refl
with_shut f (to_procedure k) = refl
with_shut f (thunk m a e) = refl

abbrev pub meant_places : List Meant → List Place
meant_places [] = []
meant_places (b ∷ bs) = b.name ∷ meant_places bs

fit_none : (o : Option Thing) (y : Place) → (shut_or y o ≡ Named y) × (Named y ≡ shut_or y o) ⊎ ((f' : Place → Phrase) → with f' (shut_or y o) ≡ shut_or y o)
fit_none None y = inl (refl, refl)
fit_none (Some t) y = inr (λ f'. with_shut f' t)

fit_some : (b : Bool) (c : Bool) (y : Place) (a f g h : Phrase)
    → (elim c [ true ↦ Named y | false ↦ g ] ≡ Named y) × (f ≡ h) ⊎ ((f' : Place → Phrase) → with f' (elim c [ true ↦ Named y | false ↦ g ]) ≡ h)
    → (elim (b || c) [ true ↦ Named y | false ↦ g ] ≡ Named y) × (elim b [ true ↦ a | false ↦ f ] ≡ elim b [ true ↦ a | false ↦ h ]) ⊎ ((f' : Place → Phrase) → with f' (elim (b || c) [ true ↦ Named y | false ↦ g ]) ≡ elim b [ true ↦ a | false ↦ h ])
fit_some true c y a f g h p = inl (refl, refl)
fit_some false c y a f g h p = p

pub fit_extend : (bs : List Meant) (e : Env) (y : Place) → Fit (puts (map closed_put bs)) (kept (meant_places bs) (put_by e)) (put_by (extend bs e)) y
fit_extend [] e y = subst (λ p. (p ≡ Named y) × (Named y ≡ p) ⊎ ((f' : Place → Phrase) → with f' p ≡ p)) (sym (put_find e y)) (fit_none (find e y) y)
fit_extend (b ∷ bs) e y = fit_some (is_place b.name y) (has (meant_places bs) y) y (shut b.by) (puts (map closed_put bs) y) (put_by e y) (put_by (extend bs e) y) (fit_extend bs e y)

-- ---- shapes

-- what is put is a leaf
leaf_shut : (y : Place) (o : Option Thing) → shape (shut_or y o) ≡ leaf
leaf_shut y None = refl
leaf_shut y (Some (to_constant v)) = refl
leaf_shut y (Some (to_variable k)) = refl
leaf_shut y (Some (to_array k given)) = refl
leaf_shut y (Some (to_label k)) = refl
leaf_shut y (Some (to_procedure k)) = refl
leaf_shut y (Some (thunk m a e)) = refl

pub leaf_put : (e : Env) (y : Place) → shape (put_by e y) ≡ leaf
leaf_put e y = rw put_find (leaf_shut y (find e y))

leaf_kept_at : (b : Bool) (y : Place) (p : Phrase) → shape p ≡ leaf → shape (elim b [ true ↦ Named y | false ↦ p ]) ≡ leaf
leaf_kept_at true y p e = refl
leaf_kept_at false y p e = e

pub leaf_kept : (xs : List Place) (f : Place → Phrase) → ((y : Place) → shape (f y) ≡ leaf) → (y : Place) → shape (kept xs f y) ≡ leaf
leaf_kept xs f h y = leaf_kept_at (has xs y) y (f y) (h y)

two_same : {a a' b b' : Shape} → a ≡ a' → b ≡ b' → two a b ≡ two a' b'
two_same {a' = a'} {b = b} p q = ap (λ x. two x b) p ∙ ap (two a') q

three_same : {a a' b b' c c' : Shape} → a ≡ a' → b ≡ b' → c ≡ c' → three a b c ≡ three a' b' c'
three_same {a' = a'} {b = b} {b' = b'} {c = c} p q r = ap (λ x. three x b c) p ∙ ap (λ x. three a' x c) q ∙ ap (three a' b') r

-- putting leaves for names keeps the shape
mutual
  pub same_shape : (p : Phrase) (f : Place → Phrase) → ((y : Place) → shape (f y) ≡ leaf) → shape (with f p) ≡ shape p
  same_shape Empty f h = refl
  same_shape (Constant v) f h = refl
  same_shape (Named x) f h = h x
  same_shape (Variable k) f h = refl
  same_shape (Array k given) f h = refl
  same_shape (Label l) f h = refl
  same_shape (Procedure k) f h = refl
  same_shape (Copied m a) f h = refl
  same_shape (Unary op a) f h = ap one (same_shape a f h)
  same_shape (Binary op a b) f h = two_same (same_shape a f h) (same_shape b f h)
  same_shape (Relation op a b) f h = two_same (same_shape a f h) (same_shape b f h)
  same_shape (IsClass a class) f h = ap one (same_shape a f h)
  same_shape (Element a subs) f h = ap one (same_phrases_shape subs f h)
  same_shape (Field class n a) f h = ap one (same_shape a f h)
  same_shape (Part m n a b) f h = two_same (same_shape a f h) (same_shape b f h)
  same_shape (Record class types values) f h = ap one (same_phrases_shape values f h)
  same_shape (RecordAlone class n) f h = refl
  same_shape (IfThen st t c a b) f h = three_same (same_shape c f h) (same_shape a f h) (same_shape b f h)
  same_shape (Case st t c parts) f h = two_same (same_shape c f h) (same_phrases_shape parts f h)
  same_shape (Call st compares p a acts) f h = ap one (same_actuals_shape acts f h)
  same_shape (Assign st t a b) f h = two_same (same_shape a f h) (same_shape b f h)
  same_shape (WhileDo st c body) f h = ap one (same_shape c f h)
  same_shape (ForStep st x a b c body) f h = three_same (same_shape a f h) (same_shape b f h) (same_shape c f h)
  same_shape (ForList st x values body) f h = ap one (same_phrases_shape values f h)
  same_shape (Goto st a) f h = refl
  same_shape (Assert st a) f h = ap one (same_shape a f h)
  same_shape (Write st first roles values) f h = ap one (same_phrases_shape values f h)
  same_shape (Read st next ts) f h = ap one (same_targets_shape ts f h)
  same_shape (ReadCard st ts) f h = ap one (same_targets_shape ts f h)
  same_shape (IoControl st a) f h = ap one (same_shape a f h)
  same_shape (Block st p ds is) f h = two_same (same_decls_shape ds f (kept (block_places ds is) f) h) (same_items_shape is (kept (block_places ds is) f) (leaf_kept (block_places ds is) f h))

  pub same_phrases_shape : (ps : Phrases) (f : Place → Phrase) → ((y : Place) → shape (f y) ≡ leaf) → phrases_shape (with_phrases f ps) ≡ phrases_shape ps
  same_phrases_shape no_phrases f h = refl
  same_phrases_shape (phrase_and a ps) f h = two_same (same_shape a f h) (same_phrases_shape ps f h)

  pub same_targets_shape : (ps : Targets) (f : Place → Phrase) → ((y : Place) → shape (f y) ≡ leaf) → targets_shape (with_targets f ps) ≡ targets_shape ps
  same_targets_shape no_targets f h = refl
  same_targets_shape (target_and t a ps) f h = two_same (same_shape a f h) (same_targets_shape ps f h)

  pub same_subscripts_shape : (ps : Subscripts) (f : Place → Phrase) → ((y : Place) → shape (f y) ≡ leaf) → subscripts_shape (with_subscripts f ps) ≡ subscripts_shape ps
  same_subscripts_shape no_subscripts f h = refl
  same_subscripts_shape (star_and ps) f h = ap one (same_subscripts_shape ps f h)
  same_subscripts_shape (subscript_and a ps) f h = two_same (same_shape a f h) (same_subscripts_shape ps f h)

  pub same_actuals_shape : (ps : Actuals) (f : Place → Phrase) → ((y : Place) → shape (f y) ≡ leaf) → actuals_shape (with_actuals f ps) ≡ actuals_shape ps
  same_actuals_shape no_actuals f h = refl
  same_actuals_shape (actual_and a ps) f h = two_same (same_actual_shape a f h) (same_actuals_shape ps f h)

  pub same_actual_shape : (a : Actual) (f : Place → Phrase) → ((y : Place) → shape (f y) ≡ leaf) → actual_shape (with_actual f a) ≡ actual_shape a
  same_actual_shape (Given v g first a) f h = ap one (same_shape a f h)
  same_actual_shape (Alone p a) f h = refl
  same_actual_shape (Subarray a ps) f h = ap one (same_subscripts_shape ps f h)

  pub same_items_shape : (is : Items) (f : Place → Phrase) → ((y : Place) → shape (f y) ≡ leaf) → items_shape (with_items f is) ≡ items_shape is
  same_items_shape no_items f h = refl
  same_items_shape (item_and labels a is) f h = two_same (same_shape a f h) (same_items_shape is f h)

  pub same_bounds_shape : (bs : Bounds) (f : Place → Phrase) → ((y : Place) → shape (f y) ≡ leaf) → bounds_shape (with_bounds f bs) ≡ bounds_shape bs
  same_bounds_shape no_bounds f h = refl
  same_bounds_shape (bound_and a b bs) f h = three_same (same_shape a f h) (same_shape b f h) (same_bounds_shape bs f h)

  pub same_decls_shape : (ds : Decls) (f g : Place → Phrase) → ((y : Place) → shape (f y) ≡ leaf) → decls_shape (with_decls f g ds) ≡ decls_shape ds
  same_decls_shape no_decls f g h = refl
  same_decls_shape (variables_and names ds) f g h = ap one (same_decls_shape ds f g h)
  same_decls_shape (arrays_and t names pairs ds) f g h = two_same (same_bounds_shape pairs f h) (same_decls_shape ds f g h)
  same_decls_shape (procedure_and x result formals body ds) f g h = ap one (same_decls_shape ds f g h)

-- ---- nothing is put

stays_kept_at : (b : Bool) (y : Place) (p : Phrase) → p ≡ Named y → elim b [ true ↦ Named y | false ↦ p ] ≡ Named y
stays_kept_at true y p e = refl
stays_kept_at false y p e = e

pub stays_kept : (xs : List Place) (f : Place → Phrase) → ((y : Place) → f y ≡ Named y) → (y : Place) → kept xs f y ≡ Named y
stays_kept xs f h y = stays_kept_at (has xs y) y (f y) (h y)

mutual
  pub with_none : (p : Phrase) (f : Place → Phrase) → ((y : Place) → f y ≡ Named y) → with f p ≡ p
  with_none Empty f h = refl
  with_none (Constant v) f h = refl
  with_none (Named x) f h = h x
  with_none (Variable k) f h = refl
  with_none (Array k given) f h = refl
  with_none (Label l) f h = refl
  with_none (Procedure k) f h = refl
  with_none (Copied m a) f h = refl
  with_none (Unary op a) f h = ap (Unary op) (with_none a f h)
  with_none (Binary op a b) f h = let e = with_none a f h in let d = with_none b f h in cc
  with_none (Relation op a b) f h = let e = with_none a f h in let d = with_none b f h in cc
  with_none (IsClass a class) f h = ap (λ p. IsClass p class) (with_none a f h)
  with_none (Element a subs) f h = let e = with_none a f h in let d = with_none_phrases subs f h in cc
  with_none (Field class n a) f h = ap (Field class n) (with_none a f h)
  with_none (Part m n a b) f h = let e = with_none a f h in let d = with_none b f h in cc
  with_none (Record class types values) f h = ap (Record class types) (with_none_phrases values f h)
  with_none (RecordAlone class n) f h = refl
  with_none (IfThen st t c a b) f h = let e = with_none a f h in let d = with_none b f h in let k = with_none c f h in cc
  with_none (Case st t c parts) f h = let e = with_none c f h in let d = with_none_phrases parts f h in cc
  with_none (Call st compares p a acts) f h = let e = with_none a f h in let d = with_none_actuals acts f h in cc
  with_none (Assign st t a b) f h = let e = with_none a f h in let d = with_none b f h in cc
  with_none (WhileDo st a b) f h = let e = with_none a f h in let d = with_none b f h in cc
  with_none (ForStep st x a b c body) f h = let e = with_none a f h in let d = with_none b f h in let k = with_none c f h in let l = with_none body (kept (x.place ∷ []) f) (stays_kept (x.place ∷ []) f h) in cc
  with_none (ForList st x values body) f h = let e = with_none_phrases values f h in let l = with_none body (kept (x.place ∷ []) f) (stays_kept (x.place ∷ []) f h) in cc
  with_none (Goto st a) f h = ap (Goto st) (with_none a f h)
  with_none (Assert st a) f h = ap (Assert st) (with_none a f h)
  with_none (Write st first roles values) f h = ap (Write st first roles) (with_none_phrases values f h)
  with_none (Read st next ts) f h = ap (Read st next) (with_none_targets ts f h)
  with_none (ReadCard st ts) f h = ap (ReadCard st) (with_none_targets ts f h)
  with_none (IoControl st a) f h = ap (IoControl st) (with_none a f h)
  with_none (Block st p ds is) f h =
      let g = kept (block_places ds is) f in
      let k = stays_kept (block_places ds is) f h in
      let e = with_none_decls ds f g h k in let d = with_none_items is g k in cc

  pub with_none_phrases : (ps : Phrases) (f : Place → Phrase) → ((y : Place) → f y ≡ Named y) → with_phrases f ps ≡ ps
  with_none_phrases no_phrases f h = refl
  with_none_phrases (phrase_and a ps) f h = let e = with_none a f h in let d = with_none_phrases ps f h in cc

  pub with_none_targets : (ps : Targets) (f : Place → Phrase) → ((y : Place) → f y ≡ Named y) → with_targets f ps ≡ ps
  with_none_targets no_targets f h = refl
  with_none_targets (target_and t a ps) f h = let e = with_none a f h in let d = with_none_targets ps f h in cc

  pub with_none_subscripts : (ps : Subscripts) (f : Place → Phrase) → ((y : Place) → f y ≡ Named y) → with_subscripts f ps ≡ ps
  with_none_subscripts no_subscripts f h = refl
  with_none_subscripts (star_and ps) f h = ap star_and (with_none_subscripts ps f h)
  with_none_subscripts (subscript_and a ps) f h = let e = with_none a f h in let d = with_none_subscripts ps f h in cc

  pub with_none_actuals : (ps : Actuals) (f : Place → Phrase) → ((y : Place) → f y ≡ Named y) → with_actuals f ps ≡ ps
  with_none_actuals no_actuals f h = refl
  with_none_actuals (actual_and a ps) f h = let e = with_none_actual a f h in let d = with_none_actuals ps f h in cc

  pub with_none_actual : (a : Actual) (f : Place → Phrase) → ((y : Place) → f y ≡ Named y) → with_actual f a ≡ a
  with_none_actual (Given v g first a) f h = ap (Given v g first) (with_none a f h)
  with_none_actual (Alone p a) f h = ap (Alone p) (with_none a f h)
  with_none_actual (Subarray a ps) f h = let e = with_none a f h in let d = with_none_subscripts ps f h in cc

  pub with_none_items : (is : Items) (f : Place → Phrase) → ((y : Place) → f y ≡ Named y) → with_items f is ≡ is
  with_none_items no_items f h = refl
  with_none_items (item_and labels a is) f h = let e = with_none a f h in let d = with_none_items is f h in cc

  pub with_none_bounds : (bs : Bounds) (f : Place → Phrase) → ((y : Place) → f y ≡ Named y) → with_bounds f bs ≡ bs
  with_none_bounds no_bounds f h = refl
  with_none_bounds (bound_and a b bs) f h = let e = with_none a f h in let k = with_none b f h in let d = with_none_bounds bs f h in cc

  pub with_none_decls : (ds : Decls) (f g : Place → Phrase) → ((y : Place) → f y ≡ Named y) → ((y : Place) → g y ≡ Named y) → with_decls f g ds ≡ ds
  with_none_decls no_decls f g h k = refl
  with_none_decls (variables_and names ds) f g h k = ap (variables_and names) (with_none_decls ds f g h k)
  with_none_decls (arrays_and t names pairs ds) f g h k = let e = with_none_bounds pairs f h in let d = with_none_decls ds f g h k in cc
  with_none_decls (procedure_and x result formals body ds) f g h k =
      let e = with_none body (kept (formal_places formals) g) (stays_kept (formal_places formals) g k) in
      let d = with_none_decls ds f g h k in cc
