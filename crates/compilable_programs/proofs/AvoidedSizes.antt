-- What is known of names that a phrase has none of leaves its size.
use Rattle.std.proofs.Common.{◌≡◌, ℕ, ◌+◌, List, [], ◌∷◌, ◌++◌, refl, sym, subst, ap, append_assoc, arith}
use Rattle.std.specs.Prelude.{Option, Some, Bool, true, false, ◌||◌}
use Rattle.value_ops.specs.declared.places.Place.{Place}
use Rattle.algolw_typing.specs.Types.{is_place, has}
use Rattle.algolw_typing.specs.Meanings.{FormalType}
use Rattle.program_meaning.specs.Phrases.{Phrase, Empty, Constant, Named, Variable, Array, Label, Procedure, Copied, Unary, Binary, Relation, IsClass, Element, Field, Part, Record, RecordAlone, IfThen, Case, Block, Call, Assign, WhileDo, ForStep, ForList, Goto, Assert, Write, Read, ReadCard, IoControl, Phrases, no_phrases, phrase_and, Targets, no_targets, target_and, Subscripts, no_subscripts, star_and, subscript_and, Actuals, no_actuals, actual_and, Actual, Given, Alone, Subarray, Items, no_items, item_and, Bounds, no_bounds, bound_and, Decls, no_decls, variables_and, arrays_and, procedure_and, Name, Formal, with, with_phrases, with_targets, with_subscripts, with_actuals, with_actual, with_items, with_bounds, with_decls, kept, places, formal_places, decl_places, label_places, block_places}
use Rattle.phrase_code.specs.Sizes.{Kind, a_variable, an_array, a_procedure, a_label, Known, kind_at, kind_of_formal, name_known, formals_known, labels_known, items_known, decls_known, block_known, control_known, head_kind, call_kind, CallKind, in_line, through, stuck_call, named_size, goto_size, given_size, alone_size, back_size, bare_call_size, call_size, size, each_size, fields_size, parts_size, list_size, writes_size, targets_size, items_size, bounds_size, decls_size, subscripts_size, actuals_size, actual_size, backs_size, back_of_size, texts_size, text_of_size}
use Rattle.compilable_programs.specs.Suits.{Avoids}

-- the same is known of each name for which no other phrase is put
pub record Alike (f : Place → Phrase) (k l : List Known) : Type 0 where
  pub by : (x : Place) → f x ≡ Named x → kind_at k x ≡ kind_at l x

-- ---- scopes

one_case : (ps : List Place) (f : Place → Phrase) (kind : Kind) (k l : List Known) (x : Place) (b : Bool) → ((elim (has ps x) [ true ↦ Named x | false ↦ f x ]) ≡ Named x → kind_at k x ≡ kind_at l x) → (elim (b || has ps x) [ true ↦ Named x | false ↦ f x ]) ≡ Named x
    → ◌≡◌ {A = Option Kind} (elim b [ true ↦ Some kind | false ↦ kind_at k x ]) (elim b [ true ↦ Some kind | false ↦ kind_at l x ])
one_case ps f kind k l x true h e = refl
one_case ps f kind k l x false h e = h e

one_more : (p : Place) (ps : List Place) (f : Place → Phrase) (kind : Kind) (k l : List Known) → Alike (kept ps f) k l → Alike (kept (p ∷ ps) f) (record { place = p; kind = kind } ∷ k) (record { place = p; kind = kind } ∷ l)
one_more p ps f kind k l h = record { by = λ x e. one_case ps f kind k l x (is_place p x) (h.by x) e }

names_more : (xs : List Name) (ps : List Place) (f : Place → Phrase) (kind : Kind) (k l : List Known) → Alike (kept ps f) k l → Alike (kept (places xs ++ ps) f) (name_known kind xs k) (name_known kind xs l)
names_more [] ps f kind k l h = h
names_more (x ∷ xs) ps f kind k l h = one_more x.place (places xs ++ ps) f kind (name_known kind xs k) (name_known kind xs l) (names_more xs ps f kind k l h)

labels_more : (xs ps : List Place) (f : Place → Phrase) (k l : List Known) → Alike (kept ps f) k l → Alike (kept (xs ++ ps) f) (labels_known xs k) (labels_known xs l)
labels_more [] ps f k l h = h
labels_more (x ∷ xs) ps f k l h = one_more x (xs ++ ps) f a_label (labels_known xs k) (labels_known xs l) (labels_more xs ps f k l h)

pub formals_more : (fs : List Formal) (f : Place → Phrase) (k l : List Known) → Alike f k l → Alike (kept (formal_places fs) f) (formals_known fs k) (formals_known fs l)
formals_more [] f k l h = record { by = h.by }
formals_more (g ∷ fs) f k l h = one_more g.name.place (formal_places fs) f (kind_of_formal g.is) (formals_known fs k) (formals_known fs l) (formals_more fs f k l h)

items_more : (items : Items) (f : Place → Phrase) (k l : List Known) → Alike f k l → Alike (kept (label_places items) f) (items_known items k) (items_known items l)
items_more no_items f k l h = record { by = h.by }
items_more (item_and labels a rest) f k l h = labels_more labels (label_places rest) f (items_known rest k) (items_known rest l) (items_more rest f k l h)

decls_more : (decls : Decls) (ps : List Place) (f : Place → Phrase) (k l : List Known) → Alike (kept ps f) k l → Alike (kept (decl_places decls ++ ps) f) (decls_known decls k) (decls_known decls l)
decls_more no_decls ps f k l h = h
decls_more (variables_and xs rest) ps f k l h =
    subst (λ qs. Alike (kept qs f) (name_known a_variable xs (decls_known rest k)) (name_known a_variable xs (decls_known rest l))) (sym (append_assoc (places xs) (decl_places rest) ps))
    (names_more xs (decl_places rest ++ ps) f a_variable (decls_known rest k) (decls_known rest l) (decls_more rest ps f k l h))
decls_more (arrays_and t xs pairs rest) ps f k l h =
    subst (λ qs. Alike (kept qs f) (name_known an_array xs (decls_known rest k)) (name_known an_array xs (decls_known rest l))) (sym (append_assoc (places xs) (decl_places rest) ps))
    (names_more xs (decl_places rest ++ ps) f an_array (decls_known rest k) (decls_known rest l) (decls_more rest ps f k l h))
decls_more (procedure_and x result formals body rest) ps f k l h = one_more x.place (decl_places rest ++ ps) f (a_procedure formals) (decls_known rest k) (decls_known rest l) (decls_more rest ps f k l h)

pub block_more : (decls : Decls) (items : Items) (f : Place → Phrase) (k l : List Known) → Alike f k l → Alike (kept (block_places decls items) f) (block_known decls items k) (block_known decls items l)
block_more decls items f k l h = decls_more decls (label_places items) f (items_known items k) (items_known items l) (items_more items f k l h)

pub control_more : (x : Name) (f : Place → Phrase) (k l : List Known) → Alike f k l → Alike (kept (x.place ∷ []) f) (control_known x k) (control_known x l)
control_more x f k l h = one_more x.place [] f a_variable k l (record { by = h.by })

-- ---- heads and calls

pub head_same : (a : Phrase) (f : Place → Phrase) (k l : List Known) → Alike f k l → with f a ≡ a → head_kind k a ≡ head_kind l a
head_same (Named x) f k l h e = h.by x e
head_same _ f k l h e = refl

call_same : (kind : CallKind) (given : Actuals) (r s b c : List Formal → ℕ) (t u : ℕ) → ((fs : List Formal) → r fs ≡ s fs) → ((fs : List Formal) → b fs ≡ c fs) → t ≡ u → call_size kind r b t given ≡ call_size kind s c u given
call_same (in_line formals) given r s b c t u e f g = let d = e formals in let h = f formals in omega (arith, d, h)
call_same through given r s b c t u e f g = omega (arith, g)
call_same stuck_call given r s b c t u e f g = refl

-- ---- phrases

mutual
  pub size_same : (a : Phrase) (f : Place → Phrase) (k l : List Known) → Alike f k l → with f a ≡ a → size k a ≡ size l a
  size_same Empty f k l h e = refl
  size_same (Constant v) f k l h e = refl
  size_same (Named x) f k l h e = ap named_size (h.by x e)
  size_same (Variable n) f k l h e = refl
  size_same (Array n given) f k l h e = refl
  size_same (Label n) f k l h e = refl
  size_same (Procedure n) f k l h e = refl
  size_same (Copied m a) f k l h e = refl
  size_same (Unary op a) f k l h e = let s = size_same a f k l h (cc e) in omega (arith, s)
  size_same (Binary op a b) f k l h e = let s = size_same a f k l h (cc e) in let t = size_same b f k l h (cc e) in omega (arith, s, t)
  size_same (Relation op a b) f k l h e = let s = size_same a f k l h (cc e) in let t = size_same b f k l h (cc e) in omega (arith, s, t)
  size_same (IsClass a class) f k l h e = let s = size_same a f k l h (cc e) in omega (arith, s)
  size_same (Element a given) f k l h e = let s = each_same given f k l h (cc e) in omega (arith, s)
  size_same (Field class n a) f k l h e = let s = size_same a f k l h (cc e) in omega (arith, s)
  size_same (Part m n a b) f k l h e = let s = size_same a f k l h (cc e) in let t = size_same b f k l h (cc e) in omega (arith, s, t)
  size_same (Record class types values) f k l h e = let s = fields_same values f k l h (cc e) in omega (arith, s)
  size_same (RecordAlone class n) f k l h e = refl
  size_same (IfThen st t a b d) f k l h e = let p = size_same a f k l h (cc e) in let q = size_same b f k l h (cc e) in let r = size_same d f k l h (cc e) in omega (arith, p, q, r)
  size_same (Case st t a parts) f k l h e = let p = size_same a f k l h (cc e) in let q = parts_same parts f k l h (cc e) in omega (arith, p, q)
  size_same (Block st p decls items) f k l h e =
      let inner = block_more decls items f k l h in
      let d = decls_same decls f (kept (block_places decls items) f) k l (block_known decls items k) (block_known decls items l) h inner (cc e) in
      let i = items_same items (kept (block_places decls items) f) (block_known decls items k) (block_known decls items l) inner (cc e) in
      omega (arith, d, i)
  size_same (Call st compares p a given) f k l h e =
      let g : with_actuals f given ≡ given = cc e in
      let t = texts_same given f k l h g in
      let c = ap (λ kind. call_size (call_kind compares kind) (λ fs. actuals_size k given fs) (λ fs. backs_size k given fs) (texts_size k given) given) (head_same a f k l h (cc e)) in
      let d =
      call_same (call_kind compares (head_kind l a)) given (λ fs. actuals_size k given fs) (λ fs. actuals_size l given fs) (λ fs. backs_size k given fs) (λ fs. backs_size l given fs) (texts_size k given) (texts_size l given)
      (λ fs. actuals_same given fs f k l h g) (λ fs. backs_same given fs f k l h g) t in
      omega (arith, c, d)
  size_same (Assign st t a b) f k l h e = let p = size_same a f k l h (cc e) in let q = size_same b f k l h (cc e) in omega (arith, p, q)
  size_same (WhileDo st a body) f k l h e = let p = size_same a f k l h (cc e) in let q = size_same body f k l h (cc e) in omega (arith, p, q)
  size_same (ForStep st x a b d body) f k l h e =
      let p = size_same a f k l h (cc e) in
      let q = size_same b f k l h (cc e) in
      let r = size_same d f k l h (cc e) in
      let s = size_same body (kept (x.place ∷ []) f) (control_known x k) (control_known x l) (control_more x f k l h) (cc e) in
      omega (arith, p, q, r, s)
  size_same (ForList st x values body) f k l h e =
      let p = list_same values f k l h (cc e) in
      let s = size_same body (kept (x.place ∷ []) f) (control_known x k) (control_known x l) (control_more x f k l h) (cc e) in
      omega (arith, p, s)
  size_same (Goto st a) f k l h e = ap goto_size (head_same a f k l h (cc e))
  size_same (Assert st a) f k l h e = let s = size_same a f k l h (cc e) in omega (arith, s)
  size_same (Write st first roles values) f k l h e = let s = writes_same values f k l h (cc e) in omega (arith, s)
  size_same (Read st next targets) f k l h e = let s = targets_same targets f k l h (cc e) in omega (arith, s)
  size_same (ReadCard st targets) f k l h e = let s = targets_same targets f k l h (cc e) in omega (arith, s)
  size_same (IoControl st a) f k l h e = let s = size_same a f k l h (cc e) in omega (arith, s)

  each_same : (as_ : Phrases) (f : Place → Phrase) (k l : List Known) → Alike f k l → with_phrases f as_ ≡ as_ → each_size k as_ ≡ each_size l as_
  each_same no_phrases f k l h e = refl
  each_same (phrase_and a rest) f k l h e = let s = size_same a f k l h (cc e) in let t = each_same rest f k l h (cc e) in omega (arith, s, t)

  fields_same : (as_ : Phrases) (f : Place → Phrase) (k l : List Known) → Alike f k l → with_phrases f as_ ≡ as_ → fields_size k as_ ≡ fields_size l as_
  fields_same no_phrases f k l h e = refl
  fields_same (phrase_and a rest) f k l h e = let s = size_same a f k l h (cc e) in let t = fields_same rest f k l h (cc e) in omega (arith, s, t)

  pub parts_same : (as_ : Phrases) (f : Place → Phrase) (k l : List Known) → Alike f k l → with_phrases f as_ ≡ as_ → parts_size k as_ ≡ parts_size l as_
  parts_same no_phrases f k l h e = refl
  parts_same (phrase_and a rest) f k l h e = let s = size_same a f k l h (cc e) in let t = parts_same rest f k l h (cc e) in omega (arith, s, t)

  list_same : (as_ : Phrases) (f : Place → Phrase) (k l : List Known) → Alike f k l → with_phrases f as_ ≡ as_ → list_size k as_ ≡ list_size l as_
  list_same no_phrases f k l h e = refl
  list_same (phrase_and a rest) f k l h e = let s = size_same a f k l h (cc e) in let t = list_same rest f k l h (cc e) in omega (arith, s, t)

  writes_same : (as_ : Phrases) (f : Place → Phrase) (k l : List Known) → Alike f k l → with_phrases f as_ ≡ as_ → writes_size k as_ ≡ writes_size l as_
  writes_same no_phrases f k l h e = refl
  writes_same (phrase_and a rest) f k l h e = let s = size_same a f k l h (cc e) in let t = writes_same rest f k l h (cc e) in omega (arith, s, t)

  targets_same : (targets : Targets) (f : Place → Phrase) (k l : List Known) → Alike f k l → with_targets f targets ≡ targets → targets_size k targets ≡ targets_size l targets
  targets_same no_targets f k l h e = refl
  targets_same (target_and t a rest) f k l h e = let s = size_same a f k l h (cc e) in let t = targets_same rest f k l h (cc e) in omega (arith, s, t)

  pub items_same : (items : Items) (f : Place → Phrase) (k l : List Known) → Alike f k l → with_items f items ≡ items → items_size k items ≡ items_size l items
  items_same no_items f k l h e = refl
  items_same (item_and labels a no_items) f k l h e = size_same a f k l h (cc e)
  items_same (item_and labels a (item_and more b rest)) f k l h e = let s = size_same a f k l h (cc e) in let t = items_same (item_and more b rest) f k l h (cc e) in omega (arith, s, t)

  pub bounds_same : (bounds : Bounds) (f : Place → Phrase) (k l : List Known) → Alike f k l → with_bounds f bounds ≡ bounds → bounds_size k bounds ≡ bounds_size l bounds
  bounds_same no_bounds f k l h e = refl
  bounds_same (bound_and a b rest) f k l h e = let p = size_same a f k l h (cc e) in let q = size_same b f k l h (cc e) in let r = bounds_same rest f k l h (cc e) in omega (arith, p, q, r)

  pub decls_same : (decls : Decls) (f g : Place → Phrase) (k l inner other : List Known) → Alike f k l → Alike g inner other → with_decls f g decls ≡ decls → decls_size k inner decls ≡ decls_size l other decls
  decls_same no_decls f g k l inner other h i e = refl
  decls_same (variables_and names rest) f g k l inner other h i e = let s = decls_same rest f g k l inner other h i (cc e) in omega (arith, s)
  decls_same (arrays_and t names pairs rest) f g k l inner other h i e = let s = decls_same rest f g k l inner other h i (cc e) in let p = bounds_same pairs f k l h (cc e) in omega (arith, s, p)
  decls_same (procedure_and x result formals body rest) f g k l inner other h i e =
      let s = decls_same rest f g k l inner other h i (cc e) in
      let p = size_same body (kept (formal_places formals) g) (formals_known formals inner) (formals_known formals other) (formals_more formals g inner other i) (cc e) in
      omega (arith, s, p)

  pub subscripts_same : (given : Subscripts) (f : Place → Phrase) (k l : List Known) → Alike f k l → with_subscripts f given ≡ given → subscripts_size k given ≡ subscripts_size l given
  subscripts_same no_subscripts f k l h e = refl
  subscripts_same (star_and rest) f k l h e = subscripts_same rest f k l h (cc e)
  subscripts_same (subscript_and a rest) f k l h e = let s = size_same a f k l h (cc e) in let t = subscripts_same rest f k l h (cc e) in omega (arith, s, t)

  pub actuals_same : (given : Actuals) (fs : List Formal) (f : Place → Phrase) (k l : List Known) → Alike f k l → with_actuals f given ≡ given → actuals_size k given fs ≡ actuals_size l given fs
  actuals_same no_actuals [] f k l h e = refl
  actuals_same no_actuals (g ∷ fs) f k l h e = refl
  actuals_same (actual_and a rest) [] f k l h e = refl
  actuals_same (actual_and a rest) (g ∷ fs) f k l h e = let s = actual_same a g.is f k l h (cc e) in let t = actuals_same rest fs f k l h (cc e) in omega (arith, s, t)

  pub actual_same : (a : Actual) (t : FormalType) (f : Place → Phrase) (k l : List Known) → Alike f k l → with_actual f a ≡ a → actual_size k a t ≡ actual_size l a t
  actual_same (Given v g first a) t f k l h e = ap (given_size t) (size_same a f k l h (cc e))
  actual_same (Alone p a) t f k l h e = ap (λ kind. alone_size t (bare_call_size kind)) (head_same a f k l h (cc e))
  actual_same (Subarray a given) t f k l h e = let s = subscripts_same given f k l h (cc e) in omega (arith, s)

  backs_same : (given : Actuals) (fs : List Formal) (f : Place → Phrase) (k l : List Known) → Alike f k l → with_actuals f given ≡ given → backs_size k given fs ≡ backs_size l given fs
  backs_same no_actuals [] f k l h e = refl
  backs_same no_actuals (g ∷ fs) f k l h e = refl
  backs_same (actual_and a rest) [] f k l h e = refl
  backs_same (actual_and a rest) (g ∷ fs) f k l h e = let s = back_same a g.is f k l h (cc e) in let t = backs_same rest fs f k l h (cc e) in omega (arith, s, t)

  pub back_same : (a : Actual) (t : FormalType) (f : Place → Phrase) (k l : List Known) → Alike f k l → with_actual f a ≡ a → back_of_size k a t ≡ back_of_size l a t
  back_same (Given v g first a) t f k l h e = ap (back_size t g) (size_same a f k l h (cc e))
  back_same (Alone p a) t f k l h e = refl
  back_same (Subarray a given) t f k l h e = refl

  pub texts_same : (given : Actuals) (f : Place → Phrase) (k l : List Known) → Alike f k l → with_actuals f given ≡ given → texts_size k given ≡ texts_size l given
  texts_same no_actuals f k l h e = refl
  texts_same (actual_and a rest) f k l h e = let s = text_same a f k l h (cc e) in let t = texts_same rest f k l h (cc e) in omega (arith, s, t)

  pub text_same : (a : Actual) (f : Place → Phrase) (k l : List Known) → Alike f k l → with_actual f a ≡ a → text_of_size k a ≡ text_of_size l a
  text_same (Given v g first a) f k l h e = let s = size_same a f k l h (cc e) in omega (arith, s)
  text_same (Alone p a) f k l h e = ap (λ kind. bare_call_size kind + 2) (head_same a f k l h (cc e))
  text_same (Subarray a given) f k l h e = let s = subscripts_same given f k l h (cc e) in omega (arith, s)

-- ---- names that are avoided

-- the same is known of each name elsewhere
abbrev pub KnownBut : List Place → (one other : List Known) → Type 0
KnownBut places one other = (x : Place) → has places x ≡ false → kind_at one x ≡ kind_at other x

-- another phrase is put for each name at these places
abbrev pub emptied : List Place → Place → Phrase
emptied places x = elim (has places x) [ true ↦ Empty | false ↦ Named x ]

elsewhere : (b : Bool) (x : Place) → (elim b [ true ↦ Empty | false ↦ Named x ]) ≡ Named x → b ≡ false
elsewhere true x e = absurd (cc e)
elsewhere false x e = refl

pub is_elsewhere : (places : List Place) (x : Place) → emptied places x ≡ Named x → has places x ≡ false
is_elsewhere places x e = elsewhere (has places x) x e

pub but_alike : (places : List Place) (one other : List Known) → KnownBut places one other → Alike (emptied places) one other
but_alike places one other h = record { by = λ x e. h x (is_elsewhere places x e) }

pub size_avoids : (places : List Place) (one other : List Known) → KnownBut places one other → (a : Phrase) → Avoids places a → size one a ≡ size other a
size_avoids places one other h a v = size_same a (emptied places) one other (but_alike places one other h) (v Empty)
