-- What is known of names that a phrase has none of leaves whether it suits.
use Rattle.std.proofs.Common.{◌≡◌, List, [], ◌∷◌, subst}
use Rattle.value_ops.specs.declared.places.Place.{Place}
use Rattle.program_meaning.specs.Phrases.{Phrase, Empty, Constant, Named, Variable, Array, Label, Procedure, Copied, Unary, Binary, Relation, IsClass, Element, Field, Part, Record, RecordAlone, IfThen, Case, Block, Call, Assign, WhileDo, ForStep, ForList, Goto, Assert, Write, Read, ReadCard, IoControl, Phrases, no_phrases, phrase_and, Targets, no_targets, target_and, Subscripts, no_subscripts, star_and, subscript_and, Actuals, no_actuals, actual_and, Actual, Given, Alone, Subarray, Items, no_items, item_and, Bounds, no_bounds, bound_and, Decls, no_decls, variables_and, arrays_and, procedure_and, with, with_phrases, with_targets, with_subscripts, with_actuals, with_actual, with_items, with_bounds, with_decls, kept, formal_places, block_places}
use Rattle.phrase_code.specs.Sizes.{Known, formals_known, block_known, control_known, call_kind}
use Rattle.compilable_programs.specs.Suits.{Avoids, CallSuits, Suits, AllSuit, TargetsSuit, SubscriptsSuit, ActualsSuit, ActualSuits, ItemsSuit, BoundsSuit, DeclsSuit}
use Rattle.compilable_programs.proofs.AvoidedSizes.{Alike, KnownBut, but_alike, emptied, head_same, formals_more, block_more, control_more}

mutual
  pub suits_same : (a : Phrase) (f : Place → Phrase) (k l : List Known) → Alike f k l → with f a ≡ a → Suits k a → Suits l a
  suits_same Empty f k l h e s = tt
  suits_same (Constant v) f k l h e s = tt
  suits_same (Named x) f k l h e s = tt
  suits_same (Variable n) f k l h e s = tt
  suits_same (Array n given) f k l h e s = tt
  suits_same (Label n) f k l h e s = tt
  suits_same (Procedure n) f k l h e s = tt
  suits_same (Copied m a) f k l h e s = tt
  suits_same (Unary op a) f k l h e s = suits_same a f k l h (cc e) s
  suits_same (Binary op a b) f k l h e s = (suits_same a f k l h (cc e) s.0, suits_same b f k l h (cc e) s.1)
  suits_same (Relation op a b) f k l h e s = (suits_same a f k l h (cc e) s.0, suits_same b f k l h (cc e) s.1)
  suits_same (IsClass a class) f k l h e s = suits_same a f k l h (cc e) s
  suits_same (Element a given) f k l h e s = all_same given f k l h (cc e) s
  suits_same (Field class n a) f k l h e s = suits_same a f k l h (cc e) s
  suits_same (Part m n a b) f k l h e s = (suits_same a f k l h (cc e) s.0, suits_same b f k l h (cc e) s.1)
  suits_same (Record class types values) f k l h e s = all_same values f k l h (cc e) s
  suits_same (RecordAlone class n) f k l h e s = tt
  suits_same (IfThen st t a b d) f k l h e s = (suits_same a f k l h (cc e) s.0, suits_same b f k l h (cc e) s.1, suits_same d f k l h (cc e) s.2)
  suits_same (Case st t a parts) f k l h e s = (suits_same a f k l h (cc e) s.0, all_same parts f k l h (cc e) s.1)
  suits_same (Block st p decls items) f k l h e s =
      let g = kept (block_places decls items) f in
      let inner = block_more decls items f k l h in
      (s.0, decls_same decls f g k l (block_known decls items k) (block_known decls items l) h inner (cc e) s.1, items_same items g (block_known decls items k) (block_known decls items l) inner (cc e) s.2)
  suits_same (Call st compares p a given) f k l h e s = (subst (λ kind. CallSuits (call_kind compares kind) given) (head_same a f k l h (cc e)) s.0, actuals_same given f k l h (cc e) s.1)
  suits_same (Assign st t a b) f k l h e s = (suits_same a f k l h (cc e) s.0, suits_same b f k l h (cc e) s.1)
  suits_same (WhileDo st a body) f k l h e s = (suits_same a f k l h (cc e) s.0, suits_same body f k l h (cc e) s.1)
  suits_same (ForStep st x a b d body) f k l h e s = (
    suits_same a f k l h (cc e) s.0,
    suits_same b f k l h (cc e) s.1,
    suits_same d f k l h (cc e) s.2,
    suits_same body (kept (x.place ∷ []) f) (control_known x k) (control_known x l) (control_more x f k l h) (cc e) s.3,
  )
  suits_same (ForList st x values body) f k l h e s = (all_same values f k l h (cc e) s.0, suits_same body (kept (x.place ∷ []) f) (control_known x k) (control_known x l) (control_more x f k l h) (cc e) s.1)
  suits_same (Goto st a) f k l h e s = tt
  suits_same (Assert st a) f k l h e s = suits_same a f k l h (cc e) s
  suits_same (Write st first roles values) f k l h e s = all_same values f k l h (cc e) s
  suits_same (Read st next targets) f k l h e s = targets_same targets f k l h (cc e) s
  suits_same (ReadCard st targets) f k l h e s = targets_same targets f k l h (cc e) s
  suits_same (IoControl st a) f k l h e s = suits_same a f k l h (cc e) s

  all_same : (as_ : Phrases) (f : Place → Phrase) (k l : List Known) → Alike f k l → with_phrases f as_ ≡ as_ → AllSuit k as_ → AllSuit l as_
  all_same no_phrases f k l h e s = tt
  all_same (phrase_and a rest) f k l h e s = (suits_same a f k l h (cc e) s.0, all_same rest f k l h (cc e) s.1)

  targets_same : (targets : Targets) (f : Place → Phrase) (k l : List Known) → Alike f k l → with_targets f targets ≡ targets → TargetsSuit k targets → TargetsSuit l targets
  targets_same no_targets f k l h e s = tt
  targets_same (target_and t a rest) f k l h e s = (suits_same a f k l h (cc e) s.0, targets_same rest f k l h (cc e) s.1)

  subscripts_same : (given : Subscripts) (f : Place → Phrase) (k l : List Known) → Alike f k l → with_subscripts f given ≡ given → SubscriptsSuit k given → SubscriptsSuit l given
  subscripts_same no_subscripts f k l h e s = tt
  subscripts_same (star_and rest) f k l h e s = subscripts_same rest f k l h (cc e) s
  subscripts_same (subscript_and a rest) f k l h e s = (suits_same a f k l h (cc e) s.0, subscripts_same rest f k l h (cc e) s.1)

  actuals_same : (given : Actuals) (f : Place → Phrase) (k l : List Known) → Alike f k l → with_actuals f given ≡ given → ActualsSuit k given → ActualsSuit l given
  actuals_same no_actuals f k l h e s = tt
  actuals_same (actual_and a rest) f k l h e s = (actual_same a f k l h (cc e) s.0, actuals_same rest f k l h (cc e) s.1)

  actual_same : (a : Actual) (f : Place → Phrase) (k l : List Known) → Alike f k l → with_actual f a ≡ a → ActualSuits k a → ActualSuits l a
  actual_same (Given v g first a) f k l h e s = suits_same a f k l h (cc e) s
  actual_same (Alone p a) f k l h e s = tt
  actual_same (Subarray a given) f k l h e s = subscripts_same given f k l h (cc e) s

  items_same : (items : Items) (f : Place → Phrase) (k l : List Known) → Alike f k l → with_items f items ≡ items → ItemsSuit k items → ItemsSuit l items
  items_same no_items f k l h e s = tt
  items_same (item_and labels a rest) f k l h e s = (suits_same a f k l h (cc e) s.0, items_same rest f k l h (cc e) s.1)

  bounds_same : (bounds : Bounds) (f : Place → Phrase) (k l : List Known) → Alike f k l → with_bounds f bounds ≡ bounds → BoundsSuit k bounds → BoundsSuit l bounds
  bounds_same no_bounds f k l h e s = tt
  bounds_same (bound_and a b rest) f k l h e s = (suits_same a f k l h (cc e) s.0, suits_same b f k l h (cc e) s.1, bounds_same rest f k l h (cc e) s.2)

  decls_same : (decls : Decls) (f g : Place → Phrase) (k l inner other : List Known) → Alike f k l → Alike g inner other → with_decls f g decls ≡ decls → DeclsSuit k inner decls → DeclsSuit l other decls
  decls_same no_decls f g k l inner other h i e s = tt
  decls_same (variables_and names rest) f g k l inner other h i e s = decls_same rest f g k l inner other h i (cc e) s
  decls_same (arrays_and t names pairs rest) f g k l inner other h i e s = (bounds_same pairs f k l h (cc e) s.0, decls_same rest f g k l inner other h i (cc e) s.1)
  decls_same (procedure_and x result formals body rest) f g k l inner other h i e s = (
    suits_same body (kept (formal_places formals) g) (formals_known formals inner) (formals_known formals other) (formals_more formals g inner other i) (cc e) s.0,
    decls_same rest f g k l inner other h i (cc e) s.1,
  )

pub suits_avoids : (places : List Place) (one other : List Known) → KnownBut places one other → (a : Phrase) → Avoids places a → Suits one a → Suits other a
suits_avoids places one other h a v s = suits_same a (emptied places) one other (but_alike places one other h) (v Empty) s
