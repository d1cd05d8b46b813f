-- A phrase that fits stays as it is where another phrase is put for none of the names that mean something round it.
use Rattle.std.proofs.Common.{◌≡◌, List, [], ◌∷◌, ◌++◌, refl, sym, subst, ap, ◌∙◌, inl, inr, ◌⊎◌}
use Rattle.std.specs.Prelude.{Option, Some, None, Bool, true, false, ◌||◌}
use Rattle.value_ops.specs.declared.places.Place.{Place}
use Rattle.algolw_typing.specs.Types.{ValueType, is_place, has}
use Rattle.program_meaning.specs.Phrases.{Phrase, Empty, Constant, Named, Variable, Array, Label, Procedure, Copied, Unary, Binary, Relation, IsClass, Element, Field, Part, Record, RecordAlone, IfThen, Case, Block, Call, Assign, WhileDo, ForStep, ForList, Goto, Assert, Write, Read, ReadCard, IoControl, Phrases, no_phrases, phrase_and, Targets, no_targets, target_and, Subscripts, no_subscripts, star_and, subscript_and, Actuals, no_actuals, actual_and, Actual, Given, Alone, Subarray, Items, no_items, item_and, Bounds, no_bounds, bound_and, Decls, no_decls, variables_and, arrays_and, procedure_and, with, with_phrases, with_targets, with_subscripts, with_actuals, with_actual, with_items, with_bounds, with_decls, kept, formal_places, block_places, Role, placed, sets}
use Rattle.program_soundness.specs.Kinds.{Want, Meaning, Context, meaning_in, Table, at_control, with_formals, with_block}
use Rattle.program_soundness.specs.Fits.{Names, IsNamed, CallFits, Fits, AllFit, ValuesFit, FieldsFit, TargetsFit, CardsFit, SubscriptsFit, ItemsFit, BoundsFit, DeclsFit, ActualsFit, ActualFits}
use Rattle.compilable_programs.proofs.Contexts.{names_of, is_meant, formals_names, block_names}

-- each of these names stays
abbrev pub Leaves : Context → (Place → Phrase) → Type 0
Leaves c f = (x : Place) → has (names_of c) x ≡ true → f x ≡ Named x

has_two : (xs ys : List Place) (x : Place) → has (xs ++ ys) x ≡ true → (has xs x ≡ true) ⊎ (has ys x ≡ true)
has_two [] ys x h = inr h
has_two (y ∷ xs) ys x h = go (is_place y x) (has_two xs ys x) h
  where
    go : (b : Bool) → (has (xs ++ ys) x ≡ true → (has xs x ≡ true) ⊎ (has ys x ≡ true)) → (b || has (xs ++ ys) x) ≡ true → ((b || has xs x) ≡ true) ⊎ (has ys x ≡ true)
    go true f h = inl refl
    go false f h = f h

kept_here : (b : Bool) (f : Place → Phrase) (x : Place) → b ≡ true → (elim b [ true ↦ Named x | false ↦ f x ]) ≡ Named x
kept_here true f x h = refl
kept_here false f x h = cc

kept_there : (b : Bool) (f : Place → Phrase) (x : Place) → f x ≡ Named x → (elim b [ true ↦ Named x | false ↦ f x ]) ≡ Named x
kept_there true f x h = refl
kept_there false f x h = h

-- inside a scope of these names
leaves_more : (c d : Context) (places : List Place) (f : Place → Phrase) → names_of d ≡ places ++ names_of c → Leaves c f → Leaves d (kept places f)
leaves_more c d places f e l x h = go (has_two places (names_of c) x (subst (λ ps. has ps x ≡ true) e h))
  where
    go : (has places x ≡ true) ⊎ (has (names_of c) x ≡ true) → kept places f x ≡ Named x
    go (inl here) = kept_here (has places x) f x here
    go (inr there) = kept_there (has places x) f x (l x there)

named_left : (c : Context) (f : Place → Phrase) (x : Place) (want : Want) (o : Option Meaning) → meaning_in c x ≡ o → IsNamed o want → Leaves c f → f x ≡ Named x
named_left c f x want None e h l = absurd h
named_left c f x want (Some m) e h l = l x (is_meant c x m e)

names_left : (c : Context) (f : Place → Phrase) (a : Phrase) (m : Meaning) → Names c a m → Leaves c f → with f a ≡ a
names_left c f a m h l = ap (with f) h.1 ∙ l h.0 (is_meant c h.0 m h.2) ∙ sym h.1

called_left : (compares : Bool) (c : Context) (f : Place → Phrase) (p : Place) (a : Phrase) (result : Option ValueType) (given : Actuals) → CallFits compares c p a result given → Leaves c f → with f a ≡ a
called_left false c f p a result given h l = names_left c f a _ h.1 l
called_left true c f p a result given h l = names_left c f a h.0 h.1 l

module _ (table : Table) where
  mutual
    pub unmoved : (a : Phrase) (c : Context) (f : Place → Phrase) (want : Want) → Fits table c a want → Leaves c f → with f a ≡ a
    unmoved Empty c f want h l = refl
    unmoved (Constant v) c f want h l = refl
    unmoved (Named x) c f want h l = named_left c f x want (meaning_in c x) refl h l
    unmoved (Variable k) c f want h l = refl
    unmoved (Array k given) c f want h l = refl
    unmoved (Label k) c f want h l = refl
    unmoved (Procedure k) c f want h l = refl
    unmoved (Copied m a) c f want h l = refl
    unmoved (Unary op a) c f want h l = ap (Unary op) (unmoved a c f _ h.1 l)
    unmoved (Binary op a b) c f want h l = let e = unmoved a c f _ h.2 l in let d = unmoved b c f _ h.3 l in cc
    unmoved (Relation op a b) c f want h l = let e = unmoved a c f _ h.3 l in let d = unmoved b c f _ h.4 l in cc
    unmoved (IsClass a class) c f want h l = ap (λ p. IsClass p class) (unmoved a c f _ h.1 l)
    unmoved (Element a given) c f want h l = let e = names_left c f a _ h.1 l in let d = unmoved_phrases given c f _ h.3 l in cc
    unmoved (Field class n a) c f want h l = ap (Field class n) (unmoved a c f _ h.3 l)
    unmoved (Part m n a b) c f want h l = let e = unmoved a c f _ h.3 l in let d = unmoved b c f _ h.4 l in cc
    unmoved (Record class types values) c f want h l = ap (Record class types) (unmoved_fields types values c f h.2 l)
    unmoved (RecordAlone class n) c f want h l = refl
    unmoved (IfThen st t a b d) c f want h l = let e = unmoved a c f _ h.2 l in let g = unmoved b c f _ h.3 l in let k = unmoved d c f _ h.4 l in cc
    unmoved (Case st t a parts) c f want h l = let e = unmoved a c f _ h.2 l in let g = unmoved_phrases parts c f _ h.3 l in cc
    unmoved (Block st p decls items) c f want h l =
        let inner = leaves_more c (with_block table decls items c) (block_places decls items) f (block_names table decls items c) l in
        let e = unmoved_decls decls c (with_block table decls items c) f (kept (block_places decls items) f) h.1 l inner in
        let g = unmoved_items items (with_block table decls items c) (kept (block_places decls items) f) want h.2 inner in
        cc
    unmoved (Call st compares p a given) c f want h l = let e = called_left compares c f p a h.0 given h.2 l in let g = unmoved_actuals given c f h.3 l in cc
    unmoved (Assign st t a b) c f want h l = let e = unmoved a c f _ h.2 l in let g = unmoved b c f _ h.3 l in cc
    unmoved (WhileDo st a body) c f want h l = let e = unmoved a c f _ h.1 l in let g = unmoved body c f _ h.2 l in cc
    unmoved (ForStep st x a b d body) c f want h l =
        let e = unmoved a c f _ h.1 l in
        let g = unmoved b c f _ h.2 l in
        let k = unmoved d c f _ h.3 l in
        let i = unmoved body (at_control x.place c) (kept (x.place ∷ []) f) _ h.4 (leaves_more c (at_control x.place c) (x.place ∷ []) f refl l) in
        cc
    unmoved (ForList st x values body) c f want h l =
        let e = unmoved_phrases values c f _ h.1 l in
        let i = unmoved body (at_control x.place c) (kept (x.place ∷ []) f) _ h.2 (leaves_more c (at_control x.place c) (x.place ∷ []) f refl l) in
        cc
    unmoved (Goto st a) c f want h l = ap (Goto st) (names_left c f a _ h.1 l)
    unmoved (Assert st a) c f want h l = ap (Assert st) (unmoved a c f _ h.1 l)
    unmoved (Write st first roles values) c f want h l = ap (Write st first roles) (unmoved_values roles values c f h.1 l)
    unmoved (Read st next targets) c f want h l = ap (Read st next) (unmoved_targets targets c f h.1 l)
    unmoved (ReadCard st targets) c f want h l = ap (ReadCard st) (unmoved_cards targets c f h.1 l)
    unmoved (IoControl st a) c f want h l = ap (IoControl st) (unmoved a c f _ h.1 l)

    unmoved_phrases : (as_ : Phrases) (c : Context) (f : Place → Phrase) (want : Want) → AllFit table c as_ want → Leaves c f → with_phrases f as_ ≡ as_
    unmoved_phrases no_phrases c f want h l = refl
    unmoved_phrases (phrase_and a rest) c f want h l = let e = unmoved a c f want h.0 l in let d = unmoved_phrases rest c f want h.1 l in cc

    unmoved_values : (roles : List Role) (as_ : Phrases) (c : Context) (f : Place → Phrase) → ValuesFit table c roles as_ → Leaves c f → with_phrases f as_ ≡ as_
    unmoved_values roles no_phrases c f h l = refl
    unmoved_values [] (phrase_and a rest) c f h l = absurd h
    unmoved_values (placed ∷ roles) (phrase_and a rest) c f h l = let e = unmoved a c f _ h.1 l in let d = unmoved_values roles rest c f h.2 l in cc
    unmoved_values (sets width ∷ roles) (phrase_and a rest) c f h l = let e = unmoved a c f _ h.0 l in let d = unmoved_values roles rest c f h.1 l in cc

    unmoved_fields : (types : List ValueType) (as_ : Phrases) (c : Context) (f : Place → Phrase) → FieldsFit table c types as_ → Leaves c f → with_phrases f as_ ≡ as_
    unmoved_fields types no_phrases c f h l = refl
    unmoved_fields [] (phrase_and a rest) c f h l = absurd h
    unmoved_fields (t ∷ types) (phrase_and a rest) c f h l = let e = unmoved a c f _ h.1 l in let d = unmoved_fields types rest c f h.2 l in cc

    unmoved_targets : (targets : Targets) (c : Context) (f : Place → Phrase) → TargetsFit table c targets → Leaves c f → with_targets f targets ≡ targets
    unmoved_targets no_targets c f h l = refl
    unmoved_targets (target_and t a rest) c f h l = let e = unmoved a c f _ h.1 l in let d = unmoved_targets rest c f h.2 l in cc

    unmoved_cards : (targets : Targets) (c : Context) (f : Place → Phrase) → CardsFit table c targets → Leaves c f → with_targets f targets ≡ targets
    unmoved_cards no_targets c f h l = refl
    unmoved_cards (target_and t a rest) c f h l = let e = unmoved a c f _ h.2 l in let d = unmoved_cards rest c f h.3 l in cc

    unmoved_subscripts : (given : Subscripts) (c : Context) (f : Place → Phrase) → SubscriptsFit table c given → Leaves c f → with_subscripts f given ≡ given
    unmoved_subscripts no_subscripts c f h l = refl
    unmoved_subscripts (star_and rest) c f h l = ap star_and (unmoved_subscripts rest c f h l)
    unmoved_subscripts (subscript_and a rest) c f h l = let e = unmoved a c f _ h.0 l in let d = unmoved_subscripts rest c f h.1 l in cc

    unmoved_actuals : (given : Actuals) (c : Context) (f : Place → Phrase) → ActualsFit table c given → Leaves c f → with_actuals f given ≡ given
    unmoved_actuals no_actuals c f h l = refl
    unmoved_actuals (actual_and a rest) c f h l = let e = unmoved_actual a c f h.0 l in let d = unmoved_actuals rest c f h.1 l in cc

    unmoved_actual : (a : Actual) (c : Context) (f : Place → Phrase) → ActualFits table c a → Leaves c f → with_actual f a ≡ a
    unmoved_actual (Given v g first a) c f h l = ap (Given v g first) (unmoved a c f _ h.0 l)
    unmoved_actual (Alone p a) c f h l = ap (Alone p) (names_left c f a _ h.1 l)
    unmoved_actual (Subarray a given) c f h l = let e = names_left c f a _ h.1 l in let d = unmoved_subscripts given c f h.2 l in cc

    unmoved_items : (items : Items) (c : Context) (f : Place → Phrase) (want : Want) → ItemsFit table c items want → Leaves c f → with_items f items ≡ items
    unmoved_items no_items c f want h l = refl
    unmoved_items (item_and labels a no_items) c f want h l = ap (λ a. item_and labels a no_items) (unmoved a c f want h l)
    unmoved_items (item_and labels a (item_and more b rest)) c f want h l = let e = unmoved a c f _ h.0 l in let d = unmoved_items (item_and more b rest) c f want h.1 l in cc

    pub unmoved_bounds : (bounds : Bounds) (c : Context) (f : Place → Phrase) → BoundsFit table c bounds → Leaves c f → with_bounds f bounds ≡ bounds
    unmoved_bounds no_bounds c f h l = refl
    unmoved_bounds (bound_and a b rest) c f h l = let e = unmoved a c f _ h.0 l in let d = unmoved b c f _ h.1 l in let g = unmoved_bounds rest c f h.2 l in cc

    unmoved_decls : (decls : Decls) (around c : Context) (f g : Place → Phrase) → DeclsFit table around c decls → Leaves around f → Leaves c g → with_decls f g decls ≡ decls
    unmoved_decls no_decls around c f g h l k = refl
    unmoved_decls (variables_and names rest) around c f g h l k = ap (variables_and names) (unmoved_decls rest around c f g h l k)
    unmoved_decls (arrays_and t names bounds rest) around c f g h l k = let e = unmoved_bounds bounds around f h.0 l in let d = unmoved_decls rest around c f g h.1 l k in cc
    unmoved_decls (procedure_and x result formals body rest) around c f g h l k =
        let e = unmoved body (with_formals formals c) (kept (formal_places formals) g) _ h.0.2 (leaves_more c (with_formals formals c) (formal_places formals) g (formals_names formals c) k) in
        let d = unmoved_decls rest around c f g h.1 l k in
        cc
