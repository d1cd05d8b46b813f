-- A phrase that fits suits, where no name is bound twice along the way to it.
use Rattle.std.proofs.Common.{◌≡◌, ℕ, ◌+◌, ◌≤◌, List, [], ◌∷◌, length, refl, sym, subst, ap, ◌∙◌, arith}
use Rattle.std.proofs.lemmas.Bool.{and_parts, eqb-true}
use Rattle.std.specs.Prelude.{Option, Some, Bool, true, false, ◌||◌, nat_eq}
use Rattle.value_ops.specs.declared.places.Place.{Place}
use Rattle.algolw_typing.specs.Types.{ValueType, Gives, Simple, Statement, is_place, has}
use Rattle.algolw_typing.specs.Verdicts.{Verdict, Good, Fault, Silent}
use Rattle.algolw_typing.specs.Meanings.{FormalType, by_name, by_value, by_result, by_value_result, for_array, for_procedure}
use Rattle.algolw_typing.specs.Actuals.{table_a, actuals_fit}
use Rattle.program_meaning.specs.Phrases.{Phrase, Empty, Constant, Named, Variable, Array, Label, Procedure, Copied, Unary, Binary, Relation, IsClass, Element, Field, Part as PartOf, Record, RecordAlone, IfThen, Case, Block, Call, Assign, WhileDo, ForStep, ForList, Goto, Assert, Write, Read, ReadCard, IoControl, Phrases, no_phrases, phrase_and, Targets, no_targets, target_and, Subscripts, no_subscripts, star_and, subscript_and, Actuals, no_actuals, actual_and, Actual, Given, Alone, Subarray, Items, no_items, item_and, Bounds, no_bounds, bound_and, Decls, no_decls, variables_and, arrays_and, procedure_and, Formal, formal_places, decl_places, label_places, block_places, Role, placed, sets}
use Rattle.program_meaning.specs.Copying.{formal_types, actual_count, is_good}
use Rattle.program_soundness.specs.Kinds as kinds
use Rattle.program_soundness.specs.Kinds.{Want, a_statement, Meaning, Context, meaning_in, Table, at_control, with_formals, with_block}
use Rattle.program_soundness.specs.Fits.{Names, CallFits, IsCalled, they_fit, actual_part, actual_parts, Fits, AllFit, ValuesFit, FieldsFit, TargetsFit, CardsFit, SubscriptsFit, ItemsFit, BoundsFit, DeclsFit, ActualsFit, ActualFits}
use Rattle.faultless_programs.proofs.Calls.{table_through}
use Rattle.phrase_code.specs.Sizes.{Known, kind_at, head_kind, call_kind, formals_known, block_known, control_known}
use Rattle.compilable_programs.specs.Suits.{BoundsAvoid, DeclsAvoid, IsPassed, ArePassed, CallSuits, Suits, AllSuit, TargetsSuit, SubscriptsSuit, ActualsSuit, ActualSuits, ItemsSuit, BoundsSuit, DeclsSuit}
use Rattle.compilable_programs.proofs.Contexts.{Alike, found, names_of, alike_formals, alike_block, formals_names, block_names}
use Rattle.compilable_programs.proofs.Unmoved.{Leaves, unmoved}
use Rattle.compilable_programs.proofs.Binders.{weight, weight_both, bound, phrases_bound, targets_bound, subscripts_bound, actuals_bound, actual_bound, items_bound, bounds_bound, decls_bound}

-- ---- places as they are counted

abbrev pub one_if : Bool → ℕ
one_if true = 1
one_if false = 0

-- one for each that stands at the place
abbrev pub at : Place → Place → ℕ
at p q = one_if (is_place q p)

pub has_weighs : (p : Place) (ps : List Place) → has ps p ≡ true → 1 ≤ weight (at p) ps
has_weighs p [] h = absurd (cc h)
has_weighs p (q ∷ ps) h = go (is_place q p) (has_weighs p ps) h
  where
    go : (b : Bool) → (has ps p ≡ true → 1 ≤ weight (at p) ps) → (b || has ps p) ≡ true → 1 ≤ one_if b + weight (at p) ps
    go true f h = omega arith
    go false f h = omega (arith, f h)

pub none_has : (p : Place) (ps : List Place) → weight (at p) ps ≤ 0 → has ps p ≡ false
none_has p [] h = refl
none_has p (q ∷ ps) h = go (is_place q p) refl (none_has p ps (omega (arith, h)))
  where
    go : (b : Bool) → is_place q p ≡ b → has ps p ≡ false → (b || has ps p) ≡ false
    go true e f = absurd (omega (arith, h, ap one_if e))
    go false e f = f

-- at each place at most one name of the context, or one that is bound
abbrev pub Apart : Context → (Place → ℕ) → Type 0
Apart c n = (p : Place) → weight (at p) (names_of c) + n p ≤ 1

avoids : (c : Context) (places : List Place) → Apart c (λ p. weight (at p) places) → (b : Phrase) → Leaves c (λ x. elim (has places x) [ true ↦ b | false ↦ Named x ])
avoids c places s b x h = ap (λ t. elim t [ true ↦ b | false ↦ Named x ]) (none_has x places (omega (arith, s x, has_weighs x (names_of c) h)))

apart_block : (table : Table) (decls : Decls) (items : Items) (c : Context) (n : Place → ℕ) → Apart c (λ p. weight (at p) (decl_places decls) + (weight (at p) (label_places items) + n p)) → Apart (with_block table decls items c) n
apart_block table decls items c n s p = omega (arith, s p, ap (weight (at p)) (block_names table decls items c), weight_both (at p) (block_places decls items) (names_of c), weight_both (at p) (decl_places decls) (label_places items))

apart_formals : (formals : List Formal) (c : Context) (n : Place → ℕ) → Apart c (λ p. weight (at p) (formal_places formals) + n p) → Apart (with_formals formals c) n
apart_formals formals c n s p = omega (arith, s p, ap (weight (at p)) (formals_names formals c), weight_both (at p) (formal_places formals) (names_of c))

-- ---- calls

good_is : (v : Verdict) → is_good v ≡ true → (g : Gives) × (v ≡ Good g)
good_is (Good g) h = (g, refl)
good_is (Fault n p) h = absurd (cc h)
good_is Silent h = absurd (cc h)

given_passed : (c : Context) (w : Place) (f : FormalType) (a : Actual) (v : Verdict) (g : Gives) → table_a w f (actual_part c f a) v ≡ Good g → IsPassed a f
given_passed c w (for_array t n) (Given b y first a) v g e = absurd (cc e)
given_passed c w (by_name t) (Given b y first a) v g e = tt
given_passed c w (by_value t) (Given b y first a) v g e = tt
given_passed c w (by_result t) (Given b Statement first a) v g e = absurd (cc e)
given_passed c w (by_result t) (Given b (Simple u) first a) v g e = tt
given_passed c w (by_value_result t) (Given b y first a) v g e = tt
given_passed c w (for_procedure result) (Given b y first a) v g e = tt
given_passed c w f (Alone p a) v g e = tt
given_passed c w f (Subarray a given) v g e = tt

passed : (c : Context) (w : Place) (fs : List Formal) (given : Actuals) → length (formal_types fs) ≡ actual_count given → is_good (actuals_fit w (formal_types fs) (actual_parts c (formal_types fs) given) (Good Statement)) ≡ true → ArePassed given fs
passed c w [] no_actuals n h = tt
passed c w [] (actual_and a rest) n h = absurd (omega (arith, n))
passed c w (f ∷ fs) no_actuals n h = absurd (omega (arith, n))
passed c w (f ∷ fs) (actual_and a rest) n h =
    let more = actuals_fit w (formal_types fs) (actual_parts c (formal_types fs) rest) (Good Statement) in
    let g = good_is (table_a w f.is (actual_part c f.is a) more) h in
    (given_passed c w f.is a more g.0 g.1, passed c w fs rest (omega (arith, n)) (ap is_good (table_through w f.is (actual_part c f.is a) more g.0 g.1).0))

called_passed : (c : Context) (w : Place) (fs : List Formal) (types : List FormalType) (given : Actuals) → formal_types fs ≡ types → they_fit c w types given ≡ true → ArePassed given fs
called_passed c w fs types given e h =
    let k = subst (λ ts. they_fit c w ts given ≡ true) (sym e) h in
    let parts = and_parts (nat_eq (length (formal_types fs)) (actual_count given)) (is_good (actuals_fit w (formal_types fs) (actual_parts c (formal_types fs) given) (Good Statement))) k in
    passed c w fs given (eqb-true (length (formal_types fs)) (actual_count given) parts.0) parts.1

-- a declared procedure is called in line
in_line_suits : (known : List Known) (c : Context) (w : Place) (a : Phrase) (result : Option ValueType) (types : List FormalType) (given : Actuals) → Alike known c → Names c a (kinds.a_procedure result types) → they_fit c w types given ≡ true → CallSuits (call_kind false (head_kind known a)) given
in_line_suits known c w a result types given k n h =
    let f = found known c n.0 (kinds.a_procedure result types) k n.2 in
    subst (λ kind. CallSuits (call_kind false kind) given) (sym (ap (head_kind known) n.1 ∙ f.is ∙ ap Some f.shows.1)) (called_passed c w f.shows.0 types given f.shows.2 h)

-- any other call goes through
through_kind : (known : List Known) (c : Context) (x : Place) (m : Meaning) (result : Option ValueType) (given : Actuals) → Alike known c → meaning_in c x ≡ Some m → IsCalled m result → CallSuits (call_kind true (kind_at known x)) given
through_kind known c x (kinds.a_procedure r types) result given k e h =
    let f = found known c x (kinds.a_procedure r types) k e in
    subst (λ kind. CallSuits (call_kind true kind) given) (sym (f.is ∙ ap Some f.shows.1)) tt
through_kind known c x (kinds.a_procedure_formal r) result given k e h =
    let f = found known c x (kinds.a_procedure_formal r) k e in
    subst (λ kind. CallSuits (call_kind true kind) given) (sym (f.is ∙ ap Some f.shows)) tt
through_kind known c x (kinds.a_variable t) result given k e h = absurd h
through_kind known c x kinds.a_control result given k e h = absurd h
through_kind known c x (kinds.an_array t n) result given k e h = absurd h
through_kind known c x kinds.a_label result given k e h = absurd h

call_suits : (compares : Bool) (known : List Known) (c : Context) (w : Place) (a : Phrase) (result : Option ValueType) (given : Actuals) → Alike known c → CallFits compares c w a result given → CallSuits (call_kind compares (head_kind known a)) given
call_suits false known c w a result given k h = in_line_suits known c w a result h.0 given k h.1 h.2
call_suits true known c w a result given k h = subst (λ kind. CallSuits (call_kind true kind) given) (sym (ap (head_kind known) h.1.1)) (through_kind known c h.1.0 h.0 result given k h.1.2 h.2)

-- ---- phrases

module _ (table : Table) where
  bounds_avoid : (bounds : Bounds) (c : Context) (places : List Place) → BoundsFit table c bounds → Apart c (λ p. weight (at p) places) → BoundsAvoid places bounds
  bounds_avoid no_bounds c places h s = tt
  bounds_avoid (bound_and a b rest) c places h s = (λ x. unmoved table a c _ _ h.0 (avoids c places s x), λ x. unmoved table b c _ _ h.1 (avoids c places s x), bounds_avoid rest c places h.2 s)

  decls_avoid : (decls : Decls) (around c : Context) (places : List Place) → DeclsFit table around c decls → Apart around (λ p. weight (at p) places) → DeclsAvoid places decls
  decls_avoid no_decls around c places h s = tt
  decls_avoid (variables_and names rest) around c places h s = decls_avoid rest around c places h s
  decls_avoid (arrays_and t names bounds rest) around c places h s = (bounds_avoid bounds around places h.0 s, decls_avoid rest around c places h.1 s)
  decls_avoid (procedure_and x result formals body rest) around c places h s = decls_avoid rest around c places h.1 s

  mutual
    pub suits : (a : Phrase) (known : List Known) (c : Context) (want : Want) → Fits table c a want → Alike known c → Apart c (λ p. bound (at p) a) → Suits known a
    suits Empty known c want h k s = tt
    suits (Constant v) known c want h k s = tt
    suits (Named x) known c want h k s = tt
    suits (Variable n) known c want h k s = tt
    suits (Array n given) known c want h k s = tt
    suits (Label n) known c want h k s = tt
    suits (Procedure n) known c want h k s = tt
    suits (Copied m a) known c want h k s = tt
    suits (RecordAlone class n) known c want h k s = tt
    suits (Goto st a) known c want h k s = tt
    suits (Unary op a) known c want h k s = suits a known c _ h.1 k s
    suits (Binary op a b) known c want h k s = (suits a known c _ h.2 k (λ p. omega (arith, s p)), suits b known c _ h.3 k (λ p. omega (arith, s p)))
    suits (Relation op a b) known c want h k s = (suits a known c _ h.3 k (λ p. omega (arith, s p)), suits b known c _ h.4 k (λ p. omega (arith, s p)))
    suits (IsClass a class) known c want h k s = suits a known c _ h.1 k s
    suits (Element a given) known c want h k s = all_suit given known c _ h.3 k s
    suits (Field class n a) known c want h k s = suits a known c _ h.3 k s
    suits (PartOf m n a b) known c want h k s = (suits a known c _ h.3 k (λ p. omega (arith, s p)), suits b known c _ h.4 k (λ p. omega (arith, s p)))
    suits (Record class types values) known c want h k s = fields_suit types values known c h.2 k s
    suits (IfThen st t a b d) known c want h k s = (suits a known c _ h.2 k (λ p. omega (arith, s p)), suits b known c _ h.3 k (λ p. omega (arith, s p)), suits d known c _ h.4 k (λ p. omega (arith, s p)))
    suits (Case st t a parts) known c want h k s = (suits a known c _ h.2 k (λ p. omega (arith, s p)), all_suit parts known c _ h.3 k (λ p. omega (arith, s p)))
    suits (Block st p decls items) known c want h k s =
        let inner = with_block table decls items c in
        let i = alike_block table decls items known c k in
        let t = apart_block table decls items c (λ q. decls_bound (at q) decls + items_bound (at q) items) s in (
          decls_avoid decls c inner (block_places decls items) h.1 (λ q. omega (arith, s q, weight_both (at q) (decl_places decls) (label_places items))),
          decls_suit decls known (block_known decls items known) c inner h.1 k i (λ q. omega (arith, s q)) (λ q. omega (arith, t q)),
          items_suit items (block_known decls items known) inner want h.2 i (λ q. omega (arith, t q)),
        )
    suits (Call st compares w a given) known c want h k s = (call_suits compares known c w a h.0 given k h.2, actuals_suit given known c h.3 k s)
    suits (Assign st t a b) known c want h k s = (suits a known c _ h.2 k (λ p. omega (arith, s p)), suits b known c _ h.3 k (λ p. omega (arith, s p)))
    suits (WhileDo st a body) known c want h k s = (suits a known c _ h.1 k (λ p. omega (arith, s p)), suits body known c _ h.2 k (λ p. omega (arith, s p)))
    suits (ForStep st x a b d body) known c want h k s = (
      suits a known c _ h.1 k (λ p. omega (arith, s p)),
      suits b known c _ h.2 k (λ p. omega (arith, s p)),
      suits d known c _ h.3 k (λ p. omega (arith, s p)),
      suits body (control_known x known) (at_control x.place c) _ h.4 (refl, tt, k) (λ p. omega (arith, s p)),
    )
    suits (ForList st x values body) known c want h k s = (all_suit values known c _ h.1 k (λ p. omega (arith, s p)), suits body (control_known x known) (at_control x.place c) _ h.2 (refl, tt, k) (λ p. omega (arith, s p)))
    suits (Assert st a) known c want h k s = suits a known c _ h.1 k s
    suits (Write st first roles values) known c want h k s = values_suit roles values known c h.1 k s
    suits (Read st next targets) known c want h k s = targets_suit targets known c h.1 k s
    suits (ReadCard st targets) known c want h k s = cards_suit targets known c h.1 k s
    suits (IoControl st a) known c want h k s = suits a known c _ h.1 k s

    all_suit : (as_ : Phrases) (known : List Known) (c : Context) (want : Want) → AllFit table c as_ want → Alike known c → Apart c (λ p. phrases_bound (at p) as_) → AllSuit known as_
    all_suit no_phrases known c want h k s = tt
    all_suit (phrase_and a rest) known c want h k s = (suits a known c want h.0 k (λ p. omega (arith, s p)), all_suit rest known c want h.1 k (λ p. omega (arith, s p)))

    values_suit : (roles : List Role) (as_ : Phrases) (known : List Known) (c : Context) → ValuesFit table c roles as_ → Alike known c → Apart c (λ p. phrases_bound (at p) as_) → AllSuit known as_
    values_suit roles no_phrases known c h k s = tt
    values_suit [] (phrase_and a rest) known c h k s = absurd h
    values_suit (placed ∷ roles) (phrase_and a rest) known c h k s = (suits a known c _ h.1 k (λ p. omega (arith, s p)), values_suit roles rest known c h.2 k (λ p. omega (arith, s p)))
    values_suit (sets width ∷ roles) (phrase_and a rest) known c h k s = (suits a known c _ h.0 k (λ p. omega (arith, s p)), values_suit roles rest known c h.1 k (λ p. omega (arith, s p)))

    fields_suit : (types : List ValueType) (as_ : Phrases) (known : List Known) (c : Context) → FieldsFit table c types as_ → Alike known c → Apart c (λ p. phrases_bound (at p) as_) → AllSuit known as_
    fields_suit types no_phrases known c h k s = tt
    fields_suit [] (phrase_and a rest) known c h k s = absurd h
    fields_suit (t ∷ types) (phrase_and a rest) known c h k s = (suits a known c _ h.1 k (λ p. omega (arith, s p)), fields_suit types rest known c h.2 k (λ p. omega (arith, s p)))

    targets_suit : (targets : Targets) (known : List Known) (c : Context) → TargetsFit table c targets → Alike known c → Apart c (λ p. targets_bound (at p) targets) → TargetsSuit known targets
    targets_suit no_targets known c h k s = tt
    targets_suit (target_and t a rest) known c h k s = (suits a known c _ h.1 k (λ p. omega (arith, s p)), targets_suit rest known c h.2 k (λ p. omega (arith, s p)))

    cards_suit : (targets : Targets) (known : List Known) (c : Context) → CardsFit table c targets → Alike known c → Apart c (λ p. targets_bound (at p) targets) → TargetsSuit known targets
    cards_suit no_targets known c h k s = tt
    cards_suit (target_and t a rest) known c h k s = (suits a known c _ h.2 k (λ p. omega (arith, s p)), cards_suit rest known c h.3 k (λ p. omega (arith, s p)))

    subscripts_suit : (given : Subscripts) (known : List Known) (c : Context) → SubscriptsFit table c given → Alike known c → Apart c (λ p. subscripts_bound (at p) given) → SubscriptsSuit known given
    subscripts_suit no_subscripts known c h k s = tt
    subscripts_suit (star_and rest) known c h k s = subscripts_suit rest known c h k s
    subscripts_suit (subscript_and a rest) known c h k s = (suits a known c _ h.0 k (λ p. omega (arith, s p)), subscripts_suit rest known c h.1 k (λ p. omega (arith, s p)))

    actuals_suit : (given : Actuals) (known : List Known) (c : Context) → ActualsFit table c given → Alike known c → Apart c (λ p. actuals_bound (at p) given) → ActualsSuit known given
    actuals_suit no_actuals known c h k s = tt
    actuals_suit (actual_and a rest) known c h k s = (actual_suits a known c h.0 k (λ p. omega (arith, s p)), actuals_suit rest known c h.1 k (λ p. omega (arith, s p)))

    actual_suits : (a : Actual) (known : List Known) (c : Context) → ActualFits table c a → Alike known c → Apart c (λ p. actual_bound (at p) a) → ActualSuits known a
    actual_suits (Given v g first a) known c h k s = suits a known c _ h.0 k s
    actual_suits (Alone p a) known c h k s = tt
    actual_suits (Subarray a given) known c h k s = subscripts_suit given known c h.2 k s

    items_suit : (items : Items) (known : List Known) (c : Context) (want : Want) → ItemsFit table c items want → Alike known c → Apart c (λ p. items_bound (at p) items) → ItemsSuit known items
    items_suit no_items known c want h k s = tt
    items_suit (item_and labels a no_items) known c want h k s = (suits a known c want h k (λ p. omega (arith, s p)), tt)
    items_suit (item_and labels a (item_and more b rest)) known c want h k s = (suits a known c _ h.0 k (λ p. omega (arith, s p)), items_suit (item_and more b rest) known c want h.1 k (λ p. omega (arith, s p)))

    bounds_suit : (bounds : Bounds) (known : List Known) (c : Context) → BoundsFit table c bounds → Alike known c → Apart c (λ p. bounds_bound (at p) bounds) → BoundsSuit known bounds
    bounds_suit no_bounds known c h k s = tt
    bounds_suit (bound_and a b rest) known c h k s = (suits a known c _ h.0 k (λ p. omega (arith, s p)), suits b known c _ h.1 k (λ p. omega (arith, s p)), bounds_suit rest known c h.2 k (λ p. omega (arith, s p)))

    decls_suit : (decls : Decls) (outside inside : List Known) (around c : Context) → DeclsFit table around c decls → Alike outside around → Alike inside c → Apart around (λ p. decls_bound (at p) decls) → Apart c (λ p. decls_bound (at p) decls) → DeclsSuit outside inside decls
    decls_suit no_decls outside inside around c h k i s t = tt
    decls_suit (variables_and names rest) outside inside around c h k i s t = decls_suit rest outside inside around c h k i s t
    decls_suit (arrays_and type names bounds rest) outside inside around c h k i s t = (
      bounds_suit bounds outside around h.0 k (λ p. omega (arith, s p)),
      decls_suit rest outside inside around c h.1 k i (λ p. omega (arith, s p)) (λ p. omega (arith, t p)),
    )
    decls_suit (procedure_and x result formals body rest) outside inside around c h k i s t = (
      suits body (formals_known formals inside) (with_formals formals c) _ h.0.2 (alike_formals formals inside c i) (apart_formals formals c (λ p. bound (at p) body) (λ p. omega (arith, t p))),
      decls_suit rest outside inside around c h.1 k i (λ p. omega (arith, s p)) (λ p. omega (arith, t p)),
    )
