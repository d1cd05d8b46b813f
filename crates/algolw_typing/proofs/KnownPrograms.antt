-- Nothing in a program without faults is unknown: its names and classes, in order of place, are those that its naming has.
use Rattle.std.proofs.Common.{◌≡◌, refl, sym, subst, List, [], ◌∷◌, map, Bool, true, false, ◌||◌, nat_eq, arith}
use Rattle.std.proofs.lemmas.Bool.Decides.{eqb_tells}
use Rattle.value_ops.specs.declared.places.Place.{Place}
use Rattle.algolw_tree.specs.Tree.{Phrase}
use Rattle.algolw_typing.specs.Types.{is_place, is_before, has}
use Rattle.algolw_typing.specs.Verdicts.{fault_of}
use Rattle.algolw_typing.specs.Typing.{faults}
use Rattle.algolw_typing.specs.Naming.{Class, Naming, scope_of, standard_names, inside, outermost, declares, naming, program_naming}
use Rattle.algolw_typing.specs.Scopes.{standard_scope}
use Rattle.algolw_typing.specs.Programs.{inserted_by, by_place, program_of}
use Rattle.algolw_typing.specs.Faults.{typed_program, program_verdict, faults_found, program_faults}
use Rattle.algolw_typing.specs.Known.{FieldsKnow, ClassesKnow, Knows, name_places, class_places, NothingUnknown}
use Rattle.algolw_typing.proofs.GoodScopes.{NoFaults, none_first}
use Rattle.algolw_typing.proofs.WholeTrees.{none_in_order}
use Rattle.algolw_typing.proofs.KnownScopes.{EachHad, Within, within_first, within_second, infos_places}
use Rattle.algolw_typing.proofs.KnownBlocks.{around_standard}
use Rattle.algolw_typing.proofs.KnownOuts.{Sound}
use Rattle.algolw_typing.proofs.NamedClasses.{classes_are_names}
use Rattle.algolw_typing.proofs.KnownTrees.{phrase_known}

-- ---- what is put in order of place is still there

same_place : (p : Place) → is_place p p ≡ true
same_place p =
    let card : nat_eq p.card p.card ≡ true = grind (arith, eqb_tells) in
    let column : nat_eq p.column p.column ≡ true = grind (arith, eqb_tells) in
    rw (card, column) refl

behind_had : (first more other : Bool) → (more ≡ true → other ≡ true) → (first || more) ≡ true → (first || other) ≡ true
behind_had true more other h k = refl
behind_had false more other h k = h k

or_true : (first more : Bool) → more ≡ true → (first || more) ≡ true
or_true true more h = refl
or_true false more h = h

placed_new : {A : Type 0} (place : A → Place) (b : Bool) (a c : A) (as_ bs : List A) → has (map place bs) (place a) ≡ true → has (map place (elim b [ true ↦ c ∷ bs | false ↦ a ∷ as_ ])) (place a) ≡ true
placed_new place true a c as_ bs h = or_true (is_place (place c) (place a)) (has (map place bs) (place a)) h
placed_new place false a c as_ bs h = rw (same_place (place a)) refl

inserted_new : {A : Type 0} (place : A → Place) (a : A) (bs : List A) → has (map place (inserted_by place a bs)) (place a) ≡ true
inserted_new place a [] = rw (same_place (place a)) refl
inserted_new place a (b ∷ bs) = placed_new place (is_before (place b) (place a)) a b (b ∷ bs) (inserted_by place a bs) (inserted_new place a bs)

placed_old : {A : Type 0} (place : A → Place) (b : Bool) (a c : A) (as_ bs : List A) (p : Place) → (has (map place as_) p ≡ true → has (map place bs) p ≡ true) → has (map place (c ∷ as_)) p ≡ true → has (map place (elim b [ true ↦ c ∷ bs | false ↦ a ∷ c ∷ as_ ])) p ≡ true
placed_old place true a c as_ bs p h k = behind_had (is_place (place c) p) (has (map place as_) p) (has (map place bs) p) h k
placed_old place false a c as_ bs p h k = or_true (is_place (place a) p) (has (map place (c ∷ as_)) p) k

inserted_old : {A : Type 0} (place : A → Place) (a : A) (bs : List A) (p : Place) → has (map place bs) p ≡ true → has (map place (inserted_by place a bs)) p ≡ true
inserted_old place a [] p h = cc
inserted_old place a (b ∷ bs) p h = placed_old place (is_before (place b) (place a)) a b bs (inserted_by place a bs) p (inserted_old place a bs p) h

each_more : {A : Type 0} (place : A → Place) (s t : List Place) (as_ : List A) → ((p : Place) → has s p ≡ true → has t p ≡ true) → EachHad place s as_ → EachHad place t as_
each_more place s t [] h k = tt
each_more place s t (a ∷ as_) h k = (h (place a) k.0, each_more place s t as_ h k.1)

each_had : {A : Type 0} (place : A → Place) (as_ : List A) → EachHad place (map place (by_place place as_)) as_
each_had place [] = tt
each_had place (a ∷ as_) =
    let more = by_place place as_ in
    (inserted_new place a more, each_more place (map place more) (map place (inserted_by place a more)) as_ (inserted_old place a more) (each_had place as_))

-- ---- record classes in order of place

placed_class : (classes : List Place) (b : Bool) (c d : Class) (cs ds : List Class) → FieldsKnow classes c.fields → ClassesKnow classes (d ∷ cs) → ClassesKnow classes ds → ClassesKnow classes (elim b [ true ↦ d ∷ ds | false ↦ c ∷ d ∷ cs ])
placed_class classes true c d cs ds h k more = (k.0, more)
placed_class classes false c d cs ds h k more = (h, k)

inserted_class : (classes : List Place) (c : Class) (cs : List Class) → FieldsKnow classes c.fields → ClassesKnow classes cs → ClassesKnow classes (inserted_by (λ e. e.place) c cs)
inserted_class classes c [] h k = (h, tt)
inserted_class classes c (d ∷ cs) h k = placed_class classes (is_before d.place c.place) c d cs (inserted_by (λ e. e.place) c cs) h k (inserted_class classes c cs h k.1)

classes_in_order : (classes : List Place) (cs : List Class) → ClassesKnow classes cs → ClassesKnow classes (by_place (λ c. c.place) cs)
classes_in_order classes [] h = tt
classes_in_order classes (c ∷ cs) h = inserted_class classes c (by_place (λ e. e.place) cs) h.0 (classes_in_order classes cs h.1)

-- ---- programs

abbrev own_naming : Phrase → Naming
own_naming x = naming (inside outermost standard_names) (scope_of standard_names ∷ []) x

program_within : (x : Phrase) → Within (name_places (program_of x)) (class_places (program_of x)) (program_naming x)
program_within x = record { named = each_had (λ i. i.place) (program_naming x).names; classed = each_had (λ c. c.place) (program_naming x).classes }

program_known : (x : Phrase) → program_faults x ≡ [] → Sound (class_places (program_of x)) (Knows (name_places (program_of x)) (class_places (program_of x)) (program_of x).root) (own_naming x)
program_known x e =
    let o = typed_program x in
    let none = none_in_order (faults_found x o) (subst NoFaults (sym e) tt) in
    let standard = declares outermost standard_names in
    let within = program_within x in
    let had = infos_places (name_places (program_of x)) outermost standard_names (within_first standard (own_naming x) within).named in
    let fine = phrase_known (inside outermost standard_names) (scope_of standard_names ∷ []) (standard_scope ∷ []) (around_standard had) x (within_second standard (own_naming x) within) in
    fine.sound (none_first (faults o) (fault_of (program_verdict x o)) none)

pub nothing_is_unknown : NothingUnknown
nothing_is_unknown = record {
  tree = λ x e. (program_known x e).tree;
  fields = λ x e. classes_in_order (class_places (program_of x)) (program_naming x).classes (program_known x e).fields;
  classes = classes_are_names;
}
