-- What numbers stand for in code in memory; and a class is told by its number.
use Rattle.std.proofs.Common.{◌≡◌, ◌==◌, ◌||◌, ℕ, ◌<◌, List, [], ◌∷◌, map, length, Bool, true, false, refl, sym, ap, ◌∙◌, subst, nat_eq, arith}
use Rattle.std.specs.List.{All}
use Rattle.std.proofs.lemmas.Bool.Decides.{eqb_tells}
use Rattle.std.proofs.lemmas.List.{get_or-map}
use Rattle.std.proofs.lemmas.Option.{slice_get-map}
use Rattle.std.proofs.lemmas.List.Elements.{All-head, All-tail, All-get_or}
use Rattle.value_ops.specs.declared.places.Place.{Place}
use Rattle.value_ops.specs.declared.values.ClassId.{ClassId}
use Rattle.value_ops.specs.declared.values.SetId.{SetId}
use Rattle.record_classes.specs.Classes as classes
use Rattle.algolw_typing.specs.Types.{is_place, has}
use Rattle.algolw_typing.specs.ProgramView.{numbered, set_view, nowhere_set}
use Rattle.stack_code.specs.declared.heads.Stars.{Stars}
use Rattle.stack_code.specs.CodeView.{Given, GivenFits, numbers, class_place, coded_view, procedure_view, text_head_view, call_view, no_procedure, no_text, no_call}
use Rattle.stack_code.specs.Made.{NumbersAreTold}

-- two tests that answer alike
alike : (x y : Bool) → (x ≡ true → y ≡ true) → (y ≡ true → x ≡ true) → x ≡ y
alike true true h k = refl
alike true false h k = sym (h refl)
alike false true h k = k refl
alike false false h k = refl

same_place : (p : Place) → is_place p p ≡ true
same_place p =
    let card : nat_eq p.card p.card ≡ true = grind (arith, eqb_tells) in
    let column : nat_eq p.column p.column ≡ true = grind (arith, eqb_tells) in
    rw (card, column) refl

same_number : (n k : ℕ) → n ≡ k → (n == k) ≡ true
same_number n k e = grind (arith, eqb_tells, e)

number_same : (n k : ℕ) → (n == k) ≡ true → n ≡ k
number_same n k e = grind (arith, eqb_tells, e)

same : (g : Given) (c d : ClassId) → GivenFits g → c.0 < length g.class_places → d.0 < length g.class_places → is_place (class_place g c) (class_place g d) ≡ (c.0 == d.0)
same g c d f h k = alike (is_place (class_place g c) (class_place g d)) (c.0 == d.0) (λ e. same_number c.0 d.0 (f.apart c.0 d.0 h k e))
    (λ e. subst (λ n. is_place (numbered g.class_places c.0) (numbered g.class_places n) ≡ true) (number_same c.0 d.0 e) (same_place (numbered g.class_places c.0)))

among : (g : Given) (c : ClassId) → GivenFits g → c.0 < length g.class_places → (ms : List ClassId) → All (λ (d : ClassId). d.0 < length g.class_places) ms → has (map (λ d. numbered g.class_places d.0) ms) (class_place g c) ≡ classes.has ms c
among g c f h [] m = refl
among g c f h (d ∷ ms) m =
    ap (λ b. b || has (map (λ d'. numbered g.class_places d'.0) ms) (class_place g c)) (same g d c f (All-head (λ (x : ClassId). x.0 < length g.class_places) d ms m) h)
    ∙ ap (λ b. (d.0 == c.0) || b) (among g c f h ms (All-tail (λ (x : ClassId). x.0 < length g.class_places) d ms m))

listed : (g : Given) (s : SetId) (c : ClassId) → GivenFits g → s.0 < length g.classes.sets → c.0 < length g.class_places → has (set_view (numbers g) s.0) (class_place g c) ≡ classes.has (classes.set_of g.classes s) c
listed g s c f h k =
    ap (λ l. has l (class_place g c)) (get_or-map (map (λ (d : ClassId). numbered g.class_places d.0)) g.classes.sets s.0 [] nowhere_set h)
    ∙ among g c f k (classes.set_of g.classes s) (All-get_or (All (λ (d : ClassId). d.0 < length g.class_places)) g.classes.sets s.0 [] h f.members)

pub numbers_are_told : NumbersAreTold
numbers_are_told = record {
  fetched = λ c k. slice_get-map (coded_view c.given c.added) c.instructions k;
  procedures = λ g a n d l. get_or-map (procedure_view g) a.procedures n d no_procedure l;
  texts = λ g a n d l. get_or-map (text_head_view g) a.texts n d no_text l;
  calls = λ a n d l. get_or-map call_view a.calls n d no_call l;
  stars = λ a n d l. get_or-map (λ (s : Stars). s.are.items) a.stars n d [] l;
  same_class = same;
  listed = listed;
}
