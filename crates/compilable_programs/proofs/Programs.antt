-- A program without faults may be compiled.
use Rattle.std.proofs.Common.{◌≡◌, ℕ, ◌≤◌, List, [], ◌∷◌, ◌++◌, map, get_or, refl, sym, subst, ap, ◌∙◌, arith}
use Rattle.std.proofs.lemmas.List.{map-append}
use Rattle.std.specs.Prelude.{true, false}
use Rattle.value_ops.specs.declared.places.Place.{Place}
use Rattle.algolw_tree.specs.declared.programs.NameInfo.{NameInfo}
use Rattle.algolw_tree.specs.Tree.{Phrase}
use Rattle.algolw_typing.specs.Types.{has}
use Rattle.algolw_typing.specs.Verdicts.{fault_of}
use Rattle.algolw_typing.specs.Scopes.{standard_scope}
use Rattle.algolw_typing.specs.Naming.{Class, Naming, infos as frame_infos, inside, outermost, scope_of, standard_names, naming, program_naming}
use Rattle.algolw_typing.specs.Typing.{faults}
use Rattle.algolw_typing.specs.Faults.{typed_program, program_verdict, faults_found, program_faults}
use Rattle.algolw_typing.specs.Programs.{by_place, program_of}
use Rattle.algolw_typing.specs.ProgramView.{nowhere}
use Rattle.algolw_typing.specs.Known.{IsNamed}
use Rattle.algolw_typing.proofs.GoodScopes.{NoFaults, none_first}
use Rattle.algolw_typing.proofs.WholeTrees.{none_in_order}
use Rattle.algolw_typing.proofs.KnownPrograms.{nothing_is_unknown}
use Rattle.program_meaning.specs.Translating as translating
use Rattle.program_meaning.specs.Translating.{text_at, standard_known, program_phrase}
use Rattle.program_soundness.specs.Kinds.{a_statement}
use Rattle.program_soundness.specs.Tables.{infos, all_infos, standard_infos, table_of}
use Rattle.faultless_programs.specs.Laws.{IsDeckTree, IsPlaced}
use Rattle.faultless_programs.proofs.Agreeing.{agree_two, apart_agree}
use Rattle.faultless_programs.proofs.Programs.{round_program, programs_without_faults_fit}
use Rattle.compilable_programs.specs.Begun.{Begun}
use Rattle.compilable_programs.specs.Compiled.{name_places, class_places, standard_places}
use Rattle.compilable_programs.specs.Laws.{ProgramsWithoutFaultsAreCompilable}
use Rattle.compilable_programs.specs.Suits.{Suits}
use Rattle.compilable_programs.proofs.Binders.{weight, infos_weight, infos_both, bound_phrase}
use Rattle.compilable_programs.proofs.Declarations.{names_weight, classes_weight, names_both, weighs}
use Rattle.compilable_programs.proofs.Ordered.{ordered_weighs, AtMostOnce, once_apart, apart_weighs, nowhere_weighs, name_there, text_found, all_on_cards, leading_first}
use Rattle.compilable_programs.proofs.Suiting.{at, none_has, suits}
use Rattle.compilable_programs.proofs.Classes.{program_held}
use Rattle.compilable_programs.proofs.Beginning.{begun_phrase, bare}

-- ---- what names and classes weigh

name_weights : (m : Place → ℕ) (is : List NameInfo) → weight m (map (λ (i : NameInfo). i.place) is) ≡ names_weight m is
name_weights m [] = refl
name_weights m (i ∷ is) = omega (arith, name_weights m is)

class_weights : (m : Place → ℕ) (cs : List Class) → weight m (map (λ (c : Class). c.place) cs) ≡ classes_weight m cs
class_weights m [] = refl
class_weights m (c ∷ cs) = omega (arith, class_weights m cs)

-- the names and classes of a program but for the standard names
abbrev own_naming : Phrase → Naming
own_naming x = naming (inside outermost standard_names) (scope_of standard_names ∷ []) x

abbrev standard_infos_of : List NameInfo
standard_infos_of = frame_infos outermost standard_names

standard_weights : (m : Place → ℕ) → names_weight m standard_infos_of ≡ infos_weight m (standard_infos (standard_known standard_scope))
standard_weights m = refl

all_weights : (m : Place → ℕ) (x : Phrase) → weight m (name_places (program_of x)) ≤ infos_weight m (all_infos (program_of x).root)
all_weights m x =
    omega (
      arith,
      ordered_weighs (λ (i : NameInfo). i.place) m (program_naming x).names,
      name_weights m (program_naming x).names,
      names_both m standard_infos_of (own_naming x).names,
      standard_weights m,
      (weighs m x (inside outermost standard_names) (scope_of standard_names ∷ []) (standard_scope ∷ [])).names,
      infos_both m (standard_infos (standard_known standard_scope)) (infos (program_of x).root),
    )

names_once : (x : Phrase) → IsDeckTree x → AtMostOnce (name_places (program_of x))
names_once x i p = omega (arith, all_weights (at p) x, apart_weighs (all_infos (program_of x).root) i.apart p)

classes_once : (x : Phrase) → IsDeckTree x → AtMostOnce (class_places (program_of x))
classes_once x i p =
    let m = at p in
    omega (
      arith,
      names_once x i p,
      ordered_weighs (λ (c : Class). c.place) m (program_naming x).classes,
      class_weights m (program_naming x).classes,
      ordered_weighs (λ (i : NameInfo). i.place) m (program_naming x).names,
      name_weights m (program_naming x).names,
      names_both m standard_infos_of (own_naming x).names,
      (weighs m x (inside outermost standard_names) (scope_of standard_names ∷ []) (standard_scope ∷ [])).classes,
    )

-- ---- the standard names stand first

abbrev own_names : Phrase → List NameInfo
own_names x = by_place (λ i. i.place) (own_naming x).names

own_weights : (x : Phrase) → IsPlaced x → (p : Place) → p.card ≡ 0 → weight (at p) (map (λ (i : NameInfo). i.place) (own_names x)) ≡ 0
own_weights x i p e =
    omega (
      arith,
      ordered_weighs (λ (i : NameInfo). i.place) (at p) (own_naming x).names,
      name_weights (at p) (own_naming x).names,
      (weighs (at p) x (inside outermost standard_names) (scope_of standard_names ∷ []) (standard_scope ∷ [])).names,
      nowhere_weighs p (infos (program_of x).root) (i.on_cards p e),
    )

standard_first : (x : Phrase) → IsPlaced x → (program_of x).names ≡ standard_infos_of ++ own_names x
standard_first x i = leading_first standard_infos_of (own_naming x).names refl (all_on_cards (own_names x) (own_weights x i))

standard_names_first : (x : Phrase) → IsPlaced x → name_places (program_of x) ≡ standard_places ++ map (λ (i : NameInfo). i.place) (own_names x)
standard_names_first x i = ap (map (λ (j : NameInfo). j.place)) (standard_first x i) ∙ map-append (λ (j : NameInfo). j.place) standard_infos_of (own_names x)

nowhere_else : (x : Phrase) → IsPlaced x → has (name_places (program_of x)) nowhere ≡ false
nowhere_else x i = ap (λ ps. has ps nowhere) (standard_names_first x i) ∙ none_has nowhere (map (λ (j : NameInfo). j.place) (own_names x)) (omega (arith, own_weights x i nowhere refl))

-- ---- classes are names

class_named : (names : List NameInfo) (c : Class) → AtMostOnce (map (λ (i : NameInfo). i.place) names) → IsNamed names c → (has (map (λ (i : NameInfo). i.place) names) c.place ≡ true) × (text_at names c.place ≡ c.name)
class_named names c o n = (
  subst (λ p. has (map (λ (i : NameInfo). i.place) names) p ≡ true) n.4.0 (name_there names n.0 n.1 n.2 n.3),
  subst (λ p. text_at names p ≡ n.1.name) n.4.0 (text_found names n.0 n.1 o n.2 n.3) ∙ n.4.1,
)

-- ---- the phrase

program_suits : (x : Phrase) → program_faults x ≡ [] → IsDeckTree x → Suits [] (program_phrase (program_of x))
program_suits x e i =
    let c : translating.Context = record { names = (program_of x).names; known = standard_known standard_scope } in
    suits (table_of (all_infos (program_of x).root)) (program_phrase (program_of x)) [] [] a_statement (programs_without_faults_fit x e i) tt
    (λ p. omega (
      arith,
      bound_phrase (at p) (program_of x).root c,
      infos_both (at p) (standard_infos (standard_known standard_scope)) (infos (program_of x).root),
      apart_weighs (all_infos (program_of x).root) i.apart p,
    ))

program_begun : (x : Phrase) → program_faults x ≡ [] → IsDeckTree x → Begun (class_places (program_of x)) (program_of x).root
program_begun x e i =
    let o = typed_program x in
    let none = none_in_order (faults_found x o) (subst NoFaults (sym e) tt) in
    let all = all_infos (program_of x).root in
    let a = agree_two all (standard_infos (standard_known standard_scope)) (infos o.node) (apart_agree all i.apart) in
    let c : translating.Context = record { names = (program_of x).names; known = standard_known standard_scope } in
    begun_phrase (infos o.node) (name_places (program_of x)) (class_places (program_of x)) (program_held x) x (standard_scope ∷ []) c [] (round_program all (program_of x).names a.0) i.filled a.1 (none_first (faults o) (fault_of (program_verdict x o)) none)
    (bare (infos o.node) (name_places (program_of x)) (class_places (program_of x)) (program_held x) o.node (nothing_is_unknown.tree x e))

-- ---- programs

pub programs_without_faults_are_compilable : ProgramsWithoutFaultsAreCompilable
programs_without_faults_are_compilable x p e i placed h = record {
  holds = h;
  apart = once_apart (name_places (program_of x)) (names_once x i);
  others = map (λ (i : NameInfo). i.place) (own_names x);
  standard = standard_names_first x placed;
  somewhere = nowhere_else x placed;
  classes_apart = once_apart (class_places (program_of x)) (classes_once x i);
  classes_named = λ k d within. class_named (program_of x).names (get_or (program_of x).classes k d) (names_once x i) (nothing_is_unknown.classes x k d within);
  knows = nothing_is_unknown.tree x e;
  once = i.apart;
  begun = program_begun x e i;
  suits = program_suits x e i;
}
