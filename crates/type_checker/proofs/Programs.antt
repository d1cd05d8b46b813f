-- The program that checking gives: what its numbering asks for, and what it is.
use Rattle.std.proofs.Common.{◌≡◌, ◌≢◌, Bool, true, false, List, [], ◌∷◌, ℕ, zero, suc, ◌<◌, ◌==◌, length, map, take, get_or, vec_len, refl, sym, ap, subst, ◌∙◌, arith}
use Rattle.std.proofs.lemmas.Bool.{or_left, or_right}
use Rattle.std.proofs.lemmas.Bool.Decides.{nat_tests}
use Rattle.std.proofs.lemmas.List.{nil_from_length}
use Rattle.std.specs.Prelude.{Result, Ok, Err, IfOk}
use Rattle.std.specs.List.{All}
use Rattle.std.specs.declared.alloc.AllocError.{AllocError}
use Rattle.std.specs.declared.alloc.Global.{Global}
use Rattle.std.specs.declared.vec.Vec.{Vec}
use Rattle.value_ops.specs.declared.places.Diagnostic.{Diagnostic}
use Rattle.value_ops.specs.declared.places.Place.{Place}
use Rattle.algolw_tree.specs.declared.programs.NameInfo.{NameInfo}
use Rattle.algolw_tree.specs.declared.programs.Program.{Program}
use Rattle.algolw_tree.specs.Tree.{Phrase}
use Rattle.algolw_typing.specs.Faults.{inserted, in_order, is_in_front, faults_found, program_faults, typed_program}
use Rattle.algolw_typing.specs.Known.{AllHad, Knows, ClassesKnow, IsNamed}
use Rattle.algolw_typing.specs.Types.{has, is_place}
use Rattle.algolw_typing.specs.Naming.{Class, program_naming}
use Rattle.algolw_typing.specs.Programs.{TypedProgram, ordered_names, ordered_classes, program_of, by_place, statements}
use Rattle.algolw_typing.specs.ProgramView.{HoldsProgram}
use Rattle.algolw_typing.specs.Typed as typed
use Rattle.algolw_typing.proofs.KnownPrograms.{nothing_is_unknown}
use Rattle.typing_rules.proofs.Sets.{place_itself}
use Rattle.typed_findings.specs.ClassView.{class_view}
use Rattle.type_checker.specs.Resolution.{IsResolution}
use Rattle.typed_findings.specs.declared.classes.FoundClass.{FoundClass}

-- ---- no faults are found exactly where a program has none

one_inserted : (d : Diagnostic) (es : List Diagnostic) → inserted d es ≢ []
one_inserted d [] h = cc
one_inserted d (e ∷ es) h = by (is_in_front d e) h where
  by : (t : Bool) → (elim t as (λ b. List Diagnostic) [ true ↦ d ∷ e ∷ es | false ↦ e ∷ inserted d es ]) ≢ []
  by true h = cc
  by false h = cc

some_in_order : (ds : List Diagnostic) → ds ≢ [] → in_order ds ≢ []
some_in_order [] h = λ e. h refl
some_in_order (d ∷ ds) h = one_inserted d (in_order ds)

is_zero : (n : ℕ) → (n == 0) ≡ true → n ≡ 0
is_zero n e = grind (arith, nat_tests)

is_more : (n : ℕ) → (n == 0) ≡ false → n ≢ 0
is_more n e = λ zero. grind (arith, nat_tests)

no_items : (faults : Vec Diagnostic Global) → (vec_len faults == 0) ≡ true → faults.items ≡ []
no_items faults e = nil_from_length faults.items (sym faults.ok.0 ∙ is_zero (vec_len faults) e)

some_items : (faults : Vec Diagnostic Global) → (vec_len faults == 0) ≡ false → faults.items ≢ []
some_items faults e = λ none. is_more (vec_len faults) e (faults.ok.0 ∙ ap length none)

pub none_said : (x : Phrase) (found : Vec Diagnostic Global) → found.items ≡ faults_found x (typed_program x) → (vec_len found == 0) ≡ true → program_faults x ≡ []
none_said x found e none = ap in_order (sym e ∙ no_items found none)

pub some_said : (x : Phrase) (found : Vec Diagnostic Global) (given : List Diagnostic) → found.items ≡ faults_found x (typed_program x) → (vec_len found == 0) ≡ false → given ≡ take 20 (in_order found.items) → (program_faults x ≢ []) × (given ≡ take 20 (program_faults x))
some_said x found given e some g = (some_in_order (faults_found x (typed_program x)) (λ none. some_items found some (e ∙ none)), g ∙ ap (λ ds. take 20 (in_order ds)) e)

-- ---- what is resolved of a program without faults

pub known_names : (x : Phrase) (names : List NameInfo) (found : List FoundClass) (root : typed.Node) → program_faults x ≡ [] → IsResolution x names found → root ≡ (typed_program x).node
    → Knows (map (λ (i : NameInfo). i.place) names) (map (λ (c : Class). c.place) (map class_view found)) root
known_names x names found root none r e =
    subst (λ (n : typed.Node). Knows (map (λ (i : NameInfo). i.place) names) (map (λ (c : Class). c.place) (map class_view found)) n) (sym e)
    (subst (λ (cs : List Class). Knows (map (λ (i : NameInfo). i.place) names) (map (λ (c : Class). c.place) cs) (typed_program x).node) (sym r.classes)
    (subst (λ (is : List NameInfo). Knows (map (λ (i : NameInfo). i.place) is) (map (λ (c : Class). c.place) (ordered_classes (program_naming x))) (typed_program x).node) (sym r.declared) (nothing_is_unknown.tree x none)))

pub known_fields : (x : Phrase) (names : List NameInfo) (found : List FoundClass) → program_faults x ≡ [] → IsResolution x names found
    → ClassesKnow (map (λ (c : Class). c.place) (map class_view found)) (map class_view found)
known_fields x names found none r = subst (λ (cs : List Class). ClassesKnow (map (λ (c : Class). c.place) cs) cs) (sym r.classes) (nothing_is_unknown.fields x none)

is_there : (names : List NameInfo) (k : ℕ) (i : NameInfo) (p : Place) → k < length names → get_or names k i ≡ i → i.place ≡ p → has (map (λ (j : NameInfo). j.place) names) p ≡ true
is_there [] k i p within at e = absurd (omega arith)
is_there (j ∷ names) zero i p within at e = or_left (is_place j.place p) (has (map (λ (j : NameInfo). j.place) names) p) (ap (λ q. is_place q p) (ap (λ (n : NameInfo). n.place) at ∙ e) ∙ place_itself p)
is_there (j ∷ names) (suc k) i p within at e = or_right (is_place j.place p) (has (map (λ (j : NameInfo). j.place) names) p) (is_there names k i p (omega (arith, within)) at e)

all_there : (names : List NameInfo) (cs : List Class) → All (IsNamed names) cs → AllHad (map (λ (i : NameInfo). i.place) names) (map (λ (c : Class). c.place) cs)
all_there names [] h = tt
all_there names (c ∷ cs) h =
    let first : IsNamed names c = h 0 c (omega arith) in
    (is_there names first.0 first.1 c.place first.2 first.3 first.4.0, all_there names cs (λ k d within. h (suc k) d (omega (arith, within))))

pub known_classes : (x : Phrase) (names : List NameInfo) (found : List FoundClass) → IsResolution x names found → AllHad (map (λ (i : NameInfo). i.place) names) (map (λ (c : Class). c.place) (map class_view found))
known_classes x names found r =
    subst (λ (cs : List Class). AllHad (map (λ (i : NameInfo). i.place) names) (map (λ (c : Class). c.place) cs)) (sym r.classes)
    (
    subst (λ (is : List NameInfo). AllHad (map (λ (i : NameInfo). i.place) is) (map (λ (c : Class). c.place) (ordered_classes (program_naming x)))) (sym r.declared)
    (all_there (ordered_names (program_naming x)) (ordered_classes (program_naming x)) (nothing_is_unknown.classes x))
    )

abbrev pub at_program : typed.Node → List NameInfo → List Class → TypedProgram
at_program root names classes = record { root = root; names = names; classes = classes; statements = by_place (λ (p : Place). p) (statements root) }

program_held : (x : Phrase) (names : List NameInfo) (found : List FoundClass) (root : typed.Node) (p : Program) → IsResolution x names found → root ≡ (typed_program x).node
    → HoldsProgram p (at_program root names (map class_view found)) → HoldsProgram p (program_of x)
program_held x names found root p r e h =
    subst (λ (cs : List Class). HoldsProgram p (at_program (typed_program x).node (ordered_names (program_naming x)) cs)) r.classes
    (subst (λ (is : List NameInfo). HoldsProgram p (at_program (typed_program x).node is (map class_view found))) r.declared
    (subst (λ (n : typed.Node). HoldsProgram p (at_program n names (map class_view found))) e h))

pub if_held : (x : Phrase) (names : List NameInfo) (found : List FoundClass) (root : typed.Node) (r : Result Program AllocError) → IsResolution x names found → root ≡ (typed_program x).node
    → IfOk r (λ p. HoldsProgram p (at_program root names (map class_view found))) → IfOk r (λ p. HoldsProgram p (program_of x))
if_held x names found root (Ok p) i e h = program_held x names found root p i e h
if_held x names found root (Err e) i d h = h
