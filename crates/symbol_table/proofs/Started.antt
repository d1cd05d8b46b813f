-- Before anything is declared but what every deck has.
use Rattle.std.proofs.Common.{◌≡◌, ◌≢◌, ℕ, zero, suc, ◌+◌, ◌<◌, ◌≤◌, ◌==◌, List, [], ◌∷◌, ◌++◌, length, map, max, replicate, Option, Some, None, Bool, true, false, not, ◌&&◌, ◌||◌, ◌⊎◌, inl, inr, refl, sym, ap, ◌∙◌, subst, append_assoc, arith, slice_index_or, slice_set}
use Rattle.std.specs.List.{All, AllByRecursion}
use Rattle.std.proofs.Math.Path.{fun_ext}
use Rattle.std.proofs.lemmas.Bool.{eqb-true, eq-eqb, false≢true}
use Rattle.std.proofs.lemmas.List.{get_or-set_other, get_or-set_same, length-append, length-map, length-replicate, length-set}
use Rattle.std.proofs.lemmas.List.Elements.{All-cons, All-from_recursion, All-head, All-nil, All-tail}
use Rattle.value_ops.specs.declared.places.Place.{Place}
use Rattle.value_ops.specs.declared.values.ClassId.{ClassId}
use Rattle.record_classes.specs.Classes.{Class as TableClass, Classes, class_of}
use Rattle.algolw_tree.specs.Standards.{StandardNames, standard_table}
use Rattle.algolw_tree.specs.declared.programs.NameInfo.{NameInfo}
use Rattle.algolw_tree.specs.declared.programs.Program.{Program}
use Rattle.algolw_typing.specs.Naming.{Class}
use Rattle.algolw_typing.specs.ProgramView.{Numbers, class_in_table, numbered, numbers_of, nowhere}
use Rattle.algolw_typing.specs.Programs.{TypedProgram}
use Rattle.algolw_typing.specs.Scopes.{standard_scope}
use Rattle.algolw_typing.specs.Types.{ValueType, has, is_place}
use Rattle.program_meaning.specs.Translating as translating
use Rattle.program_soundness.specs.Tables.{Info, infos, standard_infos}
use Rattle.program_soundness.proofs.Arrays.{both_true}
use Rattle.program_soundness.proofs.Records.{place_read}
use Rattle.phrase_code.specs.Coding as coding
use Rattle.compilable_programs.specs.Compiled.{AreApart, IsCompilable, class_places, name_places, standard_places}
use Rattle.stack_code.specs.CodeView.{FormalFits, Given, KindFits, class_place}
use Rattle.stack_code.specs.declared.heads.CodedName.{CodedName}
use Rattle.symbol_table.specs.declared.standings.Standing.{Standing}
use Rattle.symbol_table.specs.declared.standings.Standing.TheVariants as standing
use Rattle.symbol_table.specs.Contexts.{AreFresh, IsNumbered, IsOnce, Scene, SceneFits, StandingFits, coding_context, info_of, knowns, phrase_context, numbers_in, place_of, places_of}
use Rattle.symbol_table.specs.Standings.{Names, every_name, names_from, standard_count}
use Rattle.symbol_table.specs.Symbols.{class_at, class_numbers, classes_set, only_standard}
use Rattle.symbol_table.proofs.Fresh.{apart_between, apart_right, info_places, or_false}
use Rattle.symbol_table.proofs.Places.{has_numbered, in_range, numbered_place, other_place, same_number}
use Rattle.symbol_table.proofs.There.{every_there}
use Rattle.symbol_table.proofs.Written.{coded, coded_places, same_phrase, written_same}

-- the scene of a program before anything is declared
abbrev pub begun : Given → (class_names : List ℕ) → Scene
begun g class_names = record { given = g; symbols = only_standard (length g.names) class_names }

-- ---- the names of every deck

abbrev differs : ℕ → Names → Bool
differs n [] = true
differs n (x ∷ names) = not (n == x.0) && differs n names

abbrev all_differ : Names → Bool
all_differ [] = true
all_differ (x ∷ names) = differs x.0 names && all_differ names

not_equal : (n m : ℕ) → not (n == m) ≡ true → n ≢ m
not_equal n m e q = false≢true (subst (λ b. not b ≡ true) (eq-eqb n m q) e)

each_differs : (n : ℕ) (names : Names) → differs n names ≡ true → All (λ (y : ℕ × Standing). n ≢ y.0) names
each_differs n [] e = All-nil (λ (y : ℕ × Standing). n ≢ y.0)
each_differs n (x ∷ names) e =
    let h = both_true (not (n == x.0)) (differs n names) e in
    All-cons (λ (y : ℕ × Standing). n ≢ y.0) x names (not_equal n x.0 h.0) (each_differs n names h.1)

once_differ : (names : Names) → all_differ names ≡ true → IsOnce names
once_differ [] e = tt
once_differ (x ∷ names) e =
    let h = both_true (differs x.0 names) (all_differ names) e in
    (each_differs x.0 names h.0, once_differ names h.1)

every_from : (s : Scene) (n : ℕ) (names : StandardNames) → n + length names ≤ length s.given.names → AllByRecursion (λ (x : ℕ × Standing). (x.0 < length s.given.names) × StandingFits s x.1) (names_from n names)
every_from s n [] l = tt
every_from s n (x ∷ names) l = ((omega (arith, l), tt), every_from s (suc n) names (omega (arith, l)))

every_fits : (s : Scene) → standard_count ≤ length s.given.names → All (λ (x : ℕ × Standing). (x.0 < length s.given.names) × StandingFits s x.1) every_name
every_fits s l = All-from_recursion (λ (x : ℕ × Standing). (x.0 < length s.given.names) × StandingFits s x.1) every_name (every_from s 0 standard_table (omega (arith, l)))

-- ---- the numbers of classes

length-classes_set : (classes : List (Option ClassId)) (k : ℕ) (names : List ℕ) → length (classes_set classes k names) ≡ length classes
length-classes_set classes k [] = refl
length-classes_set classes k (n ∷ names) = length-classes_set (slice_set classes n (Some (record { 0 = k }))) (suc k) names ∙ length-set classes n (Some (record { 0 = k }))

-- a number among some
abbrev Among : ℕ → List ℕ → Type 0
Among n [] = ⊥
Among n (m ∷ names) = (m ≡ n) ⊎ Among n names

decide : (m n : ℕ) (b : Bool) → (m == n) ≡ b → (m ≡ n) ⊎ (m ≢ n)
decide m n true q = inl (eqb-true m n q)
decide m n false q = inr (λ e. false≢true (sym q ∙ eq-eqb m n e))

module _ (s : Scene) (n : ℕ) where
  abbrev Numbered : Option ClassId → Type 0
  Numbered o = IsNumbered s (place_of s n) o

  -- the class of a name, where one more of them is set
  one_numbered : (classes : List (Option ClassId)) (k m : ℕ) (names : List ℕ) → n < length classes → class_place s.given (record { 0 = k }) ≡ place_of s m → (m ≡ n) ⊎ (m ≢ n) → Numbered (class_at classes n) ⊎ ((m ≡ n) ⊎ Among n names) → Numbered (class_at (slice_set classes m (Some (record { 0 = k }))) n) ⊎ Among n names
  one_numbered classes k m names l there (inl e) h =
      inl (subst (λ (i : ℕ). Numbered (class_at (slice_set classes i (Some (record { 0 = k }))) n)) (sym e) (subst Numbered (sym (get_or-set_same classes n (Some (record { 0 = k })) None l)) (there ∙ ap (place_of s) e)))
  one_numbered classes k m names l there (inr ne) (inl h) = inl (subst Numbered (sym (get_or-set_other classes m n (Some (record { 0 = k })) None (λ e. ne (sym e)))) h)
  one_numbered classes k m names l there (inr ne) (inr (inl e)) = absurd (ne e)
  one_numbered classes k m names l there (inr ne) (inr (inr a)) = inr a

  set_numbered : (whole : List ℕ) → ((before after : List ℕ) (m : ℕ) → whole ≡ before ++ (m ∷ after) → class_place s.given (record { 0 = length before }) ≡ place_of s m) → (classes : List (Option ClassId)) (before names : List ℕ) → n < length classes → whole ≡ before ++ names → Numbered (class_at classes n) ⊎ Among n names → Numbered (class_at (classes_set classes (length before) names) n)
  set_numbered whole there classes before [] l e (inl h) = h
  set_numbered whole there classes before [] l e (inr h) = absurd h
  set_numbered whole there classes before (m ∷ names) l e h =
      let more : List (Option ClassId) = slice_set classes m (Some (record { 0 = length before })) in
      let many : length (before ++ m ∷ []) ≡ suc (length before) = let a = length-append before (m ∷ []) in omega (arith, a) in
      subst (λ (k : ℕ). Numbered (class_at (classes_set more k names) n)) many
      (set_numbered whole there more (before ++ m ∷ []) names (subst (λ k. n < k) (sym (length-set classes m (Some (record { 0 = length before })))) l) (e ∙ sym (append_assoc before (m ∷ []) names))
      (one_numbered classes (length before) m names l (there before names m e) (decide m n (m == n) refl) h))

-- the class at a number is where its name stands
class_there : (places : List Place) (before after : List ℕ) (m : ℕ) → numbered (map (numbered places) (before ++ (m ∷ after))) (length before) ≡ numbered places m
class_there places [] after m = refl
class_there places (x ∷ before) after m = class_there places before after m

among : (s : Scene) (n : ℕ) (names : List ℕ) → ((m : ℕ) → m < length s.given.names → place_of s m ≡ place_of s n → m ≡ n) → All (λ (m : ℕ). m < length s.given.names) names → has (map (numbered (numbers_in s).names) names) (place_of s n) ≡ true → Among n names
among s n [] one a h = absurd (false≢true h)
among s n (m ∷ names) one a h = go (is_place (numbered (numbers_in s).names m) (place_of s n)) refl h (among s n names one (All-tail (λ (m : ℕ). m < length s.given.names) m names a))
  where
    go : (b : Bool) → is_place (numbered (numbers_in s).names m) (place_of s n) ≡ b → (b || has (map (numbered (numbers_in s).names) names) (place_of s n)) ≡ true → (has (map (numbered (numbers_in s).names) names) (place_of s n) ≡ true → Among n names) → Among n (m ∷ names)
    go true q h rest = inl (one m (All-head (λ (m : ℕ). m < length s.given.names) m names a) (sym (numbered_place s m) ∙ place_read (numbered (numbers_in s).names m) (place_of s n) q))
    go false q h rest = inr (rest h)

-- no class stands nowhere
none_nowhere : (places : List Place) (names : List ℕ) → has places nowhere ≡ false → All (λ (m : ℕ). m < length places) names → has (map (numbered places) names) nowhere ≡ false
none_nowhere places [] none a = refl
none_nowhere places (m ∷ names) none a =
    or_false (is_place (numbered places m) nowhere) (has (map (numbered places) names) nowhere)
    (other_place (numbered places m) nowhere (λ e. false≢true (sym none ∙ subst (λ (p : Place). has places p ≡ true) e (has_numbered places m (All-head (λ (m : ℕ). m < length places) m names a)))))
    (none_nowhere places names none (All-tail (λ (m : ℕ). m < length places) m names a))

-- ---- a program that may be compiled

module _ (p : Program) (x : TypedProgram) (may : IsCompilable p x) where
  -- the names of its classes are names
  pub class_names_known : All (λ (m : ℕ). m < length (name_places x)) p.class_names.items
  class_names_known = known p.class_names.items x.classes may.holds.class_names may.classes_named
    where
      known : (names : List ℕ) (classes : List Class) → map (numbered (map (λ i. i.place) x.names)) names ≡ map (λ (c : Class). c.place) classes → All (λ (c : Class). (has (name_places x) c.place ≡ true) × (translating.text_at x.names c.place ≡ c.name)) classes → All (λ (m : ℕ). m < length (name_places x)) names
      known [] classes e a = All-nil (λ (m : ℕ). m < length (name_places x))
      known (m ∷ names) [] e a = absurd (cc e)
      known (m ∷ names) (c ∷ classes) e a =
          let there : numbered (name_places x) m ≡ c.place = cc e in
          let rest : map (numbered (map (λ i. i.place) x.names)) names ≡ map (λ (d : Class). d.place) classes = cc e in
          let named = (All-head (λ (d : Class). (has (name_places x) d.place ≡ true) × (translating.text_at x.names d.place ≡ d.name)) c classes a).0 in
          All-cons (λ (k : ℕ). k < length (name_places x)) m names
          (in_range (name_places x) (name_places x) m may.somewhere (subst (λ (q : Place). has (name_places x) q ≡ true) (sym there) named))
          (known names classes rest (All-tail (λ (d : Class). (has (name_places x) d.place ≡ true) × (translating.text_at x.names d.place ≡ d.name)) c classes a))

pub names_coded : (x : TypedProgram) (g : Given) → g.names ≡ map coded x.names → map (λ (n : CodedName). n.place) g.names ≡ name_places x
names_coded x g e = ap (map (λ (n : CodedName). n.place)) e ∙ coded_places x.names

-- the names of the classes, in the table as in the program
titled_in : (ns : Numbers) (infos : List NameInfo) (places : List Place) (table : List TableClass) (classes : List Class) → map (class_in_table ns) table ≡ map (λ (c : Class). (c.name, c.fields)) classes → All (λ (c : Class). (has places c.place ≡ true) × (translating.text_at infos c.place ≡ c.name)) classes → (n : ℕ) → n < length classes → translating.text_at infos (numbered (map (λ (c : Class). c.place) classes) n) ≡ (slice_index_or table n (record { name = []; fields = [] })).name
titled_in ns infos places table [] e a n l = absurd (omega arith)
titled_in ns infos places [] (c ∷ classes) e a n l = absurd (cc e)
titled_in ns infos places (t ∷ table) (c ∷ classes) e a zero l =
    let first : class_in_table ns t ≡ (c.name, c.fields) = cc e in
    (All-head (λ (d : Class). (has places d.place ≡ true) × (translating.text_at infos d.place ≡ d.name)) c classes a).1 ∙ sym (ap (λ (y : List ℕ × List (List ℕ × ValueType)). y.0) first)
titled_in ns infos places (t ∷ table) (c ∷ classes) e a (suc n) l =
    let rest : map (class_in_table ns) table ≡ map (λ (d : Class). (d.name, d.fields)) classes = cc e in
    titled_in ns infos places table classes rest (All-tail (λ (d : Class). (has places d.place ≡ true) × (translating.text_at infos d.place ≡ d.name)) c classes a) n (omega arith)

module _ (p : Program) (x : TypedProgram) (may : IsCompilable p x) (g : Given) (written : g.names ≡ map coded x.names) (classes : g.class_places ≡ class_places x) (table : g.classes ≡ p.classes) where
  names : map (λ (n : CodedName). n.place) g.names ≡ name_places x
  names = names_coded x g written

  abbrev first : Scene
  first = begun g p.class_names.items

  names_same : (numbers_in first).names ≡ name_places x
  names_same = names

  many : standard_count ≤ length g.names
  many =
      let n = length-map g.names (λ (y : CodedName). y.place) in
      let m : length (map (λ (y : CodedName). y.place) g.names) ≡ length (standard_places ++ may.others) = ap length (names ∙ may.standard) in
      let k = length-append standard_places may.others in
      omega (arith, n, m, k)

  as_many : length (name_places x) ≡ length g.names
  as_many = sym (ap length names) ∙ length-map g.names (λ (y : CodedName). y.place)

  by_names : g.class_places ≡ map (numbered (numbers_in first).names) p.class_names.items
  by_names = classes ∙ sym may.holds.class_names ∙ ap (λ (places : List Place). map (numbered places) p.class_names.items) (sym names)

  known_names : All (λ (m : ℕ). m < length g.names) p.class_names.items
  known_names = subst (λ (k : ℕ). All (λ (m : ℕ). m < k) p.class_names.items) as_many (class_names_known p x may)

  pub begun_fits : SceneFits first
  begun_fits =
      let apart = subst AreApart (sym names) may.apart in
      let somewhere = subst (λ (places : List Place). has places nowhere ≡ false) (sym names) may.somewhere in
      let counted : max standard_count (length g.names) ≡ length g.names = let l = many in omega arith in
      let here : length (numbers_in first).names ≡ length g.names = length-map g.names (λ (y : CodedName). y.place) in
      let all : length (class_numbers (length g.names) p.class_names.items) ≡ length g.names = length-classes_set (replicate (length g.names) None) 0 p.class_names.items ∙ length-replicate (length g.names) None in
      record {
        counted = counted;
        classes = all;
        somewhere = somewhere;
        apart = apart;
        unclassed = subst (λ (places : List Place). has places nowhere ≡ false) (sym by_names) (none_nowhere (numbers_in first).names p.class_names.items somewhere (subst (λ (k : ℕ). All (λ (m : ℕ). m < k) p.class_names.items) (sym here) known_names));
        numbered = λ n l had.
            set_numbered first n p.class_names.items
            (λ before after m e. ap (λ (places : List Place). numbered places (length before)) (by_names ∙ ap (map (numbered (numbers_in first).names)) e) ∙ class_there (numbers_in first).names before after m ∙ numbered_place first m)
            (replicate (length g.names) None) [] p.class_names.items (subst (λ (k : ℕ). n < k) (sym (length-replicate {A = Option ClassId} (length g.names) None)) l) refl
            (inr (among first n p.class_names.items (λ m k e. same_number first apart m n k l e) known_names (subst (λ (places : List Place). has places (place_of first n) ≡ true) by_names had)));
        titled = λ n l.
            ap (λ (infos : List NameInfo). translating.text_at infos (numbered g.class_places n)) (ap (map info_of) written)
            ∙ sym (written_same x.names (numbered g.class_places n))
            ∙ ap (λ (places : List Place). translating.text_at x.names (numbered places n)) classes
            ∙ titled_in (numbers_of p x) x.names (name_places x) p.classes.classes x.classes may.holds.classes may.classes_named n (let c : length g.class_places ≡ length (class_places x) = ap length classes in let m : length (class_places x) ≡ length x.classes = length-map x.classes (λ (d : Class). d.place) in omega arith)
            ∙ ap (λ (t : Classes). (class_of t (record { 0 = n })).name) (sym table);
        once = once_differ every_name refl;
        names = every_fits first many;
        there = every_there first may.others (names ∙ may.standard);
        fields = All-nil (KindFits g);
        formals = All-nil (FormalFits g);
      }

-- ---- phrases

-- the names of every deck, where they stand at these places
abbrev known_at : (ℕ → Place) → Names → List translating.Known
known_at f [] = []
known_at f ((n, standing.Standard k) ∷ names) = record { place = f n; is = translating.a_standard_name k } ∷ known_at f names
known_at f (x ∷ names) = known_at f names

-- phrases know the names of every deck
pub begun_known : (p : Program) (x : TypedProgram) → IsCompilable p x → (g : Given) → map (λ (n : CodedName). n.place) g.names ≡ name_places x → knowns (begun g p.class_names.items) every_name ≡ translating.standard_known standard_scope
begun_known p x may g names =
    ap (λ (f : ℕ → Place). known_at f every_name)
    (fun_ext (λ n. sym (numbered_place (begun g p.class_names.items) n) ∙ ap (λ (places : List Place). numbered places n) (names ∙ may.standard)))

-- ---- a program

-- the phrase of a program is that of its tree in the first scene
pub begun_phrase : (p : Program) (x : TypedProgram) → IsCompilable p x → (g : Given) → g.names ≡ map coded x.names → translating.program_phrase x ≡ translating.phrase_of (phrase_context (begun g p.class_names.items)) x.root
begun_phrase p x may g e =
    same_phrase x.names (map info_of g.names) (λ q. written_same x.names q ∙ ap (λ (names : List CodedName). translating.text_at (map info_of names) q) (sym e)) (translating.standard_known standard_scope) x.root
    ∙ ap (λ (ks : List translating.Known). let c : translating.Context = record { names = map info_of g.names; known = ks } in translating.phrase_of c x.root) (sym (begun_known p x may g (names_coded x g e)))

-- code knows no names
pub begun_codes : (g : Given) (class_names ts : List ℕ) (statement : ℕ) → coding_context (begun g class_names) ts (record { statement = statement; level = 0; entries = 0 }) ≡ coding.outermost
begun_codes g class_names ts statement = refl

-- the declarations of its tree are new
pub begun_fresh : (p : Program) (x : TypedProgram) → IsCompilable p x → (g : Given) → g.names ≡ map coded x.names → AreFresh (begun g p.class_names.items) (infos x.root)
begun_fresh p x may g e =
    let s : Scene = begun g p.class_names.items in
    let every : info_places (standard_infos (translating.standard_known standard_scope)) ≡ places_of s s.symbols.names = ap (λ (ks : List translating.Known). info_places (standard_infos ks)) (sym (begun_known p x may g (names_coded x g e))) in
    record {
      apart = apart_right (standard_infos (translating.standard_known standard_scope)) (infos x.root) may.once;
      new = subst (λ (places : List Place). All (λ (i : Info). has places i.place ≡ false) (infos x.root)) every (apart_between (standard_infos (translating.standard_known standard_scope)) (infos x.root) may.once);
    }
