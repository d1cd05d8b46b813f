-- An actual of a procedure or of a procedure formal fits by itself, and is read for its formal as the translation has it.
use Rattle.std.proofs.Common.{◌≡◌, ℕ, List, [], ◌∷◌, ◌++◌, length, refl, sym, subst, ap, ◌∙◌, arith, inl, inr}
use Rattle.std.proofs.lemmas.Bool.{eqb-true}
use Rattle.std.specs.Prelude.{Option, Some, None, Bool, true, false, ⊤, nat_eq}
use Rattle.value_ops.specs.declared.places.Place.{Place}
use Rattle.value_ops.specs.declared.places.Diagnostic.{Diagnostic}
use Rattle.algolw_tree.specs.Tree as tree
use Rattle.algolw_typing.specs.Names.{Entry, declared}
use Rattle.algolw_typing.specs.Types.{ValueType, Gives, Statement, Simple, Integer}
use Rattle.algolw_typing.specs.Verdicts.{Verdict, Good, Fault, type_of, fault_of, unless, int}
use Rattle.algolw_typing.specs.Meanings as typing
use Rattle.algolw_typing.specs.Meanings.{Part, FormalType, a_star, a_phrase, as_array, as_procedure, with_formals, not_read, typeless, gives_of, alone_row, all_read, right_number, of_phrase}
use Rattle.algolw_typing.specs.Actuals.{Reading, as_phrases, Wanted, phrase_wanted, formal_wanted, none_wanted, any_wanted, phrase_part, procedure_name, wants_procedure, is_variable_name, subarray_row, subarray_part, subscripts, stars, has_star}
use Rattle.algolw_typing.specs.Scopes.{Known, Scopes}
use Rattle.algolw_typing.specs.Typed as typed
use Rattle.algolw_typing.specs.Typing.{Out, out, PartOut, faults, gives, use_alone, use_with_list, meaning_of, target, variable_name, read_as, name_given, list_given, subarray_given, phrase_given, parts_of_actuals, part_of_node, given, typed_phrase, typed_parts, reading_of, first_list}
use Rattle.algolw_typing.proofs.GoodScopes.{NoFaults, none_first, none_two}
use Rattle.program_meaning.specs.Copying.{free_of}
use Rattle.program_meaning.specs.Translating as translating
use Rattle.program_meaning.specs.Translating.{phrase_of, kind_of, actual_of, subscripts_of, is_variable, is_variable_node, declared_at}
use Rattle.program_soundness.specs.Kinds as kinds
use Rattle.program_soundness.specs.Kinds.{Kind, an_integer, a_value, a_place, given_want, IsProperGiven, Context, meaning_in, Table}
use Rattle.program_soundness.specs.Fits as rule
use Rattle.program_soundness.specs.Fits.{Fits, Names, IfVariable, IsPassed, ActualFits, SubscriptsFit, subscript_count}
use Rattle.program_soundness.specs.Tables.{Info, means_at, table_of}
use Rattle.faultless_programs.proofs.Round.{Told, Present, Round, known_is, meant_is, FoundStands, found_stands}
use Rattle.faultless_programs.proofs.Fitted.{Fitted}
use Rattle.faultless_programs.proofs.Names.{flag, use_means}
use Rattle.faultless_programs.proofs.Parts.{GivenFit, more_good}

-- an actual that is passed, for a formal or as the program runs
abbrev pub IsActual : Wanted → Type 0
IsActual (formal_wanted h) = ⊤
IsActual any_wanted = ⊤
IsActual w = ⊥

module _ (is : List Info) where
  abbrev table : Table
  table = table_of is

  -- how an actual is read where something else than a phrase is wanted
  abbrev pub PartIs : translating.Context → Context → Wanted → typed.Node → Part → Type 0
  PartIs c d (formal_wanted f) n p = rule.actual_part d f (actual_of c n) ≡ p
  PartIs c d w n p = ⊤

  abbrev pub Passed : translating.Context → Context → Wanted → typed.Node → Part → Type 0
  Passed c d w n p = ActualFits table d (actual_of c n) × PartIs c d w n p

  -- ---- phrases

  if_node : (b : Bool) (g : Gives) (P : Kind → Type 0) → (b ≡ true → (t : ValueType) → g ≡ Simple t → P (kinds.kind_of t)) → IfVariable b g P
  if_node true (Simple t) P f = f refl t refl
  if_node true Statement P f = tt
  if_node false g P f = tt

  -- where two readings of one phrase agree
  part_is : (c : translating.Context) (d : Context) (w : Wanted) (n : typed.Node) (p q : Part) → ((f : FormalType) → rule.actual_part d f (actual_of c n) ≡ p) → p ≡ q → PartIs c d w n q
  part_is c d (formal_wanted f) n p q h e = h f ∙ e
  part_is c d phrase_wanted n p q h e = tt
  part_is c d none_wanted n p q h e = tt
  part_is c d any_wanted n p q h e = tt

  node_passed : (c : translating.Context) (d : Context) (p f : Place) (o : Option Gives) (s : Option Place) (k : typed.Kind) (g : Gives) → o ≡ Some g → IsProperGiven g → Fits table d (phrase_of c (typed.At p f o s k)) (given_want g)
      → (is_variable_node c (typed.At p f o s k) ≡ true → (t : ValueType) → g ≡ Simple t → Fits table d (phrase_of c (typed.At p f o s k)) (a_place (kinds.kind_of t)))
      → ActualFits table d (actual_of c (typed.At p f o s k)) × ((h : FormalType) → rule.actual_part d h (actual_of c (typed.At p f o s k)) ≡ a_phrase (is_variable_node c (typed.At p f o s k)) g)
  node_passed c d p f None s k g e i x v = absurd (cc e)
  node_passed c d p f (Some y) s k g e i x v =
      let q : y ≡ g = some_gives e in
      let vs : (g : Gives) → y ≡ g → IsProperGiven g → Fits table d (kind_of c p f (Some y) s k) (given_want g) → (is_variable_node c (typed.At p f (Some y) s k) ≡ true → (t : ValueType) → g ≡ Simple t → Fits table d (kind_of c p f (Some y) s k) (a_place (kinds.kind_of t))) → ActualFits table d (actual_of c (typed.At p f (Some y) s k)) = λ g q i x v.
      (subst (λ z. Fits table d (kind_of c p f (Some y) s k) (given_want z)) (sym q) x, subst IsProperGiven (sym q) i, if_node (is_variable_node c (typed.At p f (Some y) s k)) y (λ j. Fits table d (kind_of c p f (Some y) s k) (a_place j)) (λ b t l. v b t (sym q ∙ l))) in
      (vs g q i x v, λ h. ap (a_phrase (is_variable_node c (typed.At p f (Some y) s k))) q) where
        some_gives : {y z : Gives} → Some y ≡ Some z → y ≡ z
        some_gives {y = y} e = ap (λ o. elim o [ Some w ↦ w | None ↦ y ]) e

  fitted_passed : (c : translating.Context) (d : Context) (w : Wanted) (o : Out) (h : Fitted table c d o) (b : Bool) → b ≡ is_variable_node c o.node → Passed c d w o.node (a_phrase b h.gives)
  fitted_passed c d w o h b q = go o.node h.stated h.fits h.place q where
    go : (n : typed.Node) → typed.gives n ≡ Some h.gives → Fits table d (phrase_of c n) (given_want h.gives) → (is_variable_node c n ≡ true → (t : ValueType) → h.gives ≡ Simple t → Fits table d (phrase_of c n) (a_place (kinds.kind_of t))) → b ≡ is_variable_node c n → Passed c d w n (a_phrase b h.gives)
    go (typed.At p f y s k) e x v q = let r = node_passed c d p f y s k h.gives e h.proper x v in (r.0, part_is c d w (typed.At p f y s k) _ (a_phrase b h.gives) r.1 (ap (λ z. a_phrase z h.gives) (sym q)))

  -- ---- whether a phrase is a variable, by its name and by its translation

  variable_same : {path : Scopes} {c : translating.Context} {d : Context} → Round is path c d → (e : Entry Known) (m : typing.Meaning) → Told is m e.is.reading e.place → Present is c d e.place → is_variable_name m ≡ is_variable (declared_at c.known e.place)
  variable_same r e (typing.a_variable t) s n = sym (ap is_variable (known_is is r e.place n ∙ s.0))
  variable_same r e (typing.an_array t k) s n = sym (ap is_variable (known_is is r e.place n ∙ s.0))
  variable_same r e (typing.a_field cl t) s n = sym (ap is_variable (known_is is r e.place n ∙ s.2))
  variable_same r e (typing.a_procedure res fs) s n = sym (ap is_variable (known_is is r e.place n ∙ s.0))
  variable_same r e (typing.a_procedure_formal res) s n = sym (ap is_variable (known_is is r e.place n ∙ s.0))
  variable_same r e (typing.a_class ts) s n = sym (ap is_variable (known_is is r e.place n ∙ s.0))
  variable_same r e typing.a_label s n = sym (ap is_variable (known_is is r e.place n ∙ s.0))
  variable_same r e typing.a_control s n = sym (ap is_variable (known_is is r e.place n ∙ s.0))
  variable_same r e (typing.a_standard st) s n = sym (ap is_variable (known_is is r e.place n ∙ s.0))

  undeclared : (path : Scopes) (p : Place) (lists : tree.Lists) (g : Gives) → (first_list path p None lists).verdict ≡ Good g → ⊥
  undeclared path p tree.no_lists g e = cc
  undeclared path p (tree.list_and (tree.OfActuals q list) lists) g e = let m = more_good path (Fault 30 p) lists g e in cc (m.1)
  undeclared path p (tree.list_and (tree.OfPart q a n) lists) g e = let m = more_good path (Fault 30 p) lists g e in cc (m.1)

  entry_same : {path : Scopes} {c : translating.Context} {d : Context} → Round is path c d → (o : Option (Entry Known)) → FoundStands is c d o → ((o ≡ None) → ⊥) → variable_name (meaning_of o) ≡ is_variable (declared_at c.known (target o))
  entry_same r None s n = absurd (n refl)
  entry_same r (Some e) s n = ap variable_name s.1 ∙ variable_same r e s.0 s.2 s.3

  pub flag_same : {path : Scopes} {c : translating.Context} {d : Context} → Round is path c d → (b : tree.Phrase) (g : Gives) → (typed_phrase path b).verdict ≡ Good g → flag path b ≡ is_variable_node c (typed_phrase path b).node
  flag_same {path} {c} {d} r (tree.At p f (tree.Named x lists)) g e = entry_same r (declared path x) (found_stands is c d path x r.stands) (λ n. undeclared path p lists g (subst (λ o. (first_list path p o lists).verdict ≡ Good g) n e))
  flag_same r (tree.At p f (tree.IfThen x y tree.Missing)) g e = refl
  flag_same r (tree.At p f (tree.IfThen x y (tree.There z))) g e = refl
  flag_same r (tree.At p f (tree.ForStep x y tree.Missing u v)) g e = refl
  flag_same r (tree.At p f (tree.ForStep x y (tree.There z) u v)) g e = refl
  flag_same r (tree.At p f _) g e = refl

  -- a phrase that is read as one
  pub phrase_passed : {path : Scopes} {c : translating.Context} {d : Context} → Round is path c d → (w : Wanted) (b : tree.Phrase) → Fitted table c d (typed_phrase path b) → (q : Part) → phrase_part (flag path b) (gives (typed_phrase path b)) ≡ q → Passed c d w (typed_phrase path b).node q
  phrase_passed {path} {c} {d} r w b h q e =
      let z = ap (λ v. phrase_part (flag path b) (type_of v)) h.verdict in
      let x = fitted_passed c d w (typed_phrase path b) h (flag path b) (flag_same r b h.gives h.verdict) in
      subst (Passed c d w (typed_phrase path b).node) (sym z ∙ e) x

  -- ---- names alone

  alone_formal : (c : translating.Context) (d : Context) (h : FormalType) (p f x : Place) (m : kinds.Meaning) (q : Part) → meaning_in d x ≡ Some m → IsPassed m → rule.name_part h (Some m) ≡ q → Passed c d (formal_wanted h) (typed.At p f None None (typed.Named x typed.no_lists)) q
  alone_formal c d h p f x m q e i k = ((m, (x, refl, e), i), ap (rule.name_part h) e ∙ k)

  alone_any : (c : translating.Context) (d : Context) (p f x : Place) (m : kinds.Meaning) (q : Part) → meaning_in d x ≡ Some m → IsPassed m → Passed c d any_wanted (typed.At p f None None (typed.Named x typed.no_lists)) q
  alone_any c d p f x m q e i = ((m, (x, refl, e), i), tt)

  -- what is found of a name alone
  abbrev Alone : Place → Place → Place → Verdict → Out
  Alone p f x v = out [] p f v (typed.Named x typed.no_lists)

  -- read as a phrase
  abbrev AsPhrase : translating.Context → Context → Wanted → Out → Bool → Type 0
  AsPhrase c d w o b = NoFaults (faults o) → (q : Part) → phrase_part b (gives o) ≡ q → Passed c d w o.node q

  as_phrase : (c : translating.Context) (d : Context) (w : Wanted) (o : Out) (b : Bool) → AsPhrase c d w o b → (t : Option Gives) → type_of o.verdict ≡ t → NoFaults (read_as (phrase_part b t) o).inside → Passed c d w (read_as (phrase_part b t) o).node (read_as (phrase_part b t) o).part
  as_phrase c d w o b k (Some y) e h = k h (a_phrase b y) (ap (phrase_part b) e)
  as_phrase c d w o b k None e h = k h typeless (ap (phrase_part b) e)

  procedure_passed : (c : translating.Context) (d : Context) (h : FormalType) (p f x : Place) (v : Verdict) (m : kinds.Meaning) (res : Option ValueType) (fs : List FormalType) (b : Bool) → meaning_in d x ≡ Some m → IsPassed m → rule.name_part h (Some m) ≡ procedure_name b res fs
      → (fs ≡ [] → v ≡ Good (gives_of res)) → AsPhrase c d (formal_wanted h) (Alone p f x v) false → NoFaults (read_as (procedure_name b res fs) (Alone p f x v)).inside
      → Passed c d (formal_wanted h) (read_as (procedure_name b res fs) (Alone p f x v)).node (read_as (procedure_name b res fs) (Alone p f x v)).part
  procedure_passed c d h p f x v m res fs true e i q g k n = alone_formal c d h p f x m (as_procedure res) e i q
  procedure_passed c d h p f x v m res [] false e i q g k n = k n (a_phrase false (gives_of res)) (ap (λ v. phrase_part false (type_of v)) (g refl))
  procedure_passed c d h p f x v m res (y ∷ fs) false e i q g k n = alone_formal c d h p f x m with_formals e i q

  -- a name alone, by what it means
  name_passed : (c : translating.Context) (d : Context) (w : Wanted) (p f x : Place) (v : Verdict) (m : typing.Meaning) → IsActual w → (means_at is x ≡ meaning_in d x) → (reading : Reading) → Told is m reading x → v ≡ alone_row p m x
      → AsPhrase c d w (Alone p f x v) (is_variable_name m) → NoFaults (name_given w (Some m) (Alone p f x v)).inside → Passed c d w (name_given w (Some m) (Alone p f x v)).node (name_given w (Some m) (Alone p f x v)).part
  name_passed c d (formal_wanted h) p f x v (typing.an_array t n) u e rd s g k i = alone_formal c d h p f x (kinds.an_array t n) (as_array t n) (sym e ∙ s.1) tt refl
  name_passed c d (formal_wanted h) p f x v (typing.a_procedure res fs) u e rd s g k i = procedure_passed c d h p f x v (kinds.a_procedure res fs) res fs (wants_procedure h) (sym e ∙ s.1) tt refl (λ q. g ∙ ap (λ fs. typing.procedure_alone p res fs) q) k i
  name_passed c d (formal_wanted h) p f x v (typing.a_procedure_formal res) u e rd s g k i = procedure_passed c d h p f x v (kinds.a_procedure_formal res) res [] (wants_procedure h) (sym e ∙ s.1) tt refl (λ q. g) k i
  name_passed c d (formal_wanted h) p f x v (typing.a_variable t) u e rd s g k i = as_phrase c d (formal_wanted h) (Alone p f x v) true k (type_of v) refl i
  name_passed c d (formal_wanted h) p f x v (typing.a_class ts) u e rd s g k i = as_phrase c d (formal_wanted h) (Alone p f x v) false k (type_of v) refl i
  name_passed c d (formal_wanted h) p f x v (typing.a_field cl t) u e rd s g k i = as_phrase c d (formal_wanted h) (Alone p f x v) true k (type_of v) refl i
  name_passed c d (formal_wanted h) p f x v typing.a_label u e rd s g k i = as_phrase c d (formal_wanted h) (Alone p f x v) false k (type_of v) refl i
  name_passed c d (formal_wanted h) p f x v typing.a_control u e rd s g k i = as_phrase c d (formal_wanted h) (Alone p f x v) false k (type_of v) refl i
  name_passed c d (formal_wanted h) p f x v (typing.a_standard st) u e rd s g k i = as_phrase c d (formal_wanted h) (Alone p f x v) (is_variable_name (typing.a_standard st)) k (type_of v) refl i
  name_passed c d any_wanted p f x v (typing.an_array t n) u e rd s g k i = alone_any c d p f x (kinds.an_array t n) not_read (sym e ∙ s.1) tt
  name_passed c d any_wanted p f x v (typing.a_procedure res fs) u e rd s g k i = alone_any c d p f x (kinds.a_procedure res fs) not_read (sym e ∙ s.1) tt
  name_passed c d any_wanted p f x v (typing.a_procedure_formal res) u e rd s g k i = alone_any c d p f x (kinds.a_procedure_formal res) not_read (sym e ∙ s.1) tt
  name_passed c d any_wanted p f x v (typing.a_variable t) u e rd s g k i = as_phrase c d any_wanted (Alone p f x v) true k (type_of v) refl i
  name_passed c d any_wanted p f x v (typing.a_class ts) u e rd s g k i = as_phrase c d any_wanted (Alone p f x v) false k (type_of v) refl i
  name_passed c d any_wanted p f x v (typing.a_field cl t) u e rd s g k i = as_phrase c d any_wanted (Alone p f x v) true k (type_of v) refl i
  name_passed c d any_wanted p f x v typing.a_label u e rd s g k i = as_phrase c d any_wanted (Alone p f x v) false k (type_of v) refl i
  name_passed c d any_wanted p f x v typing.a_control u e rd s g k i = as_phrase c d any_wanted (Alone p f x v) false k (type_of v) refl i
  name_passed c d any_wanted p f x v (typing.a_standard st) u e rd s g k i = as_phrase c d any_wanted (Alone p f x v) (is_variable_name (typing.a_standard st)) k (type_of v) refl i
  name_passed c d phrase_wanted p f x v m u e rd s g k i = absurd u
  name_passed c d none_wanted p f x v m u e rd s g k i = absurd u

  -- ---- subarrays

  subscript_read : (c : translating.Context) (d : Context) (p : Place) (list : typed.Actuals) (ps : List Part) (v : Verdict) → GivenFit table c d list ps → NoFaults (fault_of (subscripts p (parts_of_actuals list) v)) → SubscriptsFit table d (subscripts_of c list) × (subscript_count (subscripts_of c list) ≡ length (parts_of_actuals list)) × (free_of (subscripts_of c list) ≡ stars (parts_of_actuals list)) × NoFaults (fault_of v)
  subscript_read c d p typed.no_actuals [] v h n = (tt, refl, refl, n)
  subscript_read c d p typed.no_actuals (x ∷ ps) v h n = absurd h
  subscript_read c d p (typed.actual_and (typed.Star q) list) [] v h n = absurd h
  subscript_read c d p (typed.actual_and (typed.Given a) list) [] v h n = absurd h
  subscript_read c d p (typed.actual_and (typed.Star q) list) (x ∷ ps) v h n = let r = subscript_read c d p list ps v h.1 n in (r.0, omega (arith, r.1), omega (arith, r.2), r.3)
  subscript_read c d p (typed.actual_and (typed.Given a) list) (x ∷ ps) v (inr h, more) n = absurd (subst (λ z. NoFaults (fault_of (subscripts p (z ∷ parts_of_actuals list) v))) (ap (phrase_part false) h.1) n)
  subscript_read c d p (typed.actual_and (typed.Given a) list) (x ∷ ps) v (inl h, more) n =
      let same : part_of_node a ≡ a_phrase false h.1 = ap (phrase_part false) h.3 in
      let i = int_none h.1 (subst (λ z. NoFaults (fault_of (subscripts p (z ∷ parts_of_actuals list) v))) same n) in
      let r = subscript_read c d p list ps v more i.1 in
      ((subst (λ g. Fits table d (phrase_of c a) (given_want g)) i.0 h.5, r.0), omega (arith, r.1), r.2 ∙ sym (ap (λ z. stars (z ∷ parts_of_actuals list)) same), r.3) where
        int_none : (y : Gives) → NoFaults (fault_of (int p y (subscripts p (parts_of_actuals list) v))) → (y ≡ Simple Integer) × NoFaults (fault_of (subscripts p (parts_of_actuals list) v))
        int_none (Simple Integer) n = (refl, n)
        int_none Statement n = absurd n
        int_none (Simple _) n = absurd n

  subscripts_same : (c : translating.Context) (d : Context) (p : Place) (list : typed.Actuals) (ps : List Part) (v : Verdict) → GivenFit table c d list ps → NoFaults (fault_of (subscripts p (parts_of_actuals list) v)) → subscripts p (parts_of_actuals list) v ≡ v
  subscripts_same c d p typed.no_actuals [] v h n = refl
  subscripts_same c d p typed.no_actuals (x ∷ ps) v h n = absurd h
  subscripts_same c d p (typed.actual_and (typed.Star q) list) [] v h n = absurd h
  subscripts_same c d p (typed.actual_and (typed.Given a) list) [] v h n = absurd h
  subscripts_same c d p (typed.actual_and (typed.Star q) list) (x ∷ ps) v h n = subscripts_same c d p list ps v h.1 n
  subscripts_same c d p (typed.actual_and (typed.Given a) list) (x ∷ ps) v (inr h, more) n = absurd (subst (λ z. NoFaults (fault_of (subscripts p (z ∷ parts_of_actuals list) v))) (ap (phrase_part false) h.1) n)
  subscripts_same c d p (typed.actual_and (typed.Given a) list) (x ∷ ps) v (inl h, more) n =
      let same : part_of_node a ≡ a_phrase false h.1 = ap (phrase_part false) h.3 in
      let i = int_same h.1 (subst (λ z. NoFaults (fault_of (subscripts p (z ∷ parts_of_actuals list) v))) same n) in
      ap (λ z. subscripts p (z ∷ parts_of_actuals list) v) same ∙ i.0 ∙ subscripts_same c d p list ps v more i.1 where
        int_same : (y : Gives) → NoFaults (fault_of (int p y (subscripts p (parts_of_actuals list) v))) → (int p y (subscripts p (parts_of_actuals list) v) ≡ subscripts p (parts_of_actuals list) v) × NoFaults (fault_of (subscripts p (parts_of_actuals list) v))
        int_same (Simple Integer) n = (refl, n)
        int_same Statement n = absurd n
        int_same (Simple _) n = absurd n

  all_are_read : (c : translating.Context) (d : Context) (list : typed.Actuals) (ps : List Part) (v : Verdict) → GivenFit table c d list ps → all_read (parts_of_actuals list) v ≡ v
  all_are_read c d typed.no_actuals [] v h = refl
  all_are_read c d typed.no_actuals (x ∷ ps) v h = absurd h
  all_are_read c d (typed.actual_and (typed.Star q) list) [] v h = absurd h
  all_are_read c d (typed.actual_and (typed.Given a) list) [] v h = absurd h
  all_are_read c d (typed.actual_and (typed.Star q) list) (x ∷ ps) v h = all_are_read c d list ps v h.1
  all_are_read c d (typed.actual_and (typed.Given a) list) (x ∷ ps) v (inl h, more) =
      let same : part_of_node a ≡ a_phrase false h.1 = ap (phrase_part false) h.3 in
      ap (λ z. all_read (z ∷ parts_of_actuals list) v) same ∙ all_are_read c d list ps v more
  all_are_read c d (typed.actual_and (typed.Given a) list) (x ∷ ps) v (inr h, more) =
      let same : part_of_node a ≡ a_phrase false Statement = ap (phrase_part false) h.1 in
      ap (λ z. all_read (z ∷ parts_of_actuals list) v) same ∙ all_are_read c d list ps v more

  number_none : (p : Place) (n k : ℕ) (v : Verdict) → NoFaults (fault_of (unless (nat_eq n k) 39 p v)) → (n ≡ k) × NoFaults (fault_of v) × (unless (nat_eq n k) 39 p v ≡ v)
  number_none p n k v h = at (nat_eq n k) refl h where
    at : (b : Bool) → nat_eq n k ≡ b → NoFaults (fault_of (unless b 39 p v)) → (n ≡ k) × NoFaults (fault_of v) × (unless b 39 p v ≡ v)
    at true e h = (eqb-true n k e, h, refl)
    at false e h = absurd h

  -- a subarray's row, where nothing is faulty
  subarray_read : (c : translating.Context) (d : Context) (p : Place) (n : ℕ) (list : typed.Actuals) (ps : List Part) → GivenFit table c d list ps → NoFaults (fault_of (subarray_row p n (parts_of_actuals list)))
      → SubscriptsFit table d (subscripts_of c list) × (n ≡ subscript_count (subscripts_of c list)) × (free_of (subscripts_of c list) ≡ stars (parts_of_actuals list)) × (subarray_row p n (parts_of_actuals list) ≡ Good Statement)
  subarray_read c d p n list ps h i =
      let parts = parts_of_actuals list in
      let last = subscripts p parts (Good Statement) in
      let r = all_are_read c d list ps (right_number p n parts last) h in
      let u = number_none p n (length parts) last (subst (λ v. NoFaults (fault_of v)) r i) in
      let s = subscript_read c d p list ps (Good Statement) h u.1 in
      (s.0, u.0 ∙ sym s.1, s.2, r ∙ u.2 ∙ subscripts_same c d p list ps (Good Statement) h u.1)

  -- a name with one list
  abbrev OneList : List Diagnostic → Place → Place → Place → Place → Verdict → typed.Actuals → Out
  OneList inside p f q x v list = out inside p f v (typed.Named x (typed.list_and (typed.OfActuals q list) typed.no_lists))

  subarray_passed : (c : translating.Context) (d : Context) (w : Wanted) → IsActual w → (inside : List Diagnostic) (p f q x : Place) (v : Verdict) (list : typed.Actuals) (ps : List Part) (t : ValueType) (n : ℕ) → meaning_in d x ≡ Some (kinds.an_array t n) → (NoFaults inside → GivenFit table c d list ps)
      → NoFaults (subarray_given w t (parts_of_actuals list) (subarray_row p n (parts_of_actuals list)) (OneList inside p f q x v list)).inside
      → Passed c d w (subarray_given w t (parts_of_actuals list) (subarray_row p n (parts_of_actuals list)) (OneList inside p f q x v list)).node (subarray_given w t (parts_of_actuals list) (subarray_row p n (parts_of_actuals list)) (OneList inside p f q x v list)).part
  subarray_passed c d w u inside p f q x v list ps t n e k i =
      let row = subarray_row p n (parts_of_actuals list) in
      let m = none_two inside (fault_of row) i in
      let s = subarray_read c d p n list ps (k m.0) m.1 in
      let mean : meaning_in d x ≡ Some (kinds.an_array t (subscript_count (subscripts_of c list))) = e ∙ ap (λ j. Some (kinds.an_array t j)) s.1 in
      ((t, (x, refl, mean), s.0), at w u s.2 s.3 mean) where
        at : (w : Wanted) → IsActual w → free_of (subscripts_of c list) ≡ stars (parts_of_actuals list) → subarray_row p n (parts_of_actuals list) ≡ Good Statement → meaning_in d x ≡ Some (kinds.an_array t (subscript_count (subscripts_of c list)))
            → PartIs c d w (typed.At p f None None (typed.Named x (typed.list_and (typed.OfActuals q list) typed.no_lists))) (subarray_part w t (parts_of_actuals list) (subarray_row p n (parts_of_actuals list)))
        at (formal_wanted h) u a b mean = ap (λ o. rule.subarray_part o (free_of (subscripts_of c list))) mean ∙ ap (as_array t) a ∙ sym (ap (subarray_part (formal_wanted h) t (parts_of_actuals list)) b)
        at any_wanted u a b mean = tt
        at phrase_wanted u a b mean = tt
        at none_wanted u a b mean = tt

  array_passed : (c : translating.Context) (d : Context) (w : Wanted) → IsActual w → (inside : List Diagnostic) (p f q x : Place) (v : Verdict) (list : typed.Actuals) (ps : List Part) (t : ValueType) (n : ℕ) → meaning_in d x ≡ Some (kinds.an_array t n) → (NoFaults inside → GivenFit table c d list ps) → AsPhrase c d w (OneList inside p f q x v list) true
      → (b : Bool) → NoFaults (elim b as (λ z. PartOut) [ true ↦ subarray_given w t (parts_of_actuals list) (subarray_row p n (parts_of_actuals list)) (OneList inside p f q x v list) | false ↦ phrase_given true (OneList inside p f q x v list) ]).inside
      → Passed c d w (elim b as (λ z. PartOut) [ true ↦ subarray_given w t (parts_of_actuals list) (subarray_row p n (parts_of_actuals list)) (OneList inside p f q x v list) | false ↦ phrase_given true (OneList inside p f q x v list) ]).node (elim b as (λ z. PartOut) [ true ↦ subarray_given w t (parts_of_actuals list) (subarray_row p n (parts_of_actuals list)) (OneList inside p f q x v list) | false ↦ phrase_given true (OneList inside p f q x v list) ]).part
  array_passed c d w u inside p f q x v list ps t n e k h true i = subarray_passed c d w u inside p f q x v list ps t n e k i
  array_passed c d w u inside p f q x v list ps t n e k h false i = h i _ refl

  list_passed : (c : translating.Context) (d : Context) (w : Wanted) → IsActual w → (inside : List Diagnostic) (p f q x : Place) (v : Verdict) (list : typed.Actuals) (ps : List Part) (m : typing.Meaning) (rd : Reading) → Told is m rd x → means_at is x ≡ meaning_in d x
      → (NoFaults inside → rd ≡ as_phrases → GivenFit table c d list ps) → AsPhrase c d w (OneList inside p f q x v list) (is_variable_name m)
      → NoFaults (list_given p w (Some m) (OneList inside p f q x v list)).inside → Passed c d w (list_given p w (Some m) (OneList inside p f q x v list)).node (list_given p w (Some m) (OneList inside p f q x v list)).part
  list_passed c d (formal_wanted g) u inside p f q x v list ps (typing.an_array t n) rd s e k h i = array_passed c d (formal_wanted g) u inside p f q x v list ps t n (sym e ∙ s.1) (λ z. k z s.3) h (has_star (parts_of_actuals list)) i
  list_passed c d any_wanted u inside p f q x v list ps (typing.an_array t n) rd s e k h i = array_passed c d any_wanted u inside p f q x v list ps t n (sym e ∙ s.1) (λ z. k z s.3) h (has_star (parts_of_actuals list)) i
  list_passed c d phrase_wanted u inside p f q x v list ps (typing.an_array t n) rd s e k h i = absurd u
  list_passed c d none_wanted u inside p f q x v list ps (typing.an_array t n) rd s e k h i = absurd u
  list_passed c d w u inside p f q x v list ps (typing.a_variable t) rd s e k h i = h i _ refl
  list_passed c d w u inside p f q x v list ps (typing.a_procedure res fs) rd s e k h i = h i _ refl
  list_passed c d w u inside p f q x v list ps (typing.a_procedure_formal res) rd s e k h i = h i _ refl
  list_passed c d w u inside p f q x v list ps (typing.a_class ts) rd s e k h i = h i _ refl
  list_passed c d w u inside p f q x v list ps (typing.a_field cl t) rd s e k h i = h i _ refl
  list_passed c d w u inside p f q x v list ps typing.a_label rd s e k h i = h i _ refl
  list_passed c d w u inside p f q x v list ps typing.a_control rd s e k h i = h i _ refl
  list_passed c d w u inside p f q x v list ps (typing.a_standard st) rd s e k h i = h i _ refl

  -- ---- any actual

  alone_given : {path : Scopes} {c : translating.Context} {d : Context} → Round is path c d → (w : Wanted) → IsActual w → (p f : Place) (o : Option (Entry Known)) → FoundStands is c d o → AsPhrase c d w (Alone p f (target o) (use_alone p o)) (variable_name (meaning_of o))
      → NoFaults (name_given w (meaning_of o) (Alone p f (target o) (use_alone p o))).inside → Passed c d w (name_given w (meaning_of o) (Alone p f (target o) (use_alone p o))).node (name_given w (meaning_of o) (Alone p f (target o) (use_alone p o))).part
  alone_given r w u p f None s k i = k i _ refl
  alone_given {c = c} {d = d} r w u p f (Some e) s k i =
      let a = Alone p f e.place (use_alone p (Some e)) in
      subst (λ m. AsPhrase c d w a (variable_name m) → NoFaults (name_given w m a).inside → Passed c d w (name_given w m a).node (name_given w m a).part) (sym s.1)
      (λ k i. name_passed c d w p f e.place (use_alone p (Some e)) s.0 u (sym (meant_is is r e.place s.3)) e.is.reading s.2 (use_means p e s.0 (alone_row p) s.1) k i) k i

  list_given_passed : {path : Scopes} {c : translating.Context} {d : Context} → Round is path c d → (w : Wanted) → IsActual w → (inside : List Diagnostic) (p f q : Place) (v : Verdict) (list : typed.Actuals) (ps : List Part) (o : Option (Entry Known)) → FoundStands is c d o → (NoFaults inside → reading_of o ≡ as_phrases → GivenFit table c d list ps)
      → AsPhrase c d w (OneList inside p f q (target o) v list) (variable_name (meaning_of o)) → NoFaults (list_given p w (meaning_of o) (OneList inside p f q (target o) v list)).inside
      → Passed c d w (list_given p w (meaning_of o) (OneList inside p f q (target o) v list)).node (list_given p w (meaning_of o) (OneList inside p f q (target o) v list)).part
  list_given_passed r w u inside p f q v list ps None s g k i = k i _ refl
  list_given_passed {c = c} {d = d} r w u inside p f q v list ps (Some e) s g k i =
      let a = OneList inside p f q e.place v list in
      subst (λ m. AsPhrase c d w a (variable_name m) → NoFaults (list_given p w m a).inside → Passed c d w (list_given p w m a).node (list_given p w m a).part) (sym s.1)
      (λ k i. list_passed c d w u inside p f q e.place v list ps s.0 e.is.reading s.2 (sym (meant_is is r e.place s.3)) g k i) k i

  -- what is known of the list of a name with one list
  abbrev pub ListKnown : Scopes → translating.Context → Context → tree.Phrase → Type 0
  ListKnown path c d (tree.At p f (tree.Named x (tree.list_and (tree.OfActuals q list) tree.no_lists))) = NoFaults (typed_parts path (reading_of (declared path x)) list).inside → reading_of (declared path x) ≡ as_phrases → GivenFit table c d (typed_parts path (reading_of (declared path x)) list).actuals (typed_parts path (reading_of (declared path x)) list).parts
  ListKnown path c d b = ⊤

  pub given_passed : {path : Scopes} {c : translating.Context} {d : Context} → Round is path c d → (w : Wanted) → IsActual w → (b : tree.Phrase) → (NoFaults (faults (typed_phrase path b)) → Fitted table c d (typed_phrase path b)) → ListKnown path c d b → NoFaults (given path w b (typed_phrase path b)).inside
      → Passed c d w (given path w b (typed_phrase path b)).node (given path w b (typed_phrase path b)).part
  given_passed {path} {c} {d} r w u (tree.At p f (tree.Named x tree.no_lists)) k l i = alone_given r w u p f (declared path x) (found_stands is c d path x r.stands) (λ h q e. phrase_passed r w (tree.At p f (tree.Named x tree.no_lists)) (k h) q e) i
  given_passed {path} {c} {d} r w u (tree.At p f (tree.Named x (tree.list_and (tree.OfActuals q list) tree.no_lists))) k l i =
      let ps = typed_parts path (reading_of (declared path x)) list in
      list_given_passed r w u (ps.inside ++ []) p f q (use_with_list p (declared path x) ps.parts) ps.actuals ps.parts (declared path x) (found_stands is c d path x r.stands) (λ h e. l (none_first ps.inside [] h) e)
      (λ h z e. phrase_passed r w (tree.At p f (tree.Named x (tree.list_and (tree.OfActuals q list) tree.no_lists))) (k h) z e) i
  given_passed r w u (tree.At p f (tree.Named x (tree.list_and (tree.OfActuals q list) (tree.list_and m ms)))) k l i = phrase_passed r w (tree.At p f (tree.Named x (tree.list_and (tree.OfActuals q list) (tree.list_and m ms)))) (k i) _ refl
  given_passed r w u (tree.At p f (tree.Named x (tree.list_and (tree.OfPart q a n) ms))) k l i = phrase_passed r w (tree.At p f (tree.Named x (tree.list_and (tree.OfPart q a n) ms))) (k i) _ refl
  given_passed r (formal_wanted h) u (tree.At p f (tree.Assign x y)) k l i = phrase_passed r (formal_wanted h) (tree.At p f (tree.Assign x y)) (k i) _ refl
  given_passed r any_wanted u (tree.At p f (tree.Assign x y)) k l i = phrase_passed r any_wanted (tree.At p f (tree.Assign x y)) (k i) _ refl
  given_passed r phrase_wanted u (tree.At p f (tree.Assign x y)) k l i = absurd u
  given_passed r none_wanted u (tree.At p f (tree.Assign x y)) k l i = absurd u
  given_passed r w u (tree.At p f z) k l i = phrase_passed r w (tree.At p f z) (k i) _ refl
