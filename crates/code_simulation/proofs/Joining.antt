-- Actuals joined to binding: what is ready suits its formal, and stays what it is below the cells that hold it.
use Rattle.std.proofs.Common.{◌≡◌, ℕ, zero, suc, ◌+◌, ◌-◌, ◌<◌, ◌≤◌, ◌⊎◌, inl, inr, List, [], ◌∷◌, ◌++◌, length, map, Option, Some, None, refl, sym, ap, ◌∙◌, subst, arith, append_assoc}
use Rattle.std.specs.Prelude.{slice_get}
use Rattle.value_ops.specs.declared.places.Place.{Place}
use Rattle.algolw_typing.specs.Meanings.{FormalType, by_name, by_value, by_result, by_value_result, for_array, for_procedure}
use Rattle.program_meaning.specs.Phrases.{Formal, Actual, Given, Alone, Subarray, Actuals, no_actuals, actual_and}
use Rattle.program_meaning.specs.State as state
use Rattle.program_meaning.specs.State.{State, Setting, Outcome, on, jump, stop, M, after, ArrayInfo, ShownName}
use Rattle.program_meaning.specs.Environments.{Env, empty, bind, head, Thing, to_constant, to_variable, to_array, to_label, to_procedure, thunk, Bodied, Job, Ready, with_value, without_value, put_for, value_ready, procedure_handed, array_handed, subarray_at, go_stars, invoked, no_formals, go, go_actual, go_actuals}
use Rattle.stack_code.specs.Code.{Code, Coded}
use Rattle.stack_code.specs.Doing.{cell_of}
use Rattle.stack_code.specs.Machine as machine
use Rattle.stack_code.specs.Machine.{Machine, Content, Entry, on_top_of}
use Rattle.phrase_code.specs.Sizes.{kind_of_formal, a_variable, an_array, a_name_formal, a_procedure_formal, actuals_size}
use Rattle.phrase_code.specs.Coding.{Stand, Context, known, code_actuals}
use Rattle.code_simulation.specs.Relation.{HasAt, Slot, variable, fixed, Base, Heap, mach, World, HasEntry, HasArray, Shows, Means, Shown, Listed, At}
use Rattle.code_simulation.specs.Following.{Follows}
use Rattle.code_simulation.specs.Ready.{ThingIs, ReadyIs, ReadyAre}
use Rattle.code_simulation.proofs.Stacks.{top_below, top_less, none_is_some}
use Rattle.code_simulation.proofs.Rows.{OnAll, follows_with, follows_as}
use Rattle.code_simulation.proofs.Keeping.{Later, shows_later, array_later}
use Rattle.code_simulation.proofs.Cells.{fixed_over, pushed_all, Heaped}
use Rattle.code_simulation.proofs.Actuals.{ReadyAs}
use Rattle.code_simulation.proofs.ActualLists.{AllReady, ActualsReady, EachActual, actuals_follow}
use Rattle.code_simulation.proofs.Keeping.{as_few, under_way_later}
use Rattle.phrase_code.specs.Marks.{actuals_marks}
use Rattle.code_simulation.specs.Room.{Fits}
use Rattle.program_meaning.specs.State.{most_cells}

-- ---- what is ready suits its formal

abbrev pub Suits : FormalType → Ready → Type 0
Suits f (with_value v) = kind_of_formal f ≡ a_variable
Suits f without_value = kind_of_formal f ≡ a_variable
Suits f (put_for (to_array k given)) = kind_of_formal f ≡ an_array
Suits f (put_for (to_procedure k)) = kind_of_formal f ≡ a_procedure_formal
Suits f (put_for (thunk m a e)) = (kind_of_formal f ≡ a_name_formal) ⊎ (kind_of_formal f ≡ a_procedure_formal)
Suits f (put_for t) = ⊥

abbrev pub AllSuit : List Formal → List Ready → Type 0
AllSuit [] [] = Unit {0}
AllSuit (f ∷ fs) (r ∷ rs) = Suits f.is r × AllSuit fs rs
AllSuit fs rs = ⊥

on_all_after : {A B : Type 0} (P : B → Type 0) (r : Outcome Bodied A) (f : A → M Bodied B) → ((a : A) (s : State Bodied) → OnAll P (f a s)) → OnAll P (after r f)
on_all_after P (on a s) f h = h a s
on_all_after P (jump l s) f h = tt
on_all_after P (stop y w s) f h = tt

on_all_then : {A B : Type 0} (P : A → Type 0) (Q : B → Type 0) (r : Outcome Bodied A) (f : A → M Bodied B) → OnAll P r → ((a : A) (s : State Bodied) → P a → OnAll Q (f a s)) → OnAll Q (after r f)
on_all_then P Q (on a s) f p h = h a s p
on_all_then P Q (jump l s) f p h = tt
on_all_then P Q (stop y w s) f p h = tt

suits_value : (f : FormalType) → kind_of_formal f ≡ a_variable → (w : Place) (t : Rattle.algolw_typing.specs.Types.ValueType) (m : M Bodied state.Given) (s : State Bodied) → OnAll (Suits f) (value_ready w t m s)
suits_value f q w t m s = on_all_after (Suits f) (state.value_of w m s) _ (λ v s1. on_all_after (Suits f) (state.made w t v s1) _ (λ u s2. q))

suits_procedure : (f : FormalType) → kind_of_formal f ≡ a_procedure_formal → (w : Place) (o : Option Thing) (s : State Bodied) → OnAll (Suits f) (procedure_handed w o s)
suits_procedure f q w (Some (to_procedure k)) s = q
suits_procedure f q w (Some (thunk m a e)) s = inr q
suits_procedure f q w (Some (to_array k given)) s = tt
suits_procedure f q w (Some (to_constant v)) s = tt
suits_procedure f q w (Some (to_variable v)) s = tt
suits_procedure f q w (Some (to_label v)) s = tt
suits_procedure f q w None s = tt

suits_array : (f : FormalType) → kind_of_formal f ≡ an_array → (w : Place) (o : Option Thing) (s : State Bodied) → OnAll (Suits f) (array_handed w o s)
suits_array f q w (Some (to_procedure k)) s = tt
suits_array f q w (Some (thunk m a e)) s = tt
suits_array f q w (Some (to_array k given)) s = q
suits_array f q w (Some (to_constant v)) s = tt
suits_array f q w (Some (to_variable v)) s = tt
suits_array f q w (Some (to_label v)) s = tt
suits_array f q w None s = tt

module _ (set : Setting) (later : Job → M Bodied state.Given) where
  suits_subarray : (f : FormalType) → kind_of_formal f ≡ an_array → (w : Place) (o : Option Thing) (is : List (Option Rattle.std.proofs.Common.ℤ)) (s : State Bodied) → OnAll (Suits f) (subarray_at set later w o is s)
  suits_subarray f q w (Some (to_array k given)) is s = on_all_after (Suits f) (state.the_array w k s) _ (λ a s1. by (Rattle.program_meaning.specs.State.all_within a.bounds (Rattle.program_meaning.specs.State.filled_in given is)) s1)
    where
      by : (t : Rattle.std.specs.Prelude.Bool) (s1 : State Bodied) → OnAll (Suits f) (state.test t (state.◌>>◌ (state.give_back (Rattle.program_meaning.specs.Copying.cells_of is)) (state.give (put_for (to_array k (Rattle.program_meaning.specs.State.filled_in given is))))) (state.fault_at Rattle.value_ops.specs.declared.faults.Fault.TheVariants.SubscriptOutsideBounds w) s1)
      by Rattle.std.specs.Prelude.true s1 = q
      by Rattle.std.specs.Prelude.false s1 = tt
  suits_subarray f q w (Some (to_procedure k)) is s = tt
  suits_subarray f q w (Some (thunk m a e)) is s = tt
  suits_subarray f q w (Some (to_constant v)) is s = tt
  suits_subarray f q w (Some (to_variable v)) is s = tt
  suits_subarray f q w (Some (to_label v)) is s = tt
  suits_subarray f q w None is s = tt

  suits_actual : (a : Actual) (f : FormalType) (at : Place) (e : Env) (s : State Bodied) → OnAll (Suits f) (go_actual set later a at f e s)
  suits_actual (Given v g first a) (by_value t) at e s = suits_value (by_value t) refl at t (go set later a state.for_value at e) s
  suits_actual (Given v g first a) (by_value_result t) at e s = suits_value (by_value_result t) refl at t (go set later a state.for_value at e) s
  suits_actual (Given v g first a) (by_result t) at e s = refl
  suits_actual (Given v g first a) (by_name t) at e s = inl refl
  suits_actual (Given v g first a) (for_procedure t) at e s = inr refl
  suits_actual (Given v g first a) (for_array t n) at e s = tt
  suits_actual (Alone p a) (by_value t) at e s = suits_value (by_value t) refl at t (invoked set later at Rattle.std.specs.Prelude.true p (head e a) no_actuals e (λ fs. no_formals at fs) (λ fs bs. state.give tt)) s
  suits_actual (Alone p a) (by_name t) at e s = inl refl
  suits_actual (Alone p a) (for_procedure t) at e s = suits_procedure (for_procedure t) refl at (head e a) s
  suits_actual (Alone p a) (for_array t n) at e s = suits_array (for_array t n) refl at (head e a) s
  suits_actual (Alone p a) (by_result t) at e s = tt
  suits_actual (Alone p a) (by_value_result t) at e s = tt
  suits_actual (Subarray a given) (for_array t n) at e s = on_all_after (Suits (for_array t n)) (go_stars set later given at e s) _ (λ is s1. suits_subarray (for_array t n) refl at (head e a) is s1)
  suits_actual (Subarray a given) f at e s = tt

  -- all that is ready does
  pub all_suit : (given : Actuals) (fs : List Formal) (at : Place) (e : Env) (s : State Bodied) → OnAll (AllSuit fs) (go_actuals set later given at fs e s)
  all_suit no_actuals [] at e s = tt
  all_suit no_actuals (f ∷ fs) at e s = tt
  all_suit (actual_and a rest) [] at e s = tt
  all_suit (actual_and a rest) (f ∷ fs) at e s = on_all_then (Suits f.is) (AllSuit (f ∷ fs)) (go_actual set later a at f.is e s) _ (suits_actual a f.is at e s)
      (λ r s1 p. on_all_after (AllSuit (f ∷ fs)) (state.take_cells 1 at s1) _ (λ z s2. on_all_then (AllSuit fs) (AllSuit (f ∷ fs)) (go_actuals set later rest at fs e s2) _ (all_suit rest fs at e s2) (λ rs s3 ps. (p, ps))))

-- what suits is what binding wants
ready_is : (program : List Coded) (w : World) (b : Base) (arrays : List (Option ArrayInfo)) (f : FormalType) (r : Ready) (x : Content) → ReadyAs program w b arrays r x → Suits f r → ReadyIs program w b arrays f r x
ready_is program w b arrays f (with_value v) (machine.a_value u) e q = (q, ap machine.a_value (sym e))
ready_is program w b arrays f without_value machine.nothing e q = (q, refl)
ready_is program w b arrays f (put_for (to_array k given)) (machine.an_array a free) e q = (q, a, ap (machine.an_array a) (sym e.0), e.1)
ready_is program w b arrays f (put_for (to_procedure k)) (machine.a_procedure p) e q = (q, e.0, e.1, e.2, ap machine.a_procedure e.3)
ready_is program w b arrays f (put_for (thunk m a env)) (machine.a_thunk t) e q = (q, t, refl, e.0, e.1, e.2, e.3, e.4)
ready_is program w b arrays f r x e q = absurd e

pub ready_are : (program : List Coded) (w : World) (b : Base) (arrays : List (Option ArrayInfo)) (fs : List Formal) (rs : List Ready) (xs : List Content) → AllReady program w b arrays rs xs → AllSuit fs rs → ReadyAre program w b arrays fs rs xs
ready_are program w b arrays [] [] [] a q = tt
ready_are program w b arrays (f ∷ fs) (r ∷ rs) (x ∷ xs) a q = (ready_is program w b arrays f.is r x a.0 q.0, ready_are program w b arrays fs rs xs a.1 q.1)
ready_are program w b arrays [] (r ∷ rs) xs a q = absurd q
ready_are program w b arrays (f ∷ fs) [] xs a q = absurd q
ready_are program w b arrays fs rs xs a q = absurd a

-- ---- below the cells that hold it

top_down : (xs : List Content) (l : List Slot) (c : ℕ) (x : Slot) → c < length l → on_top_of (fixed_over xs l) c ≡ Some x → on_top_of l c ≡ Some x
top_down [] l c x q e = e
top_down (y ∷ xs) l c x q e = by (top_less (fixed y) l c x (top_down xs (fixed y ∷ l) c x (omega (arith, q)) e))
  where
    by : ((c ≡ length l) × (x ≡ fixed y)) ⊎ (on_top_of l c ≡ Some x) → on_top_of l c ≡ Some x
    by (inl p) = let z = p.0 in absurd (omega (arith, q, z))
    by (inr p) = p

-- a variable stands in no cell that was pushed
variable_down : (xs : List Content) (l : List Slot) (c k : ℕ) → on_top_of (fixed_over xs l) c ≡ Some (variable k) → on_top_of l c ≡ Some (variable k)
variable_down [] l c k e = e
variable_down (y ∷ xs) l c k e = by (top_less (fixed y) l c (variable k) (variable_down xs (fixed y ∷ l) c k e))
  where
    by : ((c ≡ length l) × (variable k ≡ fixed y)) ⊎ (on_top_of l c ≡ Some (variable k)) → on_top_of l c ≡ Some (variable k)
    by (inl p) = let z = p.1 in absurd (cc)
    by (inr p) = p

-- the cell of each entry is there
shown_there : (b : Base) (arrays : List (Option ArrayInfo)) (held : state.Held) (k : ℕ) (o : Option Slot) → on_top_of b.slots k ≡ o → Shown b arrays held o → k < length b.slots
shown_there b arrays held k None e x = absurd (none held x)
  where
    none : (held : state.Held) → Shown b arrays held None → ⊥
    none (state.a_variable n) y = y
    none (state.an_array n given) y = y
    none (state.a_number n) y = y
    none state.by_name y = y
    none state.a_procedure y = y
shown_there b arrays held k (Some x) e y = top_below b.slots k x e

pub entries_there : (program : List Coded) (b : Base) (arrays : List (Option ArrayInfo)) (entries : List Entry) (names : List ShownName) (active : List state.Entry) → Listed program b arrays entries names active → (j : ℕ) (e : Entry) (c : ℕ) → on_top_of entries j ≡ Some e → cell_of (Some e) ≡ Some c → c < length b.slots
entries_there program b arrays [] names active x j e c p q = let z = top_below [] j e p in absurd (omega (arith, z))
entries_there program b arrays (machine.a_name text k ∷ entries) names active x j e c p q = by (top_less (machine.a_name text k) entries j e p) (λ z. entries_there program b arrays entries _ active x.2 j e c z q)
  where
    by : ((j ≡ length entries) × (e ≡ machine.a_name text k)) ⊎ (on_top_of entries j ≡ Some e) → (on_top_of entries j ≡ Some e → c < length b.slots) → c < length b.slots
    by (inl z) f = let y = shown_there b arrays x.0 k (on_top_of b.slots k) refl x.1 in let i : Some k ≡ Some c = ap (λ o. cell_of (Some o)) (sym z.1) ∙ q in subst (λ n. n < length b.slots) (some_is k c i) y
      where
        some_is : (m n : ℕ) → Some m ≡ Some n → m ≡ n
        some_is m n o = cc
    by (inr z) f = f z
entries_there program b arrays (machine.a_procedure_name text k ∷ entries) names active x j e c p q = by (top_less (machine.a_procedure_name text k) entries j e p) (λ z. entries_there program b arrays entries _ active x.2 j e c z q)
  where
    by : ((j ≡ length entries) × (e ≡ machine.a_procedure_name text k)) ⊎ (on_top_of entries j ≡ Some e) → (on_top_of entries j ≡ Some e → c < length b.slots) → c < length b.slots
    by (inl z) f = let y = top_below b.slots k x.0 x.1 in let i : Some k ≡ Some c = ap (λ o. cell_of (Some o)) (sym z.1) ∙ q in subst (λ n. n < length b.slots) (some_is k c i) y
      where
        some_is : (m n : ℕ) → Some m ≡ Some n → m ≡ n
        some_is m n o = cc
    by (inr z) f = f z
entries_there program b arrays (machine.a_block at n ∷ entries) names (state.in_block at' xs ∷ active) x j e c p q = by (top_less (machine.a_block at n) entries j e p) (λ z. entries_there program b arrays entries [] active x.2 j e c z q)
  where
    by : ((j ≡ length entries) × (e ≡ machine.a_block at n)) ⊎ (on_top_of entries j ≡ Some e) → (on_top_of entries j ≡ Some e → c < length b.slots) → c < length b.slots
    by (inl z) f = absurd (none_is_some (ap (λ o. cell_of (Some o)) (sym z.1) ∙ q))
    by (inr z) f = f z
entries_there program b arrays (machine.declared n d fr ∷ entries) names active x j e c p q = by (top_less (machine.declared n d fr) entries j e p) (λ z. entries_there program b arrays entries names active x j e c z q)
  where
    by : ((j ≡ length entries) × (e ≡ machine.declared n d fr)) ⊎ (on_top_of entries j ≡ Some e) → (on_top_of entries j ≡ Some e → c < length b.slots) → c < length b.slots
    by (inl z) f = absurd (none_is_some (ap (λ o. cell_of (Some o)) (sym z.1) ∙ q))
    by (inr z) f = f z
entries_there program b arrays (machine.a_turn at n ∷ entries) names (state.in_turn at' xs ∷ active) x j e c p q = by (top_less (machine.a_turn at n) entries j e p) (λ z. entries_there program b arrays entries [] active x.2 j e c z q)
  where
    by : ((j ≡ length entries) × (e ≡ machine.a_turn at n)) ⊎ (on_top_of entries j ≡ Some e) → (on_top_of entries j ≡ Some e → c < length b.slots) → c < length b.slots
    by (inl z) f = absurd (none_is_some (ap (λ o. cell_of (Some o)) (sym z.1) ∙ q))
    by (inr z) f = f z
entries_there program b arrays (machine.a_call hd at ∷ entries) names (state.in_call n at' xs ∷ active) x j e c p q = by (top_less (machine.a_call hd at) entries j e p) (λ z. entries_there program b arrays entries [] active x.3 j e c z q)
  where
    by : ((j ≡ length entries) × (e ≡ machine.a_call hd at)) ⊎ (on_top_of entries j ≡ Some e) → (on_top_of entries j ≡ Some e → c < length b.slots) → c < length b.slots
    by (inl z) f = absurd (none_is_some (ap (λ o. cell_of (Some o)) (sym z.1) ∙ q))
    by (inr z) f = f z
entries_there program b arrays (machine.an_actual hd ∷ entries) names (state.in_actual at' ∷ active) x j e c p q = by (top_less (machine.an_actual hd) entries j e p) (λ z. entries_there program b arrays entries [] active x.2 j e c z q)
  where
    by : ((j ≡ length entries) × (e ≡ machine.an_actual hd)) ⊎ (on_top_of entries j ≡ Some e) → (on_top_of entries j ≡ Some e → c < length b.slots) → c < length b.slots
    by (inl z) f = absurd (none_is_some (ap (λ o. cell_of (Some o)) (sym z.1) ∙ q))
    by (inr z) f = f z
entries_there program b arrays (machine.an_aside ∷ entries) names active x j e c p q = by (top_less machine.an_aside entries j e p) (λ z. entries_there program b arrays entries names active x j e c z q)
  where
    by : ((j ≡ length entries) × (e ≡ machine.an_aside)) ⊎ (on_top_of entries j ≡ Some e) → (on_top_of entries j ≡ Some e → c < length b.slots) → c < length b.slots
    by (inl z) f = absurd (none_is_some (ap (λ o. cell_of (Some o)) (sym z.1) ∙ q))
    by (inr z) f = f z
entries_there program b arrays (machine.some_widths ws ∷ entries) names active x j e c p q = by (top_less (machine.some_widths ws) entries j e p) (λ z. entries_there program b arrays entries names active x j e c z q)
  where
    by : ((j ≡ length entries) × (e ≡ machine.some_widths ws)) ⊎ (on_top_of entries j ≡ Some e) → (on_top_of entries j ≡ Some e → c < length b.slots) → c < length b.slots
    by (inl z) f = absurd (none_is_some (ap (λ o. cell_of (Some o)) (sym z.1) ∙ q))
    by (inr z) f = f z
entries_there program b arrays entries names active x j e c p q = absurd x

module _ (program : List Coded) (w : World) (b : Base) (arrays : List (Option ArrayInfo)) (xs : List Content) (there : (j : ℕ) (e : Entry) (c : ℕ) → on_top_of b.entries j ≡ Some e → cell_of (Some e) ≡ Some c → c < length b.slots) where
  entry_down : (name : Stand) (level : ℕ) (text : Option ℕ) (slot : Slot) → HasEntry (pushed_all xs b) name level text slot → HasEntry b name level text slot
  entry_down name level text slot x = record { out = x.out; start = x.start; starts = x.starts; entry = x.entry; stands = x.stands; cell = x.cell; is = x.is; holds = top_down xs b.slots x.cell slot (there (x.start + name.position) x.entry x.cell x.stands x.is) x.holds }

  array_down : (k : ℕ) (a : ArrayInfo) → HasArray (pushed_all xs b) arrays k a → HasArray b arrays k a
  array_down k a x = record { info = x.info; is = x.is; type = x.type; bounds = x.bounds; elements = λ i q. variable_down xs b.slots (a.first + i) (x.info.first + i) (x.elements i q) }

  mutual
    shows_down : (e : Env) (names : List Stand) (level : ℕ) (text : Option ℕ) → Shows program w (pushed_all xs b) arrays e names level text → Shows program w b arrays e names level text
    shows_down empty [] level text x = tt
    shows_down empty (name ∷ names) level text x = x
    shows_down (bind y t e) [] level text x = x
    shows_down (bind y t e) (name ∷ names) level text x = (x.0, means_down t name level text x.1, shows_down e names level text x.2)

    means_down : (t : Thing) (name : Stand) (level : ℕ) (text : Option ℕ) → Means program w (pushed_all xs b) arrays t name level text → Means program w b arrays t name level text
    means_down (to_constant v) name level text x = (x.0, entry_down name level text _ x.1)
    means_down (to_variable k) name level text x = (x.0, entry_down name level text _ x.1)
    means_down (to_array k given) name level text x = (x.0, x.1, entry_down name level text _ x.2, array_down k x.1 x.3)
    means_down (to_label n) name level text x = let y = x.1 in (x.0, record { target = y.target; has = y.has; number = y.number; item = y.item; out = y.out; text_is = y.text_is; start = y.start; starts = y.starts; cut = y.cut; mark = y.mark })
    means_down (to_procedure k) name level text (inl y) = inl (record { procedure = y.procedure; has = y.has; number = y.number; kind = y.kind; head = y.head; out = y.out; text_is = y.text_is })
    means_down (to_procedure k) name level text (inr y) = inr (record { procedure = y.procedure; has = y.has; number = y.number; kind = y.kind; entry = entry_down name level text _ y.entry })
    means_down (thunk m a e) name level text x = (x.0, x.1, entry_down name level text _ x.2, x.3, x.4, shows_down e x.3.names x.3.level x.1.link x.5, x.6, x.7)

  thing_down : (f : FormalType) (t : Thing) (x : Content) → ThingIs program w (pushed_all xs b) arrays f t x → ThingIs program w b arrays f t x
  thing_down f (thunk m a e) x y = (y.0, y.1, y.2, y.3, y.4, shows_down e y.3.names y.3.level y.1.link y.5, y.6, y.7)
  thing_down f (to_array k given) x y = (y.0, y.1, y.2, array_down k y.1 y.3)
  thing_down f (to_procedure k) x y = y
  thing_down f (to_constant v) x y = y
  thing_down f (to_variable v) x y = y
  thing_down f (to_label v) x y = y

  -- what is ready is so without the cells
  pub ready_down : (fs : List Formal) (rs : List Ready) (ys : List Content) → ReadyAre program w (pushed_all xs b) arrays fs rs ys → ReadyAre program w b arrays fs rs ys
  ready_down [] [] [] a = tt
  ready_down (f ∷ fs) (with_value v ∷ rs) (y ∷ ys) a = (a.0, ready_down fs rs ys a.1)
  ready_down (f ∷ fs) (without_value ∷ rs) (y ∷ ys) a = (a.0, ready_down fs rs ys a.1)
  ready_down (f ∷ fs) (put_for t ∷ rs) (y ∷ ys) a = (thing_down f.is t y a.0, ready_down fs rs ys a.1)
  ready_down fs rs ys a = absurd a

-- and on a later machine
thing_later : {w w' : World} {b b' : Base} {arrays arrays' : List (Option ArrayInfo)} (program : List Coded) → Later w b arrays w' b' arrays' → (f : FormalType) (t : Thing) (x : Content) → ThingIs program w b arrays f t x → ThingIs program w' b' arrays' f t x
thing_later program l f (thunk m a e) x y = (y.0, y.1, y.2, y.3, y.4, shows_later program l e y.3.names y.3.level y.1.link y.5, as_few l y.6, under_way_later l y.1.link y.7)
thing_later program l f (to_array k given) x y = (y.0, y.1, y.2, array_later l k y.1 y.3)
thing_later program l f (to_procedure k) x y = (y.0, y.1, l.procedures y.1 y.2, y.3, y.4)
thing_later program l f (to_constant v) x y = absurd y
thing_later program l f (to_variable v) x y = absurd y
thing_later program l f (to_label v) x y = absurd y

pub ready_later_all : {w w' : World} {b b' : Base} {arrays arrays' : List (Option ArrayInfo)} (program : List Coded) → Later w b arrays w' b' arrays' → (fs : List Formal) (rs : List Ready) (xs : List Content) → ReadyAre program w b arrays fs rs xs → ReadyAre program w' b' arrays' fs rs xs
ready_later_all program l [] [] [] a = tt
ready_later_all program l (f ∷ fs) (with_value v ∷ rs) (y ∷ ys) a = (a.0, ready_later_all program l fs rs ys a.1)
ready_later_all program l (f ∷ fs) (without_value ∷ rs) (y ∷ ys) a = (a.0, ready_later_all program l fs rs ys a.1)
ready_later_all program l (f ∷ fs) (put_for t ∷ rs) (y ∷ ys) a = (thing_later program l f.is t y a.0, ready_later_all program l fs rs ys a.1)
ready_later_all program l fs rs xs a = absurd a

-- ---- actuals, up to what binding wants

-- cells hold the actuals of formals
pub record ActualsBound (program : List Coded) (w : World) (b : Base) (active : List state.Entry) (next : ℕ) (fs : List Formal) (rs : List Ready) (h : Heap) (s : State Bodied) (m : Machine) : Type 0 where
  pub cells : List Content
  pub ready : ReadyAre program w (pushed_all cells b) s.arrays fs rs cells
  pub heaped : Heaped b cells active next h s m
  pub count_is : length cells ≡ length fs
  pub few : (n : ℕ) → n ≤ length b.slots → n ≤ most_cells → n + length fs ≤ most_cells

module _ (set : Setting) (program : Code) (later : Job → M Bodied state.Given) where
  -- actuals that are ready are what binding wants
  pub ready_bound : (given : Actuals) (fs : List Formal) (at : Place) (w : World) (b : Base) (h : Heap) (s : State Bodied) (e : Env) (next : ℕ) (m : Machine) → Follows set program (ActualsReady program.instructions w b s.active next (length fs)) w.targets h s m (go_actuals set later given at fs e s) →
      Follows set program (ActualsBound program.instructions w b s.active next fs) w.targets h s m (go_actuals set later given at fs e s)
  ready_bound given fs at w b h s e next m f =
      let Q = ActualsReady program.instructions w b s.active next (length fs) in
      follows_as set program (λ rs h' s' m'. Q rs h' s' m' × AllSuit fs rs) (ActualsBound program.instructions w b s.active next fs) w.targets h s m (go_actuals set later given at fs e s)
      (λ rs h' s' m' x. let y = x.0 in record { cells = y.cells; ready = ready_are program.instructions w (pushed_all y.cells b) s'.arrays fs rs y.cells y.ready x.1; heaped = y.heaped; count_is = y.count_is; few = y.few })
      (follows_with set program (AllSuit fs) Q w.targets h s m (go_actuals set later given at fs e s) (all_suit set later given fs at e s) f)

  pub actuals_bound : (given : Actuals) → EachActual set program later given → (fs : List Formal) → (at : Place) (w : World) (b : Base) (h : Heap) (s : State Bodied) (c : Context) (e : Env) (k : ℕ) (held : Content) → HasAt program.instructions k (code_actuals c at k given fs) → At program.instructions w b h s c e → Fits program.marks w b (actuals_marks given) →
      Follows set program (ActualsBound program.instructions w b s.active (k + actuals_size (known c) given fs) fs) w.targets h s (mach b h s k held) (go_actuals set later given at fs e s)
  actuals_bound given p fs at w b h s c e k held code l ft =
      ready_bound given fs at w b h s e (k + actuals_size (known c) given fs) (mach b h s k held) (actuals_follow set program later given p fs at w b h s c e k held code l ft)
