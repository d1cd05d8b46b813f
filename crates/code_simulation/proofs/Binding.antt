-- Formals are bound: their variables, and their cells.
use Rattle.std.proofs.Common.{◌≡◌, ℕ, ◌+◌, ◌-◌, ◌<◌, ◌⊎◌, inl, inr, List, [], ◌∷◌, ◌++◌, length, map, Option, Some, None, refl, sym, ap, ◌∙◌, subst, arith, length-append, append_assoc, append-nil}
use Rattle.std.specs.Prelude.{slice_get, Bool, true}
use Rattle.value_ops.specs.declared.places.Place.{Place}
use Rattle.value_ops.specs.declared.values.Value.{Value}
use Rattle.program_meaning.specs.Phrases.{Formal}
use Rattle.program_meaning.specs.State as state
use Rattle.program_meaning.specs.State.{State, Outcome, on, ArrayInfo, RecordInfo, after}
use Rattle.algolw_typing.specs.Meanings.{FormalType, by_name, by_value, by_result, by_value_result, for_array, for_procedure}
use Rattle.stack_code.specs.Doing.{cell_of, start_at}
use Rattle.stack_code.specs.Doing as doing
use Rattle.stack_code.specs.Doing.{without_newest}
use Rattle.stack_code.specs.Instr as instr
use Rattle.stack_code.specs.Table.{name_of, finished}
use Rattle.program_meaning.specs.State.{Setting}
use Rattle.stack_code.specs.Code.{Code}
use Rattle.stack_code.specs.Machine.{Machine, Entry, Frame, lowest}
use Rattle.code_simulation.specs.Relation.{Shown, Listed, mach}
use Rattle.code_simulation.specs.Ready.{formal_entries}
use Rattle.code_simulation.specs.Following.{Comes}
use Rattle.code_simulation.proofs.Rows.{one_row}
use Rattle.code_simulation.proofs.Texts.{ended_state, newest_at, replaced_newest}
use Rattle.phrase_code.specs.Sizes.{kind_of_formal, a_variable, an_array, a_name_formal, a_procedure_formal}
use Rattle.phrase_code.specs.Coding.{Stand, formal_stands}
use Rattle.program_meaning.specs.Environments.{Env, Thing, to_constant, to_array, to_label, to_procedure, thunk, extend, Bodied, Ready, with_value, without_value, put_for, bind_to, bound, to_variable, held_for}
use Rattle.stack_code.specs.Code.{Coded}
use Rattle.stack_code.specs.Machine as machine
use Rattle.stack_code.specs.Machine.{Content, Where, in_cell, in_field, on_top_of}
use Rattle.code_simulation.specs.Relation.{Slot, variable, fixed, Base, Heap, World, Stands, HasEntry, Shows, Means, Settled, content_of, content_of_variable}
use Rattle.code_simulation.specs.Ready.{ThingIs, ReadyAre, FormalsAt, new_values, bound_of, pushed_slots, bound_slots}
use Rattle.code_simulation.proofs.Stacks.{length_map, map_append, lowest_append, top_at, top_more, top_less, get_append, get_behind, get_below}
use Rattle.code_simulation.proofs.Keeping.{Over, pushed, settled_pushed}
use Rattle.code_simulation.proofs.Scopes.{own_entry}
use Rattle.code_simulation.proofs.Elements.{pushes}

-- slots that hold the same below those that are pushed
pushed_same : (memory : List (Option Value)) (xs : List Content) (l l' : List Slot) → map (content_of memory) l ≡ map (content_of memory) l' → map (content_of memory) (pushed_slots xs l) ≡ map (content_of memory) (pushed_slots xs l')
pushed_same memory [] l l' e = e
pushed_same memory (x ∷ xs) l l' e = pushed_same memory xs (fixed x ∷ l) (fixed x ∷ l') (ap (λ m. x ∷ m) e)

-- a variable that is new holds what was pushed for it
one_new : (v : Option Value) (x : Content) (rs : List Ready) (xs : List Content) (before : List (Option Value)) (l : List Slot) → x ≡ content_of_variable (Some v) →
    map (content_of ((before ++ v ∷ []) ++ new_values rs)) (bound_slots (length (before ++ v ∷ [])) rs xs (variable (length before) ∷ l)) ≡ map (content_of ((before ++ v ∷ []) ++ new_values rs)) (pushed_slots xs (variable (length before) ∷ l)) →
    map (content_of (before ++ v ∷ new_values rs)) (bound_slots (length before + 1) rs xs (variable (length before) ∷ l)) ≡ map (content_of (before ++ v ∷ new_values rs)) (pushed_slots xs (fixed x ∷ l))
one_new v x rs xs before l e ih =
    let memory = before ++ v ∷ new_values rs in
    let n : length (before ++ v ∷ []) ≡ length before + 1 = length-append before (v ∷ []) in
    let m : (before ++ v ∷ []) ++ new_values rs ≡ memory = append_assoc before (v ∷ []) (new_values rs) in
    let z : length before + 0 ≡ length before = omega arith in
    let own : slice_get memory (length before) ≡ Some v = ap (slice_get memory) (sym z) ∙ get_behind before (v ∷ new_values rs) 0 in
    subst (λ i. map (content_of memory) (bound_slots i rs xs (variable (length before) ∷ l)) ≡ map (content_of memory) (pushed_slots xs (variable (length before) ∷ l))) n
    (subst (λ i. map (content_of i) (bound_slots (length (before ++ v ∷ [])) rs xs (variable (length before) ∷ l)) ≡ map (content_of i) (pushed_slots xs (variable (length before) ∷ l))) m ih)
    ∙ pushed_same memory xs (variable (length before) ∷ l) (fixed x ∷ l) (ap (λ c. c ∷ map (content_of memory) l) (ap content_of_variable own ∙ sym e))

-- ---- what is bound

module _ (program : List Coded) (w : World) (b : Base) (arrays : List (Option ArrayInfo)) where
  -- binding takes new variables, and stops nowhere
  pub bound_is : (at : Place) (fs : List Formal) (rs : List Ready) (xs : List Content) (s : State Bodied) → ReadyAre program w b arrays fs rs xs → bound at fs rs s ≡ on (bound_of (length s.memory) fs rs) (record s { memory = s.memory ++ new_values rs })
  bound_is at [] [] [] s a = ap (λ m. on (bound_of (length s.memory) [] []) (record s { memory = m })) (sym (append-nil s.memory))
  bound_is at (f ∷ fs) (with_value v ∷ rs) (x ∷ xs) s a =
      ap (λ r. after r (λ o. state.give (bind_to f (to_variable (length s.memory)) (state.a_variable (length s.memory)) o))) (bound_is at fs rs xs (record s { memory = s.memory ++ Some v ∷ [] }) a.1)
      ∙ ap (λ n. on (bind_to f (to_variable (length s.memory)) (state.a_variable (length s.memory)) (bound_of n fs rs)) (record s { memory = (s.memory ++ Some v ∷ []) ++ new_values rs })) (length-append s.memory (Some v ∷ []))
      ∙ ap (λ m. on (bind_to f (to_variable (length s.memory)) (state.a_variable (length s.memory)) (bound_of (length s.memory + 1) fs rs)) (record s { memory = m })) (append_assoc s.memory (Some v ∷ []) (new_values rs))
  bound_is at (f ∷ fs) (without_value ∷ rs) (x ∷ xs) s a =
      ap (λ r. after r (λ o. state.give (bind_to f (to_variable (length s.memory)) (state.a_variable (length s.memory)) o))) (bound_is at fs rs xs (record s { memory = s.memory ++ None ∷ [] }) a.1)
      ∙ ap (λ n. on (bind_to f (to_variable (length s.memory)) (state.a_variable (length s.memory)) (bound_of n fs rs)) (record s { memory = (s.memory ++ None ∷ []) ++ new_values rs })) (length-append s.memory (None ∷ []))
      ∙ ap (λ m. on (bind_to f (to_variable (length s.memory)) (state.a_variable (length s.memory)) (bound_of (length s.memory + 1) fs rs)) (record s { memory = m })) (append_assoc s.memory (None ∷ []) (new_values rs))
  bound_is at (f ∷ fs) (put_for t ∷ rs) (x ∷ xs) s a = ap (λ r. after r (λ o. state.give (bind_to f t (held_for f.is t) o))) (bound_is at fs rs xs s a.1)
  bound_is at fs rs xs s a = absurd a

  -- ---- cells

  -- the cells hold the same, before and in the call
  pub cells_bound : (fs : List Formal) (rs : List Ready) (xs : List Content) (before : List (Option Value)) (l : List Slot) → ReadyAre program w b arrays fs rs xs → map (content_of (before ++ new_values rs)) (bound_slots (length before) rs xs l) ≡ map (content_of (before ++ new_values rs)) (pushed_slots xs l)
  cells_bound [] [] [] before l a = refl
  cells_bound (f ∷ fs) (with_value v ∷ rs) (x ∷ xs) before l a = one_new (Some v) x rs xs before l (a.0.1) (cells_bound fs rs xs (before ++ Some v ∷ []) (variable (length before) ∷ l) a.1)
  cells_bound (f ∷ fs) (without_value ∷ rs) (x ∷ xs) before l a = one_new None x rs xs before l a.0.1 (cells_bound fs rs xs (before ++ None ∷ []) (variable (length before) ∷ l) a.1)
  cells_bound (f ∷ fs) (put_for t ∷ rs) (x ∷ xs) before l a = cells_bound fs rs xs before (fixed x ∷ l) a.1
  cells_bound fs rs xs before l a = absurd a

-- what is pushed, as slots
pub pushes_slots : (xs : List Content) (b : Base) → (pushes xs b).slots ≡ pushed_slots xs b.slots
pushes_slots [] b = refl
pushes_slots (x ∷ xs) b = pushes_slots xs (pushed x b)

-- ---- a variable more, which is new

abbrev pub with_new : ℕ → Base → Base
with_new n b = record b { slots = variable n ∷ b.slots }

pub settled_new : (v : Option Value) (b : Base) (h : Heap) (memory : List (Option Value)) (records : List RecordInfo) (fields : ℕ) → Settled b h memory records fields → Settled (with_new (length memory) b) h (memory ++ v ∷ []) records fields
settled_new v b h memory records fields st = record {
  apart = λ k y z p q. apart k y z (where_is k y p) (where_is k z q);
  within = λ k y p. within k y (where_is k y p);
  kept = λ k i. let z = st.kept k i in (get_append memory _ k None z.0, λ y p. others k z.0 z.1 y (where_is k y p));
  has = st.has;
  count = st.count;
  as_many = st.as_many;
  standard = st.standard;
}
  where
    where_is : (k : ℕ) (y : Where) → Stands (with_new (length memory) b) h k y → ((y ≡ in_cell (length b.slots)) × (k ≡ length memory)) ⊎ Stands b h k y
    where_is k (in_field f) p = inr p
    where_is k (in_cell c) p = by (top_less (variable (length memory)) b.slots c (variable k) p)
      where
        by : ((c ≡ length b.slots) × (variable k ≡ variable (length memory))) ⊎ (on_top_of b.slots c ≡ Some (variable k)) → ((in_cell c ≡ in_cell (length b.slots)) × (k ≡ length memory)) ⊎ (on_top_of b.slots c ≡ Some (variable k))
        by (inl q) = let z = q.1 in inl (ap in_cell q.0, cc)
        by (inr q) = inr q

    apart : (k : ℕ) (y z : Where) → ((y ≡ in_cell (length b.slots)) × (k ≡ length memory)) ⊎ Stands b h k y → ((z ≡ in_cell (length b.slots)) × (k ≡ length memory)) ⊎ Stands b h k z → y ≡ z
    apart k y z (inl p) (inl q) = p.0 ∙ sym q.0
    apart k y z (inl p) (inr q) = let l = st.within k z q in let e = p.1 in absurd (omega (arith, l, e))
    apart k y z (inr p) (inl q) = let l = st.within k y p in let e = q.1 in absurd (omega (arith, l, e))
    apart k y z (inr p) (inr q) = st.apart k y z p q

    within : (k : ℕ) (y : Where) → ((y ≡ in_cell (length b.slots)) × (k ≡ length memory)) ⊎ Stands b h k y → k < length (memory ++ v ∷ [])
    within k y (inl p) = let e = p.1 in let l = length-append memory (v ∷ []) in omega (arith, e, l)
    within k y (inr p) = let e = st.within k y p in let l = length-append memory (v ∷ []) in omega (arith, e, l)

    others : (k : ℕ) → slice_get memory k ≡ Some None → ((y : Where) → Stands b h k y → ⊥) → (y : Where) → ((y ≡ in_cell (length b.slots)) × (k ≡ length memory)) ⊎ Stands b h k y → ⊥
    others k e f y (inl p) = let q = p.1 in let l = get_below memory k None e in absurd (omega (arith, q, l))
    others k e f y (inr p) = f y p

-- all formals bound
pub settled_bound : (program : List Coded) (w : World) (b0 : Base) (arrays : List (Option ArrayInfo)) (fs : List Formal) (rs : List Ready) (xs : List Content) (b : Base) (h : Heap) (memory : List (Option Value)) (records : List RecordInfo) (fields : ℕ) → ReadyAre program w b0 arrays fs rs xs → Settled b h memory records fields →
    Settled (record b { slots = bound_slots (length memory) rs xs b.slots }) h (memory ++ new_values rs) records fields
settled_bound program w b0 arrays [] [] [] b h memory records fields a st = subst (λ m. Settled b h m records fields) (sym (append-nil memory)) st
settled_bound program w b0 arrays (f ∷ fs) (with_value v ∷ rs) (x ∷ xs) b h memory records fields a st =
    subst (λ m. Settled (record b { slots = bound_slots (length memory + 1) rs xs (variable (length memory) ∷ b.slots) }) h m records fields) (append_assoc memory (Some v ∷ []) (new_values rs))
    (subst (λ n. Settled (record b { slots = bound_slots n rs xs (variable (length memory) ∷ b.slots) }) h ((memory ++ Some v ∷ []) ++ new_values rs) records fields) (length-append memory (Some v ∷ []))
    (settled_bound program w b0 arrays fs rs xs (with_new (length memory) b) h (memory ++ Some v ∷ []) records fields a.1 (settled_new (Some v) b h memory records fields st)))
settled_bound program w b0 arrays (f ∷ fs) (without_value ∷ rs) (x ∷ xs) b h memory records fields a st =
    subst (λ m. Settled (record b { slots = bound_slots (length memory + 1) rs xs (variable (length memory) ∷ b.slots) }) h m records fields) (append_assoc memory (None ∷ []) (new_values rs))
    (subst (λ n. Settled (record b { slots = bound_slots n rs xs (variable (length memory) ∷ b.slots) }) h ((memory ++ None ∷ []) ++ new_values rs) records fields) (length-append memory (None ∷ []))
    (settled_bound program w b0 arrays fs rs xs (with_new (length memory) b) h (memory ++ None ∷ []) records fields a.1 (settled_new None b h memory records fields st)))
settled_bound program w b0 arrays (f ∷ fs) (put_for t ∷ rs) (x ∷ xs) b h memory records fields a st = settled_bound program w b0 arrays fs rs xs (pushed x b) h memory records fields a.1 (settled_pushed x b h memory records fields st)
settled_bound program w b0 arrays fs rs xs b h memory records fields a st = absurd a

-- ---- the environment of a body

cell_of_name : (f : FormalType) (text : List ℕ) (k : ℕ) → cell_of (Some (name_of f text k)) ≡ Some k
cell_of_name (by_name t) text k = refl
cell_of_name (by_value t) text k = refl
cell_of_name (by_result t) text k = refl
cell_of_name (by_value_result t) text k = refl
cell_of_name (for_array t n) text k = refl
cell_of_name (for_procedure t) text k = refl

module _ (program : List Coded) (w : World) (b : Base) (arrays : List (Option ArrayInfo)) (level : ℕ) (text : Option ℕ) (start : ℕ) (starts : start_at b.frames (Some text) ≡ Some start) where
  entry : (f : Formal) (position cell : ℕ) (slot : Slot) → on_top_of b.entries (start + position) ≡ Some (name_of f.is f.name.text cell) → on_top_of b.slots cell ≡ Some slot → HasEntry b (record { place = f.name.place; kind = kind_of_formal f.is; level = level; position = position; target = 0 }) level text slot
  entry f position cell slot p q = own_entry program w b arrays level text start starts (record { place = f.name.place; kind = kind_of_formal f.is; level = level; position = position; target = 0 }) (name_of f.is f.name.text cell) cell slot refl p (cell_of_name f.is f.name.text cell) q

  thing_means : (f : Formal) (t : Thing) (x : Content) (position cell : ℕ) → on_top_of b.entries (start + position) ≡ Some (name_of f.is f.name.text cell) → on_top_of b.slots cell ≡ Some (fixed x) → ThingIs program w b arrays f.is t x → Means program w b arrays t (record { place = f.name.place; kind = kind_of_formal f.is; level = level; position = position; target = 0 }) level text
  thing_means f (thunk m a e) x position cell p q y = (y.0, y.1, entry f position cell (fixed (machine.a_thunk y.1)) p (q ∙ ap (λ z. Some (fixed z)) y.2), y.3, y.4, y.5, y.6, y.7)
  thing_means f (to_array k given) x position cell p q y = (y.0, y.1, entry f position cell (fixed (machine.an_array y.1 given)) p (q ∙ ap (λ z. Some (fixed z)) y.2), y.3)
  thing_means f (to_procedure k) x position cell p q y = inr (record { procedure = y.1; has = y.2; number = y.3; kind = y.0; entry = entry f position cell (fixed (machine.a_procedure (record { head = y.1.head; link = y.1.link }))) p (q ∙ ap (λ z. Some (fixed z)) y.4) })
  thing_means f (to_constant v) x position cell p q y = absurd y
  thing_means f (to_variable v) x position cell p q y = absurd y
  thing_means f (to_label v) x position cell p q y = absurd y

  -- the names of formals stand for what is bound to them
  pub shows_formals : (fs : List Formal) (rs : List Ready) (xs : List Content) (position cell n : ℕ) (env : Env) (names : List Stand) → FormalsAt b start position cell n fs rs xs → ReadyAre program w b arrays fs rs xs → Shows program w b arrays env names level text → Shows program w b arrays (extend (bound_of n fs rs).puts env) (formal_stands level position fs names) level text
  shows_formals [] [] [] position cell n env names f a s = s
  shows_formals (f ∷ fs) (with_value v ∷ rs) (x ∷ xs) position cell n env names y a s = (refl, (a.0.0, entry f position cell (variable n) y.0 y.1), shows_formals fs rs xs (position + 1) (cell + 1) (n + 1) env names y.2 a.1 s)
  shows_formals (f ∷ fs) (without_value ∷ rs) (x ∷ xs) position cell n env names y a s = (refl, (a.0.0, entry f position cell (variable n) y.0 y.1), shows_formals fs rs xs (position + 1) (cell + 1) (n + 1) env names y.2 a.1 s)
  shows_formals (f ∷ fs) (put_for t ∷ rs) (x ∷ xs) position cell n env names y a s = (refl, thing_means f t x position cell y.0 y.1 a.0, shows_formals fs rs xs (position + 1) (cell + 1) n env names y.2 a.1 s)
  shows_formals fs rs xs position cell n env names y a s = absurd a

-- ---- entries and cells of formals

pub formal_old : (fs : List Formal) (cell : ℕ) (es : List Entry) (k : ℕ) (x : Entry) → on_top_of es k ≡ Some x → on_top_of (formal_entries cell fs es) k ≡ Some x
formal_old [] cell es k x e = e
formal_old (f ∷ fs) cell es k x e = formal_old fs (cell + 1) (name_of f.is f.name.text cell ∷ es) k x (top_more _ es k x e)

pub bound_old : (rs : List Ready) (xs : List Content) (n : ℕ) (l : List Slot) (c : ℕ) (x : Slot) → on_top_of l c ≡ Some x → on_top_of (bound_slots n rs xs l) c ≡ Some x
bound_old [] xs n l c x e = e
bound_old (with_value v ∷ rs) [] n l c x e = e
bound_old (without_value ∷ rs) [] n l c x e = e
bound_old (put_for t ∷ rs) [] n l c x e = e
bound_old (with_value v ∷ rs) (y ∷ xs) n l c x e = bound_old rs xs (n + 1) (variable n ∷ l) c x (top_more _ l c x e)
bound_old (without_value ∷ rs) (y ∷ xs) n l c x e = bound_old rs xs (n + 1) (variable n ∷ l) c x (top_more _ l c x e)
bound_old (put_for t ∷ rs) (y ∷ xs) n l c x e = bound_old rs xs n (fixed y ∷ l) c x (top_more _ l c x e)

-- each formal has its entry and its cell
pub formals_at : (b : Base) (start : ℕ) (fs : List Formal) (rs : List Ready) (xs : List Content) (position cell n : ℕ) (es : List Entry) (l : List Slot) → b.entries ≡ formal_entries cell fs es → b.slots ≡ bound_slots n rs xs l → start + position ≡ length es → cell ≡ length l → FormalsAt b start position cell n fs rs xs
formals_at b start [] rs xs position cell n es l p q i j = tt
formals_at b start (f ∷ fs) [] xs position cell n es l p q i j = tt
formals_at b start (f ∷ fs) (r ∷ rs) [] position cell n es l p q i j = tt
formals_at b start (f ∷ fs) (with_value v ∷ rs) (x ∷ xs) position cell n es l p q i j = (
  ap (λ z. on_top_of z (start + position)) p ∙ formal_old fs (cell + 1) (name_of f.is f.name.text cell ∷ es) (start + position) _ (top_at _ es (start + position) i),
  ap (λ z. on_top_of z cell) q ∙ bound_old rs xs (n + 1) (variable n ∷ l) cell _ (top_at (variable n) l cell j),
  formals_at b start fs rs xs (position + 1) (cell + 1) (n + 1) (name_of f.is f.name.text cell ∷ es) (variable n ∷ l) p q (omega (arith, i)) (omega (arith, j)),
)
formals_at b start (f ∷ fs) (without_value ∷ rs) (x ∷ xs) position cell n es l p q i j = (
  ap (λ z. on_top_of z (start + position)) p ∙ formal_old fs (cell + 1) (name_of f.is f.name.text cell ∷ es) (start + position) _ (top_at _ es (start + position) i),
  ap (λ z. on_top_of z cell) q ∙ bound_old rs xs (n + 1) (variable n ∷ l) cell _ (top_at (variable n) l cell j),
  formals_at b start fs rs xs (position + 1) (cell + 1) (n + 1) (name_of f.is f.name.text cell ∷ es) (variable n ∷ l) p q (omega (arith, i)) (omega (arith, j)),
)
formals_at b start (f ∷ fs) (put_for t ∷ rs) (x ∷ xs) position cell n es l p q i j = (
  ap (λ z. on_top_of z (start + position)) p ∙ formal_old fs (cell + 1) (name_of f.is f.name.text cell ∷ es) (start + position) _ (top_at _ es (start + position) i),
  ap (λ z. on_top_of z cell) q ∙ bound_old rs xs n (fixed x ∷ l) cell _ (top_at (fixed x) l cell j),
  formals_at b start fs rs xs (position + 1) (cell + 1) n (name_of f.is f.name.text cell ∷ es) (fixed x ∷ l) p q (omega (arith, i)) (omega (arith, j)),
)

-- ---- what is shown under a call

module _ (program : List Coded) (w : World) (b : Base) (arrays : List (Option ArrayInfo)) where
  -- a formal that stands for a variable, and one that something is put for
  variable_listed : (f : FormalType) (text : List ℕ) (cell n : ℕ) (es : List Entry) (names : List state.ShownName) (active : List state.Entry) → kind_of_formal f ≡ a_variable → on_top_of b.slots cell ≡ Some (variable n) → Listed program b arrays es (record { text = text; held = state.a_variable n } ∷ names) active → Listed program b arrays (name_of f text cell ∷ es) names active
  variable_listed (by_value t) text cell n es names active k q l = (state.a_variable n, subst (Shown b arrays (state.a_variable n)) (sym q) refl, l)
  variable_listed (by_result t) text cell n es names active k q l = (state.a_variable n, subst (Shown b arrays (state.a_variable n)) (sym q) refl, l)
  variable_listed (by_value_result t) text cell n es names active k q l = (state.a_variable n, subst (Shown b arrays (state.a_variable n)) (sym q) refl, l)
  variable_listed (by_name t) text cell n es names active k q l = absurd (cc)
  variable_listed (for_array t d) text cell n es names active k q l = absurd (cc)
  variable_listed (for_procedure t) text cell n es names active k q l = absurd (cc)

  thing_listed : (f : FormalType) (t : Thing) (x : Content) (text : List ℕ) (cell : ℕ) (es : List Entry) (names : List state.ShownName) (active : List state.Entry) → ThingIs program w b arrays f t x → on_top_of b.slots cell ≡ Some (fixed x) → Listed program b arrays es (record { text = text; held = held_for f t } ∷ names) active → Listed program b arrays (name_of f text cell ∷ es) names active
  thing_listed (for_procedure r) t x text cell es names active y q l = (fixed x, q, l)
  thing_listed (by_name u) (thunk m a e) x text cell es names active y q l = (state.by_name, subst (Shown b arrays state.by_name) (sym (q ∙ ap (λ z. Some (fixed z)) y.2)) tt, l)
  thing_listed (for_array u d) (to_array k given) x text cell es names active y q l = (state.an_array k given, subst (Shown b arrays (state.an_array k given)) (sym (q ∙ ap (λ z. Some (fixed z)) y.2)) (refl, y.3), l)
  thing_listed (by_name u) (to_array k given) x text cell es names active y q l = absurd (let z : a_name_formal ≡ an_array = y.0 in cc)
  thing_listed (by_name u) (to_procedure k) x text cell es names active y q l = absurd (let z : a_name_formal ≡ a_procedure_formal = y.0 in cc)
  thing_listed (for_array u d) (to_procedure k) x text cell es names active y q l = absurd (let z : an_array ≡ a_procedure_formal = y.0 in cc)
  thing_listed (by_value u) (to_array k given) x text cell es names active y q l = absurd (let z : a_variable ≡ an_array = y.0 in cc)
  thing_listed (by_result u) (to_array k given) x text cell es names active y q l = absurd (let z : a_variable ≡ an_array = y.0 in cc)
  thing_listed (by_value_result u) (to_array k given) x text cell es names active y q l = absurd (let z : a_variable ≡ an_array = y.0 in cc)
  thing_listed (by_value u) (to_procedure k) x text cell es names active y q l = absurd (let z : a_variable ≡ a_procedure_formal = y.0 in cc)
  thing_listed (by_result u) (to_procedure k) x text cell es names active y q l = absurd (let z : a_variable ≡ a_procedure_formal = y.0 in cc)
  thing_listed (by_value_result u) (to_procedure k) x text cell es names active y q l = absurd (let z : a_variable ≡ a_procedure_formal = y.0 in cc)
  thing_listed (by_value u) (thunk m a e) x text cell es names active y q l = absurd (neither y.0)
    where
      neither : (a_variable ≡ a_name_formal) ⊎ (a_variable ≡ a_procedure_formal) → ⊥
      neither (inl z) = cc
      neither (inr z) = cc
  thing_listed (by_result u) (thunk m a e) x text cell es names active y q l = absurd (neither y.0)
    where
      neither : (a_variable ≡ a_name_formal) ⊎ (a_variable ≡ a_procedure_formal) → ⊥
      neither (inl z) = cc
      neither (inr z) = cc
  thing_listed (by_value_result u) (thunk m a e) x text cell es names active y q l = absurd (neither y.0)
    where
      neither : (a_variable ≡ a_name_formal) ⊎ (a_variable ≡ a_procedure_formal) → ⊥
      neither (inl z) = cc
      neither (inr z) = cc
  thing_listed (for_array u d) (thunk m a e) x text cell es names active y q l = absurd (neither y.0)
    where
      neither : (an_array ≡ a_name_formal) ⊎ (an_array ≡ a_procedure_formal) → ⊥
      neither (inl z) = cc
      neither (inr z) = cc
  thing_listed f (to_constant v) x text cell es names active y q l = absurd y
  thing_listed f (to_variable v) x text cell es names active y q l = absurd y
  thing_listed f (to_label v) x text cell es names active y q l = absurd y

  pub formals_listed : (start : ℕ) (fs : List Formal) (rs : List Ready) (xs : List Content) (position cell n : ℕ) (es : List Entry) (names : List state.ShownName) (active : List state.Entry) → FormalsAt b start position cell n fs rs xs → ReadyAre program w b arrays fs rs xs → Listed program b arrays es ((bound_of n fs rs).names ++ names) active → Listed program b arrays (formal_entries cell fs es) names active
  formals_listed start [] [] [] position cell n es names active y a l = l
  formals_listed start (f ∷ fs) (with_value v ∷ rs) (x ∷ xs) position cell n es names active y a l = formals_listed start fs rs xs (position + 1) (cell + 1) (n + 1) (name_of f.is f.name.text cell ∷ es) names active y.2 a.1 (variable_listed f.is f.name.text cell n es ((bound_of (n + 1) fs rs).names ++ names) active a.0.0 y.1 l)
  formals_listed start (f ∷ fs) (without_value ∷ rs) (x ∷ xs) position cell n es names active y a l = formals_listed start fs rs xs (position + 1) (cell + 1) (n + 1) (name_of f.is f.name.text cell ∷ es) names active y.2 a.1 (variable_listed f.is f.name.text cell n es ((bound_of (n + 1) fs rs).names ++ names) active a.0.0 y.1 l)
  formals_listed start (f ∷ fs) (put_for t ∷ rs) (x ∷ xs) position cell n es names active y a l = formals_listed start fs rs xs (position + 1) (cell + 1) n (name_of f.is f.name.text cell ∷ es) names active y.2 a.1 (thing_listed f.is t x f.name.text cell es ((bound_of n fs rs).names ++ names) active a.0 y.1 l)
  formals_listed start fs rs xs position cell n es names active y a l = absurd a

-- ---- the end of a call

module _ (set : Setting) (program : Code) where
  -- everything above a text's frame is given back: its entries and its cells, however many
  pub closed_over : (b bo : Base) (h : Heap) (s : State Bodied) (k : ℕ) (f : Frame) (held : Content) (counts : Bool) → Over b bo → bo.current ≡ b.current → f.start ≡ length b.entries → f.base ≡ length b.slots →
      record (mach bo h s k held) { frames = b.frames; display = doing.outwards b.frames bo.current; entries = lowest bo.entries f.start; cells = lowest (map (content_of s.memory) bo.slots) f.base; depth = doing.less counts s.depth } ≡ mach b h (ended_state counts s) k held
  closed_over b bo h s k f held counts o ec es eb =
      ap (λ l. record m0 { entries = l; cells = lowest (map (content_of s.memory) bo.slots) f.base }) (ap (lowest bo.entries) es ∙ ap (λ l. lowest l (length b.entries)) o.entries_are ∙ lowest_append o.entries b.entries)
      ∙ ap (λ l. record m0 { entries = b.entries; cells = l }) cells_are
      ∙ ap (λ t. record m0 { entries = b.entries; cells = map (content_of s.memory) b.slots; current = t; display = doing.outwards b.frames t }) ec
    where
      m0 : Machine
      m0 = record (mach bo h s k held) { frames = b.frames; display = doing.outwards b.frames bo.current; depth = doing.less counts s.depth }

      cells_are : lowest (map (content_of s.memory) bo.slots) f.base ≡ map (content_of s.memory) b.slots
      cells_are = ap (lowest (map (content_of s.memory) bo.slots)) eb ∙ ap (λ l. lowest (map (content_of s.memory) l) (length b.slots)) o.slots_are ∙ ap (λ l. lowest l (length b.slots)) (map_append (content_of s.memory) o.slots b.slots)
          ∙ ap (lowest (map (content_of s.memory) o.slots ++ map (content_of s.memory) b.slots)) (sym (length_map (content_of s.memory) b.slots)) ∙ lowest_append (map (content_of s.memory) o.slots) (map (content_of s.memory) b.slots)

  -- the row of a return, whatever lies above the frame's base
  pub returned_from : (bo : Base) (frames : List Frame) (h : Heap) (s : State Bodied) (k : ℕ) (held : Content) (f : Frame) (w : Place) → slice_get program.instructions k ≡ Some (record { at = w; does = instr.Return }) →
      Comes set program (mach (record bo { frames = f ∷ frames; current = Some (length (f ∷ frames) - 1) }) h s k held) (mach (record bo { frames = record f { answer = held } ∷ frames; current = f.text }) h s f.back held)
  returned_from bo frames h s k held f w q = one_row set program m0 (mach (record bo { frames = record f { answer = held } ∷ frames; current = f.text }) h s f.back held) (record { at = w; does = instr.Return }) q
      (ap (λ o. doing.after (doing.there o m0) doing.go_back) (newest_at f frames)
      ∙ ap (λ l. doing.on tt (record (mach (record bo { frames = record f { answer = held } ∷ frames; current = f.text }) h s f.back held) { frames = l; display = doing.outwards l f.text })) (replaced_newest f (record f { answer = held }) frames (length (f ∷ frames) - 1) (omega arith)))
    where
      m0 : Machine
      m0 = mach (record bo { frames = f ∷ frames; current = Some (length (f ∷ frames) - 1) }) h s k held

  -- the end of a call, whose answer waits in its frame: it is held
  pub call_ended : (b bo : Base) (h : Heap) (s : State Bodied) (k back start base head : ℕ) (link : Option ℕ) (answer held : Content) (w : Place) → slice_get program.instructions k ≡ Some (record { at = w; does = instr.End }) → Over b bo → bo.current ≡ b.current → start ≡ length b.entries → base ≡ length b.slots →
      bo.frames ≡ record { back = back; text = b.current; link = link; start = start; base = base; purpose = state.for_value; type = None; head = head; counts = true; answer = answer } ∷ b.frames → Comes set program (mach bo h s k held) (mach b h (ended_state true s) (k + 1) answer)
  call_ended b bo h s k back start base head link answer held w q o ec es eb ef = one_row set program (mach bo h s k held) (mach b h (ended_state true s) (k + 1) answer) (record { at = w; does = instr.End }) q
      (ap (λ l. doing.after (doing.newest l (mach bo h s k held)) (λ g. finished g)) ef
      ∙ ap (λ l. doing.on tt (record (mach bo h s k held) { pc = k + 1; held = answer; frames = without_newest l; display = doing.outwards (without_newest l) bo.current; entries = lowest bo.entries start; cells = lowest (map (content_of s.memory) bo.slots) base; depth = s.depth - 1 })) ef
      ∙ ap (λ m. doing.on tt (record m { pc = k + 1; held = answer })) (closed_over b bo h s k f held true o ec es eb))
    where
      f : Frame
      f = record { back = back; text = b.current; link = link; start = start; base = base; purpose = state.for_value; type = None; head = head; counts = true; answer = answer }
