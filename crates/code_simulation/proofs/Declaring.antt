-- Declarations of variables and arrays.
use Rattle.std.proofs.Common.{◌≡◌, ◌≢◌, ℕ, zero, suc, ◌+◌, ◌<◌, ◌≤◌, ◌⊎◌, inl, inr, List, [], ◌∷◌, ◌++◌, length, map, Option, Some, None, refl, sym, ap, ◌∙◌, subst, arith}
use Rattle.std.specs.Prelude.{slice_get, nat_le, Bool, true, false}
use Rattle.value_ops.specs.declared.places.Place.{Place}
use Rattle.value_ops.specs.declared.faults.Limit.TheVariants as limit
use Rattle.value_ops.specs.declared.values.Value.{Value}
use Rattle.program_meaning.specs.Phrases.{Name, Decls, no_decls, variables_and, arrays_and, procedure_and}
use Rattle.program_meaning.specs.State as state
use Rattle.program_meaning.specs.State.{State, Setting, by_limit, Outcome, on, jump, stop, M, ArrayInfo, RecordInfo, ShownName, most_cells, after, on_first, with_shown}
use Rattle.program_meaning.specs.Copying.{declare_variables, shown}
use Rattle.program_meaning.specs.Environments.{Env, Bodied}
use Rattle.stack_code.specs.Instr as instr
use Rattle.stack_code.specs.Code.{Code, Coded}
use Rattle.stack_code.specs.Machine as machine
use Rattle.stack_code.specs.Machine.{Machine, Content, Entry, Where, in_cell, in_field, on_top_of}
use Rattle.stack_code.specs.Doing as doing
use Rattle.stack_code.specs.Doing.{Next, halted, go_on, push, enter, ◌>>◌, ◌>>=◌}
use Rattle.phrase_code.specs.Coding.{Context, ◌▸◌, declare_code}
use Rattle.code_simulation.specs.Relation.{HasAt, Has, Slot, variable, fixed, Base, Heap, mach, World, Target, Stands, Shows, HasArray, Settled, Listed, Grew, Agrees, At, content_of, content_of_variable}
use Rattle.code_simulation.specs.Declared.{numbers, VariablesAt, ArraysAt, DeclsAt}
use Rattle.code_simulation.specs.Following.{already, Follows}
use Rattle.code_simulation.proofs.Stacks.{top_is, top_at, top_more, top_less, length_map, get_below}
use Rattle.code_simulation.proofs.Rows.{one_row, follows_from, grew_here}
use Rattle.code_simulation.proofs.Rows.{grew_on}
use Rattle.code_simulation.proofs.Keeping.{start_later, Over, over_same, Later, later_over, array_later, shows_later, listed_later, agrees_over, grew_to}
use Rattle.code_simulation.proofs.Values.{limit_here, room_yes, room_no, push_yes, push_no}
use Rattle.code_simulation.proofs.Counting.{follows_assoc}
use Rattle.code_simulation.specs.Room.{Fits}
use Rattle.code_simulation.proofs.Room.{fits_declared, room_for_entry, deep_first, enter_in_room}
use Rattle.std.proofs.Common.{leb-true}

-- ---- facts that stay

pub variables_later : {w w' : World} {b b' : Base} {arrays arrays' : List (Option ArrayInfo)} → Later w b arrays w' b' arrays' → (start position v : ℕ) (xs : List Name) → VariablesAt b start position v xs → VariablesAt b' start position v xs
variables_later l start position v [] x = tt
variables_later l start position v (y ∷ xs) x = let z = x.0 in ((z.0, l.entries (start + position) _ z.1, l.slots z.0 _ z.2), variables_later l start (position + 1) (v + 1) xs x.1)

pub arrays_later : {w w' : World} {b b' : Base} {arrays arrays' : List (Option ArrayInfo)} → Later w b arrays w' b' arrays' → (start position k d : ℕ) (xs : List Name) → ArraysAt b arrays start position k d xs → ArraysAt b' arrays' start position k d xs
arrays_later l start position k d [] x = tt
arrays_later l start position k d (y ∷ xs) x = let z = x.0 in ((z.0, l.entries (start + position) _ z.1, z.2, l.slots z.0 _ z.3, array_later l k z.2 z.4), arrays_later l start (position + 1) (k + 1) d xs x.1)

pub decls_later : {w w' : World} {b b' : Base} {arrays arrays' : List (Option ArrayInfo)} → Later w b arrays w' b' arrays' → (start position v a : ℕ) (decls : Decls) → DeclsAt b arrays start position v a decls → DeclsAt b' arrays' start position v a decls
decls_later l start position v a no_decls x = tt
decls_later l start position v a (variables_and xs rest) x = (variables_later l start position v xs x.0, decls_later l start (position + length xs) (v + length xs) a rest x.1)
decls_later {arrays = arrays} {arrays' = arrays'} l start position v a (arrays_and t xs pairs rest) x = (arrays_later l start position a _ xs x.0, decls_later l start (position + length xs) v (a + length xs) rest x.1)
decls_later l start position v a (procedure_and y result formals body rest) x = decls_later l start position v a rest x

-- ---- a name more under the block's entry

pub listed_shown : (program : List Coded) (b : Base) (arrays : List (Option ArrayInfo)) (entries : List Entry) (names : List ShownName) (p : Place) (xs : List ShownName) (active : List state.Entry) (n : ShownName) → Listed program b arrays entries names (state.in_block p xs ∷ active) → Listed program b arrays entries (names ++ n ∷ []) (state.in_block p (xs ++ n ∷ []) ∷ active)
listed_shown program b arrays (machine.a_name text k ∷ entries) names p xs active n x = (x.0, x.1, listed_shown program b arrays entries (record { text = text; held = x.0 } ∷ names) p xs active n x.2)
listed_shown program b arrays (machine.a_procedure_name text k ∷ entries) names p xs active n x = (x.0, x.1, listed_shown program b arrays entries (record { text = text; held = state.a_procedure } ∷ names) p xs active n x.2)
listed_shown program b arrays (machine.a_block q i ∷ entries) names p xs active n x = (x.0, ap (λ l. l ++ n ∷ []) x.1, x.2)
listed_shown program b arrays (machine.declared i d f ∷ entries) names p xs active n x = listed_shown program b arrays entries names p xs active n x
listed_shown program b arrays (machine.an_aside ∷ entries) names p xs active n x = listed_shown program b arrays entries names p xs active n x
listed_shown program b arrays (machine.some_widths ws ∷ entries) names p xs active n x = listed_shown program b arrays entries names p xs active n x
listed_shown program b arrays [] [] p xs active n x = absurd x
listed_shown program b arrays [] (y ∷ names) p xs active n x = absurd x
listed_shown program b arrays entries names p xs active n x = absurd x

-- ---- reserved numbers

pub numbers_from : (v n : ℕ) (more : List ℕ) (k : ℕ) → Has k (numbers v n more) → (v ≤ k) ⊎ Has k more
numbers_from v zero more k x = inr x
numbers_from v (suc n) more k (inl e) = inl (omega (arith, e))
numbers_from v (suc n) more k (inr x) = by (numbers_from (v + 1) n more k x)
  where
    by : (v + 1 ≤ k) ⊎ Has k more → (v ≤ k) ⊎ Has k more
    by (inl q) = inl (omega (arith, q))
    by (inr q) = inr q

-- the stacks with a variable more, whose number was reserved
abbrev pub with_variable : Name → ℕ → List ℕ → Base → Base
with_variable x v rest b = record { reserved = rest; slots = variable v ∷ b.slots; entries = machine.a_name x.text (length b.slots) ∷ b.entries; frames = b.frames; current = b.current }

pub settled_variable : (x : Name) (v : ℕ) (rest : List ℕ) (b : Base) (h : Heap) (memory : List (Option Value)) (records : List RecordInfo) (fields : ℕ) → b.reserved ≡ v ∷ rest → ((k : ℕ) → Has k rest → k ≢ v) → Settled b h memory records fields → Settled (with_variable x v rest b) h memory records fields
settled_variable x v rest b h memory records fields e d a = record {
  apart = apart;
  within = within;
  kept = λ k i. let z = a.kept k (up k i) in (z.0, λ y p. others k i y p);
  has = a.has;
  count = a.count;
  as_many = a.as_many;
  standard = a.standard;
}
  where
    up : (k : ℕ) → Has k rest → Has k b.reserved
    up k i = subst (Has k) (sym e) (inr i)

    own : Has v b.reserved
    own = subst (Has v) (sym e) (inl refl)

    split : (k : ℕ) (y : Where) → Stands (with_variable x v rest b) h k y → ((y ≡ in_cell (length b.slots)) × (k ≡ v)) ⊎ Stands b h k y
    split k (in_field f) p = inr p
    split k (in_cell c) p = by (top_less (variable v) b.slots c (variable k) p)
      where
        by : ((c ≡ length b.slots) × (variable k ≡ variable v)) ⊎ (on_top_of b.slots c ≡ Some (variable k)) → ((in_cell c ≡ in_cell (length b.slots)) × (k ≡ v)) ⊎ (on_top_of b.slots c ≡ Some (variable k))
        by (inl q) = let z = q.1 in inl (ap in_cell q.0, cc)
        by (inr q) = inr q

    apart : (k : ℕ) (y z : Where) → Stands (with_variable x v rest b) h k y → Stands (with_variable x v rest b) h k z → y ≡ z
    apart k y z p q = by (split k y p) (split k z q)
      where
        by : ((y ≡ in_cell (length b.slots)) × (k ≡ v)) ⊎ Stands b h k y → ((z ≡ in_cell (length b.slots)) × (k ≡ v)) ⊎ Stands b h k z → y ≡ z
        by (inl i) (inl j) = i.0 ∙ sym j.0
        by (inl i) (inr j) = absurd ((a.kept v own).1 z (subst (λ n. Stands b h n z) i.1 j))
        by (inr i) (inl j) = absurd ((a.kept v own).1 y (subst (λ n. Stands b h n y) j.1 i))
        by (inr i) (inr j) = a.apart k y z i j

    within : (k : ℕ) (y : Where) → Stands (with_variable x v rest b) h k y → k < length memory
    within k y p = by (split k y p)
      where
        by : ((y ≡ in_cell (length b.slots)) × (k ≡ v)) ⊎ Stands b h k y → k < length memory
        by (inl i) = let q = i.1 in let l = get_below memory v None (a.kept v own).0 in omega (arith, q, l)
        by (inr i) = a.within k y i

    others : (k : ℕ) → Has k rest → (y : Where) → Stands (with_variable x v rest b) h k y → ⊥
    others k i y p = by (split k y p)
      where
        by : ((y ≡ in_cell (length b.slots)) × (k ≡ v)) ⊎ Stands b h k y → ⊥
        by (inl j) = d k i j.1
        by (inr j) = (a.kept k (up k i)).1 y j

pub numbers_more : (v n : ℕ) (more : List ℕ) (k : ℕ) → Has k more → Has k (numbers v n more)
numbers_more v zero more k x = x
numbers_more v (suc n) more k x = inr (numbers_more (v + 1) n more k x)

-- while declarations are made: what was at first, what was reserved and waits, and the block's entry
pub record Declaring (program : List Coded) (w : World) (b0 : Base) (h0 : Heap) (s0 : State Bodied) (c0 : Context) (e : Env) (start : ℕ) (b : Base) (h : Heap) (s : State Bodied) (count v n : ℕ) (p : Place) (active : List state.Entry) : Type 0 where
  pub over : Over b0 b
  pub grew : Grew h0 s0 h s
  pub settled : Settled b h s.memory s.records s.fields
  pub cells : length b.slots ≡ s.cells
  pub names : List ShownName
  pub is : s.active ≡ state.in_block p names ∷ active
  pub listed : Listed program b s.arrays b.entries [] (state.in_block p names ∷ active)
  pub current : b.current ≡ b0.current
  pub framed : b.frames ≡ b0.frames
  pub counted : start + count ≡ length b.entries
  pub reserved : b.reserved ≡ numbers v n b0.reserved
  pub below : (k : ℕ) → Has k b0.reserved → k < v

-- the outer environment is there, with the entries so far
pub declaring_at : {program : List Coded} {w : World} {b0 : Base} {h0 : Heap} {s0 : State Bodied} {c0 : Context} {e : Env} {start : ℕ} {b : Base} {h : Heap} {s : State Bodied} {count v n : ℕ} {p : Place} {active : List state.Entry} → Declaring program w b0 h0 s0 c0 e start b h s count v n p active → (l0 : At program w b0 h0 s0 c0 e) → l0.start ≡ start → (c : Context) → c.names ≡ c0.names → c.level ≡ c0.level → c.count ≡ count → At program w b h s c e
declaring_at {program} {w} {b0} {h0} {s0} {c0} {e} {start} {b} {h} {s} {count} {v} {n} {p} {active} d l0 es c en el ec = record {
  agrees = agrees_over program w b0 b h0 h s0 s d.over d.grew d.settled d.cells (subst (Listed program b s.arrays b.entries []) (sym d.is) d.listed) l0.agrees;
  shows = subst (λ t. Shows program w b s.arrays e c.names c.level t) (sym d.current) (subst (λ l. Shows program w b s.arrays e c.names l b0.current) (sym el) (subst (λ l. Shows program w b s.arrays e l c0.level b0.current) (sym en) (shows_later program (later_over w b0 b s0.arrays s.arrays d.over d.grew.arrays) e c0.names c0.level b0.current l0.shows)));
  start = l0.start;
  starts = ap (λ t. doing.start_at b.frames (Some t)) d.current ∙ start_later b0.frames b.frames (later_over w b0 b s0.arrays s.arrays d.over d.grew.arrays).frames (Some b0.current) l0.start l0.starts;
  counted = let q = d.counted in omega (arith, q, ec, es);
}

-- a state with a cell more and a name that is shown
abbrev pub with_name : Name → state.Held → State Bodied → State Bodied
with_name x held s = record s { cells = s.cells + 1; active = on_first (shown x held) s.active }

-- a variable more
pub declaring_variable : {program : List Coded} {w : World} {b0 : Base} {h0 : Heap} {s0 : State Bodied} {c0 : Context} {e : Env} {start : ℕ} {b : Base} {h : Heap} {s : State Bodied} {count v n : ℕ} {p : Place} {active : List state.Entry} (x : Name) → Declaring program w b0 h0 s0 c0 e start b h s count v (suc n) p active →
    Declaring program w b0 h0 s0 c0 e start (with_variable x v (numbers (v + 1) n b0.reserved) b) h (with_name x (state.a_variable v) s) (count + 1) (v + 1) n p active
declaring_variable {program} {w} {b0} {h0} {s0} {c0} {e} {start} {b} {h} {s} {count} {v} {n} {p} {active} x d = record {
  over = o0;
  grew = grew_on h0 s0 h s h s' d.grew (grew_to h s s' refl refl refl refl (deep_first s (shown x (state.a_variable v))));
  settled = settled_variable x v (numbers (v + 1) n b0.reserved) b h s.memory s.records s.fields d.reserved apart d.settled;
  cells = let q = d.cells in omega (arith, q);
  names = d.names ++ record { text = x.text; held = state.a_variable v } ∷ [];
  is = ap (on_first (shown x (state.a_variable v))) d.is;
  listed = (
    state.a_variable v,
    subst (Rattle.code_simulation.specs.Relation.Shown b' s.arrays (state.a_variable v)) (sym (top_is (variable v) b.slots)) refl,
    listed_shown program b' s.arrays b.entries [] p d.names active (record { text = x.text; held = state.a_variable v }) (listed_later program l b.entries [] (state.in_block p d.names ∷ active) d.listed),
  );
  current = d.current;
  framed = d.framed;
  counted = let q = d.counted in omega (arith, q);
  reserved = refl;
  below = λ k i. let q = d.below k i in omega (arith, q);
}
  where
    b' : Base
    b' = with_variable x v (numbers (v + 1) n b0.reserved) b

    s' : State Bodied
    s' = with_name x (state.a_variable v) s

    o0 : Over b0 b'
    o0 = record {
      slots = variable v ∷ d.over.slots;
      slots_are = ap (λ l. variable v ∷ l) d.over.slots_are;
      entries = machine.a_name x.text (length b.slots) ∷ d.over.entries;
      entries_are = ap (λ l. machine.a_name x.text (length b.slots) ∷ l) d.over.entries_are;
      frames = d.over.frames;
      frames_are = d.over.frames_are;
      reserved = λ k i. numbers_more (v + 1) n b0.reserved k i;
    }

    l : Later w b s.arrays w b' s.arrays
    l = record { slots = λ k z i. top_more (variable v) b.slots k z i; entries = λ k z i. top_more (machine.a_name x.text (length b.slots)) b.entries k z i; frames = λ k z i. i; procedures = λ q i. i; targets = λ t i. i; marks = refl; same = λ k a i. i }

    apart : (k : ℕ) → Has k (numbers (v + 1) n b0.reserved) → k ≢ v
    apart k i q = by (numbers_from (v + 1) n b0.reserved k i)
      where
        by : (v + 1 ≤ k) ⊎ Has k b0.reserved → ⊥
        by (inl z) = omega (arith, z, q)
        by (inr z) = let y = d.below k z in omega (arith, y, q)

-- a declared variable's entry and cell stay
pub later_variable : {w : World} {b : Base} {arrays : List (Option ArrayInfo)} (x : Name) (v : ℕ) (rest : List ℕ) → Later w b arrays w (with_variable x v rest b) arrays
later_variable {b = b} x v rest = record { slots = λ k z i. top_more (variable v) b.slots k z i; entries = λ k z i. top_more (machine.a_name x.text (length b.slots)) b.entries k z i; frames = λ k z i. i; procedures = λ q i. i; targets = λ t i. i; marks = refl; same = λ k a i. i }

pub later_on : {w : World} {b b' b'' : Base} {arrays arrays' arrays'' : List (Option ArrayInfo)} → Later w b arrays w b' arrays' → Later w b' arrays' w b'' arrays'' → Later w b arrays w b'' arrays''
later_on p q = record { slots = λ k z i. q.slots k z (p.slots k z i); entries = λ k z i. q.entries k z (p.entries k z i); frames = λ k z i. q.frames k z (p.frames k z i); procedures = λ r i. i; targets = λ t i. i; marks = refl; same = λ k a i. q.same k a (p.same k a i) }

module _ (set : Setting) (program : Code) where
  -- variables are declared one after the other; what follows is told what then stands where
  pub variables_then : {A : Type 0} {fitting : ℕ} (R : A → Heap → State Bodied → Machine → Type 0) (ts : List Target) (at : Place) (w : World) (b0 : Base) (h0 : Heap) (s0 : State Bodied) (c0 : Context) (e : Env) (start : ℕ) (h : Heap) (p : Place) (active : List state.Entry) (f : Unit {0} → M Bodied A) (more : List Coded) (xs : List Name) (b : Base) (s : State Bodied) (k count v n : ℕ) (held : Content) →
      HasAt program.instructions k (declare_code at xs ▸ more) → (d : Declaring program.instructions w b0 h0 s0 c0 e start b h s count v (length xs + n) p active) → Fits program.marks w b fitting →
      ((b' : Base) (s' : State Bodied) → (d' : Declaring program.instructions w b0 h0 s0 c0 e start b' h s' (count + length xs) (v + length xs) n p active) → Later w b s.arrays w b' s'.arrays → VariablesAt b' start count v xs → HasAt program.instructions (k + length xs) more → s'.memory ≡ s.memory → s'.arrays ≡ s.arrays → s'.procedures ≡ s.procedures → s'.labels ≡ s.labels → Fits program.marks w b' fitting →
      Follows set program R ts h0 s0 (mach b' h s' (k + length xs) held) (f tt s')) →
      Follows set program R ts h0 s0 (mach b h s k held) (after (declare_variables at v xs s) f)
  variables_then R ts at w b0 h0 s0 c0 e start h p active f more [] b s k count v n held code d ft g =
      let ek : k + 0 ≡ k = omega arith in let ev : v ≡ v + 0 = omega arith in let ec : count ≡ count + 0 = omega arith in let en : 0 + n ≡ n = omega arith in
      subst (λ i. Follows set program R ts h0 s0 (mach b h s i held) (f tt s)) ek
      (g b s (subst (λ i. Declaring program.instructions w b0 h0 s0 c0 e start b h s i (v + 0) n p active) ec (subst (λ i. Declaring program.instructions w b0 h0 s0 c0 e start b h s count i n p active) ev (subst (λ i. Declaring program.instructions w b0 h0 s0 c0 e start b h s count v i p active) en d)))
      (later_over w b b s.arrays s.arrays (over_same b) (λ i z q. q)) tt (subst (λ i. HasAt program.instructions i more) (sym ek) code) refl refl refl refl ft)
  variables_then R ts at w b0 h0 s0 c0 e start h p active f more (x ∷ xs) b s k count v n held code d ft g =
      follows_assoc set program R ts h0 s0 (mach b h s k held) (state.take_cells 1 at s) (λ z. state.◌>>◌ (state.show (shown x (state.a_variable v))) (declare_variables at (v + 1) xs)) f
      (by (nat_le (s.cells + 1) most_cells) refl
      (λ fw. variables_then R ts at w b0 h0 s0 c0 e start h p active f more xs b1 s1 (k + 1) (count + 1) (v + 1) n held code.1 d1 (fits_declared (numbers (v + 1) (length xs + n) b0.reserved) x.text (length b.slots) b1.slots (omega arith) fw ft)
      (λ b2 s2 d2 l2 v2 i2 q1 q2 q3 q4 fb.
      subst (λ i. Follows set program R ts h0 s0 (mach b2 h s2 i held) (f tt s2)) (ahead k (length xs))
      (g b2 s2 (subst (λ i. Declaring program.instructions w b0 h0 s0 c0 e start b2 h s2 i (v + suc (length xs)) n p active) (ahead' count (length xs)) (subst (λ i. Declaring program.instructions w b0 h0 s0 c0 e start b2 h s2 (count + 1 + length xs) i n p active) (ahead' v (length xs)) d2))
      (later_on (later_variable x v (numbers (v + 1) (length xs + n) b0.reserved)) l2)
      ((length b.slots, l2.entries (start + count) _ (top_at (machine.a_name x.text (length b.slots)) b.entries (start + count) d.counted), l2.slots (length b.slots) _ (top_is (variable v) b.slots)), v2)
      (subst (λ i. HasAt program.instructions i more) (ahead' k (length xs)) i2) q1 q2 q3 q4 fb))))
    where
      ahead : (i j : ℕ) → i + suc j ≡ i + 1 + j
      ahead i j = omega arith

      ahead' : (i j : ℕ) → i + 1 + j ≡ i + suc j
      ahead' i j = omega arith

      b1 : Base
      b1 = with_variable x v (numbers (v + 1) (length xs + n) b0.reserved) b

      s1 : State Bodied
      s1 = with_name x (state.a_variable v) s

      few : suc (length xs) + n ≡ suc (length xs + n)
      few = omega arith

      d0 : Declaring program.instructions w b0 h0 s0 c0 e start b h s count v (suc (length xs + n)) p active
      d0 = subst (λ i. Declaring program.instructions w b0 h0 s0 c0 e start b h s count v i p active) few d

      d1 : Declaring program.instructions w b0 h0 s0 c0 e start b1 h s1 (count + 1) (v + 1) (length xs + n) p active
      d1 = declaring_variable x d0

      i : Coded
      i = record { at = at; does = instr.Declare x.text }

      m0 : Machine
      m0 = mach b h s k held

      nc : length (map (content_of s.memory) b.slots) ≡ length b.slots
      nc = length_map (content_of s.memory) b.slots

      none : slice_get s.memory v ≡ Some None
      none = (d0.settled.kept v (subst (Has v) (sym d0.reserved) (inl refl))).0

      by : (t : Bool) → nat_le (s.cells + 1) most_cells ≡ t → (length b.slots < most_cells → Follows set program R ts h0 s0 (mach b1 h s1 (k + 1) held) (after (declare_variables at (v + 1) xs s1) f)) → Follows set program R ts h0 s0 m0 (after (elim t [ true ↦ on (tt {0}) (record s { cells = s.cells + 1 }) | false ↦ stop (by_limit limit.Storage) at s ]) (λ z s2. after (after (state.show (shown x (state.a_variable v)) s2) (λ y. declare_variables at (v + 1) xs)) f))
      by true q r =
          enter_in_room set program m0 (record m0 { cells = machine.nothing ∷ m0.cells }) i (machine.a_name x.text (length m0.cells)) go_on (room_for_entry ft) (ap (λ y. doing.after y (λ z. enter program.marks (machine.a_name x.text (length m0.cells)) >> go_on)) (push_yes machine.nothing m0 (room_yes _ s.cells (nc ∙ d.cells) q)))
          (λ dd. follows_from set program R ts h0 s0 h0 s0 m0 (mach b1 h s1 (k + 1) held) (after (declare_variables at (v + 1) xs s1) f)
          (one_row set program m0 (mach b1 h s1 (k + 1) held) i code.0 (dd ∙ ap (λ y. doing.on tt (record (mach b1 h s1 (k + 1) held) { cells = machine.nothing ∷ m0.cells; entries = machine.a_name x.text y ∷ b.entries })) nc
          ∙ ap (λ y. doing.on tt (record (mach b1 h s1 (k + 1) held) { cells = content_of_variable y ∷ m0.cells })) (sym none)))
          (grew_here h0 s0) (r (let y = leb-true (s.cells + 1) most_cells q in let z = d.cells in omega (arith, y, z))))
      by false q r = follows_from set program R ts h0 s0 h s m0 m0 (stop (by_limit limit.Storage) at s) already d.grew (limit_here set program R ts h s m0 i limit.Storage b k held code.0 (ap (λ y. doing.after y (λ z. enter program.marks (machine.a_name x.text (length m0.cells)) >> go_on)) (push_no machine.nothing m0 (room_no _ s.cells (nc ∙ d.cells) q))) (subst (Listed program.instructions b s.arrays b.entries []) (sym d.is) d.listed) d.settled)
