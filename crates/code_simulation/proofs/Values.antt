-- Values that are held, cells that are pushed, and how a row stops.
use Rattle.std.proofs.Common.{◌≡◌, ℕ, ◌+◌, ◌-◌, ◌<◌, ℤ, List, [], ◌∷◌, length, map, Option, Some, refl, sym, ap, ◌∙◌, subst, arith, leb-true, le-leb, ltb-true}
use Rattle.std.specs.Prelude.{slice_get, nat_lt, nat_le, Bool, true, false}
use Rattle.value_ops.specs.declared.places.Place.{Place}
use Rattle.value_ops.specs.declared.faults.Fault.{Fault}
use Rattle.value_ops.specs.declared.faults.Limit.{Limit}
use Rattle.value_ops.specs.declared.faults.Limit.TheVariants as limit
use Rattle.value_ops.specs.declared.values.Value.{Value}
use Rattle.value_ops.specs.declared.values.Value.TheVariants as value
use Rattle.program_meaning.specs.Operations.{Answer, gives, faults, misfits}
use Rattle.program_meaning.specs.State as state
use Rattle.program_meaning.specs.State.{State, Setting, Why, by_fault, by_limit, wrong, unfinished, Outcome, on, jump, stop, M, Use, for_value, for_place, RecordInfo, most_cells, after, take_cells, give_back, holding, value_in, integer_in, truth_in, spot_in, answer_at, only_value}
use Rattle.program_meaning.specs.Environments.{Bodied}
use Rattle.stack_code.specs.Instr as instr
use Rattle.stack_code.specs.Instr.{Instr}
use Rattle.stack_code.specs.Code.{Code, Coded}
use Rattle.stack_code.specs.Machine as machine
use Rattle.stack_code.specs.Machine.{Machine, Content}
use Rattle.stack_code.specs.Doing as doing
use Rattle.stack_code.specs.Doing.{Next, halted, go_on, push, answer, ◌>>◌}
use Rattle.stack_code.specs.Table.{does}
use Rattle.code_simulation.specs.Relation.{HasAt, Has, Slot, variable, fixed, Base, Heap, mach, World, Target, Holds, HeldSpot, Settled, Listed, Grew, Agrees, At, Wanted, content_of}
use Rattle.code_simulation.specs.Following.{Comes, already, Follows, Gives, Reached}
use Rattle.code_simulation.proofs.Stacks.{length_map, is_below, top_more}
use Rattle.code_simulation.proofs.Rows.{one_row, one_stop, follows_from, follows_then, follows_on}
use Rattle.code_simulation.proofs.Keeping.{pushed, with_cells, grew_to}

-- ---- cells that are pushed

-- the stacks as before, with a cell on them
pub record Topped (b : Base) (x : Content) (active : List state.Entry) (next : ℕ) (held : Content) (h : Heap) (s : State Bodied) (m : Machine) : Type 0 where
  pub is : m ≡ mach (pushed x b) h s next held
  pub settled : Settled b h s.memory s.records s.fields
  pub cells : length b.slots ≡ s.cells
  pub listed : s.active ≡ active

pub settled_below : (x : Content) (b : Base) (h : Heap) (memory : List (Option Value)) (records : List RecordInfo) (fields : ℕ) → Settled (pushed x b) h memory records fields → Settled b h memory records fields
settled_below x b h memory records fields a = record {
  apart = λ k y z p q. a.apart k y z (up k y p) (up k z q);
  within = λ k y p. a.within k y (up k y p);
  kept = λ k i. let z = a.kept k i in (z.0, λ y p. z.1 y (up k y p));
  has = a.has;
  count = a.count;
  as_many = a.as_many;
  standard = a.standard;
}
  where
    up : (k : ℕ) (y : machine.Where) → Rattle.code_simulation.specs.Relation.Stands b h k y → Rattle.code_simulation.specs.Relation.Stands (pushed x b) h k y
    up k (machine.in_cell c) e = top_more (fixed x) b.slots c (variable k) e
    up k (machine.in_field f) e = e

pub push_yes : (c : Content) (m : Machine) → nat_lt (length m.cells) most_cells ≡ true → push c m ≡ doing.on tt (record m { cells = c ∷ m.cells })
push_yes c m e = ap (λ (t : Bool). let r : Next (Unit {0}) = elim t [ true ↦ doing.on tt (record m { cells = c ∷ m.cells }) | false ↦ halted (by_limit limit.Storage) m ] in r) e

pub push_no : (c : Content) (m : Machine) → nat_lt (length m.cells) most_cells ≡ false → push c m ≡ halted (by_limit limit.Storage) m
push_no c m e = ap (λ (t : Bool). let r : Next (Unit {0}) = elim t [ true ↦ doing.on tt (record m { cells = c ∷ m.cells }) | false ↦ halted (by_limit limit.Storage) m ] in r) e

-- room for a cell, as the meaning and as the machine tests it
pub room_yes : (n c : ℕ) → n ≡ c → nat_le (c + 1) most_cells ≡ true → nat_lt n most_cells ≡ true
room_yes n c q e = let l = leb-true (c + 1) most_cells e in is_below n most_cells (omega (arith, l, q))

pub room_no : (n c : ℕ) → n ≡ c → nat_le (c + 1) most_cells ≡ false → nat_lt n most_cells ≡ false
room_no n c q e = by (nat_lt n most_cells) refl
  where
    by : (t : Bool) → nat_lt n most_cells ≡ t → nat_lt n most_cells ≡ false
    by false p = p
    by true p = let l = ltb-true n most_cells p in let y : nat_le (c + 1) most_cells ≡ true = le-leb (c + 1) most_cells (omega (arith, l, q)) in absurd (cc)

module _ (set : Setting) (program : Code) where
  -- ---- stops

  pub fault_here : {A : Type 0} (Q : A → Heap → State Bodied → Machine → Type 0) (ts : List Target) (h : Heap) (s : State Bodied) (m : Machine) (c : Coded) (f : Fault) (b : Base) (k : ℕ) (held : Content) → slice_get program.instructions m.pc ≡ Some c → does set program c.at c.does m ≡ halted (by_fault f) (mach b h s k held) →
      Listed program.instructions b s.arrays b.entries [] s.active → Settled b h s.memory s.records s.fields → Follows set program Q ts h s m (stop (by_fault f) c.at s)
  fault_here Q ts h s m c f b k held e d l st = record { last = m; comes = already; end = mach b h s k held; stops = one_stop set program m (mach b h s k held) c (by_fault f) e d; seen = record { base = b; heap = h; next = k; held = held; is = refl; listed = l; settled = st } }

  pub limit_here : {A : Type 0} (Q : A → Heap → State Bodied → Machine → Type 0) (ts : List Target) (h : Heap) (s : State Bodied) (m : Machine) (c : Coded) (f : Limit) (b : Base) (k : ℕ) (held : Content) → slice_get program.instructions m.pc ≡ Some c → does set program c.at c.does m ≡ halted (by_limit f) (mach b h s k held) →
      Listed program.instructions b s.arrays b.entries [] s.active → Settled b h s.memory s.records s.fields → Follows set program Q ts h s m (stop (by_limit f) c.at s)
  limit_here Q ts h s m c f b k held e d l st = record { last = m; comes = already; end = mach b h s k held; stops = one_stop set program m (mach b h s k held) c (by_limit f) e d; seen = record { base = b; heap = h; next = k; held = held; is = refl; listed = l; settled = st } }

  -- a machine that is equal
  pub follows_at : {A : Type 0} (Q : A → Heap → State Bodied → Machine → Type 0) (ts : List Target) (h : Heap) (s : State Bodied) (m n : Machine) (r : Outcome Bodied A) → m ≡ n → Follows set program Q ts h s n r → Follows set program Q ts h s m r
  follows_at Q ts h s m n r e = subst (λ z. Follows set program Q ts h s z r) (sym e)

  -- ---- what is given

  pub value_follows : (b : Base) (active : List state.Entry) (next : ℕ) (ts : List Target) (h : Heap) (s : State Bodied) (m : Machine) (w : Place) (r : Outcome Bodied state.Given) → Follows set program (Gives b active next) ts h s m r → Follows set program (λ v. Reached b active next (machine.a_value v)) ts h s m (after r (value_in w))
  value_follows b active next ts h s m w r f = follows_then set program (Gives b active next) (λ v. Reached b active next (machine.a_value v)) ts h s m r (value_in w) f (λ a h' s' m' q g. by a h' s' m' q.held q.holds q.reached)
    where
      by : (a : state.Given) (h' : Heap) (s' : State Bodied) (m' : Machine) (c : Content) → Holds b h' a c → Reached b active next c h' s' m' → Follows set program (λ v. Reached b active next (machine.a_value v)) ts h' s' m' (value_in w a s')
      by state.nothing h' s' m' c x q = tt
      by (state.a_spot k) h' s' m' c x q = tt
      by (state.a_value v) h' s' m' (machine.a_value u) x q = follows_on set program (λ v. Reached b active next (machine.a_value v)) ts h' s' m' m' v already (subst (λ z. Reached b active next (machine.a_value z) h' s' m') (sym x) q)
      by (state.a_value v) h' s' m' _ x q = absurd x

  -- the place that is held
  pub record Placed (b : Base) (active : List state.Entry) (next : ℕ) (k : state.Spot) (h : Heap) (s : State Bodied) (m : Machine) : Type 0 where
    pub spot : machine.Spot
    pub stands : HeldSpot b h k spot
    pub reached : Reached b active next (machine.a_spot spot) h s m

  pub spot_follows : (b : Base) (active : List state.Entry) (next : ℕ) (ts : List Target) (h : Heap) (s : State Bodied) (m : Machine) (w : Place) (r : Outcome Bodied state.Given) → Follows set program (Gives b active next) ts h s m r → Follows set program (Placed b active next) ts h s m (after r (spot_in w))
  spot_follows b active next ts h s m w r f = follows_then set program (Gives b active next) (Placed b active next) ts h s m r (spot_in w) f (λ a h' s' m' q g. by a h' s' m' q.held q.holds q.reached)
    where
      by : (a : state.Given) (h' : Heap) (s' : State Bodied) (m' : Machine) (c : Content) → Holds b h' a c → Reached b active next c h' s' m' → Follows set program (Placed b active next) ts h' s' m' (spot_in w a s')
      by state.nothing h' s' m' c x q = tt
      by (state.a_value v) h' s' m' c x q = tt
      by (state.a_spot k) h' s' m' (machine.a_spot y) x q = follows_on set program (Placed b active next) ts h' s' m' m' k already (record { spot = y; stands = x; reached = q })
      by (state.a_spot k) h' s' m' _ x q = absurd x

  abbrev pub IsInteger : Base → List state.Entry → ℕ → ℤ → Heap → State Bodied → Machine → Type 0
  IsInteger b active next i = Reached b active next (machine.a_value (value.Integer i))

  pub integer_follows : (b : Base) (active : List state.Entry) (next : ℕ) (ts : List Target) (h : Heap) (s : State Bodied) (m : Machine) (w : Place) (r : Outcome Bodied state.Given) → Follows set program (Gives b active next) ts h s m r → Follows set program (IsInteger b active next) ts h s m (after (after r (value_in w)) (integer_in w))
  integer_follows b active next ts h s m w r f = follows_then set program (λ v. Reached b active next (machine.a_value v)) (IsInteger b active next) ts h s m (after r (value_in w)) (integer_in w) (value_follows b active next ts h s m w r f) (λ v h' s' m' q g. by v h' s' m' q)
    where
      by : (v : Value) (h' : Heap) (s' : State Bodied) (m' : Machine) → Reached b active next (machine.a_value v) h' s' m' → Follows set program (IsInteger b active next) ts h' s' m' (integer_in w v s')
      by (value.Integer i) h' s' m' q = follows_on set program (IsInteger b active next) ts h' s' m' m' i already q
      by _ h' s' m' q = tt

  abbrev pub IsTruth : Base → List state.Entry → ℕ → Bool → Heap → State Bodied → Machine → Type 0
  IsTruth b active next t = Reached b active next (machine.a_value (value.Logical t))

  pub truth_follows : (b : Base) (active : List state.Entry) (next : ℕ) (ts : List Target) (h : Heap) (s : State Bodied) (m : Machine) (w : Place) (r : Outcome Bodied state.Given) → Follows set program (Gives b active next) ts h s m r → Follows set program (IsTruth b active next) ts h s m (after (after r (value_in w)) (truth_in w))
  truth_follows b active next ts h s m w r f = follows_then set program (λ v. Reached b active next (machine.a_value v)) (IsTruth b active next) ts h s m (after r (value_in w)) (truth_in w) (value_follows b active next ts h s m w r f) (λ v h' s' m' q g. by v h' s' m' q)
    where
      by : (v : Value) (h' : Heap) (s' : State Bodied) (m' : Machine) → Reached b active next (machine.a_value v) h' s' m' → Follows set program (IsTruth b active next) ts h' s' m' (truth_in w v s')
      by (value.Logical i) h' s' m' q = follows_on set program (IsTruth b active next) ts h' s' m' m' i already q
      by _ h' s' m' q = tt

  -- a row by which a value is held
  pub gives_value : (b : Base) (active : List state.Entry) (next : ℕ) (ts : List Target) (h : Heap) (s : State Bodied) (m : Machine) (v : Value) → Comes set program m (mach b h s next (machine.a_value v)) → Settled b h s.memory s.records s.fields → length b.slots ≡ s.cells → s.active ≡ active → Follows set program (Gives b active next) ts h s m (on (state.a_value v) s)
  gives_value b active next ts h s m v c st q l = follows_on set program (Gives b active next) ts h s m (mach b h s next (machine.a_value v)) (state.a_value v) c (record { held = machine.a_value v; holds = refl; reached = record { is = refl; settled = st; cells = q; listed = l } })

  pub gives_nothing : (b : Base) (active : List state.Entry) (next : ℕ) (ts : List Target) (h : Heap) (s : State Bodied) (m : Machine) → Comes set program m (mach b h s next machine.nothing) → Settled b h s.memory s.records s.fields → length b.slots ≡ s.cells → s.active ≡ active → Follows set program (Gives b active next) ts h s m (on state.nothing s)
  gives_nothing b active next ts h s m c st q l = follows_on set program (Gives b active next) ts h s m (mach b h s next machine.nothing) state.nothing c (record { held = machine.nothing; holds = tt; reached = record { is = refl; settled = st; cells = q; listed = l } })

  -- a row that answers
  pub answer_follows : (x : Answer) (w : World) (b : Base) (h : Heap) (s : State Bodied) (k : ℕ) (held : Content) (m : Machine) (c : Coded) (ts : List Target) → slice_get program.instructions m.pc ≡ Some c → does set program c.at c.does m ≡ (answer x >> go_on) (mach b h s k held) → Agrees program.instructions w b h s → Follows set program (Gives b s.active (k + 1)) ts h s m (answer_at c.at x s)
  answer_follows (gives v) w b h s k held m c ts e d a = gives_value b s.active (k + 1) ts h s m v (one_row set program m _ c e d) a.settled a.cells refl
  answer_follows (faults f) w b h s k held m c ts e d a = fault_here (Gives b s.active (k + 1)) ts h s m c f b k held e d a.listed a.settled
  answer_follows misfits w b h s k held m c ts e d a = tt

  -- ---- a cell that is held

  -- and there was room for it
  pub push_below : {A : Type 0} (R : A → Heap → State Bodied → Machine → Type 0) (ts : List Target) (w : World) (b : Base) (h : Heap) (s : State Bodied) (k : ℕ) (x : Content) (at : Place) (f : Unit {0} → M Bodied A) → slice_get program.instructions k ≡ Some (record { at = at; does = instr.Push }) → Agrees program.instructions w b h s →
      (length b.slots < most_cells → Follows set program R ts h (with_cells (s.cells + 1) s) (mach (pushed x b) h s (k + 1) x) (f tt (with_cells (s.cells + 1) s))) → Follows set program R ts h s (mach b h s k x) (after (take_cells 1 at s) f)
  push_below R ts w b h s k x at f e a g = by (nat_le (s.cells + 1) most_cells) refl
    where
      n : length (map (content_of s.memory) b.slots) ≡ s.cells
      n = length_map (content_of s.memory) b.slots ∙ a.cells

      by : (t : Bool) → nat_le (s.cells + 1) most_cells ≡ t → Follows set program R ts h s (mach b h s k x) (after (elim t [ true ↦ on tt (with_cells (s.cells + 1) s) | false ↦ stop (by_limit limit.Storage) at s ]) f)
      by true p = follows_from set program R ts h s h (with_cells (s.cells + 1) s) (mach b h s k x) (mach (pushed x b) h s (k + 1) x) (f tt (with_cells (s.cells + 1) s))
          (one_row set program (mach b h s k x) (mach (pushed x b) h s (k + 1) x) (record { at = at; does = instr.Push }) e (ap (λ r. doing.after r (λ z. go_on)) (push_yes x (mach b h s k x) (room_yes _ s.cells n p))))
          (grew_to h s (with_cells (s.cells + 1) s) refl refl refl refl (λ d. d)) (g (let y = leb-true (s.cells + 1) most_cells p in let z = a.cells in omega (arith, y, z)))
      by false p = limit_here R ts h s (mach b h s k x) (record { at = at; does = instr.Push }) limit.Storage b k x e (ap (λ r. doing.after r (λ z. go_on)) (push_no x (mach b h s k x) (room_no _ s.cells n p))) a.listed a.settled

  pub push_then : {A : Type 0} (R : A → Heap → State Bodied → Machine → Type 0) (ts : List Target) (w : World) (b : Base) (h : Heap) (s : State Bodied) (k : ℕ) (x : Content) (at : Place) (f : Unit {0} → M Bodied A) → slice_get program.instructions k ≡ Some (record { at = at; does = instr.Push }) → Agrees program.instructions w b h s →
      Follows set program R ts h (with_cells (s.cells + 1) s) (mach (pushed x b) h s (k + 1) x) (f tt (with_cells (s.cells + 1) s)) → Follows set program R ts h s (mach b h s k x) (after (take_cells 1 at s) f)
  push_then R ts w b h s k x at f e a g = push_below R ts w b h s k x at f e a (λ q. g)

  -- m is done with a cell on the stacks, which is still there where it is done
  pub holding_follows : {A : Type 0} (hold : A → Content) (ts : List Target) (w : World) (b : Base) (h : Heap) (s : State Bodied) (k next : ℕ) (x : Content) (at : Place) (m : M Bodied A) → slice_get program.instructions k ≡ Some (record { at = at; does = instr.Push }) → Agrees program.instructions w b h s →
      Follows set program (λ a. Reached (pushed x b) s.active next (hold a)) ts h (with_cells (s.cells + 1) s) (mach (pushed x b) h s (k + 1) x) (m (with_cells (s.cells + 1) s)) →
      Follows set program (λ a. Topped b x s.active next (hold a)) ts h s (mach b h s k x) (holding at m s)
  holding_follows hold ts w b h s k next x at m e a f = push_then (λ a. Topped b x s.active next (hold a)) ts w b h s k x at (λ z s0. after (m s0) (λ a s1. on a (with_cells (s1.cells - 1) s1))) e a
      (follows_then set program (λ a. Reached (pushed x b) s.active next (hold a)) (λ a. Topped b x s.active next (hold a)) ts h (with_cells (s.cells + 1) s) (mach (pushed x b) h s (k + 1) x) (m (with_cells (s.cells + 1) s)) (λ a s1. on a (with_cells (s1.cells - 1) s1)) f
      (λ a h1 s1 m1 q g. follows_from set program (λ a. Topped b x s.active next (hold a)) ts h1 s1 h1 (with_cells (s1.cells - 1) s1) m1 m1 (on a (with_cells (s1.cells - 1) s1)) already (grew_to h1 s1 (with_cells (s1.cells - 1) s1) refl refl refl refl (λ d. d))
      (follows_on set program (λ a. Topped b x s.active next (hold a)) ts h1 (with_cells (s1.cells - 1) s1) m1 m1 a already (record { is = q.is; settled = settled_below x b h1 s1.memory s1.records s1.fields q.settled; cells = let z = q.cells in omega (arith, z); listed = q.listed }))))
