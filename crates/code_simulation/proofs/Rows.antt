-- Rows one after the other.
use Rattle.std.proofs.Common.{◌≡◌, ℕ, ◌≤◌, ◌⊎◌, inl, inr, List, length, Some, refl, sym, ap, ◌∙◌, subst, arith}
use Rattle.std.specs.Prelude.{slice_get}
use Rattle.program_meaning.specs.State.{State, Setting, Why, by_fault, by_limit, wrong, unfinished, Outcome, on, jump, stop, M, after}
use Rattle.program_meaning.specs.Environments.{Bodied}
use Rattle.stack_code.specs.Code.{Code, Coded}
use Rattle.stack_code.specs.Machine.{Machine, Content}
use Rattle.stack_code.specs.Doing.{Next, ended, halted}
use Rattle.stack_code.specs.Doing as doing
use Rattle.stack_code.specs.Run.{over, row, row_by, settled, stopped}
use Rattle.stack_code.specs.Table.{does}
use Rattle.code_simulation.specs.Relation.{Heap, Target, Grew}
use Rattle.code_simulation.specs.Following.{Comes, already, by_row, Follows}

pub grew_here : (h : Heap) (s : State Bodied) → Grew h s h s
grew_here h s = record { memory = omega arith; arrays = λ k a e. e; procedures = λ k p e. e; labels = omega arith; fields = λ f k e. e; fresh = λ f k e. inl e; deep = λ d. d }

pub grew_on : (h : Heap) (s : State Bodied) (h1 : Heap) (s1 : State Bodied) (h2 : Heap) (s2 : State Bodied) → Grew h s h1 s1 → Grew h1 s1 h2 s2 → Grew h s h2 s2
grew_on h s h1 s1 h2 s2 p q = record {
  memory = let a = p.memory in let b = q.memory in omega (arith, a, b);
  arrays = λ k a e. q.arrays k a (p.arrays k a e);
  procedures = λ k a e. q.procedures k a (p.procedures k a e);
  labels = let a = p.labels in let b = q.labels in omega (arith, a, b);
  fields = λ f k e. q.fields f k (p.fields f k e);
  fresh = λ f k e. either f k (q.fresh f k e);
  deep = λ d. q.deep (p.deep d);
}
  where
    either : (f k : ℕ) → (Rattle.stack_code.specs.Machine.on_top_of h1.fields f ≡ Some k) ⊎ (length s1.memory ≤ k) → (Rattle.stack_code.specs.Machine.on_top_of h.fields f ≡ Some k) ⊎ (length s.memory ≤ k)
    either f k (inl e) = p.fresh f k e
    either f k (inr l) = let a = p.memory in inr (omega (arith, a, l))

-- what is given, if anything, has a property
abbrev pub OnAll : {A : Type 0} → (A → Type 0) → Outcome Bodied A → Type 0
OnAll P (on a s) = P a
OnAll P (jump l s) = Unit {0}
OnAll P (stop y w s) = Unit {0}

module _ (set : Setting) (program : Code) where
  -- the instruction at a place is done
  pub row_at : (m : Machine) (c : Coded) (k : ℕ) → m.pc ≡ k → slice_get program.instructions k ≡ Some c → row set program m ≡ settled c.at (does set program c.at c.does m)
  row_at m c k q e = ap (λ o. row_by set program m o) (subst (λ l. slice_get program.instructions l ≡ Some c) (sym q) e)

  pub one_row : (m n : Machine) (c : Coded) → slice_get program.instructions m.pc ≡ Some c → does set program c.at c.does m ≡ doing.on tt n → Comes set program m n
  one_row m n c e d = by_row (row_at m c m.pc refl e ∙ ap (λ x. settled c.at x) d) already

  pub one_stop : (m n : Machine) (c : Coded) (y : Why) → slice_get program.instructions m.pc ≡ Some c → does set program c.at c.does m ≡ halted y n → row set program m ≡ over (stopped y c.at n)
  one_stop m n c y e d = row_at m c m.pc refl e ∙ ap (λ x. settled c.at x) d

  pub comes_on : {m n o : Machine} → Comes set program m n → Comes set program n o → Comes set program m o
  comes_on already q = q
  comes_on (by_row e r) q = by_row e (comes_on r q)

  -- what follows from a machine further on, and a state further on, follows
  pub follows_from : {A : Type 0} (Q : A → Heap → State Bodied → Machine → Type 0) (ts : List Target) (h : Heap) (s : State Bodied) (h1 : Heap) (s1 : State Bodied) (m n : Machine) (r : Outcome Bodied A) → Comes set program m n → Grew h s h1 s1 → Follows set program Q ts h1 s1 n r → Follows set program Q ts h s m r
  follows_from Q ts h s h1 s1 m n (on a s') c g x = record { heap = x.heap; last = x.last; comes = comes_on c x.comes; is = x.is; grew = grew_on h s h1 s1 x.heap s' g x.grew }
  follows_from Q ts h s h1 s1 m n (jump l s') c g x = record { target = x.target; has = x.has; number = x.number; heap = x.heap; comes = comes_on c x.comes; settled = x.settled; grew = grew_on h s h1 s1 x.heap s' g x.grew }
  follows_from Q ts h s h1 s1 m n (stop (by_fault f) w s') c g x = record { last = x.last; comes = comes_on c x.comes; end = x.end; stops = x.stops; seen = x.seen }
  follows_from Q ts h s h1 s1 m n (stop (by_limit f) w s') c g x = record { last = x.last; comes = comes_on c x.comes; end = x.end; stops = x.stops; seen = x.seen }
  follows_from Q ts h s h1 s1 m n (stop wrong w s') c g x = tt
  follows_from Q ts h s h1 s1 m n (stop unfinished w s') c g x = tt

  -- something is done, and then what its result asks for
  pub follows_then : {A B : Type 0} (Q : A → Heap → State Bodied → Machine → Type 0) (R : B → Heap → State Bodied → Machine → Type 0) (ts : List Target) (h : Heap) (s : State Bodied) (m : Machine) (r : Outcome Bodied A) (f : A → M Bodied B) → Follows set program Q ts h s m r →
      ((a : A) (h' : Heap) (s' : State Bodied) (m' : Machine) → Q a h' s' m' → Grew h s h' s' → Follows set program R ts h' s' m' (f a s')) → Follows set program R ts h s m (after r f)
  follows_then Q R ts h s m (on a s') f x g = follows_from R ts h s x.heap s' m x.last (f a s') x.comes x.grew (g a x.heap s' x.last x.is x.grew)
  follows_then Q R ts h s m (jump l s') f x g = x
  follows_then Q R ts h s m (stop (by_fault y) w s') f x g = x
  follows_then Q R ts h s m (stop (by_limit y) w s') f x g = x
  follows_then Q R ts h s m (stop wrong w s') f x g = tt
  follows_then Q R ts h s m (stop unfinished w s') f x g = tt

  -- another way to say what was come to
  pub follows_as : {A : Type 0} (Q R : A → Heap → State Bodied → Machine → Type 0) (ts : List Target) (h : Heap) (s : State Bodied) (m : Machine) (r : Outcome Bodied A) → ((a : A) (h' : Heap) (s' : State Bodied) (m' : Machine) → Q a h' s' m' → R a h' s' m') → Follows set program Q ts h s m r → Follows set program R ts h s m r
  follows_as Q R ts h s m (on a s') g x = record { heap = x.heap; last = x.last; comes = x.comes; is = g a x.heap s' x.last x.is; grew = x.grew }
  follows_as Q R ts h s m (jump l s') g x = x
  follows_as Q R ts h s m (stop (by_fault y) w s') g x = x
  follows_as Q R ts h s m (stop (by_limit y) w s') g x = x
  follows_as Q R ts h s m (stop wrong w s') g x = tt
  follows_as Q R ts h s m (stop unfinished w s') g x = tt

  -- it goes on at once
  pub follows_on : {A : Type 0} (Q : A → Heap → State Bodied → Machine → Type 0) (ts : List Target) (h : Heap) (s : State Bodied) (m n : Machine) (a : A) → Comes set program m n → Q a h s n → Follows set program Q ts h s m (on a s)
  follows_on Q ts h s m n a c q = record { heap = h; last = n; comes = c; is = q; grew = grew_here h s }

  -- more rows behind what was come to
  pub follows_more : {A : Type 0} (Q R : A → Heap → State Bodied → Machine → Type 0) (ts : List Target) (h : Heap) (s : State Bodied) (m : Machine) (r : Outcome Bodied A) → ((a : A) (h' : Heap) (s' : State Bodied) (m' : Machine) → Q a h' s' m' → (n : Machine) × Comes set program m' n × R a h' s' n) → Follows set program Q ts h s m r → Follows set program R ts h s m r
  follows_more Q R ts h s m (on a s') g x = let y = g a x.heap s' x.last x.is in (record { heap = x.heap; last = y.0; comes = comes_on x.comes y.1; is = y.2; grew = x.grew })
  follows_more Q R ts h s m (jump l s') g x = x
  follows_more Q R ts h s m (stop (by_fault y) w s') g x = x
  follows_more Q R ts h s m (stop (by_limit y) w s') g x = x
  follows_more Q R ts h s m (stop wrong w s') g x = tt
  follows_more Q R ts h s m (stop unfinished w s') g x = tt

  -- what is given has a property besides
  pub follows_with : {A : Type 0} (P : A → Type 0) (Q : A → Heap → State Bodied → Machine → Type 0) (ts : List Target) (h : Heap) (s : State Bodied) (m : Machine) (r : Outcome Bodied A) → OnAll P r → Follows set program Q ts h s m r → Follows set program (λ a h' s' m'. Q a h' s' m' × P a) ts h s m r
  follows_with P Q ts h s m (on a s') p x = record { heap = x.heap; last = x.last; comes = x.comes; is = (x.is, p); grew = x.grew }
  follows_with P Q ts h s m (jump l s') p x = x
  follows_with P Q ts h s m (stop (by_fault y) w s') p x = x
  follows_with P Q ts h s m (stop (by_limit y) w s') p x = x
  follows_with P Q ts h s m (stop wrong w s') p x = tt
  follows_with P Q ts h s m (stop unfinished w s') p x = tt

  -- the same, where what follows is told of an earlier state
  pub follows_then_since : {A B : Type 0} (Q : A → Heap → State Bodied → Machine → Type 0) (R : B → Heap → State Bodied → Machine → Type 0) (ts : List Target) (h0 : Heap) (s0 : State Bodied) (h : Heap) (s : State Bodied) (m : Machine) (r : Outcome Bodied A) (f : A → M Bodied B) → Grew h0 s0 h s → Follows set program Q ts h s m r →
      ((a : A) (h' : Heap) (s' : State Bodied) (m' : Machine) → Q a h' s' m' → Grew h s h' s' → Follows set program R ts h0 s0 m' (f a s')) → Follows set program R ts h0 s0 m (after r f)
  follows_then_since Q R ts h0 s0 h s m (on a s') f w x g = follows_from R ts h0 s0 h0 s0 m x.last (f a s') x.comes (grew_here h0 s0) (g a x.heap s' x.last x.is x.grew)
  follows_then_since Q R ts h0 s0 h s m (jump l s') f w x g = follows_from R ts h0 s0 h s m m (jump l s') already w x
  follows_then_since Q R ts h0 s0 h s m (stop (by_fault y) p s') f w x g = x
  follows_then_since Q R ts h0 s0 h s m (stop (by_limit y) p s') f w x g = x
  follows_then_since Q R ts h0 s0 h s m (stop wrong p s') f w x g = tt
  follows_then_since Q R ts h0 s0 h s m (stop unfinished p s') f w x g = tt
