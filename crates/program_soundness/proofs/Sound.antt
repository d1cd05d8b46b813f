-- What is sound: it isn't wrong, jumps to a label that is live, and leaves a state that suits a world that extends the first.
use Rattle.std.proofs.Common.{◌≡◌, ◌≢◌, ℕ, refl}
use Rattle.std.specs.Prelude.{Bool, true, false, ⊤}
use Rattle.value_ops.specs.declared.places.Place.{Place}
use Rattle.value_ops.specs.declared.faults.Fault.{Fault}
use Rattle.program_meaning.specs.State.{State, Outcome, on, jump, stop, M, Why, wrong, after, ◌>>=◌, ◌>>◌, give, halt, fault_at, test}
use Rattle.program_meaning.specs.Environments.{Bodied}
use Rattle.program_soundness.specs.Kinds.{Table}
use Rattle.program_soundness.proofs.Worlds.{Live, World, Extends, StateSuits}
use Rattle.program_soundness.proofs.Growing.{same_world, extends_both}

module _ (table : Table) where
  abbrev pub Good : {A : Type 0} → Live → World → (World → A → Type 0) → Outcome Bodied A → Type 0
  Good live W Q (on a t) = (V : World) × Extends W V × StateSuits table V live.arrays t × Q V a
  Good live W Q (jump l t) = (V : World) × Extends W V × StateSuits table V live.arrays t × (live.labels l ≡ true)
  Good live W Q (stop y w t) = y ≢ wrong

  pub record Sound {A : Type 0} (live : Live) (W : World) (Q : World → A → Type 0) (m : M Bodied A) : Type 0 where
    pub by : (s : State Bodied) → StateSuits table W live.arrays s → Good live W Q (m s)

  pub good_from : {A : Type 0} (live : Live) {W V : World} (Q : World → A → Type 0) → Extends W V → (r : Outcome Bodied A) → Good live V Q r → Good live W Q r
  good_from live Q g (on a t) h = (h.0, extends_both g h.1, h.2, h.3)
  good_from live Q g (jump l t) h = (h.0, extends_both g h.1, h.2, h.3)
  good_from live Q g (stop y w t) h = h

  pub good_after : {A B : Type 0} {live : Live} {W : World} {Q : World → A → Type 0} {R : World → B → Type 0} (f : A → M Bodied B)
      → ((V : World) → Extends W V → (a : A) → Q V a → Sound live V R (f a)) → (r : Outcome Bodied A) → Good live W Q r → Good live W R (after r f)
  good_after {live = live} {R = R} f h (on a t) g = good_from live R g.1 (f a t) ((h g.0 g.1 a g.3).by t g.2)
  good_after f h (jump l t) g = g
  good_after f h (stop y w t) g = g

  pub sound_bind : {A B : Type 0} {live : Live} {W : World} {Q : World → A → Type 0} {R : World → B → Type 0} {m : M Bodied A} {f : A → M Bodied B}
      → Sound live W Q m → ((V : World) → Extends W V → (a : A) → Q V a → Sound live V R (f a)) → Sound live W R (m >>= f)
  sound_bind {m = m} {f = f} h g = record { by = λ s p. good_after f g (m s) (h.by s p) }

  pub sound_then : {A B : Type 0} {live : Live} {W : World} {Q : World → A → Type 0} {R : World → B → Type 0} {m : M Bodied A} {n : M Bodied B}
      → Sound live W Q m → ((V : World) → Extends W V → Sound live V R n) → Sound live W R (m >> n)
  sound_then {m = m} {n = n} h g = record { by = λ s p. good_after (λ a. n) (λ V e a q. g V e) (m s) (h.by s p) }

  good_weaker : {A : Type 0} (live : Live) {W : World} {Q R : World → A → Type 0} → ((V : World) → Extends W V → (a : A) → Q V a → R V a) → (r : Outcome Bodied A) → Good live W Q r → Good live W R r
  good_weaker live f (on a t) g = (g.0, g.1, g.2, f g.0 g.1 a g.3)
  good_weaker live f (jump l t) g = g
  good_weaker live f (stop y w t) g = g

  pub sound_weaker : {A : Type 0} {live : Live} {W : World} {Q R : World → A → Type 0} {m : M Bodied A} → Sound live W Q m → ((V : World) → Extends W V → (a : A) → Q V a → R V a) → Sound live W R m
  sound_weaker {live = live} {m = m} h f = record { by = λ s p. good_weaker live f (m s) (h.by s p) }

  pub sound_give : {A : Type 0} {live : Live} {W : World} {Q : World → A → Type 0} (a : A) → Q W a → Sound live W Q (give a)
  sound_give {W = W} a q = record { by = λ s p. (W, same_world W, p, q) }

  pub sound_halt : {A : Type 0} {live : Live} {W : World} {Q : World → A → Type 0} (y : Why) (w : Place) → (y ≢ wrong) → Sound live W Q (halt {A = A} y w)
  sound_halt y w n = record { by = λ s p. n }

  pub sound_fault : {A : Type 0} {live : Live} {W : World} {Q : World → A → Type 0} (f : Fault) (w : Place) → Sound live W Q (fault_at {A = A} f w)
  sound_fault f w = record { by = λ s p e. cc }

  good_test : {A : Type 0} (live : Live) (W : World) (Q : World → A → Type 0) (b : Bool) (x y : Outcome Bodied A) → (b ≡ true → Good live W Q x) → Good live W Q y → Good live W Q (elim b [ true ↦ x | false ↦ y ])
  good_test live W Q true x y p q = p refl
  good_test live W Q false x y p q = q

  -- what is done where a test holds may use that
  pub sound_test : {A : Type 0} {live : Live} {W : World} {Q : World → A → Type 0} {m n : M Bodied A} (b : Bool) → (b ≡ true → Sound live W Q m) → Sound live W Q n → Sound live W Q (test b m n)
  sound_test {live = live} {W = W} {Q = Q} b h g = record { by = λ s p. good_test live W Q b _ _ (λ e. (h e).by s p) (g.by s p) }

  good_true : {A : Type 0} (live : Live) (W : World) (Q : World → A → Type 0) (b : Bool) (x y : Outcome Bodied A) → b ≡ true → Good live W Q x → Good live W Q (elim b [ true ↦ x | false ↦ y ])
  good_true live W Q true x y e h = h
  good_true live W Q false x y e h = absurd (cc e)

  -- a test that holds
  pub sound_true : {A : Type 0} {live : Live} {W : World} {Q : World → A → Type 0} {m : M Bodied A} (n : M Bodied A) (b : Bool) → b ≡ true → Sound live W Q m → Sound live W Q (test b m n)
  sound_true {live = live} {W = W} {Q = Q} n b e h = record { by = λ s p. good_true live W Q b _ _ e (h.by s p) }

  -- ---- what changes nothing that a world speaks of

  abbrev pub Quietly : {A : Type 0} → World → (ℕ → Bool) → Outcome Bodied A → Type 0
  Quietly W made (on a t) = StateSuits table W made t
  Quietly W made (jump l t) = ⊥
  Quietly W made (stop y w t) = y ≢ wrong

  pub record Quiet {A : Type 0} (m : M Bodied A) : Type 0 where
    pub by : (s : State Bodied) (W : World) (made : ℕ → Bool) → StateSuits table W made s → Quietly W made (m s)

  good_quiet : {A : Type 0} (live : Live) (W : World) (r : Outcome Bodied A) → Quietly W live.arrays r → Good live W (λ V a. ⊤) r
  good_quiet live W (on a t) q = (W, same_world W, q, tt)
  good_quiet live W (jump l t) q = absurd q
  good_quiet live W (stop y w t) q = q

  pub sound_quiet : {A : Type 0} {live : Live} {W : World} {m : M Bodied A} → Quiet m → Sound live W (λ V a. ⊤) m
  sound_quiet {live = live} {W = W} {m = m} h = record { by = λ s p. good_quiet live W (m s) (h.by s W live.arrays p) }

  quiet_after : {A B : Type 0} {live : Live} {W : World} {R : World → B → Type 0} (f : A → M Bodied B) → ((a : A) → Sound live W R (f a)) → (r : Outcome Bodied A) → Quietly W live.arrays r → Good live W R (after r f)
  quiet_after f h (on a t) q = (h a).by t q
  quiet_after f h (jump l t) q = absurd q
  quiet_after f h (stop y w t) q = q

  pub quiet_bind : {A B : Type 0} {live : Live} {W : World} {R : World → B → Type 0} {m : M Bodied A} {f : A → M Bodied B} → Quiet m → ((a : A) → Sound live W R (f a)) → Sound live W R (m >>= f)
  quiet_bind {live = live} {W = W} {m = m} {f = f} h g = record { by = λ s p. quiet_after f g (m s) (h.by s W live.arrays p) }

  pub quiet_then : {A B : Type 0} {live : Live} {W : World} {R : World → B → Type 0} {m : M Bodied A} {n : M Bodied B} → Quiet m → Sound live W R n → Sound live W R (m >> n)
  quiet_then {live = live} {W = W} {m = m} {n = n} h g = record { by = λ s p. quiet_after (λ a. n) (λ a. g) (m s) (h.by s W live.arrays p) }

  -- m, and then something quiet, with the result of m
  pub sound_end : {A B : Type 0} {live : Live} {W : World} {Q : World → A → Type 0} {m : M Bodied A} {n : M Bodied B} → Sound live W Q m → Quiet n → Sound live W Q (m >>= λ a. n >> give a)
  sound_end h q = sound_bind h (λ V e a p. quiet_then q (sound_give a p))
