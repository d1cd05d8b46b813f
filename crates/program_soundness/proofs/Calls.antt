-- Calls, and actuals that become ready.
use Rattle.std.proofs.Common.{◌≡◌, ℕ, List, length, refl, sym, subst, ap, ◌∙◌}
use Rattle.std.specs.Prelude.{Option, Some, None, Bool, true, false, ⊤, slice_get}
use Rattle.value_ops.specs.declared.places.Place.{Place}
use Rattle.value_ops.specs.declared.faults.Fault.TheVariants as fault
use Rattle.algolw_typing.specs.Types.{ValueType, Gives, Statement, Simple, is_same}
use Rattle.algolw_typing.specs.Meanings.{FormalType, by_name, by_value, by_result, by_value_result, for_array, for_procedure, a_phrase}
use Rattle.program_meaning.specs.Phrases.{Phrase, Call, Formal, Actuals, no_actuals}
use Rattle.program_meaning.specs.State.{State, on, stop, M, Setting, for_value, Given, by_fault, after, ◌>>◌}
use Rattle.program_meaning.specs.Copying.{formal_types, mark, is_variable_of}
use Rattle.program_meaning.specs.Environments as env
use Rattle.program_meaning.specs.Environments.{Env, Thing, to_constant, to_variable, to_array, to_label, to_procedure, thunk, Job, Bodied, Meant, Ready, with_value, without_value, put_for, head, they_fit, compared}
use Rattle.program_soundness.specs.Kinds.{Kind, kind_of, Want, a_statement, a_value, a_place, result_want, given_want, IsProper, IsProperGiven, IsProperFormal, AreProper, Meaning, a_variable, a_control, an_array, a_label, a_procedure, a_procedure_formal, Context, Table}
use Rattle.program_soundness.specs.Fits.{IsCalled, CallFits, IfVariable, Fits, ActualsFit}
use Rattle.program_soundness.proofs.Worlds.{Live, Within, Living, World, Suits, IfMarked, ThingSuits, EnvSuits, StateSuits}
use Rattle.program_soundness.proofs.Growing.{spot_grows}
use Rattle.program_soundness.proofs.Sound.{Good, Sound, sound_bind, sound_give, quiet_then}
use Rattle.program_soundness.proofs.Quiet.{quiet_no_actuals}
use Rattle.program_soundness.proofs.Values.{sound_value, sound_spot}
use Rattle.program_soundness.proofs.Variables.{sound_look, sound_made, sound_assign}
use Rattle.program_soundness.proofs.Names.{head_found, sound_procedure}
use Rattle.program_soundness.proofs.Comparing.{PartFits}
use Rattle.program_soundness.proofs.Readiness.{ReadySuits, FormalSuits, VariableThing}
use Rattle.program_soundness.proofs.Actuals.{Calls, AloneFor, ActualsFor, fit_before, fit_now}
use Rattle.program_soundness.proofs.Jobs.{DoesSoundly, ReadySoundly, BackSoundly, copied_value, sound_called}

value_kind : {k j : Kind} → a_value k ≡ a_value j → k ≡ j
value_kind {k = k} e = ap (λ want. elim want [ a_value i ↦ i | a_place i ↦ i | a_statement ↦ k ]) e

marked_any : (b : Bool) (P : Type 0) → P → IfMarked b P
marked_any true P h = h
marked_any false P h = tt

-- an actual by name is marked as a variable only where it is one
mark_fits : (v : Bool) (g : Gives) (t : ValueType) (P : Kind → Type 0) → IfVariable v g P → given_want g ≡ a_value (kind_of t) → IfMarked (is_variable_of t v g) (P (kind_of t))
mark_fits true (Simple u) t P h e = marked_any (is_same u t) (P (kind_of t)) (subst P (value_kind e) h)
mark_fits false (Simple u) t P h e = tt
mark_fits true Statement t P h e = tt
mark_fits false Statement t P h e = tt

module _ (table : Table) where
  compared_at : {B : Type 0} (live : Live) (W : World) (R : World → B → Type 0) (n : M Bodied B) (w : Place) (s : State Bodied) (b : Bool) → StateSuits table W live.arrays s → (b ≡ true → Sound table live W R n)
      → Good table live W R (after (elim b [ true ↦ on (tt {0}) s | false ↦ stop (by_fault fault.ActualsDoNotFit) w s ]) (λ a. n))
  compared_at live W R n w s true h g = (g refl).by s h
  compared_at live W R n w s false h g = λ e. cc

  -- what goes on behind the comparing may use that the actuals fit
  sound_compared : {B : Type 0} {live : Live} {W : World} {R : World → B → Type 0} {n : M Bodied B} (w : Place) (c : Context) (e : Env) (fs : List Formal) (given : Actuals) → EnvSuits table W live c e → ActualsFit table c given
      → (ActualsFor c (formal_types fs) given → Sound table live W R n) → Sound table live W R (compared w true e fs given >> n)
  sound_compared {live = live} {W = W} {R = R} {n = n} w c e fs given i f g = record { by = λ s h. compared_at live W R n w s (they_fit w s e fs given) h (λ q. g (fit_now table W live s h c e i w fs given f q)) }

module _ (table : Table) (set : Setting) (later : Job → M Bodied Given) (later_sound : DoesSoundly table later) where
  -- actuals that fit their formals become ready, and are assigned back
  pub record Passing (live : Live) (W : World) (c : Context) (given : Actuals) (ready : List Formal → M Bodied (List Ready)) (back : List Formal → List Meant → M Bodied (Unit {0})) : Type 0 where
    pub readies : (fs : List Formal) → AreProper fs → ActualsFor c (formal_types fs) given → ReadySoundly table set later later_sound live W fs (ready fs)
    pub backs : (fs : List Formal) → AreProper fs → ActualsFor c (formal_types fs) given → BackSoundly table set later later_sound live W fs (back fs)

  called_now : {live : Live} {W : World} (w p : Place) (k : ℕ) (l : Living) (compares : Bool) (r : Option ValueType) (c : Context) (e : Env) (given : Actuals) (ready : List Formal → M Bodied (List Ready)) (back : List Formal → List Meant → M Bodied (Unit {0}))
      → slice_get W.procedures k ≡ Some l → Within l.live live → result_want l.procedure.result ≡ result_want r → EnvSuits table W live c e → ActualsFit table c given → Passing live W c given ready back
      → (compares ≡ false → ActualsFor c (formal_types l.procedure.formals) given)
      → Sound table live W (Suits (result_want r)) (env.invoked set later w compares p (Some (to_procedure k)) given e ready back)
  called_now {live = live} {W = W} w p k l compares r c e given ready back q i x s f g b =
      sound_procedure table w k l q (λ h. compares_then compares b
      (λ a. subst (λ want. Sound table live W (Suits want) (env.called set later w p l.procedure (ready l.procedure.formals) (back l.procedure.formals))) x
      (sound_called table set later later_sound w p l (ready l.procedure.formals) (back l.procedure.formals) h i (g.readies l.procedure.formals h.formals a) (g.backs l.procedure.formals h.formals a))))
    where
      compares_then : {n : M Bodied Given} (compares : Bool) → (compares ≡ false → ActualsFor c (formal_types l.procedure.formals) given) → (ActualsFor c (formal_types l.procedure.formals) given → Sound table live W (Suits (result_want r)) n) → Sound table live W (Suits (result_want r)) (compared w compares e l.procedure.formals given >> n)
      compares_then true a n = sound_compared table w c e l.procedure.formals given s f n
      compares_then false a n = record { by = λ t h. (n (a refl)).by t h }

  -- a declared procedure, whose actuals are known to fit
  procedure_thing : {live : Live} {W : World} (w p : Place) (t : Thing) (r : Option ValueType) (formals : List FormalType) (c : Context) (e : Env) (given : Actuals) (ready : List Formal → M Bodied (List Ready)) (back : List Formal → List Meant → M Bodied (Unit {0}))
      → ThingSuits table W live (a_procedure r formals) t → ActualsFor c formals given → EnvSuits table W live c e → ActualsFit table c given → Passing live W c given ready back
      → Sound table live W (Suits (result_want r)) (env.invoked set later w false p (Some t) given e ready back)
  procedure_thing w p (to_procedure k) r formals c e given ready back h a s f g =
      called_now w p k h.0 false r c e given ready back h.1 h.2 (ap result_want h.3) s f g (λ q. subst (λ fs. ActualsFor c fs given) (sym h.4) a)
  procedure_thing w p (to_constant v) r formals c e given ready back h a s f g = absurd h
  procedure_thing w p (to_variable v) r formals c e given ready back h a s f g = absurd h
  procedure_thing w p (to_array v is) r formals c e given ready back h a s f g = absurd h
  procedure_thing w p (to_label v) r formals c e given ready back h a s f g = absurd h
  procedure_thing w p (thunk m b d) r formals c e given ready back h a s f g = absurd h.2

  -- a procedure or a procedure formal, whose actuals are compared now
  called_thing : {live : Live} {W : World} (w p : Place) (m : Meaning) (t : Thing) (r : Option ValueType) (c : Context) (e : Env) (given : Actuals) (ready : List Formal → M Bodied (List Ready)) (back : List Formal → List Meant → M Bodied (Unit {0}))
      → IsCalled m r → ThingSuits table W live m t → EnvSuits table W live c e → ActualsFit table c given → Passing live W c given ready back
      → Sound table live W (Suits (result_want r)) (env.invoked set later w true p (Some t) given e ready back)
  called_thing w p (a_procedure q fs) (to_procedure k) r c e given ready back i h s f g = called_now w p k h.0 true r c e given ready back h.1 h.2 (ap result_want (h.3 ∙ i)) s f g (λ x. absurd (cc x))
  called_thing w p (a_procedure_formal q) (to_procedure k) r c e given ready back i h s f g = called_now w p k h.0 true r c e given ready back h.1 h.2 (h.3 ∙ ap result_want i) s f g (λ x. absurd (cc x))
  called_thing {live = live} {W = W} w p (a_procedure_formal q) (thunk m a d) r c e given ready back i h s f g =
      quiet_then table (quiet_no_actuals table w given) (subst (λ want. Sound table live W (Suits want) (env.copied set later for_value w m a d)) (h.2.0 ∙ ap result_want i) (copied_value table set later later_sound w m a d h.0 h.1 h.2.1 h.2.2))
  called_thing w p (a_procedure q fs) (to_constant v) r c e given ready back i h s f g = absurd h
  called_thing w p (a_procedure q fs) (to_variable v) r c e given ready back i h s f g = absurd h
  called_thing w p (a_procedure q fs) (to_array v is) r c e given ready back i h s f g = absurd h
  called_thing w p (a_procedure q fs) (to_label v) r c e given ready back i h s f g = absurd h
  called_thing w p (a_procedure q fs) (thunk m a d) r c e given ready back i h s f g = absurd h.2
  called_thing w p (a_procedure_formal q) (to_constant v) r c e given ready back i h s f g = absurd h
  called_thing w p (a_procedure_formal q) (to_variable v) r c e given ready back i h s f g = absurd h
  called_thing w p (a_procedure_formal q) (to_array v is) r c e given ready back i h s f g = absurd h
  called_thing w p (a_procedure_formal q) (to_label v) r c e given ready back i h s f g = absurd h
  called_thing w p (a_variable k) t r c e given ready back i h s f g = absurd i
  called_thing w p a_control t r c e given ready back i h s f g = absurd i
  called_thing w p (an_array u n) t r c e given ready back i h s f g = absurd i
  called_thing w p a_label t r c e given ready back i h s f g = absurd i

  pub sound_invoked : {live : Live} {W : World} (w p : Place) (compares : Bool) (a : Phrase) (r : Option ValueType) (c : Context) (e : Env) (given : Actuals) (ready : List Formal → M Bodied (List Ready)) (back : List Formal → List Meant → M Bodied (Unit {0}))
      → CallFits compares c p a r given → ActualsFit table c given → EnvSuits table W live c e → Passing live W c given ready back
      → Sound table live W (Suits (result_want r)) (env.invoked set later w compares p (head e a) given e ready back)
  sound_invoked {live = live} {W = W} w p false a r c e given ready back h f s g =
      let t = head_found table c e a (a_procedure r h.0) h.1 s in
      subst (λ o. Sound table live W (Suits (result_want r)) (env.invoked set later w false p o given e ready back)) (sym t.1) (procedure_thing w p t.0 r h.0 c e given ready back t.2 (fit_before table c p h.0 given f h.2) s f g)
  sound_invoked {live = live} {W = W} w p true a r c e given ready back h f s g =
      let t = head_found table c e a h.0 h.1 s in
      subst (λ o. Sound table live W (Suits (result_want r)) (env.invoked set later w true p o given e ready back)) (sym t.1) (called_thing w p h.0 t.0 r c e given ready back h.2 t.2 s f g)

  -- ---- actuals become ready

  sound_value_ready : {live : Live} {W : World} {m : M Bodied Given} (w : Place) (t : ValueType) (want : Want) → IsProper t → want ≡ a_value (kind_of t) → Sound table live W (Suits want) m → Sound table live W (λ V r. ReadySuits table V live (by_value t) r) (env.value_ready w t m)
  sound_value_ready {live = live} {W = W} {m = m} w t want i e h = sound_bind table (sound_value table (kind_of t) w (subst (λ want. Sound table live W (Suits want) m) e h)) (λ V g v p. sound_bind table (sound_made table w t v i p) (λ U d u q. sound_give table (with_value u) q))

  pub sound_phrase_ready : {live : Live} {W : World} {m : M Bodied Given} (f : FormalType) (w : Place) (v : Bool) (g : Gives) (first : Place) (a : Phrase) (c : Context) (e : Env) → EnvSuits table W live c e → IsProperFormal f → Fits table c a (given_want g)
      → IfVariable v g (λ k. Fits table c a (a_place k)) → PartFits f (a_phrase v g) → Sound table live W (Suits (given_want g)) m → Sound table live W (λ V r. ReadySuits table V live f r) (env.phrase_ready f w m v g first a e)
  sound_phrase_ready (by_value t) w v g first a c e s i f x p h = sound_value_ready w t (given_want g) i p h
  sound_phrase_ready (by_value_result t) w v g first a c e s i f x p h = sound_value_ready w t (given_want g) i p.0 h
  sound_phrase_ready (by_result t) w v g first a c e s i f x p h = sound_give table without_value tt
  sound_phrase_ready (by_name t) w v g first a c e s i f x p h = sound_give table (put_for (thunk (mark w first (Some t) (is_variable_of t v g)) a e)) (c, s, (refl, i, subst (Fits table c a) p f, mark_fits v g t (λ k. Fits table c a (a_place k)) x p))
  sound_phrase_ready (for_procedure result) w v g first a c e s i f x p h = sound_give table (put_for (thunk (mark w first result false) a e)) (c, s, (refl, i, subst (Fits table c a) p f))
  sound_phrase_ready (for_array t n) w v g first a c e s i f x p h = absurd p

  handed_procedure : {live : Live} {W : World} (w : Place) (m : Meaning) (t : Thing) (r result : Option ValueType) → IsCalled m r → result_want r ≡ result_want result → ThingSuits table W live m t → Sound table live W (λ V q. ReadySuits table V live (for_procedure result) q) (env.procedure_handed w (Some t))
  handed_procedure w (a_procedure q fs) (to_procedure k) r result i e h = sound_give table (put_for (to_procedure k)) (h.0, h.1, h.2, ap result_want (h.3 ∙ i) ∙ e)
  handed_procedure w (a_procedure_formal q) (to_procedure k) r result i e h = sound_give table (put_for (to_procedure k)) (h.0, h.1, h.2, h.3 ∙ ap result_want i ∙ e)
  handed_procedure w (a_procedure_formal q) (thunk m a d) r result i e h = sound_give table (put_for (thunk m a d)) (h.0, h.1, (h.2.0 ∙ ap result_want i ∙ e, h.2.1, h.2.2))
  handed_procedure w (a_procedure q fs) (to_constant v) r result i e h = absurd h
  handed_procedure w (a_procedure q fs) (to_variable v) r result i e h = absurd h
  handed_procedure w (a_procedure q fs) (to_array v is) r result i e h = absurd h
  handed_procedure w (a_procedure q fs) (to_label v) r result i e h = absurd h
  handed_procedure w (a_procedure q fs) (thunk m a d) r result i e h = absurd h.2
  handed_procedure w (a_procedure_formal q) (to_constant v) r result i e h = absurd h
  handed_procedure w (a_procedure_formal q) (to_variable v) r result i e h = absurd h
  handed_procedure w (a_procedure_formal q) (to_array v is) r result i e h = absurd h
  handed_procedure w (a_procedure_formal q) (to_label v) r result i e h = absurd h
  handed_procedure w (a_variable k) t r result i e h = absurd i
  handed_procedure w a_control t r result i e h = absurd i
  handed_procedure w (an_array u n) t r result i e h = absurd i
  handed_procedure w a_label t r result i e h = absurd i

  handed_array : {live : Live} {W : World} (w : Place) (u t : ValueType) (n : ℕ) (b : Thing) → kind_of u ≡ kind_of t → ThingSuits table W live (an_array u n) b → Sound table live W (λ V q. ReadySuits table V live (for_array t n) q) (env.array_handed w (Some b))
  handed_array {W = W} w u t n (to_array k given) e h = sound_give table (put_for (to_array k given)) (subst (λ j. slice_get W.arrays k ≡ Some (record { kind = j; dimensions = length given })) e h.0, h.1, h.2)
  handed_array w u t n (to_constant v) e h = absurd h
  handed_array w u t n (to_variable v) e h = absurd h
  handed_array w u t n (to_label v) e h = absurd h
  handed_array w u t n (to_procedure v) e h = absurd h
  handed_array w u t n (thunk m a d) e h = absurd h.2

  pub sound_name_ready : {live : Live} {W : World} {m : M Bodied Given} (f : FormalType) (w p : Place) (a : Phrase) (c : Context) (e : Env) → EnvSuits table W live c e → IsProperFormal f → AloneFor c f a
      → ((r : Option ValueType) → Calls c a r → Sound table live W (Suits (result_want r)) m) → Sound table live W (λ V r. ReadySuits table V live f r) (env.name_ready f w m p a e)
  sound_name_ready (by_value t) w p a c e s i x h = sound_value_ready w t (result_want x.0) i x.2 (h x.0 x.1)
  sound_name_ready (by_name t) w p a c e s i x h = sound_give table (put_for (thunk (mark w p (Some t) false) (Call None true p a no_actuals) e)) (c, s, (refl, i, (x.0, sym x.2, x.1, tt), tt))
  sound_name_ready {live = live} {W = W} (for_procedure result) w p a c e s i x h =
      let t = head_found table c e a x.1.0 x.1.1 s in
      subst (λ o. Sound table live W (λ V r. ReadySuits table V live (for_procedure result) r) (env.procedure_handed w o)) (sym t.1) (handed_procedure w x.1.0 t.0 x.0 result x.1.2 x.2 t.2)
  sound_name_ready {live = live} {W = W} (for_array t n) w p a c e s i x h =
      let b = head_found table c e a (an_array x.0 n) x.1 s in
      subst (λ o. Sound table live W (λ V r. ReadySuits table V live (for_array t n) r) (env.array_handed w o)) (sym b.1) (handed_array w x.0 t n b.0 x.2 b.2)
  sound_name_ready (by_result t) w p a c e s i x h = absurd x.2
  sound_name_ready (by_value_result t) w p a c e s i x h = absurd x.2

  -- ---- assigning back

  given_back : {live : Live} {W : World} {m : M Bodied Given} (w : Place) (u : ValueType) (k : Kind) (t : Thing) → IsProper u → kind_of u ≡ k → VariableThing W k t → Sound table live W (Suits (a_place (kind_of u))) m → Sound table live W (λ V a. ⊤) (env.give_back_value w m (Simple u) t)
  given_back {W = W} w u k (to_variable n) i e h g =
      sound_bind table (sound_spot table (kind_of u) w g) (λ V d spot p. sound_bind table (sound_look table w (kind_of u) n (d.memory n (kind_of u) (subst (λ j. slice_get W.memory n ≡ Some j) (sym e) h))) (λ U f v q. sound_assign table w u spot v i (spot_grows f (kind_of u) spot p) q))
  given_back w u k (to_constant v) i e h g = absurd h
  given_back w u k (to_array v is) i e h g = absurd h
  given_back w u k (to_label v) i e h g = absurd h
  given_back w u k (to_procedure v) i e h g = absurd h
  given_back w u k (thunk m a d) i e h g = absurd h

  result_back : {live : Live} {W : World} (m : M Bodied Given) (w : Place) (v : Bool) (g : Gives) (k : Kind) (t : Thing) → given_want g ≡ a_value k → v ≡ true → IsProperGiven g → VariableThing W k t → IfVariable v g (λ j. Sound table live W (Suits (a_place j)) m)
      → Sound table live W (λ V a. ⊤) (env.give_back_value w m g t)
  result_back m w true (Simple u) k t e q i h s = given_back w u k t i (value_kind e) h s
  result_back m w false (Simple u) k t e q i h s = absurd (cc q)
  result_back m w v Statement k t e q i h s = absurd (cc e)

  pub sound_back : {live : Live} {W : World} (m : M Bodied Given) (f : FormalType) (w : Place) (v : Bool) (g : Gives) (t : Thing) → PartFits f (a_phrase v g) → IsProperGiven g → FormalSuits table W live f t
      → IfVariable v g (λ j. Sound table live W (Suits (a_place j)) m) → Sound table live W (λ V a. ⊤) (env.assigned_back f w m g t)
  sound_back m (by_result u) w v g t p i h s = result_back m w v g (kind_of u) t p.0 p.1 i h s
  sound_back m (by_value_result u) w v g t p i h s = result_back m w v g (kind_of u) t p.0 p.1 i h s
  sound_back m (by_value u) w v g t p i h s = sound_give table tt tt
  sound_back m (by_name u) w v g t p i h s = sound_give table tt tt
  sound_back m (for_array u n) w v g t p i h s = sound_give table tt tt
  sound_back m (for_procedure r) w v g t p i h s = sound_give table tt tt
