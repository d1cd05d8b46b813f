-- A name alone as an actual: the phrase that calls it without actuals, and compares.
use Rattle.std.proofs.Common.{◌≡◌, ℕ, ◌+◌, List, [], ◌∷◌, Option, Some, None, refl, sym, ap, ◌∙◌, subst, arith}
use Rattle.std.specs.Prelude.{slice_get, true, false}
use Rattle.value_ops.specs.declared.places.Place.{Place}
use Rattle.algolw_typing.specs.Types.{ValueType}
use Rattle.program_meaning.specs.Phrases.{Phrase, Named, Call, Formal, no_actuals}
use Rattle.program_meaning.specs.State as state
use Rattle.program_meaning.specs.State.{State, Setting, Outcome, on, jump, stop, M, for_value, after}
use Rattle.program_meaning.specs.Copying as copying
use Rattle.program_meaning.specs.Environments.{Env, Thing, to_constant, to_variable, to_array, to_label, to_procedure, thunk, Bodied, Job, Ready, put_for, Meant, Bound, find, go, go_actuals, go_back, called, invoked, no_formals, they_fit, body_done}
use Rattle.stack_code.specs.Instr as instr
use Rattle.stack_code.specs.Instr.{Instr, Mode, as_asked}
use Rattle.stack_code.specs.Code.{Code, Coded}
use Rattle.stack_code.specs.Machine.{Machine, Content}
use Rattle.phrase_code.specs.Sizes.{Kind, kind_at, a_variable, an_array, a_name_formal, a_procedure_formal, a_procedure, a_label, size, call_kind, call_size, text_size, bare_call_size, actuals_size, backs_size}
use Rattle.phrase_code.specs.Coding.{Context, Stand, known, code, stand_at, one, ◌▸◌, inner_text, text_code, call_code, bare_call, kind_of_stand}
use Rattle.code_simulation.specs.Relation.{HasAt, Base, Heap, mach, World, At}
use Rattle.code_simulation.specs.Following.{Follows}
use Rattle.code_simulation.proofs.Actuals.{GoesOnReady, thunk_actual}

-- what a name alone is done as
abbrev pub bare : (p x : Place) → Phrase
bare p x = Call None true p (Named x) no_actuals

-- ---- its code

bare_by_kind : (c : Context) (w p : Place) (k : ℕ) (s : Stand) (κ : Kind) (ready back : List Formal → List Coded) →
    call_code c w true p k no_actuals (call_kind true (Some κ)) (Some s) ready back (λ l. []) ≡ call_code c w true p k no_actuals (call_kind true (Some κ)) (Some s) (λ formals. []) (λ formals. []) (λ l. [])
bare_by_kind c w p k s a_label ready back = refl
bare_by_kind c w p k s a_variable ready back = refl
bare_by_kind c w p k s an_array ready back = refl
bare_by_kind c w p k s a_name_formal ready back = refl
bare_by_kind c w p k s a_procedure_formal ready back = refl
bare_by_kind c w p k s (a_procedure formals) ready back = refl

bare_by_stand : (c : Context) (w p : Place) (k : ℕ) (o : Option Stand) (ready back : List Formal → List Coded) → call_code c w true p k no_actuals (call_kind true (kind_of_stand o)) o ready back (λ l. []) ≡ bare_call c w p k o
bare_by_stand c w p k None ready back = refl
bare_by_stand c w p k (Some s) ready back = bare_by_kind c w p k s s.kind ready back

-- it is that of an actual that is a name alone
pub bare_code : (c : Context) (w p : Place) (u : Mode) (k : ℕ) (x : Place) → code c w u k (bare p x) ≡ bare_call c w p k (stand_at c.names x)
bare_code c w p u k x = let e : k + 0 ≡ k = omega arith in bare_by_stand c w p (k + 0) (stand_at c.names x) _ _ ∙ ap (λ n. bare_call c w p n (stand_at c.names x)) e

size_by_kind : (o : Option Kind) (ready back : List Formal → ℕ) → 0 + call_size (call_kind true o) ready back 0 no_actuals ≡ bare_call_size o
size_by_kind None ready back = refl
size_by_kind (Some a_label) ready back = refl
size_by_kind (Some a_variable) ready back = refl
size_by_kind (Some an_array) ready back = refl
size_by_kind (Some a_name_formal) ready back = refl
size_by_kind (Some a_procedure_formal) ready back = refl
size_by_kind (Some (a_procedure formals)) ready back = refl

pub bare_size : (c : Context) (p x : Place) → size (known c) (bare p x) ≡ bare_call_size (kind_at (known c) x)
bare_size c p x = size_by_kind (kind_at (known c) x) (λ formals. actuals_size (known c) no_actuals formals) (λ formals. backs_size (known c) no_actuals formals)

-- ---- what it does

after_same : {A B : Type 0} (r : Outcome Bodied A) (f g : A → M Bodied B) → ((a : A) (s : State Bodied) → f a s ≡ g a s) → after r f ≡ after r g
after_same (on a s) f g h = h a s
after_same (jump l s) f g h = refl
after_same (stop y w s) f g h = refl

module _ (set : Setting) (later : Job → M Bodied state.Given) where
  -- a procedure without formals is called without actuals, and nothing is assigned back
  empty_call : (at p : Place) (name : List ℕ) (result : Option ValueType) (fs : List Formal) (body : Phrase) (st : Place) (env e : Env) (s : State Bodied) →
      called set later at p (record { name = name; result = result; formals = fs; body = body; statement = st; env = env }) (go_actuals set later no_actuals at fs e) (λ bs. go_back set later no_actuals at fs bs e) s
      ≡ called set later at p (record { name = name; result = result; formals = fs; body = body; statement = st; env = env }) (no_formals at fs) (λ bs. state.give tt) s
  empty_call at p name result [] body st env e s = refl
  empty_call at p name result (f ∷ fs) body st env e s = refl

  empty_by : (at p : Place) (o : Option Thing) (e : Env) (s : State Bodied) → invoked set later at true p o no_actuals e (λ fs. go_actuals set later no_actuals at fs e) (λ fs bs. go_back set later no_actuals at fs bs e) s ≡ invoked set later at true p o no_actuals e (λ fs. no_formals at fs) (λ fs bs. state.give tt) s
  empty_by at p None e s = refl
  empty_by at p (Some (to_constant v)) e s = refl
  empty_by at p (Some (to_variable v)) e s = refl
  empty_by at p (Some (to_array v given)) e s = refl
  empty_by at p (Some (to_label v)) e s = refl
  empty_by at p (Some (thunk m a f)) e s = refl
  empty_by at p (Some (to_procedure k)) e s = by (slice_get s.procedures k)
    where
      by : (o : Option Bodied) → after (Rattle.program_meaning.specs.Environments.procedure_at at o s) (λ q. state.◌>>◌ (Rattle.program_meaning.specs.Environments.compared at true e q.formals no_actuals) (called set later at p q (go_actuals set later no_actuals at q.formals e) (λ bs. go_back set later no_actuals at q.formals bs e)))
          ≡ after (Rattle.program_meaning.specs.Environments.procedure_at at o s) (λ q. state.◌>>◌ (Rattle.program_meaning.specs.Environments.compared at true e q.formals no_actuals) (called set later at p q (no_formals at q.formals) (λ bs. state.give tt)))
      by None = refl
      by (Some q) = after_same (Rattle.program_meaning.specs.Environments.compared at true e q.formals no_actuals s) _ _ (λ z s1. empty_call at p q.name q.result q.formals q.body q.statement q.env e s1)

  pub bare_does : (at p x : Place) (e : Env) (s : State Bodied) → go set later (bare p x) for_value at e s ≡ invoked set later at true p (find e x) no_actuals e (λ fs. no_formals at fs) (λ fs bs. state.give tt) s
  bare_does at p x e s = empty_by at p (find e x) e s

module _ (set : Setting) (program : Code) (later : Job → M Bodied state.Given) where
  -- one for a formal by name
  pub name_thunk_actual : {A : Type 0} (R : A → Heap → State Bodied → Machine → Type 0) (t : ValueType) (p x : Place) (reading : Rattle.stack_code.specs.Instr.Reading) (at : Place) (w : World) (b : Base) (h : Heap) (s : State Bodied) (c : Context) (e : Env) (k : ℕ) (held : Content) (F : Ready → M Bodied A) →
      HasAt program.instructions k (text_code at k p reading (bare_call_size (kind_at (known c) x)) (bare_call (inner_text c) at p (k + 1) (stand_at c.names x)) ▸ one at (instr.MakeThunk k (Some t) false) ▸ one at instr.Push) → At program.instructions w b h s c e → GoesOnReady set program later R w b h s c e (k + (text_size (bare_call_size (kind_at (known c) x)) + 2)) F →
      Follows set program R w.targets h s (mach b h s k held) (after (state.on (put_for (thunk (copying.mark at p (Some t) false) (bare p x) e)) s) (λ r. state.◌>>◌ (state.take_cells 1 at) (F r)))
  name_thunk_actual R t p x reading at w b h s c e k held F code l g =
      let a = bare p x in
      let es = bare_size c p x in
      let ec = bare_code (inner_text c) at p as_asked (k + 1) x in
      thunk_actual set program later R (Some t) false p reading a (tt, tt) at w b h s c e k held F
      (subst (λ n. HasAt program.instructions k (text_code at k p reading n (Rattle.phrase_code.specs.Coding.code (inner_text c) at as_asked (k + 1) a) ▸ one at (instr.MakeThunk k (Some t) false) ▸ one at instr.Push)) (sym es)
      (subst (λ z. HasAt program.instructions k (text_code at k p reading (bare_call_size (kind_at (known c) x)) z ▸ one at (instr.MakeThunk k (Some t) false) ▸ one at instr.Push)) (sym ec) code)) l (omega arith)
      (subst (λ n. GoesOnReady set program later R w b h s c e (k + (text_size n + 2)) F) (sym es) g)
