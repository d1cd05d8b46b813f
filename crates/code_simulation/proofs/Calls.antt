-- Calls: of what is no procedure, of a copied actual, and of a procedure.
use Rattle.std.proofs.Common.{◌≡◌, ℕ, ◌+◌, ◌≤◌, ◌⊎◌, inl, inr, List, length, Option, Some, None, refl, sym, ap, ◌∙◌, subst, arith}
use Rattle.std.specs.Prelude.{slice_get, Bool, true, false}
use Rattle.value_ops.specs.declared.places.Place.{Place}
use Rattle.value_ops.specs.declared.faults.Fault.TheVariants as fault
use Rattle.program_meaning.specs.Phrases.{Phrase, Call, Named, Mark, Actuals, no_actuals, actual_and}
use Rattle.program_meaning.specs.State as state
use Rattle.program_meaning.specs.State.{State, Setting, Outcome, on, jump, stop, M, Use, for_value, for_place, after, innermost}
use Rattle.program_meaning.specs.Copying.{no_actuals_given}
use Rattle.program_meaning.specs.Environments.{Env, find, Thing, to_constant, to_variable, to_array, to_label, to_procedure, thunk, Bodied, Job, go, go_actuals, go_back, invoked, copied}
use Rattle.stack_code.specs.Instr as instr
use Rattle.stack_code.specs.Instr.{Instr, Mode, Source, from_entry}
use Rattle.stack_code.specs.Code.{Code, Coded}
use Rattle.stack_code.specs.Machine as machine
use Rattle.stack_code.specs.Machine.{Machine, Content, Thunk}
use Rattle.stack_code.specs.Doing as doing
use Rattle.stack_code.specs.Table.{does, compare, use_without}
use Rattle.phrase_code.specs.Sizes.{Kind, a_name_formal, a_procedure_formal, call_kind, CallKind, through, call_size, size, begin_size, texts_size, prepares_size, place_backs_size, actuals_size, backs_size}
use Rattle.phrase_code.specs.Coding.{Stand, Context, known, one, ◌▸◌, links, stand_at, kind_of_stand, source_by, source_of, code, code_actuals, code_backs, code_texts, text_heads, prepares_code, place_backs_code, end_of_call, call_code, through_code, with_entries}
use Rattle.code_simulation.specs.Relation.{HasAt, Has, LiveProcedure, fixed, Base, Heap, mach, World, HasEntry, HasText, IsUnderWay, Shows, At}
use Rattle.code_simulation.specs.Following.{Comes, Follows, Gives, CodeDoes, PhraseFollows, LaterFollows}
use Rattle.code_simulation.proofs.Stacks.{has_back}
use Rattle.code_simulation.proofs.Sizes.{head_found, prepares_sized, place_backs_sized}
use Rattle.code_simulation.proofs.Rows.{follows_from, grew_here}
use Rattle.code_simulation.proofs.Values.{fault_here}
use Rattle.code_simulation.proofs.Counting.{begun_state, begin_then, at_begun, active_begun}
use Rattle.code_simulation.proofs.Operators.{ends_at, gives_as}
use Rattle.code_simulation.proofs.Names.{Found, found, content_is}
use Rattle.code_simulation.proofs.Copied.{copied_follows}
use Rattle.code_simulation.proofs.Spotless.{IsClean}
use Rattle.code_simulation.proofs.ActualLists.{EachPhrase, EachActual, actuals_none, BareDoes, each_actual}
use Rattle.code_simulation.proofs.Sources.{StandsFor, stands_declared, stands_handed}
use Rattle.code_simulation.proofs.DeclaredCalls.{declared_call}
use Rattle.code_simulation.proofs.FormalCalls.{texts_over, through_follows}
use Rattle.std.specs.Prelude.{◌≤◌}
use Rattle.phrase_code.specs.Marks.{marks, actuals_marks}
use Rattle.code_simulation.specs.Room.{Fits}

module _ (set : Setting) (program : Code) where
  module _ (later : Job → M Bodied state.Given) (hl : LaterFollows set program later) (clean : (job : Job) (s : State Bodied) → IsClean job (later job s)) where
    -- a copied actual is called: a statement or an expression has no formals
    thunk_called : (at : Place) (compares : Bool) (p : Place) (given : Actuals) (w : World) (b : Base) (h : Heap) (s : State Bodied) (c : Context) (e : Env) (k : ℕ) (held : Content) (name : Stand) (t : Thunk) (m : Mark) (a : Phrase) (ctx : Context) (f : Env) → source_of c name ≡ from_entry (links c name) name.position → HasEntry b name c.level b.current (fixed (machine.a_thunk t)) → HasText program.instructions t m a ctx → Shows program.instructions w b s.arrays f ctx.names ctx.level t.link → marks a ≤ w.marks → IsUnderWay b.frames t.link →
        HasAt program.instructions k (through_code c at compares p k given name (λ l. code_texts c at l given)) → At program.instructions w b h s c e → Fits program.marks w b (actuals_marks given) →
        Follows set program (Gives b s.active (end_of_call (known c) k given + 1)) w.targets h s (mach b h s k held) (after (no_actuals_given at given s) (λ z. copied set later for_value at m a f))
    thunk_called at compares p given w b h s c e k held name t m a ctx f es x tx sh fw lk code l ft =
        follows_from set program R w.targets h s h s (mach b h s k held) m0 (after (no_actuals_given at given s) (λ z. copied set later for_value at m a f)) over.0 (grew_here h s) (which given refl)
      where
        end : ℕ
        end = end_of_call (known c) k given

        R : state.Given → Heap → State Bodied → Machine → Type 0
        R = Gives b s.active (end + 1)

        kc : ℕ
        kc = k + texts_size (known c) given

        m0 : Machine
        m0 = mach b h s kc held

        tail : List Coded
        tail = one at (instr.Compare compares (source_of c name) (text_heads (known c) k given) end) ▸ prepares_code (known c) at (source_of c name) 0 k given ▸ one at (instr.CallThrough (source_of c name) p) ▸ place_backs_code (known c) at 0 k given ▸ one at instr.End

        over : Comes set program (mach b h s k held) m0 × HasAt program.instructions kc tail
        over = texts_over set program c at given b h s k held tail code

        h2 : HasAt program.instructions (kc + 1 + prepares_size given) (one at (instr.CallThrough (source_of c name) p) ▸ place_backs_code (known c) at 0 k given ▸ one at instr.End)
        h2 = has_back program.instructions (kc + 1) (prepares_size given) (prepares_code (known c) at (source_of c name) 0 k given) _ (prepares_sized (known c) at (source_of c name) 0 k given).by over.1.1

        h3 : HasAt program.instructions (kc + 1 + prepares_size given + 1 + place_backs_size given) (one at instr.End)
        h3 = has_back program.instructions (kc + 1 + prepares_size given + 1) (place_backs_size given) (place_backs_code (known c) at 0 k given) _ (place_backs_sized (known c) at 0 k given).by h2.1

        ends : slice_get program.instructions end ≡ Some (record { at = at; does = instr.End })
        ends = subst (λ n. slice_get program.instructions n ≡ Some (record { at = at; does = instr.End })) (omega arith) h3.0

        i0 : List ℕ → Coded
        i0 heads = record { at = at; does = instr.Compare compares (source_of c name) heads end }

        row : (heads : List ℕ) → does set program at (instr.Compare compares (source_of c name) heads end) m0 ≡ use_without set program.marks end heads t m0
        row heads = ap (λ z. doing.after (doing.source_out z m0) (compare set program at compares heads end)) es
            ∙ ap (λ r. doing.after r (compare set program at compares heads end)) (content_is b h s kc held c name (fixed (machine.a_thunk t)) x)

        which : (g : Actuals) → g ≡ given → Follows set program R w.targets h s m0 (after (no_actuals_given at g s) (λ z. copied set later for_value at m a f))
        which no_actuals q = copied_follows set program later hl for_value w b h s kc held m0 (i0 (text_heads (known c) k given)) end t m a ctx f l.agrees tx sh fw lk ft over.1.0 (row (text_heads (known c) k given) ∙ ap (λ g. use_without set program.marks end (text_heads (known c) k g) t m0) (sym q)) ends
        which (actual_and g rest) q = fault_here set program R w.targets h s m0 (i0 (text_heads (known c) k given)) fault.ActualsDoNotFit b kc held over.1.0 (row (text_heads (known c) k given) ∙ ap (λ g. use_without set program.marks end (text_heads (known c) k g) t m0) (sym q)) l.agrees.listed l.agrees.settled

    -- a procedure is called through whatever stands for it, up to its end as the size of the call tells it
    through_called : (at : Place) (compares : Bool) (p : Place) (given : Actuals) → EachActual set program later given → (w : World) (b : Base) (h : Heap) (s : State Bodied) (c : Context) (e : Env) (k v : ℕ) (held : Content) (name : Stand) (q : LiveProcedure) → Has q w.procedures → v ≡ q.number → StandsFor b name c.level b.current q →
        HasAt program.instructions k (through_code c at compares p k given name (λ l. code_texts c at l given)) → At program.instructions w b h s c e → Fits program.marks w b (actuals_marks given) →
        Follows set program (Gives b s.active (k + (texts_size (known c) given + (1 + (prepares_size given + (1 + (place_backs_size given + 1))))))) w.targets h s (mach b h s k held) (invoked set later at compares p (Some (to_procedure v)) given e (λ fs. go_actuals set later given at fs e) (λ fs bs. go_back set later given at fs bs e) s)
    through_called at compares p given gw w b h s c e k v held name q has_q en st code l ft =
        ends_at set program b s.active (end_of_call (known c) k given + 1) _ w.targets h s (mach b h s k held) (invoked set later at compares p (Some (to_procedure v)) given e (λ fs. go_actuals set later given at fs e) (λ fs bs. go_back set later given at fs bs e) s) (omega arith)
        (through_follows set program later hl clean given gw at compares p w b h s c e k v held name q has_q en st code l ft)

    -- what a call's kind makes of it
    call_by : (at : Place) (compares : Bool) (p : Place) (given : Actuals) → EachActual set program later given → (w : World) (b : Base) (h : Heap) (s : State Bodied) (c : Context) (e : Env) (k : ℕ) (held : Content) (ot : Option Thing) (os : Option Stand) → Found program.instructions w b s.arrays c.level b.current ot os →
        HasAt program.instructions k (call_code c at compares p k given (call_kind compares (kind_of_stand os)) os (λ formals. code_actuals c at k given formals) (λ formals. code_backs (with_entries (1 + length formals) c) at (k + actuals_size (known c) given formals + 1) 0 k given formals) (λ l. code_texts c at l given)) → At program.instructions w b h s c e → Fits program.marks w b (actuals_marks given) →
        Follows set program (Gives b s.active (k + call_size (call_kind compares (kind_of_stand os)) (λ formals. actuals_size (known c) given formals) (λ formals. backs_size (known c) given formals) (texts_size (known c) given) given)) w.targets h s (mach b h s k held) (invoked set later at compares p ot given e (λ fs. go_actuals set later given at fs e) (λ fs bs. go_back set later given at fs bs e) s)
    call_by at compares p given gw w b h s c e k held None os f code l ft = tt
    call_by at compares p given gw w b h s c e k held (Some (to_constant v)) os f code l ft = tt
    call_by at compares p given gw w b h s c e k held (Some (to_variable v)) os f code l ft = tt
    call_by at compares p given gw w b h s c e k held (Some (to_array v i)) os f code l ft = tt
    call_by at compares p given gw w b h s c e k held (Some (to_label v)) os f code l ft = tt
    call_by at compares p given gw w b h s c e k held (Some (to_procedure v)) None f code l ft = absurd f
    call_by at false p given gw w b h s c e k held (Some (to_procedure v)) (Some name) (inl f) code l ft = declared_call set program later hl clean given gw at p w b h s c e k v held name f code l ft
    call_by at true p given gw w b h s c e k held (Some (to_procedure v)) (Some name) (inl f) code l ft =
        subst Goal (sym f.kind) (through_called at true p given gw w b h s c e k v held name f.procedure f.has f.number (stands_declared w b v name c.level b.current f) (subst Code f.kind code) l ft)
      where
        Code : Kind → Type 0
        Code κ = HasAt program.instructions k (call_code c at true p k given (call_kind true (Some κ)) (Some name) (λ formals. code_actuals c at k given formals) (λ formals. code_backs (with_entries (1 + length formals) c) at (k + actuals_size (known c) given formals + 1) 0 k given formals) (λ l. code_texts c at l given))

        Goal : Kind → Type 0
        Goal κ = Follows set program (Gives b s.active (k + call_size (call_kind true (Some κ)) (λ formals. actuals_size (known c) given formals) (λ formals. backs_size (known c) given formals) (texts_size (known c) given) given)) w.targets h s (mach b h s k held) (invoked set later at true p (Some (to_procedure v)) given e (λ fs. go_actuals set later given at fs e) (λ fs bs. go_back set later given at fs bs e) s)
    call_by at compares p given gw w b h s c e k held (Some (to_procedure v)) (Some name) (inr f) code l ft =
        subst Goal (sym f.kind) (by compares (subst Code f.kind code))
      where
        Code : Kind → Type 0
        Code κ = HasAt program.instructions k (call_code c at compares p k given (call_kind compares (Some κ)) (Some name) (λ formals. code_actuals c at k given formals) (λ formals. code_backs (with_entries (1 + length formals) c) at (k + actuals_size (known c) given formals + 1) 0 k given formals) (λ l. code_texts c at l given))

        GoalAt : Bool → Kind → Type 0
        GoalAt t κ = Follows set program (Gives b s.active (k + call_size (call_kind t (Some κ)) (λ formals. actuals_size (known c) given formals) (λ formals. backs_size (known c) given formals) (texts_size (known c) given) given)) w.targets h s (mach b h s k held) (invoked set later at t p (Some (to_procedure v)) given e (λ fs. go_actuals set later given at fs e) (λ fs bs. go_back set later given at fs bs e) s)

        Goal : Kind → Type 0
        Goal κ = GoalAt compares κ

        by : (t : Bool) → HasAt program.instructions k (call_code c at t p k given (call_kind t (Some a_procedure_formal)) (Some name) (λ formals. code_actuals c at k given formals) (λ formals. code_backs (with_entries (1 + length formals) c) at (k + actuals_size (known c) given formals + 1) 0 k given formals) (λ l. code_texts c at l given)) → GoalAt t a_procedure_formal
        by true has = through_called at true p given gw w b h s c e k v held name f.procedure f.has f.number (stands_handed w b v name c.level b.current f) has l ft
        by false has = through_called at false p given gw w b h s c e k v held name f.procedure f.has f.number (stands_handed w b v name c.level b.current f) has l ft
    call_by at compares p given gw w b h s c e k held (Some (thunk m a env)) None f code l ft = absurd f
    call_by at compares p given gw w b h s c e k held (Some (thunk m a env)) (Some name) f code l ft = either f.0
      where
        Code : Kind → Type 0
        Code κ = HasAt program.instructions k (call_code c at compares p k given (call_kind compares (Some κ)) (Some name) (λ formals. code_actuals c at k given formals) (λ formals. code_backs (with_entries (1 + length formals) c) at (k + actuals_size (known c) given formals + 1) 0 k given formals) (λ l. code_texts c at l given))

        Goal : Kind → Type 0
        Goal κ = Follows set program (Gives b s.active (k + call_size (call_kind compares (Some κ)) (λ formals. actuals_size (known c) given formals) (λ formals. backs_size (known c) given formals) (texts_size (known c) given) given)) w.targets h s (mach b h s k held) (after (no_actuals_given at given s) (λ z. copied set later for_value at m a env))

        called : source_of c name ≡ from_entry (links c name) name.position → HasAt program.instructions k (through_code c at compares p k given name (λ l. code_texts c at l given)) → Follows set program (Gives b s.active (k + (texts_size (known c) given + (1 + (prepares_size given + (1 + (place_backs_size given + 1))))))) w.targets h s (mach b h s k held) (after (no_actuals_given at given s) (λ z. copied set later for_value at m a env))
        called es has = ends_at set program b s.active (end_of_call (known c) k given + 1) _ w.targets h s (mach b h s k held) (after (no_actuals_given at given s) (λ z. copied set later for_value at m a env)) (omega arith)
            (thunk_called at compares p given w b h s c e k held name f.1 m a f.3 env es f.2 f.4 f.5 f.6 f.7 has l ft)

        by_kind : CallKind → Type 0
        by_kind z = HasAt program.instructions k (call_code c at compares p k given z (Some name) (λ formals. code_actuals c at k given formals) (λ formals. code_backs (with_entries (1 + length formals) c) at (k + actuals_size (known c) given formals + 1) 0 k given formals) (λ l. code_texts c at l given))

        goal_by : CallKind → Type 0
        goal_by z = Follows set program (Gives b s.active (k + call_size z (λ formals. actuals_size (known c) given formals) (λ formals. backs_size (known c) given formals) (texts_size (known c) given) given)) w.targets h s (mach b h s k held) (after (no_actuals_given at given s) (λ z. copied set later for_value at m a env))

        of_kind : (κ : Kind) → call_kind compares (Some κ) ≡ through → source_of c name ≡ from_entry (links c name) name.position → Code κ → Goal κ
        of_kind κ q es has = subst goal_by (sym q) (called es (subst by_kind q has))

        either : ((name.kind ≡ a_name_formal) ⊎ (name.kind ≡ a_procedure_formal)) → Goal name.kind
        either (inl z) = of_kind name.kind (ap (λ κ. call_kind compares (Some κ)) z ∙ by_name compares) (ap (λ κ. source_by κ (links c name) name) z) code
          where
            by_name : (t : Bool) → call_kind t (Some a_name_formal) ≡ through
            by_name true = refl
            by_name false = refl
        either (inr z) = of_kind name.kind (ap (λ κ. call_kind compares (Some κ)) z ∙ by_procedure compares) (ap (λ κ. source_by κ (links c name) name) z) code
          where
            by_procedure : (t : Bool) → call_kind t (Some a_procedure_formal) ≡ through
            by_procedure true = refl
            by_procedure false = refl

    given_follows : (st : Option Place) (compares : Bool) (p x : Place) (given : Actuals) → EachActual set program later given → PhraseFollows set program later (Call st compares p (Named x) given)
    given_follows st compares p x given gw = record { by = by }
      where
        by : (u : Use) (at : Place) → CodeDoes set program u at (Call st compares p (Named x) given) (go set later (Call st compares p (Named x) given) u at)
        by for_place at w b h s c e mode k held code wanted l ft = tt
        by for_value at w b h s c e mode k held code wanted l ft =
            let s0 = begun_state st s in
            let k0 = k + begin_size st in
            let os = stand_at c.names x in
            let l0 = at_begun set program st w b h s c e l in
            let end = k0 + call_size (call_kind compares (kind_of_stand os)) (λ formals. actuals_size (known c) given formals) (λ formals. backs_size (known c) given formals) (texts_size (known c) given) given in
            let same = ap (λ z. call_size (call_kind compares z) (λ formals. actuals_size (known c) given formals) (λ formals. backs_size (known c) given formals) (texts_size (known c) given) given) (head_found c (Named x)) in
            ends_at set program b s.active end (k + size (known c) (Call st compares p (Named x) given)) w.targets h s (mach b h s k held) (go set later (Call st compares p (Named x) given) for_value at e s) (omega (arith, same))
            (begin_then set program (Gives b s.active end) w.targets st w b h s k held _ _ code l.agrees (λ has.
            gives_as set program b s0.active s.active end w.targets h s0 (mach b h s0 k0 held) _ (active_begun set program st s)
            (call_by (innermost at st) compares p given gw w b h s0 c e k0 held (find e x) os (found program.instructions w b s0.arrays c.level b.current e c.names x l0.shows) has l0 ft)))

    -- a name alone is called without actuals
    bare_follows : BareDoes set program later
    bare_follows p x = given_follows None true p x no_actuals actuals_none

    pub call_follows : (st : Option Place) (compares : Bool) (p x : Place) (given : Actuals) → EachPhrase set program later given → PhraseFollows set program later (Call st compares p (Named x) given)
    call_follows st compares p x given gw = given_follows st compares p x given (each_actual set program later bare_follows given gw)
