-- The names of a block stand for what its context says.
use Rattle.std.proofs.Common.{◌≡◌, ℕ, suc, ◌+◌, ◌-◌, ◌≤◌, ◌⊎◌, inl, inr, List, [], ◌∷◌, ◌++◌, length, Option, Some, refl, sym, ap, ◌∙◌, subst, arith}
use Rattle.std.specs.Prelude.{slice_get}
use Rattle.value_ops.specs.declared.places.Place.{Place}
use Rattle.algolw_typing.specs.Types.{ValueType}
use Rattle.program_meaning.specs.Phrases.{Phrase, Name, Formal, Decls, no_decls, variables_and, arrays_and, procedure_and, Items, no_items, item_and, label_places}
use Rattle.program_meaning.specs.State.{State, ArrayInfo, Made}
use Rattle.program_meaning.specs.Copying.{dimensions, free}
use Rattle.program_meaning.specs.Environments.{Env, to_variable, to_array, Bodied, Meant, extend, numbered, label_things, decl_things, bodied_procedures}
use Rattle.stack_code.specs.Instr as instr
use Rattle.stack_code.specs.Instr.{the_value}
use Rattle.stack_code.specs.Code.{Coded}
use Rattle.stack_code.specs.Machine as machine
use Rattle.stack_code.specs.Machine.{Entry, on_top_of}
use Rattle.stack_code.specs.Doing.{outwards, start_at}
use Rattle.phrase_code.specs.Sizes.{Known, a_variable, an_array, size, decls_size, bounds_size, text_size, result_size, formals_known}
use Rattle.phrase_code.specs.Coding.{◌▸◌, one, Stand, Context, known, with_entries, name_stands, label_stands, item_stands, decl_stands, body_context, code, result_code, code_decls, declare_code, declare_arrays_code, code_bounds}
use Rattle.code_simulation.specs.Written.{DeclsWritten}
use Rattle.code_simulation.specs.Relation.{HasAt, Has, Slot, variable, fixed, Base, World, LiveProcedure, Target, HasEntry, IsUnderWay, Shows, Lives, label_targets, item_targets}
use Rattle.code_simulation.specs.Declared.{VariablesAt, ArraysAt, DeclsAt, own_procedures}
use Rattle.code_simulation.proofs.Stacks.{has_front, has_back}
use Rattle.code_simulation.proofs.Sizes.{code_sized, result_sized, known_formals, declare_sized, declare_arrays_sized, bounds_sized}
use Rattle.phrase_code.specs.Marks.{marks, decls_marks, bounds_marks}
use Rattle.std.proofs.Math.Nat.{le-max_left, le-max_right}

-- ---- code in a row, otherwise

pub joined_code : (a b c : List Coded) → (a ▸ b) ▸ c ≡ a ▸ (b ▸ c)
joined_code [] b c = refl
joined_code (i ∷ a) b c = ap (λ l. i ∷ l) (joined_code a b c)

pub has_joined : (program : List Coded) (k : ℕ) (a b c : List Coded) → HasAt program k ((a ▸ b) ▸ c) → HasAt program k (a ▸ (b ▸ c))
has_joined program k a b c = subst (HasAt program k) (joined_code a b c)

-- the code behind a procedure's, and its parts
pub record ProcedureCode (program : List Coded) (at : Place) (k : ℕ) (inside : Context) (x : Name) (result : Option ValueType) (formals : List Formal) (body : Phrase) (more : List Coded) : Type 0 where
  pub behind : ℕ
  pub behind_is : behind ≡ k + text_size (size (known (body_context inside formals)) body + result_size result)
  pub head : slice_get program k ≡ Some (record { at = at; does = instr.Procedure (record { name = x.text; result = result; formals = formals }) behind })
  pub body_has : HasAt program (k + 1) (code (body_context inside formals) at the_value (k + 1) body)
  pub result_has : HasAt program (k + 1 + size (known (body_context inside formals)) body) (result_code at result)
  pub back : slice_get program (k + 1 + size (known (body_context inside formals)) body + result_size result) ≡ Some (record { at = at; does = instr.Return })
  pub rest : HasAt program behind more

pub procedure_code : (program : List Coded) (at : Place) (k : ℕ) (inside : Context) (x : Name) (result : Option ValueType) (formals : List Formal) (body : Phrase) (after more : List Coded) →
    HasAt program k ((one at (instr.Procedure (record { name = x.text; result = result; formals = formals }) (k + text_size (size (known (body_context inside formals)) body + result_size result))) ▸ code (body_context inside formals) at the_value (k + 1) body ▸ result_code at result ▸ one at instr.Return ▸ after) ▸ more) →
    ProcedureCode program at k inside x result formals body (after ▸ more)
procedure_code program at k inside x result formals body after more h =
    let cb = code (body_context inside formals) at the_value (k + 1) body in
    let n = size (known (body_context inside formals)) body in
    let h1 = has_joined program (k + 1) cb (result_code at result ▸ one at instr.Return ▸ after) more h.1 in
    let h2 = has_joined program (k + 1 + n) (result_code at result) (one at instr.Return ▸ after) more (has_back program (k + 1) n cb _ (code_sized (body_context inside formals) at the_value (k + 1) body).by h1) in
    let h3 = has_back program (k + 1 + n) (result_size result) (result_code at result) _ (result_sized at result).by h2 in
    let e : k + 1 + n + result_size result + 1 ≡ k + text_size (n + result_size result) = omega arith in
    record { behind = k + text_size (n + result_size result); behind_is = refl; head = h.0; body_has = has_front program (k + 1) cb _ h1; result_has = has_front program (k + 1 + n) (result_code at result) _ h2; back = h3.0; rest = subst (λ i. HasAt program i (after ▸ more)) e h3.1 }

-- ---- names

module _ (program : List Coded) (w : World) (b : Base) (arrays : List (Option ArrayInfo)) (level : ℕ) (text : Option ℕ) (start : ℕ) (starts : start_at b.frames (Some text) ≡ Some start) where
  here_out : outwards b.frames text (level - level) ≡ Some text
  here_out = let e : level - level ≡ 0 = omega arith in ap (outwards b.frames text) e

  pub own_entry : (name : Stand) (entry : Entry) (cell : ℕ) (slot : Slot) → name.level ≡ level → on_top_of b.entries (start + name.position) ≡ Some entry → Rattle.stack_code.specs.Doing.cell_of (Some entry) ≡ Some cell → on_top_of b.slots cell ≡ Some slot → HasEntry b name level text slot
  own_entry name entry cell slot e p q r = record { out = omega (arith, e); start = start; starts = ap (start_at b.frames) (ap (λ l. outwards b.frames text (level - l)) e ∙ here_out) ∙ starts; entry = entry; stands = p; cell = cell; is = q; holds = r }

  shows_variables : (position v : ℕ) (xs : List Name) (bs : List Meant) (e : Env) (names : List Stand) → VariablesAt b start position v xs → Shows program w b arrays (extend bs e) names level text → Shows program w b arrays (extend (numbered to_variable v xs bs) e) (name_stands a_variable level position xs names) level text
  shows_variables position v [] bs e names x s = s
  shows_variables position v (y ∷ xs) bs e names x s = let z = x.0 in (refl, (refl, own_entry _ (machine.a_name y.text z.0) z.0 (variable v) refl z.1 refl z.2), shows_variables (position + 1) (v + 1) xs bs e names x.1 s)

  shows_arrays : (position k d : ℕ) (xs : List Name) (bs : List Meant) (e : Env) (names : List Stand) → ArraysAt b arrays start position k d xs → Shows program w b arrays (extend bs e) names level text → Shows program w b arrays (extend (numbered (λ i. to_array i (free d)) k xs bs) e) (name_stands an_array level position xs names) level text
  shows_arrays position k d [] bs e names x s = s
  shows_arrays position k d (y ∷ xs) bs e names x s = let z = x.0 in (refl, (refl, z.2, own_entry _ (machine.a_name y.text z.0) z.0 (fixed (machine.an_array z.2 (free d))) refl z.1 refl z.3, z.4), shows_arrays (position + 1) (k + 1) d xs bs e names x.1 s)

  pub shows_decls : (outside inside : List Known) (c : Context) (position v a p k : ℕ) (decls : Decls) (more : List LiveProcedure) (bs : List Meant) (e : Env) (names : List Stand) → DeclsAt b arrays start position v a decls → ((q : LiveProcedure) → Has q (own_procedures outside inside c text p k decls more) → Has q w.procedures) → Shows program w b arrays (extend bs e) names level text →
      Shows program w b arrays (extend (decl_things v a p decls bs) e) (decl_stands outside inside level position k decls names) level text
  shows_decls outside inside c position v a p k no_decls more bs e names x f s = s
  shows_decls outside inside c position v a p k (variables_and xs rest) more bs e names x f s = shows_variables position v xs _ e _ x.0 (shows_decls outside inside c (position + length xs) (v + length xs) a p (k + length xs) rest more bs e names x.1 f s)
  shows_decls outside inside c position v a p k (arrays_and t xs pairs rest) more bs e names x f s = shows_arrays position a (dimensions pairs) xs _ e _ x.0 (shows_decls outside inside c (position + length xs) v (a + length xs) p (k + (bounds_size outside pairs + (1 + length xs))) rest more bs e names x.1 f s)
  shows_decls outside inside c position v a p k (procedure_and y result formals body rest) more bs e names x f s = (
    refl,
    inl (record { procedure = record { number = p; head = k; link = text; context = c; formals = formals }; has = f _ (inl refl); number = refl; kind = refl; head = refl; out = omega arith; text_is = here_out }),
    shows_decls outside inside c position v a (p + 1) (k + decls_size outside inside (procedure_and y result formals body no_decls)) rest more bs e names x (λ q i. f q (inr i)) s,
  )

  -- the labels of a block, at whose mark everything is as its target says
  module _ (made : Made) (mark : ℕ) (current : b.current ≡ text) (cut : start + mark + 1 ≡ length b.entries) (marked : on_top_of b.entries (start + mark) ≡ Some (machine.declared (length b.slots) made.depth (length b.frames))) where
    shows_labels : (l k : ℕ) (labels more : List Place) (ts : List Target) (e : Env) (names : List Stand) → ((t : Target) → Has t (label_targets made b l k labels ts) → Has t w.targets) → Shows program w b arrays (extend (label_things (l + length labels) more) e) names level text →
        Shows program w b arrays (extend (label_things l (labels ++ more)) e) (label_stands level mark k labels names) level text
    shows_labels l k [] more ts e names f s = let q : l + 0 ≡ l = omega arith in subst (λ i. Shows program w b arrays (extend (label_things i more) e) names level text) q s
    shows_labels l k (x ∷ labels) more ts e names f s =
        let q : l + suc (length labels) ≡ l + 1 + length labels = omega arith in (
          refl,
          (refl, record { target = record { number = l; made = made; base = b; item = k }; has = f _ (inl refl); number = refl; item = refl; out = omega arith; text_is = here_out ∙ ap (λ t. Some t) (sym current); start = start; starts = ap (λ t. start_at b.frames (Some t)) current ∙ starts; cut = cut; mark = marked }),
          shows_labels (l + 1) k labels more ts e names (λ t i. f t (inr i)) (subst (λ i. Shows program w b arrays (extend (label_things i more) e) names level text) q s),
        )

    pub shows_items : (inside : List Known) (l k : ℕ) (items : Items) (ts : List Target) (e : Env) (names : List Stand) → ((t : Target) → Has t (item_targets inside made b l k items ts) → Has t w.targets) → Shows program w b arrays e names level text →
        Shows program w b arrays (extend (label_things l (label_places items)) e) (item_stands inside level mark k items names) level text
    shows_items inside l k no_items ts e names f s = s
    shows_items inside l k (item_and labels a rest) ts e names f s = shows_labels l k labels (label_places rest) (item_targets inside made b (l + length labels) (k + size inside a) rest ts) e _ f
        (shows_items inside (l + length labels) (k + size inside a) rest ts e names (λ t i. f t (past l labels t i)) s)
      where
        past : (i : ℕ) (labels : List Place) (t : Target) → Has t (item_targets inside made b (l + length labels) (k + size inside a) rest ts) → Has t (label_targets made b i k labels (item_targets inside made b (l + length labels) (k + size inside a) rest ts))
        past i labels t x = go i labels (item_targets inside made b (l + length labels) (k + size inside a) rest ts) x
          where
            go : (i : ℕ) (ls : List Place) (us : List Target) → Has t us → Has t (label_targets made b i k ls us)
            go i [] us x = x
            go i (y ∷ ls) us x = inr (go (i + 1) ls us x)

-- ---- procedures of a block may be called

pub live_own : (program : List Coded) (w : World) (b : Base) (s : State Bodied) (outside inside : Context) (link : Option ℕ) (at : Place) (env : Env) (p k : ℕ) (decls : Decls) (more : List LiveProcedure) (rest : List Coded) → DeclsWritten decls → decls_marks decls ≤ w.marks → HasAt program k (code_decls outside inside at k decls ▸ rest) →
    ((j : ℕ) (x : Bodied) → slice_get (bodied_procedures at env decls) j ≡ Some x → slice_get s.procedures (p + j) ≡ Some x) → Shows program w b s.arrays env inside.names inside.level link → IsUnderWay b.frames link → (q : LiveProcedure) → Has q (own_procedures (known outside) (known inside) inside link p k decls more) → Lives program w b s q ⊎ Has q more
live_own program w b s outside inside link at env p k no_decls more rest dw few h f sh lk q i = inr i
live_own program w b s outside inside link at env p k (variables_and xs decls) more rest dw few h f sh lk q i =
    live_own program w b s (with_entries (length xs) outside) inside link at env p (k + length xs) decls more rest dw few (has_back program k (length xs) (declare_code at xs) _ (declare_sized at xs).by (has_joined program k (declare_code at xs) _ rest h)) f sh lk q i
live_own program w b s outside inside link at env p k (arrays_and t xs pairs decls) more rest dw few h f sh lk q i =
    let cd = code_decls (with_entries (length xs) outside) inside at (k + (bounds_size (known outside) pairs + (1 + length xs))) decls in
    let n = bounds_size (known outside) pairs in
    let h1 = has_back program k n (code_bounds outside at k pairs) _ (bounds_sized outside at k pairs).by (has_joined program k (code_bounds outside at k pairs) _ rest h) in
    let h2 = has_back program (k + n + 1) (length xs) (declare_arrays_code at t xs) _ (declare_arrays_sized at t xs).by (has_joined program (k + n + 1) (declare_arrays_code at t xs) cd rest h1.1) in
    let e : k + n + 1 + length xs ≡ k + (n + (1 + length xs)) = omega arith in
    live_own program w b s (with_entries (length xs) outside) inside link at env p (k + (n + (1 + length xs))) decls more rest dw.1 (let m = le-max_right (bounds_marks pairs) (decls_marks decls) in omega (arith, m, few)) (subst (λ j. HasAt program j (cd ▸ rest)) e h2) f sh lk q i
live_own program w b s outside inside link at env p k (procedure_and x result formals body decls) more rest dw few h f sh lk q (inl i) =
    let pc = procedure_code program at k inside x result formals body _ rest h in
    let z : p + 0 ≡ p = omega arith in
    inl (subst (Lives program w b s) (sym i) (record {
      bodied = record { name = x.text; result = result; formals = formals; body = body; statement = at; env = env };
      is = subst (λ j. slice_get s.procedures j ≡ Some (record { name = x.text; result = result; formals = formals; body = body; statement = at; env = env })) z (f 0 _ refl);
      formals = refl;
      written = dw.0;
      few = (let m = le-max_left (marks body) (decls_marks decls) in omega (arith, m, few));
      behind = pc.behind;
      head = pc.head;
      body = pc.body_has;
      result = pc.result_has;
      back = pc.back;
      shows = sh;
      under_way = lk;
    }))
live_own program w b s outside inside link at env p k (procedure_and x result formals body decls) more rest dw few h f sh lk q (inr i) =
    let pc = procedure_code program at k inside x result formals body _ rest h in
    let ef : size (known (body_context inside formals)) body ≡ size (formals_known formals (known inside)) body = ap (λ l. size l body) (known_formals (inside.level + 1) 1 formals inside.names) in
    let e : k + decls_size (known outside) (known inside) (procedure_and x result formals body no_decls) ≡ k + text_size (size (known (body_context inside formals)) body + result_size result) = omega (arith, ef) in
    live_own program w b s outside inside link at env (p + 1) (k + text_size (size (known (body_context inside formals)) body + result_size result)) decls more rest dw.1 (let m = le-max_right (marks body) (decls_marks decls) in omega (arith, m, few)) (subst (λ j. HasAt program j (code_decls outside inside at (k + text_size (size (known (body_context inside formals)) body + result_size result)) decls ▸ rest)) pc.behind_is pc.rest)
    (λ j y g. let z : p + suc j ≡ p + 1 + j = omega arith in subst (λ l. slice_get s.procedures l ≡ Some y) z (f (suc j) y g)) sh lk q (subst (λ j. Has q (own_procedures (known outside) (known inside) inside link (p + 1) j decls more)) e i)
