-- The code of each phrase is fit.
use Rattle.std.proofs.Common.{◌≡◌, ℕ, suc, ◌+◌, length-append, append_assoc, ◌≤◌, List, [], ◌∷◌, length, Option, Some, None, refl, sym, ap, ◌∙◌, subst, arith}
use Rattle.std.proofs.lemmas.Option.{slice_get_within}
use Rattle.std.specs.Prelude.{slice_get, ◌++◌, Bool, false}
use Rattle.value_ops.specs.declared.places.Place.{Place}
use Rattle.algolw_typing.specs.Types.{ValueType, Gives}
use Rattle.algolw_typing.specs.Meanings.{FormalType, by_name, by_value, by_result, by_value_result, for_array, for_procedure}
use Rattle.program_meaning.specs.Phrases.{Phrase, Empty, Constant, Named, Variable, Array, Label, Procedure, Copied, Unary, Binary, Relation, IsClass, Element, Field, Part, Record, RecordAlone, IfThen, Case, Block, Call, Assign, WhileDo, ForStep, ForList, Goto, Assert, Write, Read, ReadCard, IoControl, Phrases, no_phrases, phrase_and, Targets, no_targets, target_and, Subscripts, no_subscripts, star_and, subscript_and, Actuals, no_actuals, actual_and, Actual, Given, Alone, Subarray, Items, no_items, item_and, Bounds, no_bounds, bound_and, Decls, no_decls, variables_and, arrays_and, procedure_and, Name, Formal, Role, placed, sets}
use Rattle.program_meaning.specs.State.{innermost}
use Rattle.program_meaning.specs.Copying.{dimensions, free_of}
use Rattle.stack_code.specs.Instr as instr
use Rattle.stack_code.specs.Instr.{Instr, Mode, the_value, the_place, as_asked}
use Rattle.stack_code.specs.Code.{Coded}
use Rattle.stack_code.specs.GoingOn.{Stands, WellFormedAt, WellFormed, ends_behind}
use Rattle.stack_code.specs.Run.{nowhere}
use Rattle.phrase_code.specs.Sizes.{formals_known, block_known, head_kind, begin_size, result_size, text_size, bare_call_size, named_size, goto_size, size, each_size, fields_size, jumps_size, parts_size, list_size, writes_size, targets_size, items_size, bounds_size, decls_size, subscripts_size, actuals_size, actual_size, backs_size, back_of_size, texts_size, text_of_size}
use Rattle.phrase_code.specs.Coding.{◌▸◌, one, Context, known, with_entries, inner_text, block_context, body_context, turn_context, stand_of, stand_at, begin_code, phrase_count, stars_of, code, code_each, code_fields, code_parts, code_list, code_writes, code_reads, code_cards, code_items, code_bounds, code_decls, code_subscripts, code_actuals, code_actual, code_backs, code_back, code_texts, code_text, outermost, program_code, entry_count}
use Rattle.phrase_code.proofs.Sizes.{length_code, known_formals, known_block, kind_found, head_found, begin_sized, code_sized, actual_sized, backs_sized}
use Rattle.phrase_code.proofs.Parts as parts
use Rattle.phrase_code.proofs.Parts.{Written, front, rest, Piece, wider, both, none, then, from, to, resized, within, knowing, single, plain, next, stuck, ahead, fit_aside}
use Rattle.phrase_code.proofs.Targets.{AllLead, leads, name_reads, subarray_reads, formals_lead, items_lead, decls_lead}
use Rattle.phrase_code.proofs.Pieces.{begin_part, make_part, result_part, named_part, element_part, goto_part, declare_part, declare_arrays_part, subarray_part, jumps_part, as_many, text_part, given_part, alone_part, EntersBack, back_part}
use Rattle.phrase_code.proofs.CallPieces.{later, call_part, bare_part}

module _ (program : List Coded) where
  -- code of so many instructions from k on
  abbrev Whole : (k : ℕ) (a : List Coded) (n : ℕ) → Type 0
  Whole k a n = parts.Part program (k + n) k a (k + n)

  -- two parts, the first of which is pushed, and an instruction on them
  two : (w : Place) (k m n : ℕ) (a b : List Coded) (i : Instr) → ends_behind i ≡ None → ((j : ℕ) → Stands program (j + 1) → WellFormedAt program j i) → Whole k a m → Whole (k + (m + 1)) b n → Whole k (a ▸ one w instr.Push ▸ b ▸ one w i) (m + (1 + (n + 1)))
  two w k m n a b i none g p q = to (omega arith) (then (within (omega arith) p) (then (next w instr.Push refl (λ s. s) (omega arith)) (from {m = k + (m + 1)} (omega arith) (then (within (omega arith) q) (next w i none (g (k + (m + 1) + n)) (omega arith))))))

  for_step : (c : Context) (st : Place) (k : ℕ) (x : Name) (a b d body : Phrase) → Whole (k + 1) (code c st the_value (k + 1) a) (size (known c) a) → Whole (k + 2 + size (known c) a) (code c st the_value (k + 2 + size (known c) a) b) (size (known c) b) →
      Whole (k + 3 + size (known c) a + size (known c) b) (code c st the_value (k + 3 + size (known c) a + size (known c) b) d) (size (known c) d) →
      Whole (k + 6 + size (known c) a + size (known c) b + size (known c) d) (code (turn_context c x) st the_value (k + 6 + size (known c) a + size (known c) b + size (known c) d) body) (size (known (turn_context c x)) body) →
      Whole k (code c st the_value k (ForStep st x a b d body)) (size (known c) (ForStep st x a b d body))
  for_step c st k x a b d body pa pb pd p =
      let na = size (known c) a in
      let nb = size (known c) b in
      let nd = size (known c) d in
      let n = size (known (turn_context c x)) body in
      to (omega arith) (then (next st instr.Begin refl (λ s. s) (omega arith)) (then (within (omega arith) pa) (then (next st instr.Push refl (λ s. s) (omega arith))
      (from {m = k + 2 + na} (omega arith) (then (within (omega arith) pb) (then (next st instr.Push refl (λ s. s) (omega arith))
      (from {m = k + 3 + na + nb} (omega arith) (then (within (omega arith) pd) (then (next st instr.Push refl (λ s. s) (omega arith))
      (then (plain st (instr.FirstTurn (k + 7 + na + nb + nd + n)) refl (λ t. ahead (omega arith) (omega arith) t)) (then (next st (instr.Turn x.text) refl (λ s. s) (omega arith))
      (from {m = k + 6 + na + nb + nd} (omega arith) (then (within (omega arith) p)
      (plain st (instr.NextTurn (k + 5 + na + nb + nd) c.count) refl (λ t. (omega (arith, t), omega (arith, t)))))))))))))))))

  -- a block, where it is known what stands there
  block : (c : Context) (w : Place) (u : Mode) (k : ℕ) (st : Option Place) (p : Place) (decls : Decls) (items : Items) → AllLead program c.names →
      (AllLead program (block_context c (k + begin_size st + 1) decls items).names → Whole (k + begin_size st + 1) (code_decls (with_entries 1 c) (block_context c (k + begin_size st + 1) decls items) (innermost w st) (k + begin_size st + 1) decls) (decls_size (known c) (known (block_context c (k + begin_size st + 1) decls items)) decls)) →
      (AllLead program (block_context c (k + begin_size st + 1) decls items).names → Whole (k + begin_size st + 2 + decls_size (known c) (block_known decls items (known c)) decls) (code_items (block_context c (k + begin_size st + 1) decls items) (innermost w st) (k + begin_size st + 2 + decls_size (known c) (block_known decls items (known c)) decls) items) (items_size (known (block_context c (k + begin_size st + 1) decls items)) items)) →
      Stands program (k + size (known c) (Block st p decls items)) → Written program k (code c w u k (Block st p decls items)) → Whole k (code c w u k (Block st p decls items)) (size (known c) (Block st p decls items))
  block c w u k st p decls items f pd pi t h =
      let v = innermost w st in
      let kd = k + begin_size st + 1 in
      let inner = block_context c kd decls items in
      let e = known_block c kd decls items in
      let eD : decls_size (known c) (known inner) decls ≡ decls_size (known c) (block_known decls items (known c)) decls = ap (λ l. decls_size (known c) l decls) e in
      let eI : items_size (known inner) items ≡ items_size (block_known decls items (known c)) items = ap (λ l. items_size l items) e in
      let b = (begin_sized st).by in
      let h1 = rest program k (k + begin_size st) (begin_code st) _ (omega (arith, b)) h in
      let h2 = front program kd (code_decls (with_entries 1 c) inner v kd decls) _ h1.1 in
      let fi : AllLead program inner.names = decls_lead program (with_entries 1 c) inner v kd c.level (c.count + 1) decls (block_known decls items (known c)) e _ h2
      (items_lead program (block_known decls items (known c)) c.level (c.count + 1 + entry_count decls) (kd + (decls_size (known c) (block_known decls items (known c)) decls + 1)) items c.names (omega (arith, t)) f) in
      let ki = k + begin_size st + 2 + decls_size (known c) (block_known decls items (known c)) decls in
      to (omega (arith, eD, eI)) (then (begin_part program st (omega arith)) (then (next v (instr.EnterBlock p) refl (λ s. s) (omega arith))
      (then (within (omega (arith, eD, eI)) (pd fi)) (then (next v instr.Declared refl (λ s. s) (omega (arith, eD, eI)))
      (from {m = ki} (omega (arith, eD)) (then (within (omega (arith, eD, eI)) (pi fi)) (next v (instr.LeaveBlock c.count) refl (λ s. s) (omega (arith, eD, eI)))))))))

  -- the text of an actual that is assigned back behind it
  enters_back : (c : Context) (w : Place) (k kr : ℕ) (v : Bool) (g : Gives) (first : Place) (a : Phrase) (x : FormalType) → Written program kr (code_actual c w kr (Given v g first a) x) → kr + actual_size (known c) (Given v g first a) x ≤ k → Piece program k kr k → EntersBack program x k kr
  enters_back c w k kr v g first a (by_value_result t) h l p = fit_aside program kr (kr + text_size (size (known c) a)) k (record { at = w; head = _; is = h.0 }) (omega (arith, l)) p
  enters_back c w k kr v g first a (by_value t) h l p = tt
  enters_back c w k kr v g first a (by_result t) h l p = tt
  enters_back c w k kr v g first a (by_name t) h l p = tt
  enters_back c w k kr v g first a (for_array t d) h l p = tt
  enters_back c w k kr v g first a (for_procedure t) h l p = tt

  mutual
    pub phrase : (c : Context) (w : Place) (u : Mode) (k : ℕ) (a : Phrase) → AllLead program c.names → Whole k (code c w u k a) (size (known c) a)
    phrase c w u k Empty f = next w instr.Nothing refl (λ s. s) (omega arith)
    phrase c w u k (Constant v) f = next w (instr.Constant v) refl (λ s. s) (omega arith)
    phrase c w u k (Named x) f = resized (ap named_size (sym (kind_found c.names x))) (named_part program c w u k (stand_at c.names x))
    phrase c w u k (Variable n) f = next w (instr.Standard u n) refl (λ s. s) (omega arith)
    phrase c w u k (Array n given) f = stuck w
    phrase c w u k (Label n) f = stuck w
    phrase c w u k (Procedure n) f = stuck w
    phrase c w u k (Copied mark a) f = stuck w
    phrase c w u k (Unary op a) f = to (omega arith) (then (within (omega arith) (phrase c w the_value k a f)) (next w (instr.Unary op) refl (λ s. s) (omega arith)))
    phrase c w u k (Binary op a b) f = two w k _ _ _ _ (instr.Binary op) refl (λ j s. s) (phrase c w the_value k a f) (phrase c w the_value (k + (size (known c) a + 1)) b f)
    phrase c w u k (Relation op a b) f = two w k _ _ _ _ (instr.Relation op) refl (λ j s. s) (phrase c w the_value k a f) (phrase c w the_value (k + (size (known c) a + 1)) b f)
    phrase c w u k (IsClass a class) f = to (omega arith) (then (within (omega arith) (phrase c w the_value k a f)) (next w (instr.IsClass class) refl (λ s. s) (omega arith)))
    phrase c w u k (Element a given) f = to (omega arith) (then (within (omega arith) (each c w k given f)) (element_part program c w u (phrase_count given) (stand_of c a) (omega arith)))
    phrase c w u k (Field class position a) f = to (omega arith) (then (within (omega arith) (phrase c w the_value k a f)) (next w (instr.Field u class position) refl (λ s. s) (omega arith)))
    phrase c w u k (Part m n a start) f = two w k _ _ _ _ (instr.Part m n) refl (λ j s. s) (phrase c w u k a f) (phrase c w the_value (k + (size (known c) a + 1)) start f)
    phrase c w u k (Record class types values) f = to (omega arith) (then (within (omega arith) (fields c w k types values f)) (next w (instr.MakeRecord class (phrase_count values)) refl (λ s. s) (omega arith)))
    phrase c w u k (RecordAlone class n) f = next w (instr.MakeRecordAlone class n) refl (λ s. s) (omega arith)
    phrase c w u k (IfThen st t a b d) f =
        let kb = k + begin_size st in
        let v = innermost w st in
        to (omega arith) (then (begin_part program st (omega arith)) (then (within (omega arith) (phrase c v the_value kb a f)) (then (plain v (instr.JumpUnless (kb + size (known c) a + size (known c) b + 2)) refl (λ t. ahead (omega arith) (omega arith) t))
        (then (within (omega arith) (phrase c v the_value (kb + size (known c) a + 1) b f)) (then (plain v (instr.Jump (kb + size (known c) a + size (known c) b + 2 + size (known c) d)) refl (λ t. ahead (omega arith) (omega arith) t))
        (from {m = kb + size (known c) a + size (known c) b + 2} (omega arith) (then (within (omega arith) (phrase c v the_value (kb + size (known c) a + size (known c) b + 2) d f)) (make_part program v t (omega arith)))))))))
    phrase c w u k (Case st t a ps) f =
        let v = innermost w st in
        let kj = k + begin_size st + size (known c) a + 1 in
        let kp = kj + jumps_size ps in
        let e = as_many program ps in
        to (omega arith) (then (begin_part program st (omega arith)) (then (within (omega arith) (phrase c v the_value (k + begin_size st) a f)) (then (plain v (instr.Choose (phrase_count ps)) refl (λ t. omega (arith, t, e)))
        (then (jumps_part program (known c) v kj kp ps (omega arith) (omega arith)) (then (parts_of c v kp (kp + parts_size (known c) ps) ps f (omega arith) (omega arith)) (make_part program v t (omega arith)))))))
    phrase c w u k (Block st p decls items) f = knowing (ap (λ n. k + n) (code_sized c w u k (Block st p decls items)).by) (λ t h.
        let inner = block_context c (k + begin_size st + 1) decls items in
        block c w u k st p decls items f (λ g. declarations (with_entries 1 c) inner (innermost w st) (k + begin_size st + 1) decls f g) (λ g. items_of inner (innermost w st) (k + begin_size st + 2 + decls_size (known c) (block_known decls items (known c)) decls) items g) t h)
    phrase c w u k (Call st compares p a given) f =
        let v = innermost w st in
        let kc = k + begin_size st in
        to (omega arith) (then (begin_part program st (omega arith)) (within (omega arith)
        (call_part program c v compares p kc given (head_kind (known c) a) (stand_of c a) (head_found c a) (leads program c a f) _ _ (λ fs. actuals_size (known c) given fs) (λ fs. backs_size (known c) given fs)
        (λ fs. actuals c v kc given fs f)
        (λ fs h q. backs c v (kc + actuals_size (known c) given fs + 1) 0 kc (1 + length fs) given fs f h (omega arith) q)
        (λ fs. (backs_sized (with_entries (1 + length fs) c) v (kc + actuals_size (known c) given fs + 1) 0 kc given fs).by)
        (texts c v kc given f))))
    phrase c w u k (Assign st t a b) f =
        let v = innermost w st in
        let kb = k + begin_size st in
        to (omega arith) (then (begin_part program st (omega arith)) (then (within (omega arith) (phrase c v the_place kb a f)) (then (next v instr.Push refl (λ s. s) (omega arith)) (then (within (omega arith) (phrase c v the_value (kb + size (known c) a + 1) b f)) (next v (instr.Assign t _) refl (λ s. s) (omega arith))))))
    phrase c w u k (WhileDo st a body) f =
        let kc = k + 2 + size (known c) body in
        to (omega arith) (then (next st instr.Begin refl (λ s. s) (omega arith)) (then (plain st (instr.Jump kc) refl (λ t. ahead (omega arith) (omega arith) t))
        (from {m = k + 2} (omega arith) (then (within (omega arith) (phrase c st the_value (k + 2) body f)) (then (within (omega arith) (phrase c st the_value kc a f)) (plain st (instr.Again (k + 2)) refl (λ t. (omega (arith, t), omega (arith, t)))))))))
    phrase c w u k (ForStep st x a b d body) f =
        for_step c st k x a b d body (phrase c st the_value (k + 1) a f) (phrase c st the_value (k + 2 + size (known c) a) b f) (phrase c st the_value (k + 3 + size (known c) a + size (known c) b) d f)
        (phrase (turn_context c x) st the_value (k + 6 + size (known c) a + size (known c) b + size (known c) d) body (tt, f))
    phrase c w u k (ForList st x values body) f =
        let n = size (known (turn_context c x)) body in
        to (omega arith) (then (next st instr.Begin refl (λ s. s) (omega arith)) (then (plain st (instr.Jump (k + 3 + n)) refl (λ t. ahead (omega arith) (omega arith) t))
        (from {m = k + 2} (omega arith) (then (within (omega arith) (phrase (turn_context c x) st the_value (k + 2) body (tt, f))) (then (plain st (instr.EndTurn c.count) refl (λ t. tt))
        (from {m = k + 3 + n} (omega arith) (then (within (omega arith) (list c st x (k + 2) (k + 3 + n) values f (omega arith))) (next st instr.Nothing refl (λ s. s) (omega arith)))))))))
    phrase c w u k (Goto st a) f = resized (ap goto_size (sym (head_found c a))) (goto_part program c st k (stand_of c a) (leads program c a f))
    phrase c w u k (Assert st a) f = to (omega arith) (then (next st instr.Begin refl (λ s. s) (omega arith)) (then (within (omega arith) (phrase c st the_value (k + 1) a f)) (next st instr.Assert refl (λ s. s) (omega arith))))
    phrase c w u k (Write st first roles values) f = to (omega arith) (then (next st instr.Begin refl (λ s. s) (omega arith)) (within (omega arith) (writes c st first None (k + 1) roles values f)))
    phrase c w u k (Read st first targets) f = to (omega arith) (then (next st instr.Begin refl (λ s. s) (omega arith)) (then (within (omega arith) (reads c st first (k + 1) targets f)) (next st instr.Nothing refl (λ s. s) (omega arith))))
    phrase c w u k (ReadCard st targets) f = to (omega arith) (then (next st instr.Begin refl (λ s. s) (omega arith)) (then (within (omega arith) (cards c st (k + 1) targets f)) (next st instr.Nothing refl (λ s. s) (omega arith))))
    phrase c w u k (IoControl st a) f = to (omega arith) (then (next st instr.Begin refl (λ s. s) (omega arith)) (then (within (omega arith) (phrase c st the_value (k + 1) a f)) (next st instr.IoControl refl (λ s. s) (omega arith))))

    each : (c : Context) (w : Place) (k : ℕ) (given : Phrases) → AllLead program c.names → Whole k (code_each c w k given) (each_size (known c) given)
    each c w k no_phrases f = to (omega arith) none
    each c w k (phrase_and a more) f = to (omega arith) (then (within (omega arith) (phrase c w the_value k a f)) (then (next w instr.Push refl (λ s. s) (omega arith)) (from (omega arith) (within (omega arith) (each c w (k + (size (known c) a + 1)) more f)))))

    fields : (c : Context) (w : Place) (k : ℕ) (types : List ValueType) (values : Phrases) → AllLead program c.names → Whole k (code_fields c w k types values) (fields_size (known c) values)
    fields c w k [] no_phrases f = to (omega arith) none
    fields c w k (t ∷ types) no_phrases f = to (omega arith) none
    fields c w k (t ∷ types) (phrase_and a more) f =
        to (omega arith) (then (within (omega arith) (phrase c w the_value k a f)) (then (next w (instr.Make t) refl (λ s. s) (omega arith)) (then (next w instr.Push refl (λ s. s) (omega arith)) (from (omega arith) (within (omega arith) (fields c w (k + (size (known c) a + 2)) types more f))))))
    fields c w k [] (phrase_and a more) f =
        to (omega arith) (then (within (omega arith) (phrase c w the_value k a f)) (then (stuck w) (then (stuck w) (from (omega arith) (within (omega arith) (fields c w (k + (size (known c) a + 2)) [] more f))))))

    -- the parts of a CASE, with jumps to its end
    parts_of : {top : ℕ} (c : Context) (w : Place) (k end : ℕ) (ps : Phrases) → AllLead program c.names → k + parts_size (known c) ps ≤ end → end ≤ top → parts.Part program top k (code_parts c w k end ps) (k + parts_size (known c) ps)
    parts_of c w k end no_phrases f l m = to (omega arith) none
    parts_of c w k end (phrase_and a more) f l m =
        to (omega arith) (then (within (omega (arith, l, m)) (phrase c w the_value k a f)) (then (plain w (instr.Jump end) refl (λ t. ahead (omega (arith, l)) m t)) (from (omega arith) (parts_of c w (k + (size (known c) a + 1)) end more f (omega (arith, l)) m))))

    -- the values of a FOR, with its turns, whose body stands in front
    list : (c : Context) (st : Place) (x : Name) (body k : ℕ) (values : Phrases) → AllLead program c.names → body ≤ k → Whole k (code_list c st x body k values) (list_size (known c) values)
    list c st x body k no_phrases f l = to (omega arith) none
    list c st x body k (phrase_and a more) f l =
        to (omega arith) (then (within (omega arith) (phrase c st the_value k a f)) (then (plain st (instr.ListTurn body x.text) refl (λ t. (omega (arith, t, l), omega (arith, t))))
        (from (omega arith) (within (omega arith) (list c st x body (k + (size (known c) a + 1)) more f (omega (arith, l)))))))

    writes : (c : Context) (st : Place) (first : Bool) (position : Option ℕ) (k : ℕ) (roles : List Role) (values : Phrases) → AllLead program c.names → Whole k (code_writes c st first position k roles values) (writes_size (known c) values)
    writes c st first None k roles no_phrases f = next st instr.Nothing refl (λ s. s) (omega arith)
    writes c st first (Some p) k roles no_phrases f = next st (instr.CloseWidths p) refl (λ s. s) (omega arith)
    writes c st first position k [] (phrase_and a more) f =
        to (omega arith) (then (within (omega arith) (phrase c st the_value k a f)) (then (stuck st) (from (omega arith) (within (omega arith) (writes c st first position (k + (size (known c) a + 1)) [] more f)))))
    writes c st first position k (placed ∷ roles) (phrase_and a more) f =
        to (omega arith) (then (within (omega arith) (phrase c st the_value k a f)) (then (next st (instr.Write first position) refl (λ s. s) (omega arith)) (from (omega arith) (within (omega arith) (writes c st false position (k + (size (known c) a + 1)) roles more f)))))
    writes c st first None k (sets n ∷ roles) (phrase_and a more) f =
        to (omega arith) (then (within (omega arith) (phrase c st the_value k a f)) (then (next st (instr.SetWidth n None) refl (λ s. s) (omega arith)) (from (omega arith) (within (omega arith) (writes (with_entries 1 c) st first (Some c.count) (k + (size (known c) a + 1)) roles more f)))))
    writes c st first (Some p) k (sets n ∷ roles) (phrase_and a more) f =
        to (omega arith) (then (within (omega arith) (phrase c st the_value k a f)) (then (next st (instr.SetWidth n (Some p)) refl (λ s. s) (omega arith)) (from (omega arith) (within (omega arith) (writes c st first (Some p) (k + (size (known c) a + 1)) roles more f)))))

    reads : (c : Context) (st : Place) (first : Bool) (k : ℕ) (targets : Targets) → AllLead program c.names → Whole k (code_reads c st first k targets) (targets_size (known c) targets)
    reads c st first k no_targets f = to (omega arith) none
    reads c st first k (target_and t a more) f = to (omega arith) (then (within (omega arith) (phrase c st the_place k a f)) (then (next st (instr.Read first t) refl (λ s. s) (omega arith)) (from (omega arith) (within (omega arith) (reads c st false (k + (size (known c) a + 1)) more f)))))

    cards : (c : Context) (st : Place) (k : ℕ) (targets : Targets) → AllLead program c.names → Whole k (code_cards c st k targets) (targets_size (known c) targets)
    cards c st k no_targets f = to (omega arith) none
    cards c st k (target_and t a more) f = to (omega arith) (then (within (omega arith) (phrase c st the_place k a f)) (then (next st (instr.ReadCard t) refl (λ s. s) (omega arith)) (from (omega arith) (within (omega arith) (cards c st (k + (size (known c) a + 1)) more f)))))

    items_of : (c : Context) (w : Place) (k : ℕ) (items : Items) → AllLead program c.names → Whole k (code_items c w k items) (items_size (known c) items)
    items_of c w k no_items f = next w instr.Nothing refl (λ s. s) (omega arith)
    items_of c w k (item_and labels a no_items) f = phrase c w the_value k a f
    items_of c w k (item_and labels a (item_and labels' a' more)) f = to (omega arith) (then (within (omega arith) (phrase c w the_value k a f)) (within (omega arith) (items_of c w (k + size (known c) a) (item_and labels' a' more) f)))

    bounds_of : (c : Context) (w : Place) (k : ℕ) (pairs : Bounds) → AllLead program c.names → Whole k (code_bounds c w k pairs) (bounds_size (known c) pairs)
    bounds_of c w k no_bounds f = to (omega arith) none
    bounds_of c w k (bound_and a b more) f =
        let na = size (known c) a in
        let nb = size (known c) b in
        to (omega arith) (then (within (omega arith) (phrase c w the_value k a f)) (then (next w instr.Push refl (λ s. s) (omega arith)) (from {m = k + (na + 1)} (omega arith) (then (within (omega arith) (phrase c w the_value (k + (na + 1)) b f))
        (then (next w instr.Push refl (λ s. s) (omega arith)) (from (omega arith) (within (omega arith) (bounds_of c w (k + (na + (1 + (nb + 1)))) more f))))))))

    declarations : (outside inside : Context) (w : Place) (k : ℕ) (decls : Decls) → AllLead program outside.names → AllLead program inside.names → Whole k (code_decls outside inside w k decls) (decls_size (known outside) (known inside) decls)
    declarations outside inside w k no_decls f g = to (omega arith) none
    declarations outside inside w k (variables_and names more) f g = to (omega arith) (then (declare_part program w k names (omega arith)) (within (omega arith) (declarations (with_entries (length names) outside) inside w (k + length names) more f g)))
    declarations outside inside w k (arrays_and t names pairs more) f g =
        let n = bounds_size (known outside) pairs in
        to (omega arith) (then (within (omega arith) (bounds_of outside w k pairs f)) (then (next w (instr.Bounds (dimensions pairs)) refl (λ s. s) (omega arith)) (then (declare_arrays_part program w t (k + n + 1) names (omega arith))
        (from (omega arith) (within (omega arith) (declarations (with_entries (length names) outside) inside w (k + (n + (1 + length names))) more f g))))))
    declarations outside inside w k (procedure_and x result formals body more) f g =
        let d = body_context inside formals in
        let n = size (known d) body in
        let m = text_size (n + result_size result) in
        let e : n ≡ size (formals_known formals (known inside)) body = ap (λ l. size l body) (known_formals (inside.level + 1) 1 formals inside.names) in
        to (omega (arith, e)) (then (single w (instr.Procedure (record { name = x.text; result = result; formals = formals }) (k + m)) (λ t. ahead (omega arith) (omega (arith, e)) t) (λ behind q. let z : k + m ≡ behind = cc q in omega (arith, z, e)))
        (then (within (omega (arith, e)) (phrase d w the_value (k + 1) body (formals_lead program (inside.level + 1) 1 formals inside.names g))) (then (result_part program w result (omega (arith, e))) (then (plain w instr.Return refl (λ t. tt))
        (from (omega arith) (within (omega (arith, e)) (declarations outside inside w (k + m) more f g)))))))

    subscripts : (c : Context) (w : Place) (k : ℕ) (given : Subscripts) → AllLead program c.names → Whole k (code_subscripts c w k given) (subscripts_size (known c) given)
    subscripts c w k no_subscripts f = to (omega arith) none
    subscripts c w k (star_and more) f = subscripts c w k more f
    subscripts c w k (subscript_and a more) f = to (omega arith) (then (within (omega arith) (phrase c w the_value k a f)) (then (next w instr.Push refl (λ s. s) (omega arith)) (from (omega arith) (within (omega arith) (subscripts c w (k + (size (known c) a + 1)) more f)))))

    actuals : (c : Context) (w : Place) (k : ℕ) (given : Actuals) (fs : List Formal) → AllLead program c.names → Whole k (code_actuals c w k given fs) (actuals_size (known c) given fs)
    actuals c w k no_actuals [] f = to (omega arith) none
    actuals c w k (actual_and a more) (x ∷ fs) f = to (omega arith) (then (within (omega arith) (actual c w k a x.is f)) (within (omega arith) (actuals c w (k + actual_size (known c) a x.is) more fs f)))
    actuals c w k no_actuals (x ∷ fs) f = stuck w
    actuals c w k (actual_and a more) [] f = stuck w

    actual : (c : Context) (w : Place) (k : ℕ) (a : Actual) (x : FormalType) → AllLead program c.names → Whole k (code_actual c w k a x) (actual_size (known c) a x)
    actual c w k (Given v g first a) x f = given_part program x c w k v g first (size (known c) a) _ (λ u l. phrase c w u l a f) (λ u l. phrase (inner_text c) w u l a f)
    actual c w k (Alone p a) x f =
        let e = head_found c a in
        let h = leads program c a f in
        alone_part program x c w k p _ (stand_of c a) h (λ l. bare_part program c w p l _ (stand_of c a) e h) (λ l. bare_part program (inner_text c) w p l _ (stand_of c a) e h)
    actual c w k (Subarray a given) x f = to (omega arith) (then (within (omega arith) (subscripts c w k given f)) (then (subarray_part program c w (stars_of given) (stand_of c a) (omega arith)) (next w instr.Push refl (λ s. s) (omega arith))))

    -- assigning back, behind the actuals
    backs : (c : Context) (w : Place) (k i kr n : ℕ) (given : Actuals) (fs : List Formal) → AllLead program c.names → Written program kr (code_actuals c w kr given fs) → kr + actuals_size (known c) given fs ≤ k → Piece program k kr k →
        Whole k (code_backs (with_entries n c) w k i kr given fs) (backs_size (known c) given fs)
    backs c w k i kr n (actual_and a more) (x ∷ fs) f h l p =
        let ra = actual_size (known c) a x.is in
        let ba = back_of_size (known c) a x.is in
        let q = (actual_sized c w kr a x.is).by in
        let one_back = back_of c w k i kr n a x.is f (front program kr (code_actual c w kr a x.is) _ h) (omega (arith, l)) p in
        knowing (let e = (backs_sized (with_entries n c) w k i kr (actual_and a more) (x ∷ fs)).by in omega (arith, e)) (λ t g.
        let m = both program (k + ba) kr k (k + ba) (wider program k (k + ba) kr k (omega arith) p) (one_back.piece (omega (arith, t)) (front program k (code_back (with_entries n c) w k i kr a x.is) _ g)) in
        to (omega arith) (then (within (omega arith) one_back) (within (omega arith) (backs c w (k + ba) (i + 1) (kr + ra) n more fs f (rest program kr (kr + ra) (code_actual c w kr a x.is) _ (omega (arith, q)) h) (omega (arith, l)) (later program (k + ba) kr (kr + ra) (k + ba) (omega arith) m)))))
    backs c w k i kr n no_actuals [] f h l p = to (omega arith) none
    backs c w k i kr n no_actuals (x ∷ fs) f h l p = to (omega arith) none
    backs c w k i kr n (actual_and a more) [] f h l p = to (omega arith) none

    back_of : (c : Context) (w : Place) (k i kr n : ℕ) (a : Actual) (x : FormalType) → AllLead program c.names → Written program kr (code_actual c w kr a x) → kr + actual_size (known c) a x ≤ k → Piece program k kr k →
        Whole k (code_back (with_entries n c) w k i kr a x) (back_of_size (known c) a x)
    back_of c w k i kr n (Given v g first a) x f h l p = back_part program x (with_entries n c) w k i kr g (size (known c) a) _ (λ u j. phrase (with_entries n c) w u j a f) (enters_back c w k kr v g first a x h l p)
    back_of c w k i kr n (Alone q a) x f h l p = to (omega arith) none
    back_of c w k i kr n (Subarray a given) x f h l p = to (omega arith) none

    texts : (c : Context) (w : Place) (k : ℕ) (given : Actuals) → AllLead program c.names → Whole k (code_texts c w k given) (texts_size (known c) given)
    texts c w k no_actuals f = to (omega arith) none
    texts c w k (actual_and a more) f = to (omega arith) (then (within (omega arith) (text c w k a f)) (within (omega arith) (texts c w (k + text_of_size (known c) a) more f)))

    text : (c : Context) (w : Place) (k : ℕ) (a : Actual) → AllLead program c.names → Whole k (code_text c w k a) (text_of_size (known c) a)
    text c w k (Given v g first a) f = text_part program w k first _ (size (known c) a) _ tt (phrase (inner_text c) w as_asked (k + 1) a f)
    text c w k (Alone p a) f = text_part program w k p _ (bare_call_size (head_kind (known c) a)) _ (name_reads program c (stand_of c a) (leads program c a f)) (bare_part program (inner_text c) w p (k + 1) _ (stand_of c a) (head_found c a) (leads program c a f))
    text c w k (Subarray a given) f =
        text_part program w k w _ (subscripts_size (known c) given + 1) _ (subarray_reads program c (free_of given) (stand_of c a) (leads program c a f)) (to (omega arith) (then (within (omega arith) (subscripts (inner_text c) w (k + 1) given f)) (subarray_part program (inner_text c) w (stars_of given) (stand_of c a) (omega arith))))

-- ---- programs

get_behind : {A : Type 0} (xs ys : List A) (a : ℕ) → slice_get (xs ++ ys) (length xs + a) ≡ slice_get ys a
get_behind [] ys a = let e : 0 + a ≡ a = omega arith in ap (slice_get ys) e
get_behind (x ∷ xs) ys a = let e : suc (length xs) + a ≡ suc (length xs + a) = omega arith in ap (slice_get (x ∷ (xs ++ ys))) e ∙ get_behind xs ys a

-- what stands in a row stands in all of it
written_whole : (before a : List Coded) → Written (before ++ a) (length before) a
written_whole before [] = tt
written_whole before (i ∷ a) =
    let l : length (before ++ (i ∷ [])) ≡ length before + 1 = length-append before (i ∷ []) in
    (let z : length before + 0 ≡ length before = omega arith in ap (slice_get (before ++ (i ∷ a))) (sym z) ∙ get_behind before (i ∷ a) 0, subst (λ k. Written (before ++ (i ∷ a)) k a) l (subst (λ p. Written p (length (before ++ (i ∷ []))) a) (append_assoc before (i ∷ []) a) (written_whole (before ++ (i ∷ [])) a)))

-- The code of a program is fit.
pub program_code_is_well_formed : (a : Phrase) → WellFormed (program_code a).instructions
program_code_is_well_formed a = record { first = omega (arith, top); each = λ k c g. (all.piece top (written_whole [] program) k (omega arith) (let i = slice_get_within program k c g in omega (arith, i, length_is)) c g).fit }
  where
    program : List Coded
    program = (program_code a).instructions

    n : ℕ
    n = size (known outermost) a

    length_is : length program ≡ 0 + n + 1
    length_is = let e = length_code (code outermost nowhere the_value 0 a) (one nowhere instr.Stop) in let s = (code_sized outermost nowhere the_value 0 a).by in omega (arith, e, s)

    top : Stands program (0 + n)
    top = omega (arith, length_is)

    all : parts.Part program (0 + n) 0 (code outermost nowhere the_value 0 a ▸ one nowhere instr.Stop) (0 + n + 1)
    all = then (phrase program outermost nowhere the_value 0 a tt) (plain nowhere instr.Stop refl (λ t. tt))
