-- Calls are fit: in line, and through a procedure formal.
use Rattle.std.proofs.Common.{◌≡◌, ℕ, ◌+◌, ◌≤◌, List, [], length, Option, Some, None, refl, sym, ap, subst, arith}
use Rattle.std.specs.Prelude.{Bool, true, false}
use Rattle.std.specs.List.{All, AllByRecursion}
use Rattle.std.proofs.lemmas.List.Elements.{All-from_recursion}
use Rattle.value_ops.specs.declared.places.Place.{Place}
use Rattle.algolw_typing.specs.Types.{Statement, Simple}
use Rattle.program_meaning.specs.Phrases.{Actuals, no_actuals, actual_and, Actual, Given, Alone, Subarray, Formal}
use Rattle.stack_code.specs.Instr as instr
use Rattle.stack_code.specs.Instr.{Source}
use Rattle.stack_code.specs.Code.{Coded}
use Rattle.stack_code.specs.GoingOn.{Stands, StandsText, StandsProcedure, StandsSource}
use Rattle.phrase_code.specs.Sizes.{Kind, a_variable, an_array, a_name_formal, a_procedure_formal, a_procedure, a_label, call_kind, CallKind, through, bare_call_size, call_size, texts_size, text_of_size, prepares_size, place_backs_size, place_back_of_size}
use Rattle.phrase_code.specs.Coding.{◌▸◌, one, Stand, Context, known, kind_of_stand, bare_call, text_heads, prepares_code, place_back_code, place_backs_code, end_of_call, through_code, call_code, source_of, links, code_texts, code_text}
use Rattle.phrase_code.proofs.Sizes.{length_code, text_of_sized, texts_sized, prepares_sized, place_backs_sized}
use Rattle.phrase_code.proofs.Parts.{Written, front, rest, Piece, Part, wider, both, none, then, from, to, resized, within, knowing, plain, next, stuck, ahead, Headed, text_stands, fit_aside}
use Rattle.phrase_code.proofs.Targets.{Leads, FoundLeads, source_leads}

-- what is fit from k on is fit from later on
pub later : (program : List Coded) (top k m e : ℕ) → k ≤ m → Piece program top k e → Piece program top m e
later program top k m e l p j a b c g = p j (omega (arith, a, l)) b c g

module _ (program : List Coded) (c : Context) (w : Place) where
  -- the head of an actual's text
  text_headed : (k : ℕ) (a : Actual) → Written program k (code_text c w k a) → Headed program k (k + text_of_size (known c) a)
  text_headed k (Given v g first a) h = record { at = w; head = _; is = h.0 }
  text_headed k (Alone p a) h = record { at = w; head = _; is = h.0 }
  text_headed k (Subarray a given) h = record { at = w; head = _; is = h.0 }

  -- of the texts from k on, that of the first, and those of the others
  first_text : (k : ℕ) (a : Actual) (more : Actuals) → Written program k (code_texts c w k (actual_and a more)) → Headed program k (k + text_of_size (known c) a)
  first_text k a more h = text_headed k a (front program k (code_text c w k a) _ h)

  more_texts : (k : ℕ) (a : Actual) (more : Actuals) → Written program k (code_texts c w k (actual_and a more)) → Written program (k + text_of_size (known c) a) (code_texts c w (k + text_of_size (known c) a) more)
  more_texts k a more h = let q = (text_of_sized c w k a).by in rest program k (k + text_of_size (known c) a) (code_text c w k a) _ (omega (arith, q)) h

  heads_stand : (k : ℕ) (given : Actuals) → Written program k (code_texts c w k given) → All (StandsText program) (text_heads (known c) k given)
  heads_stand k given h = All-from_recursion (StandsText program) _ (by k given h)
    where
      by : (k : ℕ) (given : Actuals) → Written program k (code_texts c w k given) → AllByRecursion (StandsText program) (text_heads (known c) k given)
      by k no_actuals h = tt
      by k (actual_and a more) h = (text_stands program k _ (first_text k a more h), by (k + text_of_size (known c) a) more (more_texts k a more h))

  -- preparing actuals whose texts stand in front, where no text from theirs on ends further on
  prepares_piece : (s : Source) → StandsSource program s → (i k j : ℕ) (given : Actuals) → Written program k (code_texts c w k given) → k + texts_size (known c) given ≤ j → Piece program j k j → Part program (j + prepares_size given) j (prepares_code (known c) w s i k given) (j + prepares_size given)
  prepares_piece s sf i k j no_actuals h l p = to (omega arith) none
  prepares_piece s sf i k j (actual_and a more) h l p =
      let n = text_of_size (known c) a in
      let aside = fit_aside program k (k + n) j (first_text k a more h) (omega (arith, l)) p in
      let three : Part program (j + 3) j (one w (instr.Prepare s i k) ▸ one w instr.End ▸ one w instr.Push) (j + 3) =
      to (omega arith) (then (plain w (instr.Prepare s i k) refl (λ t. (sf, aside, omega (arith, t)))) (then (next w instr.End refl (λ z. z) (omega arith)) (next w instr.Push refl (λ z. z) (omega arith)))) in
      knowing (let e = (prepares_sized (known c) w s i k (actual_and a more)).by in omega (arith, e)) (λ t g.
      let q = both program (j + 3) k j (j + 3) (wider program j (j + 3) k j (omega arith) p) (three.piece (omega (arith, t)) (g.0, (g.1.0, (g.1.1.0, tt)))) in
      to (omega arith) (then (within (omega arith) three) (within (omega arith) (prepares_piece s sf (i + 1) (k + n) (j + 3) more (more_texts k a more h) (omega (arith, l)) (later program (j + 3) k (k + n) (j + 3) (omega arith) q)))))

  -- assigning back to one actual
  place_back_piece : (i k j : ℕ) (a : Actual) → Headed program k (k + text_of_size (known c) a) → k + text_of_size (known c) a ≤ j → Piece program j k j → Part program (j + place_back_of_size a) j (place_back_code w i k a) (j + place_back_of_size a)
  place_back_piece i k j (Given v (Simple t) first a) h l p =
      to (omega arith) (then (plain w (instr.PlaceBack i k) refl (λ z. (fit_aside program k _ j h l p, z))) (then (next w instr.End refl (λ z. z) (omega arith)) (next w (instr.AssignBack i t) refl (λ z. z) (omega arith))))
  place_back_piece i k j (Given v Statement first a) h l p = to (omega arith) none
  place_back_piece i k j (Alone x a) h l p = to (omega arith) none
  place_back_piece i k j (Subarray a given) h l p = to (omega arith) none

  place_backs_piece : (i k j : ℕ) (given : Actuals) → Written program k (code_texts c w k given) → k + texts_size (known c) given ≤ j → Piece program j k j → Part program (j + place_backs_size given) j (place_backs_code (known c) w i k given) (j + place_backs_size given)
  place_backs_piece i k j no_actuals h l p = to (omega arith) none
  place_backs_piece i k j (actual_and a more) h l p =
      let n = text_of_size (known c) a in
      let m = j + place_back_of_size a in
      let one_back = place_back_piece i k j a (first_text k a more h) (omega (arith, l)) p in
      knowing (let e = (place_backs_sized (known c) w i k (actual_and a more)).by in omega (arith, e)) (λ t g.
      let q = both program m k j m (wider program j m k j (omega arith) p) (one_back.piece (omega (arith, t)) (front program j (place_back_code w i k a) _ g)) in
      to (omega arith) (then (within (omega arith) one_back) (within (omega arith) (place_backs_piece (i + 1) (k + n) m more (more_texts k a more h) (omega (arith, l)) (later program m k (k + n) m (omega arith) q)))))

  -- a call through what stands for a name
  pub through_part : (compares : Bool) (p : Place) (k : ℕ) (given : Actuals) (s : Stand) → Leads program s.kind s.target → Part program (k + texts_size (known c) given) k (code_texts c w k given) (k + texts_size (known c) given) →
      Part program (k + (texts_size (known c) given + (1 + (prepares_size given + (1 + (place_backs_size given + 1)))))) k (through_code c w compares p k given s (λ l. code_texts c w l given)) (k + (texts_size (known c) given + (1 + (prepares_size given + (1 + (place_backs_size given + 1))))))
  through_part compares p k given s leads texts = knowing long by
    where
      T : ℕ
      T = texts_size (known c) given

      P : ℕ
      P = prepares_size given

      B : ℕ
      B = place_backs_size given

      source : Source
      source = source_of c s

      stands : StandsSource program source
      stands = source_leads program c s leads

      total : ℕ
      total = k + (T + (1 + (P + (1 + (B + 1)))))

      compared : List Coded
      compared = one w (instr.Compare compares source (text_heads (known c) k given) (end_of_call (known c) k given))

      prepared : List Coded
      prepared = prepares_code (known c) w source 0 k given

      backs : List Coded
      backs = place_backs_code (known c) w 0 k given

      called : List Coded
      called = one w (instr.CallThrough source p) ▸ backs ▸ one w instr.End

      long : k + length (code_texts c w k given ▸ (compared ▸ (prepared ▸ called))) ≡ total
      long =
          let a = length_code (code_texts c w k given) (compared ▸ (prepared ▸ called)) in
          let b = length_code prepared called in
          let d = length_code backs (one w instr.End) in
          let x = (texts_sized c w k given).by in
          let y = (prepares_sized (known c) w source 0 k given).by in
          let z = (place_backs_sized (known c) w 0 k given).by in
          omega (arith, a, b, d, x, y, z)

      by : Stands program total → Written program k (code_texts c w k given ▸ (compared ▸ (prepared ▸ called))) → Part program total k (code_texts c w k given ▸ (compared ▸ (prepared ▸ called))) total
      by t h =
          let x = (texts_sized c w k given).by in
          let y = (prepares_sized (known c) w source 0 k given).by in
          let written = front program k (code_texts c w k given) _ h in
          let h1 = rest program k (k + T) (code_texts c w k given) (compared ▸ (prepared ▸ called)) (omega (arith, x)) h in
          let compare : Part program (k + T + 1) (k + T) compared (k + T + 1) = plain w _ refl (λ z. (stands, heads_stand k given written, ahead {top = total} (omega arith) (omega arith) t)) in
          let p1 : Piece program (k + T + 1) k (k + T + 1) = both program (k + T + 1) k (k + T) (k + T + 1) (wider program (k + T) (k + T + 1) k (k + T) (omega arith) (texts.piece (omega (arith, t)) written)) (compare.piece (omega (arith, t)) (h1.0, tt)) in
          let prepare = prepares_piece source stands 0 k (k + T + 1) given written (omega arith) p1 in
          let j = k + T + 1 + P in
          let p2 : Piece program j k j = both program j k (k + T + 1) j (wider program (k + T + 1) j k (k + T + 1) (omega arith) p1) (prepare.piece (omega (arith, t)) (front program (k + T + 1) prepared called h1.1)) in
          let h2 = rest program (k + T + 1) j prepared called (omega (arith, y)) h1.1 in
          let call : Part program (j + 1) j (one w (instr.CallThrough source p)) (j + 1) = next w (instr.CallThrough source p) refl (λ z. (stands, z)) (omega arith) in
          let p3 : Piece program (j + 1) k (j + 1) = both program (j + 1) k j (j + 1) (wider program j (j + 1) k j (omega arith) p2) (call.piece (omega (arith, t)) (h2.0, tt)) in
          let back = place_backs_piece 0 k (j + 1) given written (omega arith) p3 in
          to (omega arith) (then (within (omega arith) texts) (then (within (omega arith) compare) (then (within (omega arith) prepare) (then (within (omega arith) call) (then (within (omega arith) back) (next w instr.End refl (λ z. z) (omega arith)))))))

  -- a call in line
  in_line_part : (p : Place) (k : ℕ) (s : Stand) (ready back : List Coded) (R B : ℕ) → StandsProcedure program s.target → Part program (k + R) k ready (k + R) → (Written program k ready → Piece program (k + R + 1) k (k + R + 1) → Part program (k + R + 1 + B) (k + R + 1) back (k + R + 1 + B)) → length back ≡ B →
      Part program (k + (R + (1 + (B + 1)))) k (ready ▸ one w (instr.Call (links c s) s.target p) ▸ back ▸ one w instr.End) (k + (R + (1 + (B + 1))))
  in_line_part p k s ready back R B stands actuals backs n = knowing (let a = length_code ready (one w (instr.Call (links c s) s.target p) ▸ back ▸ one w instr.End) in let b = length_code back (one w instr.End) in let x = actuals.long in omega (arith, a, b, n, x)) by
    where
      total : ℕ
      total = k + (R + (1 + (B + 1)))

      by : Stands program total → Written program k (ready ▸ one w (instr.Call (links c s) s.target p) ▸ back ▸ one w instr.End) → Part program total k (ready ▸ one w (instr.Call (links c s) s.target p) ▸ back ▸ one w instr.End) total
      by t h =
          let x = actuals.long in
          let written = front program k ready _ h in
          let h1 = rest program k (k + R) ready (one w (instr.Call (links c s) s.target p) ▸ back ▸ one w instr.End) x h in
          let call : Part program (k + R + 1) (k + R) (one w (instr.Call (links c s) s.target p)) (k + R + 1) = next w (instr.Call (links c s) s.target p) refl (λ z. (stands, z)) (omega arith) in
          let p1 : Piece program (k + R + 1) k (k + R + 1) = both program (k + R + 1) k (k + R) (k + R + 1) (wider program (k + R) (k + R + 1) k (k + R) (omega arith) (actuals.piece (omega (arith, t)) written)) (call.piece (omega (arith, t)) (h1.0, tt)) in
          to (omega arith) (then (within (omega arith) actuals) (then (within (omega arith) call) (then (within (omega arith) (backs written p1)) (next w instr.End refl (λ z. z) (omega arith)))))

  -- a call by its kind
  pub call_part : (compares : Bool) (p : Place) (k : ℕ) (given : Actuals) (kind : Option Kind) (o : Option Stand) → kind ≡ kind_of_stand o → FoundLeads program o → (ready back : List Formal → List Coded) (R B : List Formal → ℕ) →
      ((fs : List Formal) → Part program (k + R fs) k (ready fs) (k + R fs)) →
      ((fs : List Formal) → Written program k (ready fs) → Piece program (k + R fs + 1) k (k + R fs + 1) → Part program (k + R fs + 1 + B fs) (k + R fs + 1) (back fs) (k + R fs + 1 + B fs)) → ((fs : List Formal) → length (back fs) ≡ B fs) →
      Part program (k + texts_size (known c) given) k (code_texts c w k given) (k + texts_size (known c) given) →
      Part program (k + call_size (call_kind compares kind) R B (texts_size (known c) given) given) k (call_code c w compares p k given (call_kind compares (kind_of_stand o)) o ready back (λ l. code_texts c w l given)) (k + call_size (call_kind compares kind) R B (texts_size (known c) given) given)
  call_part compares p k given kind o e leads ready back R B actuals backs n texts = resized (ap (λ z. call_size (call_kind compares z) R B (texts_size (known c) given) given) (sym e)) (by compares o leads)
    where
      Size : CallKind → ℕ
      Size z = call_size z R B (texts_size (known c) given) given

      kinds : (b : Bool) (kind : Kind) (s : Stand) → s.kind ≡ kind → Leads program kind s.target → Part program (k + Size (call_kind b (Some kind))) k (call_code c w b p k given (call_kind b (Some kind)) (Some s) ready back (λ l. code_texts c w l given)) (k + Size (call_kind b (Some kind)))
      kinds false (a_procedure formals) s q h = in_line_part p k s (ready formals) (back formals) (R formals) (B formals) h (actuals formals) (backs formals) (n formals)
      kinds true (a_procedure formals) s q h = through_part true p k given s (subst (λ z. Leads program z s.target) (sym q) h) texts
      kinds false a_variable s q h = through_part false p k given s (subst (λ z. Leads program z s.target) (sym q) h) texts
      kinds true a_variable s q h = through_part true p k given s (subst (λ z. Leads program z s.target) (sym q) h) texts
      kinds false an_array s q h = through_part false p k given s (subst (λ z. Leads program z s.target) (sym q) h) texts
      kinds true an_array s q h = through_part true p k given s (subst (λ z. Leads program z s.target) (sym q) h) texts
      kinds false a_name_formal s q h = through_part false p k given s (subst (λ z. Leads program z s.target) (sym q) h) texts
      kinds true a_name_formal s q h = through_part true p k given s (subst (λ z. Leads program z s.target) (sym q) h) texts
      kinds false a_procedure_formal s q h = through_part false p k given s (subst (λ z. Leads program z s.target) (sym q) h) texts
      kinds true a_procedure_formal s q h = through_part true p k given s (subst (λ z. Leads program z s.target) (sym q) h) texts
      kinds false a_label s q h = stuck w
      kinds true a_label s q h = stuck w

      by : (b : Bool) (o : Option Stand) → FoundLeads program o → Part program (k + Size (call_kind b (kind_of_stand o))) k (call_code c w b p k given (call_kind b (kind_of_stand o)) o ready back (λ l. code_texts c w l given)) (k + Size (call_kind b (kind_of_stand o)))
      by false None h = stuck w
      by true None h = stuck w
      by b (Some s) h = kinds b s.kind s refl h

  -- a call of a name alone
  pub bare_part : (p : Place) (k : ℕ) (kind : Option Kind) (o : Option Stand) → kind ≡ kind_of_stand o → FoundLeads program o → Part program (k + bare_call_size kind) k (bare_call c w p k o) (k + bare_call_size kind)
  bare_part p k kind o e h = call_part true p k no_actuals kind o e h (λ fs. []) (λ fs. []) (λ fs. 0) (λ fs. 0) (λ fs. to (omega arith) none) (λ fs g q. to (omega arith) none) (λ fs. refl) (to (omega arith) none)
