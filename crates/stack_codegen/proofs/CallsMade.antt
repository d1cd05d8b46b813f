-- Calls from their parts: actuals that are made ready, what enters the procedure, and what assigns back.
use Rattle.std.proofs.Common.{◌≡◌, ℕ, ◌+◌, ◌-◌, ◌<◌, ◌≤◌, max, List, [], ◌∷◌, ◌++◌, drop, take, length, length-drop, length-take, Bool, true, false, Option, Some, None, refl, sym, ap, ◌∙◌, subst, arith}
use Rattle.std.specs.Prelude.{⊤, ◌==◌}
use Rattle.std.specs.List.{All}
use Rattle.std.proofs.lemmas.List.Elements.{All-head, All-tail}
use Rattle.std.specs.Borrow.{Bor}
use Rattle.std.specs.declared.alloc.Global.{Global}
use Rattle.std.specs.declared.vec.Vec.{Vec}
use Rattle.std.proofs.lemmas.List.{length-append, length-map, length_push}
use Rattle.std.proofs.Math.Seq.{drop-append_seam, take-append_seam}
use Rattle.value_ops.specs.declared.places.Place.{Place}
use Rattle.value_ops.specs.declared.values.SimpleType.{SimpleType}
use Rattle.algolw_tree.specs.declared.programs.Gives.TheVariants as gives
use Rattle.algolw_tree.specs.declared.programs.Node.{Node}
use Rattle.algolw_tree.specs.declared.programs.TypedActual.{TypedActual, Star, Phrase'}
use Rattle.algolw_typing.specs.Meanings as typing
use Rattle.algolw_typing.specs.Meanings.{by_name, by_result, by_value, by_value_result, for_array, for_procedure}
use Rattle.algolw_typing.specs.ProgramView.{gives_view}
use Rattle.algolw_typing.specs.Typed as typed
use Rattle.algolw_typing.specs.Types as types
use Rattle.program_meaning.specs.Phrases as phrases
use Rattle.program_meaning.specs.Phrases.{Actual, Actuals, Alone, Subarray, no_actuals, actual_and}
use Rattle.program_meaning.specs.Translating as translating
use Rattle.program_meaning.specs.Translating.{actual_of, actuals_of}
use Rattle.phrase_code.specs.Coding as coding
use Rattle.phrase_code.specs.Coding.{◌▸◌, Stand, code_actuals, code_back, code_backs, code_texts, kind_of_stand, known, one, place_back_by, place_back_code, place_backs_code, prepares_code, stand_of, text_heads}
use Rattle.phrase_code.specs.Marks.{actual_marks, actuals_marks, marks}
use Rattle.phrase_code.specs.Sizes as sizes
use Rattle.phrase_code.specs.Sizes.{Known, actuals_size, call_kind, head_kind, place_backs_size, prepares_size, texts_size}
use Rattle.phrase_code.proofs.Sizes.{actuals_sized, texts_sized}
use Rattle.compilable_programs.specs.Suits.{ArePassed, CallSuits, IsPassed}
use Rattle.stack_code.specs.Code as code
use Rattle.stack_code.specs.CodeView.{Added, CallView, CodeFits, Given, KindFits, KindsFit, call_of, formal_view, kind_view, kinds_view}
use Rattle.stack_code.specs.Instr as instr
use Rattle.stack_code.specs.Linking.{instruction_at, linked_added}
use Rattle.stack_code.specs.declared.instructions.Instr.TheVariants as held
use Rattle.stack_code.specs.declared.instructions.Mode.TheVariants as mode
use Rattle.stack_code.specs.declared.instructions.Purpose.TheVariants as purpose
use Rattle.stack_code.specs.declared.instructions.Source.{Source}
use Rattle.stack_code.specs.declared.instructions.Source.TheVariants as source
use Rattle.symbol_table.specs.declared.here.Here.{Here}
use Rattle.symbol_table.specs.declared.standings.Entry.{Entry}
use Rattle.symbol_table.specs.declared.standings.Procedure.{Procedure}
use Rattle.symbol_table.specs.declared.standings.Standing.{Standing}
use Rattle.symbol_table.specs.declared.standings.Standing.TheVariants as standing
use Rattle.symbol_table.specs.Contexts.{Scene, SceneFits, StandingFits, coding_context, numbers_in, phrase_context, place_of, stand, stand_for}
use Rattle.symbol_table.specs.Heres.{type_given}
use Rattle.symbol_table.specs.Standings.{Names, standing_of}
use Rattle.symbol_table.specs.Symbols.{formals_of}
use Rattle.symbol_table.proofs.Found.{name_kind, name_stands_for}
use Rattle.symbol_table.proofs.Viewing.{kind_same}
use Rattle.code_emitter.specs.declared.emitter.Emitter.{Emitter}
use Rattle.code_emitter.specs.Appending.{Compares, appended}
use Rattle.code_emitter.specs.Parts.{Codes, CodesPhrase, TablesGrow, instr_in, next, none_own, place_in, scene}
use Rattle.code_emitter.proofs.Composing.{fits_there, known_anywhere, stays_pending}
use Rattle.code_emitter.proofs.Emitting.{joined_assoc, joined_length}
use Rattle.code_emitter.proofs.Joining.{codes_as, codes_is, codes_most, codes_next_at, codes_nothing, codes_one, codes_pending, codes_plain, codes_then, codes_then_one, codes_then_plain, codes_to, next_by}
use Rattle.code_emitter.proofs.Lines.{before_codes}
use Rattle.code_emitter.proofs.Singles.{compared_code, compared_there, stays_compared}
use Rattle.code_emitter.proofs.Tables.{tables_same}
use Rattle.stack_codegen.specs.declared.actuals.ActualKind.TheVariants as kind
use Rattle.stack_codegen.specs.declared.actuals.Given.{Given as ActualGiven}
use Rattle.stack_codegen.specs.Calls.{CodesPending, InLineFit, IsCodableCall, IsProcedureFormal, PassedFit, actual_heads, actual_in, actuals_given, all_back_marks, all_ready_marks, back_marks, called_code, compared_call, first_pending, formals_given, heads_prepared, name_phrase, placed_kind, ready_marks}
use Rattle.stack_codegen.specs.Codable.{IsCodableActuals, sizes_known}
use Rattle.stack_codegen.specs.Listed.{phrase_count}
use Rattle.stack_codegen.specs.Operations.{optional_phrase}
use Rattle.stack_codegen.proofs.CallLoops.{actual_at, backs_go_on, heads_go_on, known_at, line_in, places_go_on, ready_there, texts_go_on, texts_in}
use Rattle.stack_codegen.proofs.Heads.{heads_are}
use Rattle.stack_codegen.proofs.Typing.{type_given_same}

-- ---- marks

-- an actual's marks are those of making it ready and those of assigning it back
marks_of_one : (a : Actual) (f : typing.FormalType) → IsPassed a f → max (1 + ready_marks a f) (back_marks a f) ≡ 1 + actual_marks a
marks_of_one (phrases.Given v types.Statement first x) (by_result t) h = absurd h
marks_of_one (phrases.Given v types.Statement first x) (by_name t) h = omega arith
marks_of_one (phrases.Given v types.Statement first x) (by_value t) h = omega arith
marks_of_one (phrases.Given v types.Statement first x) (by_value_result t) h = omega arith
marks_of_one (phrases.Given v types.Statement first x) (for_array t n) h = absurd h
marks_of_one (phrases.Given v types.Statement first x) (for_procedure t) h = omega arith
marks_of_one (phrases.Given v (types.Simple u) first x) (by_result t) h = omega arith
marks_of_one (phrases.Given v (types.Simple u) first x) (by_name t) h = omega arith
marks_of_one (phrases.Given v (types.Simple u) first x) (by_value t) h = omega arith
marks_of_one (phrases.Given v (types.Simple u) first x) (by_value_result t) h = omega arith
marks_of_one (phrases.Given v (types.Simple u) first x) (for_array t n) h = absurd h
marks_of_one (phrases.Given v (types.Simple u) first x) (for_procedure t) h = omega arith
marks_of_one (Alone p x) f h = omega arith
marks_of_one (Subarray x given) f h = omega arith

pub marks_in_line : (given : Actuals) (fs : List phrases.Formal) → ArePassed given fs → max (all_ready_marks given fs) (all_back_marks given fs) ≡ actuals_marks given
marks_in_line no_actuals [] h = omega arith
marks_in_line no_actuals (f ∷ fs) h = absurd h
marks_in_line (actual_and a rest) [] h = absurd h
marks_in_line (actual_and a rest) (f ∷ fs) h = let one_by_one = marks_of_one a f.is h.0 in let more = marks_in_line rest fs h.1 in omega (arith, one_by_one, more)

-- ---- what is called

-- what stands for a procedure
abbrev pub procedure_stand : Scene → ℕ → Procedure → List ℕ → Stand
procedure_stand s name p ts = stand (place_of s name) (sizes.a_procedure (formals_given s p)) (record { level = p.level; position = 0 }) (instruction_at ts p.target)

pub procedure_stands : (s : Scene) (here : Here) (name : ℕ) (p : Procedure) (ts : List ℕ) → SceneFits s → name < length s.given.names → standing_of s.symbols.names name ≡ standing.Procedure p → stand_of (coding_context s ts here) (name_phrase s name) ≡ Some (procedure_stand s name p ts)
procedure_stands s here name p ts fits l is = name_stands_for s ts here name fits l ∙ ap (stand_for s ts (place_of s name)) is

abbrev pub formal_stand : Scene → ℕ → Entry → Stand
formal_stand s name x = stand (place_of s name) sizes.a_procedure_formal x 0

formal_stands_for : (s : Scene) (ts : List ℕ) (p : Place) (y : Standing) (x : Entry) → IsProcedureFormal y x → stand_for s ts p y ≡ Some (stand p sizes.a_procedure_formal x 0)
formal_stands_for s ts p (standing.ProcedureFormal t y) x h = ap (λ (z : Entry). Some (stand p sizes.a_procedure_formal z 0)) h
formal_stands_for s ts p _ x h = absurd h

pub formal_stands : (s : Scene) (here : Here) (name : ℕ) (x : Entry) (ts : List ℕ) → SceneFits s → name < length s.given.names → IsProcedureFormal (standing_of s.symbols.names name) x → stand_of (coding_context s ts here) (name_phrase s name) ≡ Some (formal_stand s name x)
formal_stands s here name x ts fits l is = name_stands_for s ts here name fits l ∙ formal_stands_for s ts (place_of s name) (standing_of s.symbols.names name) x is

standing_fits : (s : Scene) (names : Names) (n : ℕ) → All (λ (y : ℕ × Standing). (y.0 < length s.given.names) × StandingFits s y.1) names → StandingFits s (standing_of names n)
standing_fits s [] n a = tt
standing_fits s (y ∷ names) n a = elim (y.0 == n) as (λ b. StandingFits s (elim b [ true ↦ y.1 | false ↦ standing_of names n ])) [
  | true ↦ (All-head (λ (z : ℕ × Standing). (z.0 < length s.given.names) × StandingFits s z.1) y names a).1
  | false ↦ standing_fits s names n (All-tail (λ (z : ℕ × Standing). (z.0 < length s.given.names) × StandingFits s z.1) y names a)
]

-- the table has its formals
pub procedure_inside : (s : Scene) (name : ℕ) (p : Procedure) → SceneFits s → standing_of s.symbols.names name ≡ standing.Procedure p → p.formals + p.count ≤ length s.symbols.formals
procedure_inside s name p fits is = (subst (StandingFits s) is (standing_fits s s.symbols.names name fits.names)).1

-- so many formals has it
pub formals_counted : (s : Scene) (p : Procedure) → p.formals + p.count ≤ length s.symbols.formals → length (formals_given s p) ≡ p.count
formals_counted s p l =
    let all = length-map (formals_of s.symbols p) (formal_view s.given) in
    let some = length-take p.count (drop p.formals s.symbols.formals) in
    let behind = length-drop p.formals s.symbols.formals in
    omega (arith, all, some, behind)

-- ---- calls of declared procedures

-- its actuals suit its formals
pub call_ready : (e : Emitter) (here : Here) (name : ℕ) (p : Procedure) (actuals : List TypedActual) → name < length e.code.given.names → standing_of e.symbols.names name ≡ standing.Procedure p → IsCodableCall e false name actuals → IsCodableActuals e actuals (InLineFit p)
call_ready e here name p actuals l is r =
    let s : Scene = scene e in
    let kind : head_kind (sizes_known s) (name_phrase s name) ≡ Some (sizes.a_procedure (formals_given s p)) = name_kind s [] here name r.fits.scene l ∙ ap (λ (x : Standing). kind_of_stand (stand_for s [] (place_of s name) x)) is in
    record {
      fits = r.fits;
      fresh = r.fresh;
      knows = r.knows;
      begun = r.begun;
      suits = (subst (λ (k : Option sizes.Kind). CallSuits (call_kind false k) (actuals_given s actuals)) kind r.suits.0, r.suits.1);
    }

-- what is pending for assigning back
pub call_heads : {a b : Emitter} {q m : ℕ} (c : Emitter) (here : Here) (p : Procedure) (actuals : List TypedActual) (n : ℕ) → n ≡ length a.pending.items → scene c ≡ scene a → c.pending.items ≡ b.pending.items → CodesPending a b (line_in here p 0 actuals (scene a) (next a)) q m (actual_heads (sizes_known (scene a)) (next a) (actuals_given (scene a) actuals) (formals_given (scene a) p))
    → drop n c.pending.items ≡ actual_heads (sizes_known (scene c)) (next a) (actuals_given (scene c) actuals) (formals_given (scene c) p)
call_heads {a} {b} c here p actuals n count e same x =
    let heads : List ℕ = actual_heads (sizes_known (scene a)) (next a) (actuals_given (scene a) actuals) (formals_given (scene a) p) in
    ap (λ k. drop k c.pending.items) count ∙ ap (drop (length a.pending.items)) (same ∙ x.pending) ∙ drop-append_seam a.pending.items heads
    ∙ ap (λ s. actual_heads (sizes_known s) (next a) (actuals_given s actuals) (formals_given s p)) (sym e)

-- behind what enters the procedure
pub entered_ready : {a b c : Emitter} {q m : ℕ} (here : Here) (site : Place) (name : ℕ) (p : Procedure) (actuals : List TypedActual) (links : ℕ) → name < length a.code.given.names → standing_of a.symbols.names name ≡ standing.Procedure p → IsCodableCall a false name actuals
    → CodesPending a b (line_in here p 0 actuals (scene a) (next a)) q m (actual_heads (sizes_known (scene a)) (next a) (actuals_given (scene a) actuals) (formals_given (scene a) p)) → c ≡ appended b here (held.Call links site p.target) → IsCodableActuals c actuals (InLineFit p)
entered_ready {a} {b} {c} here site name p actuals links l is suits x qc =
    ready_there {a = a} {b = c} (ap scene qc ∙ x.codes.stays.scene) (codes_is qc (codes_plain none_own b here (held.Call links site p.target) x.codes.stays.fits tt refl)).stays.fits (call_ready a here name p actuals l is suits)

pub entered_heads : {a b c : Emitter} {q m : ℕ} (here : Here) (site : Place) (p : Procedure) (actuals : List TypedActual) (n links : ℕ) → n ≡ length a.pending.items
    → CodesPending a b (line_in here p 0 actuals (scene a) (next a)) q m (actual_heads (sizes_known (scene a)) (next a) (actuals_given (scene a) actuals) (formals_given (scene a) p)) → c ≡ appended b here (held.Call links site p.target)
    → drop n c.pending.items ≡ actual_heads (sizes_known (scene c)) (first_pending c n) (actuals_given (scene c) actuals) (formals_given (scene c) p)
entered_heads {a} {b} {c} here site p actuals n links count x qc =
    heads_go_on (sizes_known (scene c)) c.pending.items n (next a) (actuals_given (scene c) actuals) (formals_given (scene c) p) (call_heads c here p actuals n count (ap scene qc ∙ x.codes.stays.scene) (ap (λ (y : Emitter). y.pending.items) qc) x)

pub call_done : {a b c d e : Emitter} {m k : ℕ} (here : Here) (site : Place) (name : ℕ) (p : Procedure) (actuals : List TypedActual) (n links : ℕ) (v : Vec ℕ Global) → name < length a.code.given.names → standing_of a.symbols.names name ≡ standing.Procedure p → IsCodableCall a false name actuals → n ≡ length a.pending.items → links ≡ here.level - p.level
    → CodesPending a b (line_in here p 0 actuals (scene a) (next a)) (all_ready_marks (actuals_given (scene a) actuals) (formals_given (scene a) p)) m (actual_heads (sizes_known (scene a)) (next a) (actuals_given (scene a) actuals) (formals_given (scene a) p))
    → c ≡ appended b here (held.Call links site p.target)
    → Codes none_own c d (λ ts. code_backs (coding.with_entries (1 + p.count) (coding_context (scene c) ts here)) (place_in (scene c) here) (next c) 0 (first_pending c n) (actuals_given (scene c) actuals) (formals_given (scene c) p)) (all_back_marks (actuals_given (scene c) actuals) (formals_given (scene c) p)) k
    → e ≡ appended d here held.End → v.items ≡ take n e.pending.items
    → Codes none_own a (record e { pending = v }) (called_code (scene a) here false site (next a) (name_phrase (scene a) name) (actuals_given (scene a) actuals)) (actuals_marks (actuals_given (scene a) actuals)) (max m k)
call_done {a} {b} {c} {d} {e} {m} {k} here site name p actuals n links v l is suits count reach x called backs qe taken =
    let s : Scene = scene a in
    let w : Place = place_in s here in
    let g : Actuals = actuals_given s actuals in
    let fs : List phrases.Formal = formals_given s p in
    let there : scene c ≡ s = ap scene qc ∙ x.codes.stays.scene in
    let from : ℕ = first_pending c n in
    let entered : Codes none_own a (record c { pending = a.pending }) (λ ts. line_in here p 0 actuals s (next a) ts ▸ one w (instr.Call (here.level - p.level) (instruction_at ts p.target) site)) (all_ready_marks g fs) m =
    codes_is (ap (λ (y : Emitter). record y { pending = a.pending }) qc) (codes_then_plain here (held.Call (here.level - p.level) site p.target) refl tt x.codes) in
    let back : Codes none_own (record c { pending = a.pending }) (record d { pending = a.pending }) (λ ts. code_backs (coding.with_entries (1 + p.count) (coding_context (scene c) ts here)) (place_in (scene c) here) (next c) 0 from (actuals_given (scene c) actuals) (formals_given (scene c) p)) (all_back_marks (actuals_given (scene c) actuals) (formals_given (scene c) p)) k =
    codes_pending a.pending a.pending refl backs in
    let both : Codes none_own a (record d { pending = a.pending }) (λ ts. (line_in here p 0 actuals s (next a) ts ▸ one w (instr.Call (here.level - p.level) (instruction_at ts p.target) site)) ▸ code_backs (coding.with_entries (1 + p.count) (coding_context s ts here)) w (next a + actuals_size (known (coding_context s ts here)) g fs + 1) 0 from g fs) (max (all_ready_marks g fs) (all_back_marks g fs)) (max m k) =
    codes_next_at (λ t j ts. code_backs (coding.with_entries (1 + p.count) (coding_context t ts here)) (place_in t here) j 0 from (actuals_given t actuals) (formals_given t p)) (λ t. all_back_marks (actuals_given t actuals) (formals_given t p)) (λ ts. next a + actuals_size (known (coding_context s ts here)) g fs + 1)
    (λ ts h.
    let first = joined_length (line_in here p 0 actuals s (next a) ts) (one w (instr.Call (here.level - p.level) (instruction_at ts p.target) site)) in
    let long = (actuals_sized (coding_context s ts here) w (next a) g fs).by in
    omega (arith, first, long)) entered back in
    let ended : Codes none_own a (record e { pending = a.pending }) (λ ts. ((line_in here p 0 actuals s (next a) ts ▸ one w (instr.Call (here.level - p.level) (instruction_at ts p.target) site)) ▸ code_backs (coding.with_entries (1 + p.count) (coding_context s ts here)) w (next a + actuals_size (known (coding_context s ts here)) g fs + 1) 0 from g fs) ▸ one w instr.End) (max (all_ready_marks g fs) (all_back_marks g fs)) (max m k) =
    codes_is (ap (λ (y : Emitter). record y { pending = a.pending }) qe) (codes_then_plain here held.End refl tt both) in
    codes_pending a.pending v restored
    (codes_as (called_code s here false site (next a) (name_phrase s name) g) (actuals_marks g) (λ ts h. same ts) (marks_in_line g fs ready.suits.0) ended)
  where
    ready : IsCodableActuals a actuals (InLineFit p)
    ready = call_ready a here name p actuals l is suits

    inside : p.formals + p.count ≤ length a.symbols.formals
    inside = procedure_inside (scene a) name p ready.fits.scene is

    qc : c ≡ appended b here (held.Call (here.level - p.level) site p.target)
    qc = called ∙ ap (λ j. appended b here (held.Call j site p.target)) reach

    restored : v.items ≡ a.pending.items
    restored =
        let all : e.pending.items ≡ a.pending.items ++ actual_heads (sizes_known (scene a)) (next a) (actuals_given (scene a) actuals) (formals_given (scene a) p) = ap (λ (y : Emitter). y.pending.items) qe ∙ backs.stays.pending ∙ ap (λ (y : Emitter). y.pending.items) qc ∙ x.pending in
        taken ∙ ap (λ j. take j e.pending.items) count ∙ ap (take (length a.pending.items)) all ∙ take-append_seam a.pending.items _

    same : (ts : List ℕ) → ((line_in here p 0 actuals (scene a) (next a) ts ▸ one (place_in (scene a) here) (instr.Call (here.level - p.level) (instruction_at ts p.target) site)) ▸ code_backs (coding.with_entries (1 + p.count) (coding_context (scene a) ts here)) (place_in (scene a) here) (next a + actuals_size (known (coding_context (scene a) ts here)) (actuals_given (scene a) actuals) (formals_given (scene a) p) + 1) 0 (first_pending c n) (actuals_given (scene a) actuals) (formals_given (scene a) p)) ▸ one (place_in (scene a) here) instr.End
        ≡ called_code (scene a) here false site (next a) (name_phrase (scene a) name) (actuals_given (scene a) actuals) ts
    same ts =
        let s : Scene = scene a in
        let w : Place = place_in s here in
        let g : Actuals = actuals_given s actuals in
        let fs : List phrases.Formal = formals_given s p in
        let c1 : coding.Context = coding_context s ts here in
        let first : List code.Coded = line_in here p 0 actuals s (next a) ts in
        let call : List code.Coded = one w (instr.Call (here.level - p.level) (instruction_at ts p.target) site) in
        let last : List code.Coded = one w instr.End in
        let at : ℕ = next a + actuals_size (known c1) g fs + 1 in
        let back : ℕ → ℕ → List code.Coded = λ (j i : ℕ). code_backs (coding.with_entries (1 + j) c1) w at 0 i g fs in
        let there : scene c ≡ s = ap scene qc ∙ x.codes.stays.scene in
        let queue : drop n c.pending.items ≡ actual_heads (sizes_known s) (next a) g fs = call_heads c here p actuals n count there (ap (λ (y : Emitter). y.pending.items) qc) x ∙ ap (λ t. actual_heads (sizes_known t) (next a) (actuals_given t actuals) (formals_given t p)) there in
        joined_assoc (first ▸ call) (back p.count (first_pending c n)) last
        ∙ joined_assoc first call (back p.count (first_pending c n) ▸ last)
        ∙ ap (λ l. first ▸ call ▸ l ▸ last) (sym (backs_go_on (sizes_known s) c.pending.items n (next a) g fs (coding.with_entries (1 + p.count) c1) w at 0 queue))
        ∙ ap (λ j. first ▸ call ▸ back j (next a) ▸ last) (sym (formals_counted s p inside))
        ∙ ap (λ (o : Option Stand). coding.call_code c1 w false site (next a) g (call_kind false (kind_of_stand o)) o (λ formals. code_actuals c1 w (next a) g formals) (λ formals. code_backs (coding.with_entries (1 + length formals) c1) w (next a + actuals_size (known c1) g formals + 1) 0 (next a) g formals) (λ j. code_texts c1 w j g)) (sym (procedure_stands s here name p ts ready.fits.scene l is))

-- ---- calls that compare

pub through_ready : (e : Emitter) (name : ℕ) (actuals : List TypedActual) → IsCodableCall e true name actuals → IsCodableActuals e actuals PassedFit
through_ready e name actuals r = record { fits = r.fits; fresh = r.fresh; knows = r.knows; begun = r.begun; suits = r.suits.1 }

-- each phrase has a text
pub heads_counted : (s : Scene) (names : List Known) (k : ℕ) (actuals : List TypedActual) → length (text_heads names k (actuals_given s actuals)) ≡ phrase_count actuals
heads_counted s names k [] = refl
heads_counted s names k (Star q ∷ rest) = let more = heads_counted s names k rest in omega (arith, more)
heads_counted s names k (Phrase' p f kind g st ∷ rest) =
    let n : Node = record { place = p; first = f; kind = kind; gives = g; statement = st } in
    let more = heads_counted s names (k + sizes.text_of_size names (actual_at n s)) rest in
    omega (arith, more)

-- what is pending for preparing and for assigning back
pub through_heads : {a b : Emitter} {q m : ℕ} (c : Emitter) (here : Here) (actuals : List TypedActual) (n : ℕ) → n ≡ length a.pending.items → scene c ≡ scene a → c.pending.items ≡ b.pending.items → CodesPending a b (texts_in here actuals (scene a) (next a)) q m (text_heads (sizes_known (scene a)) (next a) (actuals_given (scene a) actuals))
    → drop n c.pending.items ≡ text_heads (sizes_known (scene c)) (next a) (actuals_given (scene c) actuals)
through_heads {a} {b} c here actuals n count e same x =
    let heads : List ℕ = text_heads (sizes_known (scene a)) (next a) (actuals_given (scene a) actuals) in
    ap (λ k. drop k c.pending.items) count ∙ ap (drop (length a.pending.items)) (same ∙ x.pending) ∙ drop-append_seam a.pending.items heads
    ∙ ap (λ s. text_heads (sizes_known s) (next a) (actuals_given s actuals)) (sym e)

-- a call that was added is there
pub compared_in : {b c : Emitter} {from : Source} {heads : List ℕ} {end : ℕ} (call : ℕ) → call ≡ length b.code.added.calls → Compares b c from heads end → call < length c.code.added.calls
compared_in {b} {c} {from} {heads} {end} call number cmp =
    let l = length_push b.code.added.calls (record { source = from; compares = true; heads = cmp.heads; end = end }) in
    let e = ap (λ (y : Emitter). length y.code.added.calls) cmp.added in omega (arith, number, l, e)

-- what is pending is behind what was
pub pending_within : {a b : Emitter} {x : List ℕ → List code.Coded} {q m : ℕ} {heads : List ℕ} (n : ℕ) → n ≡ length a.pending.items → CodesPending a b x q m heads → n ≤ length b.pending.items
pending_within {a} {b} {x} {q} {m} {heads} n count p = let all = ap length p.pending ∙ length-append a.pending.items heads in omega (arith, count, all)

-- behind what compares
pub compared_fits : {b c d : Emitter} {from : Source} {heads : List ℕ} {end : ℕ} (here : Here) (call : ℕ) → CodeFits b.code → call ≡ length b.code.added.calls → Compares b c from heads end → d ≡ appended c here (held.Compare call) → CodeFits d.code
compared_fits {b} {c} here call h number cmp qd = (codes_is qd (codes_one none_own c here (held.Compare call) (stays_compared none_own h cmp).fits (compared_in call number cmp))).stays.fits

pub compared_at : {b c d : Emitter} {from : Source} {heads : List ℕ} {end : ℕ} (here : Here) (call : ℕ) → call ≡ length b.code.added.calls → Compares b c from heads end → d ≡ appended c here (held.Compare call) → call < length d.code.added.calls
compared_at {b} {c} {d} here call number cmp qd = subst (λ (y : Emitter). call < length y.code.added.calls) (sym qd) (compared_in call number cmp)

-- as many are prepared as there are phrases
pub compared_count : {a b c d : Emitter} {from : Source} {q m end : ℕ} (here : Here) (actuals : List TypedActual) (n call count : ℕ) → n ≡ length a.pending.items → CodesPending a b (texts_in here actuals (scene a) (next a)) q m (text_heads (sizes_known (scene a)) (next a) (actuals_given (scene a) actuals)) → call ≡ length b.code.added.calls → Compares b c from (drop n b.pending.items) end → d ≡ appended c here (held.Compare call) → count ≡ phrase_count actuals → count ≡ length (compared_call d [] call).heads
compared_count {a} {b} {c} {d} here actuals n call count many x number cmp qd counted =
    let seen : (compared_call d [] call).heads ≡ drop n b.pending.items = ap (λ (y : Emitter). (call_of (linked_added [] y.code.added) call).heads) qd ∙ ap (λ j. (call_of (linked_added [] c.code.added) j).heads) number ∙ ap (λ (y : CallView). y.heads) (compared_there c.code.added [] cmp (tables_same c.code.added)) in
    let heads : drop n b.pending.items ≡ text_heads (sizes_known (scene b)) (next a) (actuals_given (scene b) actuals) = through_heads b here actuals n many x.codes.stays.scene refl x in
    counted ∙ sym (heads_counted (scene b) (sizes_known (scene b)) (next a) actuals) ∙ ap length (sym heads) ∙ ap length (sym seen)

module _ {a b c d e f : Emitter} {m : ℕ} (here : Here) (site : Place) (x : Entry) (actuals : List TypedActual) (n links call end : ℕ) (count : n ≡ length a.pending.items) (reach : links ≡ here.level - x.level)
    (q : CodesPending a b (texts_in here actuals (scene a) (next a)) (actuals_marks (actuals_given (scene a) actuals)) m (text_heads (sizes_known (scene a)) (next a) (actuals_given (scene a) actuals)))
    (ends : end ≡ next b + (1 + (prepares_size (actuals_given (scene b) actuals) + (1 + place_backs_size (actuals_given (scene b) actuals))))) (number : call ≡ length b.code.added.calls)
    (added : Compares b c (source.Entry links x.position) (drop n b.pending.items) end) (qd : d ≡ appended c here (held.Compare call))
    (prep : Codes none_own d e (λ ts. heads_prepared (place_in (scene d) here) (compared_call d ts call).source 0 (compared_call d ts call).heads) 0 0) (qf : f ≡ appended e here (held.CallThrough site call)) where
  abbrev s : Scene
  s = scene a

  abbrev w : Place
  w = place_in (scene a) here

  abbrev g : Actuals
  g = actuals_given (scene a) actuals

  abbrev from : instr.Source
  from = instr.from_entry (here.level - x.level) x.position

  cmp : Compares b c (source.Entry (here.level - x.level) x.position) (drop n b.pending.items) end
  cmp = subst (λ j. Compares b c (source.Entry j x.position) (drop n b.pending.items) end) reach added

  -- the call, as it is added
  abbrev view : CallView
  view = record { source = from; compares = true; heads = drop n b.pending.items; end = end }

  scene_b : scene b ≡ s
  scene_b = q.codes.stays.scene

  scene_c : scene c ≡ s
  scene_c = ap scene cmp.added ∙ scene_b

  scene_d : scene d ≡ s
  scene_d = ap scene qd ∙ scene_c

  scene_f : scene f ≡ s
  scene_f = ap scene qf ∙ prep.stays.scene ∙ scene_d

  -- no step of it leaves more or less pending
  pub pending_f : f.pending.items ≡ b.pending.items
  pending_f = ap (λ (y : Emitter). y.pending.items) qf ∙ prep.stays.pending ∙ ap (λ (y : Emitter). y.pending.items) qd ∙ ap (λ (y : Emitter). y.pending.items) cmp.added

  pub scene_through : scene f ≡ scene a
  scene_through = scene_f

  seen : (now : Added) (ts : List ℕ) → TablesGrow c.code.added now → call_of (linked_added ts now) call ≡ view
  seen now ts grown = ap (call_of (linked_added ts now)) number ∙ compared_there now ts cmp grown

  seen_d : (ts : List ℕ) → compared_call d ts call ≡ view
  seen_d ts = ap (λ (y : Emitter). call_of (linked_added ts y.code.added) call) qd ∙ seen c.code.added ts (tables_same c.code.added)

  grown_e : TablesGrow c.code.added e.code.added
  grown_e = subst (λ (y : Emitter). TablesGrow y.code.added e.code.added) qd prep.stays.tables

  heads_b : (ts : List ℕ) → drop n b.pending.items ≡ text_heads (known (coding_context s ts here)) (next a) g
  heads_b ts = through_heads b here actuals n count scene_b refl q ∙ ap (λ t. text_heads (sizes_known t) (next a) (actuals_given t actuals)) scene_b ∙ ap (λ names. text_heads names (next a) g) (sym (known_at s s here ts refl))

  end_is : (ts : List ℕ) → end ≡ coding.end_of_call (known (coding_context s ts here)) (next a) g
  end_is ts =
      let far : next b ≡ next a + texts_size (known (coding_context s ts here)) g = next_by (texts_size (known (coding_context s ts here)) g) (λ us. (texts_sized (coding_context s us here) w (next a) g).by ∙ ap (λ names. texts_size names g) (known_anywhere s here us ts)) q.codes in
      let same : end ≡ next b + (1 + (prepares_size g + (1 + place_backs_size g))) = ends ∙ ap (λ t. next b + (1 + (prepares_size (actuals_given t actuals) + (1 + place_backs_size (actuals_given t actuals))))) scene_b in
      omega (arith, far, same)

  compare_is : (ts : List ℕ) → one w (instr_in c ts (held.Compare call)) ≡ one w (instr.Compare true from (text_heads (known (coding_context s ts here)) (next a) g) (coding.end_of_call (known (coding_context s ts here)) (next a) g))
  compare_is ts =
      ap (λ (y : CallView). one w (instr.Compare y.compares y.source y.heads y.end)) (seen c.code.added ts (tables_same c.code.added))
      ∙ ap (λ l. one w (instr.Compare true from l end)) (heads_b ts)
      ∙ ap (λ k. one w (instr.Compare true from (text_heads (known (coding_context s ts here)) (next a) g) k)) (end_is ts)

  prepare_is : (ts : List ℕ) → heads_prepared (place_in (scene d) here) (compared_call d ts call).source 0 (compared_call d ts call).heads ≡ prepares_code (known (coding_context s ts here)) w from 0 (next a) g
  prepare_is ts =
      ap (λ (t : Scene). heads_prepared (place_in t here) (compared_call d ts call).source 0 (compared_call d ts call).heads) scene_d
      ∙ ap (λ (y : CallView). heads_prepared w y.source 0 y.heads) (seen_d ts)
      ∙ ap (heads_prepared w from 0) (heads_b ts)
      ∙ heads_are (known (coding_context s ts here)) w from 0 (next a) g

  call_is : (ts : List ℕ) → one w (instr_in e ts (held.CallThrough site call)) ≡ one w (instr.CallThrough from site)
  call_is ts = ap (λ (y : CallView). one w (instr.CallThrough y.source site)) (seen e.code.added ts grown_e)

  pub heads_f : drop n f.pending.items ≡ text_heads (sizes_known (scene f)) (next a) (actuals_given (scene f) actuals)
  heads_f = through_heads f here actuals n count scene_f pending_f q

  backs_are : (ts : List ℕ) → place_backs_code (sizes_known (scene f)) (place_in (scene f) here) 0 (first_pending f n) (actuals_given (scene f) actuals) ≡ place_backs_code (known (coding_context s ts here)) w 0 (next a) g
  backs_are ts =
      sym (places_go_on (sizes_known (scene f)) f.pending.items n (next a) (actuals_given (scene f) actuals) (place_in (scene f) here) 0 heads_f)
      ∙ ap (λ (t : Scene). place_backs_code (sizes_known t) (place_in t here) 0 (next a) (actuals_given t actuals)) scene_f
      ∙ ap (λ names. place_backs_code names w 0 (next a) g) (sym (known_at s s here ts refl))

  abbrev parts : List ℕ → List code.Coded
  parts ts =
      ((((texts_in here actuals s (next a) ts ▸ one w (instr_in c ts (held.Compare call))) ▸ heads_prepared (place_in (scene d) here) (compared_call d ts call).source 0 (compared_call d ts call).heads) ▸ one w (instr_in e ts (held.CallThrough site call))) ▸ place_backs_code (sizes_known (scene f)) (place_in (scene f) here) 0 (first_pending f n) (actuals_given (scene f) actuals)) ▸ one w instr.End

  whole_is : (name : ℕ) → SceneFits s → name < length s.given.names → IsProcedureFormal (standing_of s.symbols.names name) x → (ts : List ℕ) → parts ts ≡ called_code s here true site (next a) (name_phrase s name) g ts
  whole_is name fits l is ts =
      let k : coding.Context = coding_context s ts here in
      let first : List code.Coded = texts_in here actuals s (next a) ts in
      let compare : List code.Coded = one w (instr_in c ts (held.Compare call)) in
      let compared : List code.Coded = one w (instr.Compare true from (text_heads (known k) (next a) g) (coding.end_of_call (known k) (next a) g)) in
      let prepare : List code.Coded = heads_prepared (place_in (scene d) here) (compared_call d ts call).source 0 (compared_call d ts call).heads in
      let prepared : List code.Coded = prepares_code (known k) w from 0 (next a) g in
      let enter : List code.Coded = one w (instr_in e ts (held.CallThrough site call)) in
      let entered : List code.Coded = one w (instr.CallThrough from site) in
      let back : List code.Coded = place_backs_code (sizes_known (scene f)) (place_in (scene f) here) 0 (first_pending f n) (actuals_given (scene f) actuals) in
      let last : List code.Coded = one w instr.End in
      joined_assoc (((first ▸ compare) ▸ prepare) ▸ enter) back last ∙ joined_assoc ((first ▸ compare) ▸ prepare) enter (back ▸ last) ∙ joined_assoc (first ▸ compare) prepare (enter ▸ back ▸ last) ∙ joined_assoc first compare (prepare ▸ enter ▸ back ▸ last)
      ∙ ap (λ y. first ▸ y ▸ prepare ▸ enter ▸ back ▸ last) (compare_is ts)
      ∙ ap (λ y. first ▸ compared ▸ y ▸ enter ▸ back ▸ last) (prepare_is ts)
      ∙ ap (λ y. first ▸ compared ▸ prepared ▸ y ▸ back ▸ last) (call_is ts)
      ∙ ap (λ y. first ▸ compared ▸ prepared ▸ entered ▸ y ▸ last) (backs_are ts)
      ∙ ap (λ (o : Option Stand). coding.call_code k w true site (next a) g (call_kind true (kind_of_stand o)) o (λ formals. code_actuals k w (next a) g formals) (λ formals. code_backs (coding.with_entries (1 + length formals) k) w (next a + actuals_size (known k) g formals + 1) 0 (next a) g formals) (λ j. code_texts k w j g)) (sym (formal_stands s here name x ts fits l is))

  -- where what is pending is what was pending before
  abbrev quiet : Emitter → Emitter
  quiet y = record y { pending = a.pending }

  pub inside_e : call < length e.code.added.calls
  inside_e = fits_there {a = d} {b = e} (held.CallThrough site call) prep.stays (subst (λ (y : Emitter). call < length y.code.added.calls) (sym qd) (compared_in call number cmp))

  -- what is known and pending for assigning back
  pub through_backs_ready : IsCodableActuals a actuals PassedFit → IsCodableActuals f actuals PassedFit
  through_backs_ready r =
      let fits_e : CodeFits e.code = prep.stays.fits in
      ready_there {a = a} {b = f} scene_f (codes_is qf (codes_one none_own e here (held.CallThrough site call) fits_e inside_e)).stays.fits r

  pub through_backs_heads : drop n f.pending.items ≡ text_heads (sizes_known (scene f)) (first_pending f n) (actuals_given (scene f) actuals)
  through_backs_heads = texts_go_on (sizes_known (scene f)) f.pending.items n (next a) (actuals_given (scene f) actuals) heads_f

  coded : {y z : Emitter} → Codes none_own f y (λ ts. place_backs_code (sizes_known (scene f)) (place_in (scene f) here) 0 (first_pending f n) (actuals_given (scene f) actuals)) 0 0 → z ≡ appended y here held.End → Codes none_own a (quiet z) parts (actuals_marks g) m
  coded {y} {z} backs qz =
      let compared : Codes none_own a (quiet c) (texts_in here actuals s (next a)) (actuals_marks g) m = codes_to {b = quiet b} {c = quiet c} (stays_pending a.pending a.pending refl (stays_compared none_own q.codes.stays.fits cmp)) (λ ts. compared_code ts q.codes.stays.fits cmp) q.codes in
      let compares = codes_is (ap quiet qd) (codes_then_one {b = quiet c} here (held.Compare call) (compared_in call number cmp) compared) in
      let prepares = codes_then compares (codes_pending {a = d} {b = e} a.pending a.pending refl prep) in
      let calls = codes_is (ap quiet qf) (codes_then_one {b = quiet e} here (held.CallThrough site call) inside_e prepares) in
      let all = codes_then calls (codes_pending {a = f} {b = y} a.pending a.pending refl backs) in
      codes_most (actuals_marks g) m q.codes.most (codes_is (ap quiet qz) (codes_then_plain {b = quiet y} here held.End refl tt all))

  pub call_through_done : {y z : Emitter} (name : ℕ) (v : Vec ℕ Global) → name < length a.code.given.names → IsProcedureFormal (standing_of a.symbols.names name) x → IsCodableActuals a actuals PassedFit
      → Codes none_own f y (λ ts. place_backs_code (sizes_known (scene f)) (place_in (scene f) here) 0 (first_pending f n) (actuals_given (scene f) actuals)) 0 0 → z ≡ appended y here held.End → v.items ≡ take n z.pending.items
      → Codes none_own a (record z { pending = v }) (called_code s here true site (next a) (name_phrase s name) g) (actuals_marks g) m
  call_through_done {y} {z} name v l is ready backs qz taken =
      let all : z.pending.items ≡ a.pending.items ++ text_heads (sizes_known s) (next a) g = ap (λ (u : Emitter). u.pending.items) qz ∙ backs.stays.pending ∙ pending_f ∙ q.pending in
      let restored : v.items ≡ a.pending.items = taken ∙ ap (λ j. take j z.pending.items) count ∙ ap (take (length a.pending.items)) all ∙ take-append_seam a.pending.items (text_heads (sizes_known s) (next a) g) in
      codes_pending {a = a} {b = quiet z} a.pending v restored (codes_as (called_code s here true site (next a) (name_phrase s name) g) (actuals_marks g) (λ ts h. whole_is name ready.fits.scene l is ts) refl (coded backs qz))

-- ---- assigning back to single actuals

placed_given : (c : translating.Context) (w : Place) (i k : ℕ) (p first : Place) (g : Option types.Gives) (st : Option Place) (kind : typed.Kind) → place_back_code w i k (actual_of c (typed.At p first g st kind)) ≡ placed_kind w i k (translating.type_given g)
placed_given c w i k p first (Some (types.Simple t)) st kind = refl
placed_given c w i k p first (Some types.Statement) st kind = refl
placed_given c w i k p first None st (typed.Named x typed.no_lists) = refl
placed_given c w i k p first None st (typed.Named x (typed.list_and (typed.OfActuals r subscripts) rest)) = refl
placed_given c w i k p first None st (typed.Named x (typed.list_and (typed.OfPart r start n) rest)) = refl
placed_given c w i k p first None st _ = refl

placed_is : (s : Scene) (w : Place) (i k : ℕ) (n : Node) → place_back_code w i k (actual_at n s) ≡ placed_kind w i k (kinds_view s.given (type_given n.gives))
placed_is s w i k n = placed_given (phrase_context s) w i k n.place n.first _ _ _ ∙ ap (placed_kind w i k) (type_given_same s n.gives)

pub placed_done : {a b : Emitter} (here : Here) (n : Node) (i k : ℕ) → Codes none_own a b (λ ts. placed_kind (place_in (scene a) here) i k (kinds_view a.code.given (type_given n.gives))) 0 0 → Codes none_own a b (λ ts. place_back_code (place_in (scene a) here) i k (actual_at n (scene a))) 0 0
placed_done {a} here n i k part = codes_as (λ ts. place_back_code (place_in (scene a) here) i k (actual_at n (scene a))) 0 (λ ts h. sym (placed_is (scene a) (place_in (scene a) here) i k n)) refl part

-- where there is no value
pub no_place_back : {a : Emitter} (here : Here) (i k : ℕ) (g : Option SimpleType) → g ≡ None → CodeFits a.code → Codes none_own a a (λ ts. placed_kind (place_in (scene a) here) i k (kinds_view a.code.given g)) 0 0
no_place_back {a} here i k g e h = subst (λ y. Codes none_own a a (λ ts. placed_kind (place_in (scene a) here) i k (kinds_view a.code.given y)) 0 0) (sym e) (codes_nothing none_own a h)

-- and where there is
pub place_back_done : {a b c d : Emitter} (here : Here) (i k : ℕ) (g : Option SimpleType) (t : SimpleType) → g ≡ Some t → CodeFits a.code → KindsFit a.code.given g → b ≡ appended a here (held.PlaceBack i k) → c ≡ appended b here held.End → d ≡ appended c here (held.AssignBack t i) → Codes none_own a d (λ ts. placed_kind (place_in (scene a) here) i k (kinds_view a.code.given g)) 0 0
place_back_done {a} {b} {c} {d} here i k g t e h known qb qc qd =
    let fits : KindFits a.code.given t = subst (KindsFit a.code.given) e known in
    subst (λ y. Codes none_own a d (λ ts. placed_kind (place_in (scene a) here) i k (kinds_view a.code.given y)) 0 0) (sym e)
    (let fits_c : KindFits c.code.given t = subst (λ (g : Given). KindFits g t) (sym (ap (λ (y : Emitter). y.code.given) qc ∙ ap (λ (y : Emitter). y.code.given) qb)) fits in
    codes_is qd (codes_then_plain {b = c} here (held.AssignBack t i) refl fits_c (codes_is qc (codes_then_plain {b = b} here held.End refl tt (codes_is qb (codes_plain none_own a here (held.PlaceBack i k) h tt refl))))))

-- ---- assigning back to an actual in line

abbrev pub Backs : (a b : Emitter) → Here → (i text : ℕ) → Actual → typing.FormalType → ℕ → Type 0
Backs a b here i text x f m = Codes none_own a b (λ ts. code_back (coding_context (scene a) ts here) (place_in (scene a) here) (next a) i text x f) (back_marks x f) m

-- a phrase of this type
abbrev pub value_given : Scene → Bool → Place → Option (Bor Node) → SimpleType → Actual
value_given s v first x t = phrases.Given v (types.Simple (kind_view s.given t)) first (optional_phrase s x)

-- it isn't assigned back to
abbrev pub IsNotBack : Actual → typing.FormalType → Type 0
IsNotBack (phrases.Given v (types.Simple u) first y) (by_result t) = ⊥
IsNotBack (phrases.Given v (types.Simple u) first y) (by_value_result t) = ⊥
IsNotBack x f = ⊤

pub back_nothing : (a : Emitter) (here : Here) (i text : ℕ) (x : Actual) (f : typing.FormalType) → CodeFits a.code → IsNotBack x f → Backs a a here i text x f 0
back_nothing a here i text (Alone p y) f h n = codes_nothing none_own a h
back_nothing a here i text (Subarray y given) f h n = codes_nothing none_own a h
back_nothing a here i text (phrases.Given v types.Statement first y) (by_name t) h n = codes_nothing none_own a h
back_nothing a here i text (phrases.Given v types.Statement first y) (by_value t) h n = codes_nothing none_own a h
back_nothing a here i text (phrases.Given v types.Statement first y) (for_array t d) h n = codes_nothing none_own a h
back_nothing a here i text (phrases.Given v types.Statement first y) (for_procedure t) h n = codes_nothing none_own a h
back_nothing a here i text (phrases.Given v types.Statement first y) (by_result t) h n = codes_nothing none_own a h
back_nothing a here i text (phrases.Given v types.Statement first y) (by_value_result t) h n = codes_nothing none_own a h
back_nothing a here i text (phrases.Given v (types.Simple u) first y) (by_name t) h n = codes_nothing none_own a h
back_nothing a here i text (phrases.Given v (types.Simple u) first y) (by_value t) h n = codes_nothing none_own a h
back_nothing a here i text (phrases.Given v (types.Simple u) first y) (for_array t d) h n = codes_nothing none_own a h
back_nothing a here i text (phrases.Given v (types.Simple u) first y) (for_procedure t) h n = codes_nothing none_own a h
back_nothing a here i text (phrases.Given v (types.Simple u) first y) (by_result t) h n = absurd n
back_nothing a here i text (phrases.Given v (types.Simple u) first y) (by_value_result t) h n = absurd n

-- what assigns back a formal of RESULT, and one of VALUE RESULT
pub back_result : {a b c : Emitter} {m : ℕ} (here : Here) (i text : ℕ) (v : Bool) (first : Place) (x : Option (Bor Node)) (t : SimpleType) (u : types.ValueType) → KindFits a.code.given t → CodesPhrase a b here mode.Place (optional_phrase (scene a) x) m → c ≡ appended b here (held.AssignBack t i) → Backs a c here i text (value_given (scene a) v first x t) (by_result u) (m + 1)
back_result {a} {b} {c} {m} here i text v first x t u fits part e =
    let most : m ≡ marks (optional_phrase (scene a) x) = part.most in
    let one_more : m + 1 ≡ 1 + marks (optional_phrase (scene a) x) = omega (arith, most) in
    codes_most (1 + marks (optional_phrase (scene a) x)) (m + 1) one_more (before_codes here mode.Place (optional_phrase (scene a) x) (held.AssignBack t i) refl fits part e)

pub back_value_result : {a b c d : Emitter} (here : Here) (i text : ℕ) (v : Bool) (first : Place) (x : Option (Bor Node)) (t : SimpleType) (u : types.ValueType) → CodeFits a.code → KindFits a.code.given t → b ≡ appended a here (held.Aside purpose.Place None text) → c ≡ appended b here held.End → d ≡ appended c here (held.AssignBack t i) → Backs a d here i text (value_given (scene a) v first x t) (by_value_result u) 0
back_value_result {a} {b} {c} here i text v first x t u h fits qb qc qd =
    let fits_c : KindFits c.code.given t = subst (λ (g : Given). KindFits g t) (sym (ap (λ (y : Emitter). y.code.given) qc ∙ ap (λ (y : Emitter). y.code.given) qb)) fits in
    codes_is qd (codes_then_plain {b = c} here (held.AssignBack t i) refl fits_c (codes_is qc (codes_then_plain {b = b} here held.End refl tt (codes_is qb (codes_plain none_own a here (held.Aside purpose.Place None text) h tt refl)))))

-- the actual of a phrase, as it is told of its kind
pub back_as : {a b : Emitter} {x : Actual} {m : ℕ} (here : Here) (i text : ℕ) (y : Actual) (f : typing.FormalType) → x ≡ y → Backs a b here i text x f m → Backs a b here i text y f m
back_as {a} {b} {x} {m} here i text y f e part = subst (λ z. Backs a b here i text z f m) e part

pub given_is : (s : Scene) (g : ActualGiven) (t : SimpleType) → g.gives ≡ gives.Simple t → actual_in s (kind.Given g) ≡ value_given s g.is_variable g.first g.phrase t
given_is s g t e = ap (λ y. phrases.Given g.is_variable (gives_view (numbers_in s) y) g.first (optional_phrase s g.phrase)) e ∙ ap (λ y. phrases.Given g.is_variable (types.Simple y) g.first (optional_phrase s g.phrase)) (kind_same s t)

pub statement_is : (s : Scene) (g : ActualGiven) → g.gives ≡ gives.Statement → actual_in s (kind.Given g) ≡ phrases.Given g.is_variable types.Statement g.first (optional_phrase s g.phrase)
statement_is s g e = ap (λ y. phrases.Given g.is_variable (gives_view (numbers_in s) y) g.first (optional_phrase s g.phrase)) e
