-- What the single steps of an emitter append, as the definitions have it.
use Rattle.std.proofs.Common.{◌≡◌, ℕ, ◌-◌, ◌<◌, List, [], ◌∷◌, length, map, Option, Some, None, refl, sym, ap, ◌∙◌, subst, arith}
use Rattle.std.specs.Prelude.{Bool, true, false}
use Rattle.std.proofs.lemmas.List.{length_push}
use Rattle.value_ops.specs.declared.places.Place.{Place}
use Rattle.value_ops.specs.declared.values.SimpleType.{SimpleType}
use Rattle.value_ops.specs.declared.values.Value.TheVariants as value
use Rattle.faultless_programs.proofs.Agreeing.{same_place}
use Rattle.program_meaning.specs.State.{for_value}
use Rattle.phrase_code.specs.Coding.{◌▸◌, Stand, goto_code, hand_on_code, named_code, reading_of_name, reading_of_subarray, stand_at}
use Rattle.phrase_code.specs.Sizes as kinds
use Rattle.stack_code.specs.Code as code
use Rattle.stack_code.specs.CodeView.{Added, CodeFits, InstrFits, KindFits, KindsFit, call_of, formal_view, kind_view, kinds_view, mode_view, reading_view, source_view}
use Rattle.stack_code.specs.Instr as instr
use Rattle.stack_code.specs.Linking.{instruction_at, linked_added, linked_reading, linked_source}
use Rattle.stack_code.specs.Making.{with_call, with_string}
use Rattle.stack_code.specs.Calls.{ComparedCall}
use Rattle.stack_code.specs.declared.instructions.Constant.TheVariants as constant
use Rattle.stack_code.specs.declared.instructions.Instr.{Instr}
use Rattle.stack_code.specs.declared.instructions.Instr.TheVariants as held
use Rattle.stack_code.specs.declared.instructions.Mode.{Mode}
use Rattle.stack_code.specs.declared.instructions.Purpose.TheVariants as purpose
use Rattle.stack_code.specs.declared.instructions.Source.{Source}
use Rattle.stack_code.specs.declared.instructions.Source.TheVariants as source
use Rattle.symbol_table.specs.declared.here.Here.{Here}
use Rattle.symbol_table.specs.declared.standings.Procedure.{Procedure}
use Rattle.symbol_table.specs.declared.standings.Standing.{Standing}
use Rattle.symbol_table.specs.declared.standings.Standing.TheVariants as standing
use Rattle.symbol_table.specs.Contexts.{Scene, coding_context, stand, stand_by}
use Rattle.symbol_table.specs.Standings.{read_source, source_from}
use Rattle.symbol_table.specs.Symbols.{formals_of}
use Rattle.code_emitter.specs.Appending.{Compares, appended, with_aside, with_goto, with_name, with_quoted, with_source, with_thunk}
use Rattle.code_emitter.specs.Parts.{Codes, Own, Stays, TablesGrow, is_plain, linked_code, none_own, one_in, place_in, scene}
use Rattle.code_emitter.specs.Readings.{of_name, of_subarray}
use Rattle.code_emitter.specs.declared.emitter.Emitter.{Emitter}
use Rattle.code_emitter.proofs.Composing.{stays_call, stays_string}
use Rattle.code_emitter.proofs.Emitting.{call_code, string_code, step}
use Rattle.code_emitter.proofs.Joining.{codes_as, codes_from, codes_one, codes_plain, codes_then_plain}
use Rattle.code_emitter.proofs.Tables.{call_found, call_later, string_fits, string_found}

-- ---- what a name stands for

-- a name that is declared alone is found
stand_alone : (s : Stand) → stand_at (s ∷ []) s.place ≡ Some s
stand_alone s = ap (λ b. elim b as (λ _. Option Stand) [ true ↦ Some s | false ↦ None ]) (same_place s.place)

-- the stands of names in an emitter
procedure_stand : Emitter → Place → Procedure → List ℕ → Stand
procedure_stand e p x ts = stand p (kinds.a_procedure (map (formal_view e.code.given) (formals_of e.symbols x))) (record { level = x.level; position = 0 }) (instruction_at ts x.target)

module _ (e : Emitter) (here : Here) (h : CodeFits e.code) where
  -- one instruction, where a name has this stand
  by_one : (f : List ℕ → Option Stand → List code.Coded) (does : Instr) (s : List ℕ → Stand) → is_plain does ≡ true → InstrFits e.code.given e.code.added does → ((ts : List ℕ) → one_in (scene e) here ts does ≡ f ts (Some (s ts))) → Codes none_own e (appended e here does) (λ ts. f ts (stand_at (s ts ∷ []) (s ts).place)) 0 0
  by_one f does s is fits same = codes_as (λ ts. f ts (stand_at (s ts ∷ []) (s ts).place)) 0 (λ ts k. same ts ∙ sym (ap (f ts) (stand_alone (s ts)))) refl (codes_plain none_own e here does h fits is)

  by_two : (f : List ℕ → Option Stand → List code.Coded) (does then : Instr) (s : List ℕ → Stand) → is_plain does ≡ true → is_plain then ≡ true → InstrFits e.code.given e.code.added does → InstrFits e.code.given e.code.added then → ((ts : List ℕ) → one_in (scene e) here ts does ▸ one_in (scene e) here ts then ≡ f ts (Some (s ts))) → Codes none_own e (appended (appended e here does) here then) (λ ts. f ts (stand_at (s ts ∷ []) (s ts).place)) 0 0
  by_two f does then s is are fits fit same = codes_as (λ ts. f ts (stand_at (s ts ∷ []) (s ts).place)) 0 (λ ts k. same ts ∙ sym (ap (f ts) (stand_alone (s ts)))) refl (codes_then_plain here then are fit (codes_plain none_own e here does h fits is))

  -- ---- a name alone

  name_as : Mode → List ℕ → Option Stand → List code.Coded
  name_as wanted ts s = named_code (coding_context (scene e) ts here) (place_in (scene e) here) (mode_view wanted) s

  pub name_codes : (wanted : Mode) (p : Place) (x : Standing) → Codes none_own e (with_name e here wanted x) (λ ts. named_code (coding_context (scene e) ts here) (place_in (scene e) here) (mode_view wanted) (stand_by (scene e) ts p x)) 0 0
  unfolding name_as procedure_stand
  name_codes wanted p (standing.Variable t x) = by_one (name_as wanted) (held.Variable wanted (here.level - x.level) x.position) (λ ts. stand p kinds.a_variable x 0) refl tt (λ ts. refl)
  name_codes wanted p (standing.Control x) = by_one (name_as wanted) (held.Variable wanted (here.level - x.level) x.position) (λ ts. stand p kinds.a_variable x 0) refl tt (λ ts. refl)
  name_codes wanted p (standing.NameFormal t x) = by_two (name_as wanted) (held.UseFormal wanted (here.level - x.level) x.position) held.End (λ ts. stand p kinds.a_name_formal x 0) refl refl tt tt (λ ts. refl)
  name_codes wanted p (standing.ProcedureFormal t x) = by_two (name_as wanted) (held.UseFormal wanted (here.level - x.level) x.position) held.End (λ ts. stand p kinds.a_procedure_formal x 0) refl refl tt tt (λ ts. refl)
  name_codes wanted p (standing.Array t x) = by_one (name_as wanted) held.Stuck (λ ts. stand p kinds.an_array x 0) refl tt (λ ts. refl)
  name_codes wanted p (standing.Procedure x) = by_one (name_as wanted) held.Stuck (procedure_stand e p x) refl tt (λ ts. refl)
  name_codes wanted p (standing.Label x target) = by_one (name_as wanted) held.Stuck (λ ts. stand p kinds.a_label x (instruction_at ts target)) refl tt (λ ts. refl)
  name_codes wanted p _ = codes_plain none_own e here held.Stuck h tt refl

  -- ---- a jump

  goto_as : List ℕ → Option Stand → List code.Coded
  goto_as ts s = goto_code (coding_context (scene e) ts here) (place_in (scene e) here) s

  pub goto_codes : (p : Place) (x : Standing) → Codes none_own e (with_goto e here x) (λ ts. goto_code (coding_context (scene e) ts here) (place_in (scene e) here) (stand_by (scene e) ts p x)) 0 0
  unfolding goto_as procedure_stand
  goto_codes p (standing.Label x target) = by_one goto_as (held.Goto (here.level - x.level) x.position target) (λ ts. stand p kinds.a_label x (instruction_at ts target)) refl tt (λ ts. refl)
  goto_codes p (standing.Variable t x) = by_two goto_as held.Begin held.Stuck (λ ts. stand p kinds.a_variable x 0) refl refl tt tt (λ ts. refl)
  goto_codes p (standing.Control x) = by_two goto_as held.Begin held.Stuck (λ ts. stand p kinds.a_variable x 0) refl refl tt tt (λ ts. refl)
  goto_codes p (standing.NameFormal t x) = by_two goto_as held.Begin held.Stuck (λ ts. stand p kinds.a_name_formal x 0) refl refl tt tt (λ ts. refl)
  goto_codes p (standing.ProcedureFormal t x) = by_two goto_as held.Begin held.Stuck (λ ts. stand p kinds.a_procedure_formal x 0) refl refl tt tt (λ ts. refl)
  goto_codes p (standing.Array t x) = by_two goto_as held.Begin held.Stuck (λ ts. stand p kinds.an_array x 0) refl refl tt tt (λ ts. refl)
  goto_codes p (standing.Procedure x) = by_two goto_as held.Begin held.Stuck (procedure_stand e p x) refl refl tt tt (λ ts. refl)
  goto_codes p _ = codes_then_plain here held.Stuck refl tt (codes_plain none_own e here held.Begin h tt refl)

  -- ---- what stands for a name

  source_as : List ℕ → Option Stand → List code.Coded
  source_as ts s = hand_on_code (coding_context (scene e) ts here) (place_in (scene e) here) s

  pub source_codes : (p : Place) (x : Standing) → Codes none_own e (with_source e here (source_from here x)) (λ ts. hand_on_code (coding_context (scene e) ts here) (place_in (scene e) here) (stand_by (scene e) ts p x)) 0 0
  unfolding source_as procedure_stand
  source_codes p (standing.Variable t x) = by_one source_as (held.HandOn (source.Entry (here.level - x.level) x.position)) (λ ts. stand p kinds.a_variable x 0) refl tt (λ ts. refl)
  source_codes p (standing.Control x) = by_one source_as (held.HandOn (source.Entry (here.level - x.level) x.position)) (λ ts. stand p kinds.a_variable x 0) refl tt (λ ts. refl)
  source_codes p (standing.NameFormal t x) = by_one source_as (held.HandOn (source.Entry (here.level - x.level) x.position)) (λ ts. stand p kinds.a_name_formal x 0) refl tt (λ ts. refl)
  source_codes p (standing.ProcedureFormal t x) = by_one source_as (held.HandOn (source.Entry (here.level - x.level) x.position)) (λ ts. stand p kinds.a_procedure_formal x 0) refl tt (λ ts. refl)
  source_codes p (standing.Array t x) = by_one source_as (held.HandOn (source.Entry (here.level - x.level) x.position)) (λ ts. stand p kinds.an_array x 0) refl tt (λ ts. refl)
  source_codes p (standing.Label x target) = by_one source_as (held.HandOn (source.Entry (here.level - x.level) x.position)) (λ ts. stand p kinds.a_label x (instruction_at ts target)) refl tt (λ ts. refl)
  source_codes p (standing.Procedure x) = by_one source_as (held.HandOn (source.Head (here.level - x.level) x.target)) (procedure_stand e p x) refl tt (λ ts. refl)
  source_codes p _ = codes_plain none_own e here held.Stuck h tt refl

-- how a name alone is read, and a subarray
pub name_is_read : (s : Scene) (here : Here) (p : Place) (x : Standing) (ts : List ℕ) → reading_view s.given (linked_reading ts (of_name (read_source here x))) ≡ reading_of_name (coding_context s ts here) (stand_by s ts p x)
name_is_read s here p (standing.Variable t x) ts = sym (ap (reading_of_name (coding_context s ts here)) (stand_alone (stand p kinds.a_variable x 0)))
name_is_read s here p (standing.Control x) ts = sym (ap (reading_of_name (coding_context s ts here)) (stand_alone (stand p kinds.a_variable x 0)))
name_is_read s here p (standing.NameFormal t x) ts = sym (ap (reading_of_name (coding_context s ts here)) (stand_alone (stand p kinds.a_name_formal x 0)))
name_is_read s here p (standing.ProcedureFormal t x) ts = sym (ap (reading_of_name (coding_context s ts here)) (stand_alone (stand p kinds.a_procedure_formal x 0)))
name_is_read s here p (standing.Array t x) ts = sym (ap (reading_of_name (coding_context s ts here)) (stand_alone (stand p kinds.an_array x 0)))
name_is_read s here p (standing.Label x target) ts = sym (ap (reading_of_name (coding_context s ts here)) (stand_alone (stand p kinds.a_label x (instruction_at ts target))))
name_is_read s here p (standing.Procedure x) ts = sym (ap (reading_of_name (coding_context s ts here)) (stand_alone (stand p (kinds.a_procedure (map (formal_view s.given) (formals_of s.symbols x))) (record { level = x.level; position = 0 }) (instruction_at ts x.target))))
name_is_read s here p _ ts = refl

pub subarray_is_read : (s : Scene) (here : Here) (p : Place) (x : Standing) (n : ℕ) (ts : List ℕ) → reading_view s.given (linked_reading ts (of_subarray (read_source here x) n)) ≡ reading_of_subarray (coding_context s ts here) n (stand_by s ts p x)
subarray_is_read s here p (standing.Variable t x) n ts = sym (ap (reading_of_subarray (coding_context s ts here) n) (stand_alone (stand p kinds.a_variable x 0)))
subarray_is_read s here p (standing.Control x) n ts = sym (ap (reading_of_subarray (coding_context s ts here) n) (stand_alone (stand p kinds.a_variable x 0)))
subarray_is_read s here p (standing.NameFormal t x) n ts = sym (ap (reading_of_subarray (coding_context s ts here) n) (stand_alone (stand p kinds.a_name_formal x 0)))
subarray_is_read s here p (standing.ProcedureFormal t x) n ts = sym (ap (reading_of_subarray (coding_context s ts here) n) (stand_alone (stand p kinds.a_procedure_formal x 0)))
subarray_is_read s here p (standing.Array t x) n ts = sym (ap (reading_of_subarray (coding_context s ts here) n) (stand_alone (stand p kinds.an_array x 0)))
subarray_is_read s here p (standing.Label x target) n ts = sym (ap (reading_of_subarray (coding_context s ts here) n) (stand_alone (stand p kinds.a_label x (instruction_at ts target))))
subarray_is_read s here p (standing.Procedure x) n ts = sym (ap (reading_of_subarray (coding_context s ts here) n) (stand_alone (stand p (kinds.a_procedure (map (formal_view s.given) (formals_of s.symbols x))) (record { level = x.level; position = 0 }) (instruction_at ts x.target))))
subarray_is_read s here p _ n ts = refl

-- ---- strings, texts and calls

pub quoted_codes : (e : Emitter) (here : Here) (text : List ℕ) → CodeFits e.code → Codes none_own e (with_quoted e here text) (λ ts. step e here (instr.Constant (value.Str text))) 0 0
quoted_codes e here text h =
    let there : length e.code.added.strings < length (with_string e.code text).added.strings = let l = length_push e.code.added.strings text in omega (arith, l) in
    codes_from (stays_string none_own e text h) (λ ts. string_code e text ts h)
    (codes_as _ _ (λ ts k. ap (λ t. step e here (instr.Constant (value.Str t))) (string_found e.code text ts)) refl
    (codes_one none_own (record e { code = with_string e.code text }) here (held.Constant (constant.Str (length e.code.added.strings))) (string_fits e.code text h) there))

pub aside_codes : (e : Emitter) (here : Here) (head : ℕ) (t : SimpleType) → CodeFits e.code → KindFits e.code.given t → Codes none_own e (with_aside e here head t) (λ ts. step e here (instr.Aside head for_value (Some (kind_view e.code.given t))) ▸ step e here instr.End ▸ step e here instr.Push) 0 0
aside_codes e here head t h f = codes_then_plain here held.Push refl tt (codes_then_plain here held.End refl tt (codes_plain none_own e here (held.Aside purpose.Value (Some t) head) h f refl))

pub thunk_codes : (e : Emitter) (here : Here) (head : ℕ) (t : Option SimpleType) (is_variable : Bool) → CodeFits e.code → KindsFit e.code.given t → Codes none_own e (with_thunk e here head t is_variable) (λ ts. step e here (instr.MakeThunk head (kinds_view e.code.given t) is_variable) ▸ step e here instr.Push) 0 0
thunk_codes e here head t is_variable h f = codes_then_plain here held.Push refl tt (codes_plain none_own e here (held.MakeThunk is_variable t head) h f refl)

-- a call that compares is added, and is there while tables grow
pub compared_code : {a b : Emitter} {from : Source} {heads : List ℕ} {end : ℕ} (ts : List ℕ) → CodeFits a.code → Compares a b from heads end → linked_code ts b ≡ linked_code ts a
compared_code {a} ts h c = ap (linked_code ts) c.added ∙ call_code a _ ts h

pub stays_compared : {a b : Emitter} {from : Source} {heads : List ℕ} {end : ℕ} (own : Own) → CodeFits a.code → Compares a b from heads end → Stays own a b
stays_compared {a} {b} own h c = subst (λ (e : Emitter). Stays own a e) (sym c.added) (stays_call own a _ h)

pub compared_there : {a b : Emitter} {from : Source} {heads : List ℕ} {end : ℕ} (now : Added) (ts : List ℕ) → Compares a b from heads end → TablesGrow b.code.added now → call_of (linked_added ts now) (length a.code.added.calls) ≡ record { source = source_view (linked_source ts from); compares = true; heads = heads; end = end }
compared_there {a} {b} {from} {heads} {end} now ts c w =
    let call : ComparedCall = record { source = from; compares = true; heads = c.heads; end = end } in
    let grown : TablesGrow (with_call a.code call).added now = subst (λ (e : Emitter). TablesGrow e.code.added now) c.added w in
    let there : length a.code.added.calls < length (with_call a.code call).added.calls = let l = length_push a.code.added.calls call in omega (arith, l) in
    call_later (with_call a.code call).added now ts (length a.code.added.calls) grown there ∙ call_found a.code call ts ∙ ap (λ l. record { source = source_view (linked_source ts from); compares = true; heads = l; end = end }) c.are
