-- A procedure is coded when its body is, which is coded where its formals are known.
use Rattle.std.proofs.Common.{◌≡◌, ℕ, ◌+◌, ◌<◌, ◌≤◌, List, [], ◌∷◌, ◌++◌, length, map, refl, sym, ap, ◌∙◌, subst, arith}
use Rattle.std.specs.Prelude.{Option, Some, None, slice_set}
use Rattle.std.specs.Option.{option_map}
use Rattle.std.specs.List.{All}
use Rattle.std.proofs.lemmas.List.{append-nil, length_push}
use Rattle.value_ops.specs.declared.places.Place.{Place}
use Rattle.value_ops.specs.declared.values.SimpleType.{SimpleType}
use Rattle.algolw_tree.specs.declared.programs.TypedDecl.{Proc}
use Rattle.algolw_tree.specs.declared.programs.TypedProc.{TypedProc, TypedProc', out-TypedProc}
use Rattle.algolw_typing.specs.Known.{Knows, KnowsFormals}
use Rattle.algolw_typing.specs.ProgramView.{numbered, type_view}
use Rattle.algolw_typing.specs.Types.{ValueType}
use Rattle.program_meaning.specs.Phrases as phrases
use Rattle.program_meaning.specs.Phrases.{Phrase}
use Rattle.program_meaning.specs.Translating as translating
use Rattle.program_meaning.specs.Translating.{name_at, phrase_of, with_known}
use Rattle.program_soundness.specs.Tables.{formals_info, infos}
use Rattle.phrase_code.specs.Coding as coding
use Rattle.phrase_code.specs.Coding.{◌▸◌, body_context, known, one, result_code}
use Rattle.phrase_code.specs.Marks.{decls_marks, marks}
use Rattle.phrase_code.specs.Sizes.{formals_known, result_size, size, text_size}
use Rattle.phrase_code.proofs.Sizes.{code_sized, known_formals, result_sized}
use Rattle.compilable_programs.specs.Begun.{Begun}
use Rattle.compilable_programs.specs.Suits.{Suits}
use Rattle.stack_code.specs.Code as code
use Rattle.stack_code.specs.CodeView as view
use Rattle.stack_code.specs.CodeView.{CodeFits, FormalFits, KindsFit, ProcedureFits, kinds_view, procedure_view}
use Rattle.stack_code.specs.Instr as instr
use Rattle.stack_code.specs.Making.{with_procedure, with_replaced}
use Rattle.stack_code.specs.declared.heads.Formal.{Formal}
use Rattle.stack_code.specs.declared.heads.ProcedureHead.{ProcedureHead}
use Rattle.stack_code.specs.declared.instructions.Instr.TheVariants as held
use Rattle.stack_code.specs.declared.instructions.Mode.TheVariants as mode
use Rattle.symbol_table.specs.declared.here.Here.{Here}
use Rattle.symbol_table.specs.declared.standings.Procedure.{Procedure}
use Rattle.symbol_table.specs.declared.standings.Standing.TheVariants as standing
use Rattle.symbol_table.specs.Blocks.{all_formals, formals_in, named_procedure, result_of}
use Rattle.symbol_table.specs.Contexts.{AreFresh, Scene, coding_context, numbers_in, phrase_context}
use Rattle.symbol_table.specs.Heres.{inner_text}
use Rattle.symbol_table.specs.Standings.{standing_of}
use Rattle.symbol_table.specs.Targets.{DeclsStand}
use Rattle.symbol_table.specs.Symbols.{SymbolsView, formals_of, mark_of, taken_back, with_formals}
use Rattle.symbol_table.proofs.Fitting.{body_fits, body_fresh}
use Rattle.symbol_table.proofs.Fresh.{fresh_left}
use Rattle.symbol_table.proofs.Inside.{codes_in_body, known_in_body, phrases_in_body}
use Rattle.symbol_table.proofs.Knowing.{formals_known as formals_fit, procedure_known}
use Rattle.symbol_table.proofs.Requiring.{formals_numbered}
use Rattle.symbol_table.proofs.TakenBack.{body_taken_back}
use Rattle.symbol_table.proofs.Viewing.{formals_viewed, kinds_same}
use Rattle.code_emitter.specs.declared.emitter.Emitter.{Emitter}
use Rattle.code_emitter.specs.Appending.{appended, final_targets, replaced, with_targets}
use Rattle.code_emitter.specs.Parts.{Codes, EmitterFits, Own, Stays, next, none_own, phrase_in, place_in, scene}
use Rattle.code_emitter.proofs.Composing.{fits_there, given_there, known_anywhere, meets_final, meets_none, placed_met, stays_appended, stays_both, stays_placed, stays_procedure}
use Rattle.code_emitter.proofs.Emitting.{joined_assoc, joined_length, joined_none, next_appended, procedure_code, targets_code}
use Rattle.code_emitter.proofs.Joining.{codes_as, codes_most, codes_no_more, codes_procedure, codes_symbols, codes_then, codes_then_plain, next_behind}
use Rattle.code_emitter.proofs.Tables.{procedure_found}
use Rattle.stack_codegen.specs.declared.blocks.OpenProcedure.{OpenProcedure}
use Rattle.stack_codegen.specs.Blocks.{CodesBody, CodesDecls, IsDeclared, OpensProcedure, body_of, body_phrase, closed_procedure, decls_code, decls_own, decls_phrase, formals_phrase, given_back, typed_formals}
use Rattle.stack_codegen.specs.Codable.{CodesNode, IsCodable, IsCodableDecls, node_in, sizes_known}
use Rattle.stack_codegen.proofs.DeclaredNames.{text_written}
use Rattle.stack_codegen.proofs.Ready.{ready_after}

-- ---- what is declared

same_procedure : (a b : Procedure) → standing.Procedure a ≡ standing.Procedure b → a ≡ b
same_procedure a b e = cc

pub declared_is : (s : SymbolsView) (p : TypedProc) (d : Procedure) → standing.Procedure d ≡ standing_of s.names (named_procedure p).0 → IsDeclared s p → (formals_of s d ≡ all_formals (formals_in p)) × (d.count ≡ length (all_formals (formals_in p)))
declared_is s p d e h =
    let same : h.procedure ≡ d = same_procedure h.procedure d (sym h.stands ∙ sym e) in
    (ap (formals_of s) (sym same) ∙ h.formals, ap (λ (x : Procedure). x.count) (sym same) ∙ h.counted)

-- ---- its parts in memory

pub named_is : (p : TypedProc) → (out-TypedProc p).name ≡ named_procedure p
unfolding out-TypedProc denote.Hole.Carrier.out
named_is (TypedProc' place result name formals q pp f k g st) = refl

pub result_is : (p : TypedProc) → (out-TypedProc p).result ≡ result_of p
unfolding out-TypedProc denote.Hole.Carrier.out
result_is (TypedProc' place result name formals q pp f k g st) = refl

pub body_is : (p : TypedProc) → (out-TypedProc p).body.value ≡ body_of p
unfolding out-TypedProc denote.Hole.Carrier.out
body_is (TypedProc' place result name formals q pp f k g st) = refl

-- ---- what is known of it

-- its declaration is known, and so are its body and its formals
pub record KnowsProcedure (s : Scene) (p : TypedProc) : Type 0 where
  pub result : KindsFit s.given (result_of p)
  pub name : (named_procedure p).0 < length s.given.names
  pub formals : KnowsFormals (numbers_in s).names s.given.class_places (typed_formals s p)
  pub fit : All (FormalFits s.given) (all_formals (formals_in p))
  pub fresh : AreFresh s (formals_info (typed_formals s p) ++ infos (node_in (body_of p) s))
  pub body : Knows (numbers_in s).names s.given.class_places (node_in (body_of p) s)
  pub begun : Begun s.given.class_places (node_in (body_of p) s)
  pub suits : Suits (formals_known (formals_phrase s p) (sizes_known s)) (body_phrase s p)

pub procedure_knows : (e : Emitter) (p : TypedProc) → IsCodableDecls e (Proc p ∷ []) → KnowsProcedure (scene e) p
procedure_knows e (TypedProc' place result name formals q pp f k g st) r =
    let s : Scene = scene e in
    let p : TypedProc = TypedProc' place result name formals q pp f k g st in
    let all = procedure_known s r.fits.scene p r.knows.0 in
    record {
      result = all.0;
      name = all.1;
      formals = r.knows.0.2;
      fit = formals_fit s r.fits.scene formals.items r.knows.0.2;
      fresh = subst (AreFresh s) (append-nil (formals_info (typed_formals s p) ++ infos (node_in (body_of p) s))) r.fresh;
      body = r.knows.0.3;
      begun = r.begun.0;
      suits = r.suits.0;
    }

-- ---- its body

module _ (e : Emitter) (here : Here) (p : TypedProc) (fits : EmitterFits e) (k : KnowsProcedure (scene e) p) where
  abbrev own_formals : List Formal
  own_formals = all_formals (formals_in p)

  -- where its formals are known
  abbrev pub within : Emitter
  within = record e { symbols = with_formals e.symbols (here.level + 1) own_formals }

  abbrev inside : Scene
  inside = scene within

  viewed : formals_phrase (scene e) p ≡ map (view.formal_view e.code.given) own_formals
  viewed = formals_viewed (scene e) fits.scene (phrase_context (scene e)) refl (formals_in p) k.formals

  phrases_inside : phrase_context inside ≡ with_known (phrase_context (scene e)) (translating.formals_known (typed_formals (scene e) p))
  phrases_inside = phrases_in_body (scene e) (here.level + 1) (formals_in p) fits.scene

  pub same_body : phrase_in inside (node_in (body_of p) inside) ≡ body_phrase (scene e) p
  same_body = ap (λ (c : translating.Context). phrase_of c (node_in (body_of p) (scene e))) phrases_inside

  known_inside : sizes_known inside ≡ formals_known (formals_phrase (scene e) p) (sizes_known (scene e))
  known_inside = known_in_body (scene e) [] here own_formals fits.scene ∙ ap (λ fs. formals_known fs (sizes_known (scene e))) (sym viewed)

  pub context_inside : (ts : List ℕ) → coding_context inside ts (inner_text here (length own_formals)) ≡ body_context (coding_context (scene e) ts here) (formals_phrase (scene e) p)
  context_inside ts = codes_in_body (scene e) ts here own_formals fits.scene ∙ ap (λ fs. body_context (coding_context (scene e) ts here) fs) (sym viewed)

  pub within_ready : IsCodable within (node_in (body_of p))
  within_ready =
      let s : Scene = scene e in
      record {
        fits = record { scene = body_fits s (here.level + 1) (formals_in p) fits.scene k.fit (fresh_left s (formals_info (typed_formals s p)) (infos (node_in (body_of p) s)) k.fresh); code = fits.code };
        fresh = body_fresh s (here.level + 1) (formals_in p) (infos (node_in (body_of p) s)) k.fresh;
        knows = k.body;
        begun = k.begun;
        suits = subst (λ a. Suits (sizes_known inside) a) (sym same_body) (subst (λ ks. Suits ks (body_phrase s p)) (sym known_inside) k.suits);
      }

  pub within_codes : {b c : Emitter} {m : ℕ} → CodesNode within b (inner_text here (length own_formals)) mode.Value (node_in (body_of p)) m → c ≡ record b { symbols = taken_back b.symbols (mark_of e.symbols) } → CodesBody e c here p m
  within_codes {b} {c} {m} part is =
      let back : taken_back b.symbols (mark_of e.symbols) ≡ e.symbols =
      ap (λ (s : Scene). taken_back s.symbols (mark_of e.symbols)) part.stays.scene ∙ body_taken_back e.symbols (here.level + 1) own_formals in
      subst (λ (x : Emitter). CodesBody e x here p m) (sym is)
      (codes_as (λ ts. coding.code (body_context (coding_context (scene e) ts here) (formals_phrase (scene e) p)) (place_in (scene e) here) instr.the_value (next e) (body_phrase (scene e) p)) (marks (body_phrase (scene e) p))
      (λ ts h.
      ap (λ (x : coding.Context). coding.code x (place_in (scene e) here) instr.the_value (next e) (phrase_in inside (node_in (body_of p) inside))) (context_inside ts)
      ∙ ap (λ a. coding.code (body_context (coding_context (scene e) ts here) (formals_phrase (scene e) p)) (place_in (scene e) here) instr.the_value (next e) a) same_body)
      (ap marks same_body)
      (codes_symbols e.symbols (taken_back b.symbols (mark_of e.symbols)) back part))

-- the same, from what the steps ensure
pub body_ready : (e b : Emitter) (here inner : Here) (p : TypedProc) (d : Procedure) → IsCodableDecls e (Proc p ∷ []) → formals_of e.symbols d ≡ all_formals (formals_in p) → inner ≡ inner_text here d.count → b ≡ record e { symbols = with_formals e.symbols inner.level (formals_of e.symbols d) } → IsCodable b (node_in (body_of p))
body_ready e b here inner p d r same at is =
    let k = procedure_knows e p r in
    let level : inner.level ≡ here.level + 1 = ap (λ (h : Here). h.level) at in
    let there : b ≡ within e here p r.fits k =
    is ∙ ap (λ l. let x : Emitter = record e { symbols = with_formals e.symbols l (formals_of e.symbols d) } in x) level
    ∙ ap (λ fs. let x : Emitter = record e { symbols = with_formals e.symbols (here.level + 1) fs } in x) same in
    subst (λ (x : Emitter). IsCodable x (node_in (body_of p))) (sym there) (within_ready e here p r.fits k)

pub body_done : {e b c z : Emitter} {m : ℕ} (here inner : Here) (p : TypedProc) (d : Procedure) → IsCodableDecls e (Proc p ∷ []) → formals_of e.symbols d ≡ all_formals (formals_in p) → d.count ≡ length (all_formals (formals_in p)) → inner ≡ inner_text here d.count → b ≡ record e { symbols = with_formals e.symbols inner.level (formals_of e.symbols d) } → CodesNode b c inner mode.Value (node_in (body_of p)) m → z ≡ record c { symbols = taken_back c.symbols (mark_of e.symbols) } → CodesBody e z here p m
body_done {e} {b} {c} {z} {m} here inner p d r same counted at is part back =
    let k = procedure_knows e p r in
    let level : inner.level ≡ here.level + 1 = ap (λ (h : Here). h.level) at in
    let there : b ≡ within e here p r.fits k =
    is ∙ ap (λ l. let x : Emitter = record e { symbols = with_formals e.symbols l (formals_of e.symbols d) } in x) level
    ∙ ap (λ fs. let x : Emitter = record e { symbols = with_formals e.symbols (here.level + 1) fs } in x) same in
    let inside : inner ≡ inner_text here (length (all_formals (formals_in p))) = at ∙ ap (inner_text here) counted in
    within_codes e here p r.fits k
    (subst (λ (h : Here). CodesNode (within e here p r.fits k) c h mode.Value (node_in (body_of p)) m) inside (subst (λ (x : Emitter). CodesNode x c inner mode.Value (node_in (body_of p)) m) there part)) back

pub body_numbered : (e : Emitter) (p : TypedProc) (d : Procedure) → IsCodableDecls e (Proc p ∷ []) → All (λ (f : Formal). f.name < e.symbols.count) (formals_of e.symbols d)
body_numbered e p d r = formals_numbered (scene e) d r.fits.scene

-- ---- its begin

pub head_fits : (e : Emitter) (p : TypedProc) (head : ProcedureHead) → IsCodableDecls e (Proc p ∷ []) → head.name ≡ (named_procedure p).0 → head.result ≡ result_of p → head.formals.items ≡ all_formals (formals_in p) → ProcedureFits e.code.given head
head_fits e p head r name result formals =
    let k = procedure_knows e p r in
    record {
      name = subst (λ n. n < length e.code.given.names) (sym name) k.name;
      result = subst (KindsFit e.code.given) (sym result) k.result;
      formals = subst (All (FormalFits e.code.given)) (sym formals) k.fit;
    }

-- ---- its end

-- what is given behind the body
returned : {own : Own} {a b : Emitter} {x : List ℕ → List code.Coded} {p m : ℕ} (here : Here) (t : Option SimpleType) → KindsFit b.code.given t → Codes own a b x p m → Codes own a (given_back b here t) (λ ts. x ts ▸ result_code (place_in (scene a) here) (kinds_view a.code.given t)) p m
returned {x = x} {p} here None fits c = codes_as (λ ts. x ts ▸ []) p (λ ts h. sym (joined_none (x ts))) refl c
returned {own} {a} {b} {x} {p} here (Some t) fits c =
    let w : Place = place_in (scene a) here in
    codes_as (λ ts. x ts ▸ result_code w (kinds_view a.code.given (Some t))) p
    (λ ts h. joined_assoc (x ts) (one w (instr.Make (view.kind_view a.code.given t))) (one w instr.Reserve)) refl
    (codes_then_plain here held.Reserve refl tt (codes_then_plain here (held.Make t) refl fits c))

-- ---- the whole

-- the phrase of a procedure's declaration
procedure_is : (s : Scene) (p : TypedProc) → decls_phrase s (Proc p ∷ []) ≡ phrases.procedure_and (name_at (phrase_context s) (numbered (numbers_in s).names (named_procedure p).0)) (option_map (type_view (numbers_in s)) (result_of p)) (formals_phrase s p) (body_phrase s p) phrases.no_decls
procedure_is s (TypedProc' place result name formals q pp f k g st) = refl

module _ (e b : Emitter) (here : Here) (target : ℕ) (p : TypedProc) (at : OpenProcedure) (r : IsCodableDecls e (Proc p ∷ [])) (o : OpensProcedure e b here target p at) where
  abbrev own : Own
  own = decls_own target (Proc p ∷ [])

  knows : KnowsProcedure (scene e) p
  knows = procedure_knows e p r

  -- where its head is added, and where it stands
  abbrev added : Emitter
  added = record e { code = with_procedure e.code o.head }

  abbrev placed : Emitter
  placed = with_targets added o.targets

  fits : ProcedureFits e.code.given o.head
  fits = head_fits e p o.head r o.name o.result o.formals

  stays_placed_there : Stays own e placed
  stays_placed_there =
      let first : Stays own e added = stays_procedure own e o.head r.fits.code fits in
      let is_own : (target ≤ target) × (target < target + 1) = (omega arith, omega arith) in
      stays_both first (stays_placed own added o.targets target (next e) first.fits is_own o.placed)

  front : Codes own e placed (λ ts. []) 0 0
  front = codes_no_more stays_placed_there (λ ts. targets_code added o.targets ts ∙ procedure_code e o.head ts r.fits.code)

  abbrev s : Scene
  s = scene e

  abbrev inner : List ℕ → coding.Context
  inner ts = body_context (coding_context s ts here) (formals_phrase s p)

  abbrev coded_body : List ℕ → List code.Coded
  coded_body ts = coding.code (inner ts) (place_in s here) instr.the_value (next e + 1) (body_phrase s p) ▸ result_code (place_in s here) (kinds_view e.code.given (result_of p))

  abbrev body_size : ℕ
  body_size = size (known (inner [])) (body_phrase s p) + result_size (kinds_view e.code.given (result_of p))

  same_known : (ts : List ℕ) → known (inner ts) ≡ known (inner [])
  same_known ts =
      let fs : List phrases.Formal = formals_phrase s p in
      known_formals (here.level + 1) 1 fs (coding_context s ts here).names ∙ ap (formals_known fs) (known_anywhere s here ts []) ∙ sym (known_formals (here.level + 1) 1 fs (coding_context s [] here).names)

  long : (ts : List ℕ) → length (coded_body ts) ≡ body_size
  long ts =
      let t : Option ValueType = kinds_view e.code.given (result_of p) in
      let first : List code.Coded = coding.code (inner ts) (place_in s here) instr.the_value (next e + 1) (body_phrase s p) in
      let last : List code.Coded = result_code (place_in s here) t in
      let one_sized = code_sized (inner ts) (place_in s here) instr.the_value (next e + 1) (body_phrase s p) in
      let other_sized = result_sized (place_in s here) t in
      joined_length first last ∙ ap (λ n. n + length last) (one_sized.by ∙ ap (λ ks. size ks (body_phrase s p)) (same_known ts)) ∙ ap (λ n. size (known (inner [])) (body_phrase s p) + n) other_sized.by

  number_there : at.head < length placed.code.added.procedures
  number_there = let n = o.number in let l = length_push e.code.added.procedures o.head in omega (arith, n, l)

  head_view : view.procedure_of placed.code.given placed.code.added at.head ≡ record { name = (name_at (phrase_context s) (numbered (numbers_in s).names (named_procedure p).0)).text; result = option_map (type_view (numbers_in s)) (result_of p); formals = formals_phrase s p }
  head_view =
      let g : view.Given = e.code.given in
      let head : List ℕ → Option ValueType → List phrases.Formal → instr.ProcedureHead = λ n t fs. record { name = n; result = t; formals = fs } in
      ap (λ n. view.procedure_of placed.code.given placed.code.added n) o.number
      ∙ procedure_found e.code o.head []
      ∙ ap (λ n. head (view.text_view g n) (kinds_view g o.head.result) (map (view.formal_view g) o.head.formals.items)) o.name
      ∙ ap (λ t. head (view.text_view g (named_procedure p).0) (kinds_view g t) (map (view.formal_view g) o.head.formals.items)) o.result
      ∙ ap (λ fs. head (view.text_view g (named_procedure p).0) (kinds_view g (result_of p)) (map (view.formal_view g) fs)) o.formals
      ∙ ap (λ n. head n (kinds_view g (result_of p)) (map (view.formal_view g) (all_formals (formals_in p)))) (sym (text_written s (named_procedure p).0 r.fits.scene knows.name))
      ∙ ap (λ t. head (name_at (phrase_context s) (numbered (numbers_in s).names (named_procedure p).0)).text t (map (view.formal_view g) (all_formals (formals_in p)))) (sym (kinds_same s (result_of p)))
      ∙ ap (λ fs. head (name_at (phrase_context s) (numbered (numbers_in s).names (named_procedure p).0)).text (option_map (type_view (numbers_in s)) (result_of p)) fs) (sym (formals_viewed s r.fits.scene (phrase_context s) refl (formals_in p) knows.formals))

  written : (outside : Here) (ts : List ℕ) → outside.statement ≡ here.statement → one (place_in s here) (instr.Procedure (view.procedure_of placed.code.given placed.code.added at.head) (next e + text_size body_size)) ▸ coded_body ts ▸ one (place_in s here) instr.Return ≡ decls_code s outside here (next e) (decls_phrase s (Proc p ∷ [])) ts
  written outside ts q =
      let w : Place = place_in s here in
      let k : ℕ = next e in
      let i : coding.Context = coding_context s ts here in
      let fs : List phrases.Formal = formals_phrase s p in
      let a : Phrase = body_phrase s p in
      let x : phrases.Name = name_at (phrase_context s) (numbered (numbers_in s).names (named_procedure p).0) in
      let t : Option ValueType = option_map (type_view (numbers_in s)) (result_of p) in
      let kinds : kinds_view e.code.given (result_of p) ≡ t = sym (kinds_same s (result_of p)) in
      let body_code : List code.Coded = coding.code (inner ts) w instr.the_value (k + 1) a in
      let head : instr.ProcedureHead = record { name = x.text; result = t; formals = fs } in
      let end : List code.Coded = one w instr.Return in
      ap (λ h. one w (instr.Procedure h (k + text_size body_size)) ▸ coded_body ts ▸ end) head_view
      ∙ ap (λ u. one w (instr.Procedure head (k + text_size (size (known (inner [])) a + result_size u))) ▸ (body_code ▸ result_code w u) ▸ end) kinds
      ∙ ap (λ ks. one w (instr.Procedure head (k + text_size (size ks a + result_size t))) ▸ (body_code ▸ result_code w t) ▸ end) (sym (same_known ts))
      ∙ ap (λ l. one w (instr.Procedure head (k + text_size (size (known (inner ts)) a + result_size t))) ▸ l) (joined_assoc body_code (result_code w t) end)
      ∙ ap (λ n. coding.code_decls (coding_context s ts outside) i (view.statement_view s.given n) k (phrases.procedure_and x t fs a phrases.no_decls)) (sym q)
      ∙ ap (λ ds. coding.code_decls (coding_context s ts outside) i (place_in s outside) k ds) (sym (procedure_is s p))

  -- what stays where it is begun
  opened_stays : Stays own e b
  opened_stays =
      let next_one : Stays own placed (appended placed here (held.Procedure at.head 0)) = stays_appended own placed here (held.Procedure at.head 0) stays_placed_there.fits number_there in
      subst (λ (x : Emitter). Stays own e x) (sym o.opened) (stays_both stays_placed_there next_one)

  pub opened_ready : IsCodableDecls b (Proc p ∷ [])
  opened_ready = ready_after opened_stays r

  pub opened_formals : (d : Procedure) → formals_of e.symbols d ≡ all_formals (formals_in p) → formals_of b.symbols d ≡ all_formals (formals_in p)
  opened_formals d h = ap (λ (x : Emitter). formals_of x.symbols d) o.opened ∙ h

  pub result_fits : {c : Emitter} {m : ℕ} → CodesBody b c here p m → KindsFit c.code.given (result_of p)
  result_fits body = subst (λ (g : view.Given). KindsFit g (result_of p)) (sym (given_there body.stays ∙ given_there opened_stays)) knows.result

  module _ {c z : Emitter} {m : ℕ} (body : CodesBody b c here p m) (closed : z ≡ closed_procedure c here (result_of p) at) where
    inside_code : Codes none_own (appended placed here (held.Procedure at.head 0)) (given_back c here (result_of p)) coded_body (marks (body_phrase s p)) m
    inside_code =
        let first : CodesBody (appended placed here (held.Procedure at.head 0)) c here p m = subst (λ (x : Emitter). CodesBody x c here p m) o.opened body in
        let one_more : next (appended placed here (held.Procedure at.head 0)) ≡ next e + 1 = next_appended placed here (held.Procedure at.head 0) in
        let moved : Codes none_own (appended placed here (held.Procedure at.head 0)) c (λ ts. coding.code (inner ts) (place_in s here) instr.the_value (next e + 1) (body_phrase s p)) (marks (body_phrase s p)) m =
        codes_as (λ ts. coding.code (inner ts) (place_in s here) instr.the_value (next e + 1) (body_phrase s p)) (marks (body_phrase s p))
        (λ ts h. ap (λ n. coding.code (inner ts) (place_in s here) instr.the_value n (body_phrase s p)) one_more) refl first in
        returned here (result_of p) (subst (λ (g : view.Given). KindsFit g (result_of p)) (sym (given_there moved.stays)) knows.result) moved

    whole : Codes none_own placed z (λ ts. one (place_in s here) (instr.Procedure (view.procedure_of placed.code.given placed.code.added at.head) (next e + text_size body_size)) ▸ coded_body ts ▸ one (place_in s here) instr.Return) (marks (body_phrase s p)) m
    whole =
        let b : Emitter = given_back c here (result_of p) in
        let last : Emitter = appended b here held.Return in
        codes_procedure here at.head body_size stays_placed_there.fits number_there (λ ts h. long ts) inside_code
        (closed ∙ ap (λ n. replaced last n (held.Procedure at.head (next last))) o.begin ∙ ap (λ n. replaced last (next e) (held.Procedure at.head n)) (next_appended b here held.Return))

    pub procedure_done : target < length e.targets.items → (outside : Here) → outside.statement ≡ here.statement → CodesDecls e z outside here target (Proc p ∷ []) m
    procedure_done l outside q =
        let a : Phrase = body_phrase s p in
        let marked : decls_marks (decls_phrase s (Proc p ∷ [])) ≡ marks a = ap decls_marks (procedure_is s p) ∙ omega arith in
        record {
          codes = codes_most (decls_marks (decls_phrase s (Proc p ∷ []))) m (whole.most ∙ sym marked)
              (codes_as (λ ts. decls_code s outside here (next e) (decls_phrase s (Proc p ∷ [])) ts) (decls_marks (decls_phrase s (Proc p ∷ [])))
              (λ ts h. written outside ts q) (omega (arith, marked)) (codes_then front whole));
          placed = λ ts h.
              let at_target = placed_met e.targets.items o.targets.items target (next e) ts o.placed l (meets_none ts whole.stays h) in
              subst (λ ds. DeclsStand (sizes_known s) (sizes_known s) (next e) ds ts target) (sym (procedure_is s p)) (at_target, tt);
        }

-- ---- what its end requires

pub begin_there : {e b c : Emitter} {m : ℕ} (here : Here) (target : ℕ) (p : TypedProc) (at : OpenProcedure) → OpensProcedure e b here target p at → CodesBody b c here p m → (at.begin < next c) × (at.head < length c.code.added.procedures)
begin_there {e} {b} {c} here target p at o body =
    let placed : Emitter = with_targets (record e { code = with_procedure e.code o.head }) o.targets in
    let one_more : next b ≡ next e + 1 = ap next o.opened ∙ next_appended placed here (held.Procedure at.head 0) in
    let further = next_behind (final_targets c.targets.items) body (meets_final c.targets.items) in
    let begin = o.begin in
    let number = o.number in
    let many : length b.code.added.procedures ≡ length e.code.added.procedures + 1 = ap (λ (x : Emitter). length x.code.added.procedures) o.opened ∙ length_push e.code.added.procedures o.head in
    (omega (arith, begin, one_more, further), fits_there (held.Procedure at.head 0) body.stays (omega (arith, number, many)))

-- ---- its begin and its end, step by step

pub opens : (e x y : Emitter) (k : view.CodeView) (here : Here) (target : ℕ) (p : TypedProc) (head : ProcedureHead) (n begin : ℕ) → head.name ≡ (named_procedure p).0 → head.result ≡ result_of p → head.formals.items ≡ all_formals (formals_in p) → n ≡ length e.code.added.procedures → k ≡ with_procedure e.code head → begin ≡ length k.instructions → x.targets.items ≡ slice_set e.targets.items target (Some (length k.instructions)) → x ≡ with_targets (record e { code = k }) x.targets → y ≡ appended x here (held.Procedure n 0) → OpensProcedure e y here target p (record { begin = begin; head = n })
opens e x y k here target p head n begin name result formals number added first put same more =
    let all : length k.instructions ≡ next e = ap (λ (j : view.CodeView). length j.instructions) added in
    record {
      head = head;
      targets = x.targets;
      name = name;
      result = result;
      formals = formals;
      placed = put ∙ ap (λ j. slice_set e.targets.items target (Some j)) all;
      begin = first ∙ all;
      number = number;
      opened = more ∙ ap (λ (z : Emitter). appended z here (held.Procedure n 0)) (same ∙ ap (λ (j : view.CodeView). with_targets (record e { code = j }) x.targets) added);
    }

pub procedure_there : (e x : Emitter) (k : view.CodeView) (head : ProcedureHead) (n : ℕ) → n ≡ length e.code.added.procedures → k ≡ with_procedure e.code head → x ≡ with_targets (record e { code = k }) x.targets → n < length x.code.added.procedures
procedure_there e x k head n number added same =
    let l : length x.code.added.procedures ≡ length k.added.procedures = ap (λ (z : Emitter). length z.code.added.procedures) same in
    let o : length k.added.procedures ≡ length e.code.added.procedures + 1 = ap (λ (j : view.CodeView). length j.added.procedures) added ∙ length_push e.code.added.procedures head in
    omega (arith, number, l, o)

given_more : (e : Emitter) (here : Here) (t : Option SimpleType) → next e ≤ next (given_back e here t)
given_more e here None = omega arith
given_more e here (Some t) =
    let a = next_appended e here (held.Make t) in
    let b = next_appended (appended e here (held.Make t)) here held.Reserve in
    omega (arith, a, b)

given_tables : (e : Emitter) (here : Here) (t : Option SimpleType) → (given_back e here t).code.added ≡ e.code.added
given_tables e here None = refl
given_tables e here (Some t) = refl

pub begin_still : (e x y : Emitter) (here : Here) (t : Option SimpleType) (n : ℕ) → n < next e → x ≡ given_back e here t → y ≡ appended x here held.Return → n < next y
begin_still e x y here t n l a b =
    let more = given_more e here t in
    let same : next x ≡ next (given_back e here t) = ap (λ (z : Emitter). next z) a in
    let last : next y ≡ next x + 1 = ap (λ (z : Emitter). next z) b ∙ next_appended x here held.Return in
    omega (arith, l, more, same, last)

pub head_still : (e x y : Emitter) (here : Here) (t : Option SimpleType) (n : ℕ) → n < length e.code.added.procedures → x ≡ given_back e here t → y ≡ appended x here held.Return → n < length y.code.added.procedures
head_still e x y here t n l a b =
    subst (λ (z : view.Added). n < length z.procedures) (sym (ap (λ (z : Emitter). z.code.added) b ∙ ap (λ (z : Emitter). z.code.added) a ∙ given_tables e here t)) l

pub closes : (e x y z : Emitter) (k : view.CodeView) (here : Here) (t : Option SimpleType) (at : OpenProcedure) (behind : ℕ) → x ≡ given_back e here t → y ≡ appended x here held.Return → behind ≡ next y → k ≡ with_replaced y.code at.begin (held.Procedure at.head behind) → z ≡ record y { code = k } → z ≡ closed_procedure e here t at
closes e x y z k here t at behind a b n put is =
    is
    ∙ ap (λ (j : view.CodeView). let w : Emitter = record y { code = j } in w) put
    ∙ ap (λ j. replaced y at.begin (held.Procedure at.head j)) n
    ∙ ap (λ (w : Emitter). replaced w at.begin (held.Procedure at.head (next w))) (b ∙ ap (λ (w : Emitter). appended w here held.Return) a)
