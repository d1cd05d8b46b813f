-- The parts of a block, and of loops and choices.
use Rattle.std.specs.Prelude.{◌≡◌, ⊤, ℕ, ◌+◌, ◌≤◌, List, [], ◌∷◌, ◌++◌, drop, length, map, max, take, true, Option, Some, None, slice_set}
use Rattle.std.specs.declared.alloc.Global.{Global}
use Rattle.std.specs.declared.vec.Vec.{Vec}
use Rattle.std.specs.List.{All}
use Rattle.value_ops.specs.declared.values.SimpleType.{SimpleType}
use Rattle.algolw_tree.specs.declared.programs.Node.{Node}
use Rattle.algolw_tree.specs.declared.programs.TypedBound.{TypedBound}
use Rattle.algolw_tree.specs.declared.programs.TypedDecl.{TypedDecl, Simple, Array', Proc, Class}
use Rattle.algolw_tree.specs.declared.programs.TypedItem.{TypedItem}
use Rattle.algolw_tree.specs.declared.programs.TypedProc.{TypedProc, TypedProc'}
use Rattle.algolw_typing.specs.Known.{Knows}
use Rattle.algolw_typing.specs.Types.{has}
use Rattle.algolw_typing.specs.Typed as typed
use Rattle.algolw_typing.specs.ProgramView.{formal_view, numbered}
use Rattle.program_meaning.specs.Phrases as phrases
use Rattle.program_meaning.specs.Phrases.{Phrase, Phrases, Name}
use Rattle.program_meaning.specs.Copying.{dimensions}
use Rattle.program_meaning.specs.Translating as translating
use Rattle.program_meaning.specs.Translating.{bounds_of, decls_of, formals_known, formals_of, items_of, name_at, phrases_of, with_known}
use Rattle.program_soundness.specs.Tables.{control_info, infos}
use Rattle.phrase_code.specs.Coding as coding
use Rattle.phrase_code.specs.Coding.{◌▸◌, body_context, code_bounds, code_decls, code_items, code_list, one}
use Rattle.phrase_code.specs.Marks.{marks, bounds_marks, decls_marks, items_marks, phrases_marks}
use Rattle.phrase_code.specs.Sizes.{control_known, decls_size}
use Rattle.compilable_programs.specs.Begun.{Begun}
use Rattle.compilable_programs.specs.Suits.{Suits}
use Rattle.stack_code.specs.Code as code
use Rattle.stack_code.specs.Instr as instr
use Rattle.stack_code.specs.Making.{with_procedure}
use Rattle.stack_code.specs.declared.heads.ProcedureHead.{ProcedureHead}
use Rattle.stack_code.specs.declared.instructions.Instr.TheVariants as held
use Rattle.symbol_table.specs.declared.here.Here.{Here}
use Rattle.symbol_table.specs.declared.standings.Procedure.{Procedure}
use Rattle.symbol_table.specs.declared.standings.Standing.TheVariants as standing
use Rattle.symbol_table.specs.Blocks.{all_formals, formals_in, named_procedure, procedure_count, result_of}
use Rattle.symbol_table.specs.Contexts.{Scene, coding_context, numbers_in, phrase_context}
use Rattle.symbol_table.specs.Parts.{bounds_in, decls_in, items_in, nodes_in}
use Rattle.symbol_table.specs.Standings.{standing_of}
use Rattle.symbol_table.specs.Symbols as symbols
use Rattle.symbol_table.specs.Symbols.{SymbolsView}
use Rattle.symbol_table.specs.Targets.{DeclsStand, ItemsStand}
use Rattle.code_emitter.specs.declared.emitter.Emitter.{Emitter}
use Rattle.code_emitter.specs.Appending.{appended, replaced, with_targets}
use Rattle.code_emitter.specs.Forms.{all_replaced, parts_to, turn}
use Rattle.code_emitter.specs.Parts.{AreOpen, Codes, Meets, Own, next, none_own, place_in, scene}
use Rattle.stack_codegen.specs.declared.blocks.OpenProcedure.{OpenProcedure}
use Rattle.stack_codegen.specs.declared.loops.Choices.{Choices}
use Rattle.stack_codegen.specs.Codable.{IsReady, choices_in, node_in, sizes_known}

-- ---- targets

-- so many targets from one on, of which nothing is known yet
pub record AreReserved (e : Emitter) (own : Own) : Type 0 where
  pub there : own.first + own.count ≤ length e.targets.items
  pub open_ : AreOpen own e.targets.items

abbrev pub decls_own : ℕ → List TypedDecl → Own
decls_own target decls = record { first = target; count = procedure_count decls }

abbrev pub items_own : ℕ → List TypedItem → Own
items_own target items = record { first = target; count = length items }

-- ---- procedures

-- what a procedure's name stands for
pub record IsDeclared (s : SymbolsView) (p : TypedProc) : Type 0 where
  pub procedure : Procedure
  pub stands : standing_of s.names (named_procedure p).0 ≡ standing.Procedure procedure
  pub formals : symbols.formals_of s procedure ≡ all_formals (formals_in p)
  pub counted : procedure.count ≡ length (all_formals (formals_in p))

abbrev pub DeclIsDeclared : SymbolsView → TypedDecl → Type 0
DeclIsDeclared s (Simple t xs) = ⊤
DeclIsDeclared s (Array' t xs shape bounds) = ⊤
DeclIsDeclared s (Proc p) = IsDeclared s p
DeclIsDeclared s (Class c) = ⊤

abbrev pub AreDeclared : SymbolsView → List TypedDecl → Type 0
AreDeclared s decls = All (DeclIsDeclared s) decls

-- a procedure is begun at a target, with a head of its own, whose end isn't known yet
pub record OpensProcedure (old new : Emitter) (here : Here) (target : ℕ) (p : TypedProc) (at : OpenProcedure) : Type 0 where
  pub head : ProcedureHead
  pub targets : Vec (Option ℕ) Global
  pub name : head.name ≡ (named_procedure p).0
  pub result : head.result ≡ result_of p
  pub formals : head.formals.items ≡ all_formals (formals_in p)
  pub placed : targets.items ≡ slice_set old.targets.items target (Some (next old))
  pub begin : at.begin ≡ next old
  pub number : at.head ≡ length old.code.added.procedures
  pub opened : new ≡ appended (with_targets (record old { code = with_procedure old.code head }) targets) here (held.Procedure at.head 0)

-- what is held is given, where there is a type
abbrev pub given_back : Emitter → Here → Option SimpleType → Emitter
given_back e here None = e
given_back e here (Some t) = appended (appended e here (held.Make t)) here held.Reserve

-- a procedure's end, which its begin goes behind
abbrev pub closed_procedure : Emitter → Here → Option SimpleType → OpenProcedure → Emitter
closed_procedure e here t at =
    let last = appended (given_back e here t) here held.Return in
    replaced last at.begin (held.Procedure at.head (next last))

-- the body in memory, and its phrase
abbrev pub body_of : TypedProc → Node
body_of (TypedProc' place result name formals q p f k g s) = record { place = p; first = f; kind = k; gives = g; statement = s }

abbrev pub typed_formals : Scene → TypedProc → List typed.Formal
typed_formals s p = map (formal_view (numbers_in s)) (formals_in p)

abbrev pub formals_phrase : Scene → TypedProc → List phrases.Formal
formals_phrase s p = formals_of (phrase_context s) (typed_formals s p)

abbrev pub body_phrase : Scene → TypedProc → Phrase
body_phrase s p = translating.phrase_of (with_known (phrase_context s) (formals_known (typed_formals s p))) (node_in (body_of p) s)

-- The body of a procedure is coded.
abbrev pub CodesBody : (old new : Emitter) → Here → TypedProc → ℕ → Type 0
CodesBody old new here p m = Codes none_own old new
    (λ ts. coding.code (body_context (coding_context (scene old) ts here) (formals_phrase (scene old) p)) (place_in (scene old) here) instr.the_value (next old) (body_phrase (scene old) p))
    (marks (body_phrase (scene old) p)) m

-- ---- declarations

abbrev pub decls_phrase : Scene → List TypedDecl → phrases.Decls
decls_phrase s decls = decls_of (phrase_context s) (decls_in (numbers_in s) decls)

-- those of a block, in it: outside are the entries by then
abbrev pub decls_code : Scene → (outside inside : Here) → (k : ℕ) → phrases.Decls → List ℕ → List code.Coded
decls_code s outside inside k decls ts = code_decls (coding_context s ts outside) (coding_context s ts inside) (place_in s outside) k decls

-- They are coded, and their procedures stand at the targets from one on.
pub record CodesDecls (old new : Emitter) (outside inside : Here) (target : ℕ) (decls : List TypedDecl) (m : ℕ) : Type 0 where
  pub codes : Codes (decls_own target decls) old new (decls_code (scene old) outside inside (next old) (decls_phrase (scene old) decls)) (decls_marks (decls_phrase (scene old) decls)) m
  pub placed : (ts : List ℕ) → Meets new.targets.items ts → DeclsStand (sizes_known (scene old)) (sizes_known (scene old)) (next old) (decls_phrase (scene old) decls) ts target

-- bounds, and their number
abbrev pub bounds_phrase : Scene → List TypedBound → phrases.Bounds
bounds_phrase s bounds = bounds_of (phrase_context s) (bounds_in (numbers_in s) bounds)

abbrev pub CodesBounds : (old new : Emitter) → Here → List TypedBound → ℕ → Type 0
CodesBounds old new here bounds m = Codes none_own old new
    (λ ts. code_bounds (coding_context (scene old) ts here) (place_in (scene old) here) (next old) (bounds_phrase (scene old) bounds) ▸ one (place_in (scene old) here) (instr.Bounds (dimensions (bounds_phrase (scene old) bounds))))
    (bounds_marks (bounds_phrase (scene old) bounds)) m

-- ---- items

abbrev pub items_phrase : Scene → List TypedItem → phrases.Items
items_phrase s items = items_of (phrase_context s) (items_in (numbers_in s) items)

-- They are coded, and stand at the targets from one on.
pub record CodesItems (old new : Emitter) (here : Here) (target : ℕ) (items : List TypedItem) (m : ℕ) : Type 0 where
  pub codes : Codes (items_own target items) old new (λ ts. code_items (coding_context (scene old) ts here) (place_in (scene old) here) (next old) (items_phrase (scene old) items)) (items_marks (items_phrase (scene old) items)) m
  pub placed : (ts : List ℕ) → Meets new.targets.items ts → ItemsStand (sizes_known (scene old)) (next old) (items_phrase (scene old) items) ts target

-- ---- what stands in a block

-- the targets of its procedures, and those of its items behind them
abbrev pub scope_own : ℕ → List TypedDecl → List TypedItem → Own
scope_own target decls items = record { first = target; count = procedure_count decls + length items }

-- how many instructions declarations have there
abbrev pub declared_size : Scene → List TypedDecl → ℕ
declared_size s decls = decls_size (sizes_known s) (sizes_known s) (decls_phrase s decls)

-- Declarations and items are coded, and stand at the targets from one on.
pub record CodesScope (old new : Emitter) (outside inside : Here) (target : ℕ) (decls : List TypedDecl) (items : List TypedItem) (m : ℕ) : Type 0 where
  pub codes : Codes (scope_own target decls items) old new
      (λ ts. decls_code (scene old) outside inside (next old) (decls_phrase (scene old) decls) ts ▸ one (place_in (scene old) inside) instr.Declared ▸ code_items (coding_context (scene old) ts inside) (place_in (scene old) inside) (next old + (declared_size (scene old) decls + 1)) (items_phrase (scene old) items))
      (max (decls_marks (decls_phrase (scene old) decls)) (items_marks (items_phrase (scene old) items))) m
  pub procedures : (ts : List ℕ) → Meets new.targets.items ts → DeclsStand (sizes_known (scene old)) (sizes_known (scene old)) (next old) (decls_phrase (scene old) decls) ts target
  pub labelled : (ts : List ℕ) → Meets new.targets.items ts → ItemsStand (sizes_known (scene old)) (next old + (declared_size (scene old) decls + 1)) (items_phrase (scene old) items) ts (target + procedure_count decls)

-- ---- what a CASE chooses from

abbrev pub nodes_phrase : Scene → List Node → Phrases
nodes_phrase s nodes = phrases_of (phrase_context s) (nodes_in (numbers_in s) nodes)

abbrev pub choices_phrase : Scene → Choices → Phrases
choices_phrase s choices = phrases_of (phrase_context s) (choices_in (numbers_in s) choices)

-- Jumps to the parts and the parts are coded, which go to what is next then.
abbrev pub CodesChoices : (old new : Emitter) → Here → Choices → ℕ → Type 0
CodesChoices old new here choices m = Codes none_own old new (parts_to here (next new) (choices_phrase (scene old) choices) (scene old) (next old)) (phrases_marks (choices_phrase (scene old) choices)) m

-- The jumps that were pending, but for so many, go to what is next.
pub record EndsJumps (old new : Emitter) (pending : ℕ) : Type 0 where
  pub ended : new ≡ record (all_replaced old (drop pending old.pending.items) (held.Jump (next old))) { pending = new.pending }
  pub left : new.pending.items ≡ take pending old.pending.items

-- ---- the body of a FOR

-- the control name, as phrases have it
abbrev pub control_name : Scene → ℕ → Name
control_name s x = name_at (phrase_context s) (numbered (numbers_in s).names x)

abbrev pub turn_phrase : Scene → ℕ → Node → Phrase
turn_phrase s x body = translating.phrase_of (with_known (phrase_context s) (record { place = numbered (numbers_in s).names x; is = translating.a_control } ∷ [])) (node_in body s)

abbrev pub IsCodableTurn : Emitter → ℕ → Node → Type 0
IsCodableTurn e x body =
    IsReady e (λ s. control_info (numbered (numbers_in s).names x) ++ infos (node_in body s))
    (λ s. (has (numbers_in s).names (numbered (numbers_in s).names x) ≡ true) × Knows (numbers_in s).names s.given.class_places (node_in body s))
    (λ s. Begun s.given.class_places (node_in body s))
    (λ s. Suits (control_known (control_name s x) (sizes_known s)) (turn_phrase s x body))

-- The body is coded with its control name, which has a mark of its own.
abbrev pub CodesTurn : (old new : Emitter) → Here → ℕ → Node → ℕ → Type 0
CodesTurn old new here x body m = Codes none_own old new (turn here (control_name (scene old) x) (turn_phrase (scene old) x body) (scene old) (next old)) (1 + marks (turn_phrase (scene old) x body)) m

-- ---- the values of a FOR

-- The values of a FOR are coded, each with its turn, which goes to the body.
abbrev pub CodesValues : (old new : Emitter) → Here → ℕ → (body : ℕ) → List Node → ℕ → Type 0
CodesValues old new here x body values m = Codes none_own old new (λ ts. code_list (coding_context (scene old) ts here) (place_in (scene old) here) (control_name (scene old) x) body (next old) (nodes_phrase (scene old) values)) (phrases_marks (nodes_phrase (scene old) values)) m
