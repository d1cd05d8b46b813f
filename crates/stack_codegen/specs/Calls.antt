-- Calls and their actuals.
use Rattle.std.specs.Prelude.{◌≡◌, option_copied, ⊤, ℕ, ◌+◌, max, List, [], ◌∷◌, ◌++◌, ◌<◌, length, map, slice_index_or, Bool, false, Option, Some, None}
use Rattle.value_ops.specs.declared.places.Place.{Place}
use Rattle.algolw_tree.specs.declared.programs.Node.{Node}
use Rattle.algolw_tree.specs.declared.programs.NodeKind.{NodeKind, Named'}
use Rattle.algolw_tree.specs.declared.programs.TypedActual.{TypedActual}
use Rattle.algolw_typing.specs.Typed as typed
use Rattle.algolw_typing.specs.Types as types
use Rattle.algolw_typing.specs.Meanings as typing
use Rattle.algolw_typing.specs.ProgramView.{Numbers, gives_view, numbered}
use Rattle.algolw_typing.specs.ProgramView as program
use Rattle.program_meaning.specs.Phrases as phrases
use Rattle.program_meaning.specs.Phrases.{Phrase, Actual, Actuals, no_actuals, actual_and, Formal}
use Rattle.program_meaning.specs.Copying.{free_of}
use Rattle.program_meaning.specs.Translating.{actual_of, actuals_of, subscripts_of}
use Rattle.phrase_code.specs.Coding as coding
use Rattle.phrase_code.specs.Coding.{◌▸◌, Context, Stand, bare_call, call_code, code_actuals, code_backs, code_subscripts, code_texts, kind_of_stand, known, one, place_back_by, reading_of_name, reading_of_subarray, stand_of, stars_of, subarray_code, with_entries}
use Rattle.phrase_code.specs.Marks.{marks, actual_marks}
use Rattle.phrase_code.specs.Sizes as sizes
use Rattle.phrase_code.specs.Sizes.{actual_size, actuals_size, call_kind, head_kind}
use Rattle.compilable_programs.specs.Suits.{ActualsSuit, ArePassed, CallSuits, SubscriptsSuit}
use Rattle.stack_code.specs.Code as code
use Rattle.stack_code.specs.CodeView as view
use Rattle.stack_code.specs.CodeView.{Added, CallView, TextFits, call_of, formal_view, mode_view, reading_view}
use Rattle.stack_code.specs.Instr as instr
use Rattle.stack_code.specs.Linking.{linked_added, linked_reading}
use Rattle.stack_code.specs.declared.heads.FormalType.{FormalType}
use Rattle.stack_code.specs.declared.heads.TextHead.{TextHead}
use Rattle.symbol_table.specs.declared.here.Here.{Here}
use Rattle.symbol_table.specs.declared.standings.Entry.{Entry}
use Rattle.symbol_table.specs.declared.standings.Procedure.{Procedure}
use Rattle.symbol_table.specs.declared.standings.Standing.{Standing}
use Rattle.symbol_table.specs.declared.standings.Standing.TheVariants as standing
use Rattle.symbol_table.specs.Contexts.{Scene, coding_context, numbers_in, phrase_context}
use Rattle.symbol_table.specs.Parts.{actuals_in}
use Rattle.symbol_table.specs.Standings.{Names, is_variable, standing_of}
use Rattle.symbol_table.specs.Symbols.{formals_of}
use Rattle.code_emitter.specs.declared.emitter.Emitter.{Emitter}
use Rattle.code_emitter.specs.Parts.{Codes, none_own, place_in, scene}
use Rattle.stack_codegen.specs.declared.actuals.ActualKind.{ActualKind}
use Rattle.stack_codegen.specs.declared.actuals.ActualKind.TheVariants as kind
use Rattle.stack_codegen.specs.declared.actuals.Given.{Given}
use Rattle.code_emitter.specs.declared.passing.Passing.{Passing}
use Rattle.code_emitter.specs.declared.passing.Passing.TheVariants as passing
use Rattle.code_emitter.specs.Passings as passings
use Rattle.stack_codegen.specs.Codable.{IsCodableActuals, IsCodablePerhaps, sizes_known}
use Rattle.stack_codegen.specs.Operations.{optional_phrase}

-- ---- what is called

-- a name, as phrases have it
abbrev pub name_phrase : Scene → ℕ → Phrase
name_phrase s name = phrases.Named (numbered (numbers_in s).names name)

-- it is a procedure formal with this entry
abbrev pub IsProcedureFormal : Standing → Entry → Type 0
IsProcedureFormal (standing.ProcedureFormal t x) e = x ≡ e
IsProcedureFormal s e = ⊥

-- actuals, as phrases have them
abbrev pub actuals_given : Scene → List TypedActual → Actuals
actuals_given s actuals = actuals_of (phrase_context s) (actuals_in (numbers_in s) actuals)

-- the formals of a procedure
abbrev pub formals_given : Scene → Procedure → List Formal
formals_given s p = map (formal_view s.given) (formals_of s.symbols p)

-- a call at k, behind what begins it
abbrev pub called_code : Scene → Here → (compares : Bool) → (site : Place) → (k : ℕ) → Phrase → Actuals → List ℕ → List code.Coded
called_code s here compares p k a given ts =
    call_code (coding_context s ts here) (place_in s here) compares p k given (call_kind compares (kind_of_stand (stand_of (coding_context s ts here) a))) (stand_of (coding_context s ts here) a)
    (λ formals. code_actuals (coding_context s ts here) (place_in s here) k given formals)
    (λ formals. code_backs (with_entries (1 + length formals) (coding_context s ts here)) (place_in s here) (k + actuals_size (known (coding_context s ts here)) given formals + 1) 0 k given formals)
    (λ l. code_texts (coding_context s ts here) (place_in s here) l given)

abbrev pub CallFits : (compares : Bool) → (name : ℕ) → Scene → typed.Actuals → Type 0
CallFits compares name s actuals = CallSuits (call_kind compares (head_kind (sizes_known s) (name_phrase s name))) (actuals_of (phrase_context s) actuals) × ActualsSuit (sizes_known s) (actuals_of (phrase_context s) actuals)

-- the actuals of a call of what this name stands for
abbrev pub IsCodableCall : Emitter → (compares : Bool) → (name : ℕ) → List TypedActual → Type 0
IsCodableCall e compares name actuals = IsCodableActuals e actuals (CallFits compares name)

-- those of any call
abbrev pub PassedFit : Scene → typed.Actuals → Type 0
PassedFit s actuals = ActualsSuit (sizes_known s) (actuals_of (phrase_context s) actuals)

-- and those that suit the formals of a procedure
abbrev pub InLineFit : Procedure → Scene → typed.Actuals → Type 0
InLineFit p s actuals = ArePassed (actuals_of (phrase_context s) actuals) (formals_given s p) × ActualsSuit (sizes_known s) (actuals_of (phrase_context s) actuals)

-- ---- what becomes pending

-- A part is coded, and these instructions are pending behind those before.
pub record CodesPending (old new : Emitter) (coded : List ℕ → List code.Coded) (marked m : ℕ) (heads : List ℕ) : Type 0 where
  pub codes : Codes none_own old (record new { pending = old.pending }) coded marked m
  pub pending : new.pending.items ≡ old.pending.items ++ heads

-- the first of those pending, but for so many
abbrev pub first_pending : Emitter → ℕ → ℕ
first_pending e pending = slice_index_or e.pending.items pending 0

-- where actuals begin in line, from k on
abbrev pub actual_heads : List sizes.Known → (k : ℕ) → Actuals → List Formal → List ℕ
actual_heads names k (actual_and a rest) (f ∷ formals) = k ∷ actual_heads names (k + actual_size names a f.is) rest formals
actual_heads names k given formals = []

-- ---- marks

-- those of an actual that is made ready, and those of what assigns it back
abbrev pub ready_marks : Actual → typing.FormalType → ℕ
ready_marks (phrases.Given v g first a) (typing.by_result t) = 0
ready_marks a f = actual_marks a

abbrev pub back_marks : Actual → typing.FormalType → ℕ
back_marks (phrases.Given v (types.Simple u) first a) (typing.by_result t) = 1 + marks a
back_marks a f = 0

-- each may be an aside
abbrev pub all_ready_marks : Actuals → List Formal → ℕ
all_ready_marks (actual_and a rest) (f ∷ formals) = max (1 + ready_marks a f.is) (all_ready_marks rest formals)
all_ready_marks given formals = 0

abbrev pub all_back_marks : Actuals → List Formal → ℕ
all_back_marks (actual_and a rest) (f ∷ formals) = max (back_marks a f.is) (all_back_marks rest formals)
all_back_marks given formals = 0

-- ---- actuals

abbrev pub actual_in : Scene → ActualKind → Actual
actual_in s (kind.Given g) = phrases.Given g.is_variable (gives_view (numbers_in s) g.gives) g.first (optional_phrase s g.phrase)
actual_in s (kind.Alone p name) = phrases.Alone p (name_phrase s name)
actual_in s (kind.Subarray name subscripts) = phrases.Subarray (name_phrase s name) (subscripts_of (phrase_context s) (actuals_in (numbers_in s) subscripts.now))

abbrev pub SubscriptsFit : Scene → typed.Actuals → Type 0
SubscriptsFit s subscripts = SubscriptsSuit (sizes_known s) (subscripts_of (phrase_context s) subscripts)

-- what is coded of an actual may be
abbrev pub IsCodableKind : Emitter → ActualKind → Type 0
IsCodableKind e (kind.Given g) = IsCodablePerhaps e g.phrase × view.GivesFits e.code.given g.gives
IsCodableKind e (kind.Alone p name) = name < length e.code.given.names
IsCodableKind e (kind.Subarray name subscripts) = (name < length e.code.given.names) × IsCodableActuals e subscripts.now SubscriptsFit

-- what is in it is in the phrase
abbrev pub IsWithin : Node → ActualKind → Type 0
IsWithin node (kind.Given g) = (n : Node) → option_copied g.phrase ≡ Some n → n ≡ node
IsWithin node (kind.Alone p name) = ⊤
IsWithin node (kind.Subarray name subscripts) = (ns : Numbers) → (x : Place) × (q : Place) × (rest : typed.Lists) × (program.kind_view ns node.kind ≡ typed.Named x (typed.list_and (typed.OfActuals q (actuals_in ns subscripts.now)) rest))

-- the number of a type in it
abbrev pub GivenFit : view.Given → ActualKind → Type 0
GivenFit s (kind.Given g) = view.GivesFits s g.gives
GivenFit s a = ⊤

-- by the name in front
abbrev pub is_variable_kind : Names → NodeKind → Bool
is_variable_kind names (Named' n shape lists) = is_variable (standing_of names n)
is_variable_kind names k = false

-- the actual of a phrase
abbrev pub passed : Scene → typed.Node → Actual
passed s node = actual_of (phrase_context s) node

-- what is executed of an actual
abbrev pub content_code : Context → Place → instr.Mode → (k : ℕ) → Actual → List code.Coded
content_code c w u k (phrases.Given v g first a) = coding.code c w u k a
content_code c w u k (phrases.Alone p a) = bare_call c w p k (stand_of c a)
content_code c w u k (phrases.Subarray a given) = code_subscripts c w k given ▸ subarray_code c w (stars_of given) (stand_of c a)

-- how the text of an actual begins
abbrev pub text_first : Place → Actual → Place
text_first w (phrases.Given v g first a) = first
text_first w (phrases.Alone p a) = p
text_first w (phrases.Subarray a given) = w

abbrev pub text_reading : Context → Actual → instr.Reading
text_reading c (phrases.Given v g first a) = instr.as_phrase v g
text_reading c (phrases.Alone p a) = reading_of_name c (stand_of c a)
text_reading c (phrases.Subarray a given) = reading_of_subarray c (free_of given) (stand_of c a)

pub record IsHead (e : Emitter) (here : Here) (a : Actual) (head : TextHead) : Type 0 where
  pub fits : TextFits e.code.given head
  pub first : head.first ≡ text_first (place_in (scene e) here) a
  pub reading : (ts : List ℕ) → reading_view e.code.given (linked_reading ts head.reading) ≡ text_reading (coding_context (scene e) ts here) a

-- ---- how actuals are passed in line

abbrev pub passing_of : view.Given → ActualKind → FormalType → Passing
passing_of s (kind.Given g) f = passings.of_phrase s g.is_variable g.gives f
passing_of s (kind.Alone p name) f = passings.of_name name f
passing_of s (kind.Subarray name subscripts) f = passing.Subarray

-- ---- the same through a procedure formal

-- a call that compares, as it is added
abbrev pub compared_call : Emitter → List ℕ → (call : ℕ) → CallView
compared_call e ts call = call_of (linked_added ts e.code.added) call

-- the preparing of actuals whose texts have these heads, from the i-th on
abbrev pub heads_prepared : Place → instr.Source → (i : ℕ) → List ℕ → List code.Coded
heads_prepared w s i [] = []
heads_prepared w s i (k ∷ heads) = one w (instr.Prepare s i k) ▸ one w instr.End ▸ one w instr.Push ▸ heads_prepared w s (i + 1) heads

-- assigning back to an actual that gives a value
abbrev pub placed_kind : Place → (i k : ℕ) → Option types.ValueType → List code.Coded
placed_kind w i k None = []
placed_kind w i k (Some t) = place_back_by w i k (types.Simple t)
