-- Lists behind names.
use Rattle.std.specs.Prelude.{◌≡◌, ◌⊎◌, ℕ, ◌+◌, ◌==◌, ◌&&◌, List, [], ◌∷◌, map, Bool, true, false, Option, Some, None}
use Rattle.value_ops.specs.declared.places.Place.{Place}
use Rattle.value_ops.specs.declared.values.SimpleType.{SimpleType}
use Rattle.algolw_tree.specs.declared.programs.Gives.{Gives}
use Rattle.algolw_tree.specs.declared.programs.Node.{Node}
use Rattle.algolw_tree.specs.declared.programs.TypedActual.{TypedActual, Star, Phrase'}
use Rattle.algolw_tree.specs.declared.programs.TypedList.{TypedList}
use Rattle.algolw_typing.specs.Typed as typed
use Rattle.algolw_typing.specs.ProgramView.{Numbers}
use Rattle.program_meaning.specs.Phrases as phrases
use Rattle.program_meaning.specs.Phrases.{Phrase}
use Rattle.program_meaning.specs.Translating as translating
use Rattle.program_meaning.specs.Translating.{first_of, given_of, parts_of, targets_of}
use Rattle.phrase_code.specs.Coding as coding
use Rattle.phrase_code.specs.Coding.{◌▸◌}
use Rattle.phrase_code.specs.Marks.{marks, phrases_marks, targets_marks}
use Rattle.compilable_programs.specs.Suits.{AllSuit, Suits, TargetsSuit}
use Rattle.stack_code.specs.Code as code
use Rattle.stack_code.specs.CodeView.{kind_view}
use Rattle.stack_code.specs.Instr.{the_value}
use Rattle.stack_code.specs.declared.instructions.Instr.TheVariants as held
use Rattle.stack_code.specs.declared.instructions.Mode.{Mode}
use Rattle.stack_code.specs.declared.instructions.Mode.TheVariants as mode
use Rattle.symbol_table.specs.declared.here.Here.{Here}
use Rattle.symbol_table.specs.Contexts.{Scene, coding_context, numbers_in, phrase_context}
use Rattle.symbol_table.specs.Heres.{in_statement, variable_type}
use Rattle.symbol_table.specs.Parts.{actuals_in, lists_in}
use Rattle.symbol_table.specs.Symbols.{field_at, types_of}
use Rattle.code_emitter.specs.declared.emitter.Emitter.{Emitter}
use Rattle.code_emitter.specs.Appending.{appended}
use Rattle.code_emitter.specs.Parts.{Codes, next, none_own, one_in, place_in, scene}
use Rattle.stack_codegen.specs.declared.lists.ListPlan.{ListPlan}
use Rattle.stack_codegen.specs.declared.lists.ListUse.{ListUse}
use Rattle.stack_codegen.specs.declared.lists.ListUse.TheVariants as list
use Rattle.stack_codegen.specs.Codable.{sizes_known}
use Rattle.stack_codegen.specs.Operations.{Continues}

-- ---- what a list has

abbrev pub one_phrase : TypedActual → ℕ
one_phrase (Star q) = 0
one_phrase (Phrase' p f k g s) = 1

-- how many phrases are in it, and how many stars
abbrev pub phrase_count : List TypedActual → ℕ
phrase_count [] = 0
phrase_count (a ∷ rest) = one_phrase a + phrase_count rest

abbrev pub is_star : TypedActual → Bool
is_star (Star q) = true
is_star (Phrase' p f k g s) = false

abbrev pub one_star : TypedActual → ℕ
one_star (Star q) = 1
one_star (Phrase' p f k g s) = 0

abbrev pub star_count : List TypedActual → ℕ
star_count [] = 0
star_count (a ∷ rest) = one_star a + star_count rest

abbrev pub first_and : TypedActual → Option Node → Option Node
first_and (Star q) more = more
first_and (Phrase' p f k g s) more = Some (record { place = p; first = f; kind = k; gives = g; statement = s })

abbrev pub first_phrase : List TypedActual → Option Node
first_phrase [] = None
first_phrase (a ∷ rest) = first_and a (first_phrase rest)

-- the lists behind a name, where the first is one of phrases
abbrev pub begins_with_phrases : typed.Lists → Bool
begins_with_phrases (typed.list_and (typed.OfActuals q given) rest) = true
begins_with_phrases lists = false

abbrev pub AreParted : List TypedList → List TypedActual → List TypedList → Type 0
AreParted lists actuals rest = (ns : Numbers) → (q : Place) × (lists_in ns lists ≡ typed.list_and (typed.OfActuals q (actuals_in ns actuals)) (lists_in ns rest))

-- the actuals of a call, and the lists behind them
abbrev pub AreCalled : List TypedList → List TypedActual → List TypedList → Type 0
AreCalled lists actuals rest = AreParted lists actuals rest ⊎ ((actuals ≡ []) × (rest ≡ lists) × ((ns : Numbers) → begins_with_phrases (lists_in ns lists) ≡ false))

-- ---- what is wanted of the phrases of a list, and done with them

abbrev pub wanted : ListUse → Mode
wanted (list.Read next) = mode.Place
wanted list.ReadCard = mode.Place
wanted use_ = mode.Value

-- a value for a field
abbrev pub with_field : Emitter → Here → Option SimpleType → Emitter
with_field e here None = appended (appended e here held.Stuck) here held.Stuck
with_field e here (Some t) = appended (appended e here (held.Make t)) here held.Push

-- behind the phrase at a position
abbrev pub behind : Emitter → Here → ListUse → ℕ → Option Gives → Emitter
behind e here list.Subscripts n g = appended e here held.Push
behind e here (list.Fields class) n g = with_field e here (field_at e.symbols class n)
behind e here (list.Read next) n g = appended e here (held.Read (next && (n == 0)) (variable_type g))
behind e here list.ReadCard n g = appended e here (held.ReadCard (variable_type g))

-- ---- the code of the phrases of a list, from k on

abbrev pub use_code : Scene → Here → (k : ℕ) → ListUse → typed.Actuals → List ℕ → List code.Coded
use_code s here k list.Subscripts actuals ts = coding.code_each (coding_context s ts here) (place_in s here) k (given_of (phrase_context s) actuals)
use_code s here k (list.Fields class) actuals ts = coding.code_fields (coding_context s ts here) (place_in s here) k (map (kind_view s.given) (types_of s.symbols class)) (given_of (phrase_context s) actuals)
use_code s here k (list.Read next) actuals ts = coding.code_reads (coding_context s ts here) (place_in s here) next k (targets_of (phrase_context s) actuals)
use_code s here k list.ReadCard actuals ts = coding.code_cards (coding_context s ts here) (place_in s here) k (targets_of (phrase_context s) actuals)

abbrev pub use_marks : Scene → ListUse → typed.Actuals → ℕ
use_marks s (list.Read next) actuals = targets_marks (targets_of (phrase_context s) actuals)
use_marks s list.ReadCard actuals = targets_marks (targets_of (phrase_context s) actuals)
use_marks s use_ actuals = phrases_marks (given_of (phrase_context s) actuals)

abbrev pub UseSuits : ListUse → Scene → typed.Actuals → Type 0
UseSuits (list.Read next) s actuals = TargetsSuit (sizes_known s) (targets_of (phrase_context s) actuals)
UseSuits list.ReadCard s actuals = TargetsSuit (sizes_known s) (targets_of (phrase_context s) actuals)
UseSuits use_ s actuals = AllSuit (sizes_known s) (given_of (phrase_context s) actuals)

-- The phrases of a list are coded, each with what is done with it.
abbrev pub CodesListed : (old new : Emitter) → Here → ListUse → List TypedActual → ℕ → Type 0
CodesListed old new here use_ actuals m = Codes none_own old new (use_code (scene old) here (next old) use_ (actuals_in (numbers_in (scene old)) actuals)) (use_marks (scene old) use_ (actuals_in (numbers_in (scene old)) actuals)) m

-- ---- a list and what is done behind it

-- where no use is told, the first phrase counts alone
abbrev pub listed_code : Scene → Here → (k : ℕ) → Option ListUse → typed.Actuals → List ℕ → List code.Coded
listed_code s here k None actuals ts = coding.code (coding_context s ts here) (place_in s here) the_value k (first_of (given_of (phrase_context s) actuals))
listed_code s here k (Some use_) actuals ts = use_code s here k use_ actuals ts

abbrev pub listed_marks : Scene → Option ListUse → typed.Actuals → ℕ
listed_marks s None actuals = marks (first_of (given_of (phrase_context s) actuals))
listed_marks s (Some use_) actuals = use_marks s use_ actuals

abbrev pub ListedSuits : Option ListUse → Scene → typed.Actuals → Type 0
ListedSuits None s actuals = Suits (sizes_known s) (first_of (given_of (phrase_context s) actuals))
ListedSuits (Some use_) s actuals = UseSuits use_ s actuals

abbrev pub begins_code : Bool → Scene → Here → List ℕ → List code.Coded
begins_code false s here ts = []
begins_code true s here ts = one_in s here ts held.Begin

abbrev pub begins_size : Bool → ℕ
begins_size false = 0
begins_size true = 1

abbrev pub list_begun : Emitter → Here → Bool → Emitter
list_begun e here false = e
list_begun e here true = appended e here held.Begin

-- where it is coded: in its statement, if it is one
abbrev pub plan_here : Bool → Here → Option ℕ → Here
plan_here false here statement = here
plan_here true here statement = in_statement here statement

abbrev pub plan_code : Scene → Here → (k : ℕ) → ListPlan → typed.Actuals → List ℕ → List code.Coded
plan_code s here k plan actuals ts = begins_code plan.begins s here ts ▸ listed_code s here (k + begins_size plan.begins) plan.list actuals ts ▸ one_in s here ts plan.does

abbrev pub CodesPlan : (old new : Emitter) → Here → ListPlan → List TypedActual → ℕ → Type 0
CodesPlan old new here plan actuals m = Codes none_own old new (plan_code (scene old) here (next old) plan (actuals_in (numbers_in (scene old)) actuals)) (listed_marks (scene old) plan.list (actuals_in (numbers_in (scene old)) actuals)) m

-- ---- parts of strings

-- the parts of what is given, where that is a string of so many characters
abbrev pub parts_given : translating.Context → Option ℕ → Phrase → typed.Lists → Phrase
parts_given c None a lists = a
parts_given c (Some m) a lists = parts_of c m a lists

abbrev pub PartsSuit : Option ℕ → Scene → typed.Lists → Type 0
PartsSuit whole s lists = Suits (sizes_known s) (parts_given (phrase_context s) whole phrases.Empty lists)

-- Where a phrase is coded, its parts are now, whatever is wanted of it.
abbrev pub ContinuesParts : (old new : Emitter) → Here → Option ℕ → List TypedList → (before after : ℕ) → Type 0
ContinuesParts old new here whole lists before after = (u : Mode) → Continues old new here u (λ a. parts_given (phrase_context (scene old)) whole a (lists_in (numbers_in (scene old)) lists)) before after
