-- Phrases with what is done behind them.
use Rattle.std.specs.Prelude.{◌≡◌, ℕ, ◌+◌, ◌==◌, if◌then◌else◌, max, Bool, true, false, Option, Some, None}
use Rattle.std.specs.Borrow.{Bor}
use Rattle.algolw_tree.specs.declared.programs.Node.{Node}
use Rattle.value_ops.specs.declared.values.ClassId.{ClassId}
use Rattle.value_ops.specs.declared.values.SimpleType.TheVariants as simple
use Rattle.algolw_tree.specs.declared.programs.Gives.{Gives}
use Rattle.algolw_tree.specs.declared.programs.Gives.TheVariants as gives
use Rattle.algolw_tree.specs.declared.standard.UnaryOp.{UnaryOp}
use Rattle.algolw_tree.specs.declared.standard.UnaryOp.TheVariants as unary
use Rattle.program_meaning.specs.Phrases as phrases
use Rattle.program_meaning.specs.Phrases.{Phrase}
use Rattle.phrase_code.specs.Coding.{◌▸◌}
use Rattle.phrase_code.specs.Marks.{marks}
use Rattle.stack_code.specs.CodeView.{constant_view}
use Rattle.stack_code.specs.Making.{nothing_added}
use Rattle.stack_code.specs.declared.instructions.Constant.TheVariants as constant
use Rattle.stack_code.specs.declared.instructions.Instr.{Instr}
use Rattle.stack_code.specs.declared.instructions.Instr.TheVariants as held
use Rattle.stack_code.specs.declared.instructions.Mode.{Mode}
use Rattle.stack_code.specs.declared.instructions.Mode.TheVariants as mode
use Rattle.symbol_table.specs.declared.here.Here.{Here}
use Rattle.symbol_table.specs.Contexts.{Scene}
use Rattle.code_emitter.specs.declared.emitter.Emitter.{Emitter}
use Rattle.code_emitter.specs.Forms.{before, pair}
use Rattle.code_emitter.specs.Parts.{Codes, CodesPhrase, code_at, next, none_own, one_in, phrase_in, scene}
use Rattle.stack_codegen.specs.declared.phrases.Branch.{Branch}
use Rattle.stack_codegen.specs.Codable.{IsCodablePerhaps, node_in}

-- ---- phrases that may be missing

-- the phrase whose code is an instruction that stands where none is written
abbrev pub missing_phrase : Instr → Phrase
missing_phrase (held.Constant c) = phrases.Constant (constant_view nothing_added c)
missing_phrase i = phrases.Empty

abbrev pub stands_missing : Instr → Bool
stands_missing (held.Constant (constant.Str n)) = false
stands_missing (held.Constant c) = true
stands_missing held.Nothing = true
stands_missing i = false

abbrev pub perhaps_phrase : Scene → Option (Bor Node) → Instr → Phrase
perhaps_phrase s None missing = missing_phrase missing
perhaps_phrase s (Some a) missing = phrase_in s (node_in a.now s)

abbrev pub branch_phrase : Scene → Branch → Phrase
branch_phrase s b = perhaps_phrase s b.phrase b.missing

pub record IsCodableBranch (e : Emitter) (b : Branch) : Type 0 where
  pub phrase : IsCodablePerhaps e b.phrase
  pub missing : stands_missing b.missing ≡ true

-- ---- an instruction behind phrases

-- The value of a phrase is coded, and an instruction behind it.
abbrev pub CodesBefore : (old new : Emitter) → Here → Phrase → Instr → ℕ → Type 0
CodesBefore old new here a does m = Codes none_own old new (before here a does (scene old) (next old)) (marks a) m

-- The same as a statement.
abbrev pub CodesStatement : (old new : Emitter) → Here → Phrase → Instr → ℕ → Type 0
CodesStatement old new here a does m = Codes none_own old new (λ ts. one_in (scene old) here ts held.Begin ▸ code_at (scene old) here mode.Value (next old + 1) a ts ▸ one_in (scene old) here ts does) (marks a) m

-- Two phrases are coded, of which the first is wanted so and pushed, and an instruction behind them.
abbrev pub CodesPair : (old new : Emitter) → Here → Mode → (a b : Phrase) → Instr → ℕ → Type 0
CodesPair old new here u a b does m = Codes none_own old new (pair here u a b does (scene old) (next old)) (max (marks a) (marks b)) m

-- ---- what goes on behind a phrase

-- Where a phrase is coded that is wanted so, and may have so many marks in each other, one that it is part of is coded now.
abbrev pub Continues : (old new : Emitter) → Here → Mode → (Phrase → Phrase) → (before after : ℕ) → Type 0
Continues old new here u f before after = (first : Emitter) (a : Phrase) → CodesPhrase first old here u a before → CodesPhrase first new here u (f a) after

-- an IF that is neither a statement nor made into a type
abbrev pub choice : Phrase → Phrase → Phrase → Phrase
choice a b d = phrases.IfThen None None a b d

abbrev pub optional_phrase : Scene → Option (Bor Node) → Phrase
optional_phrase s a = perhaps_phrase s a held.Nothing

-- ---- what phrases do

abbrev pub is_logical : Option Gives → Bool
is_logical (Some (gives.Simple simple.Logical)) = true
is_logical g = false

abbrev pub negation_by : Bool → UnaryOp
negation_by true = unary.Not
negation_by false = unary.Complement

abbrev pub negation : Option Gives → UnaryOp
negation g = negation_by (is_logical g)

abbrev pub class_test : Option ClassId → Instr
class_test None = held.Stuck
class_test (Some c) = held.IsClass c

-- what is wanted of the first of so many operands more: what is wanted of all, where there are no others
abbrev pub first_wanted : Mode → ℕ → Mode
first_wanted u others = if others == 0 then u else mode.Value
