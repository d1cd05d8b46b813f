-- The code of greater parts, told by what is known of names and by where it begins.
use Rattle.std.specs.Prelude.{ℕ, zero, suc, ◌+◌, List, [], ◌∷◌, replicate, Option}
use Rattle.value_ops.specs.declared.places.Place.{Place}
use Rattle.value_ops.specs.declared.values.SimpleType.{SimpleType}
use Rattle.program_meaning.specs.Phrases.{Empty, Name, Phrase, Phrases, no_phrases, phrase_and}
use Rattle.phrase_code.specs.Coding as coding
use Rattle.phrase_code.specs.Coding.{◌▸◌, code_parts, jumps_code, known, make_code, one, phrase_count, turn_context}
use Rattle.phrase_code.specs.Sizes.{Known, jumps_size, parts_size, size}
use Rattle.stack_code.specs.Code as code
use Rattle.stack_code.specs.CodeView.{kinds_view}
use Rattle.stack_code.specs.Instr as instr
use Rattle.stack_code.specs.declared.instructions.Instr.{Instr}
use Rattle.stack_code.specs.declared.instructions.Instr.TheVariants as held
use Rattle.stack_code.specs.declared.instructions.Mode.{Mode}
use Rattle.stack_code.specs.declared.instructions.Mode.TheVariants as mode
use Rattle.symbol_table.specs.declared.here.Here.{Here}
use Rattle.symbol_table.specs.Contexts.{Scene, coding_context}
use Rattle.code_emitter.specs.Appending.{replaced}
use Rattle.code_emitter.specs.Parts.{code_at, one_in, place_in}
use Rattle.code_emitter.specs.declared.emitter.Emitter.{Emitter}

-- code by what is known of names, by where it begins, and by the instructions at targets
abbrev pub Form : Type 0
Form = Scene → ℕ → List ℕ → List code.Coded

-- how many instructions a phrase has here
abbrev pub sized : Scene → Here → Phrase → List ℕ → ℕ
sized s here x ts = size (known (coding_context s ts here)) x

-- the value of a phrase, and an instruction behind it
abbrev pub before : Here → Phrase → Instr → Form
before here x does s k ts = code_at s here mode.Value k x ts ▸ one_in s here ts does

-- two phrases, the first pushed, and an instruction behind them
abbrev pub pair : Here → Mode → (x y : Phrase) → Instr → Form
pair here wanted x y does s k ts = code_at s here wanted k x ts ▸ one_in s here ts held.Push ▸ code_at s here mode.Value (k + (sized s here x ts + 1)) y ts ▸ one_in s here ts does

-- a choice, from behind its begin
abbrev pub choice : Here → Option SimpleType → (x y z : Phrase) → Form
choice here t x y z s k ts =
    code_at s here mode.Value k x ts ▸ one (place_in s here) (instr.JumpUnless (k + sized s here x ts + sized s here y ts + 2)) ▸
    code_at s here mode.Value (k + sized s here x ts + 1) y ts ▸ one (place_in s here) (instr.Jump (k + sized s here x ts + sized s here y ts + 2 + sized s here z ts)) ▸
    code_at s here mode.Value (k + sized s here x ts + sized s here y ts + 2) z ts ▸ make_code (place_in s here) (kinds_view s.given t)

-- the body of a FOR with its name, and how many instructions it has
abbrev pub turn : Here → Name → Phrase → Form
turn here x body s k ts = coding.code (turn_context (coding_context s ts here) x) (place_in s here) instr.the_value k body

abbrev pub turn_sized : Scene → Here → Name → Phrase → List ℕ → ℕ
turn_sized s here x body ts = size (known (turn_context (coding_context s ts here) x)) body

-- ---- the parts of a CASE

-- a part by its number
abbrev pub part_at : ℕ → Phrases → Phrase
part_at i no_phrases = Empty
part_at zero (phrase_and a rest) = a
part_at (suc i) (phrase_and a rest) = part_at i rest

-- jumps that go nowhere yet
abbrev pub jumps_open : Place → ℕ → List code.Coded
jumps_open w n = replicate n (record { at = w; does = instr.Jump 0 })

-- where parts that begin at k jump to the end
abbrev pub part_ends : List Known → ℕ → Phrases → List ℕ
part_ends names k no_phrases = []
part_ends names k (phrase_and a rest) = (k + size names a) ∷ part_ends names (k + (size names a + 1)) rest

-- an instruction at each of these numbers
abbrev pub all_replaced : Emitter → List ℕ → Instr → Emitter
all_replaced e [] does = e
all_replaced e (n ∷ ns) does = replaced (all_replaced e ns does) n does

-- the jumps and the parts, which go to an end
abbrev pub parts_to : Here → ℕ → Phrases → Form
parts_to here end parts s k ts = jumps_code (known (coding_context s ts here)) (place_in s here) (k + phrase_count parts) parts ▸ code_parts (coding_context s ts here) (place_in s here) (k + phrase_count parts) end parts

-- a CASE, from behind its begin
abbrev pub selection : Here → Option SimpleType → Phrase → Phrases → Form
selection here t x parts s k ts =
    code_at s here mode.Value k x ts ▸ one (place_in s here) (instr.Choose (phrase_count parts)) ▸
    jumps_code (known (coding_context s ts here)) (place_in s here) (k + sized s here x ts + 1 + jumps_size parts) parts ▸
    code_parts (coding_context s ts here) (place_in s here) (k + sized s here x ts + 1 + jumps_size parts) (k + sized s here x ts + 1 + jumps_size parts + parts_size (known (coding_context s ts here)) parts) parts ▸ make_code (place_in s here) (kinds_view s.given t)
