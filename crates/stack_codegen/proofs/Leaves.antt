-- Phrases that are one instruction.
use Rattle.std.proofs.Common.{◌≡◌, ℕ, List, true, refl}
use Rattle.value_ops.specs.declared.values.Value.TheVariants as value
use Rattle.program_meaning.specs.Phrases as phrases
use Rattle.program_meaning.specs.Phrases.{Phrase}
use Rattle.stack_code.specs.CodeView.{CodeFits, InstrFits}
use Rattle.stack_code.specs.declared.instructions.Constant.TheVariants as constant
use Rattle.stack_code.specs.declared.instructions.Instr.{Instr}
use Rattle.stack_code.specs.declared.instructions.Instr.TheVariants as held
use Rattle.stack_code.specs.declared.instructions.Mode.{Mode}
use Rattle.symbol_table.specs.declared.here.Here.{Here}
use Rattle.code_emitter.specs.declared.emitter.Emitter.{Emitter}
use Rattle.code_emitter.specs.Appending.{appended, with_quoted}
use Rattle.code_emitter.specs.Parts.{CodesPhrase, none_own}
use Rattle.code_emitter.proofs.Joining.{codes_is, codes_plain}
use Rattle.code_emitter.proofs.Singles.{quoted_codes}
use Rattle.stack_codegen.specs.Operations.{missing_phrase, stands_missing}

pub missing_fits : (e : Emitter) (i : Instr) → stands_missing i ≡ true → InstrFits e.code.given e.code.added i
missing_fits e (held.Constant (constant.Str n)) h = absurd (cc h)
missing_fits e (held.Constant (constant.Integer n)) h = tt
missing_fits e (held.Constant (constant.Logical b)) h = tt
missing_fits e (held.Constant (constant.Bits b)) h = tt
missing_fits e (held.Constant constant.Null) h = tt
missing_fits e held.Nothing h = tt
missing_fits e i h = absurd (cc h)

-- what stands for a phrase that is missing
pub missing_codes : {a b : Emitter} (here : Here) (wanted : Mode) (i : Instr) → stands_missing i ≡ true → CodeFits a.code → b ≡ appended a here i → CodesPhrase a b here wanted (missing_phrase i) 0
missing_codes here wanted (held.Constant (constant.Str n)) h f e = absurd (cc h)
missing_codes {a} here wanted (held.Constant (constant.Integer n)) h f e = codes_is e (codes_plain none_own a here (held.Constant (constant.Integer n)) f tt refl)
missing_codes {a} here wanted (held.Constant (constant.Logical b)) h f e = codes_is e (codes_plain none_own a here (held.Constant (constant.Logical b)) f tt refl)
missing_codes {a} here wanted (held.Constant (constant.Bits b)) h f e = codes_is e (codes_plain none_own a here (held.Constant (constant.Bits b)) f tt refl)
missing_codes {a} here wanted (held.Constant constant.Null) h f e = codes_is e (codes_plain none_own a here (held.Constant constant.Null) f tt refl)
missing_codes {a} here wanted held.Nothing h f e = codes_is e (codes_plain none_own a here held.Nothing f tt refl)
missing_codes here wanted i h f e = absurd (cc h)

pub quoted_done : {a b : Emitter} (here : Here) (wanted : Mode) (text : List ℕ) → CodeFits a.code → b ≡ with_quoted a here text → CodesPhrase a b here wanted (phrases.Constant (value.Str text)) 0
quoted_done {a} here wanted text f e = codes_is e (quoted_codes a here text f)
