-- What is appended when a part of a program is coded.
use Rattle.std.specs.Prelude.{◌≡◌, ◌≤◌, ◌<◌, ℕ, ◌+◌, List, ◌++◌, length, take, slice_index_or, Option, Some, None, Bool, true, false}
use Rattle.value_ops.specs.declared.places.Place.{Place}
use Rattle.algolw_typing.specs.Typed as typed
use Rattle.program_meaning.specs.Phrases.{Phrase}
use Rattle.program_meaning.specs.Translating.{phrase_of}
use Rattle.phrase_code.specs.Coding as coding
use Rattle.phrase_code.specs.Coding.{one}
use Rattle.phrase_code.specs.Marks.{marks}
use Rattle.stack_code.specs.Code as code
use Rattle.stack_code.specs.CodeView.{Added, CodeFits, instr_view, instructions_view, mode_view, statement_view}
use Rattle.stack_code.specs.Instr as instr
use Rattle.stack_code.specs.Linking.{instruction_at, linked, linked_added, linked_instr}
use Rattle.stack_code.specs.Making.{nothing_added}
use Rattle.stack_code.specs.declared.instructions.Constant.TheVariants as constant
use Rattle.stack_code.specs.declared.instructions.Instr.{Instr}
use Rattle.stack_code.specs.declared.instructions.Instr.TheVariants as held
use Rattle.stack_code.specs.declared.instructions.Mode.{Mode}
use Rattle.symbol_table.specs.declared.here.Here.{Here}
use Rattle.symbol_table.specs.Contexts.{Scene, SceneFits, coding_context, phrase_context}
use Rattle.code_emitter.specs.declared.emitter.Emitter.{Emitter}

abbrev pub scene : Emitter → Scene
scene e = record { given = e.code.given; symbols = e.symbols }

-- the number of the next instruction
abbrev pub next : Emitter → ℕ
next e = length e.code.instructions

-- all that is known by now fits
pub record EmitterFits (e : Emitter) : Type 0 where
  pub scene : SceneFits (scene e)
  pub code : CodeFits e.code

-- ---- targets

-- these instructions are at the targets that are known
abbrev pub Meets : (known : List (Option ℕ)) → (ts : List ℕ) → Type 0
Meets known ts = (n v : ℕ) → slice_index_or known n None ≡ Some v → instruction_at ts n ≡ v

-- the targets of a block's own procedures or items, from the first on
pub record Own : Type 0 where
  pub first : ℕ
  pub count : ℕ

abbrev pub none_own : Own
none_own = record { first = 0; count = 0 }

abbrev pub IsOwn : Own → ℕ → Type 0
IsOwn own n = (own.first ≤ n) × (n < own.first + own.count)

-- nothing is known of one's own targets yet
abbrev pub AreOpen : Own → List (Option ℕ) → Type 0
AreOpen own targets = (n : ℕ) → IsOwn own n → slice_index_or targets n None ≡ None

-- ---- what is coded

-- the instructions by now, where these are at the targets
abbrev pub linked_code : List ℕ → Emitter → List code.Coded
linked_code ts e = instructions_view (linked ts e.code)

-- tables have what they had, at the same numbers
pub record TablesGrow (old new : Added) : Type 0 where
  pub strings : take (length old.strings) new.strings ≡ old.strings
  pub procedures : take (length old.procedures) new.procedures ≡ old.procedures
  pub texts : take (length old.texts) new.texts ≡ old.texts
  pub calls : take (length old.calls) new.calls ≡ old.calls
  pub stars : take (length old.stars) new.stars ≡ old.stars

-- what stays when a part is coded: what is known of names, what numbers stand for, what is pending, and the targets of others
pub record Stays (own : Own) (old new : Emitter) : Type 0 where
  pub scene : scene new ≡ scene old
  pub tables : TablesGrow old.code.added new.code.added
  pub pending : new.pending.items ≡ old.pending.items
  pub longer : length old.targets.items ≤ length new.targets.items
  pub others : (n : ℕ) → n < length old.targets.items → (IsOwn own n → ⊥) → slice_index_or new.targets.items n None ≡ slice_index_or old.targets.items n None
  pub fits : CodeFits new.code

-- A part is coded, which may have so many marks in each other: whichever instructions are at the targets that aren't known yet, its code stands
-- behind that before.
pub record Codes (own : Own) (old new : Emitter) (coded : List ℕ → List code.Coded) (marked m : ℕ) : Type 0 where
  pub stays : Stays own old new
  pub behind : (ts : List ℕ) → Meets new.targets.items ts → linked_code ts new ≡ linked_code ts old ++ coded ts
  pub most : m ≡ marked

-- the code of a phrase that is wanted so, from an instruction on
abbrev pub code_at : Scene → Here → Mode → (k : ℕ) → Phrase → List ℕ → List code.Coded
code_at s here mode k a ts = coding.code (coding_context s ts here) (statement_view s.given here.statement) (mode_view mode) k a

-- A phrase is coded.
abbrev pub CodesPhrase : (old new : Emitter) → Here → Mode → Phrase → ℕ → Type 0
CodesPhrase old new here mode a m = Codes none_own old new (code_at (scene old) here mode (next old) a) (marks a) m

-- the phrase that is executed for a typed tree
abbrev pub phrase_in : Scene → typed.Node → Phrase
phrase_in s node = phrase_of (phrase_context s) node

-- ---- single instructions

abbrev pub place_in : Scene → Here → Place
place_in s here = statement_view s.given here.statement

-- an instruction as the definitions have it, where these instructions are at the targets
abbrev pub instr_in : Emitter → List ℕ → Instr → instr.Instr
instr_in e ts does = instr_view e.code.given (linked_added ts e.code.added) (linked_instr ts does)

-- an instruction that has no number of a string, a head, a call or stars
abbrev pub is_plain : Instr → Bool
is_plain (held.Constant (constant.Str n)) = false
is_plain (held.Procedure n behind) = false
is_plain (held.Text n behind) = false
is_plain (held.Subarray links position n) = false
is_plain (held.Compare n) = false
is_plain (held.Prepare n i) = false
is_plain (held.CallThrough site n) = false
is_plain i = true

-- it is the same whatever is added
abbrev pub plain : Scene → List ℕ → Instr → instr.Instr
plain s ts does = instr_view s.given nothing_added (linked_instr ts does)

abbrev pub one_in : Scene → Here → List ℕ → Instr → List code.Coded
one_in s here ts does = one (place_in s here) (plain s ts does)
