-- What is added to the tables of code in memory leaves its instructions as they are; and what numbers stand for.
use Rattle.std.specs.Prelude.{◌≡◌, ◌==◌, ℕ, ◌<◌, List, [], ◌∷◌, ◌++◌, length, slice_get, slice_set, slice_index_or}
use Rattle.std.specs.Option.{option_map}
use Rattle.value_ops.specs.declared.values.ClassId.{ClassId}
use Rattle.value_ops.specs.declared.values.SetId.{SetId}
use Rattle.record_classes.specs.Classes as classes
use Rattle.algolw_typing.specs.Types.{is_place, has}
use Rattle.algolw_typing.specs.ProgramView.{set_view}
use Rattle.stack_code.specs.Calls.{ComparedCall}
use Rattle.stack_code.specs.declared.heads.ProcedureHead.{ProcedureHead}
use Rattle.stack_code.specs.declared.heads.Stars.{Stars}
use Rattle.stack_code.specs.declared.heads.TextHead.{TextHead}
use Rattle.stack_code.specs.declared.instructions.Instr.{Instr}
use Rattle.stack_code.specs.CodeView.{Given, Added, GivenFits, numbers, class_place, CodeView, CodeFits, instructions_view, coded_view, string_of, procedure_of, text_of, call_of, stars_of, procedure_view, text_head_view, call_view}
use Rattle.stack_code.specs.Making.{with_instruction, with_replaced, with_string, with_procedure, with_text, with_call, with_stars, coded_at}

-- An instruction that is appended is the last one, and one that is replaced another in its place; what is added to the tables is found at its
-- number, and leaves all instructions what they were.
pub record CodeIsMade : Type 0 where
  pub appended : (c : CodeView) (at : ℕ) (does : Instr) → instructions_view (with_instruction c at does) ≡ instructions_view c ++ coded_view c.given c.added (record { at = at; does = does }) ∷ []
  pub replaced : (c : CodeView) (n : ℕ) (does : Instr) → instructions_view (with_replaced c n does) ≡ slice_set (instructions_view c) n (coded_view c.given c.added (record { at = (coded_at c n).at; does = does }))
  pub string : (c : CodeView) (text : List ℕ) → CodeFits c → instructions_view (with_string c text) ≡ instructions_view c
  pub procedure : (c : CodeView) (head : ProcedureHead) → CodeFits c → instructions_view (with_procedure c head) ≡ instructions_view c
  pub text : (c : CodeView) (head : TextHead) → CodeFits c → instructions_view (with_text c head) ≡ instructions_view c
  pub call : (c : CodeView) (call : ComparedCall) → CodeFits c → instructions_view (with_call c call) ≡ instructions_view c
  pub stars : (c : CodeView) (stars : Stars) → CodeFits c → instructions_view (with_stars c stars) ≡ instructions_view c
  pub string_found : (c : CodeView) (text : List ℕ) → string_of (with_string c text).added (length c.added.strings) ≡ text
  pub procedure_found : (c : CodeView) (head : ProcedureHead) → procedure_of c.given (with_procedure c head).added (length c.added.procedures) ≡ procedure_view c.given head
  pub text_found : (c : CodeView) (head : TextHead) → text_of c.given (with_text c head).added (length c.added.texts) ≡ text_head_view c.given head
  pub call_found : (c : CodeView) (call : ComparedCall) → call_of (with_call c call).added (length c.added.calls) ≡ call_view call
  pub stars_found : (c : CodeView) (stars : Stars) → stars_of (with_stars c stars).added (length c.added.stars) ≡ stars.are.items

-- What a number stands for is what the table has there. Two classes are one exactly where their numbers are, and a class is in a set exactly
-- where its number is.
pub record NumbersAreTold : Type 0 where
  pub fetched : (c : CodeView) (k : ℕ) → slice_get (instructions_view c) k ≡ option_map (coded_view c.given c.added) (slice_get c.instructions k)
  pub procedures : (g : Given) (a : Added) (n : ℕ) (d : ProcedureHead) → n < length a.procedures → procedure_of g a n ≡ procedure_view g (slice_index_or a.procedures n d)
  pub texts : (g : Given) (a : Added) (n : ℕ) (d : TextHead) → n < length a.texts → text_of g a n ≡ text_head_view g (slice_index_or a.texts n d)
  pub calls : (a : Added) (n : ℕ) (d : ComparedCall) → n < length a.calls → call_of a n ≡ call_view (slice_index_or a.calls n d)
  pub stars : (a : Added) (n : ℕ) (d : Stars) → n < length a.stars → stars_of a n ≡ (slice_index_or a.stars n d).are.items
  pub same_class : (g : Given) (c d : ClassId) → GivenFits g → c.0 < length g.class_places → d.0 < length g.class_places → is_place (class_place g c) (class_place g d) ≡ (c.0 == d.0)
  pub listed : (g : Given) (s : SetId) (c : ClassId) → GivenFits g → s.0 < length g.classes.sets → c.0 < length g.class_places → has (set_view (numbers g) s.0) (class_place g c) ≡ classes.has (classes.set_of g.classes s) c
