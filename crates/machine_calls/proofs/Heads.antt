-- Heads are found in code in memory as the table finds them.
use Rattle.std.proofs.Common.{◌≡◌, ℕ, zero, suc, ◌<◌, ◌≤◌, List, [], ◌∷◌, Option, Some, None, length, map, refl, sym, ap, ◌∙◌, subst, arith}
use Rattle.std.specs.Prelude.{slice_get, slice_index_or}
use Rattle.std.specs.Option.{option_map, option_and_then}
use Rattle.std.proofs.lemmas.Option.{slice_get-map, slice_get_within, slice_get_past, slice_get-get_or, get_or_from_slice_get}
use Rattle.stack_code.specs.declared.heads.ProcedureHead.{ProcedureHead}
use Rattle.stack_code.specs.declared.heads.TextHead.{TextHead}
use Rattle.stack_code.specs.declared.instructions.Coded.{Coded}
use Rattle.stack_code.specs.declared.instructions.Instr.{Instr}
use Rattle.stack_code.specs.declared.instructions.Instr.TheVariants as instr
use Rattle.stack_code.specs.CodeView.{CodeView, instructions_view, coded_view, instr_view, procedure_view, text_head_view}
use Rattle.stack_code.specs.Limits.{CodeRuns, InstrRuns}
use Rattle.stack_code.specs.Code as code
use Rattle.machine_calls.specs.Found.{procedure_number, text_number, procedure_at, text_at}

-- what a list has at a number within it
pub or_found : {A B : Type 0} (f : A → B) (xs : List A) (n : ℕ) (d : B) → n < length xs → Some (slice_index_or (map f xs) n d) ≡ option_map f (slice_get xs n)
or_found f [] n d h = absurd (omega (arith, h))
or_found f (x ∷ xs) zero d h = refl
or_found f (x ∷ xs) (suc n) d h = or_found f xs n d (omega (arith, h))

module _ (c : CodeView) where
  -- the instruction at a number, as the table has it
  seen_at : (k : ℕ) → slice_get (instructions_view c) k ≡ option_map (coded_view c.given c.added) (slice_get c.instructions k)
  seen_at k = slice_get-map (coded_view c.given c.added) c.instructions k

  procedure_in_is : (i : Instr) → InstrRuns c.given c.added i → code.procedure_in (instr_view c.given c.added i) ≡ option_map (procedure_view c.given) (option_and_then (λ n. slice_get c.added.procedures n) (procedure_number i))
  procedure_in_is (instr.Procedure n behind) h = or_found (procedure_view c.given) c.added.procedures n _ h
  procedure_in_is i h = refl

  text_in_is : (i : Instr) → InstrRuns c.given c.added i → code.text_in (instr_view c.given c.added i) ≡ option_map (text_head_view c.given) (option_and_then (λ n. slice_get c.added.texts n) (text_number i))
  text_in_is (instr.Text n behind) h = or_found (text_head_view c.given) c.added.texts n _ h
  text_in_is i h = refl

  fits_at : CodeRuns c → (k : ℕ) (i : Coded) → slice_get c.instructions k ≡ Some i → InstrRuns c.given c.added i.does
  fits_at f k i e = subst (λ (x : Coded). InstrRuns c.given c.added x.does) (get_or_from_slice_get c.instructions k i i e) (f.instructions k i (slice_get_within c.instructions k i e))

  module _ (f : CodeRuns c) where
    procedure_by : (k : ℕ) (o : Option Coded) → slice_get c.instructions k ≡ o → code.procedure_of (option_map (coded_view c.given c.added) o) ≡ option_map (procedure_view c.given) (option_and_then (λ n. slice_get c.added.procedures n) (option_and_then (λ i. procedure_number i.does) o))
    procedure_by k None e = refl
    procedure_by k (Some i) e = procedure_in_is i.does (fits_at f k i e)

    pub procedure_found : (k : ℕ) → code.procedure_head (instructions_view c) k ≡ option_map (procedure_view c.given) (procedure_at c k)
    procedure_found k = ap code.procedure_of (seen_at k) ∙ procedure_by k (slice_get c.instructions k) refl

    text_by : (k : ℕ) (o : Option Coded) → slice_get c.instructions k ≡ o → code.text_of (option_map (coded_view c.given c.added) o) ≡ option_map (text_head_view c.given) (option_and_then (λ n. slice_get c.added.texts n) (option_and_then (λ i. text_number i.does) o))
    text_by k None e = refl
    text_by k (Some i) e = text_in_is i.does (fits_at f k i e)

    pub text_found : (k : ℕ) → code.text_head (instructions_view c) k ≡ option_map (text_head_view c.given) (text_at c k)
    text_found k = ap code.text_of (seen_at k) ∙ text_by k (slice_get c.instructions k) refl

-- a head stands within the code
pub procedure_within : (c : CodeView) (k : ℕ) (p : ProcedureHead) → procedure_at c k ≡ Some p → k < length c.instructions
procedure_within c k p e = within (slice_get c.instructions k) refl e where
  within : (o : Option Coded) → slice_get c.instructions k ≡ o → option_and_then (λ n. slice_get c.added.procedures n) (option_and_then (λ i. procedure_number i.does) o) ≡ Some p → k < length c.instructions
  within None h e = absurd (cc e)
  within (Some i) h e = slice_get_within c.instructions k i h

pub text_within : (c : CodeView) (k : ℕ) (t : TextHead) → text_at c k ≡ Some t → k < length c.instructions
text_within c k t e = within (slice_get c.instructions k) refl e where
  within : (o : Option Coded) → slice_get c.instructions k ≡ o → option_and_then (λ n. slice_get c.added.texts n) (option_and_then (λ i. text_number i.does) o) ≡ Some t → k < length c.instructions
  within None h e = absurd (cc e)
  within (Some i) h e = slice_get_within c.instructions k i h

-- ---- as the code reads them

pub got : {X : Type 0} (xs : List X) (k : ℕ) (x : X) → k < length xs → x ≡ slice_index_or xs k x → slice_get xs k ≡ Some x
got xs k x h e = slice_get-get_or xs k x h ∙ ap (λ z. Some z) (sym e)

module _ (c : CodeView) (k : ℕ) (i : Coded) (within : k < length c.instructions) (is : i ≡ slice_index_or c.instructions k i) where
  coded_is : slice_get c.instructions k ≡ Some i
  coded_is = got c.instructions k i within is

  pub procedure_read : (n behind : ℕ) (p : ProcedureHead) → i.does ≡ instr.Procedure n behind → n < length c.added.procedures → p ≡ slice_index_or c.added.procedures n p → procedure_at c k ≡ Some p
  procedure_read n behind p d h e =
      ap (λ o. option_and_then (λ n. slice_get c.added.procedures n) (option_and_then (λ (x : Coded). procedure_number x.does) o)) coded_is
      ∙ ap (λ (x : Instr). option_and_then (λ n. slice_get c.added.procedures n) (procedure_number x)) d
      ∙ got c.added.procedures n p h e

  pub no_procedure_read : procedure_number i.does ≡ None → procedure_at c k ≡ None
  no_procedure_read d =
      ap (λ o. option_and_then (λ n. slice_get c.added.procedures n) (option_and_then (λ (x : Coded). procedure_number x.does) o)) coded_is
      ∙ ap (λ o. option_and_then (λ n. slice_get c.added.procedures n) o) d

  pub text_read : (n behind : ℕ) (t : TextHead) → i.does ≡ instr.Text n behind → n < length c.added.texts → t ≡ slice_index_or c.added.texts n t → text_at c k ≡ Some t
  text_read n behind t d h e =
      ap (λ o. option_and_then (λ n. slice_get c.added.texts n) (option_and_then (λ (x : Coded). text_number x.does) o)) coded_is
      ∙ ap (λ (x : Instr). option_and_then (λ n. slice_get c.added.texts n) (text_number x)) d
      ∙ got c.added.texts n t h e

  pub no_text_read : text_number i.does ≡ None → text_at c k ≡ None
  no_text_read d =
      ap (λ o. option_and_then (λ n. slice_get c.added.texts n) (option_and_then (λ (x : Coded). text_number x.does) o)) coded_is
      ∙ ap (λ o. option_and_then (λ n. slice_get c.added.texts n) o) d

-- past the end there is none
pub no_procedure_past : (c : CodeView) (k : ℕ) → length c.instructions ≤ k → procedure_at c k ≡ None
no_procedure_past c k h = ap (λ o. option_and_then (λ n. slice_get c.added.procedures n) (option_and_then (λ (x : Coded). procedure_number x.does) o)) (slice_get_past c.instructions k h)

pub no_text_past : (c : CodeView) (k : ℕ) → length c.instructions ≤ k → text_at c k ≡ None
no_text_past c k h = ap (λ o. option_and_then (λ n. slice_get c.added.texts n) (option_and_then (λ (x : Coded). text_number x.does) o)) (slice_get_past c.instructions k h)
