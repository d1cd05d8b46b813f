-- Numbers stay ones that the tables hold while instructions are added and changed.
use Rattle.std.proofs.Common.{◌≡◌, ℕ, ◌≤◌, List, [], ◌∷◌, ◌++◌, length, sym, subst, get_or, slice_set, arith}
use Rattle.std.specs.List.{All}
use Rattle.std.proofs.lemmas.List.{length-append}
use Rattle.std.proofs.lemmas.List.Elements.{All-push, All-set}
use Rattle.stack_code.specs.declared.heads.ProcedureHead.{ProcedureHead}
use Rattle.stack_code.specs.declared.instructions.Coded.{Coded}
use Rattle.stack_code.specs.declared.instructions.Constant.{Constant}
use Rattle.stack_code.specs.declared.instructions.Constant.TheVariants as constant
use Rattle.stack_code.specs.declared.instructions.Instr.{Instr}
use Rattle.stack_code.specs.declared.instructions.Instr.TheVariants as held
use Rattle.stack_code.specs.CodeView.{Added, CodeView, CodeFits, ConstantFits, Given, InstrFits, ProcedureFits}

-- these instructions in place of the code's
abbrev pub instead : CodeView → List Coded → CodeView
instead c is = record c { instructions = is }

pub fits_appended : (c : CodeView) (i : Coded) (is : List Coded) → is ≡ c.instructions ++ i ∷ [] → CodeFits c → InstrFits c.given c.added i.does → CodeFits (instead c is)
fits_appended c i is e h f = record {
  instructions = subst (λ l. All (λ (x : Coded). InstrFits c.given c.added x.does) l) (sym e) (All-push (λ (x : Coded). InstrFits c.given c.added x.does) c.instructions i h.instructions f);
  given = h.given;
  procedures = h.procedures;
  texts = h.texts;
}

pub fits_replaced : (c : CodeView) (n : ℕ) (i : Coded) → CodeFits c → InstrFits c.given c.added i.does → CodeFits (instead c (slice_set c.instructions n i))
fits_replaced c n i h f = record {
  instructions = All-set (λ (x : Coded). InstrFits c.given c.added x.does) c.instructions n i f h.instructions;
  given = h.given;
  procedures = h.procedures;
  texts = h.texts;
}

-- ---- where a procedure is added

constant_more : (a : Added) (ps : List ProcedureHead) (c : Constant) → ConstantFits a c → ConstantFits (record a { procedures = ps }) c
constant_more a ps (constant.Str n) f = f
constant_more a ps c f = f

instr_more : (g : Given) (a : Added) (ps : List ProcedureHead) → length a.procedures ≤ length ps → (i : Instr) → InstrFits g a i → InstrFits g (record a { procedures = ps }) i
instr_more g a ps h (held.Procedure n behind) f = omega (arith, f, h)
instr_more g a ps h (held.Constant c) f = constant_more a ps c f
instr_more g a ps h i f = f

longer : {X : Type 0} (xs : List X) (x : X) → length xs ≤ length (xs ++ x ∷ [])
longer xs x = omega (arith, length-append xs (x ∷ []))

pub fits_with_procedure : (c : CodeView) (p : ProcedureHead) (ps : List ProcedureHead) → ps ≡ c.added.procedures ++ p ∷ [] → CodeFits c → ProcedureFits c.given p → CodeFits (record c { added = record c.added { procedures = ps } })
fits_with_procedure c p ps e h f = record {
  given = h.given;
  instructions = λ k d there. instr_more c.given c.added ps (subst (λ l. length c.added.procedures ≤ length l) (sym e) (longer c.added.procedures p)) (get_or c.instructions k d).does (h.instructions k d there);
  procedures = subst (All (ProcedureFits c.given)) (sym e) (All-push (ProcedureFits c.given) c.added.procedures p h.procedures f);
  texts = h.texts;
}
