-- What may be coded may be coded behind single steps, and where an instruction that was appended is.
use Rattle.std.proofs.Common.{◌≡◌, ℕ, ◌+◌, ◌<◌, ◌≤◌, max, nat_cmp, List, sym, ap, ◌∙◌, subst, arith}
use Rattle.std.specs.Ordering.{ord_max}
use Rattle.std.proofs.lemmas.Bool.Decides.{nat_tests}
use Rattle.program_soundness.specs.Tables.{Info}
use Rattle.stack_code.specs.Code.{Coded}
use Rattle.stack_code.specs.CodeView.{CodeFits, CodeView, InstrFits}
use Rattle.stack_code.specs.Making.{with_replaced}
use Rattle.stack_code.specs.declared.instructions.Instr.{Instr}
use Rattle.symbol_table.specs.declared.here.Here.{Here}
use Rattle.symbol_table.specs.Contexts.{Scene}
use Rattle.code_emitter.specs.declared.emitter.Emitter.{Emitter}
use Rattle.code_emitter.specs.Appending.{appended, replaced}
use Rattle.code_emitter.specs.Parts.{Codes, Own, Stays, next, none_own}
use Rattle.code_emitter.proofs.Composing.{meets_final, stays_appended, stays_replaced}
use Rattle.code_emitter.proofs.Emitting.{next_appended}
use Rattle.code_emitter.proofs.Joining.{next_behind}
use Rattle.stack_codegen.specs.Codable.{IsReady}
use Rattle.stack_codegen.proofs.Ready.{ready_after}

module _ {a b : Emitter} {is : Scene → List Info} {Known Statements Fitting : Scene → Type 0} where
  pub ready_appended : (here : Here) (does : Instr) → b ≡ appended a here does → InstrFits a.code.given a.code.added does → IsReady a is Known Statements Fitting → IsReady b is Known Statements Fitting
  ready_appended here does q f r = subst (λ (e : Emitter). IsReady e is Known Statements Fitting) (sym q) (ready_after (stays_appended none_own a here does r.fits.code f) r)

  pub ready_replaced : (n : ℕ) (does : Instr) → b ≡ replaced a n does → InstrFits a.code.given a.code.added does → IsReady a is Known Statements Fitting → IsReady b is Known Statements Fitting
  ready_replaced n does q f r = subst (λ (e : Emitter). IsReady e is Known Statements Fitting) (sym q) (ready_after (stays_replaced none_own a n does r.fits.code f) r)

-- instructions only become more
pub not_fewer : {own : Own} {a b : Emitter} {x : List ℕ → List Coded} {p m : ℕ} → Codes own a b x p m → next a ≤ next b
not_fewer {own} {a} {b} {x} part = let e = next_behind _ part (meets_final b.targets.items) in omega (arith, e)

pub one_more : (a : Emitter) {b : Emitter} (here : Here) (does : Instr) → b ≡ appended a here does → next b ≡ next a + 1
one_more a here does q = ap next q ∙ next_appended a here does

-- an instruction is there behind the part that follows it
pub jump_there : {own : Own} (b : Emitter) {c d : Emitter} {x : List ℕ → List Coded} {p m : ℕ} (here : Here) (does : Instr) (jump : ℕ) → jump ≡ next b → c ≡ appended b here does → Codes own c d x p m → jump < next d
jump_there b here does jump q qc part = let e = one_more b here does qc in let l = not_fewer part in omega (arith, q, e, l)

max_is : (a b : ℕ) → ord_max nat_cmp a b ≡ max a b
max_is a b = grind (arith, nat_tests)

-- an instruction that is put for another
pub put_as : (e : Emitter) (code : CodeView) (n : ℕ) (does : Instr) → code ≡ with_replaced e.code n does → record e { code = code } ≡ replaced e n does
put_as e code n does q = ap (λ (c : CodeView). let x : Emitter = record e { code = c } in x) q

-- and behind one more
pub jump_later : {own : Own} (b : Emitter) {c d e : Emitter} {x : List ℕ → List Coded} {p m : ℕ} (here there : Here) (does then : Instr) (jump : ℕ) → jump ≡ next b → c ≡ appended b here does → Codes own c d x p m → e ≡ appended d there then → jump < next e
jump_later b {c} {d} here there does then jump q qc part qe = let l = jump_there b here does jump q qc part in let n = one_more d there then qe in omega (arith, l, n)

pub stays_one : {a b : Emitter} (here : Here) (does : Instr) → b ≡ appended a here does → CodeFits a.code → InstrFits a.code.given a.code.added does → Stays none_own a b
stays_one {a} here does q h f = subst (λ (e : Emitter). Stays none_own a e) (sym q) (stays_appended none_own a here does h f)

pub jump_last : {own : Own} (b : Emitter) {c d e f : Emitter} {x : List ℕ → List Coded} {p m : ℕ} (here there behind : Here) (does then last : Instr) (jump : ℕ) → jump ≡ next b → c ≡ appended b here does → d ≡ appended c there then → Codes own d e x p m → f ≡ appended e behind last → jump < next f
jump_last b {c} {d} {e} here there behind does then last jump q qc qd part qf = let i = one_more b here does qc in let j = one_more c there then qd in let k = not_fewer part in let l = one_more e behind last qf in omega (arith, q, i, j, k, l)

-- the larger of two
pub max_was : (a b k : ℕ) → k ≡ ord_max nat_cmp a b → k ≡ max a b
max_was a b k q = q ∙ max_is a b
