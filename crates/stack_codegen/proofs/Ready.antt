-- What is known of what is to be coded: of its parts, and behind what was coded.
use Rattle.std.proofs.Common.{◌≡◌, ℕ, List, ◌++◌, Option, Some, None, sym, subst}
use Rattle.std.specs.Borrow.{Bor}
use Rattle.algolw_tree.specs.declared.programs.Node.{Node}
use Rattle.program_soundness.specs.Tables.{Info}
use Rattle.stack_code.specs.CodeView.{CodeFits, InstrFits}
use Rattle.stack_code.specs.declared.instructions.Instr.{Instr}
use Rattle.symbol_table.specs.declared.here.Here.{Here}
use Rattle.symbol_table.specs.Contexts.{AreFresh, Scene}
use Rattle.symbol_table.proofs.Fresh.{fresh_left, fresh_right}
use Rattle.code_emitter.specs.declared.emitter.Emitter.{Emitter}
use Rattle.code_emitter.specs.Appending.{appended, begun, replaced}
use Rattle.code_emitter.specs.Parts.{EmitterFits, Own, Stays, none_own, scene}
use Rattle.code_emitter.proofs.Composing.{fits_after, stays_appended, stays_both, stays_replaced}
use Rattle.code_emitter.proofs.Joining.{codes_begun}
use Rattle.stack_codegen.specs.declared.phrases.Branch.{Branch}
use Rattle.stack_codegen.specs.Codable.{IsCodablePerhaps, IsReady}
use Rattle.stack_codegen.specs.Operations.{IsCodableBranch}

-- ---- behind what was coded

pub ready_after : {own : Own} {a b : Emitter} {is : Scene → List Info} {Known Statements Fitting : Scene → Type 0} → Stays own a b → IsReady a is Known Statements Fitting → IsReady b is Known Statements Fitting
ready_after {own} {a} {b} {is} {Known} {Statements} {Fitting} x r =
    let e : scene a ≡ scene b = sym x.scene in
    record {
      fits = fits_after x r.fits;
      fresh = subst (λ (s : Scene). AreFresh s (is s)) e r.fresh;
      knows = subst Known e r.knows;
      begun = subst Statements e r.begun;
      suits = subst Fitting e r.suits;
    }

pub perhaps_after : {own : Own} {a b : Emitter} (x : Option (Bor Node)) → Stays own a b → IsCodablePerhaps a x → IsCodablePerhaps b x
perhaps_after None s h = fits_after s h
perhaps_after (Some n) s h = ready_after s h

-- a phrase that may be missing, and what stands for it
pub perhaps_fits : (e : Emitter) (x : Option (Bor Node)) → IsCodablePerhaps e x → EmitterFits e
perhaps_fits e None r = r
perhaps_fits e (Some a) r = r.fits

pub branch_after : {own : Own} {a b : Emitter} (x : Branch) → Stays own a b → IsCodableBranch a x → IsCodableBranch b x
branch_after x s r = record { phrase = perhaps_after x.phrase s r.phrase; missing = r.missing }

-- ---- behind single instructions

pub stays_step : {a b : Emitter} (here : Here) (does : Instr) → CodeFits a.code → InstrFits a.code.given a.code.added does → b ≡ appended a here does → Stays none_own a b
stays_step {a} here does h f e = subst (λ (d : Emitter). Stays none_own a d) (sym e) (stays_appended none_own a here does h f)

-- behind a part and an instruction
pub stays_next : {own : Own} {a b c : Emitter} (here : Here) (does : Instr) → InstrFits b.code.given b.code.added does → Stays own a b → c ≡ appended b here does → Stays own a c
stays_next {own} {a} {b} here does f x e = stays_both x (subst (λ (d : Emitter). Stays own b d) (sym e) (stays_appended own b here does x.fits f))

-- and behind one that is put for another
pub stays_put : {own : Own} {a b c : Emitter} (n : ℕ) (does : Instr) → InstrFits b.code.given b.code.added does → Stays own a b → c ≡ replaced b n does → Stays own a c
stays_put {own} {a} {b} {c} n does f x e = stays_both x (subst (λ (d : Emitter). Stays own b d) (sym e) (stays_replaced own b n does x.fits f))

-- behind the begin of a statement, where there is one
pub stays_begun : {a b : Emitter} (here : Here) (statement : Option ℕ) → CodeFits a.code → b ≡ begun a here statement → Stays none_own a b
stays_begun {a} here statement h e = subst (λ (d : Emitter). Stays none_own a d) (sym e) (codes_begun none_own a here statement h).stays

-- ---- parts

-- what is told of less
pub ready_part : (e : Emitter) (is js : Scene → List Info) (K L S T F G : Scene → Type 0) → AreFresh (scene e) (js (scene e)) → L (scene e) → T (scene e) → G (scene e) → IsReady e is K S F → IsReady e js L T G
ready_part e is js K L S T F G fresh knows begun suits r = record { fits = r.fits; fresh = fresh; knows = knows; begun = begun; suits = suits }

-- where two are told of
module _ (e : Emitter) (is js : Scene → List Info) (K L S T F G : Scene → Type 0) where
  pub ready_first : IsReady e (λ s. is s ++ js s) (λ s. K s × L s) (λ s. S s × T s) (λ s. F s × G s) → IsReady e is K S F
  ready_first r = record { fits = r.fits; fresh = fresh_left (scene e) (is (scene e)) (js (scene e)) r.fresh; knows = r.knows.0; begun = r.begun.0; suits = r.suits.0 }

  pub ready_second : IsReady e (λ s. is s ++ js s) (λ s. K s × L s) (λ s. S s × T s) (λ s. F s × G s) → IsReady e js L T G
  ready_second r = record { fits = r.fits; fresh = fresh_right (scene e) (is (scene e)) (js (scene e)) r.fresh; knows = r.knows.1; begun = r.begun.1; suits = r.suits.1 }
