-- A link: what its branches are, where one is written and the other a truth value.
use Rattle.std.proofs.Common.{◌≡◌, Bool, Some, None, refl, sym, ap, ◌∙◌, subst}
use Rattle.std.specs.Borrow.{Bor}
use Rattle.algolw_tree.specs.declared.programs.Node.{Node}
use Rattle.stack_code.specs.declared.instructions.Constant.TheVariants as constant
use Rattle.stack_code.specs.declared.instructions.Instr.TheVariants as held
use Rattle.code_emitter.specs.declared.emitter.Emitter.{Emitter}
use Rattle.code_emitter.specs.Parts.{EmitterFits}
use Rattle.stack_codegen.specs.declared.phrases.Branch.{Branch}
use Rattle.stack_codegen.specs.Codable.{IsCodable, IsCodablePerhaps, node_in}
use Rattle.stack_codegen.specs.Operations.{IsCodableBranch, stands_missing}
use Rattle.stack_codegen.proofs.NodeSizes.{node_size, perhaps_size}

-- a phrase that is written
pub written_sized : (n : Node) (x : Bor Node) (b : Branch) → b ≡ record { phrase = Some x; missing = held.Nothing } → x.now ≡ n → perhaps_size b.phrase ≡ node_size n
written_sized n x b q p = ap (λ (y : Branch). perhaps_size y.phrase) q ∙ ap node_size p

pub written_ready : (e : Emitter) (n : Node) (x : Bor Node) (b : Branch) → b ≡ record { phrase = Some x; missing = held.Nothing } → x.now ≡ n → IsCodable e (node_in n) → IsCodableBranch e b
written_ready e n x b q p r = subst (IsCodableBranch e) (sym q) (record { phrase = subst (λ (y : Node). IsCodable e (node_in y)) (sym p) r; missing = refl })

-- a truth value, where none is
pub missing_sized : (b : Branch) → b.phrase ≡ None → perhaps_size b.phrase ≡ 0
missing_sized b q = ap perhaps_size q

pub constant_ready : (e : Emitter) (b : Branch) (v : Bool) → b.phrase ≡ None → b.missing ≡ held.Constant (constant.Logical v) → EmitterFits e → IsCodableBranch e b
constant_ready e b v q p r = record { phrase = subst (IsCodablePerhaps e) (sym q) r; missing = ap stands_missing p }
