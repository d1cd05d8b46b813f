use Rattle.std.proofs.Common.{◌≡◌, ℤ, sym, ap, ◌∙◌, w32}
use Rattle.std.proofs.lemmas.Int.{to_z-of_z}
use Rattle.value_ops.specs.declared.values.Value.TheVariants as value
use Rattle.value_ops.specs.Integers.{remainder}
use Rattle.program_meaning.specs.Operations as operations
use Rattle.machine_rows.proofs.operators.integer_operation.Goals as goal

remainder_of : (a b m n : ℤ) → a ≡ m → b ≡ n → remainder a b ≡ remainder m n
remainder_of a b m n e f = ap (λ x. remainder x b) e ∙ ap (remainder m) f

pub returns-in-Rem : goal.returns-in-Rem
returns-in-Rem c = λ w.
    c.integer-in-Rem.ensures w
    ∙ ap operations.integer (c.rem.ensures ∙ remainder_of _ _ _ _ (to_z-of_z w32 c.args.left c.ranges.left) (to_z-of_z w32 c.args.right c.ranges.right))
    ∙ ap (λ o. operations.binary o (value.Integer c.args.left) (value.Integer c.args.right)) (sym c.in-Rem.is)
