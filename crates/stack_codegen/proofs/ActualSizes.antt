-- What is in an actual is smaller than its phrase.
use Rattle.std.proofs.Common.{◌≡◌, ℕ, ◌+◌, ◌≤◌, Option, Some, None, refl, ap, arith}
use Rattle.std.specs.Borrow.{Bor}
use Rattle.std.specs.Prelude.{option_copied}
use Rattle.algolw_tree.specs.declared.programs.Node.{Node}
use Rattle.symbol_table.specs.Parts.{actuals_in}
use Rattle.stack_codegen.specs.declared.actuals.ActualKind.{ActualKind}
use Rattle.stack_codegen.specs.declared.actuals.ActualKind.TheVariants as kind
use Rattle.stack_codegen.specs.Calls.{IsWithin}
use Rattle.stack_codegen.proofs.NodeSizes.{node_size, nothing, perhaps_size, size_actuals, size_kind, size_lists}

abbrev pub kind_size : ActualKind → ℕ
kind_size (kind.Given g) = perhaps_size g.phrase
kind_size (kind.Alone p name) = 0
kind_size (kind.Subarray name subscripts) = size_actuals (actuals_in nothing subscripts.now)

perhaps_smaller : (node : Node) (o : Option (Bor Node)) → ((n : Node) → option_copied o ≡ Some n → n ≡ node) → perhaps_size o ≤ node_size node
perhaps_smaller node None h = omega arith
perhaps_smaller node (Some r) h = let e : node_size r.now ≡ node_size node = ap node_size (h r.now refl) in omega (arith, e)

pub kind_smaller : (node : Node) (k : ActualKind) → IsWithin node k → kind_size k ≤ node_size node
kind_smaller node (kind.Given g) h = perhaps_smaller node g.phrase h
kind_smaller node (kind.Alone p name) h = omega arith
kind_smaller node (kind.Subarray name subscripts) h =
    let w = h nothing in
    let e : node_size node ≡ 8 + (8 + size_actuals (actuals_in nothing subscripts.now) + size_lists w.2) = ap (λ k. 8 + size_kind k) w.3 in
    omega (arith, e)
