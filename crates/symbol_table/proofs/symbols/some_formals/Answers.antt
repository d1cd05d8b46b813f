use Rattle.std.proofs.Common.{◌≡◌, List, take, subst}
use Rattle.std.specs.Prelude.{IfOk}
use Rattle.std.proofs.lemmas.Iterator.{YieldsList-from_slice, YieldsList-from_take, items_from_collect}
use Rattle.std.proofs.lemmas.Iterator.Consumers.{YieldsList-from_copied}
use Rattle.stack_code.specs.declared.heads.Formal.{Formal}
use Rattle.symbol_table.proofs.symbols.some_formals.Goals as goal

pub returns : goal.returns
returns c =
    let behind = c.formals_from-behind in
    subst (λ (all : List Formal). IfOk c.collect.result (λ some. some.items ≡ take c.args.count all)) behind.ensures
    (items_from_collect c.collect.result c.collect.ensures.ran
    (YieldsList-from_copied (YieldsList-from_take c.args.count (YieldsList-from_slice behind.result.now cc) cc)))
