use Rattle.std.proofs.Common.{◌≡◌, suc, ◌+◌, ◌-◌, ◌∷◌, ◌++◌, [], replicate, ap, arith}
use Rattle.symbol_table.specs.contracts.symbols.Symbols.{the_view}
use Rattle.symbol_table.specs.Symbols.{SymbolsView}
use Rattle.symbol_table.proofs.Declaring.{fields_added}
use Rattle.symbol_table.proofs.symbols.Symbols.add_fields_of.Goals as goal

pub loop-field-preserved : goal.loop-field-preserved
loop-field-preserved c =
    let less : c.args.count - c.loop-field._field ≡ suc (c.args.count - (c.loop-field._field + 1)) = omega (arith, c.loop-field-test.true) in
    let s : SymbolsView = the_view c.loop-field.self-inside in
    let t : SymbolsView = record s { fields = c.push.new.self.items } in
    fields_added s t (record c.args.self.now { fields = c.args.self.now.fields ++ replicate c.args.count c.args.kind })
    (c.args.kind ∷ []) (replicate (c.args.count - (c.loop-field._field + 1)) c.args.kind) _
    (ap (λ n. replicate n c.args.kind) less) c.loop-field.invariant
    (ap (λ xs. let w : SymbolsView = record s { fields = xs } in w) c.in_ok-push.ensures.items)
