use Rattle.std.proofs.Common.{ap}
use Rattle.std.proofs.lemmas.List.{drop_all}
use Rattle.symbol_table.specs.Blocks.{decl_fields, decl_formals, decls_fields, decls_formals, with_parts}
use Rattle.symbol_table.proofs.Declaring.{next_out, parts_added, parts_done}
use Rattle.symbol_table.proofs.symbols.Symbols.add_parts.Goals as goal

pub loop-decl-preserved : goal.loop-decl-preserved
loop-decl-preserved c =
    let out = next_out c.args.decls.now c.loop-decl.decl-index c.decl-item.result c.loop-decl-test.true c.decl-item.is in
    parts_added c.loop-decl.self c.add_part.new.self (with_parts c.args.self.now c.args.decls.now)
    (decl_fields c.decl-item.result) _ _ (decl_formals c.decl-item.result) _ _ (ap decls_fields out) (ap decls_formals out) c.loop-decl.invariant (c.in_ok-add_part.ensures)

pub returns : goal.returns
returns c =
    let none = drop_all c.loop-decl.decl-index c.args.decls.now c.loop-decl-test.false in
    parts_done c.loop-decl.self (with_parts c.args.self.now c.args.decls.now) _ _ (ap decls_fields none) (ap decls_formals none) c.loop-decl.invariant
