use Rattle.symbol_table.specs.Blocks.{before}
use Rattle.symbol_table.proofs.Numbered.{arrays_numbered, procedure_numbered, variables_numbered}
use Rattle.symbol_table.proofs.symbols.Symbols.declare_decl.Goals as goal

pub declare_entries-requires : goal.declare_entries-requires
declare_entries-requires c = variables_numbered c.args.self.now.count c.args.self.now.classes c.args.level (before c.args.end c.args.decl.now) c.args.decl.now c.in-Simple.kind c.in-Simple.names c.in-Simple.is c.requires

pub declare_entries-requires-in-Array : goal.declare_entries-requires-in-Array
declare_entries-requires-in-Array c = arrays_numbered c.args.self.now.count c.args.self.now.classes c.args.level (before c.args.end c.args.decl.now) c.args.decl.now c.in-Array.kind c.in-Array.names c.in-Array.field-2 c.in-Array.is c.requires

pub declare_procedure-requires : goal.declare_procedure-requires
declare_procedure-requires c = procedure_numbered c.args.self.now.count c.args.self.now.classes c.args.level (before c.args.end c.args.decl.now) c.args.decl.now c.in-Proc.procedure c.in-Proc.is c.requires
