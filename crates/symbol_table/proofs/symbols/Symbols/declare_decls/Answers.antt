use Rattle.std.proofs.Common.{ℕ, List, Option, [], ◌≤◌, ◌-◌, drop, length, sym, ap, subst, arith}
use Rattle.std.specs.List.{All}
use Rattle.value_ops.specs.declared.values.ClassId.{ClassId}
use Rattle.algolw_tree.specs.declared.programs.TypedDecl.{TypedDecl}
use Rattle.symbol_table.specs.declared.blocks.Cursor.{Cursor}
use Rattle.symbol_table.specs.Symbols.{SymbolsView}
use Rattle.symbol_table.specs.Blocks.{before, decl_names, names_before}
use Rattle.symbol_table.proofs.Declaring.{last_out}
use Rattle.symbol_table.proofs.Numbered.{Below, first_numbered, rest_numbered}
use Rattle.symbol_table.proofs.symbols.Symbols.declare_decls.Goals as goal

pub declare_decl-requires : goal.declare_decl-requires
declare_decl-requires c =
    let n : ℕ = c.args.self.now.count in
    let classes : List (Option ClassId) = c.args.self.now.classes in
    let i : ℕ = c.loop-index.index in
    let d : TypedDecl = c.index-decls-index.result in
    let within : i ≤ length c.args.decls.now = omega (arith, c.loop-index.auto.index) in
    let out = last_out c.args.decls.now i d c.loop-index-test.true within c.index-decls-index.is in
    let rest = rest_numbered n classes c.args.level c.args.end (i - 1) c.args.decls.now c.requires in
    let first = first_numbered n classes c.args.level c.args.end d (drop i c.args.decls.now) (subst (λ (ds : List TypedDecl). All (Below n) (names_before classes c.args.level c.args.end ds [])) out rest) in
    let begun = subst (λ (e : Cursor). All (Below n) (decl_names classes c.args.level (before e d) d [])) (sym c.loop-index.invariant.begins) first in
    let known = subst (λ (cs : List (Option ClassId)). All (Below n) (decl_names cs c.args.level (before c.loop-index.next d) d [])) (sym (ap (λ (s : SymbolsView). s.classes) c.loop-index.invariant.names)) begun in
    subst (λ (m : ℕ). All (Below m) (decl_names c.loop-index.self.classes c.args.level (before c.loop-index.next d) d [])) (sym (ap (λ (s : SymbolsView). s.count) c.loop-index.invariant.names)) known
