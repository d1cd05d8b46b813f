-- What is declared is taken back.
use Rattle.std.proofs.Common.{◌≡◌, ℕ, ◌+◌, ◌-◌, List, [], ◌∷◌, ◌++◌, length, drop, refl, ap, ◌∙◌, arith}
use Rattle.std.proofs.Math.Seq.{take-append_seam, take-length}
use Rattle.std.proofs.lemmas.List.{drop_at, length-append}
use Rattle.algolw_tree.specs.declared.programs.TypedDecl.{TypedDecl}
use Rattle.algolw_tree.specs.declared.programs.TypedItem.{TypedItem}
use Rattle.value_ops.specs.declared.values.SimpleType.{SimpleType}
use Rattle.stack_code.specs.declared.heads.Formal.{Formal}
use Rattle.symbol_table.specs.declared.here.Here.{Here}
use Rattle.symbol_table.specs.declared.standings.Standing.{Standing}
use Rattle.symbol_table.specs.Blocks.{block_names, decls_fields, decls_formals, decls_names, entry_count, first_cursor, label_names, procedure_count, with_block}
use Rattle.symbol_table.specs.Standings.{Names}
use Rattle.symbol_table.specs.Symbols.{SymbolsView, formal_names, mark_of, taken_back, with_formals, with_name}
use Rattle.symbol_table.proofs.Fronts.{front_block, front_formals}

-- all but what stands in front
last_names : (new old all : Names) → all ≡ new ++ old → drop (length all - length old) all ≡ old
last_names new old all e =
    let n : length all ≡ length new + length old = ap length e ∙ length-append new old in
    let m : length new ≡ length all - length old = omega (arith, n) in
    ap (drop (length all - length old)) e ∙ drop_at new old (length all - length old) m

same_symbols : (v : SymbolsView) (names : Names) (fields : List SimpleType) (formals : List Formal) → names ≡ v.names → fields ≡ v.fields → formals ≡ v.formals → ◌≡◌ {A = SymbolsView} (record v { names = names; fields = fields; formals = formals }) v
same_symbols v names fields formals a b c =
    ap (λ (x : Names). let w : SymbolsView = record v { names = x; fields = fields; formals = formals } in w) a
    ∙ ap (λ (x : List SimpleType). let w : SymbolsView = record v { fields = x; formals = formals } in w) b
    ∙ ap (λ (x : List Formal). let w : SymbolsView = record v { formals = x } in w) c

pub block_taken_back : (v : SymbolsView) (here : Here) (target : ℕ) (decls : List TypedDecl) (items : List TypedItem) → taken_back (with_block v here target decls items) (mark_of v) ≡ v
block_taken_back v here target decls items =
    same_symbols v _ _ _
    (last_names (decls_names v.classes here.level (first_cursor v here target) decls [] ++ label_names here.level (here.entries + entry_count decls) (target + procedure_count decls) items []) v.names (block_names v here target decls items v.names)
    (front_block v.classes here.level (first_cursor v here target) decls (here.entries + entry_count decls) (target + procedure_count decls) items v.names))
    (take-append_seam v.fields (decls_fields decls)) (take-append_seam v.formals (decls_formals decls))

pub body_taken_back : (v : SymbolsView) (level : ℕ) (formals : List Formal) → taken_back (with_formals v level formals) (mark_of v) ≡ v
body_taken_back v level formals =
    same_symbols v _ _ _ (last_names (formal_names level 1 formals []) v.names (formal_names level 1 formals v.names) (front_formals level 1 formals v.names)) (take-length v.fields) (take-length v.formals)

pub turn_taken_back : (v : SymbolsView) (name : ℕ) (x : Standing) → taken_back (with_name v name x) (mark_of v) ≡ v
turn_taken_back v name x = same_symbols v _ _ _ (last_names ((name, x) ∷ []) v.names ((name, x) ∷ v.names) refl) (take-length v.fields) (take-length v.formals)
