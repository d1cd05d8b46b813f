-- A procedure of a block, where the block's names are declared.
use Rattle.std.proofs.Common.{◌≡◌, ◌≢◌, ℕ, ◌+◌, ◌==◌, List, [], ◌∷◌, ◌++◌, length, Option, Bool, true, false, refl, sym, ap, ◌∙◌, subst, append_assoc}
use Rattle.std.proofs.lemmas.Bool.{eqb-true, eq-eqb}
use Rattle.std.proofs.lemmas.List.{length-append}
use Rattle.std.proofs.lemmas.List.Elements.{All-head}
use Rattle.value_ops.specs.declared.values.ClassId.{ClassId}
use Rattle.algolw_tree.specs.declared.programs.TypedDecl.{TypedDecl, Proc}
use Rattle.algolw_tree.specs.declared.programs.TypedItem.{TypedItem}
use Rattle.algolw_tree.specs.declared.programs.TypedProc.{TypedProc}
use Rattle.symbol_table.specs.declared.blocks.Cursor.{Cursor}
use Rattle.symbol_table.specs.declared.here.Here.{Here}
use Rattle.symbol_table.specs.declared.standings.Procedure.{Procedure}
use Rattle.symbol_table.specs.declared.standings.Standing.{Standing}
use Rattle.symbol_table.specs.declared.standings.Standing.TheVariants as standing
use Rattle.symbol_table.specs.Blocks.{all_formals, behind, block_names, decl_formals, decl_names, decls_formals, decls_names, entry_count, first_cursor, formal_count, formals_in, label_names, named_procedure, procedure_count, result_of}
use Rattle.symbol_table.specs.Contexts.{IsOnce, Scene, SceneFits, in_block}
use Rattle.symbol_table.specs.Standings.{Names, standing_of}
use Rattle.symbol_table.specs.Symbols.{SymbolsView, formals_of}
use Rattle.symbol_table.proofs.Cursors.{all_behind, all_behind_is, length-formals}
use Rattle.symbol_table.proofs.Declaring.{All-right}
use Rattle.symbol_table.proofs.Fronts.{front_decl}
use Rattle.symbol_table.proofs.Lists.{part_between}

-- a name that is declared once stands for what it is declared as
pub standing_found : (before : Names) (x : ℕ × Standing) (after : Names) → IsOnce (before ++ x ∷ after) → standing_of (before ++ x ∷ after) x.0 ≡ x.1
standing_found [] x after o = ap (λ b. elim b [ true ↦ x.1 | false ↦ standing_of after x.0 ]) (eq-eqb x.0 x.0 refl)
standing_found (y ∷ before) x after o = go (y.0 == x.0) refl (standing_found before x after o.1)
  where
    go : (b : Bool) → (y.0 == x.0) ≡ b → standing_of (before ++ x ∷ after) x.0 ≡ x.1 → elim b [ true ↦ y.1 | false ↦ standing_of (before ++ x ∷ after) x.0 ] ≡ x.1
    go true q ih = absurd (All-head (λ (z : ℕ × Standing). y.0 ≢ z.0) x after (All-right (λ (z : ℕ × Standing). y.0 ≢ z.0) before (x ∷ after) o.0) (eqb-true y.0 x.0 q))
    go false q ih = ih

-- the names of declarations in two parts
pub two_parts : (classes : List (Option ClassId)) (level : ℕ) (c : Cursor) (before after : List TypedDecl) (more : Names) → decls_names classes level c (before ++ after) more ≡ decls_names classes level c before [] ++ decls_names classes level (all_behind c before) after more
two_parts classes level c [] after more = refl
two_parts classes level c (d ∷ before) after more =
    let inner : Names = decls_names classes level (behind c d) before [] in
    let rest : Names = decls_names classes level (all_behind (behind c d) before) after more in
    ap (λ (names : Names). decl_names classes level c d names) (two_parts classes level (behind c d) before after more)
    ∙ front_decl classes level c d (inner ++ rest) ∙ sym (append_assoc (decl_names classes level c d []) inner rest)
    ∙ ap (λ (names : Names). names ++ rest) (sym (front_decl classes level c d inner))

pub formals_two_parts : (before after : List TypedDecl) → decls_formals (before ++ after) ≡ decls_formals before ++ decls_formals after
formals_two_parts [] after = refl
formals_two_parts (d ∷ before) after = ap (λ fs. decl_formals d ++ fs) (formals_two_parts before after) ∙ sym (append_assoc (decl_formals d) (decls_formals before) (decls_formals after))

-- what it stands for: its formals begin behind those of the procedures before it, and its target is behind theirs
abbrev pub procedure_at : SymbolsView → Here → (target : ℕ) → (before : List TypedDecl) → TypedProc → Procedure
procedure_at v here target before p = record { formals = length v.formals + length (decls_formals before); count = formal_count (formals_in p); result = result_of p; level = here.level; target = target + procedure_count before }

pub procedure_found : (s : Scene) (here : Here) (target : ℕ) (before after : List TypedDecl) (p : TypedProc) (items : List TypedItem) → SceneFits (in_block s here target (before ++ Proc p ∷ after) items) → standing_of (in_block s here target (before ++ Proc p ∷ after) items).symbols.names (named_procedure p).0 ≡ standing.Procedure (procedure_at s.symbols here target before p)
procedure_found s here target before after p items fits =
    let decls : List TypedDecl = before ++ Proc p ∷ after in
    let c : Cursor = first_cursor s.symbols here target in
    let there : Cursor = all_behind c before in
    let labels : Names = label_names here.level (here.entries + entry_count decls) (target + procedure_count decls) items s.symbols.names in
    let x : ℕ × Standing = ((named_procedure p).0, standing.Procedure (record { formals = there.formals; count = formal_count (formals_in p); result = result_of p; level = here.level; target = there.target })) in
    let parts : block_names s.symbols here target decls items s.symbols.names ≡ decls_names s.symbols.classes here.level c before [] ++ x ∷ decls_names s.symbols.classes here.level (behind there (Proc p)) after labels = two_parts s.symbols.classes here.level c before (Proc p ∷ after) labels in
    ap (λ (names : Names). standing_of names (named_procedure p).0) parts
    ∙ standing_found (decls_names s.symbols.classes here.level c before []) x (decls_names s.symbols.classes here.level (behind there (Proc p)) after labels) (subst IsOnce parts fits.once)
    ∙ ap (λ (e : Cursor). standing.Procedure (record { formals = e.formals; count = formal_count (formals_in p); result = result_of p; level = here.level; target = e.target })) (all_behind_is c before)

-- its formals
pub procedure_formals : (s : Scene) (here : Here) (target : ℕ) (before after : List TypedDecl) (p : TypedProc) (items : List TypedItem) → formals_of (in_block s here target (before ++ Proc p ∷ after) items).symbols (procedure_at s.symbols here target before p) ≡ all_formals (formals_in p)
procedure_formals s here target before after p items =
    let whole = ap (λ fs. s.symbols.formals ++ fs) (formals_two_parts before (Proc p ∷ after)) ∙ sym (append_assoc s.symbols.formals (decls_formals before) (all_formals (formals_in p) ++ decls_formals after)) in
    part_between (s.symbols.formals ++ decls_formals (before ++ Proc p ∷ after)) (s.symbols.formals ++ decls_formals before) (all_formals (formals_in p)) (decls_formals after)
    (length s.symbols.formals + length (decls_formals before)) (formal_count (formals_in p)) whole (sym (length-append s.symbols.formals (decls_formals before))) (sym (length-formals (formals_in p)))
