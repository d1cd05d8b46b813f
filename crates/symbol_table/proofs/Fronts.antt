-- Names that are declared stand in front of those that were.
use Rattle.std.proofs.Common.{◌≡◌, ℕ, ◌+◌, List, [], ◌∷◌, ◌++◌, length, Option, Some, None, refl, sym, ap, ◌∙◌, append_assoc}
use Rattle.value_ops.specs.declared.places.Place.{Place}
use Rattle.value_ops.specs.declared.values.ClassId.{ClassId}
use Rattle.value_ops.specs.declared.values.SimpleType.{SimpleType}
use Rattle.algolw_tree.specs.declared.programs.TypedClass.{TypedClass}
use Rattle.algolw_tree.specs.declared.programs.TypedDecl.{TypedDecl, Simple, Array', Proc, Class}
use Rattle.algolw_tree.specs.declared.programs.TypedItem.{TypedItem}
use Rattle.std.specs.declared.vec.Vec.{Vec}
use Rattle.std.specs.declared.alloc.Global.{Global}
use Rattle.stack_code.specs.declared.heads.Formal.{Formal}
use Rattle.symbol_table.specs.declared.blocks.Cursor.{Cursor}
use Rattle.symbol_table.specs.declared.standings.Entry.{Entry}
use Rattle.symbol_table.specs.declared.standings.Standing.{Standing}
use Rattle.symbol_table.specs.declared.standings.Standing.TheVariants as standing
use Rattle.symbol_table.specs.Parts.{item_labels}
use Rattle.symbol_table.specs.Standings.{Names}
use Rattle.symbol_table.specs.Symbols.{class_at, formal_names, formal_standing}
use Rattle.symbol_table.specs.Blocks.{all_names, before, begin_of, behind, class_names, decl_names, decls_names, entry_names, field_count, field_names, group_names, label_names, names_before}

pub front_all : (s : Standing) (xs : List (ℕ × Place)) (more : Names) → all_names s xs more ≡ all_names s xs [] ++ more
front_all s [] more = refl
front_all s (x ∷ xs) more = ap (λ names. (x.0, s) ∷ names) (front_all s xs more)

pub front_entries : (f : Entry → Standing) (level position : ℕ) (xs : List (ℕ × Place)) (more : Names) → entry_names f level position xs more ≡ entry_names f level position xs [] ++ more
front_entries f level position [] more = refl
front_entries f level position (x ∷ xs) more = ap (λ names. (x.0, f (record { level = level; position = position })) ∷ names) (front_entries f level (position + 1) xs more)

pub front_fields : (class : ClassId) (position : ℕ) (t : SimpleType) (xs : List (ℕ × Place)) (more : Names) → field_names class position t xs more ≡ field_names class position t xs [] ++ more
front_fields class position t [] more = refl
front_fields class position t (x ∷ xs) more = ap (λ names. (x.0, standing.Field class position t) ∷ names) (front_fields class (position + 1) t xs more)

pub front_groups : (class : ClassId) (position : ℕ) (groups : List (SimpleType × Vec (ℕ × Place) Global)) (more : Names) → group_names class position groups more ≡ group_names class position groups [] ++ more
front_groups class position [] more = refl
front_groups class position (g ∷ rest) more =
    let inner : Names = group_names class (position + length g.1.items) rest [] in
    front_fields class position g.0 g.1.items (group_names class (position + length g.1.items) rest more)
    ∙ ap (λ names. field_names class position g.0 g.1.items [] ++ names) (front_groups class (position + length g.1.items) rest more)
    ∙ sym (append_assoc (field_names class position g.0 g.1.items []) inner more)
    ∙ ap (λ names. names ++ more) (sym (front_fields class position g.0 g.1.items inner))

pub front_class : (o : Option ClassId) (fields : ℕ) (x : TypedClass) (more : Names) → class_names o fields x more ≡ class_names o fields x [] ++ more
front_class None fields x more = refl
front_class (Some c) fields x more = ap (λ names. (x.name.0, standing.Class (record { class = c; fields = fields; count = field_count x.groups.items })) ∷ names) (front_groups c 0 x.groups.items more)

pub front_decl : (classes : List (Option ClassId)) (level : ℕ) (c : Cursor) (d : TypedDecl) (more : Names) → decl_names classes level c d more ≡ decl_names classes level c d [] ++ more
front_decl classes level c (Simple t xs) more = front_entries (λ e. standing.Variable t e) level c.position xs.items more
front_decl classes level c (Array' t xs shape bounds) more = front_entries (λ e. standing.Array t e) level c.position xs.items more
front_decl classes level c (Proc p) more = refl
front_decl classes level c (Class x) more = front_class (class_at classes x.name.0) c.fields x more

pub front_decls : (classes : List (Option ClassId)) (level : ℕ) (c : Cursor) (decls : List TypedDecl) (more : Names) → decls_names classes level c decls more ≡ decls_names classes level c decls [] ++ more
front_decls classes level c [] more = refl
front_decls classes level c (d ∷ rest) more =
    let inner : Names = decls_names classes level (behind c d) rest [] in
    front_decl classes level c d (decls_names classes level (behind c d) rest more)
    ∙ ap (λ names. decl_names classes level c d [] ++ names) (front_decls classes level (behind c d) rest more)
    ∙ sym (append_assoc (decl_names classes level c d []) inner more)
    ∙ ap (λ names. names ++ more) (sym (front_decl classes level c d inner))

pub front_before : (classes : List (Option ClassId)) (level : ℕ) (end : Cursor) (decls : List TypedDecl) (more : Names) → names_before classes level end decls more ≡ names_before classes level end decls [] ++ more
front_before classes level end [] more = refl
front_before classes level end (d ∷ rest) more =
    let inner : Names = names_before classes level end rest [] in
    let c : Cursor = before (begin_of end rest) d in
    front_decl classes level c d (names_before classes level end rest more)
    ∙ ap (λ names. decl_names classes level c d [] ++ names) (front_before classes level end rest more)
    ∙ sym (append_assoc (decl_names classes level c d []) inner more)
    ∙ ap (λ names. names ++ more) (sym (front_decl classes level c d inner))

pub front_labels : (level mark target : ℕ) (items : List TypedItem) (more : Names) → label_names level mark target items more ≡ label_names level mark target items [] ++ more
front_labels level mark target [] more = refl
front_labels level mark target (i ∷ rest) more =
    let inner : Names = label_names level mark (target + 1) rest [] in
    let s : Standing = standing.Label (record { level = level; position = mark }) target in
    front_all s (item_labels i) (label_names level mark (target + 1) rest more)
    ∙ ap (λ names. all_names s (item_labels i) [] ++ names) (front_labels level mark (target + 1) rest more)
    ∙ sym (append_assoc (all_names s (item_labels i) []) inner more)
    ∙ ap (λ names. names ++ more) (sym (front_all s (item_labels i) inner))

pub front_formals : (level position : ℕ) (formals : List Formal) (more : Names) → formal_names level position formals more ≡ formal_names level position formals [] ++ more
front_formals level position [] more = refl
front_formals level position (f ∷ formals) more = ap (λ names. (f.name, formal_standing f.is (record { level = level; position = position })) ∷ names) (front_formals level (position + 1) formals more)

-- a block's names, in front of others
pub front_block : (classes : List (Option ClassId)) (level : ℕ) (c : Cursor) (decls : List TypedDecl) (mark target : ℕ) (items : List TypedItem) (more : Names) → decls_names classes level c decls (label_names level mark target items more) ≡ (decls_names classes level c decls [] ++ label_names level mark target items []) ++ more
front_block classes level c decls mark target items more =
    front_decls classes level c decls (label_names level mark target items more)
    ∙ ap (λ names. decls_names classes level c decls [] ++ names) (front_labels level mark target items more)
    ∙ sym (append_assoc (decls_names classes level c decls []) (label_names level mark target items []) more)
