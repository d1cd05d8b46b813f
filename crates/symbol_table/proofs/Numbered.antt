-- The numbers of names that are declared together are below what those of all names are.
use Rattle.std.proofs.Common.{◌≡◌, ℕ, zero, suc, ◌+◌, ◌<◌, List, [], ◌∷◌, ◌++◌, length, drop, Option, Some, subst, arith}
use Rattle.std.specs.List.{All}
use Rattle.std.specs.declared.vec.Vec.{Vec}
use Rattle.std.specs.declared.alloc.Global.{Global}
use Rattle.std.proofs.lemmas.List.Elements.{All-cons, All-head, All-nil, All-tail}
use Rattle.value_ops.specs.declared.places.Place.{Place}
use Rattle.value_ops.specs.declared.values.ClassId.{ClassId}
use Rattle.value_ops.specs.declared.values.SimpleType.{SimpleType}
use Rattle.algolw_tree.specs.declared.programs.TypedBound.{TypedBound}
use Rattle.algolw_tree.specs.declared.programs.TypedClass.{TypedClass}
use Rattle.algolw_tree.specs.declared.programs.TypedDecl.{TypedDecl, Simple, Array, Proc}
use Rattle.algolw_tree.specs.declared.programs.TypedItem.{TypedItem}
use Rattle.algolw_tree.specs.declared.programs.TypedProc.{TypedProc}
use Rattle.symbol_table.specs.declared.blocks.Cursor.{Cursor}
use Rattle.symbol_table.specs.declared.standings.Entry.{Entry}
use Rattle.symbol_table.specs.declared.standings.Standing.{Standing}
use Rattle.symbol_table.specs.declared.standings.Standing.TheVariants as standing
use Rattle.symbol_table.specs.Parts.{item_labels}
use Rattle.symbol_table.specs.Standings.{Names}
use Rattle.symbol_table.specs.Blocks.{all_names, before, begin_of, class_names, decl_names, entry_names, field_count, field_names, group_names, label_names, named_procedure, names_before}
use Rattle.symbol_table.proofs.Declaring.{All-left, All-right}
use Rattle.symbol_table.proofs.Fronts.{front_all, front_decl, front_fields}

abbrev pub Below : ℕ → ℕ × Standing → Type 0
Below n x = x.0 < n

abbrev pub TargetBelow : ℕ → ℕ × Place → Type 0
TargetBelow n x = x.0 < n

pub all_numbered : (n : ℕ) (s : Standing) (xs : List (ℕ × Place)) → All (Below n) (all_names s xs []) → All (TargetBelow n) xs
all_numbered n s [] a = All-nil (TargetBelow n)
all_numbered n s (x ∷ xs) a =
    All-cons (TargetBelow n) x xs (All-head (Below n) (x.0, s) (all_names s xs []) a) (all_numbered n s xs (All-tail (Below n) (x.0, s) (all_names s xs []) a))

pub entries_numbered : (n : ℕ) (f : Entry → Standing) (level position : ℕ) (xs : List (ℕ × Place)) → All (Below n) (entry_names f level position xs []) → All (TargetBelow n) xs
entries_numbered n f level position [] a = All-nil (TargetBelow n)
entries_numbered n f level position (x ∷ xs) a =
    let first : ℕ × Standing = (x.0, f (record { level = level; position = position })) in
    All-cons (TargetBelow n) x xs (All-head (Below n) first (entry_names f level (position + 1) xs []) a) (entries_numbered n f level (position + 1) xs (All-tail (Below n) first (entry_names f level (position + 1) xs []) a))

pub fields_numbered : (n : ℕ) (class : ClassId) (position : ℕ) (t : SimpleType) (xs : List (ℕ × Place)) → All (Below n) (field_names class position t xs []) → All (TargetBelow n) xs
fields_numbered n class position t [] a = All-nil (TargetBelow n)
fields_numbered n class position t (x ∷ xs) a =
    let first : ℕ × Standing = (x.0, standing.Field class position t) in
    All-cons (TargetBelow n) x xs (All-head (Below n) first (field_names class (position + 1) t xs []) a) (fields_numbered n class (position + 1) t xs (All-tail (Below n) first (field_names class (position + 1) t xs []) a))

-- of each group of fields
pub groups_numbered : (n : ℕ) (class : ClassId) (position : ℕ) (groups : List (SimpleType × Vec (ℕ × Place) Global)) → All (Below n) (group_names class position groups []) → All (λ (g : SimpleType × Vec (ℕ × Place) Global). All (TargetBelow n) g.1.items) groups
groups_numbered n class position [] a = All-nil (λ (g : SimpleType × Vec (ℕ × Place) Global). All (TargetBelow n) g.1.items)
groups_numbered n class position (g ∷ rest) a =
    let inner : Names = group_names class (position + length g.1.items) rest [] in
    let both : All (Below n) (field_names class position g.0 g.1.items [] ++ inner) = subst (All (Below n)) (front_fields class position g.0 g.1.items inner) a in
    All-cons (λ (h : SimpleType × Vec (ℕ × Place) Global). All (TargetBelow n) h.1.items) g rest
    (fields_numbered n class position g.0 g.1.items (All-left (Below n) (field_names class position g.0 g.1.items []) inner both))
    (groups_numbered n class (position + length g.1.items) rest (All-right (Below n) (field_names class position g.0 g.1.items []) inner both))

-- of each item
pub labels_numbered : (n level mark target : ℕ) (items : List TypedItem) → All (Below n) (label_names level mark target items []) → All (λ (i : TypedItem). All (TargetBelow n) (item_labels i)) items
labels_numbered n level mark target [] a = All-nil (λ (i : TypedItem). All (TargetBelow n) (item_labels i))
labels_numbered n level mark target (i ∷ rest) a =
    let inner : Names = label_names level mark (target + 1) rest [] in
    let s : Standing = standing.Label (record { level = level; position = mark }) target in
    let both : All (Below n) (all_names s (item_labels i) [] ++ inner) = subst (All (Below n)) (front_all s (item_labels i) inner) a in
    All-cons (λ (j : TypedItem). All (TargetBelow n) (item_labels j)) i rest
    (all_numbered n s (item_labels i) (All-left (Below n) (all_names s (item_labels i) []) inner both))
    (labels_numbered n level mark (target + 1) rest (All-right (Below n) (all_names s (item_labels i) []) inner both))

-- of the last declarations
pub rest_numbered : (n : ℕ) (classes : List (Option ClassId)) (level : ℕ) (end : Cursor) (i : ℕ) (decls : List TypedDecl) → All (Below n) (names_before classes level end decls []) → All (Below n) (names_before classes level end (drop i decls) [])
rest_numbered n classes level end zero decls a = a
rest_numbered n classes level end (suc i) [] a = a
rest_numbered n classes level end (suc i) (d ∷ rest) a =
    let c : Cursor = before (begin_of end rest) d in
    let inner : Names = names_before classes level end rest [] in
    rest_numbered n classes level end i rest (All-right (Below n) (decl_names classes level c d []) inner (subst (All (Below n)) (front_decl classes level c d inner) a))

-- of the first one of some
pub first_numbered : (n : ℕ) (classes : List (Option ClassId)) (level : ℕ) (end : Cursor) (d : TypedDecl) (rest : List TypedDecl) → All (Below n) (names_before classes level end (d ∷ rest) []) → All (Below n) (decl_names classes level (before (begin_of end rest) d) d [])
first_numbered n classes level end d rest a =
    let c : Cursor = before (begin_of end rest) d in
    let inner : Names = names_before classes level end rest [] in
    All-left (Below n) (decl_names classes level c d []) inner (subst (All (Below n)) (front_decl classes level c d inner) a)

pub variables_numbered : (n : ℕ) (classes : List (Option ClassId)) (level : ℕ) (c : Cursor) (d : TypedDecl) (t : SimpleType) (xs : Vec (ℕ × Place) Global) → d ≡ Simple t xs → All (Below n) (decl_names classes level c d []) → All (TargetBelow n) xs.items
variables_numbered n classes level c d t xs e a =
    entries_numbered n (λ y. standing.Variable t y) level c.position xs.items (subst (λ (x : TypedDecl). All (Below n) (decl_names classes level c x [])) e a)

pub arrays_numbered : (n : ℕ) (classes : List (Option ClassId)) (level : ℕ) (c : Cursor) (d : TypedDecl) (t : SimpleType) (xs : Vec (ℕ × Place) Global) (bounds : Vec TypedBound Global) → d ≡ Array t xs bounds → All (Below n) (decl_names classes level c d []) → All (TargetBelow n) xs.items
arrays_numbered n classes level c d t xs bounds e a =
    entries_numbered n (λ y. standing.Array t y) level c.position xs.items (subst (λ (x : TypedDecl). All (Below n) (decl_names classes level c x [])) e a)

pub procedure_numbered : (n : ℕ) (classes : List (Option ClassId)) (level : ℕ) (c : Cursor) (d : TypedDecl) (p : TypedProc) → d ≡ Proc p → All (Below n) (decl_names classes level c d []) → (named_procedure p).0 < n
procedure_numbered n classes level c d p e a =
    let one : All (Below n) (decl_names classes level c (Proc p) []) = subst (λ (x : TypedDecl). All (Below n) (decl_names classes level c x [])) e a in
    one 0 ((named_procedure p).0, standing.Unknown) (omega arith)

pub class_numbered : (n : ℕ) (o : Option ClassId) (number : ClassId) (fields : ℕ) (x : TypedClass) → o ≡ Some number → All (Below n) (class_names o fields x []) → (x.name.0 < n) × All (Below n) (group_names number 0 x.groups.items [])
class_numbered n o number fields x e a =
    let first : ℕ × Standing = (x.name.0, standing.Class (record { class = number; fields = fields; count = field_count x.groups.items })) in
    let all : All (Below n) (first ∷ group_names number 0 x.groups.items []) = subst (λ (q : Option ClassId). All (Below n) (class_names q fields x [])) e a in
    (All-head (Below n) first (group_names number 0 x.groups.items []) all, All-tail (Below n) first (group_names number 0 x.groups.items []) all)
