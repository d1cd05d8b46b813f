-- Where declarations begin that end where those of a block do.
use Rattle.std.proofs.Common.{◌≡◌, ℕ, ◌+◌, List, [], ◌∷◌, ◌++◌, length, replicate, Option, refl, sym, ap, ◌∙◌, subst, arith}
use Rattle.std.specs.List.{All}
use Rattle.std.specs.declared.vec.Vec.{Vec}
use Rattle.std.specs.declared.alloc.Global.{Global}
use Rattle.std.proofs.lemmas.List.{length-append, length-map, length-replicate}
use Rattle.value_ops.specs.declared.places.Place.{Place}
use Rattle.value_ops.specs.declared.values.ClassId.{ClassId}
use Rattle.value_ops.specs.declared.values.SimpleType.{SimpleType}
use Rattle.algolw_tree.specs.declared.programs.TypedDecl.{TypedDecl, Simple, Array', Proc, Class}
use Rattle.algolw_tree.specs.declared.programs.TypedFormal.{TypedFormal}
use Rattle.algolw_tree.specs.declared.programs.TypedItem.{TypedItem}
use Rattle.symbol_table.specs.declared.blocks.Cursor.{Cursor}
use Rattle.symbol_table.specs.declared.here.Here.{Here}
use Rattle.symbol_table.specs.Standings.{Names}
use Rattle.symbol_table.specs.Symbols.{SymbolsView}
use Rattle.symbol_table.specs.Blocks.{all_fields, all_formals, before, begin_of, behind, block_names, end_at, label_names, with_block, with_parts, decl_entries, decl_fields, decl_formals, decl_names, decl_procedures, decls_fields, decls_formals, decls_names, entry_count, field_count, first_cursor, formal_count, formal_type, formals_as, formals_in, names_before, procedure_count}
use Rattle.symbol_table.proofs.Declaring.{All-left, All-right}
use Rattle.symbol_table.proofs.Fronts.{front_decls}
use Rattle.symbol_table.proofs.Numbered.{Below}

pub same_cursor : (a b : Cursor) → a.position ≡ b.position → a.target ≡ b.target → a.fields ≡ b.fields → a.formals ≡ b.formals → a ≡ b
same_cursor a b p t f g =
    ap (λ (n : ℕ). let c : Cursor = record { position = n; target = a.target; fields = a.fields; formals = a.formals } in c) p
    ∙ ap (λ (n : ℕ). let c : Cursor = record { position = b.position; target = n; fields = a.fields; formals = a.formals } in c) t
    ∙ ap (λ (n : ℕ). let c : Cursor = record { position = b.position; target = b.target; fields = n; formals = a.formals } in c) f
    ∙ ap (λ (n : ℕ). let c : Cursor = record { position = b.position; target = b.target; fields = b.fields; formals = n } in c) g

-- how many fields and formals there are
pub length-fields : (groups : List (SimpleType × Vec (ℕ × Place) Global)) → length (all_fields groups) ≡ field_count groups
length-fields [] = refl
length-fields (g ∷ rest) =
    let both = length-append (replicate (length g.1.items) g.0) (all_fields rest) in
    let one : length (replicate (length g.1.items) g.0) ≡ length g.1.items = length-replicate (length g.1.items) g.0 in
    let ih = length-fields rest in
    omega (arith, both, one, ih)

pub length-formals : (formals : List TypedFormal) → length (all_formals formals) ≡ formal_count formals
length-formals [] = refl
length-formals (f ∷ rest) =
    let both = length-append (formals_as (formal_type f) f.names.items) (all_formals rest) in
    let one : length (formals_as (formal_type f) f.names.items) ≡ length f.names.items = length-map f.names.items (λ (x : ℕ × Place). record { name = x.0; is = formal_type f }) in
    let ih = length-formals rest in
    omega (arith, both, one, ih)

-- ---- one declaration

pub before_behind : (c : Cursor) (d : TypedDecl) → before (behind c d) d ≡ c
before_behind c (Simple t xs) = same_cursor (before (behind c (Simple t xs)) (Simple t xs)) c (omega arith) refl refl refl
before_behind c (Array' t xs shape bounds) = same_cursor (before (behind c (Array' t xs shape bounds)) (Array' t xs shape bounds)) c (omega arith) refl refl refl
before_behind c (Proc p) = same_cursor (before (behind c (Proc p)) (Proc p)) c refl (omega arith) refl (omega arith)
before_behind c (Class x) = same_cursor (before (behind c (Class x)) (Class x)) c refl refl (omega arith) refl

abbrev pub further_on : Cursor → (entries procedures fields formals : ℕ) → Cursor
further_on c e p f g = record { position = c.position + e; target = c.target + p; fields = c.fields + f; formals = c.formals + g }

pub behind_is : (c : Cursor) (d : TypedDecl) → behind c d ≡ further_on c (decl_entries d) (decl_procedures d) (length (decl_fields d)) (length (decl_formals d))
behind_is c (Simple t xs) = same_cursor (behind c (Simple t xs)) (further_on c (length xs.items) 0 0 0) refl (omega arith) (omega arith) (omega arith)
behind_is c (Array' t xs shape bounds) = same_cursor (behind c (Array' t xs shape bounds)) (further_on c (length xs.items) 0 0 0) refl (omega arith) (omega arith) (omega arith)
behind_is c (Proc p) =
    let n = length-formals (formals_in p) in
    same_cursor (behind c (Proc p)) (further_on c 0 1 0 (length (all_formals (formals_in p)))) (omega arith) refl (omega arith) (omega (arith, n))
behind_is c (Class x) =
    let n = length-fields x.groups.items in
    same_cursor (behind c (Class x)) (further_on c 0 0 (length (all_fields x.groups.items)) 0) (omega arith) (omega arith) (omega (arith, n)) (omega arith)

-- ---- all of them

abbrev pub all_behind : Cursor → List TypedDecl → Cursor
all_behind c [] = c
all_behind c (d ∷ rest) = all_behind (behind c d) rest

pub begins : (c : Cursor) (decls : List TypedDecl) → begin_of (all_behind c decls) decls ≡ c
begins c [] = refl
begins c (d ∷ rest) = ap (λ (e : Cursor). before e d) (begins (behind c d) rest) ∙ before_behind c d

pub names_are : (classes : List (Option ClassId)) (level : ℕ) (c : Cursor) (decls : List TypedDecl) (more : Names) → names_before classes level (all_behind c decls) decls more ≡ decls_names classes level c decls more
names_are classes level c [] more = refl
names_are classes level c (d ∷ rest) more =
    ap (λ (e : Cursor). decl_names classes level e d (names_before classes level (all_behind (behind c d) rest) rest more)) (begins c (d ∷ rest))
    ∙ ap (λ (names : Names). decl_names classes level c d names) (names_are classes level (behind c d) rest more)

pub all_behind_is : (c : Cursor) (decls : List TypedDecl) → all_behind c decls ≡ further_on c (entry_count decls) (procedure_count decls) (length (decls_fields decls)) (length (decls_formals decls))
all_behind_is c [] = same_cursor c (further_on c 0 0 0 0) (omega arith) (omega arith) (omega arith) (omega arith)
all_behind_is c (d ∷ rest) =
    let f = length-append (decl_fields d) (decls_fields rest) in
    let g = length-append (decl_formals d) (decls_formals rest) in
    all_behind_is (behind c d) rest
    ∙ ap (λ (e : Cursor). further_on e (entry_count rest) (procedure_count rest) (length (decls_fields rest)) (length (decls_formals rest))) (behind_is c d)
    ∙ same_cursor (further_on (further_on c (decl_entries d) (decl_procedures d) (length (decl_fields d)) (length (decl_formals d))) (entry_count rest) (procedure_count rest) (length (decls_fields rest)) (length (decls_formals rest)))
    (further_on c (entry_count (d ∷ rest)) (procedure_count (d ∷ rest)) (length (decls_fields (d ∷ rest))) (length (decls_formals (d ∷ rest))))
    (omega arith) (omega arith) (omega (arith, f)) (omega (arith, g))

-- where the declarations of a block end
pub end_is : (s : SymbolsView) (here : Here) (target : ℕ) (decls : List TypedDecl) → end_at here target decls (length (s.fields ++ decls_fields decls)) (length (s.formals ++ decls_formals decls)) ≡ all_behind (first_cursor s here target) decls
end_is s here target decls =
    let f = length-append s.fields (decls_fields decls) in
    let g = length-append s.formals (decls_formals decls) in
    same_cursor (end_at here target decls (length (s.fields ++ decls_fields decls)) (length (s.formals ++ decls_formals decls)))
    (further_on (first_cursor s here target) (entry_count decls) (procedure_count decls) (length (decls_fields decls)) (length (decls_formals decls)))
    refl refl f g
    ∙ sym (all_behind_is (first_cursor s here target) decls)

-- ---- the names of a block

-- those of its labels, and those of its declarations
pub block_labels : (n : ℕ) (s : SymbolsView) (here : Here) (target fields formals : ℕ) (decls : List TypedDecl) (items : List TypedItem) (end : Cursor) → end ≡ end_at here target decls fields formals → All (Below n) (block_names s here target decls items []) → All (Below n) (label_names here.level end.position end.target items [])
block_labels n s here target fields formals decls items end e a =
    let labels : Names = label_names here.level (here.entries + entry_count decls) (target + procedure_count decls) items [] in
    let both : All (Below n) (decls_names s.classes here.level (first_cursor s here target) decls [] ++ labels) = subst (All (Below n)) (front_decls s.classes here.level (first_cursor s here target) decls labels) a in
    subst (λ (c : Cursor). All (Below n) (label_names here.level c.position c.target items [])) (sym e) (All-right (Below n) (decls_names s.classes here.level (first_cursor s here target) decls []) labels both)

pub block_decls : (n : ℕ) (s t : SymbolsView) (here : Here) (target : ℕ) (decls : List TypedDecl) (items : List TypedItem) (end : Cursor) → t ≡ with_parts s decls → end ≡ end_at here target decls (length t.fields) (length t.formals) → All (Below n) (block_names s here target decls items []) → All (Below n) (names_before s.classes here.level end decls [])
block_decls n s t here target decls items end p e a =
    let labels : Names = label_names here.level (here.entries + entry_count decls) (target + procedure_count decls) items [] in
    let first : Names = decls_names s.classes here.level (first_cursor s here target) decls [] in
    let both : All (Below n) (first ++ labels) = subst (All (Below n)) (front_decls s.classes here.level (first_cursor s here target) decls labels) a in
    let there : end ≡ all_behind (first_cursor s here target) decls = e ∙ ap (λ (u : SymbolsView). end_at here target decls (length u.fields) (length u.formals)) p ∙ end_is s here target decls in
    subst (All (Below n)) (sym (ap (λ (c : Cursor). names_before s.classes here.level c decls []) there ∙ names_are s.classes here.level (first_cursor s here target) decls [])) (All-left (Below n) first labels both)

pub block_declared : (s t u : SymbolsView) (here : Here) (target : ℕ) (decls : List TypedDecl) (items : List TypedItem) (end : Cursor) → t ≡ with_parts s decls → end ≡ end_at here target decls (length t.fields) (length t.formals) → u ≡ record t { names = label_names here.level end.position end.target items t.names } → ◌≡◌ {A = SymbolsView} (record u { names = names_before u.classes here.level end decls u.names }) (with_block s here target decls items)
block_declared s t u here target decls items end p e h =
    let there : end ≡ all_behind (first_cursor s here target) decls = e ∙ ap (λ (v : SymbolsView). end_at here target decls (length v.fields) (length v.formals)) p ∙ end_is s here target decls in
    let labels : Names = label_names here.level (here.entries + entry_count decls) (target + procedure_count decls) items s.names in
    let named : label_names here.level end.position end.target items s.names ≡ labels = ap (λ (c : Cursor). label_names here.level c.position c.target items s.names) e in
    ap (λ (v : SymbolsView). let w : SymbolsView = record v { names = names_before v.classes here.level end decls v.names } in w) h
    ∙ ap (λ (v : SymbolsView). let w : SymbolsView = record v { names = names_before v.classes here.level end decls (label_names here.level end.position end.target items v.names) } in w) p
    ∙ ap (λ (names : Names). let w : SymbolsView = record (with_parts s decls) { names = names } in w)
    (ap (λ (names : Names). names_before s.classes here.level end decls names) named
    ∙ ap (λ (c : Cursor). names_before s.classes here.level c decls labels) there
    ∙ names_are s.classes here.level (first_cursor s here target) decls labels)
