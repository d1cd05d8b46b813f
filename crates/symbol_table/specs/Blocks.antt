-- What the names of a block stand for.
use Rattle.std.specs.Prelude.{ℕ, ◌+◌, ◌-◌, List, [], ◌∷◌, ◌++◌, map, length, replicate, Option, Some, None}
use Rattle.value_ops.specs.declared.places.Place.{Place}
use Rattle.value_ops.specs.declared.values.ClassId.{ClassId}
use Rattle.value_ops.specs.declared.values.SimpleType.{SimpleType}
use Rattle.std.specs.declared.vec.Vec.{Vec}
use Rattle.std.specs.declared.alloc.Global.{Global}
use Rattle.algolw_tree.specs.declared.phrases.Mode.{Mode}
use Rattle.algolw_tree.specs.declared.phrases.Mode.TheVariants as mode
use Rattle.algolw_tree.specs.declared.programs.TypedClass.{TypedClass}
use Rattle.algolw_tree.specs.declared.programs.TypedDecl.{TypedDecl, Simple, Array', Proc, Class}
use Rattle.algolw_tree.specs.declared.programs.TypedFormal.{TypedFormal}
use Rattle.algolw_tree.specs.declared.programs.TypedItem.{TypedItem}
use Rattle.algolw_tree.specs.declared.programs.TypedProc.{TypedProc, TypedProc'}
use Rattle.stack_code.specs.declared.heads.Formal.{Formal}
use Rattle.stack_code.specs.declared.heads.FormalType.{FormalType}
use Rattle.stack_code.specs.declared.heads.FormalType.TheVariants as formal
use Rattle.symbol_table.specs.declared.blocks.Cursor.{Cursor}
use Rattle.symbol_table.specs.declared.blocks.Holding.{Holding}
use Rattle.symbol_table.specs.declared.blocks.Holding.TheVariants as holding
use Rattle.symbol_table.specs.declared.here.Here.{Here}
use Rattle.symbol_table.specs.declared.standings.Entry.{Entry}
use Rattle.symbol_table.specs.declared.standings.Standing.{Standing}
use Rattle.symbol_table.specs.declared.standings.Standing.TheVariants as standing
use Rattle.symbol_table.specs.Parts.{item_labels}
use Rattle.symbol_table.specs.Standings.{Names}
use Rattle.symbol_table.specs.Symbols.{SymbolsView, class_at}

-- ---- the parts of a procedure's declaration

abbrev pub named_procedure : TypedProc → ℕ × Place
named_procedure (TypedProc' place result name formals q p f k g s) = name

abbrev pub result_of : TypedProc → Option SimpleType
result_of (TypedProc' place result name formals q p f k g s) = result

abbrev pub formals_in : TypedProc → List TypedFormal
formals_in (TypedProc' place result name formals q p f k g s) = formals.items

-- ---- counts

abbrev pub decl_entries : TypedDecl → ℕ
decl_entries (Simple t xs) = length xs.items
decl_entries (Array' t xs shape bounds) = length xs.items
decl_entries (Proc p) = 0
decl_entries (Class c) = 0

abbrev pub entry_count : List TypedDecl → ℕ
entry_count [] = 0
entry_count (d ∷ rest) = decl_entries d + entry_count rest

abbrev pub decl_procedures : TypedDecl → ℕ
decl_procedures (Simple t xs) = 0
decl_procedures (Array' t xs shape bounds) = 0
decl_procedures (Proc p) = 1
decl_procedures (Class c) = 0

abbrev pub procedure_count : List TypedDecl → ℕ
procedure_count [] = 0
procedure_count (d ∷ rest) = decl_procedures d + procedure_count rest

abbrev pub formal_count : List TypedFormal → ℕ
formal_count [] = 0
formal_count (f ∷ rest) = length f.names.items + formal_count rest

abbrev pub field_count : List (SimpleType × Vec (ℕ × Place) Global) → ℕ
field_count [] = 0
field_count (g ∷ rest) = length g.1.items + field_count rest

-- ---- formals and fields

abbrev pub type_by_mode : Mode → Option SimpleType → (dimensions : ℕ) → FormalType
type_by_mode m None n = formal.Procedure None
type_by_mode mode.Procedure (Some t) n = formal.Procedure (Some t)
type_by_mode mode.ByName (Some t) n = formal.ByName t
type_by_mode mode.Value (Some t) n = formal.Value t
type_by_mode mode.Result (Some t) n = formal.Result t
type_by_mode mode.ValueResult (Some t) n = formal.ValueResult t
type_by_mode mode.Array (Some t) n = formal.Array t n

abbrev pub formal_type : TypedFormal → FormalType
formal_type f = type_by_mode f.mode f.spec f.dimensions

abbrev pub formals_as : FormalType → List (ℕ × Place) → List Formal
formals_as t xs = map (λ (x : ℕ × Place). record { name = x.0; is = t }) xs

abbrev pub all_formals : List TypedFormal → List Formal
all_formals [] = []
all_formals (f ∷ rest) = formals_as (formal_type f) f.names.items ++ all_formals rest

abbrev pub all_fields : List (SimpleType × Vec (ℕ × Place) Global) → List SimpleType
all_fields [] = []
all_fields (g ∷ rest) = replicate (length g.1.items) g.0 ++ all_fields rest

abbrev pub decl_formals : TypedDecl → List Formal
decl_formals (Simple t xs) = []
decl_formals (Array' t xs shape bounds) = []
decl_formals (Proc p) = all_formals (formals_in p)
decl_formals (Class c) = []

abbrev pub decls_formals : List TypedDecl → List Formal
decls_formals [] = []
decls_formals (d ∷ rest) = decl_formals d ++ decls_formals rest

abbrev pub decl_fields : TypedDecl → List SimpleType
decl_fields (Simple t xs) = []
decl_fields (Array' t xs shape bounds) = []
decl_fields (Proc p) = []
decl_fields (Class c) = all_fields c.groups.items

abbrev pub decls_fields : List TypedDecl → List SimpleType
decls_fields [] = []
decls_fields (d ∷ rest) = decl_fields d ++ decls_fields rest

abbrev pub with_parts : SymbolsView → List TypedDecl → SymbolsView
with_parts s decls = record s { fields = s.fields ++ decls_fields decls; formals = s.formals ++ decls_formals decls }

-- ---- names

abbrev pub all_names : Standing → List (ℕ × Place) → Names → Names
all_names s [] more = more
all_names s (x ∷ xs) more = (x.0, s) ∷ all_names s xs more

-- names that have an entry each, from a position on
abbrev pub entry_names : (Entry → Standing) → (level position : ℕ) → List (ℕ × Place) → Names → Names
entry_names s level position [] more = more
entry_names s level position (x ∷ xs) more = (x.0, s (record { level = level; position = position })) ∷ entry_names s level (position + 1) xs more

abbrev pub field_names : ClassId → (position : ℕ) → SimpleType → List (ℕ × Place) → Names → Names
field_names class position t [] more = more
field_names class position t (x ∷ xs) more = (x.0, standing.Field class position t) ∷ field_names class (position + 1) t xs more

abbrev pub group_names : ClassId → (position : ℕ) → List (SimpleType × Vec (ℕ × Place) Global) → Names → Names
group_names class position [] more = more
group_names class position (g ∷ rest) more = field_names class position g.0 g.1.items (group_names class (position + length g.1.items) rest more)

abbrev pub class_names : Option ClassId → (fields : ℕ) → TypedClass → Names → Names
class_names None fields x more = more
class_names (Some c) fields x more = (x.name.0, standing.Class (record { class = c; fields = fields; count = field_count x.groups.items })) ∷ group_names c 0 x.groups.items more

abbrev pub procedure_standing : (level : ℕ) → Cursor → TypedProc → Standing
procedure_standing level c p = standing.Procedure (record { formals = c.formals; count = formal_count (formals_in p); result = result_of p; level = level; target = c.target })

-- where what is behind a declaration stands
abbrev pub behind : Cursor → TypedDecl → Cursor
behind c (Simple t xs) = record c { position = c.position + length xs.items }
behind c (Array' t xs shape bounds) = record c { position = c.position + length xs.items }
behind c (Proc p) = record c { target = c.target + 1; formals = c.formals + formal_count (formals_in p) }
behind c (Class x) = record c { fields = c.fields + field_count x.groups.items }

abbrev pub decl_names : List (Option ClassId) → (level : ℕ) → Cursor → TypedDecl → Names → Names
decl_names classes level c (Simple t xs) more = entry_names (λ e. standing.Variable t e) level c.position xs.items more
decl_names classes level c (Array' t xs shape bounds) more = entry_names (λ e. standing.Array t e) level c.position xs.items more
decl_names classes level c (Proc p) more = ((named_procedure p).0, procedure_standing level c p) ∷ more
decl_names classes level c (Class x) more = class_names (class_at classes x.name.0) c.fields x more

abbrev pub decls_names : List (Option ClassId) → (level : ℕ) → Cursor → List TypedDecl → Names → Names
decls_names classes level c [] more = more
decls_names classes level c (d ∷ rest) more = decl_names classes level c d (decls_names classes level (behind c d) rest more)

-- the labels of items, of which the first has this target, at a mark
abbrev pub label_names : (level mark target : ℕ) → List TypedItem → Names → Names
label_names level mark target [] more = more
label_names level mark target (i ∷ rest) more = all_names (standing.Label (record { level = level; position = mark }) target) (item_labels i) (label_names level mark (target + 1) rest more)

abbrev pub first_cursor : SymbolsView → Here → (target : ℕ) → Cursor
first_cursor s here target = record { position = here.entries; target = target; fields = length s.fields; formals = length s.formals }

-- the names of a block whose entries begin here, in front of others; labels stand at the mark behind the entries, and their targets behind
-- those of procedures
abbrev pub block_names : SymbolsView → Here → (target : ℕ) → List TypedDecl → List TypedItem → Names → Names
block_names s here target decls items more = decls_names s.classes here.level (first_cursor s here target) decls (label_names here.level (here.entries + entry_count decls) (target + procedure_count decls) items more)

abbrev pub with_block : SymbolsView → Here → (target : ℕ) → List TypedDecl → List TypedItem → SymbolsView
with_block s here target decls items = record (with_parts s decls) { names = block_names s here target decls items s.names }

-- ---- declaring from the last one on

-- where the declarations of a block end
abbrev pub end_at : Here → (target : ℕ) → List TypedDecl → (fields formals : ℕ) → Cursor
end_at here target decls fields formals = record { position = here.entries + entry_count decls; target = target + procedure_count decls; fields = fields; formals = formals }

-- what names that have an entry each stand for
abbrev pub standing_held : Holding → Entry → Standing
standing_held (holding.Variable t) e = standing.Variable t e
standing_held (holding.Array t) e = standing.Array t e

abbrev pub before_procedure : Cursor → TypedProc → Cursor
before_procedure c p = record c { target = c.target - 1; formals = c.formals - formal_count (formals_in p) }

abbrev pub before_class : Cursor → TypedClass → Cursor
before_class c x = record c { fields = c.fields - field_count x.groups.items }

-- where a declaration begins that ends here
abbrev pub before : Cursor → TypedDecl → Cursor
before c (Simple t xs) = record c { position = c.position - length xs.items }
before c (Array' t xs shape bounds) = record c { position = c.position - length xs.items }
before c (Proc p) = before_procedure c p
before c (Class x) = before_class c x

-- where declarations begin that end here
abbrev pub begin_of : Cursor → List TypedDecl → Cursor
begin_of end [] = end
begin_of end (d ∷ rest) = before (begin_of end rest) d

-- the names of declarations that end here
abbrev pub names_before : List (Option ClassId) → (level : ℕ) → Cursor → List TypedDecl → Names → Names
names_before classes level end [] more = more
names_before classes level end (d ∷ rest) more = decl_names classes level (before (begin_of end rest) d) d (names_before classes level end rest more)
