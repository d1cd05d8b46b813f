-- What declarations declare.
use Rattle.std.specs.Prelude.{ℕ, ℤ, pos, negsuc, suc, List, [], ◌∷◌, ◌++◌, Option, Some, None, Bool, true, false, ◌&&◌, nat_le, nat_eq}
use Rattle.value_ops.specs.declared.places.Place.{Place}
use Rattle.value_ops.specs.declared.places.Diagnostic.{Diagnostic}
use Rattle.algolw_tree.specs.declared.phrases.Mode.{Mode}
use Rattle.algolw_tree.specs.declared.phrases.Mode.TheVariants as mode
use Rattle.algolw_tree.specs.declared.standard.Standard.{Standard}
use Rattle.algolw_tree.specs.Standards.{StandardNames, standard_table}
use Rattle.algolw_tree.specs.Tree.{Placed, TypeSpec, Formal, ClassDecl, Items, no_items, item_and, Labelled, Decls, no_decls, decl_and, Bounds, no_bounds, bound_and}
use Rattle.algolw_tree.specs.Tree as tree
use Rattle.algolw_typing.specs.Names.{Entry, Scope, Path, declared, in_scope}
use Rattle.algolw_typing.specs.Types.{ValueType, Integer, Logical, Bits, Str, Reference, with_class}
use Rattle.algolw_typing.specs.Verdicts.{diagnostic}
use Rattle.algolw_typing.specs.Actuals.{Reading, as_phrases, for_formals, at_run_time}
use Rattle.algolw_typing.specs.Meanings.{Meaning, a_variable, an_array, a_procedure_formal, a_class, a_field, a_label, a_control, a_standard, FormalType, by_name, by_value, by_result, by_value_result, for_array, for_procedure}

-- what is known of a name: whether it is a class, how the parts of a list behind it are read, and what it means, where its declaration is good
pub record Known : Type 0 where
  pub is_class : Bool
  pub reading : Reading
  pub means : Option Meaning

abbrev pub Scopes : Type 0
Scopes = Path Known

abbrev pub known : Placed → Bool → Reading → Option Meaning → Entry Known
known x is_class reading meaning = record { name = x.0; place = x.1; is = record { is_class = is_class; reading = reading; means = meaning } }

abbrev pub entry : Placed → Option Meaning → Entry Known
entry x meaning = known x false as_phrases meaning

abbrev pub class_entry : Placed → Option Meaning → Entry Known
class_entry x meaning = known x true as_phrases meaning

abbrev pub procedure_entry : Placed → List FormalType → Option Meaning → Entry Known
procedure_entry x formals meaning = known x false (for_formals formals) meaning

abbrev pub entries : List Placed → Option Meaning → Scope Known
entries [] meaning = []
entries (x ∷ xs) meaning = entry x meaning ∷ entries xs meaning

-- ---- types as they are written

-- class name in a type or after IS, at the name: 30 undeclared; 33 no class
abbrev pub class_fault : Placed → Option (Entry Known) → List Diagnostic
class_fault x None = diagnostic 30 x.1
class_fault x (Some e) = elim e.is.is_class [ true ↦ [] | false ↦ diagnostic 33 x.1 ]

abbrev pub class_faults : Scopes → List Placed → List Diagnostic
class_faults path [] = []
class_faults path (x ∷ xs) = class_fault x (declared path x.0) ++ class_faults path xs

-- a number that is written, which has no sign
abbrev pub written : ℤ → ℕ
written (pos n) = n
written (negsuc n) = 0

-- `STRING(n)`, `BITS(n)` in a type, at the number: 32 unless 1 <= n <= 256 for STRING and n = 32 for BITS
abbrev pub length_fault : ℤ × Place → List Diagnostic
length_fault n = elim (nat_le 1 (written n.0) && nat_le (written n.0) 256) [ true ↦ [] | false ↦ diagnostic 32 n.1 ]

abbrev pub width_fault : ℤ × Place → List Diagnostic
width_fault n = elim (nat_eq (written n.0) 32) [ true ↦ [] | false ↦ diagnostic 32 n.1 ]

-- the faults of a type
abbrev pub spec_faults : Scopes → TypeSpec → List Diagnostic
spec_faults path tree.Integer = []
spec_faults path tree.Logical = []
spec_faults path (tree.Bits None) = []
spec_faults path (tree.Bits (Some n)) = width_fault n
spec_faults path (tree.Str None) = []
spec_faults path (tree.Str (Some n)) = length_fault n
spec_faults path (tree.Reference xs) = class_faults path xs

abbrev pub with_declared : {A : Type 0} → Option (Entry A) → List Place → List Place
with_declared None set = set
with_declared (Some e) set = with_class e.place set

abbrev pub class_set : {A : Type 0} → Path A → List Placed → List Place
class_set path [] = []
class_set path (x ∷ xs) = with_declared (declared path x.0) (class_set path xs)

-- the type that a type without faults is; a bare STRING is STRING(16)
abbrev pub spec_type : {A : Type 0} → Path A → TypeSpec → ValueType
spec_type path tree.Integer = Integer
spec_type path tree.Logical = Logical
spec_type path (tree.Bits n) = Bits
spec_type path (tree.Str None) = Str 16
spec_type path (tree.Str (Some n)) = Str (written n.0)
spec_type path (tree.Reference xs) = Reference (class_set path xs)

abbrev pub result_faults : Scopes → Option TypeSpec → List Diagnostic
result_faults path None = []
result_faults path (Some spec) = spec_faults path spec

abbrev pub result_type : Scopes → Option TypeSpec → Option ValueType
result_type path None = None
result_type path (Some spec) = Some (spec_type path spec)

-- array declaration or formal, at its first name: 32 more than 8 dimensions
abbrev pub dimension_fault : List Placed → ℕ → List Diagnostic
dimension_fault [] n = []
dimension_fault (x ∷ xs) n = elim (nat_le n 8) [ true ↦ [] | false ↦ diagnostic 32 x.1 ]

-- a meaning, where there are no faults
abbrev pub good : List Diagnostic → Meaning → Option Meaning
good [] meaning = Some meaning
good (f ∷ faults) meaning = None

-- ---- formals

abbrev pub formal_fault : Scopes → Formal → List Diagnostic
formal_fault path f = result_faults path f.spec ++ dimension_fault f.names f.dimensions

abbrev pub formal_faults : Scopes → List Formal → List Diagnostic
formal_faults path [] = []
formal_faults path (f ∷ formals) = formal_fault path f ++ formal_faults path formals

-- a formal as calls see it; but for a PROCEDURE it has a type
abbrev pub formal_type : Mode → ℕ → Option ValueType → FormalType
formal_type mode.Procedure n result = for_procedure result
formal_type m n None = for_procedure None
formal_type mode.ByName n (Some t) = by_name t
formal_type mode.Value n (Some t) = by_value t
formal_type mode.Result n (Some t) = by_result t
formal_type mode.ValueResult n (Some t) = by_value_result t
formal_type mode.Array n (Some t) = for_array t n

abbrev pub same_formals : List Placed → FormalType → List FormalType
same_formals [] f = []
same_formals (x ∷ xs) f = f ∷ same_formals xs f

-- the formals of a procedure, one for each name
abbrev pub formal_types : Scopes → List Formal → List FormalType
formal_types path [] = []
formal_types path (f ∷ formals) = same_formals f.names (formal_type f.mode f.dimensions (result_type path f.spec)) ++ formal_types path formals

-- what a formal is in the body
abbrev pub formal_meaning : FormalType → Meaning
formal_meaning (for_procedure result) = a_procedure_formal result
formal_meaning (for_array t n) = an_array t n
formal_meaning (by_name t) = a_variable t
formal_meaning (by_value t) = a_variable t
formal_meaning (by_result t) = a_variable t
formal_meaning (by_value_result t) = a_variable t

abbrev pub formal_reading : FormalType → Reading
formal_reading (for_procedure result) = at_run_time
formal_reading f = as_phrases

abbrev pub formal_entries : List Placed → Reading → Option Meaning → Scope Known
formal_entries [] reading meaning = []
formal_entries (x ∷ xs) reading meaning = known x false reading meaning ∷ formal_entries xs reading meaning

-- A formal list declares its formals round the body.
abbrev pub formal_scope : Scopes → List Formal → Scope Known
formal_scope path [] = []
formal_scope path (f ∷ formals) =
    let type = formal_type f.mode f.dimensions (result_type path f.spec) in
    formal_entries f.names (formal_reading type) (good (formal_fault path f) (formal_meaning type)) ++ formal_scope path formals

-- ---- record classes

abbrev pub group_faults : Scopes → List (TypeSpec × List Placed) → List Diagnostic
group_faults path [] = []
group_faults path (g ∷ groups) = spec_faults path g.0 ++ group_faults path groups

abbrev pub same_types : List Placed → ValueType → List ValueType
same_types [] t = []
same_types (x ∷ xs) t = t ∷ same_types xs t

abbrev pub field_types : Scopes → List (TypeSpec × List Placed) → List ValueType
field_types path [] = []
field_types path (g ∷ groups) = same_types g.1 (spec_type path g.0) ++ field_types path groups

-- A RECORD is one declaration: a fault in one group leaves the class and all its fields without type.
abbrev pub field_entries : Scopes → List Diagnostic → Place → List (TypeSpec × List Placed) → Scope Known
field_entries path faults c [] = []
field_entries path faults c (g ∷ groups) = entries g.1 (good faults (a_field c (spec_type path g.0))) ++ field_entries path faults c groups

abbrev pub class_entries : Scopes → ClassDecl → Scope Known
class_entries path c = class_entry c.name (good (group_faults path c.groups) (a_class (field_types path c.groups))) ∷ field_entries path (group_faults path c.groups) c.name.1 c.groups

-- ---- blocks

-- the names of a block as they stand in it, before anything is known of what they mean: so much is enough to read types
abbrev pub group_names : List (TypeSpec × List Placed) → List Placed
group_names [] = []
group_names (g ∷ groups) = g.1 ++ group_names groups

abbrev pub names_of_decl : tree.Decl → Scope Known
names_of_decl (tree.Simple spec xs) = entries xs None
names_of_decl (tree.Array spec xs _) = entries xs None
names_of_decl (tree.Proc p result x formals body) = entry x None ∷ []
names_of_decl (tree.Class c) = class_entry c.name None ∷ entries (group_names c.groups) None

abbrev pub names_of_decls : Decls → Scope Known
names_of_decls no_decls = []
names_of_decls (decl_and d decls) = names_of_decl d ++ names_of_decls decls

abbrev pub label_entries : Items → Scope Known
label_entries no_items = []
label_entries (item_and (Labelled labels a) items) = entries labels (Some a_label) ++ label_entries items

abbrev pub names_of_block : Decls → Items → Scope Known
names_of_block decls items = names_of_decls decls ++ label_entries items

-- A name of a scope declared a second time, in order of place, is diagnostic 31 there.
abbrev pub again : {A : Type 0} → Scope A → Entry A → List Diagnostic
again before e = elim (in_scope before e.name) [ None ↦ [] | Some d ↦ diagnostic 31 e.place ]

abbrev pub twice : {A : Type 0} → (before : Scope A) → Scope A → List Diagnostic
twice before [] = []
twice before (e ∷ scope) = again before e ++ twice (before ++ e ∷ []) scope

-- Diagnostic 31 makes no declaration faulty.
abbrev pub without_twice : List Diagnostic → List Diagnostic
without_twice [] = []
without_twice (f ∷ faults) = elim (nat_eq f.number 31) [ true ↦ without_twice faults | false ↦ f ∷ without_twice faults ]

abbrev pub bound_count : Bounds → ℕ
bound_count no_bounds = 0
bound_count (bound_and b bounds) = suc (bound_count bounds)

-- ---- FOR and the block round the program

-- A FOR declares its control name for its body alone, at the place of FOR.
abbrev pub control_scope : Place → List ℕ → Scope Known
control_scope p x = entry (x, p) (Some a_control) ∷ []

-- The standard names stand on no card: the place of each is its number on card 0.
abbrev pub standard_entry : List ℕ → ℕ → Standard → Entry Known
standard_entry x n s = entry (x, record { card = 0; column = n }) (Some (a_standard s))

-- names that stand on no card, the first of them in this column
abbrev pub standard_entries : ℕ → StandardNames → Scope Known
standard_entries n [] = []
standard_entries n (x ∷ names) = standard_entry x.0 n x.1 ∷ standard_entries (suc n) names

abbrev pub standard_scope : Scope Known
standard_scope = standard_entries 1 standard_table
