-- What names stand for, as the contexts of the definitions have it.
use Rattle.std.specs.Prelude.{◌≡◌, ◌≢◌, ⊤, ℕ, ◌+◌, ◌<◌, ◌≤◌, List, [], ◌∷◌, ◌++◌, map, length, Option, Some, None, true, false}
use Rattle.std.specs.List.{All}
use Rattle.value_ops.specs.declared.places.Place.{Place}
use Rattle.value_ops.specs.declared.values.ClassId.{ClassId}
use Rattle.record_classes.specs.Classes.{class_of}
use Rattle.algolw_tree.specs.declared.programs.NameInfo.{NameInfo}
use Rattle.algolw_tree.specs.declared.programs.TypedDecl.{TypedDecl}
use Rattle.algolw_tree.specs.declared.programs.TypedItem.{TypedItem}
use Rattle.algolw_typing.specs.Typed as typed
use Rattle.algolw_typing.specs.Types.{has}
use Rattle.algolw_typing.specs.ProgramView.{Numbers, nowhere}
use Rattle.program_meaning.specs.Translating as translating
use Rattle.program_soundness.specs.Tables.{Info, are_apart, decls_info, labels_info}
use Rattle.phrase_code.specs.Sizes as kinds
use Rattle.phrase_code.specs.Coding as coding
use Rattle.phrase_code.specs.Coding.{Stand}
use Rattle.stack_code.specs.CodeView.{Given, FormalFits, KindFits, KindsFit, class_place, formal_view, kind_view, kinds_view, name_of}
use Rattle.stack_code.specs.Linking.{instruction_at}
use Rattle.stack_code.specs.declared.heads.CodedName.{CodedName}
use Rattle.stack_code.specs.declared.heads.Formal.{Formal}
use Rattle.compilable_programs.specs.Begun.{is_procedure, standard_procedures}
use Rattle.compilable_programs.specs.Compiled.{AreApart}
use Rattle.symbol_table.specs.declared.here.Here.{Here}
use Rattle.symbol_table.specs.declared.standings.Entry.{Entry}
use Rattle.symbol_table.specs.declared.standings.Standing.{Standing}
use Rattle.symbol_table.specs.declared.standings.Standing.TheVariants as standing
use Rattle.symbol_table.specs.Standings.{Names}
use Rattle.symbol_table.specs.Blocks.{with_block}
use Rattle.symbol_table.specs.Parts.{decls_in, items_in}
use Rattle.symbol_table.specs.Symbols.{SymbolsView, class_at, control_standing, formals_of, types_of, with_formals, with_name}

-- what numbers stand for in a program, and what is known of its names where code is made
pub record Scene : Type 0 where
  pub given : Given
  pub symbols : SymbolsView

-- what the numbers in a program's tree stand for
abbrev pub numbers_in : Scene → Numbers
numbers_in s = record { names = map (λ n. n.place) s.given.names; classes = s.given.class_places; sets = s.given.classes.sets; statements = s.given.statements }

abbrev pub place_of : Scene → ℕ → Place
place_of s n = (name_of s.given n).place

-- ---- the context of code

abbrev pub stand : Place → kinds.Kind → Entry → (target : ℕ) → Stand
stand p kind e target = record { place = p; kind = kind; level = e.level; position = e.position; target = target }

-- what a name that is declared adds, where targets are these instructions
abbrev pub stand_and : Scene → (targets : List ℕ) → Place → Standing → List Stand → List Stand
stand_and s ts p (standing.Variable t e) more = stand p kinds.a_variable e 0 ∷ more
stand_and s ts p (standing.NameFormal t e) more = stand p kinds.a_name_formal e 0 ∷ more
stand_and s ts p (standing.Control e) more = stand p kinds.a_variable e 0 ∷ more
stand_and s ts p (standing.Array t e) more = stand p kinds.an_array e 0 ∷ more
stand_and s ts p (standing.ProcedureFormal t e) more = stand p kinds.a_procedure_formal e 0 ∷ more
stand_and s ts p (standing.Procedure x) more = stand p (kinds.a_procedure (map (formal_view s.given) (formals_of s.symbols x))) (record { level = x.level; position = 0 }) (instruction_at ts x.target) ∷ more
stand_and s ts p (standing.Label e target) more = stand p kinds.a_label e (instruction_at ts target) ∷ more
stand_and s ts p x more = more

abbrev pub stands : Scene → List ℕ → Names → List Stand
stands s ts [] = []
stands s ts (x ∷ names) = stand_and s ts (place_of s x.0) x.1 (stands s ts names)

-- the context of code here, where targets are these instructions
abbrev pub coding_context : Scene → List ℕ → Here → coding.Context
coding_context s ts here = record { names = stands s ts s.symbols.names; level = here.level; count = here.entries }

-- ---- the context of phrases
-- what a name that is declared adds to the context of phrases; a label adds nothing
abbrev pub known_and : Scene → Place → Standing → List translating.Known → List translating.Known
known_and s p (standing.Standard n) more = record { place = p; is = translating.a_standard_name n } ∷ more
known_and s p (standing.Variable t e) more = record { place = p; is = translating.a_variable (kind_view s.given t) } ∷ more
known_and s p (standing.NameFormal t e) more = record { place = p; is = translating.a_variable (kind_view s.given t) } ∷ more
known_and s p (standing.Control e) more = record { place = p; is = translating.a_control } ∷ more
known_and s p (standing.Array t e) more = record { place = p; is = translating.an_array (kind_view s.given t) } ∷ more
known_and s p (standing.Procedure x) more = record { place = p; is = translating.a_procedure (kinds_view s.given x.result) } ∷ more
known_and s p (standing.ProcedureFormal t e) more = record { place = p; is = translating.a_procedure_formal (kinds_view s.given t) } ∷ more
known_and s p (standing.Class c) more = record { place = p; is = translating.a_class (map (kind_view s.given) (types_of s.symbols c)) } ∷ more
known_and s p (standing.Field c n t) more = record { place = p; is = translating.a_field (class_place s.given c) n (kind_view s.given t) } ∷ more
known_and s p x more = more

abbrev pub knowns : Scene → Names → List translating.Known
knowns s [] = []
knowns s (x ∷ names) = known_and s (place_of s x.0) x.1 (knowns s names)

-- a name as phrases have it
abbrev pub info_of : CodedName → NameInfo
info_of n = record { name = n.text; place = n.place; level = 0; slot = 0 }

abbrev pub phrase_context : Scene → translating.Context
phrase_context s = record { names = map info_of s.given.names; known = knowns s s.symbols.names }

-- ---- what fits

-- each number is one that the tables have
abbrev pub StandingFits : Scene → Standing → Type 0
StandingFits s (standing.Variable t e) = KindFits s.given t
StandingFits s (standing.NameFormal t e) = KindFits s.given t
StandingFits s (standing.Array t e) = KindFits s.given t
StandingFits s (standing.Procedure x) = KindsFit s.given x.result × (x.formals + x.count ≤ length s.symbols.formals)
StandingFits s (standing.ProcedureFormal t e) = KindsFit s.given t
StandingFits s (standing.Class c) = (c.class.0 < length s.given.class_places) × (c.fields + c.count ≤ length s.symbols.fields)
StandingFits s (standing.Field c n t) = (c.0 < length s.given.class_places) × KindFits s.given t
StandingFits s x = ⊤

-- a class stands where the class of its number does, and a standard procedure at a place of these
abbrev pub StandsAt : Scene → Place → Standing → Type 0
StandsAt s p (standing.Class c) = class_place s.given c.class ≡ p
StandsAt s p (standing.Standard n) = is_procedure n ≡ true → has standard_procedures p ≡ true
StandsAt s p x = ⊤

-- no name is declared twice
abbrev pub IsOnce : Names → Type 0
IsOnce [] = ⊤
IsOnce (x ∷ names) = All (λ (y : ℕ × Standing). x.0 ≢ y.0) names × IsOnce names

abbrev pub place_of_class : Scene → (class : ℕ) → Place
place_of_class s n = class_place s.given (record { 0 = n })

-- a class has the number of the class that is declared at its name's place
abbrev pub IsNumbered : Scene → Place → Option ClassId → Type 0
IsNumbered s p None = ⊥
IsNumbered s p (Some c) = class_place s.given c ≡ p

-- the tables have a standing for each name, names stand apart, each class has its number and its name, and what is known of names fits, each at
-- its place
pub record SceneFits (s : Scene) : Type 0 where
  pub counted : s.symbols.count ≡ length s.given.names
  pub classes : length s.symbols.classes ≡ length s.given.names
  pub somewhere : has (numbers_in s).names nowhere ≡ false
  pub apart : AreApart (numbers_in s).names
  pub unclassed : has s.given.class_places nowhere ≡ false
  pub numbered : (n : ℕ) → n < length s.given.names → has s.given.class_places (place_of s n) ≡ true → IsNumbered s (place_of s n) (class_at s.symbols.classes n)
  pub titled : (n : ℕ) → n < length s.given.class_places → translating.text_at (map info_of s.given.names) (place_of_class s n) ≡ (class_of s.given.classes (record { 0 = n })).name
  pub once : IsOnce s.symbols.names
  pub names : All (λ (x : ℕ × Standing). (x.0 < length s.given.names) × StandingFits s x.1) s.symbols.names
  pub there : All (λ (x : ℕ × Standing). StandsAt s (place_of s x.0) x.1) s.symbols.names
  pub fields : All (KindFits s.given) s.symbols.fields
  pub formals : All (FormalFits s.given) s.symbols.formals

abbrev pub places_of : Scene → Names → List Place
places_of s names = map (λ (x : ℕ × Standing). place_of s x.0) names

-- declarations of a tree: no two are one, and none of them is declared by now
pub record AreFresh (s : Scene) (is : List Info) : Type 0 where
  pub apart : are_apart is ≡ true
  pub new : All (λ (i : Info). has (places_of s s.symbols.names) i.place ≡ false) is

-- each class that is declared is one of these
abbrev pub ClassesHad : (classes : List Place) → typed.Decls → Type 0
ClassesHad classes typed.no_decls = ⊤
ClassesHad classes (typed.decl_and (typed.Class x groups) rest) = (has classes x.0 ≡ true) × ClassesHad classes rest
ClassesHad classes (typed.decl_and d rest) = ClassesHad classes rest

-- ---- inside

-- what the names of a block are
abbrev pub block_infos : Scene → List TypedDecl → List TypedItem → List Info
block_infos s decls items = decls_info (decls_in (numbers_in s) decls) ++ labels_info (items_in (numbers_in s) items)

-- in a block whose entries begin here
abbrev pub in_block : Scene → Here → (target : ℕ) → List TypedDecl → List TypedItem → Scene
in_block s here target decls items = record s { symbols = with_block s.symbols here target decls items }

-- in the body of a procedure, which is so deep
abbrev pub in_body : Scene → (level : ℕ) → List Formal → Scene
in_body s level formals = record s { symbols = with_formals s.symbols level formals }

-- in the body of a FOR
abbrev pub in_turn : Scene → (name : ℕ) → Entry → Scene
in_turn s name e = record s { symbols = with_name s.symbols name (control_standing e) }

-- ---- what a name stands for in the contexts

abbrev pub stand_by : Scene → List ℕ → Place → Standing → Option Stand
stand_by s ts p x = coding.stand_at (stand_and s ts p x []) p

abbrev pub declared_by : Scene → Place → Standing → translating.Declared
declared_by s p x = translating.declared_at (known_and s p x []) p

-- the same, standing by standing
abbrev pub stand_for : Scene → List ℕ → Place → Standing → Option Stand
stand_for s ts p (standing.Variable t e) = Some (stand p kinds.a_variable e 0)
stand_for s ts p (standing.NameFormal t e) = Some (stand p kinds.a_name_formal e 0)
stand_for s ts p (standing.Control e) = Some (stand p kinds.a_variable e 0)
stand_for s ts p (standing.Array t e) = Some (stand p kinds.an_array e 0)
stand_for s ts p (standing.ProcedureFormal t e) = Some (stand p kinds.a_procedure_formal e 0)
stand_for s ts p (standing.Procedure x) = Some (stand p (kinds.a_procedure (map (formal_view s.given) (formals_of s.symbols x))) (record { level = x.level; position = 0 }) (instruction_at ts x.target))
stand_for s ts p (standing.Label e target) = Some (stand p kinds.a_label e (instruction_at ts target))
stand_for s ts p x = None

abbrev pub declared_for : Scene → Standing → translating.Declared
declared_for s (standing.Standard n) = translating.a_standard_name n
declared_for s (standing.Variable t e) = translating.a_variable (kind_view s.given t)
declared_for s (standing.NameFormal t e) = translating.a_variable (kind_view s.given t)
declared_for s (standing.Control e) = translating.a_control
declared_for s (standing.Array t e) = translating.an_array (kind_view s.given t)
declared_for s (standing.Procedure x) = translating.a_procedure (kinds_view s.given x.result)
declared_for s (standing.ProcedureFormal t e) = translating.a_procedure_formal (kinds_view s.given t)
declared_for s (standing.Class c) = translating.a_class (map (kind_view s.given) (types_of s.symbols c))
declared_for s (standing.Field c n t) = translating.a_field (class_place s.given c) n (kind_view s.given t)
declared_for s x = translating.unknown
