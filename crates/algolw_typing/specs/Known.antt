-- That a typed tree has no names and no record classes but those of two lists, each by the place of its declaration.
use Rattle.std.specs.Prelude.{◌≡◌, ⊤, ℕ, List, [], ◌∷◌, map, Option, Some, None, true}
use Rattle.std.specs.List.{All, Any}
use Rattle.value_ops.specs.declared.places.Place.{Place}
use Rattle.algolw_tree.specs.declared.programs.NameInfo.{NameInfo}
use Rattle.algolw_tree.specs.Tree.{Phrase}
use Rattle.algolw_typing.specs.Types.{ValueType, Reference, Gives, Simple, has}
use Rattle.algolw_typing.specs.Typed as typed
use Rattle.algolw_typing.specs.Naming.{Class}
use Rattle.algolw_typing.specs.Programs.{TypedProgram, program_of}
use Rattle.algolw_typing.specs.Faults.{program_faults}

abbrev pub AllHad : (places set : List Place) → Type 0
AllHad places [] = ⊤
AllHad places (p ∷ set) = (has places p ≡ true) × AllHad places set

-- ---- the classes of types

abbrev pub KnowsType : (classes : List Place) → ValueType → Type 0
KnowsType classes (Reference set) = AllHad classes set
KnowsType classes t = ⊤

abbrev pub KnowsResult : (classes : List Place) → Option ValueType → Type 0
KnowsResult classes None = ⊤
KnowsResult classes (Some t) = KnowsType classes t

abbrev pub KnowsGives : (classes : List Place) → Option Gives → Type 0
KnowsGives classes (Some (Simple t)) = KnowsType classes t
KnowsGives classes g = ⊤

-- ---- names that are declared

abbrev pub KnowsDeclared : (names : List Place) → List typed.Placed → Type 0
KnowsDeclared names [] = ⊤
KnowsDeclared names (d ∷ ds) = (has names d.0 ≡ true) × KnowsDeclared names ds

abbrev pub KnowsFormals : (names classes : List Place) → List typed.Formal → Type 0
KnowsFormals names classes [] = ⊤
KnowsFormals names classes (f ∷ formals) = KnowsResult classes f.type × KnowsDeclared names f.names × KnowsFormals names classes formals

abbrev pub KnowsGroups : (names classes : List Place) → List typed.Group → Type 0
KnowsGroups names classes [] = ⊤
KnowsGroups names classes (g ∷ groups) = KnowsType classes g.type × KnowsDeclared names g.names × KnowsGroups names classes groups

-- ---- trees: each name and each class, of a type or behind IS, is had

abbrev mutual
  pub Knows : (names classes : List Place) → typed.Node → Type 0
  Knows names classes (typed.At p f g s k) = KnowsGives classes g × KnowsKind names classes k

  pub KnowsKind : (names classes : List Place) → typed.Kind → Type 0
  KnowsKind names classes (typed.Named d lists) = (has names d ≡ true) × KnowsLists names classes lists
  KnowsKind names classes (typed.Negated a) = Knows names classes a
  KnowsKind names classes (typed.Abs a) = Knows names classes a
  KnowsKind names classes (typed.Signed minus a) = Knows names classes a
  KnowsKind names classes (typed.Chain a links) = Knows names classes a × KnowsLinks names classes links
  KnowsKind names classes (typed.Relation op a b) = Knows names classes a × Knows names classes b
  KnowsKind names classes (typed.IsClass a d q) = Knows names classes a × (has names d ≡ true) × (has classes d ≡ true)
  KnowsKind names classes (typed.Assign a b) = Knows names classes a × Knows names classes b
  KnowsKind names classes (typed.IfThen c a b) = Knows names classes c × Knows names classes a × KnowsPerhaps names classes b
  KnowsKind names classes (typed.CaseValue c values) = Knows names classes c × KnowsNodes names classes values
  KnowsKind names classes (typed.CaseDo c parts) = Knows names classes c × KnowsNodes names classes parts
  KnowsKind names classes (typed.ForStep d a step b body) = (has names d ≡ true) × Knows names classes a × KnowsPerhaps names classes step × Knows names classes b × Knows names classes body
  KnowsKind names classes (typed.ForList d values body) = (has names d ≡ true) × KnowsNodes names classes values × Knows names classes body
  KnowsKind names classes (typed.WhileDo c a) = Knows names classes c × Knows names classes a
  KnowsKind names classes (typed.Goto d) = has names d ≡ true
  KnowsKind names classes (typed.Assert c) = Knows names classes c
  KnowsKind names classes (typed.Block decls items) = KnowsDecls names classes decls × KnowsItems names classes items
  KnowsKind names classes k = ⊤

  pub KnowsPerhaps : (names classes : List Place) → typed.Perhaps → Type 0
  KnowsPerhaps names classes typed.Missing = ⊤
  KnowsPerhaps names classes (typed.There a) = Knows names classes a

  pub KnowsNodes : (names classes : List Place) → typed.Nodes → Type 0
  KnowsNodes names classes typed.no_nodes = ⊤
  KnowsNodes names classes (typed.node_and a nodes) = Knows names classes a × KnowsNodes names classes nodes

  pub KnowsLinks : (names classes : List Place) → typed.Links → Type 0
  KnowsLinks names classes typed.no_links = ⊤
  KnowsLinks names classes (typed.link_and (typed.Linked op q a) links) = Knows names classes a × KnowsLinks names classes links

  pub KnowsLists : (names classes : List Place) → typed.Lists → Type 0
  KnowsLists names classes typed.no_lists = ⊤
  KnowsLists names classes (typed.list_and (typed.OfActuals q actuals) lists) = KnowsActuals names classes actuals × KnowsLists names classes lists
  KnowsLists names classes (typed.list_and (typed.OfPart q a n) lists) = Knows names classes a × KnowsLists names classes lists

  pub KnowsActuals : (names classes : List Place) → typed.Actuals → Type 0
  KnowsActuals names classes typed.no_actuals = ⊤
  KnowsActuals names classes (typed.actual_and (typed.Star q) actuals) = KnowsActuals names classes actuals
  KnowsActuals names classes (typed.actual_and (typed.Given a) actuals) = Knows names classes a × KnowsActuals names classes actuals

  pub KnowsItems : (names classes : List Place) → typed.Items → Type 0
  KnowsItems names classes typed.no_items = ⊤
  KnowsItems names classes (typed.item_and (typed.Labelled labels a) items) = KnowsDeclared names labels × Knows names classes a × KnowsItems names classes items

  pub KnowsBounds : (names classes : List Place) → typed.Bounds → Type 0
  KnowsBounds names classes typed.no_bounds = ⊤
  KnowsBounds names classes (typed.bound_and (typed.Between q a b) bounds) = Knows names classes a × Knows names classes b × KnowsBounds names classes bounds

  pub KnowsDecls : (names classes : List Place) → typed.Decls → Type 0
  KnowsDecls names classes typed.no_decls = ⊤
  KnowsDecls names classes (typed.decl_and d decls) = KnowsDecl names classes d × KnowsDecls names classes decls

  pub KnowsDecl : (names classes : List Place) → typed.Decl → Type 0
  KnowsDecl names classes (typed.Simple t xs) = KnowsType classes t × KnowsDeclared names xs
  KnowsDecl names classes (typed.Array t xs bounds) = KnowsType classes t × KnowsDeclared names xs × KnowsBounds names classes bounds
  KnowsDecl names classes (typed.Proc q result x formals body) = KnowsResult classes result × (has names x.0 ≡ true) × KnowsFormals names classes formals × Knows names classes body
  KnowsDecl names classes (typed.Class x groups) = (has names x.0 ≡ true) × KnowsGroups names classes groups

-- ---- record classes: each class of each field's type is had

abbrev pub FieldsKnow : (classes : List Place) → List (List ℕ × ValueType) → Type 0
FieldsKnow classes [] = ⊤
FieldsKnow classes (f ∷ fields) = KnowsType classes f.1 × FieldsKnow classes fields

abbrev pub ClassesKnow : (classes : List Place) → List Class → Type 0
ClassesKnow classes [] = ⊤
ClassesKnow classes (c ∷ cs) = FieldsKnow classes c.fields × ClassesKnow classes cs

-- ---- programs

abbrev pub name_places : TypedProgram → List Place
name_places program = map (λ i. i.place) program.names

abbrev pub class_places : TypedProgram → List Place
class_places program = map (λ c. c.place) program.classes

-- one of these names is the record class's
abbrev pub IsNamed : List NameInfo → Class → Type 0
IsNamed names c = Any (λ (i : NameInfo). (i.place ≡ c.place) × (i.name ≡ c.name)) names

-- In a program without faults each name is one that the program declares, and each class of a type is one of its record classes, which are names.
pub record NothingUnknown : Type 0 where
  pub tree : (x : Phrase) → program_faults x ≡ [] → Knows (name_places (program_of x)) (class_places (program_of x)) (program_of x).root
  pub fields : (x : Phrase) → program_faults x ≡ [] → ClassesKnow (class_places (program_of x)) (program_of x).classes
  pub classes : (x : Phrase) → All (IsNamed (program_of x).names) (program_of x).classes
