-- Phrases as they are executed. A name is replaced by what it means when its block, call or turn begins.
use Rattle.std.specs.Prelude.{ℕ, ℤ, Bool, true, false, List, [], ◌∷◌, ◌++◌, map, Option}
use Rattle.value_ops.specs.declared.places.Place.{Place}
use Rattle.value_ops.specs.declared.values.Value.{Value}
use Rattle.algolw_tree.specs.declared.phrases.Op.{Op}
use Rattle.algolw_tree.specs.declared.phrases.RelOp.{RelOp}
use Rattle.algolw_tree.specs.declared.standard.UnaryOp.{UnaryOp}
use Rattle.algolw_tree.specs.declared.standard.Width.{Width}
use Rattle.algolw_typing.specs.Types.{ValueType, Gives, has}
use Rattle.algolw_typing.specs.Meanings.{FormalType}

-- a name: where it is declared, and as it is written
pub record Name : Type 0 where
  pub place : Place
  pub text : List ℕ

-- a formal, as calls see it
pub record Formal : Type 0 where
  pub name : Name
  pub is : FormalType

-- what is kept of an actual that is copied: the type of its formal, which a statement has none of; whether it is a variable of that type; the
-- innermost statement that holds it; and its first token
pub record Mark : Type 0 where
  pub type : Option ValueType
  pub is_variable : Bool
  pub statement : Place
  pub first : Place

-- what a part of WRITE is for: its value is placed, or it sets a width for the parts behind it
pub data Role : Type 0 where
  placed : Role
  sets : Width → Role

mutual
  pub data Phrase : Type 0 where
    -- the empty statement, and a value that is known
    Empty : Phrase
    Constant : Value → Phrase
    -- a name, by the place of its declaration
    Named : Place → Phrase
    -- what is put for a name: a variable; an array, of which some subscripts may be given; a label; a procedure; a copied actual
    Variable : ℕ → Phrase
    Array : ℕ → List (Option ℤ) → Phrase
    Label : ℕ → Phrase
    Procedure : ℕ → Phrase
    Copied : Mark → Phrase → Phrase
    -- values
    Unary : UnaryOp → Phrase → Phrase
    Binary : Op → Phrase → Phrase → Phrase
    Relation : RelOp → Phrase → Phrase → Phrase
    IsClass : Phrase → (class : Place) → Phrase
    Element : Phrase → Phrases → Phrase
    Field : (class : Place) → (position : ℕ) → Phrase → Phrase
    -- n characters of a string of m, from a place on
    Part : (m n : ℕ) → Phrase → Phrase → Phrase
    -- a record with these fields, and one with so many that are undefined
    Record : (class : Name) → List ValueType → Phrases → Phrase
    RecordAlone : (class : Name) → ℕ → Phrase
    -- what is a statement has its first token in front
    IfThen : Option Place → Option ValueType → Phrase → Phrase → Phrase → Phrase
    Case : Option Place → Option ValueType → Phrase → Phrases → Phrase
    Block : Option Place → Place → Decls → Items → Phrase
    -- whether actuals are compared with formals, and the place of the name
    Call : Option Place → Bool → Place → Phrase → Actuals → Phrase
    Assign : Option Place → ValueType → Phrase → Phrase → Phrase
    WhileDo : Place → Phrase → Phrase → Phrase
    ForStep : Place → Name → Phrase → Phrase → Phrase → Phrase → Phrase
    ForList : Place → Name → Phrases → Phrase → Phrase
    Goto : Place → Phrase → Phrase
    Assert : Place → Phrase → Phrase
    -- WRITE begins a line, WRITEON doesn't; each part has its role
    Write : Place → Bool → List Role → Phrases → Phrase
    -- READ begins with the next card, READON doesn't
    Read : Place → Bool → Targets → Phrase
    ReadCard : Place → Targets → Phrase
    IoControl : Place → Phrase → Phrase

  pub data Phrases : Type 0 where
    no_phrases : Phrases
    phrase_and : Phrase → Phrases → Phrases

  -- variables that are read, with their types
  pub data Targets : Type 0 where
    no_targets : Targets
    target_and : ValueType → Phrase → Targets → Targets

  -- the subscripts of a subarray: a `*`, or a phrase
  pub data Subscripts : Type 0 where
    no_subscripts : Subscripts
    star_and : Subscripts → Subscripts
    subscript_and : Phrase → Subscripts → Subscripts

  pub data Actuals : Type 0 where
    no_actuals : Actuals
    actual_and : Actual → Actuals → Actuals

  pub data Actual : Type 0 where
    -- a phrase: whether it is a variable, what it gives, and its first token
    Given : Bool → Gives → (first : Place) → Phrase → Actual
    -- the name alone of an array or a procedure, and its place
    Alone : Place → Phrase → Actual
    Subarray : Phrase → Subscripts → Actual

  pub data Items : Type 0 where
    no_items : Items
    item_and : (labels : List Place) → Phrase → Items → Items

  pub data Bounds : Type 0 where
    no_bounds : Bounds
    bound_and : (lower : Phrase) → (upper : Phrase) → Bounds → Bounds

  pub data Decls : Type 0 where
    no_decls : Decls
    variables_and : List Name → Decls → Decls
    arrays_and : ValueType → List Name → Bounds → Decls → Decls
    procedure_and : Name → Option ValueType → List Formal → Phrase → Decls → Decls

-- ---- what is declared

abbrev pub places : List Name → List Place
places names = map (λ name. name.place) names

abbrev pub formal_places : List Formal → List Place
formal_places formals = map (λ formal. formal.name.place) formals

abbrev pub decl_places : Decls → List Place
decl_places no_decls = []
decl_places (variables_and names decls) = places names ++ decl_places decls
decl_places (arrays_and t names pairs decls) = places names ++ decl_places decls
decl_places (procedure_and name result formals body decls) = name.place ∷ decl_places decls

abbrev pub label_places : Items → List Place
label_places no_items = []
label_places (item_and labels phrase items) = labels ++ label_places items

abbrev pub block_places : Decls → Items → List Place
block_places decls items = decl_places decls ++ label_places items

-- ---- putting phrases for names

-- a name that is bound here stays
abbrev pub kept : List Place → (Place → Phrase) → Place → Phrase
kept bound f x = elim (has bound x) [ true ↦ Named x | false ↦ f x ]

-- f x is put for each free name x. A copied actual has no free name, so nothing is put in it. The bounds of a block stand outside its scope.
abbrev mutual
  pub with : (Place → Phrase) → Phrase → Phrase
  with f Empty = Empty
  with f (Constant v) = Constant v
  with f (Named x) = f x
  with f (Variable k) = Variable k
  with f (Array k given) = Array k given
  with f (Label l) = Label l
  with f (Procedure k) = Procedure k
  with f (Copied mark a) = Copied mark a
  with f (Unary op a) = Unary op (with f a)
  with f (Binary op a b) = Binary op (with f a) (with f b)
  with f (Relation op a b) = Relation op (with f a) (with f b)
  with f (IsClass a class) = IsClass (with f a) class
  with f (Element a subscripts) = Element (with f a) (with_phrases f subscripts)
  with f (Field class position a) = Field class position (with f a)
  with f (Part m n a start) = Part m n (with f a) (with f start)
  with f (Record class types values) = Record class types (with_phrases f values)
  with f (RecordAlone class n) = RecordAlone class n
  with f (IfThen st t c a b) = IfThen st t (with f c) (with f a) (with f b)
  with f (Case st t c parts) = Case st t (with f c) (with_phrases f parts)
  with f (Block st p decls items) = Block st p (with_decls f (kept (block_places decls items) f) decls) (with_items (kept (block_places decls items) f) items)
  with f (Call st compares p a actuals) = Call st compares p (with f a) (with_actuals f actuals)
  with f (Assign st t a b) = Assign st t (with f a) (with f b)
  with f (WhileDo st c b) = WhileDo st (with f c) (with f b)
  with f (ForStep st x a b c body) = ForStep st x (with f a) (with f b) (with f c) (with (kept (x.place ∷ []) f) body)
  with f (ForList st x values body) = ForList st x (with_phrases f values) (with (kept (x.place ∷ []) f) body)
  with f (Goto st a) = Goto st (with f a)
  with f (Assert st c) = Assert st (with f c)
  with f (Write st first roles values) = Write st first roles (with_phrases f values)
  with f (Read st next targets) = Read st next (with_targets f targets)
  with f (ReadCard st targets) = ReadCard st (with_targets f targets)
  with f (IoControl st a) = IoControl st (with f a)

  pub with_phrases : (Place → Phrase) → Phrases → Phrases
  with_phrases f no_phrases = no_phrases
  with_phrases f (phrase_and a rest) = phrase_and (with f a) (with_phrases f rest)

  pub with_targets : (Place → Phrase) → Targets → Targets
  with_targets f no_targets = no_targets
  with_targets f (target_and t a rest) = target_and t (with f a) (with_targets f rest)

  pub with_subscripts : (Place → Phrase) → Subscripts → Subscripts
  with_subscripts f no_subscripts = no_subscripts
  with_subscripts f (star_and rest) = star_and (with_subscripts f rest)
  with_subscripts f (subscript_and a rest) = subscript_and (with f a) (with_subscripts f rest)

  pub with_actuals : (Place → Phrase) → Actuals → Actuals
  with_actuals f no_actuals = no_actuals
  with_actuals f (actual_and a rest) = actual_and (with_actual f a) (with_actuals f rest)

  pub with_actual : (Place → Phrase) → Actual → Actual
  with_actual f (Given v g first a) = Given v g first (with f a)
  with_actual f (Alone p a) = Alone p (with f a)
  with_actual f (Subarray a subscripts) = Subarray (with f a) (with_subscripts f subscripts)

  pub with_items : (Place → Phrase) → Items → Items
  with_items f no_items = no_items
  with_items f (item_and labels a rest) = item_and labels (with f a) (with_items f rest)

  pub with_bounds : (Place → Phrase) → Bounds → Bounds
  with_bounds f no_bounds = no_bounds
  with_bounds f (bound_and a b rest) = bound_and (with f a) (with f b) (with_bounds f rest)

  -- f for the bounds, g for the bodies
  pub with_decls : (Place → Phrase) → (Place → Phrase) → Decls → Decls
  with_decls f g no_decls = no_decls
  with_decls f g (variables_and names rest) = variables_and names (with_decls f g rest)
  with_decls f g (arrays_and t names bounds rest) = arrays_and t names (with_bounds f bounds) (with_decls f g rest)
  with_decls f g (procedure_and x result formals body rest) = procedure_and x result formals (with (kept (formal_places formals) g) body) (with_decls f g rest)

-- ---- shapes

-- what is left of a phrase where only its branching is kept. Putting phrases for names leaves it as it is. What is done behind a counted step
-- is a leaf.
pub data Shape : Type 0 where
  leaf : Shape
  one : Shape → Shape
  two : Shape → Shape → Shape
  three : Shape → Shape → Shape → Shape

abbrev mutual
  pub shape : Phrase → Shape
  shape (Unary op a) = one (shape a)
  shape (Binary op a b) = two (shape a) (shape b)
  shape (Relation op a b) = two (shape a) (shape b)
  shape (IsClass a class) = one (shape a)
  shape (Element a subscripts) = one (phrases_shape subscripts)
  shape (Field class position a) = one (shape a)
  shape (Part m n a start) = two (shape a) (shape start)
  shape (Record class types values) = one (phrases_shape values)
  shape (IfThen st t c a b) = three (shape c) (shape a) (shape b)
  shape (Case st t c parts) = two (shape c) (phrases_shape parts)
  shape (Block st p decls items) = two (decls_shape decls) (items_shape items)
  shape (Call st compares p a actuals) = one (actuals_shape actuals)
  shape (Assign st t a b) = two (shape a) (shape b)
  shape (WhileDo st c b) = one (shape c)
  shape (ForStep st x a b c body) = three (shape a) (shape b) (shape c)
  shape (ForList st x values body) = one (phrases_shape values)
  shape (Assert st c) = one (shape c)
  shape (Write st first roles values) = one (phrases_shape values)
  shape (Read st next targets) = one (targets_shape targets)
  shape (ReadCard st targets) = one (targets_shape targets)
  shape (IoControl st a) = one (shape a)
  shape _ = leaf

  pub phrases_shape : Phrases → Shape
  phrases_shape no_phrases = leaf
  phrases_shape (phrase_and a rest) = two (shape a) (phrases_shape rest)

  pub targets_shape : Targets → Shape
  targets_shape no_targets = leaf
  targets_shape (target_and t a rest) = two (shape a) (targets_shape rest)

  pub subscripts_shape : Subscripts → Shape
  subscripts_shape no_subscripts = leaf
  subscripts_shape (star_and rest) = one (subscripts_shape rest)
  subscripts_shape (subscript_and a rest) = two (shape a) (subscripts_shape rest)

  pub actuals_shape : Actuals → Shape
  actuals_shape no_actuals = leaf
  actuals_shape (actual_and a rest) = two (actual_shape a) (actuals_shape rest)

  pub actual_shape : Actual → Shape
  actual_shape (Given v g first a) = one (shape a)
  actual_shape (Alone p a) = leaf
  actual_shape (Subarray a subscripts) = one (subscripts_shape subscripts)

  pub items_shape : Items → Shape
  items_shape no_items = leaf
  items_shape (item_and labels a rest) = two (shape a) (items_shape rest)

  pub bounds_shape : Bounds → Shape
  bounds_shape no_bounds = leaf
  bounds_shape (bound_and a b rest) = three (shape a) (shape b) (bounds_shape rest)

  pub decls_shape : Decls → Shape
  decls_shape no_decls = leaf
  decls_shape (variables_and names rest) = one (decls_shape rest)
  decls_shape (arrays_and t names bounds rest) = two (bounds_shape bounds) (decls_shape rest)
  decls_shape (procedure_and x result formals body rest) = one (decls_shape rest)
