-- What coding asks of a phrase: a call in line has an actual for each formal, no typed one stands for an array, a RESULT one gives a value, and
-- bounds have no name of their own block.
use Rattle.std.specs.Prelude.{◌≡◌, ⊤, List, [], ◌∷◌, ◌++◌, true, false}
use Rattle.value_ops.specs.declared.places.Place.{Place}
use Rattle.algolw_typing.specs.Types.{Gives, Statement, has}
use Rattle.algolw_typing.specs.Meanings.{FormalType, by_result, for_array}
use Rattle.program_meaning.specs.Phrases.{Phrase, Named, Unary, Binary, Relation, IsClass, Element, Field, Part, Record, IfThen, Case, Block, Call, Assign, WhileDo, ForStep, ForList, Assert, Write, Read, ReadCard, IoControl, Phrases, no_phrases, phrase_and, Targets, no_targets, target_and, Subscripts, no_subscripts, star_and, subscript_and, Actuals, no_actuals, actual_and, Actual, Given, Alone, Subarray, Items, no_items, item_and, Bounds, no_bounds, bound_and, Decls, no_decls, variables_and, arrays_and, procedure_and, Formal, decl_places, label_places, with}
use Rattle.phrase_code.specs.Sizes.{Known, CallKind, in_line, through, stuck_call, call_kind, head_kind, block_known, formals_known, control_known}

-- ---- names

-- the phrase has none of these names free: nothing changes where another phrase is put for them
abbrev pub Avoids : List Place → Phrase → Type 0
Avoids places a = (b : Phrase) → with (λ x. elim (has places x) [ true ↦ b | false ↦ Named x ]) a ≡ a

abbrev pub BoundsAvoid : List Place → Bounds → Type 0
BoundsAvoid places no_bounds = ⊤
BoundsAvoid places (bound_and a b rest) = Avoids places a × Avoids places b × BoundsAvoid places rest

abbrev pub DeclsAvoid : List Place → Decls → Type 0
DeclsAvoid places no_decls = ⊤
DeclsAvoid places (variables_and names rest) = DeclsAvoid places rest
DeclsAvoid places (arrays_and t names bounds rest) = BoundsAvoid places bounds × DeclsAvoid places rest
DeclsAvoid places (procedure_and x result formals body rest) = DeclsAvoid places rest

-- ---- calls

-- it stands for no array, and only what gives a value is assigned back to
abbrev pub IsGiven : FormalType → Gives → Type 0
IsGiven (for_array t n) g = ⊥
IsGiven (by_result t) Statement = ⊥
IsGiven f g = ⊤

abbrev pub IsPassed : Actual → FormalType → Type 0
IsPassed (Given v g first a) f = IsGiven f g
IsPassed a f = ⊤

abbrev pub ArePassed : Actuals → List Formal → Type 0
ArePassed no_actuals [] = ⊤
ArePassed (actual_and a rest) (f ∷ formals) = IsPassed a f.is × ArePassed rest formals
ArePassed given formals = ⊥

abbrev pub CallSuits : CallKind → Actuals → Type 0
CallSuits (in_line formals) given = ArePassed given formals
CallSuits through given = ⊤
CallSuits stuck_call given = ⊥

-- ---- phrases

abbrev mutual
  pub Suits : List Known → Phrase → Type 0
  Suits known (Unary op a) = Suits known a
  Suits known (Binary op a b) = Suits known a × Suits known b
  Suits known (Relation op a b) = Suits known a × Suits known b
  Suits known (IsClass a class) = Suits known a
  Suits known (Element a given) = AllSuit known given
  Suits known (Field class position a) = Suits known a
  Suits known (Part m n a start) = Suits known a × Suits known start
  Suits known (Record class types values) = AllSuit known values
  Suits known (IfThen st t c a b) = Suits known c × Suits known a × Suits known b
  Suits known (Case st t c parts) = Suits known c × AllSuit known parts
  Suits known (Block st p decls items) = DeclsAvoid (decl_places decls ++ label_places items) decls × DeclsSuit known (block_known decls items known) decls × ItemsSuit (block_known decls items known) items
  Suits known (Call st compares p a given) = CallSuits (call_kind compares (head_kind known a)) given × ActualsSuit known given
  Suits known (Assign st t a b) = Suits known a × Suits known b
  Suits known (WhileDo st c body) = Suits known c × Suits known body
  Suits known (ForStep st x a b c body) = Suits known a × Suits known b × Suits known c × Suits (control_known x known) body
  Suits known (ForList st x values body) = AllSuit known values × Suits (control_known x known) body
  Suits known (Assert st c) = Suits known c
  Suits known (Write st first roles values) = AllSuit known values
  Suits known (Read st next targets) = TargetsSuit known targets
  Suits known (ReadCard st targets) = TargetsSuit known targets
  Suits known (IoControl st a) = Suits known a
  Suits known a = ⊤

  pub AllSuit : List Known → Phrases → Type 0
  AllSuit known no_phrases = ⊤
  AllSuit known (phrase_and a rest) = Suits known a × AllSuit known rest

  pub TargetsSuit : List Known → Targets → Type 0
  TargetsSuit known no_targets = ⊤
  TargetsSuit known (target_and t a rest) = Suits known a × TargetsSuit known rest

  pub SubscriptsSuit : List Known → Subscripts → Type 0
  SubscriptsSuit known no_subscripts = ⊤
  SubscriptsSuit known (star_and rest) = SubscriptsSuit known rest
  SubscriptsSuit known (subscript_and a rest) = Suits known a × SubscriptsSuit known rest

  pub ActualsSuit : List Known → Actuals → Type 0
  ActualsSuit known no_actuals = ⊤
  ActualsSuit known (actual_and a rest) = ActualSuits known a × ActualsSuit known rest

  pub ActualSuits : List Known → Actual → Type 0
  ActualSuits known (Given v g first a) = Suits known a
  ActualSuits known (Alone p a) = ⊤
  ActualSuits known (Subarray a given) = SubscriptsSuit known given

  pub ItemsSuit : List Known → Items → Type 0
  ItemsSuit known no_items = ⊤
  ItemsSuit known (item_and labels a rest) = Suits known a × ItemsSuit known rest

  pub BoundsSuit : List Known → Bounds → Type 0
  BoundsSuit known no_bounds = ⊤
  BoundsSuit known (bound_and a b rest) = Suits known a × Suits known b × BoundsSuit known rest

  -- bounds stand outside the block, bodies inside
  pub DeclsSuit : (outside inside : List Known) → Decls → Type 0
  DeclsSuit outside inside no_decls = ⊤
  DeclsSuit outside inside (variables_and names rest) = DeclsSuit outside inside rest
  DeclsSuit outside inside (arrays_and t names bounds rest) = BoundsSuit outside bounds × DeclsSuit outside inside rest
  DeclsSuit outside inside (procedure_and x result formals body rest) = Suits (formals_known formals inside) body × DeclsSuit outside inside rest
