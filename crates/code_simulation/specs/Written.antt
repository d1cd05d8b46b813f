-- Phrases that a program is written with: none that only copying makes. The standard variables have no names to copy for.
use Rattle.std.specs.Prelude.{◌<◌}
use Rattle.program_meaning.specs.Phrases.{Phrase, Empty, Constant, Named, Variable, Array, Label, Procedure, Copied, Unary, Binary, Relation, IsClass, Element, Field, Part, Record, RecordAlone, IfThen, Case, Block, Call, Assign, WhileDo, ForStep, ForList, Goto, Assert, Write, Read, ReadCard, IoControl, Phrases, no_phrases, phrase_and, Targets, no_targets, target_and, Subscripts, no_subscripts, star_and, subscript_and, Actuals, no_actuals, actual_and, Actual, Given, Alone, Subarray, Items, no_items, item_and, Bounds, no_bounds, bound_and, Decls, no_decls, variables_and, arrays_and, procedure_and}

-- a name
abbrev pub IsName : Phrase → Type 0
IsName (Named x) = Unit {0}
IsName a = ⊥

abbrev mutual
  pub IsWritten : Phrase → Type 0
  IsWritten Empty = Unit {0}
  IsWritten (Constant v) = Unit {0}
  IsWritten (Named x) = Unit {0}
  IsWritten (Variable k) = k < 2
  IsWritten (Array k given) = ⊥
  IsWritten (Label l) = ⊥
  IsWritten (Procedure k) = ⊥
  IsWritten (Copied m a) = ⊥
  IsWritten (Unary op a) = IsWritten a
  IsWritten (Binary op a b) = IsWritten a × IsWritten b
  IsWritten (Relation op a b) = IsWritten a × IsWritten b
  IsWritten (IsClass a class) = IsWritten a
  IsWritten (Element a given) = IsName a × EachWritten given
  IsWritten (Field class position a) = IsWritten a
  IsWritten (Part m n a start) = IsWritten a × IsWritten start
  IsWritten (Record class types values) = EachWritten values
  IsWritten (RecordAlone class n) = Unit {0}
  IsWritten (IfThen st t a b c) = IsWritten a × IsWritten b × IsWritten c
  IsWritten (Case st t a parts) = IsWritten a × EachWritten parts
  IsWritten (Block st p decls items) = DeclsWritten decls × ItemsWritten items
  IsWritten (Call st compares p a given) = IsName a × ActualsWritten given
  IsWritten (Assign st t a b) = IsWritten a × IsWritten b
  IsWritten (WhileDo st a b) = IsWritten a × IsWritten b
  IsWritten (ForStep st x a b c body) = IsWritten a × IsWritten b × IsWritten c × IsWritten body
  IsWritten (ForList st x values body) = EachWritten values × IsWritten body
  IsWritten (Goto st a) = IsName a
  IsWritten (Assert st a) = IsWritten a
  IsWritten (Write st first roles values) = EachWritten values
  IsWritten (Read st next targets) = TargetsWritten targets
  IsWritten (ReadCard st targets) = TargetsWritten targets
  IsWritten (IoControl st a) = IsWritten a

  pub EachWritten : Phrases → Type 0
  EachWritten no_phrases = Unit {0}
  EachWritten (phrase_and a rest) = IsWritten a × EachWritten rest

  pub TargetsWritten : Targets → Type 0
  TargetsWritten no_targets = Unit {0}
  TargetsWritten (target_and t a rest) = IsWritten a × TargetsWritten rest

  pub SubscriptsWritten : Subscripts → Type 0
  SubscriptsWritten no_subscripts = Unit {0}
  SubscriptsWritten (star_and rest) = SubscriptsWritten rest
  SubscriptsWritten (subscript_and a rest) = IsWritten a × SubscriptsWritten rest

  pub ActualsWritten : Actuals → Type 0
  ActualsWritten no_actuals = Unit {0}
  ActualsWritten (actual_and a rest) = ActualWritten a × ActualsWritten rest

  pub ActualWritten : Actual → Type 0
  ActualWritten (Given v g first a) = IsWritten a
  ActualWritten (Alone p a) = IsName a
  ActualWritten (Subarray a given) = IsName a × SubscriptsWritten given

  pub ItemsWritten : Items → Type 0
  ItemsWritten no_items = Unit {0}
  ItemsWritten (item_and labels a rest) = IsWritten a × ItemsWritten rest

  pub BoundsWritten : Bounds → Type 0
  BoundsWritten no_bounds = Unit {0}
  BoundsWritten (bound_and a b rest) = IsWritten a × IsWritten b × BoundsWritten rest

  pub DeclsWritten : Decls → Type 0
  DeclsWritten no_decls = Unit {0}
  DeclsWritten (variables_and names rest) = DeclsWritten rest
  DeclsWritten (arrays_and t names pairs rest) = BoundsWritten pairs × DeclsWritten rest
  DeclsWritten (procedure_and x result formals body rest) = IsWritten body × DeclsWritten rest
