-- Phrases in which each string is a text and each name is a word.
use Rattle.std.specs.Prelude.{⊤, All}
use Rattle.printed_lines.specs.Texts.{IsWord, ValueHolds}
use Rattle.program_meaning.specs.Phrases.{Phrase, Empty, Constant, Named, Variable, Array, Label, Procedure, Copied, Unary, Binary, Relation, IsClass, Element, Field, Part, Record, RecordAlone, IfThen, Case, Block, Call, Assign, WhileDo, ForStep, ForList, Goto, Assert, Write, Read, ReadCard, IoControl, Phrases, no_phrases, phrase_and, Targets, no_targets, target_and, Subscripts, no_subscripts, star_and, subscript_and, Actuals, no_actuals, actual_and, Actual, Given, Alone, Subarray, Items, no_items, item_and, Bounds, no_bounds, bound_and, Decls, no_decls, variables_and, arrays_and, procedure_and, Name, Formal}

abbrev pub NameHolds : Name → Type 0
NameHolds x = IsWord x.text

abbrev pub FormalHolds : Formal → Type 0
FormalHolds f = IsWord f.name.text

abbrev mutual
  pub PhraseHolds : Phrase → Type 0
  PhraseHolds Empty = ⊤
  PhraseHolds (Constant v) = ValueHolds v
  PhraseHolds (Named x) = ⊤
  PhraseHolds (Variable k) = ⊤
  PhraseHolds (Array k given) = ⊤
  PhraseHolds (Label l) = ⊤
  PhraseHolds (Procedure k) = ⊤
  PhraseHolds (Copied mark a) = PhraseHolds a
  PhraseHolds (Unary op a) = PhraseHolds a
  PhraseHolds (Binary op a b) = PhraseHolds a × PhraseHolds b
  PhraseHolds (Relation op a b) = PhraseHolds a × PhraseHolds b
  PhraseHolds (IsClass a class) = PhraseHolds a
  PhraseHolds (Element a subscripts) = PhraseHolds a × PhrasesHold subscripts
  PhraseHolds (Field class position a) = PhraseHolds a
  PhraseHolds (Part m n a start) = PhraseHolds a × PhraseHolds start
  PhraseHolds (Record class types values) = NameHolds class × PhrasesHold values
  PhraseHolds (RecordAlone class n) = NameHolds class
  PhraseHolds (IfThen st t c a b) = PhraseHolds c × PhraseHolds a × PhraseHolds b
  PhraseHolds (Case st t c parts) = PhraseHolds c × PhrasesHold parts
  PhraseHolds (Block st p decls items) = DeclsHold decls × ItemsHold items
  PhraseHolds (Call st compares p a actuals) = PhraseHolds a × ActualsHold actuals
  PhraseHolds (Assign st t a b) = PhraseHolds a × PhraseHolds b
  PhraseHolds (WhileDo st c body) = PhraseHolds c × PhraseHolds body
  PhraseHolds (ForStep st x a b c body) = NameHolds x × PhraseHolds a × PhraseHolds b × PhraseHolds c × PhraseHolds body
  PhraseHolds (ForList st x values body) = NameHolds x × PhrasesHold values × PhraseHolds body
  PhraseHolds (Goto st a) = PhraseHolds a
  PhraseHolds (Assert st c) = PhraseHolds c
  PhraseHolds (Write st first roles values) = PhrasesHold values
  PhraseHolds (Read st next targets) = TargetsHold targets
  PhraseHolds (ReadCard st targets) = TargetsHold targets
  PhraseHolds (IoControl st a) = PhraseHolds a

  pub PhrasesHold : Phrases → Type 0
  PhrasesHold no_phrases = ⊤
  PhrasesHold (phrase_and a rest) = PhraseHolds a × PhrasesHold rest

  pub TargetsHold : Targets → Type 0
  TargetsHold no_targets = ⊤
  TargetsHold (target_and t a rest) = PhraseHolds a × TargetsHold rest

  pub SubscriptsHold : Subscripts → Type 0
  SubscriptsHold no_subscripts = ⊤
  SubscriptsHold (star_and rest) = SubscriptsHold rest
  SubscriptsHold (subscript_and a rest) = PhraseHolds a × SubscriptsHold rest

  pub ActualsHold : Actuals → Type 0
  ActualsHold no_actuals = ⊤
  ActualsHold (actual_and a rest) = ActualHolds a × ActualsHold rest

  pub ActualHolds : Actual → Type 0
  ActualHolds (Given v g first a) = PhraseHolds a
  ActualHolds (Alone p a) = PhraseHolds a
  ActualHolds (Subarray a subscripts) = PhraseHolds a × SubscriptsHold subscripts

  pub ItemsHold : Items → Type 0
  ItemsHold no_items = ⊤
  ItemsHold (item_and labels a rest) = PhraseHolds a × ItemsHold rest

  pub BoundsHold : Bounds → Type 0
  BoundsHold no_bounds = ⊤
  BoundsHold (bound_and a b rest) = PhraseHolds a × PhraseHolds b × BoundsHold rest

  pub DeclsHold : Decls → Type 0
  DeclsHold no_decls = ⊤
  DeclsHold (variables_and names rest) = All NameHolds names × DeclsHold rest
  DeclsHold (arrays_and t names bounds rest) = All NameHolds names × BoundsHold bounds × DeclsHold rest
  DeclsHold (procedure_and x result formals body rest) = NameHolds x × All FormalHolds formals × PhraseHolds body × DeclsHold rest
