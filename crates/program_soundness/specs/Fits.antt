-- When a phrase that is executed fits what it is wanted for, where its names have these meanings.
use Rattle.std.specs.Prelude.{◌≡◌, ℕ, ◌+◌, ◌≤◌, ⊤, List, [], ◌∷◌, map, length, slice_get, Option, Some, None, Bool, true, false, ◌&&◌, nat_eq, ◌<◌}
use Rattle.value_ops.specs.declared.places.Place.{Place}
use Rattle.algolw_typing.specs.Types.{ValueType, Gives, Statement, Simple, Reference}
use Rattle.algolw_typing.specs.Verdicts.{Good}
use Rattle.algolw_typing.specs.Meanings as typing
use Rattle.algolw_typing.specs.Meanings.{FormalType, Part}
use Rattle.algolw_typing.specs.Actuals.{actuals_fit, procedure_name, wants_procedure}
use Rattle.program_meaning.specs.Phrases.{Phrase, Empty, Constant, Named, Variable, Array, Label, Procedure, Copied, Unary, Binary, Relation, IsClass, Element, Field, Part as PartOf, Record, RecordAlone, IfThen, Case, Block, Call, Assign, WhileDo, ForStep, ForList, Goto, Assert, Write, Read, ReadCard, IoControl, Phrases, no_phrases, phrase_and, Targets, no_targets, target_and, Subscripts, no_subscripts, star_and, subscript_and, Actuals, no_actuals, actual_and, Actual, Given, Alone, Subarray, Items, no_items, item_and, Bounds, no_bounds, bound_and, Decls, no_decls, variables_and, arrays_and, procedure_and, Role, placed, sets}
use Rattle.program_meaning.specs.Copying.{free_of, actual_count, is_good}
use Rattle.program_soundness.specs.Kinds.{Kind, an_integer, a_truth, a_string, a_reference, kind_of, Want, a_statement, a_value, a_place, result_want, given_want, IsVariable, IsProper, IsProperResult, IsProperGiven, AreProper, operand_of, answer_of, IsUsed, left_of, right_of, IsCompared, IsConstant, Meaning, a_variable, a_control, an_array, a_label, a_procedure, a_procedure_formal, Context, meaning_in, Table, at_control, with_formals, with_block}

-- the phrase is a name with this meaning
abbrev pub Names : Context → Phrase → Meaning → Type 0
Names c a m = (x : Place) × (a ≡ Named x) × (meaning_in c x ≡ Some m)

-- a name as a phrase
abbrev pub IsNamed : Option Meaning → Want → Type 0
IsNamed (Some (a_variable k)) want = IsVariable k want
IsNamed (Some a_control) want = want ≡ a_value an_integer
IsNamed m want = ⊥

abbrev pub phrase_count : Phrases → ℕ
phrase_count no_phrases = 0
phrase_count (phrase_and a rest) = 1 + phrase_count rest

abbrev pub subscript_count : Subscripts → ℕ
subscript_count no_subscripts = 0
subscript_count (star_and rest) = 1 + subscript_count rest
subscript_count (subscript_and a rest) = 1 + subscript_count rest

-- the field of a class at a position
abbrev pub field_kind : Option (List Kind) → ℕ → Option Kind
field_kind None n = None
field_kind (Some kinds) n = slice_get kinds n

abbrev pub IsRead : ValueType → Type 0
IsRead (Reference set) = ⊥
IsRead t = IsProper t

-- ---- actuals, as they are read before the program runs

abbrev pub name_part : FormalType → Option Meaning → Part
name_part f (Some (an_array t n)) = typing.as_array t n
name_part f (Some (a_procedure result formals)) = procedure_name (wants_procedure f) result formals
name_part f (Some (a_procedure_formal result)) = procedure_name (wants_procedure f) result []
name_part f m = typing.typeless

abbrev pub subarray_part : Option Meaning → ℕ → Part
subarray_part (Some (an_array t n)) free = typing.as_array t free
subarray_part m free = typing.typeless

-- what a name alone means
abbrev pub named_meaning : Context → Phrase → Option Meaning
named_meaning c (Named x) = meaning_in c x
named_meaning c a = None

abbrev pub actual_part : Context → FormalType → Actual → Part
actual_part c f (Given v g first a) = typing.a_phrase v g
actual_part c f (Alone p a) = name_part f (named_meaning c a)
actual_part c f (Subarray a subscripts) = subarray_part (named_meaning c a) (free_of subscripts)

abbrev pub actual_parts : Context → List FormalType → Actuals → List Part
actual_parts c (f ∷ fs) (actual_and a rest) = actual_part c f a ∷ actual_parts c fs rest
actual_parts c fs given = []

-- as many actuals as formals, each of which is as table A says
abbrev pub they_fit : Context → Place → List FormalType → Actuals → Bool
they_fit c w formals given = nat_eq (length formals) (actual_count given) && is_good (actuals_fit w formals (actual_parts c formals given) (Good Statement))

-- what may be passed by its name alone
abbrev pub IsPassed : Meaning → Type 0
IsPassed (an_array t n) = ⊤
IsPassed (a_procedure result formals) = ⊤
IsPassed (a_procedure_formal result) = ⊤
IsPassed m = ⊥

-- ---- phrases

abbrev pub IsNoPlace : Want → Type 0
IsNoPlace (a_place k) = ⊥
IsNoPlace want = ⊤

-- what IF and CASE give is made into their type; where they have none, it stays as it is: they are statements, or the IF that AND or OR is
abbrev pub IsResult : Option ValueType → Want → Type 0
IsResult None want = IsNoPlace want
IsResult (Some t) want = want ≡ a_value (kind_of t)

-- what is called where the actuals are compared as the program runs
abbrev pub IsCalled : Meaning → Option ValueType → Type 0
IsCalled (a_procedure r formals) result = r ≡ result
IsCalled (a_procedure_formal r) result = r ≡ result
IsCalled m result = ⊥

-- a procedure's actuals are compared now, those of a procedure formal as the program runs
abbrev pub CallFits : Bool → Context → Place → Phrase → Option ValueType → Actuals → Type 0
CallFits false c p a result given = (formals : List FormalType) × Names c a (a_procedure result formals) × (they_fit c p formals given ≡ true)
CallFits true c p a result given = (m : Meaning) × Names c a m × IsCalled m result

-- an assignment is a statement; one that is the right side of another has a value
abbrev pub IsAssigned : Option Place → Kind → Want → Type 0
IsAssigned st k a_statement = ⊤
IsAssigned None k (a_value j) = j ≡ k
IsAssigned (Some st) k (a_value j) = ⊥
IsAssigned st k (a_place j) = ⊥

-- what is a variable is a place too
abbrev pub IfVariable : Bool → Gives → (Kind → Type 0) → Type 0
IfVariable true (Simple t) P = P (kind_of t)
IfVariable true Statement P = ⊤
IfVariable false g P = ⊤

module _ (table : Table) where
  abbrev mutual
    pub Fits : Context → Phrase → Want → Type 0
    Fits c Empty want = want ≡ a_statement
    Fits c (Constant v) want = (k : Kind) × (want ≡ a_value k) × IsConstant k v
    Fits c (Named x) want = IsNamed (meaning_in c x) want
    -- the two standard variables; what is put for another name by copying stands in no program
    Fits c (Variable k) want = (k < 2) × IsVariable an_integer want
    Fits c (Array k given) want = ⊥
    Fits c (Label l) want = ⊥
    Fits c (Procedure k) want = ⊥
    Fits c (Copied mark a) want = ⊥
    Fits c (Unary op a) want = (want ≡ a_value (answer_of op)) × Fits c a (a_value (operand_of op))
    Fits c (Binary op a b) want = (want ≡ a_value (left_of op)) × IsUsed op × Fits c a (a_value (left_of op)) × Fits c b (a_value (right_of op))
    Fits c (Relation op a b) want = (k : Kind) × (want ≡ a_value a_truth) × IsCompared op k × Fits c a (a_value k) × Fits c b (a_value k)
    Fits c (IsClass a class) want = (want ≡ a_value a_truth) × Fits c a (a_value a_reference)
    Fits c (Element a subscripts) want = (t : ValueType) × Names c a (an_array t (phrase_count subscripts)) × IsVariable (kind_of t) want × AllFit c subscripts (a_value an_integer)
    Fits c (Field class position a) want = (k : Kind) × (field_kind (table.fields class) position ≡ Some k) × IsVariable k want × Fits c a (a_value a_reference)
    Fits c (PartOf m n a start) want = IsVariable a_string want × (1 ≤ m) × (1 ≤ n) × Fits c a want × Fits c start (a_value an_integer)
    Fits c (Record class types values) want = (want ≡ a_value a_reference) × (table.fields class.place ≡ Some (map kind_of types)) × FieldsFit c types values
    Fits c (RecordAlone class n) want = (kinds : List Kind) × (want ≡ a_value a_reference) × (table.fields class.place ≡ Some kinds) × (length kinds ≡ n)
    Fits c (IfThen st t a b otherwise) want = IsResult t want × IsProperResult t × Fits c a (a_value a_truth) × Fits c b want × Fits c otherwise want
    Fits c (Case st t a parts) want = IsResult t want × IsProperResult t × Fits c a (a_value an_integer) × AllFit c parts want
    Fits c (Block st p decls items) want = IsNoPlace want × DeclsFit c (with_block table decls items c) decls × ItemsFit (with_block table decls items c) items want
    Fits c (Call st compares p a given) want = (result : Option ValueType) × (want ≡ result_want result) × CallFits compares c p a result given × ActualsFit c given
    Fits c (Assign st t a b) want = IsAssigned st (kind_of t) want × IsProper t × Fits c a (a_place (kind_of t)) × Fits c b (a_value (kind_of t))
    Fits c (WhileDo st a body) want = (want ≡ a_statement) × Fits c a (a_value a_truth) × Fits c body a_statement
    Fits c (ForStep st x from step to body) want = (want ≡ a_statement) × Fits c from (a_value an_integer) × Fits c step (a_value an_integer) × Fits c to (a_value an_integer) × Fits (at_control x.place c) body a_statement
    Fits c (ForList st x values body) want = (want ≡ a_statement) × AllFit c values (a_value an_integer) × Fits (at_control x.place c) body a_statement
    Fits c (Goto st a) want = (want ≡ a_statement) × Names c a a_label
    Fits c (Assert st a) want = (want ≡ a_statement) × Fits c a (a_value a_truth)
    Fits c (Write st first roles values) want = (want ≡ a_statement) × ValuesFit c roles values
    Fits c (Read st next targets) want = (want ≡ a_statement) × TargetsFit c targets
    Fits c (ReadCard st targets) want = (want ≡ a_statement) × CardsFit c targets
    Fits c (IoControl st a) want = (want ≡ a_statement) × Fits c a (a_value an_integer)

    -- each of them
    pub AllFit : Context → Phrases → Want → Type 0
    AllFit c no_phrases want = ⊤
    AllFit c (phrase_and a rest) want = Fits c a want × AllFit c rest want

    -- values of any kind, and integers to which widths are set
    pub ValuesFit : Context → List Role → Phrases → Type 0
    ValuesFit c roles no_phrases = ⊤
    ValuesFit c [] (phrase_and a rest) = ⊥
    ValuesFit c (placed ∷ roles) (phrase_and a rest) = (k : Kind) × Fits c a (a_value k) × ValuesFit c roles rest
    ValuesFit c (sets n ∷ roles) (phrase_and a rest) = Fits c a (a_value an_integer) × ValuesFit c roles rest

    -- the values of a record's fields
    pub FieldsFit : Context → List ValueType → Phrases → Type 0
    FieldsFit c [] no_phrases = ⊤
    FieldsFit c [] (phrase_and a rest) = ⊥
    FieldsFit c (t ∷ ts) no_phrases = ⊥
    FieldsFit c (t ∷ ts) (phrase_and a rest) = IsProper t × Fits c a (a_value (kind_of t)) × FieldsFit c ts rest

    pub TargetsFit : Context → Targets → Type 0
    TargetsFit c no_targets = ⊤
    TargetsFit c (target_and t a rest) = IsRead t × Fits c a (a_place (kind_of t)) × TargetsFit c rest

    -- a card is a string
    pub CardsFit : Context → Targets → Type 0
    CardsFit c no_targets = ⊤
    CardsFit c (target_and t a rest) = (kind_of t ≡ a_string) × IsProper t × Fits c a (a_place (kind_of t)) × CardsFit c rest

    pub SubscriptsFit : Context → Subscripts → Type 0
    SubscriptsFit c no_subscripts = ⊤
    SubscriptsFit c (star_and rest) = SubscriptsFit c rest
    SubscriptsFit c (subscript_and a rest) = Fits c a (a_value an_integer) × SubscriptsFit c rest

    pub ItemsFit : Context → Items → Want → Type 0
    ItemsFit c no_items want = want ≡ a_statement
    ItemsFit c (item_and labels a no_items) want = Fits c a want
    ItemsFit c (item_and labels a (item_and more b rest)) want = Fits c a a_statement × ItemsFit c (item_and more b rest) want

    pub BoundsFit : Context → Bounds → Type 0
    BoundsFit c no_bounds = ⊤
    BoundsFit c (bound_and a b rest) = Fits c a (a_value an_integer) × Fits c b (a_value an_integer) × BoundsFit c rest

    -- bounds stand outside the block, bodies inside
    pub DeclsFit : Context → Context → Decls → Type 0
    DeclsFit around c no_decls = ⊤
    DeclsFit around c (variables_and names rest) = DeclsFit around c rest
    DeclsFit around c (arrays_and t names bounds rest) = BoundsFit around bounds × DeclsFit around c rest
    DeclsFit around c (procedure_and x result formals body rest) = (IsProperResult result × AreProper formals × Fits (with_formals formals c) body (result_want result)) × DeclsFit around c rest

    pub ActualsFit : Context → Actuals → Type 0
    ActualsFit c no_actuals = ⊤
    ActualsFit c (actual_and a rest) = ActualFits c a × ActualsFit c rest

    -- an actual by itself
    pub ActualFits : Context → Actual → Type 0
    ActualFits c (Given v g first a) = Fits c a (given_want g) × IsProperGiven g × IfVariable v g (λ k. Fits c a (a_place k))
    ActualFits c (Alone p a) = (m : Meaning) × Names c a m × IsPassed m
    ActualFits c (Subarray a subscripts) = (t : ValueType) × Names c a (an_array t (subscript_count subscripts)) × SubscriptsFit c subscripts
