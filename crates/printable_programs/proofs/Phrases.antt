-- The phrase of a typed tree holds texts, where the tree and its names do.
use Rattle.std.proofs.Common.{ℕ, ℤ, pos, List, [], ◌∷◌, All, Bool, true, false, Option, Some, None}
use Rattle.std.proofs.lemmas.List.Elements.{All-nil, All-cons}
use Rattle.value_ops.specs.declared.places.Place.{Place}
use Rattle.value_ops.specs.declared.values.Value.TheVariants as value
use Rattle.algolw_tree.specs.declared.phrases.Op.{Op}
use Rattle.algolw_tree.specs.declared.phrases.Op.TheVariants as op
use Rattle.algolw_tree.specs.declared.standard.Standard.TheVariants as standard
use Rattle.algolw_typing.specs.Types.{ValueType, Gives}
use Rattle.algolw_typing.specs.Meanings.{FormalType}
use Rattle.algolw_typing.specs.Typed as typed
use Rattle.algolw_typing.specs.Programs.{TypedProgram}
use Rattle.program_meaning.specs.Phrases as phrase
use Rattle.program_meaning.specs.Phrases.{Phrase, Named, Constant, Element, Field, Part, Call, Unary, no_actuals, Name, Role, placed, sets, Decls}
use Rattle.program_meaning.specs.Translating.{Declared, a_variable, a_control, an_array, a_procedure, a_procedure_formal, a_class, a_field, a_standard_name, unknown, Context, name_at, names_at, declared_at, with_known, decls_known, formals_known, each_formal, formals_of, type_of_formal, role_of, value_part, linked, negated, signed, first_of, length_of, length_given, written, statement_at, is_logical_given, phrase_of, kind_of, perhaps_of, phrases_of, chain_of, named_of, parts_of, given_of, written_of, targets_of, subscripts_of, actuals_of, actual_of, items_of, bounds_of, decls_of, decl_of, program_phrase}
use Rattle.printed_lines.specs.Phrases as texts
use Rattle.printed_lines.specs.Phrases.{PhraseHolds, PhrasesHold, TargetsHold, SubscriptsHold, ActualsHold, ActualHolds, ItemsHold, BoundsHold, DeclsHold}
use Rattle.printable_programs.proofs.Trees.{Each, NodeHolds, NodeKind, NodePerhaps, NodesHold, NodeLinks, NodeLists, NodeActuals, NodeItems, NodeBounds, NodeDecls, NodeDecl}
use Rattle.printable_programs.proofs.Naming.{InfoHolds, text_at_holds}

-- how names are written
abbrev Holds : Context → Type 0
Holds c = Each InfoHolds c.names

names_hold : (c : Context) (xs : List typed.Placed) → Holds c → All texts.NameHolds (names_at c xs)
names_hold c [] h = All-nil texts.NameHolds
names_hold c (x ∷ xs) h = All-cons texts.NameHolds (name_at c x.0) (names_at c xs) (text_at_holds c.names x.0 h) (names_hold c xs h)

each_holds : (c : Context) (t : FormalType) (xs : List typed.Placed) (fs : List phrase.Formal) → Holds c → All texts.FormalHolds fs → All texts.FormalHolds (each_formal c t xs fs)
each_holds c t [] fs h k = k
each_holds c t (x ∷ xs) fs h k = All-cons texts.FormalHolds (record { name = name_at c x.0; is = t }) (each_formal c t xs fs) (text_at_holds c.names x.0 h) (each_holds c t xs fs h k)

formals_hold : (c : Context) (fs : List typed.Formal) → Holds c → All texts.FormalHolds (formals_of c fs)
formals_hold c [] h = All-nil texts.FormalHolds
formals_hold c (f ∷ fs) h = each_holds c (type_of_formal f) f.names (formals_of c fs) h (formals_hold c fs h)

-- ---- operators

linked_holds : (b : Bool) (o : Op) (x y : Phrase) → PhraseHolds x → PhraseHolds y → PhraseHolds (linked b o x y)
linked_holds true op.And x y h k = (h, k, tt)
linked_holds true op.Or x y h k = (h, tt, k)
linked_holds b o x y h k = (h, k)

negated_holds : (b : Bool) (a : Phrase) → PhraseHolds a → PhraseHolds (negated b a)
negated_holds true a h = h
negated_holds false a h = h

signed_holds : (b : Bool) (a : Phrase) → PhraseHolds a → PhraseHolds (signed b a)
signed_holds true a h = h
signed_holds false a h = h

first_holds : (ps : phrase.Phrases) → PhrasesHold ps → PhraseHolds (first_of ps)
first_holds phrase.no_phrases h = tt
first_holds (phrase.phrase_and a rest) h = h.0

part_holds : (r : Role) (a : Phrase) → PhraseHolds a → PhraseHolds (value_part r a)
part_holds (sets width) (phrase.Assign st t a b) h = h.1
part_holds r a h = h

mutual
  pub phrase_holds : (c : Context) (n : typed.Node) → Holds c → NodeHolds n → PhraseHolds (phrase_of c n)
  phrase_holds c (typed.At p first g st k) h t = kind_holds c p first g st k h t

  kind_holds : (c : Context) (p first : Place) (g : Option Gives) (st : Option Place) (k : typed.Kind) → Holds c → NodeKind k → PhraseHolds (kind_of c p first g st k)
  kind_holds c p first g st typed.Empty h t = tt
  kind_holds c p first g st typed.Null h t = tt
  kind_holds c p first g st (typed.Number n) h t = tt
  kind_holds c p first g st (typed.Truth b) h t = tt
  kind_holds c p first g st (typed.BitsLit b) h t = tt
  kind_holds c p first g st (typed.Quoted text) h t = t
  kind_holds c p first g st (typed.Goto x) h t = tt
  kind_holds c p first g st (typed.Named x lists) h t = named_holds c p first st x (declared_at c.known x) lists h t
  kind_holds c p first g st (typed.Negated a) h t = negated_holds (is_logical_given g) (phrase_of c a) (phrase_holds c a h t)
  kind_holds c p first g st (typed.Abs a) h t = phrase_holds c a h t
  kind_holds c p first g st (typed.Signed minus a) h t = signed_holds minus (phrase_of c a) (phrase_holds c a h t)
  kind_holds c p first g st (typed.Chain a links) h t = chain_holds c (is_logical_given g) (phrase_of c a) links h (phrase_holds c a h t.0) t.1
  kind_holds c p first g st (typed.Relation o a b) h t = (phrase_holds c a h t.0, phrase_holds c b h t.1)
  kind_holds c p first g st (typed.IsClass a class q) h t = phrase_holds c a h t
  kind_holds c p first g st (typed.Assign a b) h t = (phrase_holds c a h t.0, phrase_holds c b h t.1)
  kind_holds c p first g st (typed.IfThen a b otherwise) h t = (phrase_holds c a h t.0, phrase_holds c b h t.1, perhaps_holds c phrase.Empty otherwise h tt t.2)
  kind_holds c p first g st (typed.CaseValue a parts) h t = (phrase_holds c a h t.0, phrases_hold c parts h t.1)
  kind_holds c p first g st (typed.CaseDo a parts) h t = (phrase_holds c a h t.0, phrases_hold c parts h t.1)
  kind_holds c p first g st (typed.ForStep x a step b body) h t = (text_at_holds c.names x h, phrase_holds c a h t.0, perhaps_holds c (Constant (value.Integer (pos 1))) step h tt t.1, phrase_holds c b h t.2, phrase_holds (with_known c (record { place = x; is = a_control } ∷ [])) body h t.3)
  kind_holds c p first g st (typed.ForList x values body) h t = (text_at_holds c.names x h, phrases_hold c values h t.0, phrase_holds (with_known c (record { place = x; is = a_control } ∷ [])) body h t.1)
  kind_holds c p first g st (typed.WhileDo a body) h t = (phrase_holds c a h t.0, phrase_holds c body h t.1)
  kind_holds c p first g st (typed.Assert a) h t = phrase_holds c a h t
  kind_holds c p first g st (typed.Block decls items) h t = (decls_hold (with_known c (decls_known decls)) decls h t.0, items_hold (with_known c (decls_known decls)) items h t.1)

  perhaps_holds : (c : Context) (a : Phrase) (x : typed.Perhaps) → Holds c → PhraseHolds a → NodePerhaps x → PhraseHolds (perhaps_of c a x)
  perhaps_holds c a typed.Missing h k t = k
  perhaps_holds c a (typed.There b) h k t = phrase_holds c b h t

  phrases_hold : (c : Context) (xs : typed.Nodes) → Holds c → NodesHold xs → PhrasesHold (phrases_of c xs)
  phrases_hold c typed.no_nodes h t = tt
  phrases_hold c (typed.node_and a rest) h t = (phrase_holds c a h t.0, phrases_hold c rest h t.1)

  chain_holds : (c : Context) (b : Bool) (a : Phrase) (xs : typed.Links) → Holds c → PhraseHolds a → NodeLinks xs → PhraseHolds (chain_of c b a xs)
  chain_holds c b a typed.no_links h k t = k
  chain_holds c b a (typed.link_and (typed.Linked o q x) rest) h k t = chain_holds c b (linked b o a (phrase_of c x)) rest h (linked_holds b o a (phrase_of c x) k (phrase_holds c x h t.0)) t.1

  named_holds : (c : Context) (p first : Place) (st : Option Place) (x : Place) (d : Declared) (lists : typed.Lists) → Holds c → NodeLists lists → PhraseHolds (named_of c p first st x d lists)
  named_holds c p first st x (a_variable ty) (typed.list_and (typed.OfPart q start n) rest) h t = parts_hold c (written n) (Part (length_of ty) (written n) (Named x) (phrase_of c start)) rest h (tt, phrase_holds c start h t.0) t.1
  named_holds c p first st x (an_array ty) (typed.list_and (typed.OfActuals q subscripts) rest) h t = parts_hold c (length_of ty) (Element (Named x) (given_of c subscripts)) rest h (tt, given_holds c subscripts h t.0) t.1
  named_holds c p first st x (a_procedure result) (typed.list_and (typed.OfActuals q actuals) rest) h t = parts_hold c (length_given result) (Call st false p (Named x) (actuals_of c actuals)) rest h (tt, actuals_hold c actuals h t.0) t.1
  named_holds c p first st x (a_procedure result) (typed.list_and (typed.OfPart q start n) rest) h t = parts_hold c (written n) (Part (length_given result) (written n) (Call st false p (Named x) no_actuals) (phrase_of c start)) rest h ((tt, tt), phrase_holds c start h t.0) t.1
  named_holds c p first st x (a_procedure result) typed.no_lists h t = (tt, tt)
  named_holds c p first st x (a_procedure_formal result) (typed.list_and (typed.OfActuals q actuals) rest) h t = parts_hold c (length_given result) (Call st true p (Named x) (actuals_of c actuals)) rest h (tt, actuals_hold c actuals h t.0) t.1
  named_holds c p first st x (a_procedure_formal result) (typed.list_and (typed.OfPart q start n) rest) h t = parts_hold c (written n) (Part (length_given result) (written n) (Call st true p (Named x) no_actuals) (phrase_of c start)) rest h ((tt, tt), phrase_holds c start h t.0) t.1
  named_holds c p first st x (a_procedure_formal result) typed.no_lists h t = (tt, tt)
  named_holds c p first st x (a_class types) (typed.list_and (typed.OfActuals q values) rest) h t = (text_at_holds c.names x h, given_holds c values h t.0)
  named_holds c p first st x (a_class types) (typed.list_and (typed.OfPart q start n) rest) h t = text_at_holds c.names x h
  named_holds c p first st x (a_class types) typed.no_lists h t = text_at_holds c.names x h
  named_holds c p first st x (a_field class n ty) (typed.list_and (typed.OfActuals q given) rest) h t = parts_hold c (length_of ty) (Field class n (first_of (given_of c given))) rest h (first_holds (given_of c given) (given_holds c given h t.0)) t.1
  named_holds c p first st x (a_standard_name (standard.Function o)) (typed.list_and (typed.OfActuals q given) rest) h t = parts_hold c 1 (Unary o (first_of (given_of c given))) rest h (first_holds (given_of c given) (given_holds c given h t.0)) t.1
  named_holds c p first st x (a_standard_name (standard.Write on)) (typed.list_and (typed.OfActuals q values) rest) h t = written_holds c values h t.0
  named_holds c p first st x (a_standard_name (standard.Read on)) (typed.list_and (typed.OfActuals q targets) rest) h t = targets_hold c targets h t.0
  named_holds c p first st x (a_standard_name standard.ReadCard) (typed.list_and (typed.OfActuals q targets) rest) h t = targets_hold c targets h t.0
  named_holds c p first st x (a_standard_name standard.IoControl) (typed.list_and (typed.OfActuals q given) rest) h t = first_holds (given_of c given) (given_holds c given h t.0)
  named_holds c p first st x (a_standard_name standard.MaxInteger) lists h t = tt
  named_holds c p first st x (a_standard_name (standard.Variable width)) lists h t = tt
  named_holds c p first st x d lists h t = tt

  parts_hold : (c : Context) (m : ℕ) (a : Phrase) (lists : typed.Lists) → Holds c → PhraseHolds a → NodeLists lists → PhraseHolds (parts_of c m a lists)
  parts_hold c m a (typed.list_and (typed.OfPart q start n) rest) h k t = parts_hold c (written n) (Part m (written n) a (phrase_of c start)) rest h (k, phrase_holds c start h t.0) t.1
  parts_hold c m a (typed.list_and (typed.OfActuals q actuals) rest) h k t = k
  parts_hold c m a typed.no_lists h k t = k

  given_holds : (c : Context) (xs : typed.Actuals) → Holds c → NodeActuals xs → PhrasesHold (given_of c xs)
  given_holds c typed.no_actuals h t = tt
  given_holds c (typed.actual_and (typed.Star q) rest) h t = given_holds c rest h t.1
  given_holds c (typed.actual_and (typed.Given a) rest) h t = (phrase_holds c a h t.0, given_holds c rest h t.1)

  written_holds : (c : Context) (xs : typed.Actuals) → Holds c → NodeActuals xs → PhrasesHold (written_of c xs)
  written_holds c typed.no_actuals h t = tt
  written_holds c (typed.actual_and (typed.Star q) rest) h t = written_holds c rest h t.1
  written_holds c (typed.actual_and (typed.Given a) rest) h t = (part_holds (role_of c.known a) (phrase_of c a) (phrase_holds c a h t.0), written_holds c rest h t.1)

  targets_hold : (c : Context) (xs : typed.Actuals) → Holds c → NodeActuals xs → TargetsHold (targets_of c xs)
  targets_hold c typed.no_actuals h t = tt
  targets_hold c (typed.actual_and (typed.Star q) rest) h t = targets_hold c rest h t.1
  targets_hold c (typed.actual_and (typed.Given a) rest) h t = (phrase_holds c a h t.0, targets_hold c rest h t.1)

  subscripts_hold : (c : Context) (xs : typed.Actuals) → Holds c → NodeActuals xs → SubscriptsHold (subscripts_of c xs)
  subscripts_hold c typed.no_actuals h t = tt
  subscripts_hold c (typed.actual_and (typed.Star q) rest) h t = subscripts_hold c rest h t.1
  subscripts_hold c (typed.actual_and (typed.Given a) rest) h t = (phrase_holds c a h t.0, subscripts_hold c rest h t.1)

  actuals_hold : (c : Context) (xs : typed.Actuals) → Holds c → NodeActuals xs → ActualsHold (actuals_of c xs)
  actuals_hold c typed.no_actuals h t = tt
  actuals_hold c (typed.actual_and (typed.Star q) rest) h t = actuals_hold c rest h t.1
  actuals_hold c (typed.actual_and (typed.Given a) rest) h t = (actual_holds c a h t.0, actuals_hold c rest h t.1)

  actual_holds : (c : Context) (a : typed.Node) → Holds c → NodeHolds a → ActualHolds (actual_of c a)
  actual_holds c (typed.At p first (Some g) st k) h t = kind_holds c p first (Some g) st k h t
  actual_holds c (typed.At p first None st (typed.Named x (typed.list_and (typed.OfActuals q subscripts) rest))) h t = (tt, subscripts_hold c subscripts h t.0)
  actual_holds c (typed.At p first None st k) h t = tt

  items_hold : (c : Context) (xs : typed.Items) → Holds c → NodeItems xs → ItemsHold (items_of c xs)
  items_hold c typed.no_items h t = tt
  items_hold c (typed.item_and (typed.Labelled labels a) rest) h t = (phrase_holds c a h t.0, items_hold c rest h t.1)

  bounds_hold : (c : Context) (xs : typed.Bounds) → Holds c → NodeBounds xs → BoundsHold (bounds_of c xs)
  bounds_hold c typed.no_bounds h t = tt
  bounds_hold c (typed.bound_and (typed.Between q a b) rest) h t = (phrase_holds c a h t.0.0, phrase_holds c b h t.0.1, bounds_hold c rest h t.1)

  decls_hold : (c : Context) (xs : typed.Decls) → Holds c → NodeDecls xs → DeclsHold (decls_of c xs)
  decls_hold c typed.no_decls h t = tt
  decls_hold c (typed.decl_and d rest) h t = decl_holds c d (decls_of c rest) h t.0 (decls_hold c rest h t.1)

  decl_holds : (c : Context) (d : typed.Decl) (rest : Decls) → Holds c → NodeDecl d → DeclsHold rest → DeclsHold (decl_of c d rest)
  decl_holds c (typed.Simple ty xs) rest h t k = (names_hold c xs h, k)
  decl_holds c (typed.Array ty xs pairs) rest h t k = (names_hold c xs h, bounds_hold c pairs h t, k)
  decl_holds c (typed.Proc p result x formals body) rest h t k = (text_at_holds c.names x.0 h, formals_hold c formals h, phrase_holds (with_known c (formals_known formals)) body h t, k)
  decl_holds c (typed.Class x groups) rest h t k = k
