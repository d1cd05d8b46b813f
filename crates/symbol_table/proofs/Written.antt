-- A phrase is the same by all lists of names in which names are written the same.
use Rattle.std.proofs.Common.{◌≡◌, ℕ, List, [], ◌∷◌, ◌++◌, map, Option, Some, None, Bool, true, false, pos, refl, ap, ◌∙◌}
use Rattle.value_ops.specs.declared.places.Place.{Place}
use Rattle.value_ops.specs.declared.values.Value.TheVariants as value
use Rattle.algolw_tree.specs.declared.programs.NameInfo.{NameInfo}
use Rattle.algolw_tree.specs.declared.standard.Standard.TheVariants as standard
use Rattle.algolw_tree.specs.declared.standard.UnaryOp.TheVariants as unary
use Rattle.algolw_typing.specs.Meanings.{FormalType}
use Rattle.algolw_typing.specs.Typed as typed
use Rattle.algolw_typing.specs.Typed.{At}
use Rattle.algolw_typing.specs.Types.{Gives, is_place}
use Rattle.program_meaning.specs.Phrases as phrase
use Rattle.program_meaning.specs.Phrases.{Phrase, Phrases, Targets, Subscripts, Actuals, Actual, Items, Bounds, Decls, Name, Formal}
use Rattle.program_meaning.specs.Translating.{Context, Declared, a_class, a_control, a_field, a_procedure, a_procedure_formal, a_standard_name, a_variable, an_array, Known, actual_of, actuals_of, bounds_of, chain_of, decl_of, decls_known, decls_of, declared_at, each_formal, first_of, formals_known, formals_of, given_of, is_logical_given, is_variable_node, items_of, kind_of, length_given, length_of, linked, name_at, named_of, names_at, negated, number_of, parts_of, perhaps_of, phrase_of, phrases_of, places_of, signed, statement_at, subscripts_of, targets_of, text_at, type_given, type_of_formal, value_type, written, role_of, roles_of, value_part, written_of}
use Rattle.stack_code.specs.declared.heads.CodedName.{CodedName}
use Rattle.symbol_table.specs.Contexts.{info_of}

-- the same made of the same
two : {A B X : Type 0} (f : A → B → X) {a c : A} {b d : B} → a ≡ c → b ≡ d → f a b ≡ f c d
two f {a} {c} {b} {d} e g = ap (λ x. f x b) e ∙ ap (λ y. f c y) g

three : {A B C X : Type 0} (f : A → B → C → X) {a x : A} {b y : B} {c z : C} → a ≡ x → b ≡ y → c ≡ z → f a b c ≡ f x y z
three f {a} {x} {b} {y} {c} {z} e g h = ap (λ u. f u b c) e ∙ two (f x) g h

module _ (a b : List NameInfo) (same : (x : Place) → text_at a x ≡ text_at b x) where
  abbrev C : List Known → Context
  C k = record { names = a; known = k }

  abbrev D : List Known → Context
  D k = record { names = b; known = k }

  same_name : (k : List Known) (x : Place) → name_at (C k) x ≡ name_at (D k) x
  same_name k x = ap (λ (text : List ℕ). let n : Name = record { place = x; text = text } in n) (same x)

  same_names : (k : List Known) (xs : List typed.Placed) → names_at (C k) xs ≡ names_at (D k) xs
  same_names k [] = refl
  same_names k (x ∷ xs) = two (λ (n : Name) (ns : List Name). n ∷ ns) (same_name k x.0) (same_names k xs)

  same_each : (k : List Known) (t : FormalType) (xs : List typed.Placed) (fs gs : List Formal) → fs ≡ gs → each_formal (C k) t xs fs ≡ each_formal (D k) t xs gs
  same_each k t [] fs gs e = e
  same_each k t (x ∷ xs) fs gs e =
      ap (λ (n : Name). let f : Formal = record { name = n; is = t } in f ∷ each_formal (C k) t xs fs) (same_name k x.0)
      ∙ ap (λ (more : List Formal). let f : Formal = record { name = name_at (D k) x.0; is = t } in f ∷ more) (same_each k t xs fs gs e)

  same_formals : (k : List Known) (fs : List typed.Formal) → formals_of (C k) fs ≡ formals_of (D k) fs
  same_formals k [] = refl
  same_formals k (f ∷ fs) = same_each k (type_of_formal f) f.names _ _ (same_formals k fs)

  same_variable : (k : List Known) (n : typed.Node) → is_variable_node (C k) n ≡ is_variable_node (D k) n
  same_variable k (At p f g st (typed.Named x lists)) = refl
  same_variable k n = refl

  abbrev one : Phrase
  one = phrase.Constant (value.Integer (pos 1))

  mutual
    pub same_phrase : (k : List Known) (n : typed.Node) → phrase_of (C k) n ≡ phrase_of (D k) n
    same_phrase k (At p f g st kind) = same_kind k p f g st kind

    same_kind : (k : List Known) (p f : Place) (g : Option Gives) (st : Option Place) (kind : typed.Kind) → kind_of (C k) p f g st kind ≡ kind_of (D k) p f g st kind
    same_kind k p f g st typed.Empty = refl
    same_kind k p f g st typed.Null = refl
    same_kind k p f g st (typed.Number n) = refl
    same_kind k p f g st (typed.Truth t) = refl
    same_kind k p f g st (typed.BitsLit t) = refl
    same_kind k p f g st (typed.Quoted t) = refl
    same_kind k p f g st (typed.Goto x) = refl
    same_kind k p f g st (typed.Named x lists) = same_named k p f st x (declared_at k x) lists
    same_kind k p f g st (typed.Negated n) = ap (λ (x : Phrase). negated (is_logical_given g) x) (same_phrase k n)
    same_kind k p f g st (typed.Abs n) = ap (λ (x : Phrase). phrase.Unary unary.Absolute x) (same_phrase k n)
    same_kind k p f g st (typed.Signed minus n) = ap (λ (x : Phrase). signed minus x) (same_phrase k n)
    same_kind k p f g st (typed.Chain n links) = same_chain k (is_logical_given g) _ _ (same_phrase k n) links
    same_kind k p f g st (typed.Relation o n m) = two (phrase.Relation o) (same_phrase k n) (same_phrase k m)
    same_kind k p f g st (typed.IsClass n class q) = ap (λ (x : Phrase). phrase.IsClass x class) (same_phrase k n)
    same_kind k p f g st (typed.Assign n m) = two (phrase.Assign st (value_type (typed.gives n))) (same_phrase k n) (same_phrase k m)
    same_kind k p f g st (typed.IfThen n m otherwise) = three (phrase.IfThen st (type_given g)) (same_phrase k n) (same_phrase k m) (same_perhaps k phrase.Empty otherwise)
    same_kind k p f g st (typed.CaseValue n parts) = two (phrase.Case st (type_given g)) (same_phrase k n) (same_phrases k parts)
    same_kind k p f g st (typed.CaseDo n parts) = two (phrase.Case st (type_given g)) (same_phrase k n) (same_phrases k parts)
    same_kind k p f g st (typed.ForStep x n step m body) =
        ap (λ (y : Name). phrase.ForStep (statement_at f st) y (phrase_of (C k) n) (perhaps_of (C k) one step) (phrase_of (C k) m) (phrase_of (C (record { place = x; is = a_control } ∷ k)) body)) (same_name k x)
        ∙ ap (λ (z : Phrase). phrase.ForStep (statement_at f st) (name_at (D k) x) z (perhaps_of (C k) one step) (phrase_of (C k) m) (phrase_of (C (record { place = x; is = a_control } ∷ k)) body)) (same_phrase k n)
        ∙ three (phrase.ForStep (statement_at f st) (name_at (D k) x) (phrase_of (D k) n)) (same_perhaps k one step) (same_phrase k m) (same_phrase (record { place = x; is = a_control } ∷ k) body)
    same_kind k p f g st (typed.ForList x values body) = three (phrase.ForList (statement_at f st)) (same_name k x) (same_phrases k values) (same_phrase (record { place = x; is = a_control } ∷ k) body)
    same_kind k p f g st (typed.WhileDo n body) = two (phrase.WhileDo (statement_at f st)) (same_phrase k n) (same_phrase k body)
    same_kind k p f g st (typed.Assert n) = ap (λ (x : Phrase). phrase.Assert (statement_at f st) x) (same_phrase k n)
    same_kind k p f g st (typed.Block decls items) = two (phrase.Block st p) (same_decls (decls_known decls ++ k) decls) (same_items (decls_known decls ++ k) items)

    same_perhaps : (k : List Known) (x : Phrase) (o : typed.Perhaps) → perhaps_of (C k) x o ≡ perhaps_of (D k) x o
    same_perhaps k x typed.Missing = refl
    same_perhaps k x (typed.There n) = same_phrase k n

    same_phrases : (k : List Known) (ns : typed.Nodes) → phrases_of (C k) ns ≡ phrases_of (D k) ns
    same_phrases k typed.no_nodes = refl
    same_phrases k (typed.node_and n rest) = two phrase.phrase_and (same_phrase k n) (same_phrases k rest)

    same_chain : (k : List Known) (l : Bool) (x y : Phrase) → x ≡ y → (links : typed.Links) → chain_of (C k) l x links ≡ chain_of (D k) l y links
    same_chain k l x y e typed.no_links = e
    same_chain k l x y e (typed.link_and (typed.Linked o q n) rest) =
        same_chain k l (linked l o x (phrase_of (C k) n)) (linked l o y (phrase_of (D k) n)) (ap (λ (z : Phrase). linked l o z (phrase_of (C k) n)) e ∙ ap (λ (z : Phrase). linked l o y z) (same_phrase k n)) rest

    same_named : (k : List Known) (p f : Place) (st : Option Place) (x : Place) (d : Declared) (lists : typed.Lists) → named_of (C k) p f st x d lists ≡ named_of (D k) p f st x d lists
    same_named k p f st x (a_variable t) (typed.list_and (typed.OfPart q start n) rest) =
        same_parts k (written n) _ _ (ap (λ (z : Phrase). phrase.Part (length_of t) (written n) (phrase.Named x) z) (same_phrase k start)) rest
    same_named k p f st x (an_array t) (typed.list_and (typed.OfActuals q subscripts) rest) =
        same_parts k (length_of t) _ _ (ap (λ (z : Phrases). phrase.Element (phrase.Named x) z) (same_given k subscripts)) rest
    same_named k p f st x (a_procedure result) (typed.list_and (typed.OfActuals q actuals) rest) =
        same_parts k (length_given result) _ _ (ap (λ (z : Actuals). phrase.Call st false p (phrase.Named x) z) (same_actuals k actuals)) rest
    same_named k p f st x (a_procedure result) (typed.list_and (typed.OfPart q start n) rest) =
        same_parts k (written n) _ _ (ap (λ (z : Phrase). phrase.Part (length_given result) (written n) (phrase.Call st false p (phrase.Named x) phrase.no_actuals) z) (same_phrase k start)) rest
    same_named k p f st x (a_procedure_formal result) (typed.list_and (typed.OfActuals q actuals) rest) =
        same_parts k (length_given result) _ _ (ap (λ (z : Actuals). phrase.Call st true p (phrase.Named x) z) (same_actuals k actuals)) rest
    same_named k p f st x (a_procedure_formal result) (typed.list_and (typed.OfPart q start n) rest) =
        same_parts k (written n) _ _ (ap (λ (z : Phrase). phrase.Part (length_given result) (written n) (phrase.Call st true p (phrase.Named x) phrase.no_actuals) z) (same_phrase k start)) rest
    same_named k p f st x (a_class types) (typed.list_and (typed.OfActuals q values) rest) = two (λ (n : Name) (z : Phrases). phrase.Record n types z) (same_name k x) (same_given k values)
    same_named k p f st x (a_class types) (typed.list_and (typed.OfPart q start n) rest) = ap (λ (m : Name). phrase.RecordAlone m (number_of types)) (same_name k x)
    same_named k p f st x (a_class types) typed.no_lists = ap (λ (m : Name). phrase.RecordAlone m (number_of types)) (same_name k x)
    same_named k p f st x (a_field class m t) (typed.list_and (typed.OfActuals q given) rest) =
        same_parts k (length_of t) _ _ (ap (λ (z : Phrases). phrase.Field class m (first_of z)) (same_given k given)) rest
    same_named k p f st x (a_standard_name (standard.Function op)) (typed.list_and (typed.OfActuals q given) rest) = same_parts k 1 _ _ (ap (λ (z : Phrases). phrase.Unary op (first_of z)) (same_given k given)) rest
    same_named k p f st x (a_standard_name (standard.Write on)) (typed.list_and (typed.OfActuals q values) rest) = ap (λ (z : Phrases). phrase.Write (statement_at f st) on (roles_of k values) z) (same_written k values)
    same_named k p f st x (a_standard_name (standard.Read on)) (typed.list_and (typed.OfActuals q targets) rest) = ap (λ (z : Targets). phrase.Read (statement_at f st) on z) (same_targets k targets)
    same_named k p f st x (a_standard_name standard.ReadCard) (typed.list_and (typed.OfActuals q targets) rest) = ap (λ (z : Targets). phrase.ReadCard (statement_at f st) z) (same_targets k targets)
    same_named k p f st x (a_standard_name standard.IoControl) (typed.list_and (typed.OfActuals q given) rest) = ap (λ (z : Phrases). phrase.IoControl (statement_at f st) (first_of z)) (same_given k given)
    same_named k p f st x d lists = refl

    same_parts : (k : List Known) (m : ℕ) (x y : Phrase) → x ≡ y → (lists : typed.Lists) → parts_of (C k) m x lists ≡ parts_of (D k) m y lists
    same_parts k m x y e typed.no_lists = e
    same_parts k m x y e (typed.list_and (typed.OfActuals q given) rest) = e
    same_parts k m x y e (typed.list_and (typed.OfPart q start n) rest) =
        same_parts k (written n) _ _ (ap (λ (z : Phrase). phrase.Part m (written n) z (phrase_of (C k) start)) e ∙ ap (λ (z : Phrase). phrase.Part m (written n) y z) (same_phrase k start)) rest

    same_given : (k : List Known) (actuals : typed.Actuals) → given_of (C k) actuals ≡ given_of (D k) actuals
    same_given k typed.no_actuals = refl
    same_given k (typed.actual_and (typed.Star q) rest) = same_given k rest
    same_given k (typed.actual_and (typed.Given n) rest) = two phrase.phrase_and (same_phrase k n) (same_given k rest)

    same_written : (k : List Known) (actuals : typed.Actuals) → written_of (C k) actuals ≡ written_of (D k) actuals
    same_written k typed.no_actuals = refl
    same_written k (typed.actual_and (typed.Star q) rest) = same_written k rest
    same_written k (typed.actual_and (typed.Given n) rest) = two phrase.phrase_and (ap (value_part (role_of k n)) (same_phrase k n)) (same_written k rest)

    same_targets : (k : List Known) (actuals : typed.Actuals) → targets_of (C k) actuals ≡ targets_of (D k) actuals
    same_targets k typed.no_actuals = refl
    same_targets k (typed.actual_and (typed.Star q) rest) = same_targets k rest
    same_targets k (typed.actual_and (typed.Given n) rest) = two (phrase.target_and (value_type (typed.gives n))) (same_phrase k n) (same_targets k rest)

    same_subscripts : (k : List Known) (actuals : typed.Actuals) → subscripts_of (C k) actuals ≡ subscripts_of (D k) actuals
    same_subscripts k typed.no_actuals = refl
    same_subscripts k (typed.actual_and (typed.Star q) rest) = ap phrase.star_and (same_subscripts k rest)
    same_subscripts k (typed.actual_and (typed.Given n) rest) = two phrase.subscript_and (same_phrase k n) (same_subscripts k rest)

    same_actuals : (k : List Known) (actuals : typed.Actuals) → actuals_of (C k) actuals ≡ actuals_of (D k) actuals
    same_actuals k typed.no_actuals = refl
    same_actuals k (typed.actual_and (typed.Star q) rest) = same_actuals k rest
    same_actuals k (typed.actual_and (typed.Given n) rest) = two phrase.actual_and (same_actual k n) (same_actuals k rest)

    same_actual : (k : List Known) (n : typed.Node) → actual_of (C k) n ≡ actual_of (D k) n
    same_actual k (At p f (Some g) st kind) =
        ap (λ (z : Phrase). phrase.Given (is_variable_node (C k) (At p f (Some g) st kind)) g f z) (same_kind k p f (Some g) st kind)
        ∙ ap (λ (v : Bool). phrase.Given v g f (kind_of (D k) p f (Some g) st kind)) (same_variable k (At p f (Some g) st kind))
    same_actual k (At p f None st (typed.Named x (typed.list_and (typed.OfActuals q subscripts) rest))) = ap (λ (z : Subscripts). phrase.Subarray (phrase.Named x) z) (same_subscripts k subscripts)
    same_actual k (At p f None st kind) = refl

    same_items : (k : List Known) (is : typed.Items) → items_of (C k) is ≡ items_of (D k) is
    same_items k typed.no_items = refl
    same_items k (typed.item_and (typed.Labelled labels n) rest) = two (phrase.item_and (places_of labels)) (same_phrase k n) (same_items k rest)

    same_bounds : (k : List Known) (bs : typed.Bounds) → bounds_of (C k) bs ≡ bounds_of (D k) bs
    same_bounds k typed.no_bounds = refl
    same_bounds k (typed.bound_and (typed.Between q n m) rest) = three phrase.bound_and (same_phrase k n) (same_phrase k m) (same_bounds k rest)

    same_decls : (k : List Known) (ds : typed.Decls) → decls_of (C k) ds ≡ decls_of (D k) ds
    same_decls k typed.no_decls = refl
    same_decls k (typed.decl_and d rest) = same_decl k d _ _ (same_decls k rest)

    same_decl : (k : List Known) (d : typed.Decl) (rest more : Decls) → rest ≡ more → decl_of (C k) d rest ≡ decl_of (D k) d more
    same_decl k (typed.Simple t xs) rest more e = two phrase.variables_and (same_names k xs) e
    same_decl k (typed.Array t xs pairs) rest more e = three (phrase.arrays_and t) (same_names k xs) (same_bounds k pairs) e
    same_decl k (typed.Proc p result x formals body) rest more e = ap (λ (n : Name). phrase.procedure_and n result (formals_of (C k) formals) (phrase_of (C (formals_known formals ++ k)) body) rest) (same_name k x.0) ∙ three (phrase.procedure_and (name_at (D k) x.0) result) (same_formals k formals) (same_phrase (formals_known formals ++ k) body) e
    same_decl k (typed.Class x groups) rest more e = e

-- ---- names in code

-- a name as code has it
abbrev pub coded : NameInfo → CodedName
coded i = record { place = i.place; text = i.name }

-- names are written in code as in a program
pub written_same : (infos : List NameInfo) (x : Place) → text_at infos x ≡ text_at (map info_of (map coded infos)) x
written_same [] x = refl
written_same (i ∷ infos) x = ap (λ (rest : List ℕ). elim (is_place i.place x) [ true ↦ i.name | false ↦ rest ]) (written_same infos x)

pub coded_places : (infos : List NameInfo) → map (λ (n : CodedName). n.place) (map coded infos) ≡ map (λ (i : NameInfo). i.place) infos
coded_places [] = refl
coded_places (i ∷ infos) = ap (λ places. i.place ∷ places) (coded_places infos)
