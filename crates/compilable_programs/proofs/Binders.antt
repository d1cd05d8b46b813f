-- What a phrase binds weighs at most what its typed tree declares.
use Rattle.std.proofs.Common.{◌≡◌, ℕ, ◌+◌, ◌≤◌, List, [], ◌∷◌, ◌++◌, refl, arith}
use Rattle.std.specs.Prelude.{ℤ, pos, Option, Some, None, Bool, true, false}
use Rattle.value_ops.specs.declared.places.Place.{Place}
use Rattle.value_ops.specs.declared.values.Value.TheVariants as value
use Rattle.algolw_tree.specs.declared.phrases.Op.{Op}
use Rattle.algolw_tree.specs.declared.phrases.Op.TheVariants as op
use Rattle.algolw_tree.specs.declared.standard.Standard.{Standard}
use Rattle.algolw_tree.specs.declared.standard.Standard.TheVariants as standard
use Rattle.algolw_typing.specs.Types.{ValueType, Gives}
use Rattle.algolw_typing.specs.Meanings.{FormalType}
use Rattle.algolw_typing.specs.Typed as typed
use Rattle.program_meaning.specs.Phrases as phrase
use Rattle.program_meaning.specs.Phrases.{Phrase, Phrases, no_phrases, phrase_and, Targets, no_targets, target_and, Subscripts, no_subscripts, star_and, subscript_and, Actuals, no_actuals, actual_and, Actual, Given, Alone, Subarray, Items, no_items, item_and, Bounds, no_bounds, bound_and, Decls, no_decls, variables_and, arrays_and, procedure_and, Name, Formal, places, formal_places, decl_places, label_places, block_places, Role, placed, sets}
use Rattle.program_meaning.specs.Translating as translating
use Rattle.program_meaning.specs.Translating.{Context, Declared, unknown, formal_declared, type_of_formal, is_logical_given, decls_known, formals_known, formals_of, each_formal, names_at, places_of, with_known, linked, negated, signed, first_of, phrase_of, kind_of, perhaps_of, phrases_of, chain_of, named_of, parts_of, given_of, targets_of, subscripts_of, actuals_of, actual_of, items_of, bounds_of, decls_of, decl_of, role_of, value_part, written_of}
use Rattle.program_soundness.specs.Kinds as kinds
use Rattle.program_soundness.specs.Kinds.{Meaning}
use Rattle.program_soundness.specs.Tables.{Info, bound_count, each_info, group_info, fields_info, decl_info, decls_info, labels_info, formals_info, control_info, infos, kind_infos, perhaps_infos, nodes_infos, links_infos, lists_infos, actuals_infos, items_infos, bounds_infos, decls_infos, inner_infos}

-- what a place weighs
module _ (m : Place → ℕ) where
  abbrev pub weight : List Place → ℕ
  weight [] = 0
  weight (p ∷ ps) = m p + weight ps

  pub weight_both : (xs ys : List Place) → weight (xs ++ ys) ≡ weight xs + weight ys
  weight_both [] ys = omega arith
  weight_both (x ∷ xs) ys = omega (arith, weight_both xs ys)

  -- ---- what a phrase binds

  abbrev mutual
    pub bound : Phrase → ℕ
    bound (phrase.Unary o a) = bound a
    bound (phrase.Binary o a b) = bound a + bound b
    bound (phrase.Relation o a b) = bound a + bound b
    bound (phrase.IsClass a class) = bound a
    bound (phrase.Element a given) = phrases_bound given
    bound (phrase.Field class position a) = bound a
    bound (phrase.Part k n a start) = bound a + bound start
    bound (phrase.Record class types values) = phrases_bound values
    bound (phrase.IfThen st t c a b) = bound c + (bound a + bound b)
    bound (phrase.Case st t c parts) = bound c + phrases_bound parts
    bound (phrase.Block st p decls items) = weight (decl_places decls) + (weight (label_places items) + (decls_bound decls + items_bound items))
    bound (phrase.Call st compares p a given) = actuals_bound given
    bound (phrase.Assign st t a b) = bound a + bound b
    bound (phrase.WhileDo st c body) = bound c + bound body
    bound (phrase.ForStep st x a b c body) = bound a + (bound b + (bound c + (m x.place + bound body)))
    bound (phrase.ForList st x values body) = phrases_bound values + (m x.place + bound body)
    bound (phrase.Assert st c) = bound c
    bound (phrase.Write st first roles values) = phrases_bound values
    bound (phrase.Read st next targets) = targets_bound targets
    bound (phrase.ReadCard st targets) = targets_bound targets
    bound (phrase.IoControl st a) = bound a
    bound a = 0

    pub phrases_bound : Phrases → ℕ
    phrases_bound no_phrases = 0
    phrases_bound (phrase_and a rest) = bound a + phrases_bound rest

    pub targets_bound : Targets → ℕ
    targets_bound no_targets = 0
    targets_bound (target_and t a rest) = bound a + targets_bound rest

    pub subscripts_bound : Subscripts → ℕ
    subscripts_bound no_subscripts = 0
    subscripts_bound (star_and rest) = subscripts_bound rest
    subscripts_bound (subscript_and a rest) = bound a + subscripts_bound rest

    pub actuals_bound : Actuals → ℕ
    actuals_bound no_actuals = 0
    actuals_bound (actual_and a rest) = actual_bound a + actuals_bound rest

    pub actual_bound : Actual → ℕ
    actual_bound (Given v g first a) = bound a
    actual_bound (Alone p a) = 0
    actual_bound (Subarray a given) = subscripts_bound given

    pub items_bound : Items → ℕ
    items_bound no_items = 0
    items_bound (item_and labels a rest) = bound a + items_bound rest

    pub bounds_bound : Bounds → ℕ
    bounds_bound no_bounds = 0
    bounds_bound (bound_and a b rest) = bound a + (bound b + bounds_bound rest)

    pub decls_bound : Decls → ℕ
    decls_bound no_decls = 0
    decls_bound (variables_and names rest) = decls_bound rest
    decls_bound (arrays_and t names bounds rest) = bounds_bound bounds + decls_bound rest
    decls_bound (procedure_and x result formals body rest) = weight (formal_places formals) + (bound body + decls_bound rest)

  -- ---- what a typed tree declares

  abbrev pub infos_weight : List Info → ℕ
  infos_weight [] = 0
  infos_weight (i ∷ is) = m i.place + infos_weight is

  pub infos_both : (a b : List Info) → infos_weight (a ++ b) ≡ infos_weight a + infos_weight b
  infos_both [] b = omega arith
  infos_both (i ∷ a) b = omega (arith, infos_both a b)

  -- ---- names

  each_bound : (c : Context) (d : Declared) (o : Option Meaning) (xs : List typed.Placed) (js : List Info) → infos_weight (each_info d o xs js) ≡ weight (places (names_at c xs)) + infos_weight js
  each_bound c d o [] js = omega arith
  each_bound c d o (x ∷ xs) js = omega (arith, each_bound c d o xs js)

  labels_bound : (d : Declared) (o : Option Meaning) (xs : List typed.Placed) (js : List Info) → infos_weight (each_info d o xs js) ≡ weight (places_of xs) + infos_weight js
  labels_bound d o [] js = omega arith
  labels_bound d o (x ∷ xs) js = omega (arith, labels_bound d o xs js)

  formal_bound : (c : Context) (t : FormalType) (d : Declared) (o : Option Meaning) (xs : List typed.Placed) (fs : List Formal) (js : List Info) → weight (formal_places fs) ≡ infos_weight js → weight (formal_places (each_formal c t xs fs)) ≡ infos_weight (each_info d o xs js)
  formal_bound c t d o [] fs js e = e
  formal_bound c t d o (x ∷ xs) fs js e = omega (arith, formal_bound c t d o xs fs js e)

  formals_bound : (c : Context) (fs : List typed.Formal) → weight (formal_places (formals_of c fs)) ≡ infos_weight (formals_info fs)
  formals_bound c [] = refl
  formals_bound c (f ∷ fs) = formal_bound c (type_of_formal f) _ _ f.names (formals_of c fs) (formals_info fs) (formals_bound c fs)

  -- ---- operators

  linked_bound : (is_logical : Bool) (o : Op) (a b : Phrase) → bound (linked is_logical o a b) ≤ bound a + bound b
  linked_bound true op.And a b = omega arith
  linked_bound true op.Or a b = omega arith
  linked_bound true op.Plus a b = omega arith
  linked_bound true op.Minus a b = omega arith
  linked_bound true op.Times a b = omega arith
  linked_bound true op.Slash a b = omega arith
  linked_bound true op.Div a b = omega arith
  linked_bound true op.Rem a b = omega arith
  linked_bound true op.Power a b = omega arith
  linked_bound true op.Shl a b = omega arith
  linked_bound true op.Shr a b = omega arith
  linked_bound false o a b = omega arith

  negated_bound : (t : Bool) (a : Phrase) → bound (negated t a) ≤ bound a
  negated_bound true a = omega arith
  negated_bound false a = omega arith

  signed_bound : (t : Bool) (a : Phrase) → bound (signed t a) ≤ bound a
  signed_bound true a = omega arith
  signed_bound false a = omega arith

  first_bound : (as_ : Phrases) → bound (first_of as_) ≤ phrases_bound as_
  first_bound no_phrases = omega arith
  first_bound (phrase_and a rest) = omega arith

  value_bound : (role : Role) (a : Phrase) → bound (value_part role a) ≤ bound a
  value_bound (sets width) (phrase.Assign st t a b) = omega arith
  value_bound role a = omega arith

  group_more : (class : Place) (n : ℕ) (t : ValueType) (xs : List typed.Placed) (js : List Info) → infos_weight js ≤ infos_weight (group_info class n t xs js)
  group_more class n t [] js = omega arith
  group_more class n t (x ∷ xs) js = omega (arith, group_more class (n + 1) t xs js)

  fields_more : (class : Place) (n : ℕ) (groups : List typed.Group) (js : List Info) → infos_weight js ≤ infos_weight (fields_info class n groups js)
  fields_more class n [] js = omega arith
  fields_more class n (g ∷ groups) js = omega (arith, group_more class n g.type g.names (fields_info class (n + translating.count g.names) groups js), fields_more class (n + translating.count g.names) groups js)

  -- ---- standard names

  standard_alone : (s : Standard) (c : Context) (p f : Place) (st : Option Place) (x : Place) → bound (named_of c p f st x (translating.a_standard_name s) typed.no_lists) ≤ 0
  standard_alone (standard.Function op) c p f st x = omega arith
  standard_alone (standard.Read on) c p f st x = omega arith
  standard_alone standard.ReadCard c p f st x = omega arith
  standard_alone (standard.Write on) c p f st x = omega arith
  standard_alone standard.IoControl c p f st x = omega arith
  standard_alone standard.MaxInteger c p f st x = omega arith
  standard_alone (standard.Variable width) c p f st x = omega arith

  standard_part : (s : Standard) (q : Place) (start : typed.Node) (n : ℤ) (rest : typed.Lists) (c : Context) (p f : Place) (st : Option Place) (x : Place)
      → bound (named_of c p f st x (translating.a_standard_name s) (typed.list_and (typed.OfPart q start n) rest)) ≤ infos_weight (lists_infos (typed.list_and (typed.OfPart q start n) rest))
  standard_part (standard.Function op) q start n rest c p f st x = omega arith
  standard_part (standard.Read on) q start n rest c p f st x = omega arith
  standard_part standard.ReadCard q start n rest c p f st x = omega arith
  standard_part (standard.Write on) q start n rest c p f st x = omega arith
  standard_part standard.IoControl q start n rest c p f st x = omega arith
  standard_part standard.MaxInteger q start n rest c p f st x = omega arith
  standard_part (standard.Variable width) q start n rest c p f st x = omega arith

  standard_given : (s : Standard) (q : Place) (actuals : typed.Actuals) (rest : typed.Lists) (c : Context) (p f : Place) (st : Option Place) (x : Place) → phrases_bound (given_of c actuals) ≤ infos_weight (actuals_infos actuals) → phrases_bound (written_of c actuals) ≤ infos_weight (actuals_infos actuals) → targets_bound (targets_of c actuals) ≤ infos_weight (actuals_infos actuals)
      → ((a : Phrase) → bound (parts_of c 1 a rest) ≤ bound a + infos_weight (lists_infos rest))
      → bound (named_of c p f st x (translating.a_standard_name s) (typed.list_and (typed.OfActuals q actuals) rest)) ≤ infos_weight (actuals_infos actuals) + infos_weight (lists_infos rest)
  standard_given (standard.Function op) q actuals rest c p f st x h w k more = omega (arith, h, first_bound (given_of c actuals), more (phrase.Unary op (first_of (given_of c actuals))))
  standard_given (standard.Read on) q actuals rest c p f st x h w k more = omega (arith, k)
  standard_given standard.ReadCard q actuals rest c p f st x h w k more = omega (arith, k)
  standard_given (standard.Write on) q actuals rest c p f st x h w k more = omega (arith, w)
  standard_given standard.IoControl q actuals rest c p f st x h w k more = omega (arith, h, first_bound (given_of c actuals))
  standard_given standard.MaxInteger q actuals rest c p f st x h w k more = omega arith
  standard_given (standard.Variable width) q actuals rest c p f st x h w k more = omega arith

  -- ---- trees

  mutual
    pub bound_phrase : (a : typed.Node) (c : Context) → bound (phrase_of c a) ≤ infos_weight (infos a)
    bound_phrase (typed.At p f g st k) c = bound_kind k c p f g st

    bound_kind : (k : typed.Kind) (c : Context) (p f : Place) (g : Option Gives) (st : Option Place) → bound (kind_of c p f g st k) ≤ infos_weight (kind_infos k)
    bound_kind typed.Empty c p f g st = omega arith
    bound_kind typed.Null c p f g st = omega arith
    bound_kind (typed.Number n) c p f g st = omega arith
    bound_kind (typed.Truth b) c p f g st = omega arith
    bound_kind (typed.BitsLit b) c p f g st = omega arith
    bound_kind (typed.Quoted s) c p f g st = omega arith
    bound_kind (typed.Goto x) c p f g st = omega arith
    bound_kind (typed.Named x lists) c p f g st = bound_named lists c p f st x (translating.declared_at c.known x)
    bound_kind (typed.Negated a) c p f g st = omega (arith, negated_bound (is_logical_given g) (phrase_of c a), bound_phrase a c)
    bound_kind (typed.Abs a) c p f g st = bound_phrase a c
    bound_kind (typed.Signed minus a) c p f g st = omega (arith, signed_bound minus (phrase_of c a), bound_phrase a c)
    bound_kind (typed.Chain a links) c p f g st = omega (arith, infos_both (infos a) (links_infos links), bound_phrase a c, bound_chain links c (is_logical_given g) (phrase_of c a))
    bound_kind (typed.Relation o a b) c p f g st = omega (arith, infos_both (infos a) (infos b), bound_phrase a c, bound_phrase b c)
    bound_kind (typed.IsClass a class q) c p f g st = bound_phrase a c
    bound_kind (typed.Assign a b) c p f g st = omega (arith, infos_both (infos a) (infos b), bound_phrase a c, bound_phrase b c)
    bound_kind (typed.IfThen a b otherwise) c p f g st =
        omega (arith, infos_both (infos a) (infos b ++ perhaps_infos otherwise), infos_both (infos b) (perhaps_infos otherwise), bound_phrase a c, bound_phrase b c, bound_perhaps otherwise c phrase.Empty)
    bound_kind (typed.CaseValue a parts) c p f g st = omega (arith, infos_both (infos a) (nodes_infos parts), bound_phrase a c, bound_phrases parts c)
    bound_kind (typed.CaseDo a parts) c p f g st = omega (arith, infos_both (infos a) (nodes_infos parts), bound_phrase a c, bound_phrases parts c)
    bound_kind (typed.ForStep x a step b body) c p f g st =
        omega (
          arith,
          infos_both (infos a) (perhaps_infos step ++ (infos b ++ (control_info x ++ infos body))),
          infos_both (perhaps_infos step) (infos b ++ (control_info x ++ infos body)),
          infos_both (infos b) (control_info x ++ infos body),
          bound_phrase a c,
          bound_perhaps step c (phrase.Constant (value.Integer (pos 1))),
          bound_phrase b c,
          bound_phrase body (with_known c (record { place = x; is = translating.a_control } ∷ [])),
        )
    bound_kind (typed.ForList x values body) c p f g st =
        omega (arith, infos_both (nodes_infos values) (control_info x ++ infos body), bound_phrases values c, bound_phrase body (with_known c (record { place = x; is = translating.a_control } ∷ [])))
    bound_kind (typed.WhileDo a body) c p f g st = omega (arith, infos_both (infos a) (infos body), bound_phrase a c, bound_phrase body c)
    bound_kind (typed.Assert a) c p f g st = bound_phrase a c
    bound_kind (typed.Block decls items) c p f g st =
        let inner = with_known c (decls_known decls) in
        omega (
          arith,
          infos_both (decls_info decls) (labels_info items ++ (decls_infos decls ++ items_infos items)),
          infos_both (labels_info items) (decls_infos decls ++ items_infos items),
          infos_both (decls_infos decls) (items_infos items),
          bound_decls decls inner,
          bound_items items inner,
        )

    bound_perhaps : (a : typed.Perhaps) (c : Context) (b : Phrase) → bound (perhaps_of c b a) ≤ bound b + infos_weight (perhaps_infos a)
    bound_perhaps typed.Missing c b = omega arith
    bound_perhaps (typed.There a) c b = omega (arith, bound_phrase a c)

    bound_phrases : (as_ : typed.Nodes) (c : Context) → phrases_bound (phrases_of c as_) ≤ infos_weight (nodes_infos as_)
    bound_phrases typed.no_nodes c = omega arith
    bound_phrases (typed.node_and a rest) c = omega (arith, infos_both (infos a) (nodes_infos rest), bound_phrase a c, bound_phrases rest c)

    bound_chain : (links : typed.Links) (c : Context) (is_logical : Bool) (a : Phrase) → bound (chain_of c is_logical a links) ≤ bound a + infos_weight (links_infos links)
    bound_chain typed.no_links c is_logical a = omega arith
    bound_chain (typed.link_and (typed.Linked o q b) rest) c is_logical a =
        omega (arith, infos_both (infos b) (links_infos rest), linked_bound is_logical o a (phrase_of c b), bound_phrase b c, bound_chain rest c is_logical (linked is_logical o a (phrase_of c b)))

    bound_parts : (lists : typed.Lists) (c : Context) (n : ℕ) (a : Phrase) → bound (parts_of c n a lists) ≤ bound a + infos_weight (lists_infos lists)
    bound_parts typed.no_lists c n a = omega arith
    bound_parts (typed.list_and (typed.OfActuals q actuals) rest) c n a = omega arith
    bound_parts (typed.list_and (typed.OfPart q start k) rest) c n a =
        omega (arith, infos_both (infos start) (lists_infos rest), bound_phrase start c, bound_parts rest c (translating.written k) (phrase.Part n (translating.written k) a (phrase_of c start)))

    bound_named : (lists : typed.Lists) (c : Context) (p f : Place) (st : Option Place) (x : Place) (d : Declared) → bound (named_of c p f st x d lists) ≤ infos_weight (lists_infos lists)
    bound_named typed.no_lists c p f st x (translating.a_variable t) = omega arith
    bound_named typed.no_lists c p f st x translating.a_control = omega arith
    bound_named typed.no_lists c p f st x (translating.an_array t) = omega arith
    bound_named typed.no_lists c p f st x (translating.a_procedure result) = omega arith
    bound_named typed.no_lists c p f st x (translating.a_procedure_formal result) = omega arith
    bound_named typed.no_lists c p f st x (translating.a_class types) = omega arith
    bound_named typed.no_lists c p f st x (translating.a_field class n t) = omega arith
    bound_named typed.no_lists c p f st x (translating.a_standard_name s) = standard_alone s c p f st x
    bound_named typed.no_lists c p f st x unknown = omega arith
    bound_named (typed.list_and (typed.OfActuals q actuals) rest) c p f st x (translating.a_variable t) = omega arith
    bound_named (typed.list_and (typed.OfActuals q actuals) rest) c p f st x translating.a_control = omega arith
    bound_named (typed.list_and (typed.OfActuals q actuals) rest) c p f st x (translating.an_array t) =
        omega (arith, infos_both (actuals_infos actuals) (lists_infos rest), bound_given actuals c, bound_parts rest c (translating.length_of t) (phrase.Element (phrase.Named x) (given_of c actuals)))
    bound_named (typed.list_and (typed.OfActuals q actuals) rest) c p f st x (translating.a_procedure result) =
        omega (arith, infos_both (actuals_infos actuals) (lists_infos rest), bound_actuals actuals c, bound_parts rest c (translating.length_given result) (phrase.Call st false p (phrase.Named x) (actuals_of c actuals)))
    bound_named (typed.list_and (typed.OfActuals q actuals) rest) c p f st x (translating.a_procedure_formal result) =
        omega (arith, infos_both (actuals_infos actuals) (lists_infos rest), bound_actuals actuals c, bound_parts rest c (translating.length_given result) (phrase.Call st true p (phrase.Named x) (actuals_of c actuals)))
    bound_named (typed.list_and (typed.OfActuals q actuals) rest) c p f st x (translating.a_class types) = omega (arith, infos_both (actuals_infos actuals) (lists_infos rest), bound_given actuals c)
    bound_named (typed.list_and (typed.OfActuals q actuals) rest) c p f st x (translating.a_field class n t) =
        omega (arith, infos_both (actuals_infos actuals) (lists_infos rest), bound_given actuals c, first_bound (given_of c actuals), bound_parts rest c (translating.length_of t) (phrase.Field class n (first_of (given_of c actuals))))
    bound_named (typed.list_and (typed.OfActuals q actuals) rest) c p f st x (translating.a_standard_name s) = omega (arith, infos_both (actuals_infos actuals) (lists_infos rest), standard_given s q actuals rest c p f st x (bound_given actuals c) (bound_written actuals c) (bound_targets actuals c) (bound_parts rest c 1))
    bound_named (typed.list_and (typed.OfActuals q actuals) rest) c p f st x unknown = omega arith
    bound_named (typed.list_and (typed.OfPart q start n) rest) c p f st x (translating.a_variable t) =
        omega (arith, infos_both (infos start) (lists_infos rest), bound_phrase start c, bound_parts rest c (translating.written n) (phrase.Part (translating.length_of t) (translating.written n) (phrase.Named x) (phrase_of c start)))
    bound_named (typed.list_and (typed.OfPart q start n) rest) c p f st x translating.a_control = omega arith
    bound_named (typed.list_and (typed.OfPart q start n) rest) c p f st x (translating.an_array t) = omega arith
    bound_named (typed.list_and (typed.OfPart q start n) rest) c p f st x (translating.a_procedure result) =
        omega (
          arith,
          infos_both (infos start) (lists_infos rest),
          bound_phrase start c,
          bound_parts rest c (translating.written n) (phrase.Part (translating.length_given result) (translating.written n) (phrase.Call st false p (phrase.Named x) no_actuals) (phrase_of c start)),
        )
    bound_named (typed.list_and (typed.OfPart q start n) rest) c p f st x (translating.a_procedure_formal result) =
        omega (
          arith,
          infos_both (infos start) (lists_infos rest),
          bound_phrase start c,
          bound_parts rest c (translating.written n) (phrase.Part (translating.length_given result) (translating.written n) (phrase.Call st true p (phrase.Named x) no_actuals) (phrase_of c start)),
        )
    bound_named (typed.list_and (typed.OfPart q start n) rest) c p f st x (translating.a_class types) = omega arith
    bound_named (typed.list_and (typed.OfPart q start n) rest) c p f st x (translating.a_field class k t) = omega arith
    bound_named (typed.list_and (typed.OfPart q start n) rest) c p f st x (translating.a_standard_name s) = standard_part s q start n rest c p f st x
    bound_named (typed.list_and (typed.OfPart q start n) rest) c p f st x unknown = omega arith

    bound_given : (actuals : typed.Actuals) (c : Context) → phrases_bound (given_of c actuals) ≤ infos_weight (actuals_infos actuals)
    bound_given typed.no_actuals c = omega arith
    bound_given (typed.actual_and (typed.Star q) rest) c = bound_given rest c
    bound_given (typed.actual_and (typed.Given a) rest) c = omega (arith, infos_both (infos a) (actuals_infos rest), bound_phrase a c, bound_given rest c)

    bound_written : (actuals : typed.Actuals) (c : Context) → phrases_bound (written_of c actuals) ≤ infos_weight (actuals_infos actuals)
    bound_written typed.no_actuals c = omega arith
    bound_written (typed.actual_and (typed.Star q) rest) c = bound_written rest c
    bound_written (typed.actual_and (typed.Given a) rest) c = omega (arith, infos_both (infos a) (actuals_infos rest), value_bound (role_of c.known a) (phrase_of c a), bound_phrase a c, bound_written rest c)

    bound_targets : (actuals : typed.Actuals) (c : Context) → targets_bound (targets_of c actuals) ≤ infos_weight (actuals_infos actuals)
    bound_targets typed.no_actuals c = omega arith
    bound_targets (typed.actual_and (typed.Star q) rest) c = bound_targets rest c
    bound_targets (typed.actual_and (typed.Given a) rest) c = omega (arith, infos_both (infos a) (actuals_infos rest), bound_phrase a c, bound_targets rest c)

    bound_subscripts : (actuals : typed.Actuals) (c : Context) → subscripts_bound (subscripts_of c actuals) ≤ infos_weight (actuals_infos actuals)
    bound_subscripts typed.no_actuals c = omega arith
    bound_subscripts (typed.actual_and (typed.Star q) rest) c = bound_subscripts rest c
    bound_subscripts (typed.actual_and (typed.Given a) rest) c = omega (arith, infos_both (infos a) (actuals_infos rest), bound_phrase a c, bound_subscripts rest c)

    bound_actuals : (actuals : typed.Actuals) (c : Context) → actuals_bound (actuals_of c actuals) ≤ infos_weight (actuals_infos actuals)
    bound_actuals typed.no_actuals c = omega arith
    bound_actuals (typed.actual_and (typed.Star q) rest) c = bound_actuals rest c
    bound_actuals (typed.actual_and (typed.Given a) rest) c = omega (arith, infos_both (infos a) (actuals_infos rest), bound_actual a c, bound_actuals rest c)

    bound_actual : (a : typed.Node) (c : Context) → actual_bound (actual_of c a) ≤ infos_weight (infos a)
    bound_actual (typed.At p f (Some g) st k) c = bound_kind k c p f (Some g) st
    bound_actual (typed.At p f None st (typed.Named x (typed.list_and (typed.OfActuals q actuals) rest))) c = omega (arith, infos_both (actuals_infos actuals) (lists_infos rest), bound_subscripts actuals c)
    bound_actual (typed.At p f None st (typed.Named x typed.no_lists)) c = omega arith
    bound_actual (typed.At p f None st (typed.Named x (typed.list_and (typed.OfPart q start n) rest))) c = omega arith
    bound_actual (typed.At p f None st k) c = omega arith

    bound_items : (items : typed.Items) (c : Context) → weight (label_places (items_of c items)) + items_bound (items_of c items) ≤ infos_weight (labels_info items) + infos_weight (items_infos items)
    bound_items typed.no_items c = omega arith
    bound_items (typed.item_and (typed.Labelled labels a) rest) c =
        omega (
          arith,
          labels_bound unknown (Some kinds.a_label) labels (labels_info rest),
          weight_both (places_of labels) (label_places (items_of c rest)),
          infos_both (infos a) (items_infos rest),
          bound_phrase a c,
          bound_items rest c,
        )

    bound_bounds : (bounds : typed.Bounds) (c : Context) → bounds_bound (bounds_of c bounds) ≤ infos_weight (bounds_infos bounds)
    bound_bounds typed.no_bounds c = omega arith
    bound_bounds (typed.bound_and (typed.Between q a b) rest) c =
        omega (arith, infos_both (infos a) (infos b ++ bounds_infos rest), infos_both (infos b) (bounds_infos rest), bound_phrase a c, bound_phrase b c, bound_bounds rest c)

    bound_decls : (decls : typed.Decls) (c : Context) → weight (decl_places (decls_of c decls)) + decls_bound (decls_of c decls) ≤ infos_weight (decls_info decls) + infos_weight (decls_infos decls)
    bound_decls typed.no_decls c = omega arith
    bound_decls (typed.decl_and d rest) c = omega (arith, infos_both (inner_infos d) (decls_infos rest), bound_decl d c (decls_of c rest) (decls_info rest), bound_decls rest c)

    bound_decl : (d : typed.Decl) (c : Context) (rest : Decls) (js : List Info) → weight (decl_places (decl_of c d rest)) + (decls_bound (decl_of c d rest) + infos_weight js) ≤ infos_weight (decl_info d js) + (infos_weight (inner_infos d) + (weight (decl_places rest) + decls_bound rest))
    bound_decl (typed.Simple t xs) c rest js = omega (arith, each_bound c (translating.a_variable t) (Some (kinds.a_variable (kinds.kind_of t))) xs js, weight_both (places (names_at c xs)) (decl_places rest))
    bound_decl (typed.Array t xs bounds) c rest js = omega (arith, each_bound c (translating.an_array t) (Some (kinds.an_array t (bound_count bounds))) xs js, weight_both (places (names_at c xs)) (decl_places rest), bound_bounds bounds c)
    bound_decl (typed.Proc p result x formals body) c rest js =
        omega (arith, formals_bound c formals, infos_both (formals_info formals) (infos body), bound_phrase body (with_known c (formals_known formals)))
    bound_decl (typed.Class x groups) c rest js = omega (arith, fields_more x.0 0 groups js)
