-- What kinds of phrases, lists and declarations are, by what was made of their parts.
use Rattle.std.proofs.Common.{◌≡◌, ℕ, List, [], ◌∷◌, ◌++◌, Option, map, refl, sym, ap, subst, ◌∙◌}
use Rattle.std.specs.Option.{option_map}
use Rattle.std.specs.declared.vec.Vec.{Vec}
use Rattle.std.specs.declared.alloc.Global.{Global}
use Rattle.std.specs.declared.boxed.Box.{Box}
use Rattle.value_ops.specs.declared.places.Place.{Place}
use Rattle.value_ops.specs.declared.values.SimpleType.{SimpleType}
use Rattle.record_classes.specs.Classes.{Classes}
use Rattle.algolw_tree.specs.declared.programs.Gives.{Gives}
use Rattle.algolw_tree.specs.declared.programs.Node.{Node}
use Rattle.algolw_tree.specs.declared.programs.NodeKind.{NodeKind, Named, Chain, IsClass, IfThen, CaseValue, CaseDo, ForStep, ForList, Block}
use Rattle.algolw_tree.specs.declared.programs.TypedLink.{TypedLink}
use Rattle.algolw_tree.specs.declared.programs.TypedList.{TypedList}
use Rattle.algolw_tree.specs.declared.programs.TypedItem.{TypedItem, Labelled}
use Rattle.algolw_tree.specs.declared.programs.TypedLabelled.{TypedLabelled, roll-TypedLabelled}
use Rattle.algolw_tree.specs.declared.programs.TypedPart.{TypedPart}
use Rattle.algolw_tree.specs.declared.programs.TypedActual.{TypedActual}
use Rattle.algolw_tree.specs.declared.programs.TypedBound.{TypedBound}
use Rattle.algolw_tree.specs.declared.programs.TypedDecl.{TypedDecl, Array}
use Rattle.algolw_tree.specs.declared.programs.TypedListKind.{Actuals}
use Rattle.algolw_tree.specs.declared.programs.TypedFormal.{TypedFormal}
use Rattle.algolw_tree.specs.declared.programs.TypedProc.{roll-TypedProc}
use Rattle.algolw_tree.specs.Tree as tree
use Rattle.algolw_typing.specs.Known.{KnowsGives}
use Rattle.algolw_typing.specs.Types as types
use Rattle.algolw_typing.specs.Typed as typed
use Rattle.algolw_typing.specs.Typing.{declare_at, declares_at}
use Rattle.algolw_typing.specs.ProgramView.{Numbers, numbered, at_view, node_view, kind_view, listing_view, actual_view, part_view, item_view, labelled_view, decl_view, gives_view, type_view, formal_view, procedure_view}
use Rattle.typed_findings.specs.Findings.{Found, gives_of, statement_of}
use Rattle.typed_findings.specs.Taking.{first_found, name_of, rest_found, simple_type_of, type_of}
use Rattle.program_numbers.specs.Numbered.{NodeNumbered, StatementNumbered}
use Rattle.program_numbers.specs.Taken.{actuals_taken, bounds_taken, decl_taken, formals_taken, item_taken, kind_taken, lists_taken, node_taken, own_taken, taken_anywhere}
use Rattle.program_numbers.specs.Onto.{nodes_onto, links_onto, lists_onto, actuals_onto, items_onto, decls_onto, bounds_onto}
use Rattle.program_numbers.specs.Makes.{Makes, MakesTaken, numbers_in, target_in}
use Rattle.program_numbers.specs.ProgramParts.{perhaps_in, link_in, list_in, bound_in}
use Rattle.program_numbers.specs.declared.numbering.Numbering.{Numbering}
use Rattle.program_numbers.proofs.Making.{makes_as, makes_of, makes_both, made_two, made_three}
use Rattle.program_numbers.proofs.TakenMaking.{taken_from}
use Rattle.program_numbers.proofs.ProcedureParts.{labelled_in, procedure_in}
use Rattle.program_numbers.proofs.ProgramRows.{named_in, chain_in, if_in, case_value_in, case_do_in, for_step_in, for_list_in, block_in, actuals_in, array_in}

module _ (n : Numbering) where
  pub node_made : (a b c : Classes) (place first : Place) (k : NodeKind) (g : Option Gives) (s : Option ℕ) (kind : typed.Kind) (gives : Option types.Gives) (statement : Option Place) → option_map (numbered n.statements) s ≡ statement
      → Makes n a b (λ ns. kind_view ns k) kind → Makes n b c (λ ns. option_map (gives_view ns) g) gives → Makes n a c (λ ns. at_view ns place first g s (kind_view ns k)) (typed.At place first gives statement kind)
  node_made a b c place first k g s kind gives statement e f h =
      made_two n a b c _ _ kind gives (λ x y. typed.At place first y statement x) _ (λ sets. ap (λ z. typed.At place first (option_map (gives_view (numbers_in n sets)) g) z (kind_view (numbers_in n sets) k)) e) f h

  pub named_made : (a b : Classes) (m : ℕ) (name : Place) (v : Vec TypedList Global) (lists : typed.Lists) → numbered n.names m ≡ name → Makes n a b (λ ns. lists_onto (map (list_in ns) v.items) typed.no_lists) lists
      → Makes n a b (λ ns. kind_view ns (Named m v)) (typed.Named name lists)
  named_made a b m name v lists e f =
      makes_of n a b _ lists (typed.Named name) _ _ (λ sets. named_in (numbers_in n sets) m v ∙ ap (λ p. typed.Named p (lists_onto (map (list_in (numbers_in n sets)) v.items) typed.no_lists)) e) refl f

  pub chain_made : (a b c : Classes) (x : Box Node Global) (v : Vec TypedLink Global) (first : typed.Node) (links : typed.Links) → Makes n a b (λ ns. node_view ns x.value) first → Makes n b c (λ ns. links_onto (map (link_in ns) v.items) typed.no_links) links
      → Makes n a c (λ ns. kind_view ns (Chain x v)) (typed.Chain first links)
  chain_made a b c x v first links f g = made_two n a b c _ _ first links typed.Chain _ (λ sets. chain_in (numbers_in n sets) x v) f g

  pub if_made : (a b c d : Classes) (x y : Box Node Global) (o : Option (Box Node Global)) (condition then_ : typed.Node) (otherwise : typed.Perhaps) → Makes n a b (λ ns. node_view ns x.value) condition → Makes n b c (λ ns. node_view ns y.value) then_
      → Makes n c d (λ ns. perhaps_in ns o) otherwise → Makes n a d (λ ns. kind_view ns (IfThen x y o)) (typed.IfThen condition then_ otherwise)
  if_made a b c d x y o condition then_ otherwise f g h = made_three n a b c d _ _ _ condition then_ otherwise typed.IfThen _ (λ sets. if_in (numbers_in n sets) x y o) f g h

  pub case_value_made : (a b c : Classes) (x : Box Node Global) (v : Vec Node Global) (selector : typed.Node) (values : typed.Nodes) → Makes n a b (λ ns. node_view ns x.value) selector → Makes n b c (λ ns. nodes_onto (map (node_view ns) v.items) typed.no_nodes) values
      → Makes n a c (λ ns. kind_view ns (CaseValue x v)) (typed.CaseValue selector values)
  case_value_made a b c x v selector values f g = made_two n a b c _ _ selector values typed.CaseValue _ (λ sets. case_value_in (numbers_in n sets) x v) f g

  pub case_do_made : (a b c : Classes) (x : Box Node Global) (v : Vec TypedPart Global) (selector : typed.Node) (parts : typed.Nodes) → Makes n a b (λ ns. node_view ns x.value) selector → Makes n b c (λ ns. nodes_onto (map (part_view ns) v.items) typed.no_nodes) parts
      → Makes n a c (λ ns. kind_view ns (CaseDo x v)) (typed.CaseDo selector parts)
  case_do_made a b c x v selector parts f g = made_two n a b c _ _ selector parts typed.CaseDo _ (λ sets. case_do_in (numbers_in n sets) x v) f g

  pub for_step_made : (a b c d e : Classes) (m : ℕ) (control : Place) (x : Box Node Global) (o : Option (Box Node Global)) (y z : Box Node Global) (start : typed.Node) (step : typed.Perhaps) (limit body : typed.Node) → numbered n.names m ≡ control
      → Makes n a b (λ ns. node_view ns x.value) start → Makes n b c (λ ns. perhaps_in ns o) step → Makes n c d (λ ns. node_view ns y.value) limit → Makes n d e (λ ns. node_view ns z.value) body
      → Makes n a e (λ ns. kind_view ns (ForStep m x o y z)) (typed.ForStep control start step limit body)
  for_step_made a b c d e m control x o y z start step limit body is f g h k =
      made_three n a b c e (λ ns. node_view ns x.value) (λ ns. perhaps_in ns o) (λ ns. (node_view ns y.value, node_view ns z.value)) start step (limit, body) (λ p q (r : typed.Node × typed.Node). typed.ForStep control p q r.0 r.1) _
      (λ sets. for_step_in (numbers_in n sets) m x o y z ∙ ap (λ p. typed.ForStep p (node_view (numbers_in n sets) x.value) (perhaps_in (numbers_in n sets) o) (node_view (numbers_in n sets) y.value) (node_view (numbers_in n sets) z.value)) is)
      f g (makes_both n c d e (λ ns. node_view ns y.value) (λ ns. node_view ns z.value) limit body h k)

  pub for_list_made : (a b c : Classes) (m : ℕ) (control : Place) (v : Vec Node Global) (x : Box Node Global) (values : typed.Nodes) (body : typed.Node) → numbered n.names m ≡ control → Makes n a b (λ ns. nodes_onto (map (node_view ns) v.items) typed.no_nodes) values
      → Makes n b c (λ ns. node_view ns x.value) body → Makes n a c (λ ns. kind_view ns (ForList m v x)) (typed.ForList control values body)
  for_list_made a b c m control v x values body is f g =
      made_two n a b c _ _ values body (typed.ForList control) _
      (λ sets. for_list_in (numbers_in n sets) m v x ∙ ap (λ p. typed.ForList p (nodes_onto (map (node_view (numbers_in n sets)) v.items) typed.no_nodes) (node_view (numbers_in n sets) x.value)) is) f g

  pub block_made : (a b c : Classes) (ds : Vec TypedDecl Global) (is : Vec TypedItem Global) (decls : typed.Decls) (items : typed.Items) → Makes n a b (λ ns. decls_onto (map (decl_view ns) ds.items) typed.no_decls) decls → Makes n b c (λ ns. items_onto (map (item_view ns) is.items) typed.no_items) items
      → Makes n a c (λ ns. kind_view ns (Block ds is)) (typed.Block decls items)
  block_made a b c ds is decls items f g = made_two n a b c _ _ decls items typed.Block _ (λ sets. block_in (numbers_in n sets) ds is) f g

  pub actuals_made : (a b : Classes) (p : Place) (v : Vec TypedActual Global) (actuals : typed.Actuals) → Makes n a b (λ ns. actuals_onto (map (actual_view ns) v.items) typed.no_actuals) actuals
      → Makes n a b (λ ns. listing_view ns p (Actuals v)) (typed.OfActuals p actuals)
  actuals_made a b p v actuals f = makes_of n a b _ actuals (typed.OfActuals p) _ _ (λ sets. actuals_in (numbers_in n sets) p v) refl f

  pub applied_made : (a b : Classes) (m : ℕ) (name p : Place) (v : Vec TypedActual Global) (before : List TypedList) (l : TypedList) (lists : Vec TypedList Global) (actuals : typed.Actuals) → numbered n.names m ≡ name
      → lists.items ≡ before ++ l ∷ [] → before ≡ [] → ((ns : Numbers) → list_in ns l ≡ listing_view ns p (Actuals v)) → Makes n a b (λ ns. actuals_onto (map (actual_view ns) v.items) typed.no_actuals) actuals
      → Makes n a b (λ ns. kind_view ns (Named m lists)) (typed.Named name (typed.list_and (typed.OfActuals p actuals) typed.no_lists))
  applied_made a b m name p v before l lists actuals e is none held f =
      named_made a b m name lists (typed.list_and (typed.OfActuals p actuals) typed.no_lists) e
      (makes_of n a b _ (typed.OfActuals p actuals) (λ x. typed.list_and x typed.no_lists) _ _
      (λ sets. ap (λ xs. lists_onto (map (list_in (numbers_in n sets)) xs) typed.no_lists) (is ∙ ap (λ xs. xs ++ l ∷ []) none) ∙ ap (λ x. typed.list_and x typed.no_lists) (held (numbers_in n sets))) refl (actuals_made a b p v actuals f))

  pub array_made : (a b c : Classes) (t : SimpleType) (ts : Vec (ℕ × Place) Global) (v : Vec TypedBound Global) (type : types.ValueType) (names : List typed.Placed) (bounds : typed.Bounds) → map (target_in n) ts.items ≡ names
      → Makes n a b (λ ns. type_view ns t) type → Makes n b c (λ ns. bounds_onto (map (bound_in ns) v.items) typed.no_bounds) bounds → Makes n a c (λ ns. decl_view ns (Array t ts v)) (typed.Array type names bounds)
  array_made a b c t ts v type names bounds e f g =
      made_two n a b c _ _ type bounds (λ x ys. typed.Array x names ys) _
      (λ sets. array_in (numbers_in n sets) t ts v ∙ ap (λ xs. typed.Array (type_view (numbers_in n sets) t) xs (bounds_onto (map (bound_in (numbers_in n sets)) v.items) typed.no_bounds)) e) f g

  pub procedure_made : (a b c d : Classes) (place : Place) (t : Option SimpleType) (m : ℕ × Place) (fs : Vec TypedFormal Global) (x : Box Node Global) (type : Option types.ValueType) (name : typed.Placed) (formals : List typed.Formal) (body : typed.Node)
      → target_in n m ≡ name → Makes n a b (λ ns. option_map (type_view ns) t) type → Makes n b c (λ ns. map (formal_view ns) fs.items) formals → Makes n c d (λ ns. node_view ns x.value) body
      → Makes n a d (λ ns. procedure_view ns (roll-TypedProc (record { place = place; result = t; name = m; formals = fs; body = x }))) (typed.Proc place type name formals body)
  procedure_made a b c d place t m fs x type name formals body e f g h =
      made_three n a b c d _ _ _ type formals body (λ p q r. typed.Proc place p name q r) _
      (λ sets. procedure_in (numbers_in n sets) place t m fs x ∙ ap (λ z. typed.Proc place (option_map (type_view (numbers_in n sets)) t) z (map (formal_view (numbers_in n sets)) fs.items) (node_view (numbers_in n sets) x.value)) e) f g h

  pub labelled_made : (a b : Classes) (ts : Vec (ℕ × Place) Global) (x : Node) (y : Box Node Global) (z : Box TypedLabelled Global) (labels : List typed.Placed) (phrase : typed.Node) → map (target_in n) ts.items ≡ labels → Makes n a b (λ ns. node_view ns x) phrase
      → y.value ≡ x → z.value ≡ roll-TypedLabelled (record { labels = ts; phrase = y }) → Makes n a b (λ ns. item_view ns (Labelled z)) (typed.Labelled labels phrase)
  labelled_made a b ts x y z labels phrase e f first second =
      makes_of n a b _ phrase (typed.Labelled labels) _ _
      (λ sets. ap (labelled_view (numbers_in n sets)) second ∙ labelled_in (numbers_in n sets) ts y ∙ ap (λ ls. typed.Labelled ls (node_view (numbers_in n sets) y.value)) e ∙ ap (λ m. typed.Labelled labels (node_view (numbers_in n sets) m)) first) refl f

  -- a phrase of a kind, of which it is found what it is itself
  pub node_taken_made : (a b c : Classes) (place first : Place) (k : NodeKind) (g : Option Gives) (s : Option ℕ) (t : tree.Kind) (found between behind : List Found) (own : Found) (gives : Option types.Gives)
      → MakesTaken n a b (λ ns. kind_view ns k) between (kind_taken place t found) → own ≡ (own_taken t between).0 → behind ≡ (own_taken t between).1 → gives ≡ gives_of own
      → Makes n b c (λ ns. option_map (gives_view ns) g) gives → option_map (numbered n.statements) s ≡ statement_of own
      → MakesTaken n a c (λ ns. at_view ns place first g s (kind_view ns k)) behind (node_taken (tree.At place first t) found)
  node_taken_made a b c place first k g s t found between behind own gives kind is left given makes statement =
      let all : Found = (own_taken t (kind_taken place t found).1).0 in
      let same : own ≡ all = is ∙ ap (λ fs. (own_taken t fs).0) kind.left in
      let what : typed.Kind = (kind_taken place t found).0 in
      record {
        made = makes_as n a c (λ ns. at_view ns place first g s (kind_view ns k)) (typed.At place first gives (statement_of own) what) (typed.At place first (gives_of all) (statement_of all) what)
            (ap (λ o. typed.At place first (gives_of o) (statement_of o) what) (sym same) ∙ ap (λ x. typed.At place first x (statement_of own) what) (sym given))
            (node_made a b c place first k g s what gives (statement_of own) statement kind.made makes);
        left = left ∙ ap (λ fs. (own_taken t fs).1) kind.left;
      }

  -- what a phrase gives is known, and the statement is numbered, where the phrase is
  pub gives_asked : (place first : Place) (t : tree.Kind) (found between : List Found) (own : Found) (gives : Option types.Gives) → between ≡ (kind_taken place t found).1 → own ≡ (own_taken t between).0 → gives ≡ gives_of own
      → NodeNumbered n (node_taken (tree.At place first t) found).0 → KnowsGives n.classes gives
  gives_asked place first t found between own gives left is given h =
      subst (KnowsGives n.classes) (sym (given ∙ ap gives_of is ∙ ap (λ fs. gives_of (own_taken t fs).0) left)) h.0

  pub statement_asked : (place first : Place) (t : tree.Kind) (found between : List Found) (own : Found) → between ≡ (kind_taken place t found).1 → own ≡ (own_taken t between).0
      → NodeNumbered n (node_taken (tree.At place first t) found).0 → StatementNumbered n (statement_of own)
  statement_asked place first t found between own left is h =
      subst (StatementNumbered n) (sym (ap statement_of is ∙ ap (λ fs. statement_of (own_taken t fs).0) left)) h.1

  -- a name, and the lists behind it
  pub named_taken : (a b : Classes) (m : ℕ) (name : Place) (v : Vec TypedList Global) (lists : tree.Lists) (found between behind : List Found) → name ≡ name_of (first_found found) → between ≡ rest_found found → numbered n.names m ≡ name
      → MakesTaken n a b (λ ns. lists_onto (map (list_in ns) v.items) typed.no_lists) behind (lists_taken lists between)
      → (x : List ℕ) → MakesTaken n a b (λ ns. kind_view ns (Named m v)) behind (taken_anywhere (tree.Named x lists) found)
  named_taken a b m name v lists found between behind is rest number made x =
      let taken : MakesTaken n a b (λ ns. lists_onto (map (list_in ns) v.items) typed.no_lists) behind (lists_taken lists (rest_found found)) = taken_from n a b _ (lists_taken lists) (rest_found found) between behind rest made in
      record { made = named_made a b m (name_of (first_found found)) v (lists_taken lists (rest_found found)).0 (number ∙ is) taken.made; left = taken.left }

  pub applied_taken : (a b : Classes) (m : ℕ) (name p : Place) (v : Vec TypedActual Global) (before : List TypedList) (l : TypedList) (lists : Vec TypedList Global) (actuals : tree.Actuals) (found between behind : List Found)
      → name ≡ name_of (first_found found) → between ≡ rest_found found → numbered n.names m ≡ name → lists.items ≡ before ++ l ∷ [] → before ≡ [] → ((ns : Numbers) → list_in ns l ≡ listing_view ns p (Actuals v))
      → MakesTaken n a b (λ ns. actuals_onto (map (actual_view ns) v.items) typed.no_actuals) behind (actuals_taken actuals between)
      → (x : List ℕ) → MakesTaken n a b (λ ns. kind_view ns (Named m lists)) behind (taken_anywhere (tree.Named x (tree.list_and (tree.OfActuals p actuals) tree.no_lists)) found)
  applied_taken a b m name p v before l lists actuals found between behind is rest number added none held made x =
      let taken : MakesTaken n a b (λ ns. actuals_onto (map (actual_view ns) v.items) typed.no_actuals) behind (actuals_taken actuals (rest_found found)) = taken_from n a b _ (actuals_taken actuals) (rest_found found) between behind rest made in
      record { made = applied_made a b m (name_of (first_found found)) p v before l lists (actuals_taken actuals (rest_found found)).0 (number ∙ is) added none held taken.made; left = taken.left }

  -- a phrase, and the class behind it
  pub class_test_taken : (a b : Classes) (x : Box Node Global) (m : ℕ) (name q : Place) (t : tree.Phrase) (found between behind : List Found) → MakesTaken n a b (λ ns. node_view ns x.value) between (node_taken t found)
      → name ≡ name_of (first_found between) → behind ≡ rest_found between → numbered n.names m ≡ name → (y : List ℕ)
      → MakesTaken n a b (λ ns. kind_view ns (IsClass x m q)) behind (taken_anywhere (tree.IsClass t y q) found)
  class_test_taken a b x m name q t found between behind taken is rest number y =
      let class : Place = name_of (first_found (node_taken t found).1) in
      record {
        made = makes_of n a b (λ ns. node_view ns x.value) (node_taken t found).0 (λ z. typed.IsClass z class q) _ _
            (λ sets. ap (λ p. typed.IsClass (node_view (numbers_in n sets) x.value) p q) (number ∙ is ∙ ap (λ fs. name_of (first_found fs)) taken.left)) refl taken.made;
        left = rest ∙ ap rest_found taken.left;
      }

  pub array_taken : (a b c : Classes) (t : SimpleType) (ts : Vec (ℕ × Place) Global) (v : Vec TypedBound Global) (type : types.ValueType) (spec : tree.TypeSpec) (names : List tree.Placed) (bounds : tree.Bounds) (found between behind : List Found)
      → type ≡ simple_type_of (first_found found) → between ≡ rest_found found → Makes n a b (λ ns. type_view ns t) type → map (target_in n) ts.items ≡ declare_at names
      → MakesTaken n b c (λ ns. bounds_onto (map (bound_in ns) v.items) typed.no_bounds) behind (bounds_taken bounds between)
      → MakesTaken n a c (λ ns. decl_view ns (Array t ts v)) behind (decl_taken (tree.Array spec names bounds) found)
  array_taken a b c t ts v type spec names bounds found between behind is rest makes declared made =
      let taken : MakesTaken n b c (λ ns. bounds_onto (map (bound_in ns) v.items) typed.no_bounds) behind (bounds_taken bounds (rest_found found)) = taken_from n b c _ (bounds_taken bounds) (rest_found found) between behind rest made in
      record {
        made = array_made a b c t ts v (simple_type_of (first_found found)) (declare_at names) (bounds_taken bounds (rest_found found)).0 declared (makes_as n a b (λ ns. type_view ns t) type (simple_type_of (first_found found)) (sym is) makes) taken.made;
        left = taken.left;
      }

  pub procedure_taken : (a b c d : Classes) (place : Place) (t : Option SimpleType) (m : ℕ × Place) (fs : Vec TypedFormal Global) (x : Box Node Global) (type : Option types.ValueType) (spec : Option tree.TypeSpec) (name : tree.Placed) (formals : List tree.Formal) (body : tree.Phrase)
      (found between further behind : List Found) → target_in n m ≡ declares_at name → type ≡ type_of (first_found found) → between ≡ rest_found found → Makes n a b (λ ns. option_map (type_view ns) t) type
      → MakesTaken n b c (λ ns. map (formal_view ns) fs.items) further (formals_taken formals between) → MakesTaken n c d (λ ns. node_view ns x.value) behind (node_taken body further)
      → MakesTaken n a d (λ ns. procedure_view ns (roll-TypedProc (record { place = place; result = t; name = m; formals = fs; body = x }))) behind (decl_taken (tree.Proc place spec name formals body) found)
  procedure_taken a b c d place t m fs x type spec name formals body found between further behind named is rest makes made_formals made_body =
      let taken : MakesTaken n b c (λ ns. map (formal_view ns) fs.items) further (formals_taken formals (rest_found found)) = taken_from n b c _ (formals_taken formals) (rest_found found) between further rest made_formals in
      let last : MakesTaken n c d (λ ns. node_view ns x.value) behind (node_taken body (formals_taken formals (rest_found found)).1) = taken_from n c d _ (node_taken body) (formals_taken formals (rest_found found)).1 further behind taken.left made_body in
      record {
        made = procedure_made a b c d place t m fs x (type_of (first_found found)) (declares_at name) (formals_taken formals (rest_found found)).0 (node_taken body (formals_taken formals (rest_found found)).1).0 named
            (makes_as n a b (λ ns. option_map (type_view ns) t) type (type_of (first_found found)) (sym is) makes) taken.made last.made;
        left = last.left;
      }

  pub labelled_taken : (a b : Classes) (ts : Vec (ℕ × Place) Global) (x : Box Node Global) (z : Box TypedLabelled Global) (labels : List tree.Placed) (phrase : tree.Phrase) (found behind : List Found) → map (target_in n) ts.items ≡ declare_at labels
      → MakesTaken n a b (λ ns. node_view ns x.value) behind (node_taken phrase found) → z.value ≡ roll-TypedLabelled (record { labels = ts; phrase = x })
      → MakesTaken n a b (λ ns. item_view ns (Labelled z)) behind (item_taken (tree.Labelled labels phrase) found)
  labelled_taken a b ts x z labels phrase found behind declared taken held =
      record { made = labelled_made a b ts x.value x z (declare_at labels) (node_taken phrase found).0 declared taken.made refl held; left = taken.left }
