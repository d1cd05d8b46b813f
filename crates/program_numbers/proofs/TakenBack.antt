-- Where the findings of a phrase's typed tree are next, that tree is taken, and they are.
use Rattle.std.proofs.Common.{◌≡◌, ℕ, Bool, true, false, List, [], ◌∷◌, ◌++◌, Option, Some, None, refl, sym, ap, subst, ◌∙◌, append_assoc, append-nil}
use Rattle.std.specs.Prelude.{⊤}
use Rattle.value_ops.specs.declared.places.Place.{Place}
use Rattle.algolw_tree.specs.Tree as tree
use Rattle.algolw_typing.specs.Actuals.{Reading, Wanted, as_phrases, behind, is_subarray, name_read, subarray_row, wanted}
use Rattle.algolw_typing.specs.Faults.{typed_program}
use Rattle.algolw_typing.specs.Meanings.{Meaning, Part, an_array, a_phrase, typeless}
use Rattle.algolw_typing.specs.Names.{Entry, declared}
use Rattle.algolw_typing.specs.Scopes.{Known, Scopes, control_scope, formal_scope, label_entries, names_of_block, result_type, spec_type, standard_scope}
use Rattle.algolw_typing.specs.Typed as typed
use Rattle.algolw_typing.specs.Types.{Gives, Statement, ValueType}
use Rattle.algolw_typing.specs.Typing.{Out, PartOut, array_given, as_verdict, declare_at, declares_at, first_list, given, gives, is_setting, item_verdict, link_verdict, list_given, list_verdict, meaning_of, meanings, more_lists, name_given, part_verdict, parts_of_kind, phrase_given, read_as, reading_of, setting_given, subarray_given, target, then_item, typed_bounds, typed_decl, typed_decls, typed_formals, typed_groups, typed_items, typed_kind, typed_links, typed_parts, typed_phrase, typed_phrases, uncounted, use_as_base, use_with_list}
use Rattle.algolw_typing.specs.Verdicts.{Verdict, Good}
use Rattle.typed_findings.specs.Findings.{Found, Phrase, Name, as_type, formals_found, found_of, found_of_actuals, found_of_bounds, found_of_decl, found_of_decls, found_of_items, found_of_kind, found_of_links, found_of_lists, found_of_nodes, gives_of, groups_found, statement_of}
use Rattle.typed_findings.specs.Taking.{first_found, name_of, rest_found, type_of}
use Rattle.program_numbers.specs.Taken.{actual_taken, actuals_taken, bound_taken, bounds_taken, decl_taken, decls_taken, formals_taken, groups_taken, item_taken, items_taken, kind_taken, link_taken, links_taken, listing_taken, lists_taken, node_taken, nodes_taken, own_taken, perhaps_taken}
use Rattle.program_numbers.proofs.TakenParts.{one, two, three, four}

-- the tree n is taken of a phrase wherever its findings are next
abbrev pub IsTaken : tree.Phrase → typed.Node → Type 0
IsTaken x n = (rest : List Found) → node_taken x (found_of n ++ rest) ≡ (n, rest)

abbrev pub KindIsTaken : Place → tree.Kind → typed.Kind → Type 0
KindIsTaken p k l = (rest : List Found) → kind_taken p k (found_of_kind l ++ rest) ≡ (l, rest)

-- what the rules make of a phrase of a kind
abbrev pub kind_of : Scopes → Place → Place → tree.Kind → typed.Kind
kind_of path p f k = typed.kind (typed_kind path p f k).node

abbrev pub statement_at : typed.Node → Option Place
statement_at (typed.At p f g s k) = s

-- ---- a phrase of which the kind is taken

abbrev pub IsFull : tree.Kind → Type 0
IsFull tree.Empty = ⊥
IsFull k = ⊤

abbrev pub IsFullKind : typed.Kind → Type 0
IsFullKind typed.Empty = ⊥
IsFullKind l = ⊤

pub kind_full : (path : Scopes) (p f : Place) (k : tree.Kind) → IsFull k → IsFullKind (kind_of path p f k)
kind_full path p f tree.Empty h = h
kind_full path p f (tree.IfThen c a tree.Missing) h = tt
kind_full path p f (tree.IfThen c a (tree.There b)) h = tt
kind_full path p f (tree.ForStep x a tree.Missing b body) h = tt
kind_full path p f (tree.ForStep x a (tree.There step) b body) h = tt
kind_full path p f k h = tt

own_full : (k : tree.Kind) → IsFull k → (found : List Found) → own_taken k found ≡ (first_found found, rest_found found)
own_full tree.Empty h found = absurd h
own_full k h found = refl

pub found_full : (p f : Place) (g : Option Gives) (s : Option Place) (l : typed.Kind) → IsFullKind l → found_of (typed.At p f g s l) ≡ found_of_kind l ++ Phrase g s ∷ []
found_full p f g s typed.Empty h = absurd h
found_full p f g s l h = refl

pub node_is : (path : Scopes) (p f : Place) (k : tree.Kind) → (typed_kind path p f k).node ≡ typed.At p f (typed.gives (typed_kind path p f k).node) (statement_at (typed_kind path p f k).node) (kind_of path p f k)
node_is path p f (tree.IfThen c a tree.Missing) = refl
node_is path p f (tree.IfThen c a (tree.There b)) = refl
node_is path p f (tree.ForStep x a tree.Missing b body) = refl
node_is path p f (tree.ForStep x a (tree.There step) b body) = refl
node_is path p f k = refl

-- with whatever it gives and wherever it is counted
at_back : (path : Scopes) (p f : Place) (k : tree.Kind) (g : Option Gives) (s : Option Place) → IsFull k → KindIsTaken p k (kind_of path p f k) → IsTaken (tree.At p f k) (typed.At p f g s (kind_of path p f k))
at_back path p f k g s full kind rest =
    let l : typed.Kind = kind_of path p f k in
    ap {B = typed.Node × List Found} (node_taken (tree.At p f k)) (ap (λ xs. xs ++ rest) (found_full p f g s l (kind_full path p f k full)) ∙ append_assoc (found_of_kind l) (Phrase g s ∷ []) rest)
    ∙ ap {B = typed.Node × List Found} (λ (x : typed.Kind × List Found). (typed.At p f (gives_of (own_taken k x.1).0) (statement_of (own_taken k x.1).0) x.0, (own_taken k x.1).1)) (kind (Phrase g s ∷ rest))
    ∙ ap {B = typed.Node × List Found} (λ (x : Found × List Found). (typed.At p f (gives_of x.0) (statement_of x.0) l, x.1)) (own_full k full (Phrase g s ∷ rest))

full_back : (path : Scopes) (p f : Place) (k : tree.Kind) → IsFull k → KindIsTaken p k (kind_of path p f k) → IsTaken (tree.At p f k) (typed_kind path p f k).node
full_back path p f k full kind = subst (IsTaken (tree.At p f k)) (sym (node_is path p f k)) (at_back path p f k _ _ full kind)

whole_back : (path : Scopes) (p f : Place) (k : tree.Kind) → KindIsTaken p k (kind_of path p f k) → IsTaken (tree.At p f k) (typed_kind path p f k).node
whole_back path p f tree.Empty kind = λ rest. refl
whole_back path p f k kind = full_back path p f k tt kind

-- the value of an assignment
right_back : (path : Scopes) (p f : Place) (k : tree.Kind) → KindIsTaken p k (kind_of path p f k) → IsTaken (tree.At p f k) (uncounted (typed_kind path p f k).node)
right_back path p f (tree.Assign a b) kind = at_back path p f (tree.Assign a b) (typed.gives (typed_kind path p f (tree.Assign a b)).node) None tt kind
right_back path p f (tree.IfThen c a tree.Missing) kind = full_back path p f (tree.IfThen c a tree.Missing) tt kind
right_back path p f (tree.IfThen c a (tree.There b)) kind = full_back path p f (tree.IfThen c a (tree.There b)) tt kind
right_back path p f (tree.ForStep x a tree.Missing b body) kind = full_back path p f (tree.ForStep x a tree.Missing b body) tt kind
right_back path p f (tree.ForStep x a (tree.There step) b body) kind = full_back path p f (tree.ForStep x a (tree.There step) b body) tt kind
right_back path p f k kind = whole_back path p f k kind

-- ---- an actual, which has its type or not

read_either : (P : typed.Node → Type 0) (part : Part) (o : Out) → P o.node → P (typed.untyped o.node) → P (read_as part o).node
read_either P (a_phrase v g) o own none = own
read_either P typeless o own none = own
read_either P part o own none = none

pub name_either : (P : typed.Node → Type 0) (w : Wanted) (m : Option Meaning) (o : Out) → P o.node → P (typed.untyped o.node) → P (name_given w m o).node
name_either P w None o own none = own
name_either P w (Some m) o own none = read_either P (name_read w m o.verdict) o own none

array_either : (P : typed.Node → Type 0) (p : Place) (w : Wanted) (t : ValueType) (n : ℕ) (parts : List Part) (o : Out) → P o.node → P (typed.untyped o.node) → P (array_given p w t n parts o).node
array_either P p w t n parts o own none = go (is_subarray w parts)
  where
    go : (b : Bool) → P (elim b as (λ b. PartOut) [ true ↦ subarray_given w t parts (subarray_row p n parts) o | false ↦ phrase_given true o ]).node
    go true = none
    go false = own

pub list_either : (P : typed.Node → Type 0) (p : Place) (w : Wanted) (m : Option Meaning) (o : Out) → P o.node → P (typed.untyped o.node) → P (list_given p w m o).node
list_either P p w (Some (an_array t n)) o own none = array_either P p w t n (parts_of_kind (typed.kind o.node)) o own none
list_either P p w m o own none = own

pub setting_either : (P : typed.Node → Type 0) (is_set : Bool) (o : Out) → P o.node → P (uncounted o.node) → P (elim is_set as (λ _. PartOut) [ true ↦ setting_given o | false ↦ phrase_given false o ]).node
setting_either P true o counted set = set
setting_either P false o counted set = counted

given_back : (path : Scopes) (w : Wanted) (p f : Place) (k : tree.Kind) → KindIsTaken p k (kind_of path p f k) → IsTaken (tree.At p f k) (given path w (tree.At p f k) (typed_kind path p f k)).node
given_back path w p f (tree.Named x tree.no_lists) kind =
    let k : tree.Kind = tree.Named x tree.no_lists in
    name_either (IsTaken (tree.At p f k)) w (meaning_of (declared path x)) (typed_kind path p f k) (full_back path p f k tt kind) (at_back path p f k None None tt kind)
given_back path w p f (tree.Named x (tree.list_and (tree.OfActuals q actuals) tree.no_lists)) kind =
    let k : tree.Kind = tree.Named x (tree.list_and (tree.OfActuals q actuals) tree.no_lists) in
    list_either (IsTaken (tree.At p f k)) p w (meaning_of (declared path x)) (typed_kind path p f k) (full_back path p f k tt kind) (at_back path p f k None None tt kind)
given_back path w p f (tree.Named x lists) kind = full_back path p f (tree.Named x lists) tt kind
given_back path w p f (tree.Assign a b) kind =
    let k : tree.Kind = tree.Assign a b in
    setting_either (IsTaken (tree.At p f k)) (is_setting path w a b) (typed_kind path p f k) (full_back path p f k tt kind) (right_back path p f k kind)
given_back path w p f k kind = whole_back path p f k kind

-- ---- declarations without phrases

type_back : (t : Option ValueType) → type_of (as_type t) ≡ t
type_back None = refl
type_back (Some t) = refl

formals_back : (path : Scopes) (formals : List tree.Formal) (rest : List Found) → formals_taken formals (formals_found (typed_formals path formals) ++ rest) ≡ (typed_formals path formals, rest)
formals_back path [] rest = refl
formals_back path (f ∷ formals) rest =
    let made : Option ValueType → typed.Formal = λ type. record { type = type; mode = f.mode; names = declare_at f.names; dimensions = f.dimensions } in
    let more : List typed.Formal × List Found = formals_taken formals (formals_found (typed_formals path formals) ++ rest) in
    ap {B = List typed.Formal × List Found} (λ type. (made type ∷ more.0, more.1)) (type_back (result_type path f.spec))
    ∙ ap {B = List typed.Formal × List Found} (λ (x : List typed.Formal × List Found). (made (result_type path f.spec) ∷ x.0, x.1)) (formals_back path formals rest)

groups_back : (path : Scopes) (groups : List (tree.TypeSpec × List tree.Placed)) (rest : List Found) → groups_taken groups (groups_found (typed_groups path groups) ++ rest) ≡ (typed_groups path groups, rest)
groups_back path [] rest = refl
groups_back path (g ∷ groups) rest =
    let made : typed.Group = record { type = spec_type path g.0; names = declare_at g.1 } in
    ap {B = List typed.Group × List Found} (λ (x : List typed.Group × List Found). (made ∷ x.0, x.1)) (groups_back path groups rest)

-- ---- phrases, part by part

mutual
  pub node_back : (path : Scopes) (x : tree.Phrase) → IsTaken x (typed_phrase path x).node
  node_back path (tree.At p f k) = whole_back path p f k (kind_back path p f k)

  kind_back : (path : Scopes) (p f : Place) (k : tree.Kind) → KindIsTaken p k (kind_of path p f k)
  kind_back path p f tree.Empty rest = refl
  kind_back path p f tree.Null rest = refl
  kind_back path p f (tree.Number n) rest = refl
  kind_back path p f (tree.Truth b) rest = refl
  kind_back path p f (tree.BitsLit b) rest = refl
  kind_back path p f (tree.Quoted s) rest = refl
  kind_back path p f (tree.Goto x) rest = refl
  kind_back path p f (tree.Named x lists) rest =
      let e = declared path x in
      let ls = (first_list path p e lists).lists in
      one (lists_taken lists) (typed.Named (target e)) (found_of_lists ls ++ rest) rest ls (first_lists_back path p e lists rest)
  kind_back path p f (tree.Negated a) rest = one (node_taken a) typed.Negated _ rest (typed_phrase path a).node (node_back path a rest)
  kind_back path p f (tree.Abs a) rest = one (node_taken a) typed.Abs _ rest (typed_phrase path a).node (node_back path a rest)
  kind_back path p f (tree.Signed minus a) rest = one (node_taken a) (typed.Signed minus) _ rest (typed_phrase path a).node (node_back path a rest)
  kind_back path p f (tree.Chain a links) rest =
      let o = typed_phrase path a in
      let ls = (typed_links path (as_verdict (gives o)) links).links in
      two (node_taken a) (links_taken links) typed.Chain (found_of o.node) (found_of_links ls) rest o.node ls (node_back path a (found_of_links ls ++ rest)) (links_back path (as_verdict (gives o)) links rest)
  kind_back path p f (tree.Relation op a b) rest =
      let m = (typed_phrase path a).node in
      let n = (typed_phrase path b).node in
      two (node_taken a) (node_taken b) (typed.Relation op) (found_of m) (found_of n) rest m n (node_back path a (found_of n ++ rest)) (node_back path b rest)
  kind_back path p f (tree.IsClass a x q) rest =
      let m = (typed_phrase path a).node in
      let d = target (declared path x) in
      two (node_taken a) (λ found. (name_of (first_found found), rest_found found)) (λ l c. typed.IsClass l c q) (found_of m) (Name d ∷ []) rest m d (node_back path a (Name d ∷ rest)) refl
  kind_back path p f (tree.Assign a (tree.At p2 f2 k)) rest =
      let m = (typed_phrase path a).node in
      let n = uncounted (typed_kind path p2 f2 k).node in
      two (node_taken a) (node_taken (tree.At p2 f2 k)) typed.Assign (found_of m) (found_of n) rest m n (node_back path a (found_of n ++ rest)) (right_back path p2 f2 k (kind_back path p2 f2 k) rest)
  kind_back path p f (tree.IfThen c a tree.Missing) rest =
      let l = (typed_phrase path c).node in
      let m = (typed_phrase path a).node in
      three (node_taken c) (node_taken a) (perhaps_taken tree.Missing) typed.IfThen (found_of l) (found_of m) [] rest l m typed.Missing (node_back path c (found_of m ++ rest)) (node_back path a rest) refl
  kind_back path p f (tree.IfThen c a (tree.There b)) rest =
      let l = (typed_phrase path c).node in
      let m = (typed_phrase path a).node in
      let n = (typed_phrase path b).node in
      three (node_taken c) (node_taken a) (perhaps_taken (tree.There b)) typed.IfThen (found_of l) (found_of m) (found_of n) rest l m (typed.There n) (node_back path c (found_of m ++ (found_of n ++ rest))) (node_back path a (found_of n ++ rest))
      (one (node_taken b) typed.There _ rest n (node_back path b rest))
  kind_back path p f (tree.CaseValue c values) rest =
      let l = (typed_phrase path c).node in
      let vs = (typed_phrases path values).nodes in
      two (node_taken c) (nodes_taken values) typed.CaseValue (found_of l) (found_of_nodes vs) rest l vs (node_back path c (found_of_nodes vs ++ rest)) (nodes_back path values rest)
  kind_back path p f (tree.CaseDo c parts) rest =
      let l = (typed_phrase path c).node in
      let ps = (typed_phrases path parts).nodes in
      two (node_taken c) (nodes_taken parts) typed.CaseDo (found_of l) (found_of_nodes ps) rest l ps (node_back path c (found_of_nodes ps ++ rest)) (nodes_back path parts rest)
  kind_back path p f (tree.ForStep x a tree.Missing b body) rest =
      let l = (typed_phrase path a).node in
      let m = (typed_phrase path b).node in
      let n = (typed_phrase (control_scope p x ∷ path) body).node in
      four (node_taken a) (perhaps_taken tree.Missing) (node_taken b) (node_taken body) (typed.ForStep p) (found_of l) [] (found_of m) (found_of n) rest l typed.Missing m n
      (node_back path a (found_of m ++ (found_of n ++ rest))) refl (node_back path b (found_of n ++ rest)) (node_back (control_scope p x ∷ path) body rest)
  kind_back path p f (tree.ForStep x a (tree.There step) b body) rest =
      let l = (typed_phrase path a).node in
      let s = (typed_phrase path step).node in
      let m = (typed_phrase path b).node in
      let n = (typed_phrase (control_scope p x ∷ path) body).node in
      four (node_taken a) (perhaps_taken (tree.There step)) (node_taken b) (node_taken body) (typed.ForStep p) (found_of l) (found_of s) (found_of m) (found_of n) rest l (typed.There s) m n
      (node_back path a (found_of s ++ (found_of m ++ (found_of n ++ rest)))) (one (node_taken step) typed.There _ (found_of m ++ (found_of n ++ rest)) s (node_back path step (found_of m ++ (found_of n ++ rest))))
      (node_back path b (found_of n ++ rest)) (node_back (control_scope p x ∷ path) body rest)
  kind_back path p f (tree.ForList x values body) rest =
      let vs = (typed_phrases path values).nodes in
      let n = (typed_phrase (control_scope p x ∷ path) body).node in
      two (nodes_taken values) (node_taken body) (typed.ForList p) (found_of_nodes vs) (found_of n) rest vs n (nodes_back path values (found_of n ++ rest)) (node_back (control_scope p x ∷ path) body rest)
  kind_back path p f (tree.WhileDo c a) rest =
      let m = (typed_phrase path c).node in
      let n = (typed_phrase path a).node in
      two (node_taken c) (node_taken a) typed.WhileDo (found_of m) (found_of n) rest m n (node_back path c (found_of n ++ rest)) (node_back path a rest)
  kind_back path p f (tree.Assert c) rest = one (node_taken c) typed.Assert _ rest (typed_phrase path c).node (node_back path c rest)
  kind_back path p f (tree.Block decls items) rest =
      let inner = (meanings path (names_of_block decls items ∷ path) decls ++ label_entries items) ∷ path in
      let ds = (typed_decls path inner decls).decls in
      let is = (typed_items inner (Good Statement) items).items in
      two (decls_taken decls) (items_taken items) typed.Block (found_of_decls ds) (found_of_items is) rest ds is (decls_back path inner decls (found_of_items is ++ rest)) (items_back inner (Good Statement) items rest)

  nodes_back : (path : Scopes) (phrases : tree.Phrases) (rest : List Found) → nodes_taken phrases (found_of_nodes (typed_phrases path phrases).nodes ++ rest) ≡ ((typed_phrases path phrases).nodes, rest)
  nodes_back path tree.no_phrases rest = refl
  nodes_back path (tree.phrase_and a phrases) rest =
      let n = (typed_phrase path a).node in
      let ns = (typed_phrases path phrases).nodes in
      two (node_taken a) (nodes_taken phrases) typed.node_and (found_of n) (found_of_nodes ns) rest n ns (node_back path a (found_of_nodes ns ++ rest)) (nodes_back path phrases rest)

  links_back : (path : Scopes) (v : Verdict) (links : tree.Links) (rest : List Found) → links_taken links (found_of_links (typed_links path v links).links ++ rest) ≡ ((typed_links path v links).links, rest)
  links_back path v tree.no_links rest = refl
  links_back path v (tree.link_and (tree.Linked op q a) links) rest =
      let o = typed_phrase path a in
      let w = link_verdict op q v o in
      let ls = (typed_links path w links).links in
      two (link_taken (tree.Linked op q a)) (links_taken links) typed.link_and (found_of o.node) (found_of_links ls) rest (typed.Linked op q o.node) ls
      (one (node_taken a) (typed.Linked op q) _ (found_of_links ls ++ rest) o.node (node_back path a (found_of_links ls ++ rest))) (links_back path w links rest)

  first_lists_back : (path : Scopes) (p : Place) (e : Option (Entry Known)) (lists : tree.Lists) (rest : List Found) → lists_taken lists (found_of_lists (first_list path p e lists).lists ++ rest) ≡ ((first_list path p e lists).lists, rest)
  first_lists_back path p e tree.no_lists rest = refl
  first_lists_back path p e (tree.list_and (tree.OfActuals q actuals) lists) rest =
      let r = typed_parts path (reading_of e) actuals in
      let w = use_with_list p e r.parts in
      let ls = (more_lists path w lists).lists in
      two (listing_taken (tree.OfActuals q actuals)) (lists_taken lists) typed.list_and (found_of_actuals r.actuals) (found_of_lists ls) rest (typed.OfActuals q r.actuals) ls
      (one (actuals_taken actuals) (typed.OfActuals q) _ (found_of_lists ls ++ rest) r.actuals (actuals_back path (reading_of e) actuals (found_of_lists ls ++ rest))) (more_lists_back path w lists rest)
  first_lists_back path p e (tree.list_and (tree.OfPart q a n) lists) rest =
      let o = typed_phrase path a in
      let w = part_verdict q n (use_as_base p e o) o in
      let ls = (more_lists path w lists).lists in
      two (listing_taken (tree.OfPart q a n)) (lists_taken lists) typed.list_and (found_of o.node) (found_of_lists ls) rest (typed.OfPart q o.node n) ls
      (one (node_taken a) (λ l. typed.OfPart q l n) _ (found_of_lists ls ++ rest) o.node (node_back path a (found_of_lists ls ++ rest))) (more_lists_back path w lists rest)

  more_lists_back : (path : Scopes) (v : Verdict) (lists : tree.Lists) (rest : List Found) → lists_taken lists (found_of_lists (more_lists path v lists).lists ++ rest) ≡ ((more_lists path v lists).lists, rest)
  more_lists_back path v tree.no_lists rest = refl
  more_lists_back path v (tree.list_and (tree.OfActuals q actuals) lists) rest =
      let r = typed_parts path as_phrases actuals in
      let w = list_verdict q v r.parts in
      let ls = (more_lists path w lists).lists in
      two (listing_taken (tree.OfActuals q actuals)) (lists_taken lists) typed.list_and (found_of_actuals r.actuals) (found_of_lists ls) rest (typed.OfActuals q r.actuals) ls
      (one (actuals_taken actuals) (typed.OfActuals q) _ (found_of_lists ls ++ rest) r.actuals (actuals_back path as_phrases actuals (found_of_lists ls ++ rest))) (more_lists_back path w lists rest)
  more_lists_back path v (tree.list_and (tree.OfPart q a n) lists) rest =
      let o = typed_phrase path a in
      let w = part_verdict q n v o in
      let ls = (more_lists path w lists).lists in
      two (listing_taken (tree.OfPart q a n)) (lists_taken lists) typed.list_and (found_of o.node) (found_of_lists ls) rest (typed.OfPart q o.node n) ls
      (one (node_taken a) (λ l. typed.OfPart q l n) _ (found_of_lists ls ++ rest) o.node (node_back path a (found_of_lists ls ++ rest))) (more_lists_back path w lists rest)

  actuals_back : (path : Scopes) (r : Reading) (actuals : tree.Actuals) (rest : List Found) → actuals_taken actuals (found_of_actuals (typed_parts path r actuals).actuals ++ rest) ≡ ((typed_parts path r actuals).actuals, rest)
  actuals_back path r tree.no_actuals rest = refl
  actuals_back path r (tree.actual_and (tree.Star q) actuals) rest =
      let more = (typed_parts path (behind r) actuals).actuals in
      one (actuals_taken actuals) (typed.actual_and (typed.Star q)) _ rest more (actuals_back path (behind r) actuals rest)
  actuals_back path r (tree.actual_and (tree.Given (tree.At p f k)) actuals) rest =
      let n = (given path (wanted r) (tree.At p f k) (typed_kind path p f k)).node in
      let more = (typed_parts path (behind r) actuals).actuals in
      two (actual_taken (tree.Given (tree.At p f k))) (actuals_taken actuals) typed.actual_and (found_of n) (found_of_actuals more) rest (typed.Given n) more
      (one (node_taken (tree.At p f k)) typed.Given _ (found_of_actuals more ++ rest) n (given_back path (wanted r) p f k (kind_back path p f k) (found_of_actuals more ++ rest))) (actuals_back path (behind r) actuals rest)

  items_back : (path : Scopes) (v : Verdict) (items : tree.Items) (rest : List Found) → items_taken items (found_of_items (typed_items path v items).items ++ rest) ≡ ((typed_items path v items).items, rest)
  items_back path v tree.no_items rest = refl
  items_back path v (tree.item_and (tree.Labelled labels a) items) rest =
      let o = typed_phrase path a in
      let w = then_item v (item_verdict items labels a o) in
      let is = (typed_items path w items).items in
      two (item_taken (tree.Labelled labels a)) (items_taken items) typed.item_and (found_of o.node) (found_of_items is) rest (typed.Labelled (declare_at labels) o.node) is
      (one (node_taken a) (typed.Labelled (declare_at labels)) _ (found_of_items is ++ rest) o.node (node_back path a (found_of_items is ++ rest))) (items_back path w items rest)

  bounds_back : (around : Scopes) (bounds : tree.Bounds) (rest : List Found) → bounds_taken bounds (found_of_bounds (typed_bounds around bounds).bounds ++ rest) ≡ ((typed_bounds around bounds).bounds, rest)
  bounds_back around tree.no_bounds rest = refl
  bounds_back around (tree.bound_and (tree.Between q a b) bounds) rest =
      let m = (typed_phrase around a).node in
      let n = (typed_phrase around b).node in
      let bs = (typed_bounds around bounds).bounds in
      two (bound_taken (tree.Between q a b)) (bounds_taken bounds) typed.bound_and (found_of m ++ found_of n) (found_of_bounds bs) rest (typed.Between q m n) bs
      (two (node_taken a) (node_taken b) (typed.Between q) (found_of m) (found_of n) (found_of_bounds bs ++ rest) m n (node_back around a (found_of n ++ (found_of_bounds bs ++ rest))) (node_back around b (found_of_bounds bs ++ rest)))
      (bounds_back around bounds rest)

  decls_back : (around path : Scopes) (decls : tree.Decls) (rest : List Found) → decls_taken decls (found_of_decls (typed_decls around path decls).decls ++ rest) ≡ ((typed_decls around path decls).decls, rest)
  decls_back around path tree.no_decls rest = refl
  decls_back around path (tree.decl_and d decls) rest =
      let first = (typed_decl around path d).decl in
      let ds = (typed_decls around path decls).decls in
      two (decl_taken d) (decls_taken decls) typed.decl_and (found_of_decl first) (found_of_decls ds) rest first ds (decl_back around path d (found_of_decls ds ++ rest)) (decls_back around path decls rest)

  decl_back : (around path : Scopes) (d : tree.Decl) (rest : List Found) → decl_taken d (found_of_decl (typed_decl around path d).decl ++ rest) ≡ ((typed_decl around path d).decl, rest)
  decl_back around path (tree.Simple spec xs) rest = refl
  decl_back around path (tree.Array spec xs bounds) rest =
      let bs = (typed_bounds around bounds).bounds in
      one (bounds_taken bounds) (typed.Array (spec_type path spec) (declare_at xs)) (found_of_bounds bs ++ rest) rest bs (bounds_back around bounds rest)
  decl_back around path (tree.Proc p result x formals body) rest =
      let fs = typed_formals path formals in
      let n = (typed_phrase (formal_scope path formals ∷ path) body).node in
      two (formals_taken formals) (node_taken body) (typed.Proc p (type_of (as_type (result_type path result))) (declares_at x)) (formals_found fs) (found_of n) rest fs n
      (formals_back path formals (found_of n ++ rest)) (node_back (formal_scope path formals ∷ path) body rest)
      ∙ ap {B = typed.Decl × List Found} (λ t. (typed.Proc p t (declares_at x) fs n, rest)) (type_back (result_type path result))
  decl_back around path (tree.Class c) rest = one (groups_taken c.groups) (typed.Class (declares_at c.name)) _ rest (typed_groups path c.groups) (groups_back path c.groups rest)

-- the findings of a program are all taken
pub program_taken : (x : tree.Phrase) (found : List Found) → found ≡ found_of (typed_program x).node → node_taken x found ≡ ((typed_program x).node, [])
program_taken x found e = ap {B = typed.Node × List Found} (node_taken x) (e ∙ sym (append-nil (found_of (typed_program x).node))) ∙ node_back (standard_scope ∷ []) x []
