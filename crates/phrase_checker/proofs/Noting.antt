-- What is noted in a log, part by part and turn by turn.
use Rattle.std.proofs.Common.{◌≡◌, ℕ, suc, ◌+◌, ◌<◌, ◌≤◌, List, [], ◌∷◌, ◌++◌, Result, length, get_or, map, drop, refl, sym, ap, subst, ◌∙◌, append_assoc, append-nil, drop-cons, add-one, arith, zero}
use Rattle.std.proofs.Math.ListN.{drop_of_length-le}
use Rattle.std.proofs.lemmas.List.{map-append}
use Rattle.std.specs.Prelude.{Ok, Err, IfOk}
use Rattle.std.specs.Result.{OnOk}
use Rattle.value_ops.specs.declared.places.Place.{Place}
use Rattle.algolw_tree.specs.Tree as tree
use Rattle.algolw_tree.specs.Tree.{Placed}
use Rattle.algolw_typing.specs.Naming.{Naming, Frame, NamePath, nothing, and, infos, outermost, standard_names, program_naming, declares, inside, of_procedure, scope_of, formal_names, naming, kind_naming, perhaps_naming, phrases_naming, items_naming, lists_naming, actuals_naming, bounds_naming, decls_naming, decl_naming}
use Rattle.typed_findings.specs.ClassView.{class_view}
use Rattle.typed_findings.specs.Noted.{Notes}
use Rattle.typed_findings.specs.declared.findings.Log.{Log}
use Rattle.std.specs.declared.vec.Vec.{Vec}
use Rattle.std.specs.declared.alloc.Global.{Global}
use Rattle.algolw_tree.proofs.Rows.{array_at}
use Rattle.algolw_tree.specs.Grammar.{bounds_of}
use Rattle.algolw_tree.specs.declared.programs.NameInfo.{NameInfo}
use Rattle.algolw_tree.specs.declared.phrases.Bound.{Bound}
use Rattle.algolw_tree.specs.declared.phrases.Decl.{Decl, Array}
use Rattle.algolw_tree.specs.declared.phrases.TypeSpec.{TypeSpec}
use Rattle.algolw_tree.specs.View.{bound_tree, decl_tree, spec_tree}
use Rattle.algolw_typing.specs.Scopes.{Scopes}
use Rattle.algolw_typing.specs.Typing.{Out}
use Rattle.algolw_typing.specs.Verdicts.{Verdict}
use Rattle.declared_names.specs.Blocks.{bounds_notes}
use Rattle.declared_names.specs.NamesAlong.{names_along}
use Rattle.declared_names.specs.Standards.{standard_path}
use Rattle.declared_names.specs.declared.blocks.Bounds.{Bounds}
use Rattle.declared_names.proofs.Placing.{next}
use Rattle.phrase_checker.specs.Checked.{Checked}
use Rattle.phrase_checker.specs.NotedParts.{bound_notes, each_notes, actual_naming, item_naming, listing_naming}

pub notes_nothing : (a : Log) → Notes a a nothing
notes_nothing a = record { names = sym (append-nil _); classes = sym (append-nil _) }

pub notes_and : (a b c : Log) (m n : Naming) → Notes a b m → Notes b c n → Notes a c (and m n)
notes_and a b c m n f g = record {
  names = g.names ∙ ap (λ xs. xs ++ n.names) f.names ∙ append_assoc a.names.items m.names n.names;
  classes = g.classes ∙ ap (λ xs. xs ++ n.classes) f.classes ∙ append_assoc _ m.classes n.classes;
}

pub and_assoc : (a b c : Naming) → and (and a b) c ≡ and a (and b c)
and_assoc a b c = simp append_assoc

pub and_nothing : (a : Naming) → and a nothing ≡ a
and_nothing a = simp append-nil

-- nothing more is noted
pub notes_still : (a b c : Log) (n : Naming) → Notes a b n → Notes b c nothing → Notes a c n
notes_still a b c n h k = subst (Notes a c) (and_nothing n) (notes_and a b c n nothing h k)

-- ---- turn by turn

-- Where noting this was begun at a, noting the rest at b ends it.
pub record Left (whole rest : Naming) (a b : Log) : Type 0 where
  pub then : (s : Log) → Notes b s rest → Notes a s whole

pub turned : (whole rest m rest' : Naming) (a b c : Log) → Left whole rest a b → Notes b c m → rest ≡ and m rest' → Left whole rest' a c
turned whole rest m rest' a b c l h e = record { then = λ s g. l.then s (subst (Notes b s) (sym e) (notes_and b c s m rest' h g)) }

pub ended : (whole rest : Naming) (a b : Log) → Left whole rest a b → rest ≡ nothing → Notes a b whole
ended whole rest a b l e = l.then b (subst (Notes b b) (sym e) (notes_nothing b))

-- the turns of a loop over a list: each notes what its part is
pub turn : {X : Type 0} (N : List X → Naming) (M : X → Naming) (step : (x : X) (xs : List X) → N (x ∷ xs) ≡ and (M x) (N xs)) (xs : List X) (i : ℕ) (x : X) (a b c : Log) → i < length xs → x ≡ get_or xs i x → Left (N xs) (N (drop i xs)) a b → Notes b c (M x)
    → Left (N xs) (N (drop (i + 1) xs)) a c
turn N M step xs i x a b c within is left adds =
    turned (N xs) (N (drop i xs)) (M x) (N (drop (i + 1) xs)) a b c left adds
    (ap N (drop-cons xs i x within ∙ ap (λ y. y ∷ drop (suc i) xs) (sym is)) ∙ step x (drop (suc i) xs) ∙ ap (λ j. and (M x) (N (drop j xs))) (sym (add-one i)))

pub finish : {X : Type 0} (N : List X → Naming) (none : N [] ≡ nothing) (xs : List X) (i : ℕ) (a b : Log) → length xs ≤ i → Left (N xs) (N (drop i xs)) a b → Notes a b (N xs)
finish N none xs i a b past left = ended (N xs) (N (drop i xs)) a b left (ap N (drop_of_length-le xs past) ∙ none)

-- ---- the same, of a part that is this one

pub noted_kind : {T E : Type 0} (r : Result T E) (a b : Log) (f : Frame) (path : NamePath) (p : Place) (k k' : tree.Kind) → k ≡ k' → OnOk r (Notes a b (kind_naming f path p k')) → OnOk r (Notes a b (kind_naming f path p k))
noted_kind r a b f path p k k' e h = subst (λ (z : tree.Kind). OnOk r (Notes a b (kind_naming f path p z))) (sym e) h

-- ---- scopes

-- what a scope declares
pub notes_scope : (a b : Log) (f : Frame) (xs ys : List Placed) → xs ≡ ys → b.names.items ≡ a.names.items ++ (declares f xs).names → b.classes.items ≡ a.classes.items → Notes a b (declares f ys)
notes_scope a b f xs ys e h k = subst (λ (zs : List Placed). Notes a b (declares f zs)) e (record { names = h; classes = ap (map class_view) k ∙ sym (append-nil _) })

-- a FOR over a range: its name, what stands before its body, and the body
pub range_notes : (a b c d : Log) (f g : Frame) (path : NamePath) (p : Place) (n : List ℕ) (x : tree.Phrase) (s : tree.Perhaps) (y z : tree.Phrase) → Notes a b (declares f ((n, p) ∷ [])) → g ≡ inside f ((n, p) ∷ [])
    → Notes b c (and (naming g path x) (and (perhaps_naming g path s) (naming g path y))) → Notes c d (naming g (scope_of ((n, p) ∷ []) ∷ path) z) → Notes a d (kind_naming f path p (tree.ForStep n x s y z))
range_notes a b c d f g path p n x s y z scope e range body =
    let last = naming g (scope_of ((n, p) ∷ []) ∷ path) z in
    let whole = notes_and a b d _ _ scope (notes_and b c d (and (naming g path x) (and (perhaps_naming g path s) (naming g path y))) last range body) in
    let straight = subst (λ (m : Naming). Notes a d (and (declares f ((n, p) ∷ [])) m)) (and_assoc (naming g path x) (and (perhaps_naming g path s) (naming g path y)) last ∙ ap (and (naming g path x)) (and_assoc (perhaps_naming g path s) (naming g path y) last)) whole in
    subst (λ (i : Frame). Notes a d (and (declares f ((n, p) ∷ [])) (and (naming i path x) (and (perhaps_naming i path s) (and (naming i path y) (naming i (scope_of ((n, p) ∷ []) ∷ path) z)))))) e straight

-- a FOR with values
pub values_notes : (a b c d : Log) (f g : Frame) (path : NamePath) (p : Place) (n : List ℕ) (xs : tree.Phrases) (z : tree.Phrase) → Notes a b (declares f ((n, p) ∷ [])) → g ≡ inside f ((n, p) ∷ [])
    → Notes b c (phrases_naming g path xs) → Notes c d (naming g (scope_of ((n, p) ∷ []) ∷ path) z) → Notes a d (kind_naming f path p (tree.ForList n xs z))
values_notes a b c d f g path p n xs z scope e values body =
    subst (λ (i : Frame). Notes a d (and (declares f ((n, p) ∷ [])) (and (phrases_naming i path xs) (naming i (scope_of ((n, p) ∷ []) ∷ path) z)))) e
    (notes_and a b d _ _ scope (notes_and b c d _ _ values body))

-- a procedure: its formals, and its body
pub procedure_notes : (a b c : Log) (f g within_it : Frame) (path : NamePath) (formals : List tree.Formal) (body : tree.Phrase)
    → g ≡ of_procedure f → within_it ≡ inside g (formal_names formals) → Notes a b (declares g (formal_names formals)) → Notes b c (naming within_it (scope_of (formal_names formals) ∷ path) body)
    → let ys = formal_names formals in
    Notes a c (and (declares (of_procedure f) ys) (naming (inside (of_procedure f) ys) (scope_of ys ∷ path) body))
procedure_notes a b c f g within_it path formals body at e scope phrase =
    let ys = formal_names formals in
    let whole = notes_and a b c (declares g ys) (naming within_it (scope_of ys ∷ path) body) scope phrase in
    let inside_it = subst (λ (i : Frame). Notes a c (and (declares g ys) (naming i (scope_of ys ∷ path) body))) e whole in
    subst (λ (h : Frame). Notes a c (and (declares h ys) (naming (inside h ys) (scope_of ys ∷ path) body))) at inside_it

-- a block: what it declares, its declarations, and its items
pub block_notes : (a b c d : Log) (f g : Frame) (path : NamePath) (inner : NamePath) (xs : List Placed) (decls : tree.Decls) (items : tree.Items) → g ≡ inside f xs → inner ≡ scope_of xs ∷ path
    → Notes a b (declares f xs) → Notes b c (decls_naming g path inner decls) → Notes c d (items_naming g inner items)
    → Notes a d (and (declares f xs) (and (decls_naming (inside f xs) path (scope_of xs ∷ path) decls) (items_naming (inside f xs) (scope_of xs ∷ path) items)))
block_notes a b c d f g path inner xs decls items e along scope ds is =
    let whole = notes_and a b d (declares f xs) (and (decls_naming g path inner decls) (items_naming g inner items)) scope (notes_and b c d (decls_naming g path inner decls) (items_naming g inner items) ds is) in
    let inside_it = subst (λ (i : Frame). Notes a d (and (declares f xs) (and (decls_naming i path inner decls) (items_naming i inner items)))) e whole in
    subst (λ (q : NamePath). Notes a d (and (declares f xs) (and (decls_naming (inside f xs) path q decls) (items_naming (inside f xs) q items)))) along inside_it

-- an item, before the others
pub item_first : (f : Frame) (path : NamePath) (i : tree.Item) (items : tree.Items) → items_naming f path (tree.item_and i items) ≡ and (item_naming f path i) (items_naming f path items)
item_first f path (tree.Labelled labels a) items = refl

-- a list behind a name and an actual, before the others
pub listing_first : (f : Frame) (path : NamePath) (l : tree.Listing) (lists : tree.Lists) → lists_naming f path (tree.list_and l lists) ≡ and (listing_naming f path l) (lists_naming f path lists)
listing_first f path (tree.OfActuals q xs) lists = refl
listing_first f path (tree.OfPart q a n) lists = refl

pub actual_first : (f : Frame) (path : NamePath) (a : tree.Actual) (actuals : tree.Actuals) → actuals_naming f path (tree.actual_and a actuals) ≡ and (actual_naming f path a) (actuals_naming f path actuals)
actual_first f path (tree.Star q) xs = refl
actual_first f path (tree.Given a) xs = refl

-- where the last step may fail
pub ok_weaker : {V E : Type 0} (r : Result V E) (P R : Type 0) → (P → R) → OnOk r P → OnOk r R
ok_weaker (Ok v) P R f p = f p
ok_weaker (Err e) P R f p = p

pub ok_always : {V E : Type 0} (r : Result V E) (P : Type 0) → P → OnOk r P
ok_always (Ok v) P p = p
ok_always (Err e) P p = tt

pub both_ok_if : {V E : Type 0} (r : Result V E) (P Q R : V → Type 0) → ((v : V) → P v → Q v → R v) → IfOk r P → IfOk r Q → IfOk r R
both_ok_if (Ok v) P Q R f p q = f v p q
both_ok_if (Err e) P Q R f p q = tt

-- what is found behind names that are noted
pub noted_before : (a b : Log) (ns : Vec NameInfo Global) (v : Verdict) (o : Out) → Checked (record a { names = ns }) b v o → Checked a b v o
noted_before a b ns v o h = record { added = record { faults = h.added.faults; findings = h.added.findings }; verdict = h.verdict }

-- ---- bounds, which are checked before the declarations

pub kept_notes : (f : Frame) (around : NamePath) (whole : List Naming) (ds : List Decl) (i : ℕ) (d : Decl) (bs bs' : List Bounds) (b : Bounds) → i < length ds → d ≡ get_or ds i d → bs' ≡ bs ++ b ∷ [] → bounds_notes b ≡ bound_notes f around (decl_tree d)
    → map bounds_notes bs ++ each_notes f around (map decl_tree (drop i ds)) ≡ whole → map bounds_notes bs' ++ each_notes f around (map decl_tree (drop (i + 1) ds)) ≡ whole
kept_notes f around whole ds i d bs bs' b within is e found h =
    let rest : List Naming = each_notes f around (map decl_tree (drop (i + 1) ds)) in
    ap (λ (xs : List Bounds). map bounds_notes xs ++ rest) e ∙ ap (λ (xs : List Naming). xs ++ rest) (map-append bounds_notes bs (b ∷ [])) ∙ append_assoc (map bounds_notes bs) (bounds_notes b ∷ []) rest
    ∙ ap (λ (x : Naming). map bounds_notes bs ++ x ∷ rest) found ∙ ap (λ ys. map bounds_notes bs ++ each_notes f around (map decl_tree ys)) (sym (next ds i d within is)) ∙ h

abbrev rest_of : List Naming → List Naming
rest_of [] = []
rest_of (x ∷ xs) = xs

abbrev first_of : Naming → List Naming → Naming
first_of o [] = o
first_of o (x ∷ xs) = x

-- what is noted in the bounds of a declaration is found at its position
pub own_notes : (f : Frame) (around : NamePath) (bs : List Bounds) (ds : List Decl) (i : ℕ) (b : Bounds) (d : Decl) → i < length ds → map bounds_notes bs ≡ each_notes f around (map decl_tree ds) → b ≡ get_or bs i b → d ≡ get_or ds i d → bounds_notes b ≡ bound_notes f around (decl_tree d)
own_notes f around bs [] i b d within e at_b at_d = absurd (omega (arith, within))
own_notes f around [] (y ∷ ds) i b d within e at_b at_d = cc
own_notes f around (x ∷ bs) (y ∷ ds) zero b d within e at_b at_d = ap bounds_notes at_b ∙ ap (first_of (bounds_notes x)) e ∙ ap (λ (z : Decl). bound_notes f around (decl_tree z)) (sym at_d)
own_notes f around (x ∷ bs) (y ∷ ds) (suc i) b d within e at_b at_d = own_notes f around bs ds i b d (omega (arith, within)) (ap rest_of e) at_b at_d

array_is : (d : Decl) (s : TypeSpec) (ns : Vec (List ℕ × Place) Global) (v : Vec Bound Global) → d ≡ Array s ns v → decl_tree d ≡ tree.Array (spec_tree s) ns.items (bounds_of (map bound_tree v.items))
array_is d s ns v e = array_at d s ns v v.items e refl

-- what is noted in bounds is what an array notes
pub noted_array : (f : Frame) (around path : NamePath) (d : Decl) (s : TypeSpec) (ns : Vec (List ℕ × Place) Global) (v : Vec Bound Global) → d ≡ Array s ns v → bound_notes f around (decl_tree d) ≡ decl_naming f around path (decl_tree d)
noted_array f around path d s ns v e = ap (bound_notes f around) (array_is d s ns v e) ∙ sym (ap (decl_naming f around path) (array_is d s ns v e))

-- the notes of a log that had none
all_notes : (a b : Log) (n : Naming) → a.names.items ≡ [] → a.classes.items ≡ [] → Notes a b n → (b.names.items ≡ n.names) × (map class_view b.classes.items ≡ n.classes)
all_notes a b n none no_class h = (h.names ∙ ap (λ xs. xs ++ n.names) none, h.classes ∙ ap (λ xs. map class_view xs ++ n.classes) no_class)

pub bounds_noted : (f : Frame) (around : NamePath) (d : Decl) (s : TypeSpec) (ns : Vec (List ℕ × Place) Global) (v : Vec Bound Global) (xs : List Bound) (start end found : Log) (b : Bounds) → d ≡ Array s ns v → xs ≡ v.items
    → (new : Log) → new.names.items ≡ [] → new.classes.items ≡ [] → start ≡ new → Notes start end (bounds_naming f around (bounds_of (map bound_tree xs))) → found ≡ end
    → b.names.now ≡ found.names.items → b.classes.now ≡ found.classes.items → bounds_notes b ≡ bound_notes f around (decl_tree d)
bounds_noted f around d s ns v xs start end found b e items new none no_class at h is names classes =
    let n : Naming = bounds_naming f around (bounds_of (map bound_tree xs)) in
    let all = all_notes start end n (ap (λ (l : Log). l.names.items) at ∙ none) (ap (λ (l : Log). l.classes.items) at ∙ no_class) h in
    let given : bounds_notes b ≡ n =
    ap (λ is. record { names = is; classes = map class_view b.classes.now }) (names ∙ ap (λ (l : Log). l.names.items) is ∙ all.0)
    ∙ ap (λ cs. record { names = n.names; classes = cs }) (ap (map class_view) classes ∙ ap (λ (l : Log). map class_view l.classes.items) is ∙ all.1) in
    given ∙ ap (λ ys. bounds_naming f around (bounds_of (map bound_tree ys))) items ∙ sym (ap (bound_notes f around) (array_is d s ns v e))

-- ---- a program, with the standard names in a block round it

pub program_noted : (x : tree.Phrase) (path : Scopes) (f : Frame) (before : List NameInfo) (start end last : Log) → path ≡ standard_path → f ≡ inside outermost standard_names → start.names.items ≡ before ++ infos outermost standard_names → before ≡ [] → start.classes.items ≡ []
    → Notes start end (naming f (names_along path) x) → Notes end last nothing → (last.names.items ≡ (program_naming x).names) × (map class_view last.classes.items ≡ (program_naming x).classes)
program_noted x path f before start end last p e names none no_class h k =
    let all = notes_still start end last _ h k in
    let there = subst (λ (g : Frame). Notes start last (naming g (names_along standard_path) x)) e (subst (λ (q : Scopes). Notes start last (naming f (names_along q) x)) p all) in (
      there.names ∙ ap (λ is. is ++ (naming (inside outermost standard_names) (names_along standard_path) x).names) (names ∙ ap (λ is. is ++ infos outermost standard_names) none),
      there.classes ∙ ap (λ cs. map class_view cs ++ (naming (inside outermost standard_names) (names_along standard_path) x).classes) no_class,
    )
