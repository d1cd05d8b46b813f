-- Blocks: the turns of the loops over bounds, declarations and items.
use Rattle.std.proofs.Common.{◌≡◌, ℕ, zero, suc, ◌+◌, ◌<◌, ◌≤◌, Bool, nat_eq, List, [], ◌∷◌, ◌++◌, length, get_or, drop, map, refl, sym, ap, subst, ◌∙◌, append_assoc, arith}
use Rattle.std.proofs.lemmas.List.{drop_all, map-append}
use Rattle.std.proofs.lemmas.Bool.{eq-eqb, ne_eqb}
use Rattle.value_ops.specs.declared.places.Diagnostic.{Diagnostic}
use Rattle.value_ops.specs.declared.places.Place.{Place}
use Rattle.algolw_tree.specs.declared.phrases.Bound.{Bound}
use Rattle.algolw_tree.specs.declared.phrases.Decl.{Decl}
use Rattle.algolw_tree.specs.declared.phrases.Item.{Item}
use Rattle.algolw_tree.specs.Grammar.{bounds_of, decls_of, items_of}
use Rattle.algolw_tree.specs.Tree as tree
use Rattle.algolw_tree.specs.View.{tree as phrase_tree, bound_tree, decl_tree, item_tree}
use Rattle.algolw_tree.proofs.Sizes.{size, size_items}
use Rattle.algolw_typing.specs.Rows.{bound_row}
use Rattle.algolw_typing.specs.Names.{Scope}
use Rattle.algolw_typing.specs.Scopes.{Known, Scopes}
use Rattle.algolw_typing.specs.Typing.{Out, faults, gives, bound_out, BoundsOut, decl_out, DeclOut, DeclsOut, no_more_bounds, no_more_decls, no_more_items, meanings, meanings_of, item_out, ItemsOut, first_token, has_labels, is_last, then_item, typed_phrase, typed_bounds, typed_decl, typed_decls, typed_items}
use Rattle.algolw_typing.specs.Types.{Statement}
use Rattle.algolw_typing.specs.Verdicts.{Verdict, Good, fault_of, two_parts}
use Rattle.typed_findings.specs.Findings.{found_of, found_of_bounds, found_of_decl, found_of_decls, found_of_items}
use Rattle.typed_findings.specs.declared.findings.Log.{Log}
use Rattle.declared_names.specs.Blocks.{BoundsFound, DeclFound, bounds_view, decl_bounds, each_bounds}
use Rattle.declared_names.specs.declared.blocks.Bounds.{Bounds}
use Rattle.declared_names.proofs.Placing.{next}
use Rattle.phrase_checker.specs.Checked.{BoundChecked, BoundsChecked, DeclsChecked, ItemChecked, ItemsChecked, end_of}
use Rattle.phrase_checker.proofs.Growth.{SoFar, as_well, at_last, turn}

-- ---- bounds

abbrev pub BoundsSoFar : (start now : Log) (whole rest : BoundsOut) → Type 0
BoundsSoFar start now whole rest = SoFar start now whole.inside rest.inside (found_of_bounds whole.bounds) (found_of_bounds rest.bounds)

-- the faults of the bounds of one dimension
abbrev bound_faults : Place → Out → Out → List Diagnostic
bound_faults p a b = faults a ++ faults b ++ fault_of (two_parts (gives a) (gives b) (bound_row p))

pub bounds_step : (path : Scopes) (whole : BoundsOut) (start : Log) (xs : List Bound) (i : ℕ) (x : Bound) (a b : Log) → i < length xs → x ≡ get_or xs i x
    → BoundChecked a b x.place (typed_phrase path (phrase_tree x.lower)) (typed_phrase path (phrase_tree x.upper))
    → BoundsSoFar start a whole (typed_bounds path (bounds_of (map bound_tree (drop i xs)))) → BoundsSoFar start b whole (typed_bounds path (bounds_of (map bound_tree (drop (i + 1) xs))))
bounds_step path whole start xs i x a b within is c h =
    let lower : Out = typed_phrase path (phrase_tree x.lower) in
    let upper : Out = typed_phrase path (phrase_tree x.upper) in
    let rest : BoundsOut = typed_bounds path (bounds_of (map bound_tree (drop i xs))) in
    let more : BoundsOut = typed_bounds path (bounds_of (map bound_tree (drop (i + 1) xs))) in
    let e : rest ≡ bound_out x.place lower upper more = ap (λ ys. typed_bounds path (bounds_of (map bound_tree ys))) (next xs i x within is) in
    turn start a b whole.inside rest.inside more.inside (bound_faults x.place lower upper) (found_of_bounds whole.bounds) (found_of_bounds rest.bounds) (found_of_bounds more.bounds) (found_of lower.node ++ found_of upper.node) h
    (ap (λ (o : BoundsOut). o.inside) e) (ap (λ (o : BoundsOut). found_of_bounds o.bounds) e) c

pub bounds_end : (path : Scopes) (xs : List Bound) (i : ℕ) (a b : Log) → length xs ≤ i → BoundsSoFar a b (typed_bounds path (bounds_of (map bound_tree xs))) (typed_bounds path (bounds_of (map bound_tree (drop i xs)))) → BoundsChecked a b (typed_bounds path (bounds_of (map bound_tree xs)))
bounds_end path xs i a b past h =
    let whole : BoundsOut = typed_bounds path (bounds_of (map bound_tree xs)) in
    let rest : BoundsOut = typed_bounds path (bounds_of (map bound_tree (drop i xs))) in
    let last : rest ≡ no_more_bounds = ap (λ ys. typed_bounds path (bounds_of (map bound_tree ys))) (drop_all i xs past) in
    at_last a b whole.inside rest.inside (found_of_bounds whole.bounds) (found_of_bounds rest.bounds) (ap (λ (o : BoundsOut). o.inside) last) (ap (λ (o : BoundsOut). found_of_bounds o.bounds) last) h

-- ---- declarations

abbrev pub DeclsSoFar : (start now : Log) (whole rest : DeclsOut) → Type 0
DeclsSoFar start now whole rest = SoFar start now whole.inside rest.inside (found_of_decls whole.decls) (found_of_decls rest.decls)

pub decls_step : (around path : Scopes) (whole : DeclsOut) (start : Log) (xs : List Decl) (i : ℕ) (x : Decl) (a b : Log) → i < length xs → x ≡ get_or xs i x → DeclFound a b (typed_decl around path (decl_tree x))
    → DeclsSoFar start a whole (typed_decls around path (decls_of (map decl_tree (drop i xs)))) → DeclsSoFar start b whole (typed_decls around path (decls_of (map decl_tree (drop (i + 1) xs))))
decls_step around path whole start xs i x a b within is c h =
    let o : DeclOut = typed_decl around path (decl_tree x) in
    let rest : DeclsOut = typed_decls around path (decls_of (map decl_tree (drop i xs))) in
    let more : DeclsOut = typed_decls around path (decls_of (map decl_tree (drop (i + 1) xs))) in
    let e : rest ≡ decl_out o more = ap (λ ys. typed_decls around path (decls_of (map decl_tree ys))) (next xs i x within is) in
    turn start a b whole.inside rest.inside more.inside o.inside (found_of_decls whole.decls) (found_of_decls rest.decls) (found_of_decls more.decls) (found_of_decl o.decl) h (ap (λ (q : DeclsOut). q.inside) e) (ap (λ (q : DeclsOut). found_of_decls q.decls) e)
    (record { faults = c.faults; findings = c.findings })

pub decls_end : (around path : Scopes) (ds : List Decl) (i : ℕ) (a b : Log) → length ds ≤ i → DeclsSoFar a b (typed_decls around path (decls_of (map decl_tree ds))) (typed_decls around path (decls_of (map decl_tree (drop i ds)))) → DeclsChecked a b (typed_decls around path (decls_of (map decl_tree ds)))
decls_end around path ds i a b past h =
    let whole : DeclsOut = typed_decls around path (decls_of (map decl_tree ds)) in
    let rest : DeclsOut = typed_decls around path (decls_of (map decl_tree (drop i ds))) in
    let last : rest ≡ no_more_decls = ap (λ ys. typed_decls around path (decls_of (map decl_tree ys))) (drop_all i ds past) in
    at_last a b whole.inside rest.inside (found_of_decls whole.decls) (found_of_decls rest.decls) (ap (λ (o : DeclsOut). o.inside) last) (ap (λ (o : DeclsOut). found_of_decls o.decls) last) h

-- ---- items

pub record ItemsSoFar (start now : Log) (whole rest : ItemsOut) : Type 0 where
  pub added : SoFar start now whole.inside rest.inside (found_of_items whole.items) (found_of_items rest.items)
  pub verdict : whole.verdict ≡ rest.verdict

items_turn : (path : Scopes) (whole : ItemsOut) (start : Log) (y : tree.Item) (rest : tree.Items) (last : Bool) (a b : Log) (before after v : Verdict) → last ≡ is_last rest → ItemChecked path last a b v y → after ≡ then_item before v
    → ItemsSoFar start a whole (typed_items path before (tree.item_and y rest)) → ItemsSoFar start b whole (typed_items path after rest)
items_turn path whole start (tree.Labelled labels p) rest last a b before after v at_end c n h =
    let o : Out = typed_phrase path p in
    let w : Bool → Verdict = λ l. end_of l (has_labels labels) (first_token p) o in
    let old : ItemsOut = typed_items path before (tree.item_and (tree.Labelled labels p) rest) in
    let more : ItemsOut = typed_items path after rest in
    let is : after ≡ then_item before (w last) = n ∙ ap (then_item before) c.verdict in
    let e : old ≡ item_out labels o (w last) more = ap (λ (l : Bool). item_out labels o (w l) (typed_items path (then_item before (w l)) rest)) (sym at_end) ∙ ap (λ (u : Verdict). item_out labels o (w last) (typed_items path u rest)) (sym is) in
    record {
      added = turn start a b whole.inside old.inside more.inside (faults o ++ fault_of (w last)) (found_of_items whole.items) (found_of_items old.items) (found_of_items more.items) (found_of o.node) h.added
          (ap (λ (q : ItemsOut). q.inside) e) (ap (λ (q : ItemsOut). found_of_items q.items) e)
          (as_well a b (faults o ++ fault_of v) (faults o ++ fault_of (w last)) (found_of o.node) (found_of o.node) (ap (λ (u : Verdict). faults o ++ fault_of u) c.verdict) refl c.added);
      verdict = h.verdict ∙ ap (λ (q : ItemsOut). q.verdict) e;
    }

pub items_step : (path : Scopes) (whole : ItemsOut) (start : Log) (xs : List Item) (i : ℕ) (x : Item) (last : Bool) (a b : Log) (before after v : Verdict) → i < length xs → x ≡ get_or xs i x → last ≡ is_last (items_of (map item_tree (drop (i + 1) xs)))
    → ItemChecked path last a b v (item_tree x) → after ≡ then_item before v
    → ItemsSoFar start a whole (typed_items path before (items_of (map item_tree (drop i xs)))) → ItemsSoFar start b whole (typed_items path after (items_of (map item_tree (drop (i + 1) xs))))
items_step path whole start xs i x last a b before after v within is at_end c n h =
    items_turn path whole start (item_tree x) (items_of (map item_tree (drop (i + 1) xs))) last a b before after v at_end c n (subst (λ ys. ItemsSoFar start a whole (typed_items path before (items_of (map item_tree ys)))) (next xs i x within is) h)

pub items_end : (path : Scopes) (xs : List Item) (i : ℕ) (a b : Log) (v : Verdict) → length xs ≤ i → ItemsSoFar a b (typed_items path (Good Statement) (items_of (map item_tree xs))) (typed_items path v (items_of (map item_tree (drop i xs))))
    → ItemsChecked a b v (typed_items path (Good Statement) (items_of (map item_tree xs)))
items_end path xs i a b v past h =
    let whole : ItemsOut = typed_items path (Good Statement) (items_of (map item_tree xs)) in
    let rest : ItemsOut = typed_items path v (items_of (map item_tree (drop i xs))) in
    let last : rest ≡ no_more_items v = ap (λ ys. typed_items path v (items_of (map item_tree ys))) (drop_all i xs past) in
    record {
      added = at_last a b whole.inside rest.inside (found_of_items whole.items) (found_of_items rest.items) (ap (λ (o : ItemsOut). o.inside) last) (ap (λ (o : ItemsOut). found_of_items o.items) last) h.added;
      verdict = sym (h.verdict ∙ ap (λ (o : ItemsOut). o.verdict) last);
    }

-- an item is smaller than all of them
abbrev pub phrase_in : tree.Item → tree.Phrase
phrase_in (tree.Labelled labels p) = p

pub size_item : (i : tree.Item) (is : tree.Items) → size_items (tree.item_and i is) ≡ suc (size (phrase_in i) + size_items is)
size_item (tree.Labelled labels p) is = refl

-- ---- what declarations make of their names, and their bounds, which are kept

pub meanings_step : (path names : Scopes) (start : Scope Known) (ds : List Decl) (i : ℕ) (d : Decl) (before after : Scope Known) → i < length ds → d ≡ get_or ds i d → after ≡ before ++ meanings_of path names (decl_tree d)
    → before ++ meanings path names (decls_of (map decl_tree (drop i ds))) ≡ start → after ++ meanings path names (decls_of (map decl_tree (drop (i + 1) ds))) ≡ start
meanings_step path names start ds i d before after within is e h =
    let rest : Scope Known = meanings path names (decls_of (map decl_tree (drop (i + 1) ds))) in
    ap (λ (s : Scope Known). s ++ rest) e ∙ append_assoc before (meanings_of path names (decl_tree d)) rest ∙ ap (λ ys. before ++ meanings path names (decls_of (map decl_tree ys))) (sym (next ds i d within is)) ∙ h

pub kept_step : (path : Scopes) (whole : List BoundsFound) (ds : List Decl) (i : ℕ) (d : Decl) (bs bs' : List Bounds) (b : Bounds) → i < length ds → d ≡ get_or ds i d → bs' ≡ bs ++ b ∷ [] → bounds_view b ≡ decl_bounds path (decl_tree d)
    → map bounds_view bs ++ each_bounds path (map decl_tree (drop i ds)) ≡ whole → map bounds_view bs' ++ each_bounds path (map decl_tree (drop (i + 1) ds)) ≡ whole
kept_step path whole ds i d bs bs' b within is e found h =
    let rest : List BoundsFound = each_bounds path (map decl_tree (drop (i + 1) ds)) in
    ap (λ (xs : List Bounds). map bounds_view xs ++ rest) e ∙ ap (λ (xs : List BoundsFound). xs ++ rest) (map-append bounds_view bs (b ∷ [])) ∙ append_assoc (map bounds_view bs) (bounds_view b ∷ []) rest
    ∙ ap (λ (x : BoundsFound). map bounds_view bs ++ x ∷ rest) found ∙ ap (λ ys. map bounds_view bs ++ each_bounds path (map decl_tree ys)) (sym (next ds i d within is)) ∙ h

abbrev rest_of : List BoundsFound → List BoundsFound
rest_of [] = []
rest_of (x ∷ xs) = xs

pub as_many : (path : Scopes) (bs : List Bounds) (ds : List Decl) → map bounds_view bs ≡ each_bounds path (map decl_tree ds) → length bs ≡ length ds
as_many path [] [] h = refl
as_many path [] (d ∷ ds) h = cc
as_many path (b ∷ bs) [] h = cc
as_many path (b ∷ bs) (d ∷ ds) h = ap suc (as_many path bs ds (ap rest_of h))

-- ---- declarations with their bounds

abbrev first_of : BoundsFound → List BoundsFound → BoundsFound
first_of o [] = o
first_of o (x ∷ xs) = x

-- the bounds of a declaration are found at its position
pub own_bounds : (around : Scopes) (bs : List Bounds) (ds : List Decl) (i : ℕ) (b : Bounds) (d : Decl) → i < length ds → map bounds_view bs ≡ each_bounds around (map decl_tree ds) → b ≡ get_or bs i b → d ≡ get_or ds i d → bounds_view b ≡ decl_bounds around (decl_tree d)
own_bounds around bs [] i b d within e at_b at_d = absurd (omega (arith, within))
own_bounds around [] (y ∷ ds) i b d within e at_b at_d = cc
own_bounds around (x ∷ bs) (y ∷ ds) zero b d within e at_b at_d = ap bounds_view at_b ∙ ap (first_of (bounds_view x)) e ∙ ap (λ (z : Decl). decl_bounds around (decl_tree z)) (sym at_d)
own_bounds around (x ∷ bs) (y ∷ ds) (suc i) b d within e at_b at_d = own_bounds around bs ds i b d (omega (arith, within)) (ap rest_of e) at_b at_d

drop_count : (xs : List Item) (j : ℕ) → j ≤ length xs → length (drop j xs) + j ≡ length xs
drop_count xs zero h = omega arith
drop_count [] (suc j) h = absurd (omega (arith, h))
drop_count (x ∷ xs) (suc j) h = omega (arith, drop_count xs j (omega (arith, h)))

at_end : (ys : List Item) (j n : ℕ) → length ys + j ≡ n → nat_eq j n ≡ is_last (items_of (map item_tree ys))
at_end [] j n h = eq-eqb j n (omega (arith, h))
at_end (y ∷ ys) j n h = ne_eqb j n (λ e. omega (arith, h, e))

-- an item is the last where none is behind it
pub last_item : (xs : List Item) (i : ℕ) (last : Bool) → i < length xs → last ≡ nat_eq (i + 1) (length xs) → last ≡ is_last (items_of (map item_tree (drop (i + 1) xs)))
last_item xs i last within h = h ∙ at_end (drop (i + 1) xs) (i + 1) (length xs) (drop_count xs (i + 1) (omega (arith, within)))
