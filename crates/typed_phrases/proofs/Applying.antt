-- Which phrases are a name with one list of subscripts, fields or actuals behind it.
use Rattle.std.proofs.Common.{◌≡◌, ℕ, true, false, List, [], ◌∷◌, length, get_or, map, refl, sym, ap, ◌∙◌, arith}
use Rattle.std.specs.declared.boxed.Box.{Box}
use Rattle.std.specs.declared.vec.Vec.{Vec}
use Rattle.std.specs.declared.alloc.Global.{Global}
use Rattle.value_ops.specs.declared.places.Place.{Place}
use Rattle.algolw_tree.specs.declared.phrases.Actual.{Actual}
use Rattle.algolw_tree.specs.declared.phrases.Applied.{Applied}
use Rattle.algolw_tree.specs.declared.phrases.CaseValue.{CaseValue' as case_value}
use Rattle.algolw_tree.specs.declared.phrases.Chain.{Chain' as chain}
use Rattle.algolw_tree.specs.declared.phrases.Conditional.{Conditional'}
use Rattle.algolw_tree.specs.declared.phrases.ForList.{ForList' as for_list}
use Rattle.algolw_tree.specs.declared.phrases.ForStep.{ForStep' as for_step}
use Rattle.algolw_tree.specs.declared.phrases.Kind as code
use Rattle.algolw_tree.specs.declared.phrases.Kind.{Kind, out-Kind, roll-Kind}
use Rattle.algolw_tree.specs.declared.phrases.List as list
use Rattle.algolw_tree.specs.declared.phrases.Listed.{Listed, out-Listed}
use Rattle.algolw_tree.specs.declared.phrases.ListKind as list_kind
use Rattle.algolw_tree.specs.declared.phrases.ListKind.{ListKind, out-ListKind, roll-ListKind}
use Rattle.algolw_tree.specs.Grammar.{actuals_of, lists_of}
use Rattle.algolw_tree.specs.Tree as tree
use Rattle.algolw_tree.specs.View.{actual_tree, kind_tree, list_tree, listed_tree, listing_tree}
use Rattle.typed_phrases.specs.Applications.{is_application}
use Rattle.algolw_tree.proofs.Rows.{actuals_at, applied_at, listed_is}

-- ---- by the lists behind a name

single : (xs : List list.List) (y : list.List) → length xs ≡ 1 → y ≡ get_or xs 0 y → xs ≡ y ∷ []
single [] y h i = absurd (omega (arith, h))
single (z ∷ []) y h i = ap (λ (q : list.List). q ∷ []) (sym i)
single (z ∷ z2 ∷ zs) y h i = absurd (omega (arith, h))

-- one that is no substring list
pub one_list : (l : Listed) (y : list.List) (v : Vec Actual Global) (actuals : List Actual) → length (out-Listed l).lists.items ≡ 1 → y ≡ get_or (out-Listed l).lists.items 0 y → y.kind ≡ list_kind.Actuals v → actuals ≡ v.items
    → listed_tree l ≡ tree.Named (out-Listed l).name (tree.list_and (tree.OfActuals y.place (actuals_of (map actual_tree actuals))) tree.no_lists)
one_list l y v actuals one here kind held =
    listed_is l ∙ ap (λ (ys : List list.List). tree.Named (out-Listed l).name (lists_of (map list_tree ys))) (single (out-Listed l).lists.items y one here)
    ∙ ap (λ (z : tree.Listing). tree.Named (out-Listed l).name (tree.list_and z tree.no_lists)) (actuals_at y.place y.kind v actuals kind held)

two_lists : (x : List ℕ) (l m : tree.Listing) (lists : tree.Lists) → is_application (tree.Named x (tree.list_and l (tree.list_and m lists))) ≡ false
two_lists x (tree.OfActuals q _) m lists = refl
two_lists x (tree.OfPart q a n) m lists = refl

not_one : (x : List ℕ) (xs : List list.List) → (length xs ≡ 1 → ⊥) → is_application (tree.Named x (lists_of (map list_tree xs))) ≡ false
not_one x [] h = refl
not_one x (y ∷ []) h = absurd (h refl)
not_one x (y ∷ z ∷ zs) h = two_lists x (list_tree y) (list_tree z) (lists_of (map list_tree zs))

-- none, or more than one
pub other_lists : (l : Listed) → (length (out-Listed l).lists.items ≡ 1 → ⊥) → is_application (listed_tree l) ≡ false
other_lists l h = ap is_application (listed_is l) ∙ not_one (out-Listed l).name (out-Listed l).lists.items h

part_alone : (x : List ℕ) (p : Place) (k : ListKind) → ((v : Vec Actual Global) → k ≡ list_kind.Actuals v → ⊥) → is_application (tree.Named x (tree.list_and (listing_tree p k) tree.no_lists)) ≡ false
unfolding out-ListKind roll-ListKind denote.Hole.Carrier.out denote.Hole.Carrier.roll
part_alone x p (list_kind.Actuals' shape actuals) h = absurd (h _ (sym (list_kind.roll-out-ListKind (list_kind.Actuals' shape actuals))))
part_alone x p (list_kind.Part' q place first kind n) h = refl

-- a substring list alone
pub part_list : (l : Listed) (y : list.List) → length (out-Listed l).lists.items ≡ 1 → y ≡ get_or (out-Listed l).lists.items 0 y → ((v : Vec Actual Global) → y.kind ≡ list_kind.Actuals v → ⊥) → is_application (listed_tree l) ≡ false
part_list l y one here h =
    ap is_application (listed_is l ∙ ap (λ (ys : List list.List). tree.Named (out-Listed l).name (lists_of (map list_tree ys))) (single (out-Listed l).lists.items y one here))
    ∙ part_alone (out-Listed l).name y.place y.kind h

-- ---- by the kind of a phrase

pub no_application : (k : Kind) → ((b : Box Applied Global) → k ≡ code.Applied b → ⊥) → ((b : Box Listed Global) → k ≡ code.Listed b → ⊥) → is_application (kind_tree k) ≡ false
unfolding out-Kind roll-Kind denote.Hole.Carrier.out denote.Hole.Carrier.roll
no_application (code.Applied' q n place shape actuals) applied listed = absurd (applied _ (sym (code.roll-out-Kind (code.Applied' q n place shape actuals))))
no_application (code.Listed' q l) applied listed = absurd (listed (record { ptr = q.ptr; alloc = q.alloc; value = l }) refl)
no_application (code.Chain' q (chain place first kind shape links)) applied listed = refl
no_application (code.IfThen' q (Conditional' place first kind place2 first2 kind2 otherwise)) applied listed = refl
no_application (code.CaseValue' q (case_value place first kind shape values)) applied listed = refl
no_application (code.ForStep' q (for_step n place first kind step place2 first2 kind2 place3 first3 kind3)) applied listed = refl
no_application (code.ForList' q (for_list n shape values place first kind)) applied listed = refl
no_application k applied listed = refl

pub no_applied : (k : Kind) → is_application (kind_tree k) ≡ false → (b : Box Applied Global) → k ≡ code.Applied b → ⊥
no_applied k h b is = let e : true ≡ false = ap is_application (sym (applied_at k b b.value is refl)) ∙ h in cc
