-- What is made in boxes, read at what it was made of.
use Rattle.std.proofs.Common.{◌≡◌, ℕ, List, [], ◌∷◌, Option, map, refl, sym, ap, length, ◌++◌, ◌∙◌}
use Rattle.std.specs.declared.vec.Vec.{Vec}
use Rattle.std.specs.declared.alloc.Global.{Global}
use Rattle.std.specs.declared.boxed.Box.{Box}
use Rattle.algolw_tree.specs.declared.phrases.Phrase.{Phrase}
use Rattle.algolw_tree.specs.declared.phrases.Link.{Link}
use Rattle.algolw_tree.specs.declared.phrases.List as list
use Rattle.algolw_tree.specs.declared.phrases.ListKind.{Actuals}
use Rattle.algolw_tree.specs.declared.phrases.Actual.{Actual}
use Rattle.value_ops.specs.declared.places.Place.{Place}
use Rattle.algolw_tree.specs.declared.phrases.Listed.{Listed, out-Listed, roll-Listed, out-roll-Listed}
use Rattle.algolw_tree.specs.declared.phrases.Chain.{Chain, out-Chain, roll-Chain, out-roll-Chain}
use Rattle.algolw_tree.specs.declared.phrases.Conditional.{Conditional, out-Conditional, roll-Conditional, out-roll-Conditional}
use Rattle.algolw_tree.specs.declared.phrases.CaseValue.{CaseValue, out-CaseValue, roll-CaseValue, out-roll-CaseValue}
use Rattle.algolw_tree.specs.declared.phrases.ForStep.{ForStep, out-ForStep, roll-ForStep, out-roll-ForStep}
use Rattle.algolw_tree.specs.declared.phrases.ForList.{ForList, out-ForList, roll-ForList, out-roll-ForList}
use Rattle.algolw_tree.specs.Tree as Tree
use Rattle.algolw_tree.specs.Grammar.{at, first_of, named_of, chain_of, actuals_of, lists_of, links_of, phrases_of}
use Rattle.algolw_tree.specs.View.{tree, actual_tree, list_tree, link_tree, optional_tree, listed_tree, chain_tree, conditional_tree, case_value_tree, for_step_tree, for_list_tree}
use Rattle.algolw_tree.proofs.Rows.{actuals_at, listed_is, chain_is, conditional_is, case_value_is, for_step_is, for_list_is}

pub listed_made : (l : Listed) (n : List ℕ) (v : Vec list.List Global) → l ≡ roll-Listed (record { name = n; lists = v }) → listed_tree l ≡ Tree.Named n (lists_of (map list_tree v.items))
listed_made l n v e = listed_is l ∙ ap (λ f. Tree.Named f.name (lists_of (map list_tree f.lists.items))) (ap out-Listed e ∙ out-roll-Listed _)

-- a name with one list, of actuals, which was the last of its lists
pub named_applied : (n s : List ℕ) (p : Place) (ls before : List list.List) (last : list.List) (opening : Place) (v : Vec Actual Global)
    → s ≡ n → ls ≡ before ++ last ∷ [] → length before ≡ 0 → last.place ≡ opening → last.kind ≡ Actuals v
    → named_of ((s, p), Tree.OfActuals opening (actuals_of (map actual_tree v.items)) ∷ []) ≡ named_of ((n, p), map list_tree ls)
named_applied n s p ls [] last opening v same popped none there kind =
    ap (λ z. named_of ((z, p), Tree.OfActuals opening (actuals_of (map actual_tree v.items)) ∷ [])) same
    ∙ ap (λ q. named_of ((n, p), Tree.OfActuals q (actuals_of (map actual_tree v.items)) ∷ [])) (sym there)
    ∙ ap (λ z. named_of ((n, p), z ∷ [])) (sym (actuals_at last.place last.kind v v.items kind refl))
    ∙ ap (λ zs. named_of ((n, p), map list_tree zs)) (sym popped)
named_applied n s p ls (l ∷ before) last opening v same popped some there kind = absurd (cc some)

links_chain : (x : Tree.Phrase) (ls : List Link) → (length ls ≡ 0 → ⊥) → at (first_of x) (Tree.Chain x (links_of (map link_tree ls))) ≡ chain_of (x, map link_tree ls)
links_chain x [] h = absurd (h refl)
links_chain x (l ∷ ls) h = refl

pub chain_made : (c : Chain) (x y : Phrase) (v : Vec Link Global) → c ≡ roll-Chain (record { first = x; links = v }) → x ≡ y → (length v.items ≡ 0 → ⊥) → at y.first (chain_tree c) ≡ chain_of (tree y, map link_tree v.items)
chain_made c x y v e same some =
    ap (at y.first) (chain_is c ∙ ap (λ f. Tree.Chain (tree f.first) (links_of (map link_tree f.links.items))) (ap out-Chain e ∙ out-roll-Chain _) ∙ ap (λ z. Tree.Chain (tree z) (links_of (map link_tree v.items))) same)
    ∙ links_chain (tree y) v.items some

pub conditional_made : (c : Conditional) (x y z w : Phrase) (o : Option (Box Phrase Global)) → c ≡ roll-Conditional (record { condition = x; then = y; otherwise = o }) → x ≡ z → y ≡ w → conditional_tree c ≡ Tree.IfThen (tree z) (tree w) (optional_tree o)
conditional_made c x y z w o e e1 e2 =
    conditional_is c ∙ ap (λ f. Tree.IfThen (tree f.condition) (tree f.then) (optional_tree f.otherwise)) (ap out-Conditional e ∙ out-roll-Conditional _)
    ∙ ap (λ p. Tree.IfThen (tree p) (tree y) (optional_tree o)) e1 ∙ ap (λ p. Tree.IfThen (tree z) (tree p) (optional_tree o)) e2

pub case_value_made : (c : CaseValue) (x y : Phrase) (v : Vec Phrase Global) → c ≡ roll-CaseValue (record { selector = x; values = v }) → x ≡ y → case_value_tree c ≡ Tree.CaseValue (tree y) (phrases_of (map tree v.items))
case_value_made c x y v e same =
    case_value_is c ∙ ap (λ f. Tree.CaseValue (tree f.selector) (phrases_of (map tree f.values.items))) (ap out-CaseValue e ∙ out-roll-CaseValue _)
    ∙ ap (λ z. Tree.CaseValue (tree z) (phrases_of (map tree v.items))) same

pub for_step_made : (l : ForStep) (n : List ℕ) (x y z v w : Phrase) (o : Option (Box Phrase Global)) → l ≡ roll-ForStep (record { name = n; start = x; step = o; limit = y; body = z }) → y ≡ v → z ≡ w
    → for_step_tree l ≡ Tree.ForStep n (tree x) (optional_tree o) (tree v) (tree w)
for_step_made l n x y z v w o e e1 e2 =
    for_step_is l ∙ ap (λ f. Tree.ForStep f.name (tree f.start) (optional_tree f.step) (tree f.limit) (tree f.body)) (ap out-ForStep e ∙ out-roll-ForStep _)
    ∙ ap (λ p. Tree.ForStep n (tree x) (optional_tree o) (tree p) (tree z)) e1 ∙ ap (λ p. Tree.ForStep n (tree x) (optional_tree o) (tree v) (tree p)) e2

pub for_list_made : (l : ForList) (n : List ℕ) (v : Vec Phrase Global) (x y : Phrase) → l ≡ roll-ForList (record { name = n; values = v; body = x }) → x ≡ y → for_list_tree l ≡ Tree.ForList n (phrases_of (map tree v.items)) (tree y)
for_list_made l n v x y e same =
    for_list_is l ∙ ap (λ f. Tree.ForList f.name (phrases_of (map tree f.values.items)) (tree f.body)) (ap out-ForList e ∙ out-roll-ForList _)
    ∙ ap (λ z. Tree.ForList n (phrases_of (map tree v.items)) (tree z)) same
