-- What a tree has in its rows, read at the vectors' items.
use Rattle.std.proofs.Common.{◌≡◌, ℕ, List, map, refl, sym, ap, ◌∙◌}
use Rattle.std.specs.declared.vec.Vec.{Vec}
use Rattle.std.specs.declared.alloc.Global.{Global}
use Rattle.std.specs.declared.boxed.Box.{Box}
use Rattle.algolw_tree.specs.declared.phrases.Phrase.{Phrase}
use Rattle.algolw_tree.specs.declared.phrases.Link.{Link}
use Rattle.algolw_tree.specs.declared.phrases.List as list
use Rattle.algolw_tree.specs.declared.phrases.Part.{Part}
use Rattle.algolw_tree.specs.declared.phrases.Item.{Item}
use Rattle.algolw_tree.specs.declared.phrases.Actual.{Actual}
use Rattle.algolw_tree.specs.declared.phrases.Bound.{Bound}
use Rattle.algolw_tree.specs.declared.phrases.Actual.TheBlock.{hidden-the_row-Bound-0, hidden-the_row-List-7, hidden-the_row-Link-6, hidden-the_row-Phrase-5, hidden-the_row-Part-2, hidden-the_row-Decl-3, hidden-the_row-Item-4, hidden-the_row-Actual-1, items_hidden-the_row-Bound-0, items_hidden-the_row-List-7, items_hidden-the_row-Link-6, items_hidden-the_row-Phrase-5, items_hidden-the_row-Part-2, items_hidden-the_row-Decl-3, items_hidden-the_row-Item-4, items_hidden-the_row-Actual-1}
use Rattle.algolw_tree.specs.declared.phrases.Kind.{Kind, Applied as an_applied, Listed as a_listed, Chain as a_chain, Relation as a_relation, IsClass, Assign, WhileDo, IfThen, CaseValue as a_case_value, CaseDo as a_case_do, ForStep as a_for_step, ForList as a_for_list, Block as a_block}
use Rattle.algolw_tree.specs.declared.phrases.Applied.{Applied}
use Rattle.algolw_tree.specs.declared.phrases.Relation.{Relation}
use Rattle.algolw_tree.specs.declared.phrases.Assignment.{Assignment}
use Rattle.algolw_tree.specs.declared.phrases.Repetition.{Repetition}
use Rattle.algolw_tree.specs.declared.phrases.Listed.{Listed, out-Listed, roll-Listed, roll-out-Listed, Row_of-List, end_of-List, more_of-List, items-the_row-List}
use Rattle.algolw_tree.specs.declared.phrases.Chain.{Chain, out-Chain, roll-Chain, roll-out-Chain, Row_of-Link, end_of-Link, more_of-Link, items-the_row-Link}
use Rattle.algolw_tree.specs.declared.phrases.Conditional.{Conditional, Conditional', out-Conditional, Some', None'}
use Rattle.algolw_tree.specs.declared.phrases.CaseValue.{CaseValue, out-CaseValue, roll-CaseValue, roll-out-CaseValue, Row_of-Phrase, end_of-Phrase, more_of-Phrase, items-the_row-Phrase}
use Rattle.algolw_tree.specs.declared.phrases.CaseDo.{CaseDo, Row_of-Part, end_of-Part, more_of-Part, items-the_row-Part}
use Rattle.algolw_tree.specs.declared.phrases.ClassTest.{ClassTest}
use Rattle.algolw_tree.specs.declared.phrases.ForStep.{ForStep, ForStep', out-ForStep}
use Rattle.algolw_tree.specs.declared.phrases.ForList.{ForList, out-ForList, roll-ForList, roll-out-ForList}
use Rattle.algolw_tree.specs.declared.phrases.Block.{Block, Row_of-Item, end_of-Item, more_of-Item, items-the_row-Item, Row_of-Decl, end_of-Decl, more_of-Decl, items-the_row-Decl}
use Rattle.algolw_tree.specs.declared.phrases.ListKind.{ListKind, Actuals, Row_of-Actual, end_of-Actual, more_of-Actual, items-the_row-Actual}
use Rattle.algolw_tree.specs.declared.phrases.Decl.{Decl, Array, Row_of-Bound, end_of-Bound, more_of-Bound, items-the_row-Bound}
use Rattle.algolw_tree.specs.Tree as Tree
use Rattle.value_ops.specs.declared.places.Place.{Place}
use Rattle.algolw_tree.specs.declared.phrases.TypeSpec.{TypeSpec}
use Rattle.algolw_tree.specs.Grammar.{phrases_of, links_of, lists_of, actuals_of, items_of, decls_of, bounds_of}
use Rattle.algolw_tree.specs.View.{tree, kind_tree, spec_tree, phrases_tree, links_tree, lists_tree, listing_tree, actuals_tree, parts_tree, items_tree, decls_tree, bounds_tree, link_tree, list_tree, actual_tree, part_tree, item_tree, decl_tree, bound_tree, optional_tree, applied_tree, listed_tree, chain_tree, relation_tree, assignment_tree, repetition_tree, conditional_tree, case_value_tree, for_step_tree, for_list_tree, class_test_tree, case_do_tree, block_tree}

pub phrases_row : (n : _) (r : Row_of-Phrase n) → phrases_tree r ≡ phrases_of (map tree (items-the_row-Phrase n r))
phrases_row n end_of-Phrase = refl
phrases_row n (more_of-Phrase place first kind r) = ap (Tree.phrase_and (Tree.At place first (kind_tree kind))) (phrases_row _ r)

pub links_row : (n : _) (r : Row_of-Link n) → links_tree r ≡ links_of (map link_tree (items-the_row-Link n r))
links_row n end_of-Link = refl
links_row n (more_of-Link op place right_place first kind r) = ap (Tree.link_and (Tree.Linked op place (Tree.At right_place first (kind_tree kind)))) (links_row _ r)

pub lists_row : (n : _) (r : Row_of-List n) → lists_tree r ≡ lists_of (map list_tree (items-the_row-List n r))
lists_row n end_of-List = refl
lists_row n (more_of-List place kind r) = ap (Tree.list_and (listing_tree place kind)) (lists_row _ r)

pub actuals_row : (n : _) (r : Row_of-Actual n) → actuals_tree r ≡ actuals_of (map actual_tree (items-the_row-Actual n r))
actuals_row n end_of-Actual = refl
actuals_row n (more_of-Actual actual r) = ap (Tree.actual_and (actual_tree actual)) (actuals_row _ r)

pub items_row : (n : _) (r : Row_of-Item n) → items_tree r ≡ items_of (map item_tree (items-the_row-Item n r))
items_row n end_of-Item = refl
items_row n (more_of-Item item r) = ap (Tree.item_and (item_tree item)) (items_row _ r)

pub parts_row : (n : _) (r : Row_of-Part n) → parts_tree r ≡ phrases_of (map part_tree (items-the_row-Part n r))
parts_row n end_of-Part = refl
parts_row n (more_of-Part part r) = ap (Tree.phrase_and (part_tree part)) (parts_row _ r)

pub decls_row : (n : _) (r : Row_of-Decl n) → decls_tree r ≡ decls_of (map decl_tree (items-the_row-Decl n r))
decls_row n end_of-Decl = refl
decls_row n (more_of-Decl decl r) = ap (Tree.decl_and (decl_tree decl)) (decls_row _ r)

pub bounds_row : (n : _) (r : Row_of-Bound n) → bounds_tree r ≡ bounds_of (map bound_tree (items-the_row-Bound n r))
bounds_row n end_of-Bound = refl
bounds_row n (more_of-Bound place lower_place lower_first lower upper_place upper_first upper r) =
    ap (Tree.bound_and (Tree.Between place (Tree.At lower_place lower_first (kind_tree lower)) (Tree.At upper_place upper_first (kind_tree upper)))) (bounds_row _ r)

pub vec_phrases : (v : Vec Phrase Global) → phrases_tree (hidden-the_row-Phrase-5 v) ≡ phrases_of (map tree v.items)
vec_phrases v = phrases_row _ (hidden-the_row-Phrase-5 v) ∙ ap (λ xs. phrases_of (map tree xs)) (items_hidden-the_row-Phrase-5 v)

pub vec_links : (v : Vec Link Global) → links_tree (hidden-the_row-Link-6 v) ≡ links_of (map link_tree v.items)
vec_links v = links_row _ (hidden-the_row-Link-6 v) ∙ ap (λ xs. links_of (map link_tree xs)) (items_hidden-the_row-Link-6 v)

pub vec_lists : (v : Vec list.List Global) → lists_tree (hidden-the_row-List-7 v) ≡ lists_of (map list_tree v.items)
vec_lists v = lists_row _ (hidden-the_row-List-7 v) ∙ ap (λ xs. lists_of (map list_tree xs)) (items_hidden-the_row-List-7 v)

pub vec_actuals : (v : Vec Actual Global) → actuals_tree (hidden-the_row-Actual-1 v) ≡ actuals_of (map actual_tree v.items)
vec_actuals v = actuals_row _ (hidden-the_row-Actual-1 v) ∙ ap (λ xs. actuals_of (map actual_tree xs)) (items_hidden-the_row-Actual-1 v)

pub vec_items : (v : Vec Item Global) → items_tree (hidden-the_row-Item-4 v) ≡ items_of (map item_tree v.items)
vec_items v = items_row _ (hidden-the_row-Item-4 v) ∙ ap (λ xs. items_of (map item_tree xs)) (items_hidden-the_row-Item-4 v)

pub vec_parts : (v : Vec Part Global) → parts_tree (hidden-the_row-Part-2 v) ≡ phrases_of (map part_tree v.items)
vec_parts v = parts_row _ (hidden-the_row-Part-2 v) ∙ ap (λ xs. phrases_of (map part_tree xs)) (items_hidden-the_row-Part-2 v)

pub vec_decls : (v : Vec Decl Global) → decls_tree (hidden-the_row-Decl-3 v) ≡ decls_of (map decl_tree v.items)
vec_decls v = decls_row _ (hidden-the_row-Decl-3 v) ∙ ap (λ xs. decls_of (map decl_tree xs)) (items_hidden-the_row-Decl-3 v)

pub vec_bounds : (v : Vec Bound Global) → bounds_tree (hidden-the_row-Bound-0 v) ≡ bounds_of (map bound_tree v.items)
vec_bounds v = bounds_row _ (hidden-the_row-Bound-0 v) ∙ ap (λ xs. bounds_of (map bound_tree xs)) (items_hidden-the_row-Bound-0 v)

-- what stands in a box, read at its fields
pub listed_is : (l : Listed) → listed_tree l ≡ Tree.Named (out-Listed l).name (lists_of (map list_tree (out-Listed l).lists.items))
unfolding roll-Listed denote.Hole.Carrier.roll
listed_is l = ap listed_tree (sym (roll-out-Listed l)) ∙ ap (Tree.Named (out-Listed l).name) (vec_lists (out-Listed l).lists)

pub chain_is : (c : Chain) → chain_tree c ≡ Tree.Chain (tree (out-Chain c).first) (links_of (map link_tree (out-Chain c).links.items))
unfolding roll-Chain denote.Hole.Carrier.roll
chain_is c = ap chain_tree (sym (roll-out-Chain c)) ∙ ap (Tree.Chain (tree (out-Chain c).first)) (vec_links (out-Chain c).links)

pub conditional_is : (c : Conditional) → conditional_tree c ≡ Tree.IfThen (tree (out-Conditional c).condition) (tree (out-Conditional c).then) (optional_tree (out-Conditional c).otherwise)
unfolding out-Conditional denote.Hole.Carrier.out
conditional_is (Conditional' p f k p2 f2 k2 None') = refl
conditional_is (Conditional' p f k p2 f2 k2 (Some' q p3 f3 k3)) = refl

pub case_value_is : (c : CaseValue) → case_value_tree c ≡ Tree.CaseValue (tree (out-CaseValue c).selector) (phrases_of (map tree (out-CaseValue c).values.items))
unfolding roll-CaseValue denote.Hole.Carrier.roll
case_value_is c = ap case_value_tree (sym (roll-out-CaseValue c)) ∙ ap (Tree.CaseValue (tree (out-CaseValue c).selector)) (vec_phrases (out-CaseValue c).values)

pub for_step_is : (l : ForStep) → for_step_tree l ≡ Tree.ForStep (out-ForStep l).name (tree (out-ForStep l).start) (optional_tree (out-ForStep l).step) (tree (out-ForStep l).limit) (tree (out-ForStep l).body)
unfolding out-ForStep denote.Hole.Carrier.out
for_step_is (ForStep' n p f k None' p2 f2 k2 p3 f3 k3) = refl
for_step_is (ForStep' n p f k (Some' q p4 f4 k4) p2 f2 k2 p3 f3 k3) = refl

pub for_list_is : (l : ForList) → for_list_tree l ≡ Tree.ForList (out-ForList l).name (phrases_of (map tree (out-ForList l).values.items)) (tree (out-ForList l).body)
unfolding roll-ForList denote.Hole.Carrier.roll
for_list_is l = ap for_list_tree (sym (roll-out-ForList l)) ∙ ap (λ xs. Tree.ForList (out-ForList l).name xs (tree (out-ForList l).body)) (vec_phrases (out-ForList l).values)

-- a phrase's kind that is a box of one of these
pub applied_at : (k : Kind) (b : Box Applied Global) (a : Applied) → k ≡ an_applied b → a ≡ b.value → kind_tree k ≡ applied_tree a
applied_at k b a is held =
    ap kind_tree is ∙ ap (λ xs. Tree.Named b.value.name (Tree.list_and (Tree.OfActuals b.value.place xs) Tree.no_lists)) (vec_actuals b.value.actuals)
    ∙ ap applied_tree (sym held)

pub relation_at : (k : Kind) (b : Box Relation Global) (r : Relation) → k ≡ a_relation b → r ≡ b.value → kind_tree k ≡ relation_tree r
relation_at k b r is held = ap kind_tree is ∙ ap relation_tree (sym held)

pub assignment_at : (k : Kind) (b : Box Assignment Global) (a : Assignment) → k ≡ Assign b → a ≡ b.value → kind_tree k ≡ assignment_tree a
assignment_at k b a is held = ap kind_tree is ∙ ap assignment_tree (sym held)

pub repetition_at : (k : Kind) (b : Box Repetition Global) (r : Repetition) → k ≡ WhileDo b → r ≡ b.value → kind_tree k ≡ repetition_tree r
repetition_at k b r is held = ap kind_tree is ∙ ap repetition_tree (sym held)

pub listed_at : (k : Kind) (b : Box Listed Global) (l : Listed) → k ≡ a_listed b → l ≡ b.value → kind_tree k ≡ listed_tree l
listed_at k b l is held = ap kind_tree is ∙ ap listed_tree (sym held)

pub chain_at : (k : Kind) (b : Box Chain Global) (c : Chain) → k ≡ a_chain b → c ≡ b.value → kind_tree k ≡ chain_tree c
chain_at k b c is held = ap kind_tree is ∙ ap chain_tree (sym held)

pub conditional_at : (k : Kind) (b : Box Conditional Global) (c : Conditional) → k ≡ IfThen b → c ≡ b.value → kind_tree k ≡ conditional_tree c
conditional_at k b c is held = ap kind_tree is ∙ ap conditional_tree (sym held)

pub class_test_at : (k : Kind) (b : Box ClassTest Global) (t : ClassTest) → k ≡ IsClass b → t ≡ b.value → kind_tree k ≡ class_test_tree t
class_test_at k b t is held = ap kind_tree is ∙ ap class_test_tree (sym held)

pub case_value_at : (k : Kind) (b : Box CaseValue Global) (c : CaseValue) → k ≡ a_case_value b → c ≡ b.value → kind_tree k ≡ case_value_tree c
case_value_at k b c is held = ap kind_tree is ∙ ap case_value_tree (sym held)

pub case_do_at : (k : Kind) (b : Box CaseDo Global) (c : CaseDo) → k ≡ a_case_do b → c ≡ b.value → kind_tree k ≡ case_do_tree c
case_do_at k b c is held = ap kind_tree is ∙ ap (Tree.CaseDo (tree b.value.selector)) (vec_parts b.value.parts) ∙ ap case_do_tree (sym held)

pub for_step_at : (k : Kind) (b : Box ForStep Global) (l : ForStep) → k ≡ a_for_step b → l ≡ b.value → kind_tree k ≡ for_step_tree l
for_step_at k b l is held = ap kind_tree is ∙ ap for_step_tree (sym held)

pub for_list_at : (k : Kind) (b : Box ForList Global) (l : ForList) → k ≡ a_for_list b → l ≡ b.value → kind_tree k ≡ for_list_tree l
for_list_at k b l is held = ap kind_tree is ∙ ap for_list_tree (sym held)

pub block_at : (k : Kind) (b : Box Block Global) (block : Block) → k ≡ a_block b → block ≡ b.value → kind_tree k ≡ block_tree block
block_at k b block is held =
    ap kind_tree is ∙ ap (λ zs. Tree.Block zs (items_tree (hidden-the_row-Item-4 b.value.items))) (vec_decls b.value.decls)
    ∙ ap (Tree.Block (decls_of (map decl_tree b.value.decls.items))) (vec_items b.value.items) ∙ ap block_tree (sym held)

-- where the declarations and the items are handed on
pub block_parts_at : (k : Kind) (b : Box Block Global) (x y : Block) (decls : List Decl) (items : List Item) → k ≡ a_block b → x ≡ b.value → y ≡ b.value → decls ≡ x.decls.items → items ≡ y.items.items
    → kind_tree k ≡ Tree.Block (decls_of (map decl_tree decls)) (items_of (map item_tree items))
block_parts_at k b x y decls items is held_x held_y of_x of_y =
    block_at k b y is held_y ∙ ap (λ (z : Block). Tree.Block (decls_of (map decl_tree z.decls.items)) (items_of (map item_tree y.items.items))) (held_y ∙ sym held_x)
    ∙ ap (λ (ds : List Decl). Tree.Block (decls_of (map decl_tree ds)) (items_of (map item_tree y.items.items))) (sym of_x)
    ∙ ap (λ (its : List Item). Tree.Block (decls_of (map decl_tree decls)) (items_of (map item_tree its))) (sym of_y)

pub actuals_at : (p : Place) (k : ListKind) (v : Vec Actual Global) (xs : List Actual) → k ≡ Actuals v → xs ≡ v.items → listing_tree p k ≡ Tree.OfActuals p (actuals_of (map actual_tree xs))
actuals_at p k v xs e e1 = ap (listing_tree p) e ∙ ap (Tree.OfActuals p) (vec_actuals v ∙ ap (λ ys. actuals_of (map actual_tree ys)) (sym e1))

pub array_at : (d : Decl) (s : TypeSpec) (ns : Vec (List ℕ × Place) Global) (v : Vec Bound Global) (xs : List Bound) → d ≡ Array s ns v → xs ≡ v.items → decl_tree d ≡ Tree.Array (spec_tree s) ns.items (bounds_of (map bound_tree xs))
array_at d s ns v xs e e1 = ap decl_tree e ∙ ap (Tree.Array (spec_tree s) ns.items) (vec_bounds v ∙ ap (λ ys. bounds_of (map bound_tree ys)) (sym e1))
