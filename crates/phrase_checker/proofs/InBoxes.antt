-- What a phrase is whose kind stands in a box, read at what is handed on of that.
use Rattle.std.proofs.Common.{◌≡◌, List, map, sym, ap, ◌∙◌}
use Rattle.std.specs.declared.boxed.Box.{Box}
use Rattle.std.specs.declared.alloc.Global.{Global}
use Rattle.algolw_tree.specs.declared.phrases.Phrase.{Phrase}
use Rattle.algolw_tree.specs.declared.phrases.Link.{Link}
use Rattle.algolw_tree.specs.declared.phrases.List as list
use Rattle.algolw_tree.specs.declared.phrases.Part.{Part}
use Rattle.algolw_tree.specs.declared.phrases.Decl.{Decl}
use Rattle.algolw_tree.specs.declared.phrases.Item.{Item}
use Rattle.algolw_tree.specs.declared.phrases.Kind as kind
use Rattle.algolw_tree.specs.declared.phrases.Kind.{Kind}
use Rattle.algolw_tree.specs.declared.phrases.Listed.{Listed, out-Listed}
use Rattle.algolw_tree.specs.declared.phrases.Chain.{Chain, out-Chain}
use Rattle.algolw_tree.specs.declared.phrases.Conditional.{Conditional, out-Conditional}
use Rattle.algolw_tree.specs.declared.phrases.ClassTest.{ClassTest}
use Rattle.algolw_tree.specs.declared.phrases.CaseValue.{CaseValue, out-CaseValue}
use Rattle.algolw_tree.specs.declared.phrases.CaseDo.{CaseDo}
use Rattle.algolw_tree.specs.declared.phrases.ForStep.{ForStep, out-ForStep}
use Rattle.algolw_tree.specs.declared.phrases.ForList.{ForList, out-ForList}
use Rattle.algolw_tree.specs.declared.phrases.Block.{Block}
use Rattle.algolw_tree.specs.Grammar.{phrases_of, links_of, lists_of, items_of, decls_of}
use Rattle.algolw_tree.specs.Tree as tree
use Rattle.algolw_tree.specs.View.{tree as tree_of, kind_tree, link_tree, list_tree, part_tree, decl_tree, item_tree, optional_tree}
use Rattle.algolw_tree.proofs.Rows.{listed_is, chain_is, conditional_is, case_value_is, for_step_is, for_list_is, listed_at, chain_at, conditional_at, class_test_at, case_value_at, case_do_at, for_step_at, for_list_at, block_at}

pub listed_in : (k : Kind) (b : Box Listed Global) (x y : Listed) (ls : List list.List) → k ≡ kind.Listed b → x ≡ b.value → y ≡ b.value → ls ≡ (out-Listed y).lists.items
    → kind_tree k ≡ tree.Named (out-Listed x).name (lists_of (map list_tree ls))
listed_in k b x y ls is ex ey els =
    listed_at k b y is ey ∙ listed_is y ∙ ap (λ (z : Listed). tree.Named (out-Listed z).name (lists_of (map list_tree (out-Listed y).lists.items))) (ey ∙ sym ex) ∙ ap (λ (zs : List list.List). tree.Named (out-Listed x).name (lists_of (map list_tree zs))) (sym els)

pub chain_in : (k : Kind) (b : Box Chain Global) (x y : Chain) (ls : List Link) → k ≡ kind.Chain b → x ≡ b.value → y ≡ b.value → ls ≡ (out-Chain y).links.items
    → kind_tree k ≡ tree.Chain (tree_of (out-Chain x).first) (links_of (map link_tree ls))
chain_in k b x y ls is ex ey els =
    chain_at k b y is ey ∙ chain_is y ∙ ap (λ (z : Chain). tree.Chain (tree_of (out-Chain z).first) (links_of (map link_tree (out-Chain y).links.items))) (ey ∙ sym ex) ∙ ap (λ (zs : List Link). tree.Chain (tree_of (out-Chain x).first) (links_of (map link_tree zs))) (sym els)

pub conditional_in : (k : Kind) (b : Box Conditional Global) (x y z : Conditional) → k ≡ kind.IfThen b → x ≡ b.value → y ≡ b.value → z ≡ b.value
    → kind_tree k ≡ tree.IfThen (tree_of (out-Conditional x).condition) (tree_of (out-Conditional y).then) (optional_tree (out-Conditional z).otherwise)
conditional_in k b x y z is ex ey ez =
    conditional_at k b z is ez ∙ conditional_is z ∙ ap (λ (u : Conditional). tree.IfThen (tree_of (out-Conditional u).condition) (tree_of (out-Conditional z).then) (optional_tree (out-Conditional z).otherwise)) (ez ∙ sym ex)
    ∙ ap (λ (u : Conditional). tree.IfThen (tree_of (out-Conditional x).condition) (tree_of (out-Conditional u).then) (optional_tree (out-Conditional z).otherwise)) (ez ∙ sym ey)

pub class_test_in : (k : Kind) (b : Box ClassTest Global) (x y : ClassTest) → k ≡ kind.IsClass b → x ≡ b.value → y ≡ b.value → kind_tree k ≡ tree.IsClass (tree_of x.reference) y.class.0 y.class.1
class_test_in k b x y is ex ey = class_test_at k b y is ey ∙ ap (λ (u : ClassTest). tree.IsClass (tree_of u.reference) y.class.0 y.class.1) (ey ∙ sym ex)

pub case_value_in : (k : Kind) (b : Box CaseValue Global) (x y : CaseValue) (vs : List Phrase) → k ≡ kind.CaseValue b → x ≡ b.value → y ≡ b.value → vs ≡ (out-CaseValue y).values.items
    → kind_tree k ≡ tree.CaseValue (tree_of (out-CaseValue x).selector) (phrases_of (map tree_of vs))
case_value_in k b x y vs is ex ey evs =
    case_value_at k b y is ey ∙ case_value_is y ∙ ap (λ (u : CaseValue). tree.CaseValue (tree_of (out-CaseValue u).selector) (phrases_of (map tree_of (out-CaseValue y).values.items))) (ey ∙ sym ex)
    ∙ ap (λ (zs : List Phrase). tree.CaseValue (tree_of (out-CaseValue x).selector) (phrases_of (map tree_of zs))) (sym evs)

pub case_do_in : (k : Kind) (b : Box CaseDo Global) (x y : CaseDo) (ps : List Part) → k ≡ kind.CaseDo b → x ≡ b.value → y ≡ b.value → ps ≡ y.parts.items → kind_tree k ≡ tree.CaseDo (tree_of x.selector) (phrases_of (map part_tree ps))
case_do_in k b x y ps is ex ey eps =
    case_do_at k b y is ey ∙ ap (λ (u : CaseDo). tree.CaseDo (tree_of u.selector) (phrases_of (map part_tree y.parts.items))) (ey ∙ sym ex) ∙ ap (λ (zs : List Part). tree.CaseDo (tree_of x.selector) (phrases_of (map part_tree zs))) (sym eps)

pub for_step_in : (k : Kind) (b : Box ForStep Global) (x y z u v : ForStep) → k ≡ kind.ForStep b → x ≡ b.value → y ≡ b.value → z ≡ b.value → u ≡ b.value → v ≡ b.value
    → kind_tree k ≡ tree.ForStep (out-ForStep x).name (tree_of (out-ForStep y).start) (optional_tree (out-ForStep z).step) (tree_of (out-ForStep u).limit) (tree_of (out-ForStep v).body)
for_step_in k b x y z u v is ex ey ez eu ev =
    for_step_at k b v is ev ∙ for_step_is v
    ∙ ap (λ (w : ForStep). tree.ForStep (out-ForStep w).name (tree_of (out-ForStep v).start) (optional_tree (out-ForStep v).step) (tree_of (out-ForStep v).limit) (tree_of (out-ForStep v).body)) (ev ∙ sym ex)
    ∙ ap (λ (w : ForStep). tree.ForStep (out-ForStep x).name (tree_of (out-ForStep w).start) (optional_tree (out-ForStep v).step) (tree_of (out-ForStep v).limit) (tree_of (out-ForStep v).body)) (ev ∙ sym ey)
    ∙ ap (λ (w : ForStep). tree.ForStep (out-ForStep x).name (tree_of (out-ForStep y).start) (optional_tree (out-ForStep w).step) (tree_of (out-ForStep v).limit) (tree_of (out-ForStep v).body)) (ev ∙ sym ez)
    ∙ ap (λ (w : ForStep). tree.ForStep (out-ForStep x).name (tree_of (out-ForStep y).start) (optional_tree (out-ForStep z).step) (tree_of (out-ForStep w).limit) (tree_of (out-ForStep v).body)) (ev ∙ sym eu)

pub for_list_in : (k : Kind) (b : Box ForList Global) (x y z : ForList) (vs : List Phrase) → k ≡ kind.ForList b → x ≡ b.value → y ≡ b.value → z ≡ b.value → vs ≡ (out-ForList y).values.items
    → kind_tree k ≡ tree.ForList (out-ForList x).name (phrases_of (map tree_of vs)) (tree_of (out-ForList z).body)
for_list_in k b x y z vs is ex ey ez evs =
    for_list_at k b y is ey ∙ for_list_is y
    ∙ ap (λ (w : ForList). tree.ForList (out-ForList w).name (phrases_of (map tree_of (out-ForList y).values.items)) (tree_of (out-ForList y).body)) (ey ∙ sym ex)
    ∙ ap (λ (w : ForList). tree.ForList (out-ForList x).name (phrases_of (map tree_of (out-ForList y).values.items)) (tree_of (out-ForList w).body)) (ey ∙ sym ez)
    ∙ ap (λ (zs : List Phrase). tree.ForList (out-ForList x).name (phrases_of (map tree_of zs)) (tree_of (out-ForList z).body)) (sym evs)

pub block_in : (k : Kind) (b : Box Block Global) (x y : Block) (ds : List Decl) (is : List Item) → k ≡ kind.Block b → x ≡ b.value → y ≡ b.value → ds ≡ x.decls.items → is ≡ y.items.items
    → kind_tree k ≡ tree.Block (decls_of (map decl_tree ds)) (items_of (map item_tree is))
block_in k b x y ds is e ex ey eds eis =
    block_at k b y e ey ∙ ap (λ (u : Block). tree.Block (decls_of (map decl_tree u.decls.items)) (items_of (map item_tree y.items.items))) (ey ∙ sym ex)
    ∙ ap (λ (zs : List Decl). tree.Block (decls_of (map decl_tree zs)) (items_of (map item_tree y.items.items))) (sym eds) ∙ ap (λ (zs : List Item). tree.Block (decls_of (map decl_tree ds)) (items_of (map item_tree zs))) (sym eis)
