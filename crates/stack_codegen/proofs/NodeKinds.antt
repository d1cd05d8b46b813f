-- The kind of a node in memory, as it is found there.
use Rattle.std.proofs.Common.{◌≡◌, ℕ, ◌+◌, List, Option, Some, None, refl, sym, ap, ◌∙◌}
use Rattle.std.specs.Option.{option_map}
use Rattle.std.specs.Borrow.{Bor}
use Rattle.std.specs.declared.vec.Vec.{Vec}
use Rattle.std.specs.declared.alloc.Global.{Global}
use Rattle.std.specs.declared.boxed.Box.{Box}
use Rattle.algolw_tree.specs.declared.programs.Node.{Node}
use Rattle.algolw_tree.specs.declared.programs.NodeKind.{Named, Chain, IfThen, CaseValue, CaseDo, ForStep, ForList, Block}
use Rattle.algolw_tree.specs.declared.programs.TypedDecl.{TypedDecl}
use Rattle.algolw_tree.specs.declared.programs.TypedItem.{TypedItem}
use Rattle.algolw_tree.specs.declared.programs.TypedLink.{TypedLink}
use Rattle.algolw_tree.specs.declared.programs.TypedList.{TypedList}
use Rattle.algolw_tree.specs.declared.programs.TypedPart.{TypedPart}
use Rattle.algolw_typing.specs.Typed as typed
use Rattle.algolw_typing.specs.ProgramView.{Numbers, kind_view, node_view, numbered}
use Rattle.symbol_table.specs.Parts.{decls_in, items_in, links_in, lists_in, nodes_in, parts_in, perhaps_in}
use Rattle.stack_codegen.proofs.NodeRows.{block_in, case_do_in, case_value_in, chain_in, for_list_in, for_step_in, if_in, named_in, perhaps_of}
use Rattle.stack_codegen.proofs.NodeSizes.{node_size, nothing, size_kind}

-- ---- what may be missing

abbrev perhaps_by : Numbers → Option Node → typed.Perhaps
perhaps_by ns None = typed.Missing
perhaps_by ns (Some a) = typed.There (node_view ns a)

lent_is : (ns : Numbers) (r : Option (Bor Node)) → perhaps_in ns r ≡ perhaps_by ns (option_map (λ (x : Bor Node). x.now) r)
lent_is ns None = refl
lent_is ns (Some a) = refl

boxed_is : (ns : Numbers) (o : Option (Box Node Global)) → perhaps_of ns o ≡ perhaps_by ns (option_map (λ (b : Box Node Global). b.value) o)
boxed_is ns None = refl
boxed_is ns (Some b) = refl

-- what is lent of a box is what is in it
pub perhaps_same_as : (ns : Numbers) (o : Option (Box Node Global)) (r : Option (Bor Node)) → option_map (λ (x : Bor Node). x.now) r ≡ option_map (λ (b : Box Node Global). b.value) o → perhaps_of ns o ≡ perhaps_in ns r
perhaps_same_as ns o r q = boxed_is ns o ∙ ap (perhaps_by ns) (sym q) ∙ sym (lent_is ns r)

-- ---- kinds, where their lists are lent

module _ (ns : Numbers) (n : Node) where
  pub named_kind : (m : ℕ) (v : Vec TypedList Global) (lists : List TypedList) → n.kind ≡ Named m v → lists ≡ v.items → kind_view ns n.kind ≡ typed.Named (numbered ns.names m) (lists_in ns lists)
  named_kind m v lists e q = ap (kind_view ns) e ∙ named_in ns m v ∙ ap (λ xs. typed.Named (numbered ns.names m) (lists_in ns xs)) (sym q)

  pub chain_kind : (b : Box Node Global) (v : Vec TypedLink Global) (links : List TypedLink) → n.kind ≡ Chain b v → links ≡ v.items → kind_view ns n.kind ≡ typed.Chain (node_view ns b.value) (links_in ns links)
  chain_kind b v links e q = ap (kind_view ns) e ∙ chain_in ns b v ∙ ap (λ xs. typed.Chain (node_view ns b.value) (links_in ns xs)) (sym q)

  pub if_kind : (a b : Box Node Global) (o : Option (Box Node Global)) (r : Option (Bor Node)) → n.kind ≡ IfThen a b o → option_map (λ (x : Bor Node). x.now) r ≡ option_map (λ (c : Box Node Global). c.value) o → kind_view ns n.kind ≡ typed.IfThen (node_view ns a.value) (node_view ns b.value) (perhaps_in ns r)
  if_kind a b o r e q = ap (kind_view ns) e ∙ if_in ns a b o ∙ ap (typed.IfThen (node_view ns a.value) (node_view ns b.value)) (perhaps_same_as ns o r q)

  pub case_value_kind : (b : Box Node Global) (v : Vec Node Global) (parts : List Node) → n.kind ≡ CaseValue b v → parts ≡ v.items → kind_view ns n.kind ≡ typed.CaseValue (node_view ns b.value) (nodes_in ns parts)
  case_value_kind b v parts e q = ap (kind_view ns) e ∙ case_value_in ns b v ∙ ap (λ xs. typed.CaseValue (node_view ns b.value) (nodes_in ns xs)) (sym q)

  pub case_do_kind : (b : Box Node Global) (v : Vec TypedPart Global) (parts : List TypedPart) → n.kind ≡ CaseDo b v → parts ≡ v.items → kind_view ns n.kind ≡ typed.CaseDo (node_view ns b.value) (parts_in ns parts)
  case_do_kind b v parts e q = ap (kind_view ns) e ∙ case_do_in ns b v ∙ ap (λ xs. typed.CaseDo (node_view ns b.value) (parts_in ns xs)) (sym q)

  pub for_step_kind : (m : ℕ) (a : Box Node Global) (o : Option (Box Node Global)) (b c : Box Node Global) (r : Option (Bor Node)) → n.kind ≡ ForStep m a o b c → option_map (λ (x : Bor Node). x.now) r ≡ option_map (λ (d : Box Node Global). d.value) o → kind_view ns n.kind ≡ typed.ForStep (numbered ns.names m) (node_view ns a.value) (perhaps_in ns r) (node_view ns b.value) (node_view ns c.value)
  for_step_kind m a o b c r e q = ap (kind_view ns) e ∙ for_step_in ns m a o b c ∙ ap (λ y. typed.ForStep (numbered ns.names m) (node_view ns a.value) y (node_view ns b.value) (node_view ns c.value)) (perhaps_same_as ns o r q)

  pub for_list_kind : (m : ℕ) (v : Vec Node Global) (b : Box Node Global) (values : List Node) → n.kind ≡ ForList m v b → values ≡ v.items → kind_view ns n.kind ≡ typed.ForList (numbered ns.names m) (nodes_in ns values) (node_view ns b.value)
  for_list_kind m v b values e q = ap (kind_view ns) e ∙ for_list_in ns m v b ∙ ap (λ xs. typed.ForList (numbered ns.names m) (nodes_in ns xs) (node_view ns b.value)) (sym q)

  pub block_kind : (v : Vec TypedDecl Global) (w : Vec TypedItem Global) (decls : List TypedDecl) (items : List TypedItem) → n.kind ≡ Block v w → decls ≡ v.items → items ≡ w.items → kind_view ns n.kind ≡ typed.Block (decls_in ns decls) (items_in ns items)
  block_kind v w decls items e p q = ap (kind_view ns) e ∙ block_in ns v w ∙ ap (λ xs. typed.Block (decls_in ns xs) (items_in ns w.items)) (sym p) ∙ ap (λ xs. typed.Block (decls_in ns decls) (items_in ns xs)) (sym q)

-- ---- how large it is

pub kind_sized : (n : Node) (k : typed.Kind) → kind_view nothing n.kind ≡ k → node_size n ≡ 8 + size_kind k
kind_sized n k q = ap (λ (j : typed.Kind). 8 + size_kind j) q
