-- What stands in a row: nothing, or a phrase, behind labels or without.
use Rattle.std.proofs.Common.{◌≡◌, ℕ, refl, sym, ap, ◌∙◌, subst}
use Rattle.std.specs.declared.alloc.Global.{Global}
use Rattle.std.specs.declared.boxed.Box.{Box}
use Rattle.value_ops.specs.declared.places.Place.{Place}
use Rattle.algolw_tree.specs.declared.programs.Node.{Node}
use Rattle.algolw_tree.specs.declared.programs.TypedItem as item
use Rattle.algolw_tree.specs.declared.programs.TypedItem.{TypedItem}
use Rattle.algolw_tree.specs.declared.programs.TypedLabelled.{TypedLabelled, TypedLabelled', out-TypedLabelled}
use Rattle.algolw_tree.specs.declared.programs.TypedPart as part
use Rattle.algolw_tree.specs.declared.programs.TypedPart.{TypedPart}
use Rattle.algolw_typing.specs.ProgramView.{Numbers, empty_view, node_view, part_view}
use Rattle.algolw_typing.specs.Typed as typed
use Rattle.stack_code.specs.CodeView.{CodeFits}
use Rattle.stack_code.specs.declared.instructions.Instr.TheVariants as held
use Rattle.stack_code.specs.declared.instructions.Mode.TheVariants as mode
use Rattle.symbol_table.specs.declared.here.Here.{Here}
use Rattle.symbol_table.specs.Contexts.{numbers_in}
use Rattle.symbol_table.specs.Parts.{item_node, node_behind}
use Rattle.code_emitter.specs.declared.emitter.Emitter.{Emitter}
use Rattle.code_emitter.specs.Appending.{appended}
use Rattle.stack_codegen.specs.Codable.{CodesNode, IsCodable, item_in, node_in, part_in}
use Rattle.stack_codegen.proofs.Leaves.{missing_codes}
use Rattle.stack_codegen.proofs.NodeSizes.{node_size, nothing, size}

-- a tree by what numbers stand for
abbrev Tree : Type 0
Tree = Numbers → typed.Node

-- where two are the same, what is known of one is known of the other
module _ (F G : Tree) (same : F ≡ G) where
  same_ready : (e : Emitter) → IsCodable e (λ s. F (numbers_in s)) → IsCodable e (λ s. G (numbers_in s))
  same_ready e r = subst (λ (T : Tree). IsCodable e (λ s. T (numbers_in s))) same r

  same_coded : {a b : Emitter} {m : ℕ} (here : Here) → CodesNode a b here mode.Value (λ s. G (numbers_in s)) m → CodesNode a b here mode.Value (λ s. F (numbers_in s)) m
  same_coded {a} {b} {m} here c = subst (λ (T : Tree). CodesNode a b here mode.Value (λ s. T (numbers_in s)) m) (sym same) c

  same_size : size (F nothing) ≡ size (G nothing)
  same_size = ap (λ (T : Tree). size (T nothing)) same

nothing_coded : {a b : Emitter} (F : Tree) (here : Here) (place : Place) → F ≡ (λ ns. empty_view place) → CodeFits a.code → b ≡ appended a here held.Nothing → CodesNode a b here mode.Value (λ s. F (numbers_in s)) 0
nothing_coded F here place same fits e = same_coded F (λ ns. empty_view place) same here (missing_codes here mode.Value held.Nothing refl fits e)

-- ---- parts

abbrev part_tree : TypedPart → Tree
part_tree p ns = part_view ns p

abbrev node_tree : Node → Tree
node_tree a ns = node_view ns a

pub empty_part_coded : {a b : Emitter} (here : Here) (p : TypedPart) (place : Place) → p ≡ part.Empty place → CodeFits a.code → b ≡ appended a here held.Nothing → CodesNode a b here mode.Value (part_in p) 0
empty_part_coded here p place is fits e = nothing_coded (part_tree p) here place (ap part_tree is) fits e

module _ (p : TypedPart) (b : Box Node Global) (a : Node) (is : p ≡ part.Phrase b) (lent : a ≡ b.value) where
  part_is : part_tree p ≡ node_tree a
  part_is = ap part_tree is ∙ ap node_tree (sym lent)

  pub part_phrase_ready : (e : Emitter) → IsCodable e (part_in p) → IsCodable e (node_in a)
  part_phrase_ready = same_ready (part_tree p) (node_tree a) part_is

  pub part_phrase_coded : {c d : Emitter} {m : ℕ} (here : Here) → CodesNode c d here mode.Value (node_in a) m → CodesNode c d here mode.Value (part_in p) m
  part_phrase_coded = same_coded (part_tree p) (node_tree a) part_is

  pub part_phrase_size : size (part_view nothing p) ≡ node_size a
  part_phrase_size = same_size (part_tree p) (node_tree a) part_is

-- ---- items

abbrev item_tree : TypedItem → Tree
item_tree i ns = item_node ns i

abbrev labelled_tree : TypedLabelled → Tree
labelled_tree l ns = node_behind ns l

behind_is : (l : TypedLabelled) → labelled_tree l ≡ node_tree (out-TypedLabelled l).phrase.value
unfolding out-TypedLabelled denote.Hole.Carrier.out
behind_is (TypedLabelled' labels q p f k g s) = refl

pub empty_item_coded : {a b : Emitter} (here : Here) (i : TypedItem) (place : Place) → i ≡ item.Empty place → CodeFits a.code → b ≡ appended a here held.Nothing → CodesNode a b here mode.Value (item_in i) 0
empty_item_coded here i place is fits e = nothing_coded (item_tree i) here place (ap item_tree is) fits e

pub plain_is : (i : TypedItem) (b : Box Node Global) (a : Node) → i ≡ item.Plain b → a ≡ b.value → item_tree i ≡ node_tree a
plain_is i b a is lent = ap item_tree is ∙ ap node_tree (sym lent)

pub labelled_is : (i : TypedItem) (b : Box TypedLabelled Global) (l : TypedLabelled) (a : Node) → i ≡ item.Labelled b → l ≡ b.value → a ≡ (out-TypedLabelled l).phrase.value → item_tree i ≡ node_tree a
labelled_is i b l a is lent phrase = ap item_tree is ∙ ap labelled_tree (sym lent) ∙ behind_is l ∙ ap node_tree (sym phrase)

module _ (i : TypedItem) (a : Node) (same : item_tree i ≡ node_tree a) where
  pub item_phrase_ready : (e : Emitter) → IsCodable e (item_in i) → IsCodable e (node_in a)
  item_phrase_ready = same_ready (item_tree i) (node_tree a) same

  pub item_phrase_coded : {c d : Emitter} {m : ℕ} (here : Here) → CodesNode c d here mode.Value (node_in a) m → CodesNode c d here mode.Value (item_in i) m
  item_phrase_coded = same_coded (item_tree i) (node_tree a) same

  pub item_phrase_size : size (item_node nothing i) ≡ node_size a
  item_phrase_size = same_size (item_tree i) (node_tree a) same
