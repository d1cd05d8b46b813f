-- How large lists behind names are: each call for what is in one is of less.
use Rattle.std.proofs.Common.{◌≡◌, ℕ, ◌+◌, ◌<◌, ◌≤◌, ℤ, List, [], ◌∷◌, length, Option, Some, None, inl, inr, refl, ap, ◌∙◌, arith}
use Rattle.std.specs.Prelude.{option_copied, slice_index_or}
use Rattle.std.specs.Borrow.{Bor}
use Rattle.algolw_tree.specs.declared.programs.Node.{Node}
use Rattle.algolw_tree.specs.declared.programs.TypedActual.{TypedActual, Star, Phrase'}
use Rattle.algolw_tree.specs.declared.programs.TypedList.{TypedList}
use Rattle.algolw_typing.specs.ProgramView.{actual_view, listing_view}
use Rattle.symbol_table.specs.Parts.{actuals_in, lists_in}
use Rattle.stack_codegen.specs.Listed.{AreCalled, AreParted, first_phrase}
use Rattle.stack_codegen.proofs.ListParts.{as_actual}
use Rattle.stack_codegen.proofs.NodeSizes.{item_smaller, node_size, nothing, perhaps_size, size_actual, size_actuals, size_listing, size_lists}
use Rattle.stack_codegen.proofs.StringParts.{IsPart}

abbrev pub actuals_size : List TypedActual → ℕ
actuals_size actuals = size_actuals (actuals_in nothing actuals)

abbrev pub lists_size : List TypedList → ℕ
lists_size lists = size_lists (lists_in nothing lists)

-- a phrase of a list
pub listed_smaller : (actuals : List TypedActual) (i : ℕ) (a : TypedActual) (x : Node) → a ≡ as_actual x → i < length actuals → a ≡ slice_index_or actuals i a → node_size x < 1 + actuals_size actuals
listed_smaller actuals i a x is l there =
    let h : 8 + size_actual (actual_view nothing a) ≤ actuals_size actuals = item_smaller actuals_size (λ y. size_actual (actual_view nothing y)) (λ y rest. refl) actuals i a l there in
    let e : size_actual (actual_view nothing a) ≡ node_size x = ap (λ y. size_actual (actual_view nothing y)) is in
    omega (arith, h, e)

-- its first
perhaps_node : Option Node → ℕ
perhaps_node None = 0
perhaps_node (Some a) = node_size a

held_node : (a : Option (Bor Node)) → perhaps_size a ≡ perhaps_node (option_copied a)
unfolding perhaps_node
held_node None = refl
held_node (Some a) = refl

first_within : (actuals : List TypedActual) → perhaps_node (first_phrase actuals) ≤ actuals_size actuals
unfolding perhaps_node
first_within [] = omega arith
first_within (Star q ∷ rest) = let h = first_within rest in omega (arith, h)
first_within (Phrase' p f k g s ∷ rest) = omega arith

pub first_smaller : (actuals : List TypedActual) (a : Option (Bor Node)) → option_copied a ≡ first_phrase actuals → perhaps_size a ≤ actuals_size actuals
first_smaller actuals a is = let h = first_within actuals in let e : perhaps_size a ≡ perhaps_node (first_phrase actuals) = held_node a ∙ ap perhaps_node is in omega (arith, h, e)

-- lists in two parts
pub parted_size : (lists : List TypedList) (actuals : List TypedActual) (rest : List TypedList) → AreParted lists actuals rest → lists_size lists ≡ 8 + actuals_size actuals + lists_size rest
parted_size lists actuals rest parted = ap size_lists (parted nothing).1

pub called_size : (lists : List TypedList) (actuals : List TypedActual) (rest : List TypedList) → AreCalled lists actuals rest → actuals_size actuals + lists_size rest ≤ lists_size lists
called_size lists actuals rest (inl parted) = let h = parted_size lists actuals rest parted in omega (arith, h)
called_size lists actuals rest (inr none) =
    let a : actuals_size actuals ≡ 0 = ap actuals_size none.0 in
    let b : lists_size rest ≡ lists_size lists = ap lists_size none.1 in
    omega (arith, a, b)

-- where a part begins
pub start_smaller : (lists : List TypedList) (i : ℕ) (l : TypedList) → i < length lists → l ≡ slice_index_or lists i l → (x : Node) (k : ℤ) → IsPart l x k → 2 + node_size x < 3 + lists_size lists
start_smaller lists i l inside is x k part =
    let h : 8 + size_listing (listing_view nothing l.place l.kind) ≤ lists_size lists = item_smaller lists_size (λ y. size_listing (listing_view nothing y.place y.kind)) (λ y rest. refl) lists i l inside is in
    let e : size_listing (listing_view nothing l.place l.kind) ≡ node_size x = ap size_listing (part nothing) in
    omega (arith, h, e)
