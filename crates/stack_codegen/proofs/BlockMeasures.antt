-- The parts of a block are smaller than it.
use Rattle.std.proofs.Common.{◌≡◌, ℕ, ◌+◌, ◌<◌, ◌≤◌, List, length, refl, sym, ap, ◌∙◌, subst, arith}
use Rattle.std.specs.Prelude.{slice_index_or}
use Rattle.std.specs.declared.vec.Vec.{Vec}
use Rattle.std.specs.declared.alloc.Global.{Global}
use Rattle.value_ops.specs.declared.places.Place.{Place}
use Rattle.value_ops.specs.declared.values.SimpleType.{SimpleType}
use Rattle.algolw_tree.specs.declared.programs.Node.{Node}
use Rattle.algolw_tree.specs.declared.programs.TypedBound.{TypedBound}
use Rattle.algolw_tree.specs.declared.programs.TypedDecl.{TypedDecl, Array, Proc}
use Rattle.algolw_tree.specs.declared.programs.TypedItem.{TypedItem}
use Rattle.algolw_tree.specs.declared.programs.TypedProc.{TypedProc, TypedProc', out-TypedProc}
use Rattle.algolw_typing.specs.ProgramView.{decl_view}
use Rattle.algolw_typing.specs.Typed as typed
use Rattle.symbol_table.specs.Parts.{bounds_in, decls_in, item_node, items_in}
use Rattle.stack_codegen.specs.Blocks.{body_of}
use Rattle.stack_codegen.proofs.NodeRows.{array_in}
use Rattle.stack_codegen.proofs.NodeSizes.{item_smaller, node_size, nothing, size, size_bounds, size_decl, size_decls, size_items}
use Rattle.stack_codegen.proofs.ProcedureBodies.{body_is}

pub decl_less : (decls : List TypedDecl) (i : ℕ) (d : TypedDecl) → i < length decls → d ≡ slice_index_or decls i d → 5 + size_decl (decl_view nothing d) < 5 + size_decls (decls_in nothing decls)
decl_less decls i d l is =
    let h = item_smaller (λ xs. size_decls (decls_in nothing xs)) (λ x. size_decl (decl_view nothing x)) (λ x xs. refl) decls i d l is in
    omega (arith, h)

pub bounds_less : (t : SimpleType) (xs : Vec (ℕ × Place) Global) (v : Vec TypedBound Global) → 4 + size_bounds (bounds_in nothing v.items) < 5 + size_decl (decl_view nothing (Array t xs v))
bounds_less t xs v = let e = ap (λ (d : typed.Decl). size_decl d) (array_in nothing t xs v) in omega (arith, e)

-- the same of a declaration that is so, and of its bounds where they are lent
pub bounds_less_at : (d : TypedDecl) (t : SimpleType) (xs : Vec (ℕ × Place) Global) (v : Vec TypedBound Global) (ys : List TypedBound) → d ≡ Array t xs v → ys ≡ v.items → 4 + size_bounds (bounds_in nothing ys) < 5 + size_decl (decl_view nothing d)
bounds_less_at d t xs v ys is lent = subst (λ (x : TypedDecl). 4 + size_bounds (bounds_in nothing ys) < 5 + size_decl (decl_view nothing x)) (sym is) (subst (λ (zs : List TypedBound). 4 + size_bounds (bounds_in nothing zs) < 5 + size_decl (decl_view nothing (Array t xs v))) (sym lent) (bounds_less t xs v))

pub procedure_less : (d : TypedDecl) (p : TypedProc) → d ≡ Proc p → 4 + size_decl (decl_view nothing (Proc p)) < 5 + size_decl (decl_view nothing d)
procedure_less d p is = let e = ap (λ (x : TypedDecl). size_decl (decl_view nothing x)) is in omega (arith, e)

body_size : (p : TypedProc) → size_decl (decl_view nothing (Proc p)) ≡ node_size (body_of p)
body_size (TypedProc' place result name formals q pp f k g st) = refl

pub body_less : (p : TypedProc) (n : Node) → n ≡ (out-TypedProc p).body.value → node_size n < 3 + size_decl (decl_view nothing (Proc p))
body_less p n is = let e = body_size p in let f = ap node_size (is ∙ body_is p) in omega (arith, e, f)

bound_less : (bounds : List TypedBound) (i : ℕ) (x : TypedBound) → i < length bounds → x ≡ slice_index_or bounds i x → 8 + (node_size x.lower + node_size x.upper) ≤ size_bounds (bounds_in nothing bounds)
bound_less bounds i x l is = item_smaller (λ xs. size_bounds (bounds_in nothing xs)) (λ y. node_size y.lower + node_size y.upper) (λ y xs. omega arith) bounds i x l is

pub lower_less : (bounds : List TypedBound) (i : ℕ) (x : TypedBound) → i < length bounds → x ≡ slice_index_or bounds i x → 2 + node_size x.lower < 4 + size_bounds (bounds_in nothing bounds)
lower_less bounds i x l is = let h = bound_less bounds i x l is in omega (arith, h)

pub upper_less : (bounds : List TypedBound) (i : ℕ) (x : TypedBound) → i < length bounds → x ≡ slice_index_or bounds i x → 2 + node_size x.upper < 4 + size_bounds (bounds_in nothing bounds)
upper_less bounds i x l is = let h = bound_less bounds i x l is in omega (arith, h)

pub item_less : (items : List TypedItem) (i : ℕ) (x : TypedItem) → i < length items → x ≡ slice_index_or items i x → 1 + size (item_node nothing x) < 5 + size_items (items_in nothing items)
item_less items i x l is =
    let h = item_smaller (λ xs. size_items (items_in nothing xs)) (λ y. size (item_node nothing y)) (λ y xs. refl) items i x l is in
    omega (arith, h)
