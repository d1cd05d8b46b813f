-- What the declaration of arrays is, by its bounds.
use Rattle.std.proofs.Common.{◌≡◌, ℕ, suc, List, [], ◌∷◌, ◌++◌, length, map, refl, sym, ap, ◌∙◌}
use Rattle.std.specs.Option.{option_map}
use Rattle.std.specs.declared.vec.Vec.{Vec}
use Rattle.std.specs.declared.alloc.Global.{Global}
use Rattle.value_ops.specs.declared.places.Diagnostic.{Diagnostic}
use Rattle.value_ops.specs.declared.places.Place.{Place}
use Rattle.algolw_tree.specs.declared.phrases.Bound.{Bound}
use Rattle.algolw_tree.specs.declared.phrases.Decl.{Decl, Array}
use Rattle.algolw_tree.specs.declared.phrases.TypeSpec.{TypeSpec}
use Rattle.algolw_tree.specs.Grammar.{bounds_of}
use Rattle.algolw_tree.specs.Tree as tree
use Rattle.algolw_tree.specs.View.{tree as phrase_tree, bound_tree, decl_tree, formal_tree, procedure_tree, spec_tree}
use Rattle.algolw_tree.specs.declared.phrases.ProcDecl.{ProcDecl, ProcDecl', out-ProcDecl}
use Rattle.declared_names.specs.declared.blocks.Bounds.{Bounds}
use Rattle.algolw_typing.specs.Meanings.{an_array}
use Rattle.algolw_typing.specs.Names.{Scope}
use Rattle.algolw_typing.specs.Scopes.{Known, Scopes, entries, good, spec_type, bound_count, without_twice}
use Rattle.algolw_typing.specs.Typing.{array_faults, array_out, typed_bounds, typed_decl, meanings_of}
use Rattle.typed_findings.specs.Findings.{Found, finding_view, found_of_bounds}
use Rattle.declared_names.specs.Blocks.{BoundsFound, bounds_found, bounds_view, decl_bounds}
use Rattle.algolw_tree.proofs.Rows.{array_at}

pub count_bounds : (xs : List Bound) → bound_count (bounds_of (map bound_tree xs)) ≡ length xs
count_bounds [] = refl
count_bounds (x ∷ xs) = ap suc (count_bounds xs)

-- the declaration as a tree
pub array_tree : (d : Decl) (s : TypeSpec) (ns : Vec (List ℕ × Place) Global) (v : Vec Bound Global) → d ≡ Array s ns v → decl_tree d ≡ tree.Array (spec_tree s) ns.items (bounds_of (map bound_tree v.items))
array_tree d s ns v e = array_at d s ns v v.items e refl

abbrev means : Scopes → tree.TypeSpec → List tree.Placed → ℕ → List Diagnostic → Scope Known
means path spec xs n faults = entries xs (good (array_faults path spec xs n ++ without_twice faults) (an_array (spec_type path spec) n))

-- what is found of its bounds
pub array_bounds : (around : Scopes) (d : Decl) (s : TypeSpec) (ns : Vec (List ℕ × Place) Global) (v : Vec Bound Global) → d ≡ Array s ns v
    → decl_bounds around (decl_tree d) ≡ bounds_found (typed_bounds around (bounds_of (map bound_tree v.items)))
array_bounds around d s ns v e = ap (decl_bounds around) (array_tree d s ns v e)

-- what it makes of its names
pub array_means : (around path : Scopes) (d : Decl) (s : TypeSpec) (ns : Vec (List ℕ × Place) Global) (v : Vec Bound Global) (n : ℕ) (faults : List Diagnostic) (o : BoundsFound) → d ≡ Array s ns v → n ≡ length v.items → faults ≡ o.inside → o ≡ decl_bounds around (decl_tree d)
    → entries ns.items (good (array_faults path (spec_tree s) ns.items n ++ without_twice faults) (an_array (spec_type path (spec_tree s)) n)) ≡ meanings_of around path (decl_tree d)
array_means around path d s ns v n faults o e count same found =
    ap (λ (m : ℕ). means path (spec_tree s) ns.items m faults) (count ∙ sym (count_bounds v.items))
    ∙ ap (λ (fs : List Diagnostic). means path (spec_tree s) ns.items (bound_count (bounds_of (map bound_tree v.items))) fs) (same ∙ ap (λ (b : BoundsFound). b.inside) (found ∙ array_bounds around d s ns v e))
    ∙ ap (meanings_of around path) (sym (array_tree d s ns v e))

-- what is found of it
pub array_found : (around path : Scopes) (d : Decl) (s : TypeSpec) (ns : Vec (List ℕ × Place) Global) (v : Vec Bound Global) (n : ℕ) → d ≡ Array s ns v → n ≡ length v.items
    → array_out path (spec_tree s) ns.items n (typed_bounds around (bounds_of (map bound_tree v.items))) ≡ typed_decl around path (decl_tree d)
array_found around path d s ns v n e count =
    ap (λ (m : ℕ). array_out path (spec_tree s) ns.items m (typed_bounds around (bounds_of (map bound_tree v.items)))) (count ∙ sym (count_bounds v.items))
    ∙ ap (typed_decl around path) (sym (array_tree d s ns v e))

-- what is found of its bounds, and kept
pub bounds_kept : (around : Scopes) (d : Decl) (s : TypeSpec) (ns : Vec (List ℕ × Place) Global) (v : Vec Bound Global) (xs : List Bound) (b : Bounds) → d ≡ Array s ns v → xs ≡ v.items
    → b.faults.now ≡ (typed_bounds around (bounds_of (map bound_tree xs))).inside → map finding_view b.findings.now ≡ found_of_bounds (typed_bounds around (bounds_of (map bound_tree xs))).bounds → bounds_view b ≡ decl_bounds around (decl_tree d)
bounds_kept around d s ns v xs b e items faults findings =
    ap (λ (fs : List Diagnostic). both fs (map finding_view b.findings.now)) faults ∙ ap (both (typed_bounds around (bounds_of (map bound_tree xs))).inside) findings
    ∙ ap (λ ys. bounds_found (typed_bounds around (bounds_of (map bound_tree ys)))) items ∙ sym (array_bounds around d s ns v e) where
      both : List Diagnostic → List Found → BoundsFound
      both fs gs = record { inside = fs; findings = gs }

-- a procedure as a tree
pub procedure_is : (d : ProcDecl) → procedure_tree d ≡ tree.Proc (out-ProcDecl d).place (option_map spec_tree (out-ProcDecl d).result) (out-ProcDecl d).name (map formal_tree (out-ProcDecl d).formals.items) (phrase_tree (out-ProcDecl d).body.value)
unfolding out-ProcDecl denote.Hole.Carrier.out
procedure_is (ProcDecl' place result name formals q p f k) = refl
