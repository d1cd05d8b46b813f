-- How many fields the first groups of a class have.
use Rattle.std.proofs.Common.{◌≡◌, ℕ, ◌+◌, ◌-◌, ◌<◌, ◌≤◌, List, [], ◌∷◌, ◌++◌, length, take, sym, ap, ◌∙◌, arith, slice_index_or}
use Rattle.std.proofs.lemmas.List.{take_more}
use Rattle.std.specs.declared.vec.Vec.{Vec}
use Rattle.std.specs.declared.alloc.Global.{Global}
use Rattle.value_ops.specs.declared.places.Place.{Place}
use Rattle.value_ops.specs.declared.values.SimpleType.{SimpleType}
use Rattle.symbol_table.specs.Blocks.{field_count}

field_count-append : (a b : List (SimpleType × Vec (ℕ × Place) Global)) → field_count (a ++ b) ≡ field_count a + field_count b
field_count-append [] b = omega arith
field_count-append (g ∷ a) b = let ih = field_count-append a b in omega (arith, ih)

pub field_count-take : (groups : List (SimpleType × Vec (ℕ × Place) Global)) (i : ℕ) (g : SimpleType × Vec (ℕ × Place) Global) → 0 < i → i ≤ length groups → g ≡ slice_index_or groups (i - 1) g → field_count (take i groups) ≡ field_count (take (i - 1) groups) + length g.1.items
field_count-take groups i g some l e =
    let inside : i - 1 < length groups = omega arith in
    let back : i ≡ (i - 1) + 1 = omega arith in
    let last : field_count (g ∷ []) ≡ length g.1.items = omega arith in
    let both = field_count-append (take (i - 1) groups) (g ∷ []) in
    ap (λ n. field_count (take n groups)) back ∙ ap field_count (take_more groups (i - 1) g inside ∙ ap (λ (h : SimpleType × Vec (ℕ × Place) Global). take (i - 1) groups ++ h ∷ []) (sym e)) ∙ both ∙ ap (λ n. field_count (take (i - 1) groups) + n) last
