use Rattle.std.proofs.Common.{◌≡◌, ◌++◌, drop, flat_map, map}
use Rattle.listing_cut.specs.Rows.{row}
use Rattle.listing_cut.proofs.rows.push_rows.Given as goal

-- the lines that are added and those to come are all
abbrev pub invariant-loop-part : goal.invariant-loop-part
invariant-loop-part l =
    l.out.items ++ flat_map row (map (λ p. p.now) (drop l.part-index l.parts)) ≡ l.fn.out.items ++ flat_map row (map (λ p. p.now) l.parts)
