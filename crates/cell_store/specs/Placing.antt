-- A descriptor is known by what contracts see of it.
use Rattle.std.proofs.Common.{◌≡◌, sym, ap, ◌∙◌, arith, take, length}
use Rattle.std.proofs.lemmas.List.{length-take-le}
use Rattle.cell_store.specs.declared.descriptor.Descriptor.TheInside.{Inside}
use Rattle.cell_store.specs.Arrays.{elements}
use Rattle.cell_store.specs.Held.{Placed, padded}

pub given_back : (d : Inside) → Placed d.dimensions d.count d.first d.total → record d { dimensions = padded (take d.count d.dimensions); count = length (take d.count d.dimensions); total = elements (take d.count d.dimensions) } ≡ d
given_back d h =
    ap (λ ds. record d { dimensions = ds; count = length (take d.count d.dimensions); total = elements (take d.count d.dimensions) }) h.rest
    ∙ ap (λ n. record d { count = n; total = elements (take d.count d.dimensions) }) (length-take-le d.count d.dimensions (omega (arith, h.fits, h.all)))
    ∙ ap (λ n. record d { total = n }) (sym h.counted)
