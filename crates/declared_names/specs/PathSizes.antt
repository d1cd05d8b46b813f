-- What a path keeps is of fewer scopes than the path.
use Rattle.std.specs.Prelude.{◌≤◌, List, Option, Some, None, length}
use Rattle.std.proofs.Common.{arith}
use denote.Ref.{Bor}
use Rattle.algolw_typing.specs.Scopes.{Scopes}
use Rattle.name_scopes.specs.PathSizes.{most_within, two}
use Rattle.declared_names.specs.KnownPaths.{path_of, IsPath}
use Rattle.declared_names.specs.declared.innermost.Innermost.{Innermost}
use Rattle.declared_names.specs.declared.path.KnownPath.TheDeep.{deep-KnownPath}

pub sizes_fall : (scopes : Option (Innermost × Bor Scopes)) (nearest : List (Option (Bor Scopes))) → IsPath scopes nearest
    → deep-KnownPath (record { scopes = scopes; nearest = record { each = nearest } }) ≤ length (path_of scopes)
sizes_fall None nearest h = two _ _ _ (omega arith) (two _ _ _ (two _ _ _ (most_within _ nearest _ (omega arith) (λ p l. omega (arith, l)) h.fewer) (omega arith)) (omega arith))
sizes_fall (Some p) nearest h = two _ _ _ (omega arith) (two _ _ _ (two _ _ _ (most_within _ nearest _ (omega arith) (λ q l. omega (arith, l)) h.fewer) (omega arith)) (omega arith))
