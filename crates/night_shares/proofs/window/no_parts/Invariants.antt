use Rattle.std.proofs.Common.{◌≡◌, [], length, map, replicate}
use Rattle.night_shares.proofs.window.no_parts.Given as goal

-- so many parts, and none of them has a text
abbrev pub invariant-loop : goal.invariant-loop
invariant-loop l = (length l.parts.items ≡ l.counter) × (map (λ p. p.items) l.parts.items ≡ replicate l.counter [])
