use Rattle.std.proofs.Common.{◌≡◌, ◌++◌, drop, map}
use Rattle.typed_findings.specs.Findings.{counted_places, finding_view}
use Rattle.typed_findings.proofs.findings.statements.Given as goal

-- what is gathered and what is left are all
abbrev pub invariant-loop-finding : goal.invariant-loop-finding
invariant-loop-finding l = l.places.items ++ counted_places (map finding_view (drop l.finding-index l.findings)) ≡ counted_places (map finding_view l.findings)
