use Rattle.std.proofs.Common.{◌≡◌, ◌++◌, drop}
use Rattle.declared_names.specs.KnownView.{alike, facts_view}
use Rattle.declared_names.proofs.declarations.declare_alike.Given as goal

-- what is declared and what is left are all
abbrev pub invariant-loop-name : goal.invariant-loop-name
invariant-loop-name l = l.scope ++ alike (drop l.name-index l.names) (facts_view l.facts) ≡ l.fn.scope ++ alike l.names (facts_view l.facts)
