use Rattle.std.proofs.Common.{◌≡◌, ◌+◌, ◌++◌, drop}
use Rattle.algolw_tree.specs.Standards.{spelled}
use Rattle.algolw_typing.specs.Naming.{infos, outermost}
use Rattle.name_scopes.specs.Standards.{on_no_card}
use Rattle.block_scopes.proofs.standard.add_on_no_card.Given as goal

abbrev pub invariant-loop-position : goal.invariant-loop-position
invariant-loop-position l =
    l.found.items ++ infos (record { level = 0; slot = l.position }) (on_no_card (l.position + 1) (spelled (drop l.position l.names))) ≡ l.initial.found.items ++ infos outermost (on_no_card 1 (spelled l.names))
