use Rattle.std.proofs.Common.{◌≡◌, ◌+◌, ◌++◌, drop}
use Rattle.algolw_typing.specs.Naming.{infos}
use Rattle.block_scopes.specs.FrameView.{frame_view}
use Rattle.name_scopes.specs.Firsts.{lent}
use Rattle.block_scopes.proofs.noting.add_names.Given as goal

abbrev pub invariant-loop-position : goal.invariant-loop-position
invariant-loop-position l =
    l.found.items ++ infos (record { level = l.frame.level; slot = l.frame.slot + l.position }) (lent (drop l.position l.names)) ≡ l.initial.found.items ++ infos (frame_view l.frame) (lent l.names)
