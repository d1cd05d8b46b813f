use Rattle.std.proofs.Common.{◌≡◌, ◌++◌, drop, map, true}
use Rattle.std.specs.List.{list_all}
use Rattle.algolw_tree.specs.Libraries.{is_early, moved_token}
use Rattle.procedure_library.proofs.wrapping.push_moved.Given as goal

abbrev pub invariant-loop-token : goal.invariant-loop-token
invariant-loop-token l = (l.program.items ++ map moved_token (drop l.token-index l.tokens) ≡ l.initial.program.items ++ map moved_token l.tokens) × (list_all is_early (drop l.token-index l.tokens) ≡ true)
