use Rattle.std.proofs.Common.{◌≡◌, ◌≤◌}
use Rattle.crossbeam_queue.specs.Passes.{view}
use Rattle.worker_pool.proofs.gathering.take_all.Given as goal

abbrev pub invariant-loop : goal.invariant-loop
invariant-loop g l = (l.pass.share ≡ l.fn.pass.share) × ((view l.pass.pass).rights ≡ 1) × ((view l.pass.pass).put ≡ (view l.fn.pass.pass).put) × (l.fn.pass.owed ≤ l.pass.owed) × ((view l.fn.pass.pass).empty ≤ (view l.pass.pass).empty)
