-- What the office keeps for a ticket.
use Rattle.std.specs.Prelude.{◌≡◌, None, ⊤}
use Rattle.worker_pool.specs.declared.working.Kept.{Kept}
use Rattle.worker_pool.specs.declared.working.Kept.TheVariants.{Running, Otherwise, NoMemory}

-- a running job has no flaw
abbrev pub IsFlawless : Kept → Type 0
IsFlawless (Running job) = job.value.flaw ≡ None
IsFlawless (Otherwise kept) = ⊤
IsFlawless NoMemory = ⊤
