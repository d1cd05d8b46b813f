use Rattle.std.proofs.Common.{false}
use Rattle.deck_tests.proofs.workers.one_worker_ends_both_jobs.Given as goal

abbrev pub ghosts-worked_alone-B-QueueBrand : goal.ghosts-worked_alone-B-QueueBrand
ghosts-worked_alone-B-QueueBrand g a = record { table = a.fresh.ring.table.shared.table_id }

abbrev pub ghosts-worked_alone-B-Ledger : goal.ghosts-worked_alone-B-Ledger
ghosts-worked_alone-B-Ledger g a = record { name = a.fresh.blank.name; parts = a.fresh.blank.parts }

abbrev pub ghosts-worked_alone-B-OfficeBrand : goal.ghosts-worked_alone-B-OfficeBrand
ghosts-worked_alone-B-OfficeBrand g a = record { boarded = false }
