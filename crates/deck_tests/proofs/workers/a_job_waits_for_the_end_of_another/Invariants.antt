use Rattle.std.proofs.Common.{false}
use Rattle.deck_tests.proofs.workers.a_job_waits_for_the_end_of_another.Given as goal

abbrev pub ghosts-check_waiting-B-QueueBrand : goal.ghosts-check_waiting-B-QueueBrand
ghosts-check_waiting-B-QueueBrand g a = record { table = a.fresh.ring.table.shared.table_id }

abbrev pub ghosts-check_waiting-B-Ledger : goal.ghosts-check_waiting-B-Ledger
ghosts-check_waiting-B-Ledger g a = record { name = a.fresh.blank.name; parts = a.fresh.blank.parts }

abbrev pub ghosts-check_waiting-B-OfficeBrand : goal.ghosts-check_waiting-B-OfficeBrand
ghosts-check_waiting-B-OfficeBrand g a = record { boarded = false }
