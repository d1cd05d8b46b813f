use Rattle.std.proofs.Common.{false}
use Rattle.deck_tests.proofs.workers.check_pool.Given as goal

abbrev pub ghosts-check_left-B-QueueBrand : goal.ghosts-check_left-B-QueueBrand
ghosts-check_left-B-QueueBrand g a = record { table = a.fresh.ring.table.shared.table_id }

abbrev pub ghosts-check_left-B-Ledger : goal.ghosts-check_left-B-Ledger
ghosts-check_left-B-Ledger g a = record { name = a.fresh.blank.name; parts = a.fresh.blank.parts }

abbrev pub ghosts-check_left-B-OfficeBrand : goal.ghosts-check_left-B-OfficeBrand
ghosts-check_left-B-OfficeBrand g a = record { boarded = false }
