use Rattle.unit_tests.proofs.office_day.day_of.Given as goal

abbrev pub ghosts-day-B-QueueBrand : goal.ghosts-day-B-QueueBrand
ghosts-day-B-QueueBrand g a = record { table = a.fresh.ring.table.shared.table_id }

abbrev pub ghosts-day-B-Ledger : goal.ghosts-day-B-Ledger
ghosts-day-B-Ledger g a = record { name = a.fresh.blank.name; parts = a.fresh.blank.parts }

-- with a board or without one
abbrev pub ghosts-day-B-OfficeBrand : goal.ghosts-day-B-OfficeBrand
ghosts-day-B-OfficeBrand g a = record { boarded = a.boarded }
