use Rattle.batch_runner.proofs.listing.serve.Given as goal

abbrev pub ghosts-run_jobs-B-QueueBrand : goal.ghosts-run_jobs-B-QueueBrand
ghosts-run_jobs-B-QueueBrand g a = record { table = a.fresh.ring.table.shared.table_id }

abbrev pub ghosts-run_jobs-B-Ledger : goal.ghosts-run_jobs-B-Ledger
ghosts-run_jobs-B-Ledger g a = record { name = a.fresh.blank.name; parts = a.fresh.blank.parts }

-- the office has a board where there is to be one
abbrev pub ghosts-run_jobs-B-OfficeBrand : goal.ghosts-run_jobs-B-OfficeBrand
ghosts-run_jobs-B-OfficeBrand g a = record { boarded = a.board }
