use Rattle.unit_tests.proofs.tickets.four_tickets.Given as goal

abbrev pub ghosts-four_in_three-B-QueueBrand : goal.ghosts-four_in_three-B-QueueBrand
ghosts-four_in_three-B-QueueBrand g a = record { table = a.fresh.ring.table.shared.table_id }

abbrev pub ghosts-four_in_three-B-Ledger : goal.ghosts-four_in_three-B-Ledger
ghosts-four_in_three-B-Ledger g a = record { name = a.fresh.blank.name; parts = a.fresh.blank.parts }
