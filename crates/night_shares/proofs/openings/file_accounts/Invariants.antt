use Rattle.std.proofs.Common.{◌≡◌}
use Rattle.night_shares.specs.Openings.{FilesOpenings}
use Rattle.night_shares.proofs.openings.file_accounts.Given as goal

-- the accounts files of the first chains are filed
abbrev pub invariant-loop-chain : goal.invariant-loop-chain
invariant-loop-chain g l =
    (g.D.Shelf.faults l.shelf ≡ g.D.Shelf.faults l.fn.shelf) × FilesOpenings (g.D.Shelf.filed l.fn.shelf) (g.D.Shelf.filed l.shelf) l.chains l.accounts l.chain
