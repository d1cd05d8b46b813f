use Rattle.std.proofs.Common.{◌≡◌, ◌++◌, drop}
use Rattle.night_shares.specs.Jobs.{libraries_text}
use Rattle.night_shares.proofs.libraries.libraries_text.Given as goal

-- the libraries that are added and those to come are all
abbrev pub invariant-loop-library : goal.invariant-loop-library
invariant-loop-library l = l.text.items ++ libraries_text (drop l.library-index l.shelf) ≡ libraries_text l.shelf
