-- What a name stands for fits.
use Rattle.std.proofs.Common.{ℕ, ◌<◌, ◌==◌, Bool, true, false, [], ◌∷◌, length}
use Rattle.std.specs.List.{All}
use Rattle.std.proofs.lemmas.List.Elements.{All-head, All-tail}
use Rattle.symbol_table.specs.declared.standings.Standing.{Standing}
use Rattle.symbol_table.specs.Contexts.{Scene, SceneFits, StandingFits}
use Rattle.symbol_table.specs.Standings.{Names, standing_of}

abbrev NameFits : Scene → ℕ × Standing → Type 0
NameFits s x = (x.0 < length s.given.names) × StandingFits s x.1

pub standing_fits : (s : Scene) → SceneFits s → (n : ℕ) → StandingFits s (standing_of s.symbols.names n)
standing_fits s fits n = found s.symbols.names fits.names
  where
    found : (names : Names) → All (NameFits s) names → StandingFits s (standing_of names n)
    found [] a = tt
    found (x ∷ names) a = go (x.0 == n) (All-head (NameFits s) x names a).1 (found names (All-tail (NameFits s) x names a))
      where
        go : (b : Bool) → StandingFits s x.1 → StandingFits s (standing_of names n) → StandingFits s (elim b [ true ↦ x.1 | false ↦ standing_of names n ])
        go true h more = h
        go false h more = more
