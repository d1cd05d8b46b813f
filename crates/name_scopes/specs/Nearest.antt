-- Where a name is looked for next, by its mark.
use Rattle.std.specs.Prelude.{◌≡◌, ℕ, ◌<◌, List, Option, Some, None, length, slice_index_or}
use denote.Ref.{Bor}
use Rattle.algolw_typing.specs.Names.{Path, declared}
use Rattle.name_scopes.specs.Marks.{mark_of}

-- the path that is kept, or that of the standard names
abbrev pub kept_or : {A : Type 0} → Path A → Option (Bor (Path A)) → Path A
kept_or standard None = standard
kept_or standard (Some p) = p.now

-- For each of so many marks a path along which names with that mark mean what they mean along this one. What is kept is of fewer scopes than
-- most.
pub record Nearest {A : Type 0} (standard path : Path A) (marks most : ℕ) (nearest : List (Option (Bor (Path A)))) : Type 0 where
  pub each : length nearest ≡ 64
  pub alike : (x : List ℕ) → mark_of x < marks → declared (kept_or standard (slice_index_or nearest (mark_of x) None)) x ≡ declared path x
  pub fewer : (i : ℕ) (p : Bor (Path A)) → slice_index_or nearest i None ≡ Some p → length p.now < most
