-- What an office with a board keeps, and one without.
use Rattle.std.specs.Prelude.{◌≡◌, Bool, Option, Some, None, is_some}
use Rattle.crossbeam_utils.specs.Seq.{cell_view}
use Rattle.office.specs.declared.posting.Posting.{Posting}
use Rattle.office.specs.Posted.{HasPosted}
use Rattle.office.specs.Register.{RegisterView}

-- the journal of a register is posted, where there is a board
abbrev pub IsPosted : RegisterView → Option Posting → Type 0
IsPosted r None = Unit {0}
IsPosted r (Some p) = HasPosted r.core.openings r.journal (cell_view p.writer.pass)

-- and there is one or not, as is said
pub record Shows (boarded : Bool) (r : RegisterView) (posting : Option Posting) : Type 0 where
  pub there : is_some posting ≡ boarded
  pub posted : IsPosted r posting
