-- A job that has ended, as contracts see it.
use Rattle.std.specs.Prelude.{ℕ, List}
use Rattle.deck_reader.specs.JobView.{JobView}
use Rattle.account_book.specs.declared.charges.Counts.{Counts}
use Rattle.algolw_meaning.specs.declared.ending.Ending.{Ending}

pub record EndedView : Type 0 where
  pub job : JobView
  pub body : List ℕ
  pub counts : Counts
  pub ending : Ending
