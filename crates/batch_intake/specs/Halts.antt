-- Why a listing isn't written whole.
use Rattle.std.specs.Prelude.{ℕ, ◌≡◌, ◌⊎◌, true, List, Option}
use Rattle.std.specs.Io.KnownBytes.{Consumes, IsAtEnd}
use Rattle.deck_reader.specs.declared.reader.FeedError.{FeedError}
use Rattle.deck_reader.specs.declared.reader.FeedError.TheVariants as feed
use Rattle.deck_reader.specs.Batch.{passes, too_large}
use Rattle.batch_intake.specs.declared.halt.Halt.{Halt}
use Rattle.batch_intake.specs.declared.halt.Halt.TheVariants.{NoMemory, TooLarge}

abbrev pub halt_of : FeedError → Halt
halt_of feed.TooLarge = TooLarge
halt_of feed.NoMemory = NoMemory

-- what was read passes a limit whatever comes behind it, or is the whole source and too large
pub record IsTooLarge (left left' : Option (List ℕ)) : Type 0 where
  pub input : List ℕ
  pub read : Consumes left left' input
  pub large : (passes input ≡ true) ⊎ (IsAtEnd left' × (too_large input ≡ true))
