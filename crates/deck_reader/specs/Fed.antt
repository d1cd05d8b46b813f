-- What a reader of a batch stands for.
use Rattle.std.specs.Prelude.{ℕ, ◌≡◌, ◌≤◌, List, Option, None, length, map}
use Rattle.deck_reader.specs.declared.batch.Account.{Account}
use Rattle.deck_reader.specs.declared.reader.FeedError.{FeedError}
use Rattle.deck_reader.specs.declared.reader.Reader.{Reader}
use Rattle.deck_reader.specs.Cards.{cleaned, ended, under_way}
use Rattle.deck_reader.specs.JobView.{JobView}
use Rattle.deck_reader.specs.Reading.{IsReading, put_back}

-- why a reader refuses, where it does
abbrev pub refusal : Reader → Option FeedError
refusal reader = reader.refused

-- how many jobs can be taken
abbrev pub left_to_take : Reader → ℕ
left_to_take reader = length reader.reading.jobs

-- the reader has read these bytes, up to the card under way, and they pass no limit of heads; these jobs were taken from it
pub record HasRead (given : Option (List Account)) (reader : Reader) (taken : List JobView) (input : List ℕ) : Type 0 where
  pub refuses_none : reader.refused ≡ None
  pub under_way_is : reader.under_way.items ≡ under_way input
  pub read : IsReading given (put_back taken reader.reading) (map cleaned (ended input))
  pub few_heads : reader.reading.heads ≤ 2000

-- the reader was fed these bytes, refused none of them, and these of their jobs were taken from it
pub record StandsFor (given : Option (List Account)) (reader : Reader) (taken : List JobView) (input : List ℕ) : Type 0 where
  pub fed_is : reader.fed ≡ length input
  pub few_bytes : length input ≤ 4194304
  pub has_read : HasRead given reader taken input
