-- What the command words say.
use Rattle.std.specs.Prelude.{ℕ, ◌≡◌, List, true}
use Rattle.command_words.specs.declared.order.Order.{Order}
use Rattle.command_words.specs.declared.order.Order.TheVariants.{Run, Make, Statement}
use Rattle.command_words.specs.Form.{IsOrder, Text}
use Rattle.batch_monitor.specs.declared.asked.Asked.{Asked}

-- they say no order
abbrev pub SaysNothing : List Text → Type 0
SaysNothing words = (order : Order) → IsOrder words order → ⊥

-- they say that a batch is to be read and run, and what is asked for
pub record SaysRun (words : List Text) (asked : Asked) : Type 0 where
  pub workers : ℕ
  pub queue : ℕ
  pub order : IsOrder words (Run workers queue asked.accounts asked.board)

-- they say so, and ask for an accounts file
pub record SaysAccounts (words : List Text) : Type 0 where
  pub asked : Asked
  pub run : SaysRun words asked
  pub accounts : asked.accounts ≡ true

-- they say that a batch of so many jobs is to be made from a seed, and run
pub record SaysMake (words : List Text) (seed jobs : ℕ) : Type 0 where
  pub workers : ℕ
  pub queue : ℕ
  pub order : IsOrder words (Make seed jobs workers queue)

-- they say that a batch is to be read and run, and the statement of the account with this name to be written
pub record SaysStatement (words : List Text) (name : Text) : Type 0 where
  pub workers : ℕ
  pub queue : ℕ
  pub order : IsOrder words (Statement name workers queue)

-- ---- an order by itself

-- some words say it
pub record IsSaid (order : Order) : Type 0 where
  pub words : List Text
  pub says : IsOrder words order

-- it is to read a batch and run it, and this is asked for
pub record IsRun (order : Order) (asked : Asked) : Type 0 where
  pub workers : ℕ
  pub queue : ℕ
  pub is : order ≡ Run workers queue asked.accounts asked.board

-- it is so, and asks for an accounts file
pub record WithAccounts (order : Order) : Type 0 where
  pub asked : Asked
  pub run : IsRun order asked
  pub accounts : asked.accounts ≡ true

-- it is to make a batch of so many jobs from a seed, and run it
pub record IsMake (order : Order) (seed jobs : ℕ) : Type 0 where
  pub workers : ℕ
  pub queue : ℕ
  pub is : order ≡ Make seed jobs workers queue

-- it is to read a batch and run it, and write the statement of the account with this name
pub record IsStatement (order : Order) (name : Text) : Type 0 where
  pub workers : ℕ
  pub queue : ℕ
  pub is : order ≡ Statement name workers queue
