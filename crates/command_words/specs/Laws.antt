-- What the form of the command words keeps.
use Rattle.std.specs.Prelude.{List, ◌≡◌}
use Rattle.command_words.specs.declared.order.Order.{Order}
use Rattle.command_words.specs.Form.{IsOrder, Text}

-- a list of words says at most one order
abbrev pub WordsSayOneOrder : Type 0
WordsSayOneOrder = (words : List Text) (one two : Order) → IsOrder words one → IsOrder words two → one ≡ two
