use Rattle.std.proofs.Common.{◌∙◌, sym, ap}
use Rattle.std.specs.Prelude.{unwrap_or}
use Rattle.command_words.proofs.Orders.{order_is_given}
use Rattle.command_words.proofs.laws.words_say_one_order.Goals as goal

pub returns : goal.returns
returns c = λ words one two h k.
    ap (λ o. unwrap_or o one) (sym (order_is_given words one h) ∙ order_is_given words two k)
