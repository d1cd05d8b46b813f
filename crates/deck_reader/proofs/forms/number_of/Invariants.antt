use Rattle.std.proofs.Common.{◌≡◌, ◌≤◌, drop}
use Rattle.std.specs.List.{list_all}
use Rattle.std.specs.Str.Parse.{digits_value_after}
use Rattle.deck_reader.specs.Forms.{is_digit, in_32_bits}
use Rattle.deck_reader.proofs.forms.number_of.Given as goal

abbrev pub invariant-loop-digit : goal.invariant-loop-digit
invariant-loop-digit l = (list_all is_digit (drop l.digit-index l.digits) ≡ list_all is_digit l.digits) × (in_32_bits (digits_value_after 10 l.value (drop l.digit-index l.digits)) ≡ in_32_bits (digits_value_after 10 0 l.digits)) × (l.value ≤ 4294967295)
