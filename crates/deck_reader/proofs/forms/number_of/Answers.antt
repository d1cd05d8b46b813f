use Rattle.std.proofs.Common.{◌≡◌, ◌+◌, ◌*◌, ◌∙◌, ◌&&◌, ◌<◌, ◌==◌, arith, sym, ap, drop, length, get_or, ℕ, Bool, true, false, Some}
use Rattle.std.proofs.lemmas.Bool.Decides.{nat_tests}
use Rattle.std.proofs.lemmas.List.{at_drop_more, at_drop_all}
use Rattle.std.specs.List.{list_all}
use Rattle.std.specs.Option.{option_map}
use Rattle.std.specs.Str.Parse.{digits_value_after, digits_value}
use Rattle.std.specs.Char.{digit_value}
use Rattle.deck_reader.specs.Forms.{is_digit, in_32_bits}
use Rattle.deck_reader.proofs.Digits.{in_32_bits-after, digit_value_is, ascii_digit_is, number_of_digits}
use Rattle.deck_reader.proofs.forms.number_of.Goals as goal

pub loop-digit-preserved : goal.loop-digit-preserved
loop-digit-preserved c =
    let digits = c.args.digits.now in
    let i = c.loop-digit.digit-index in
    let d = get_or digits i 0 in
    let v = c.loop-digit.value in
    let rest = drop (i + 1) digits in
    let digit : is_digit d ≡ true = ascii_digit_is d (sym c.is_ascii_digit.ensures.value ∙ c.if-not-is_ascii_digit.false) in
    let here : digit_value d ≡ c.from.result = digit_value_is d digit ∙ sym c.from.ensures in
    let now : c.saturating_add-value.result ≡ in_32_bits (v * 10 + digit_value d) = omega arith in (
      sym (at_drop_more (list_all is_digit) digits i 0 (omega arith) ∙ ap (λ (b : Bool). b && list_all is_digit rest) digit) ∙ c.loop-digit.invariant.0,
      ap (λ (n : ℕ). in_32_bits (digits_value_after 10 n rest)) now
          ∙ in_32_bits-after (v * 10 + digit_value d) rest
          ∙ sym (ap in_32_bits (at_drop_more (digits_value_after 10 v) digits i 0 (omega arith)))
          ∙ c.loop-digit.invariant.1,
      omega arith,
    )

pub returns : goal.returns
returns c =
    let digits = c.args.digits.now in
    let i = c.loop-digit.digit-index in
    let v = c.loop-digit.value in
    let test : (length digits == 0) ≡ false = sym c.is_empty.ensures ∙ c.if-is_empty.false in
    let some : 0 < length digits = grind (arith, nat_tests) in
    let all : list_all is_digit digits ≡ true = sym c.loop-digit.invariant.0 ∙ at_drop_all (list_all is_digit) digits i c.loop-digit-test.false in
    let whole : in_32_bits v ≡ in_32_bits (digits_value 10 digits) = sym (ap in_32_bits (at_drop_all (digits_value_after 10 v) digits i c.loop-digit-test.false)) ∙ c.loop-digit.invariant.1 in
    let small : v ≡ in_32_bits v = omega arith in
    ap Some (small ∙ whole) ∙ sym (ap (option_map in_32_bits) (number_of_digits digits some all))
