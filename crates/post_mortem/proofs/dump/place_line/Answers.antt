use Rattle.std.proofs.Common.{arith, rules, Fits, w8, w16, ◌≡◌, ◌≤◌, decimal, codes, length, refl}
use Rattle.std.proofs.lemmas.Fmt.{length-decimal-le}
use Rattle.post_mortem.proofs.Cut.{three_fit}
use Rattle.post_mortem.proofs.dump.place_line.Goals as goal

pub returns : goal.returns
returns c =
    let card_fits : Fits w16 c.args.place.card = search rules in
    let column_fits : Fits w8 c.args.place.column = search rules in
    let of_card : length (decimal c.args.place.card) ≤ 5 = length-decimal-le 5 c.args.place.card (omega arith) (omega (arith, card_fits)) (omega (arith, card_fits)) in
    let of_column : length (decimal c.args.place.column) ≤ 3 = length-decimal-le 3 c.args.place.column (omega arith) (omega (arith, column_fits)) (omega (arith, column_fits)) in
    let comma : length (codes ",") ≡ 1 = refl in
    let empty = rw c.new-line.ensures at c.append_number.ensures in
    let card = rw c.from.ensures at empty in
    let column = rw c.from-2.ensures at c.append_number-2.ensures in
    three_fit (decimal c.args.place.card) (codes ",") (decimal c.args.place.column) _ _ _ (omega (arith, of_card, of_column, comma)) card c.append.ensures column
