use Rattle.std.proofs.Common.{◌≡◌, ℕ, ◌<◌, ◌==◌, false, sym, ◌∙◌, vec_len, arith}
use Rattle.std.proofs.lemmas.Bool.Decides.{nat_tests}
use Rattle.deck_reader.proofs.Feeding.{with_last}
use Rattle.deck_reader.proofs.reader.Reader.end_input.Goals as goal

some_items : (n : ℕ) → (n == 0) ≡ false → 0 < n
some_items n h = grind (arith, nat_tests)

pub returns : goal.returns
returns c =
    let some : 0 < vec_len c.args.self.now.under_way = some_items (vec_len c.args.self.now.under_way) (sym c.is_empty.ensures ∙ c.if-is_empty.false) in
    record {
      read = λ given taken input stands. with_last given c.args.self.now c.end_card.new.self.reading taken input stands.few_bytes stands.has_read (omega (arith, c.args.self.now.under_way.ok)) (c.in_ok-end_card.ensures.read given taken);
    }
