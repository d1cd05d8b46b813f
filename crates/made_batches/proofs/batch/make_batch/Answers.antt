use Rattle.std.proofs.Common.{◌≡◌, ◌++◌, ◌∙◌, ◌+◌, ◌/◌, ℕ, List, sym, ap, append_assoc}
use Rattle.made_batches.specs.Decks.{cards_of, deck_by, filled, in_line, in_lines}
use Rattle.made_batches.specs.Draws.{next}
use Rattle.made_batches.specs.MadeBatch.{head_card, number_by}
use Rattle.made_batches.proofs.Filling.{batch_more, state_more}
use Rattle.made_batches.proofs.batch.make_batch.Goals as goal

pub loop-made-preserved : goal.loop-made-preserved
loop-made-preserved c =
    let state = c.loop-made.draws.state in
    let first : c.draw.result ≡ next state / 65536 = c.draw.ensures.value ∙ ap (λ (x : ℕ). x / 65536) c.draw.ensures.state in
    let behind : c.draw-in-loop-made.new.self.state ≡ next (next state) = c.draw-in-loop-made.ensures.state ∙ ap next c.draw.ensures.state in
    let second : c.draw-in-loop-made.result ≡ next (next state) / 65536 = c.draw-in-loop-made.ensures.value ∙ ap (λ (x : ℕ). x / 65536) behind in
    let text : c.text.result.now ≡ in_lines (cards_of (deck_by (next state / 65536))) =
    c.text.ensures ∙ ap (λ deck. in_lines (cards_of deck)) (c.by-deck.ensures ∙ ap deck_by first) in
    let items : c.push_filled.new.out.items ≡ (c.loop-made.batch.items ++ in_line (head_card (c.loop-made.made + 1))) ++ filled (number_by (next (next state) / 65536)) (in_lines (cards_of (deck_by (next state / 65536)))) =
    c.in_ok-push_filled.ensures
    ∙ ap (λ (bytes : List ℕ). bytes ++ filled (number_by c.draw-in-loop-made.result) c.text.result.now) c.in_ok-push_head.ensures
    ∙ ap (λ (bytes : List ℕ). (c.loop-made.batch.items ++ in_line (head_card (c.loop-made.made + 1))) ++ filled (number_by c.draw-in-loop-made.result) bytes) text
    ∙ ap (λ (n : ℕ). (c.loop-made.batch.items ++ in_line (head_card (c.loop-made.made + 1))) ++ filled (number_by n) (in_lines (cards_of (deck_by (next state / 65536))))) second in (
      items
          ∙ append_assoc c.loop-made.batch.items (in_line (head_card (c.loop-made.made + 1))) (filled (number_by (next (next state) / 65536)) (in_lines (cards_of (deck_by (next state / 65536)))))
          ∙ ap (λ (bytes : List ℕ). bytes ++ (in_line (head_card (c.loop-made.made + 1)) ++ filled (number_by (next (next state) / 65536)) (in_lines (cards_of (deck_by (next state / 65536)))))) c.loop-made.invariant.0
          ∙ sym (batch_more c.args.seed c.loop-made.made state c.loop-made.invariant.1),
      behind ∙ state_more c.args.seed c.loop-made.made state c.loop-made.invariant.1,
    )
