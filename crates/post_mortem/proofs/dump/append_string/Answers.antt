use Rattle.std.proofs.Common.{◌≡◌, ◌++◌, List, ℕ, take, ap, ◌∙◌, arith}
use Rattle.std.proofs.lemmas.List.{take_all}
use Rattle.post_mortem.proofs.Cut.{both}
use Rattle.post_mortem.proofs.Pieces.{quoted_so_far, quote_twice, other_once}
use Rattle.post_mortem.proofs.dump.append_string.Goals.{then-character-eq34, else-character-eq34}
use Rattle.post_mortem.proofs.dump.append_string.Goals as goal

pub loop-character-preserved : goal.loop-character-preserved
loop-character-preserved c =
    let behind = λ (piece : List ℕ). take 132 (c.loop-character.line ++ piece) in
    quoted_so_far _ _ _ _ _ c.loop-character-test.true c.loop-character.invariant
    (elim c.if-character-eq34.branch [
      | then-character-eq34 w ↦ w.line-is ∙ w.append-then-character-eq34.ensures ∙ ap behind (quote_twice _ w.if-character-eq34.true)
      | else-character-eq34 w ↦ w.line-is ∙ w.append-else-character-eq34.ensures ∙ ap behind (other_once _ w.if-character-eq34.false)
    ])

pub returns : goal.returns
returns c =
    let whole : take c.loop-character.character-index c.args.string.now ≡ c.args.string.now = take_all _ _ (omega arith) in
    both _ _ _ _ _ (rw whole at c.loop-character.invariant) c.append-2.ensures
