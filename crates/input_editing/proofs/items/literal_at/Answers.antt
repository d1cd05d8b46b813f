use Rattle.std.proofs.Common.{◌≡◌, drop, ◌+◌, true, false, sym, ap, ◌∙◌}
use Rattle.std.proofs.lemmas.List.{take_rest}
use Rattle.input_editing.specs.Scanning.{begins_with_quote}
use Rattle.input_editing.proofs.Literals.{read_close, read_pair, read_other}
use Rattle.input_editing.proofs.items.literal_at.Goals as goal
use Rattle.input_editing.proofs.items.literal_at.Goals.{then-character-eq34+else-not-begins_with_quote-2, else-character-eq34}

pub returns-then-not-begins_with_quote-2-clause-parts :
    goal.returns-then-not-begins_with_quote-2-clause-parts
returns-then-not-begins_with_quote-2-clause-parts c =
    let line = c.args.line.now in
    let i = c.loop-character.columns in
    let found = c.in-Some.ensures.lookup.3 in
    let closed : begins_with_quote (drop (i + 1) line) ≡ false = sym (ap begins_with_quote (take_rest line (i + 1))) ∙ sym c.if-not-begins_with_quote-2.ensures in
    read_close line c.loop-character.text i c.in-Some.character.now c.loop-character.invariant found.0 (found.1 0) c.if-character-eq34.true closed

pub loop-character-preserved : goal.loop-character-preserved
loop-character-preserved c =
    let line = c.args.line.now in
    let i = c.loop-character.columns in
    let found = c.in-Some.ensures.lookup.3 in
    elim c.if-character-eq34.branch [
      | then-character-eq34+else-not-begins_with_quote-2 w ↦
          (let pair : begins_with_quote (drop (i + 1) line) ≡ true = sym (ap begins_with_quote (take_rest line (i + 1))) ∙ sym w.begins_with_quote-then-character-eq34.ensures ∙ w.if-not-begins_with_quote-2.false in
          read_pair line c.loop-character.text c.push.new.self i c.if-character-eq34.columns c.in-Some.character.now c.loop-character.invariant found.0 (found.1 0) w.if-character-eq34.true pair w.columns-is c.push.ensures)
      | else-character-eq34 w ↦
          read_other line c.loop-character.text c.push.new.self i c.if-character-eq34.columns c.in-Some.character.now c.loop-character.invariant found.0 (found.1 0) w.if-character-eq34.false w.columns-is c.push.ensures
    ]
