use Rattle.std.proofs.Common.{◌≡◌, ◌++◌, ◌∷◌, [], IfSome, map, take, sym, ap, ◌∙◌, subst}
use Rattle.post_mortem.specs.Dump.{dump_text}
use Rattle.stack_machine.specs.Dumped as dumped
use Rattle.stack_machine.proofs.DumpLines.{nothing_more, no_name_lines}
use Rattle.stack_machine.proofs.dump.dump_name.Goals as goal

pub returns-in_default : goal.returns-in_default
returns-in_default c =
    let lines = c.args.lines.now.items in
    let none = no_name_lines c.args.code.now c.args.state.now c.entry.result c.in_default.not-Name c.in_default.not-ProcedureName in
    record {
      room = c.requires.room;
      added = subst (λ o. IfSome o (λ e. lines ≡ take 40 (lines ++ map dump_text (dumped.name_lines c.args.code.now c.args.state.now (e ∷ []))))) (sym c.entry.ensures)
          (nothing_more lines c.requires.few ∙ ap (λ es. take 40 (lines ++ map dump_text es)) (sym none));
    }
