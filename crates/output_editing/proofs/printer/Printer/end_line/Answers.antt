use Rattle.output_editing.proofs.Pages.{page-break}
use Rattle.output_editing.proofs.printer.Printer.end_line.Goals as goal

pub returns-clause-printed : goal.returns-clause-printed
returns-clause-printed c = λ pieces is. rw c.close_line.ensures (page-break c.args.self.now pieces is)
