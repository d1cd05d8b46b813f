use Rattle.printed_lines.proofs.Runs.{runs_print_texts}
use Rattle.printed_lines.proofs.laws.runs_print_texts.Goals as goal

pub returns : goal.returns
returns c = runs_print_texts
