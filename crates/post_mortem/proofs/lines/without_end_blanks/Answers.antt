use Rattle.post_mortem.proofs.Cut.{take-trimmed}
use Rattle.post_mortem.proofs.lines.without_end_blanks.Goals as goal

pub returns : goal.returns
returns c = simp (c.append.ensures, c.new-shorter.ensures, c.without_blanks.ensures, c.as_slice.ensures.value) (take-trimmed 132 c.args.line.now c.as_slice.ensures.short)
