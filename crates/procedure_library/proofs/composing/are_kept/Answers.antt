use Rattle.std.proofs.Common.{◌∙◌}
use Rattle.procedure_library.proofs.Trees.{all_kept}
use Rattle.procedure_library.proofs.composing.are_kept.Goals as goal

pub returns : goal.returns
returns c = c.each_is_kept.ensures ∙ all_kept c.args.decls.now
