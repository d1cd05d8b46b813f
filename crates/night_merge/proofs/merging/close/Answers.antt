use Rattle.std.proofs.Common.{◌∙◌}
use Rattle.night_merge.specs.declared.stop.Stop.TheVariants.{NoMemory, WriteFault}
use Rattle.night_merge.proofs.Nights.{nothing_yet, prefix_so, stopped, whole_prefix, wrote_so}
use Rattle.night_merge.proofs.merging.close.Goals as goal

pub returns-in_err-closing-clause-cut : goal.returns-in_err-closing-clause-cut
returns-in_err-closing-clause-cut g c = stopped c.from_residual.result NoMemory _ c.from_residual.ensures.1 (tt, nothing_yet _ _, nothing_yet _ _)

pub returns-in_err-write_all-clause-cut : goal.returns-in_err-write_all-clause-cut
returns-in_err-write_all-clause-cut g c =
    stopped c.from_residual-in_err-write_all.result WriteFault _ c.from_residual-in_err-write_all.ensures.1
    (tt, prefix_so _ _ _ _ (c.as_slice.ensures.value ∙ c.in_ok-closing.ensures) c.in_err-write_all.ensures.err, nothing_yet _ _)

pub returns-in_err-file-clause-cut : goal.returns-in_err-file-clause-cut
returns-in_err-file-clause-cut g c =
    stopped c.from_residual-in_err-file.result NoMemory _ c.from_residual-in_err-file.ensures.1
    (tt, whole_prefix _ _ _ (wrote_so _ _ _ _ (c.as_slice.ensures.value ∙ c.in_ok-closing.ensures) c.in_ok-write_all.ensures.ok), nothing_yet _ _)

pub returns-in_err-write_all-2-clause-cut : goal.returns-in_err-write_all-2-clause-cut
returns-in_err-write_all-2-clause-cut g c =
    stopped c.from_residual-in_err-write_all-2.result WriteFault _ c.from_residual-in_err-write_all-2.ensures.1 (
      tt,
      whole_prefix _ _ _ (wrote_so _ _ _ _ (c.as_slice.ensures.value ∙ c.in_ok-closing.ensures) c.in_ok-write_all.ensures.ok),
      prefix_so _ _ _ _ (c.as_slice-2.ensures.value ∙ c.in_ok-file.ensures) c.in_err-write_all-2.ensures.err,
    )

pub returns-clause-written : goal.returns-clause-written
returns-clause-written g c = (
  wrote_so _ _ _ _ (c.as_slice.ensures.value ∙ c.in_ok-closing.ensures) c.in_ok-write_all.ensures.ok,
  wrote_so _ _ _ _ (c.as_slice-2.ensures.value ∙ c.in_ok-file.ensures) c.in_ok-write_all-2.ensures.ok,
)
