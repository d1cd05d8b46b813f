use Rattle.std.proofs.Common.{get_or, arith}
use Rattle.std.proofs.lemmas.List.{drop_more}
use Rattle.machine_calls.specs.Fitting as fitting
use Rattle.machine_calls.proofs.Fits.{text_within, part_there, one_more, unfit}
use Rattle.machine_calls.proofs.comparing.actuals_fit.Goals as goal

pub text_at-text-requires : goal.text_at-text-requires
text_at-text-requires c = text_within c.args.code.now c.args.store.now c.args.formals.now c.args.heads.now c.loop-index.index c.loop-index.invariant.rest c.loop-index-test.true (get_or c.args.heads.now c.loop-index.index 0) (drop_more c.args.heads.now c.loop-index.index 0 (omega (arith, c.loop-index-test.true, c.if-formals-heads.false)))

pub part_of-part-requires-clause-found : goal.part_of-part-requires-clause-found
part_of-part-requires-clause-found c = part_there c.args.code.now c.args.store.now c.args.formals.now c.args.heads.now c.loop-index.index c.loop-index.invariant.rest _ _ (drop_more c.args.formals.now c.loop-index.index _ c.loop-index-test.true) (drop_more c.args.heads.now c.loop-index.index 0 (omega (arith, c.loop-index-test.true, c.if-formals-heads.false))) c.text_at-text.result c.text_at-text.ensures.is

pub returns-then-not-fits_formal : goal.returns-then-not-fits_formal
returns-then-not-fits_formal c = unfit c.args.code.now c.args.store.now c.args.formals.now c.args.heads.now c.loop-index.index c.loop-index.invariant.rest _ _ (drop_more c.args.formals.now c.loop-index.index _ c.loop-index-test.true) (drop_more c.args.heads.now c.loop-index.index 0 (omega (arith, c.loop-index-test.true, c.if-formals-heads.false))) c.text_at-text.result c.text_at-text.ensures.is (fitting.part_view c.args.code.now.given c.part_of-part.result) c.part_of-part.ensures.is c.fits_formal.result c.fits_formal.ensures c.if-not-fits_formal.true c.if-formals-heads.false

pub loop-index-preserved : goal.loop-index-preserved
loop-index-preserved c = record { rest = one_more c.args.code.now c.args.store.now c.args.formals.now c.args.heads.now c.loop-index.index c.loop-index.invariant.rest _ _ (drop_more c.args.formals.now c.loop-index.index _ c.loop-index-test.true) (drop_more c.args.heads.now c.loop-index.index 0 (omega (arith, c.loop-index-test.true, c.if-formals-heads.false))) c.text_at-text.result c.text_at-text.ensures.is (fitting.part_view c.args.code.now.given c.part_of-part.result) c.part_of-part.ensures.is c.fits_formal.result c.fits_formal.ensures c.if-not-fits_formal.false }
