use Rattle.std.proofs.Common.{sym, subst}
use Rattle.code_emitter.specs.Parts.{scene}
use Rattle.stack_codegen.proofs.DeclaredNames.{AreKnown, array_fits, array_more, item_there}
use Rattle.stack_codegen.proofs.blocks.arrays.Goals as goal

pub append-requires : goal.append-requires
append-requires c =
    let xs = c.deref-name-items.result.now in
    let known : AreKnown (scene c.args.emitter.now) xs = subst (AreKnown (scene c.args.emitter.now)) (sym c.deref-name-items.ensures.value) c.requires.known in
    array_fits xs c.loop-name.name-index _ c.requires.fits known c.loop-name-test.true (item_there xs c.loop-name.name-index _ c.loop-name-test.true) c.args.kind c.requires.kind c.loop-name.invariant

pub loop-name-preserved : goal.loop-name-preserved
loop-name-preserved c =
    let xs = c.deref-name-items.result.now in
    let known : AreKnown (scene c.args.emitter.now) xs = subst (AreKnown (scene c.args.emitter.now)) (sym c.deref-name-items.ensures.value) c.requires.known in
    array_more c.args.here xs c.loop-name.name-index _ c.requires.fits known c.loop-name-test.true (item_there xs c.loop-name.name-index _ c.loop-name-test.true) c.args.kind c.requires.kind c.loop-name.invariant c.in_ok-append.ensures.appended
