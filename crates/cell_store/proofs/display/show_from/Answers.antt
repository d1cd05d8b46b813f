use Rattle.std.proofs.Common.{◌≡◌, ◌≤◌, ◌<◌, Option, None, Some, ℕ, get_or, sym, ap, ◌∙◌, subst, arith, length}
use Rattle.std.proofs.lemmas.Option.{slice_get-get_or}
use Rattle.std.proofs.lemmas.Bool.{iff_false}
use Rattle.cell_store.specs.Displays.{IsDisplay, HasText, level_in, levels_of}
use Rattle.cell_store.proofs.Links.{level_low}
use Rattle.cell_store.proofs.Filling.{IsFilled, filled, shown_whole, program_stands, frame_there, has_level}
use Rattle.cell_store.proofs.display.show_from.Goals as goal

pub unreachable-requires : goal.unreachable-requires
unreachable-requires c =
    let d = c.requires.shown in
    let g = subst (λ (t : Option ℕ). IsFilled c.args.frames.now (levels_of c.args.entered.now) c.args.text c.args.shown.now (level_in (levels_of c.args.entered.now) c.args.text) c.loop-here.at t c.loop-here.shown) c.in_default.is c.loop-here.invariant in
    iff_false c.shows.ensures c.loop-here-test.true
    (subst (λ (t : Option ℕ). HasText c.loop-here.shown c.args.innermost c.loop-here.at t) (sym c.in_default.is)
    (program_stands c.args.frames.now (levels_of c.args.entered.now) d.1.rising c.args.text d.0 c.args.shown.now c.loop-here.shown c.args.innermost c.loop-here.at d.1 g))

pub bounds-shown-at : goal.bounds-shown-at
bounds-shown-at c =
    let low = level_low c.args.frames.now (levels_of c.args.entered.now) c.requires.shown.1.rising c.args.text c.requires.there in
    let within = c.loop-here.invariant.within in
    omega (arith, low, within, c.requires.places)

pub overflow_sub-at : goal.overflow_sub-at
overflow_sub-at c =
    let frames = c.args.frames.now in
    let are = c.requires.shown.1.rising in
    has_level frames (levels_of c.args.entered.now) are c.args.text c.in-Some.number c.args.shown.now c.loop-here.shown _ c.loop-here.at
    (frame_there frames (levels_of c.args.entered.now) are c.args.text c.loop-here.here c.in-Some.number c.args.shown.now c.loop-here.shown _ c.loop-here.at c.loop-here.invariant c.in-Some.is)

pub loop-here-smaller : goal.loop-here-smaller
loop-here-smaller c = let one = overflow_sub-at c in omega (arith, one)

pub loop-here-preserved : goal.loop-here-preserved
loop-here-preserved c =
    let frames = c.args.frames.now in
    let are = c.requires.shown.1.rising in
    let low = level_low frames (levels_of c.args.entered.now) are c.args.text c.requires.there in
    let g = frame_there frames (levels_of c.args.entered.now) are c.args.text c.loop-here.here c.in-Some.number c.args.shown.now c.loop-here.shown _ c.loop-here.at c.loop-here.invariant c.in-Some.is in
    filled frames (levels_of c.args.entered.now) are c.args.text c.args.shown.now _ c.loop-here.at c.in-Some.number _ c.loop-here.shown g (slice_get-get_or frames c.in-Some.number _ g.there) (omega (arith, low, c.requires.places))

pub returns-clause-shown : goal.returns-clause-shown
returns-clause-shown c =
    let d = c.requires.shown in
    shown_whole c.args.frames.now (levels_of c.args.entered.now) d.1.rising c.args.text d.0 c.loop-here.here c.args.shown.now c.loop-here.shown c.args.innermost c.loop-here.at c.requires.there c.requires.few d.1 c.loop-here.invariant
    (c.shows.ensures.0 c.loop-here-test.false)
