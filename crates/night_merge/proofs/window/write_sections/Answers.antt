use Rattle.std.proofs.Common.{◌≡◌, ℕ, ◌+◌, List, drop, length, refl, ap, ◌∙◌, arith}
use Rattle.night_merge.specs.declared.stop.Stop.TheVariants.{WriteFault}
use Rattle.night_merge.proofs.Results.{match_this, memory_fault}
use Rattle.night_merge.proofs.Supplying.{enough_now, joining_at, joining_begins, joining_cut, joining_cut_more, joining_more, joining_number, joining_same, written_back}
use Rattle.night_merge.proofs.window.write_sections.Goals as goal

pub loop-at-init : goal.loop-at-init
loop-at-init g c = (
  omega (arith, c.in_ok-taken.ensures.len, c.in_ok-taken.taken.ok.0),
  refl,
  λ supply has below enough.
      joining_number c.args.rests.now c.in_ok-taken.taken.items c.args.window.entries.now c.args.window.first (c.args.window.first + 0) _ _ _ (omega arith)
      (joining_begins supply c.args.rests.now c.in_ok-taken.taken.items (length c.args.rests.now) c.args.window.entries.now c.args.window.first _ (c.in_ok-taken.ensures.items_if_clones_equal (λ y e. e)) has below enough),
)

pub returns-in_err-section-clause-joined : goal.returns-in_err-section-clause-joined
returns-in_err-section-clause-joined g c = λ supply has below enough.
    let entries = c.args.window.entries.now in
    let number = c.args.window.first + c.loop-at.at in
    let rest = drop (c.loop-at.at + 1) entries in
    let s =
    joining_at c.args.rests.now c.loop-at.taken.items c.as_mut_slice.result.now entries c.loop-at.at c.entry-item.result number _ _ _ c.as_mut_slice.ensures.value c.loop-at-test.true c.entry-item.is
    (c.loop-at.invariant.2 supply has below enough) in
    let next = enough_now (length c.args.rests.now) s.supply c.entry-item.result rest s.below.0 s.enough in
    match_this c.from_residual-in_err-section.result c.in_err-section.field-0.0 _ _ c.from_residual-in_err-section.ensures.1
    (joining_cut _ _ _ _ _ _ _ s, memory_fault c.in_err-section.field-0.0 (c.in_err-section.ensures.section s.supply s.has next))

pub returns-in_err-write_all-clause-joined : goal.returns-in_err-write_all-clause-joined
returns-in_err-write_all-clause-joined g c = λ supply has below enough.
    let entries = c.args.window.entries.now in
    let number = c.args.window.first + c.loop-at.at in
    let rest = drop (c.loop-at.at + 1) entries in
    let s =
    joining_at c.args.rests.now c.loop-at.taken.items c.as_mut_slice.result.now entries c.loop-at.at c.entry-item.result number _ _ _ c.as_mut_slice.ensures.value c.loop-at-test.true c.entry-item.is
    (c.loop-at.invariant.2 supply has below enough) in
    let next = enough_now (length c.args.rests.now) s.supply c.entry-item.result rest s.below.0 s.enough in
    let read = c.in_ok-section.ensures.section s.supply s.has next in
    match_this c.from_residual-in_err-write_all.result WriteFault _ _ c.from_residual-in_err-write_all.ensures.1
    (joining_cut_more _ _ c.entry-item.result rest number _ _ _ _ c.as_slice.result.now s (c.as_slice.ensures.value ∙ read.0) c.in_err-write_all.ensures.err, tt)

pub loop-at-preserved : goal.loop-at-preserved
loop-at-preserved g c =
    let same : c.loop-at.taken.len ≡ length c.section_of.new.taken =
    omega (arith, c.loop-at.taken.ok.0, c.section_of.auto.taken, ap (λ (l : List ℕ). length l) c.as_mut_slice.ensures.value) in
    let back = written_back c.section_of.new.taken c.loop-at.taken.items c.loop-at.taken.len same in (
      omega (arith, ap (λ (l : List ℕ). length l) back, same, c.loop-at.taken.ok.0, c.loop-at.invariant.0),
      c.in_ok-write_all.ensures.cause.same ∙ c.loop-at.invariant.1,
      λ supply has below enough.
          let entries = c.args.window.entries.now in
          let number = c.args.window.first + c.loop-at.at in
          let rest = drop (c.loop-at.at + 1) entries in
          let s =
          joining_at c.args.rests.now c.loop-at.taken.items c.as_mut_slice.result.now entries c.loop-at.at c.entry-item.result number _ _ _ c.as_mut_slice.ensures.value c.loop-at-test.true c.entry-item.is
          (c.loop-at.invariant.2 supply has below enough) in
          let next = enough_now (length c.args.rests.now) s.supply c.entry-item.result rest s.below.0 s.enough in
          let read = c.in_ok-section.ensures.section s.supply s.has next in
          joining_same c.args.rests.now c.section_of.new.taken _ rest (c.args.window.first + (c.loop-at.at + 1)) _ _ _ back
          (joining_number c.args.rests.now c.section_of.new.taken rest (number + 1) (c.args.window.first + (c.loop-at.at + 1)) _ _ _ (omega arith)
          (joining_more _ _ c.section_of.new.taken c.entry-item.result rest number _ _ _ _ c.as_slice.result.now s (c.as_slice.ensures.value ∙ read.0) read.1 c.in_ok-write_all.ensures.ok)),
    )
