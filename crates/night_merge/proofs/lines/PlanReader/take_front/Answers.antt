use Rattle.std.proofs.Common.{◌≡◌, ℕ, ◌-◌, ◌++◌, List, drop, take, ap, sym, ◌∙◌}
use Rattle.deck_reader.proofs.Fields.{from_not_parted, from_parted}
use Rattle.listing_parts.specs.Lines.{is_line}
use Rattle.night_merge.proofs.Feeds.{behind_front, line_from_lacks, none_behind, slice_is}
use Rattle.night_merge.proofs.lines.PlanReader.take_front.Goals as goal

pub returns-in_ok-extend_from_slice-in-Some : goal.returns-in_ok-extend_from_slice-in-Some
returns-in_ok-extend_from_slice-in-Some c =
    let left : List ℕ = take (c.self.inside.filled - c.self.inside.taken) (drop c.self.inside.taken c.deref.result.now) in
    let is : left ≡ drop c.self.inside.taken (take c.self.inside.filled c.self.inside.buffer.items) =
    slice_is c.self.inside.buffer.items c.deref.result.now c.self.inside.taken c.self.inside.filled c.deref.ensures.value c.self.invariant.0 in
    let parts = from_parted 10 left c.in-Some.front.now c.in-Some.field-0-1.now c.in-Some.ensures.parts in
    let behind = behind_front c.self.inside.buffer.items c.in-Some.front.now c.in-Some.field-0-1.now c.self.inside.taken c.self.inside.filled (sym is ∙ parts.0) in (
      c.in-Some.front.now,
      cc (c.self.view_is, is, parts.0, behind),
      c.in_ok-extend_from_slice-in-Some.ensures.items,
      line_from_lacks c.in-Some.front.now parts.1,
    )

pub returns-in_ok-extend_from_slice-in-None : goal.returns-in_ok-extend_from_slice-in-None
returns-in_ok-extend_from_slice-in-None c =
    let left : List ℕ = take (c.self.inside.filled - c.self.inside.taken) (drop c.self.inside.taken c.deref.result.now) in
    let is : left ≡ drop c.self.inside.taken (take c.self.inside.filled c.self.inside.buffer.items) =
    slice_is c.self.inside.buffer.items c.deref.result.now c.self.inside.taken c.self.inside.filled c.deref.ensures.value c.self.invariant.0 in
    let lacks = from_not_parted 10 left c.in-None.ensures.parts in
    let whole : left ≡ c.args.self.now = cc (c.self.view_is, is) in (
      none_behind c.self.inside.buffer.items c.self.inside.filled,
      c.in_ok-extend_from_slice-in-None.ensures.items ∙ ap (λ (l : List ℕ). c.args.line.now.items ++ l) whole,
      ap is_line (sym whole) ∙ line_from_lacks left lacks,
    )
