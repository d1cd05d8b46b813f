use Rattle.std.proofs.Common.{◌≡◌, ◌≤◌, ◌==◌, ◌+◌, ◌-◌, ◌∷◌, ◌++◌, [], List, ℕ, drop, length, length-take, sym, ap, ◌∙◌, arith, append_assoc}
use Rattle.std.specs.List.{list_any, slice_range}
use Rattle.std.proofs.lemmas.List.{length-append}
use Rattle.deck_reader.proofs.Cuts.{parted-is, parted-none}
use Rattle.night_shares.specs.Reading.{held}
use Rattle.night_shares.proofs.FirstLines.{held_on, nothing_between}
use Rattle.night_shares.proofs.lines.Lines.take_line.Goals as goal

pub returns-in_default : goal.returns-in_default
returns-in_default c =
    let from = c.args.self.now.from in
    let to = c.args.self.now.to in
    let here : slice_range c.deref.result.now from to ≡ held c.args.self.now = ap (λ (xs : List ℕ). slice_range xs from to) c.deref.ensures.value in (
      ap (list_any (λ b. b == 10)) (sym here) ∙ parted-none 10 (slice_range c.deref.result.now from to) c.in_default.ensures.parts,
      nothing_between c.args.self.now.buffer.items to,
      c.in_ok-extend_from_slice.ensures.items ∙ ap (λ (t : List ℕ). c.args.line.now.items ++ t) here,
    )

pub returns : goal.returns
returns c =
    let from = c.args.self.now.from in
    let to = c.args.self.now.to in
    let front = c.in-Some.front.now in
    let behind = c.in-Some.field-0-1.now in
    let here : slice_range c.deref.result.now from to ≡ held c.args.self.now = ap (λ (xs : List ℕ). slice_range xs from to) c.deref.ensures.value in
    let part = parted-is 10 (slice_range c.deref.result.now from to) front behind c.in-Some.ensures.parts in
    let whole : held c.args.self.now ≡ front ++ 10 ∷ behind = sym here ∙ part.0 in
    let grouped : held c.args.self.now ≡ (front ++ 10 ∷ []) ++ behind = whole ∙ sym (append_assoc front (10 ∷ []) behind) in
    let long : length (front ++ 10 ∷ []) ≡ length front + 1 = omega (arith, length-append front (10 ∷ [])) in
    let order : from ≤ to = c.args.self.now.before in
    let within : from + (length front + 1) ≤ to = omega (arith, order, c.in-Some.ensures.shorter, length-take (to - from) (drop from c.deref.result.now)) in
    let rest = held_on c.args.self.now.buffer.items (front ++ 10 ∷ []) behind from to (length front + 1) within long grouped in (
      front,
      part.1,
      whole ∙ ap (λ (t : List ℕ). front ++ 10 ∷ t) (sym rest),
      c.in_ok-push.ensures.items ∙ ap (λ (t : List ℕ). t ++ 10 ∷ []) c.in_ok-extend_from_slice-2.ensures.items ∙ append_assoc c.args.line.now.items front (10 ∷ []),
    )
