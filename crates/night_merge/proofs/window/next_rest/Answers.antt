use Rattle.std.proofs.Common.{ℕ, List, length, get_or, refl, sym, ap, ◌∙◌, arith}
use Rattle.std.proofs.lemmas.Option.{slice_get_read}
use Rattle.std.specs.Borrow.{Bor}
use Rattle.night_merge.proofs.Supplying.{next_is, next_there, supplies_more}
use Rattle.night_merge.proofs.window.next_rest.Goals as goal

pub returns-in_err-rest : goal.returns-in_err-rest
returns-in_err-rest c = λ supply s within some.
    let own = slice_get_read c.args.rests.now (length c.args.rests.now) c.args.chain c.in_ok-get.field-0.now refl within c.in_ok-get.ensures.lookup.1 in
    let there = next_there supply c.args.rests.now c.args.taken.now c.args.chain c.in_ok-get-2.field-0.now c.in_ok-get.field-0.now s own (sym (c.in_ok-get-2.ensures.lookup.3.1 0)) some in
    absurd (omega (arith, there, c.in_err-rest.ensures.lookup.3, ap (λ (l : List (Bor (List ℕ))). length l) c.deref.ensures.value))

pub returns : goal.returns
returns c = λ supply s within some.
    let items = c.deref.ensures.value in
    let at = c.in_ok-get-2.field-0.now in
    let rest = c.in_ok-rest.field-0.now in
    let own = slice_get_read c.args.rests.now (length c.args.rests.now) c.args.chain c.in_ok-get.field-0.now refl within c.in_ok-get.ensures.lookup.1 in
    let there = next_there supply c.args.rests.now c.args.taken.now c.args.chain at c.in_ok-get.field-0.now s own (sym (c.in_ok-get-2.ensures.lookup.3.1 0)) some in
    let is = c.in_ok-rest.ensures.lookup.1 ∙ ap (λ (l : List (Bor (List ℕ))). get_or l at rest) items in
    let read = slice_get_read c.in_ok-get.field-0.now.items (length c.in_ok-get.field-0.now.items) at rest refl there is in (
      next_is supply c.args.rests.now c.args.taken.now c.args.chain at c.in_ok-get.field-0.now rest s own (sym (c.in_ok-get-2.ensures.lookup.3.1 0)) read,
      supplies_more supply c.args.rests.now c.args.taken.now c.args.chain (get_or c.args.taken.now c.args.chain 0) s c.in_ok-get-2.ensures.lookup.3.0 refl,
    )
