use Rattle.std.proofs.Common.{◌≡◌, ℕ, ◌+◌, ◌++◌, List, Option, IfSome, codes, drop, get_or, slice_index, refl, sym, ap, ◌∙◌, arith, subst}
use Rattle.std.proofs.lemmas.List.{append_cancel_left}
use Rattle.std.proofs.Math.Nat.{mod-eq_of_lt}
use Rattle.std.specs.Borrow.{Bor}
use Rattle.night_merge.specs.Closing.{StatesLeft}
use Rattle.night_merge.specs.Texts.{chain_lines, closing_line, closing_title}
use Rattle.night_merge.proofs.Results.{some_there, something}
use Rattle.night_merge.proofs.Settling.{next_own, next_place, opening_begins, opening_ends, opening_more, read_here, settling_begins, settling_ends, settling_more}
use Rattle.night_merge.proofs.closing.settle.Goals as goal

pub returns-in_default-clause-settled : goal.returns-in_default-clause-settled
returns-in_default-clause-settled c = λ before after stray has low e. absurd (c.in_default.ensures _ e)

pub lines-init : goal.lines-init
lines-init c = (
  λ within. mod-eq_of_lt c.requires.within,
  λ before after stray has low e. settling_begins _ _ before after _ _ _ _ c.requires.within has (append_cancel_left closing_title c.in-Some.rest.now _ (sym c.in-Some.ensures ∙ e)),
  opening_begins _ _ _ _ c.in-Some.rest.now _ c.requires.within c.in-Some.ensures,
)

pub returns-in-None-clause-settled : goal.returns-in-None-clause-settled
returns-in-None-clause-settled c = λ before after stray has low e.
    let accounts = c.args.accounts.now in
    let chains = c.args.place.chains in
    let text : List ℕ = codes "STRAY CARDS " ++ stray in
    let behind : List ℕ = chain_lines chains c.args.place.chain before after (c.lines.at + chains) (drop (c.lines.at + chains) accounts) ++ text in
    let read =
    read_here chains c.args.place.chain before after accounts text c.lines.at c.lines.rest.now c.args.left.now c.lines.left c.as_slice.result.now c.index-accounts-at.result c.in_ok-balance.field-0
    (omega arith) (c.lines.invariant.0 c.lines-test.true) (omega arith) (sym c.requires.there) low c.index-accounts-at.is c.as_slice.ensures.value c.in_ok-balance.ensures.left (c.lines.invariant.1 before after stray has low e) in
    let P : Option (ℕ × Bor (List ℕ)) → Type 0 = λ r. StatesLeft (after c.lines.at) behind r in
    absurd (subst P c.in-None.is read)

pub lines-preserved : goal.lines-preserved
lines-preserved c = (
  next_own c.lines.at c.args.place.chains c.args.place.chain c.saturating_add-at.result _ (next_place c.lines.at c.args.place.chains c.saturating_add-at.result _ c.saturating_add-at.ensures (omega arith)) (c.lines.invariant.0 c.lines-test.true),
  λ before after stray has low e.
      let accounts = c.args.accounts.now in
      let chains = c.args.place.chains in
      let text : List ℕ = codes "STRAY CARDS " ++ stray in
      let behind : List ℕ = chain_lines chains c.args.place.chain before after (c.lines.at + chains) (drop (c.lines.at + chains) accounts) ++ text in
      let s = c.lines.invariant.1 before after stray has low e in
      let read =
      read_here chains c.args.place.chain before after accounts text c.lines.at c.lines.rest.now c.args.left.now c.lines.left c.as_slice.result.now c.index-accounts-at.result c.in_ok-balance.field-0
      (omega arith) (c.lines.invariant.0 c.lines-test.true) (omega arith) (sym c.requires.there) low c.index-accounts-at.is c.as_slice.ensures.value c.in_ok-balance.ensures.left s in
      let P : Option (ℕ × Bor (List ℕ)) → Type 0 = λ r. StatesLeft (after c.lines.at) behind r in
      let told = subst P c.in-Some-2.is read in
      settling_more chains c.args.place.chain before after accounts text c.lines.at c.saturating_add-at.result c.in-Some-2.balance c.lines.rest.now c.in-Some-2.others.now c.args.left.now c.lines.left _
      (next_place c.lines.at chains c.saturating_add-at.result _ c.saturating_add-at.ensures (omega arith)) (omega arith) (c.lines.invariant.0 c.lines-test.true) (omega arith) (omega arith) (omega arith) s told.0 told.1
      refl,
  let P : Option (ℕ × Bor (List ℕ)) → Type 0 = λ r. IfSome r (λ x. c.lines.rest.now ≡ closing_line c.as_slice.result.now (get_or c.lines.left c.lines.at 0) x.0 ++ x.1.now) in
      opening_more c.args.place.chains c.args.place.chain c.args.accounts.now c.args.closing.now c.lines.at c.saturating_add-at.result c.in-Some-2.balance c.lines.rest.now c.in-Some-2.others.now
      c.args.left.now c.lines.left _ c.as_slice.result.now c.index-accounts-at.result (next_place c.lines.at c.args.place.chains c.saturating_add-at.result _ c.saturating_add-at.ensures (omega arith))
      (omega arith) (c.lines.invariant.0 c.lines-test.true) c.lines-test.true (omega arith) c.index-accounts-at.is c.as_slice.ensures.value (subst P c.in-Some-2.is c.in_ok-balance.ensures.line) refl
      c.lines.invariant.2,
)

pub returns-clause-settled : goal.returns-clause-settled
returns-clause-settled c = λ before after stray has low e.
    let text : List ℕ = codes "STRAY CARDS " ++ stray in
    let ends =
    settling_ends c.args.place.chains c.args.place.chain before after c.args.accounts.now text c.lines.at c.lines.rest.now c.args.left.now c.lines.left c.lines-test.false (sym c.requires.there)
    (c.lines.invariant.1 before after stray has low e) in
    (c.is_some.ensures ∙ some_there c.behind-2.result _ _ c.behind-2.ensures (λ none. none stray ends.0), ends.1)

pub returns-clause-opens : goal.returns-clause-opens
returns-clause-opens c = λ are.
    let (stray, behind) = something c.behind-2.result _ _ c.behind-2.ensures (sym c.is_some.ensures ∙ are) in
    let whole = opening_ends c.args.place.chains c.args.place.chain c.args.accounts.now c.args.closing.now c.lines.at c.lines.rest.now c.args.left.now c.lines.left (omega (arith, c.lines-test.false)) c.lines.invariant.2 in
    (stray.now, whole ∙ ap (λ (t : List ℕ). closing_title ++ (chain_lines c.args.place.chains c.args.place.chain (slice_index c.args.left.now) (slice_index c.lines.left) 0 c.args.accounts.now ++ t)) behind)
