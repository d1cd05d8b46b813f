use Rattle.std.proofs.Common.{◌≡◌, ℕ, List, [], ◌∷◌, ◌++◌, length, map, drop, refl, sym, ap, subst}
use Rattle.std.specs.Borrow.{Bor}
use Rattle.std.proofs.lemmas.List.{map-append, take_rest}
use Rattle.listing_parts.proofs.Stacks.{StillSections, agrees, differs, stack_ends, stack_more, stack_none}
use Rattle.listing_parts.proofs.parts.sections_of.Goals as goal

pub returns-in_default : goal.returns-in_default
returns-in_default c = λ lines sections h are.
    stack_none sections c.loop-rest.rest.now (map (λ (s : Bor (List ℕ)). s.now) c.loop-rest.sections.items) (c.loop-rest.invariant lines sections h are)
    (record { refused = c.in_default.ensures.refused; summed = c.in_default.ensures.summed })
    (differs c.loop-rest.rest.now c.ne.result c.ne.ensures c.loop-rest-test.true)

pub loop-rest-preserved : goal.loop-rest-preserved
loop-rest-preserved c = λ lines sections h are.
    let texts = map (λ (s : Bor (List ℕ)). s.now) c.loop-rest.sections.items in
    let more = stack_more sections c.loop-rest.rest.now c.in-Some.above.now (map (λ (s : Bor (List ℕ)). s.now) c.loop-rest.sections.items) c.in-Some.above
    (c.loop-rest.invariant lines sections h are) refl
    (record { refused = c.in-Some.ensures.refused; summed = c.in-Some.ensures.summed })
    (differs c.loop-rest.rest.now c.ne.result c.ne.ensures c.loop-rest-test.true) in
    let pushed : map (λ (s : Bor (List ℕ)). s.now) c.push.new.self.items ≡ map (λ (s : Bor (List ℕ)). s.now) c.loop-rest.sections.items ++ drop (length c.in-Some.above.now) c.loop-rest.rest.now ∷ [] =
    rw c.in_ok-push.ensures.items
    (simp map-append (ap (λ (t : List ℕ). map (λ (s : Bor (List ℕ)). s.now) c.loop-rest.sections.items ++ t ∷ []) (take_rest c.loop-rest.rest.now (length c.in-Some.above.now)))) in
    let P : List (List ℕ) → Type 0 = λ ts. StillSections sections c.in-Some.above.now ts in
    subst P (sym pushed) more

pub returns : goal.returns
returns c = λ lines sections h are.
    stack_ends sections c.loop-rest.rest.now (map (λ (s : Bor (List ℕ)). s.now) c.loop-rest.sections.items) (c.loop-rest.invariant lines sections h are)
    (agrees c.loop-rest.rest.now c.ne.result c.ne.ensures c.loop-rest-test.false)
