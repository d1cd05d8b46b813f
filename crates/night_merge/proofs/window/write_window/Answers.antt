use Rattle.std.proofs.Common.{◌≡◌, ℕ, List, length, refl, sym, ap, ◌∙◌, arith, subst}
use Rattle.std.specs.Borrow.{Bor}
use Rattle.std.specs.declared.alloc.Global.{Global}
use Rattle.std.specs.declared.vec.Vec.{Vec}
use Rattle.night_merge.specs.Entries.{AreBelow}
use Rattle.night_merge.specs.Supplies.{HasCounts, HasRests, HasTexts}
use Rattle.night_merge.proofs.Nights.{stopped}
use Rattle.night_merge.proofs.Reasons.{fair_why, fault_unnamed, fault_why, supply_enough, supply_has, supply_of}
use Rattle.night_merge.proofs.Results.{fault_fair, match_map, match_this, memory_fault}
use Rattle.night_merge.proofs.Written.{all_left, prefix_written}
use Rattle.night_merge.proofs.window.write_window.Goals as goal

pub returns-in_err-rests-clause-joined : goal.returns-in_err-rests-clause-joined
returns-in_err-rests-clause-joined g c = λ known rests before after e has is.
    let T : List (Vec ℕ Global) → Type 0 = λ l. HasTexts known c.args.window.number c.args.window.entries.now l in
    let texts = subst T (sym c.as_slice.ensures.value) (c.in_ok-texts.ensures.found known e) in
    match_this c.from_residual-in_err-rests.result c.in_err-rests.field-0.0 _ _ c.from_residual-in_err-rests.ensures.1
    (prefix_written _ _ _ _ (all_left _ _), fault_fair known c.in_err-rests.field-0.0 (memory_fault c.in_err-rests.field-0.0 (c.in_err-rests.ensures.rests known rests before after texts has is)))

pub returns-clause-joined : goal.returns-clause-joined
returns-clause-joined g c = λ known rests before after e has is.
    let T : List (Vec ℕ Global) → Type 0 = λ l. HasTexts known c.args.window.number c.args.window.entries.now l in
    let R : List (Vec (Bor (List ℕ)) Global) → Type 0 = λ l. HasRests rests l in
    let B : ℕ → Type 0 = λ n. AreBelow n c.args.window.entries.now in
    let texts = subst T (sym c.as_slice.ensures.value) (c.in_ok-texts.ensures.found known e) in
    let read = c.in_ok-rests.ensures.rests known rests before after texts has is in
    let many : length c.as_slice-2.result.now ≡ c.args.night.chains = ap (λ (l : List (Vec (Bor (List ℕ)) Global)). length l) c.as_slice-2.ensures.value ∙ c.in_ok-rests.ensures.counted in
    match_map c.write_sections.result _ _ _ _ (λ x wrote. (wrote, read.1)) (λ stop cut. (cut.0, fault_fair known stop cut.1))
    (c.write_sections.ensures.joined rests (subst R (sym c.as_slice-2.ensures.value) read.0) (subst B (sym many) is.below) (λ chain within. is.counted chain (omega (arith, within, many))))

pub returns-in_err-texts-clause-why : goal.returns-in_err-texts-clause-why
returns-in_err-texts-clause-why g c = λ known seen rests before after windows e has is low high.
    stopped c.from_residual.result c.in_err-texts.field-0.0 _ c.from_residual.ensures.1 (fair_why c.args.night.chains windows seen known c.in_err-texts.field-0.0 (c.in_err-texts.ensures.found known e))

pub returns-in_err-rests-clause-why : goal.returns-in_err-rests-clause-why
returns-in_err-rests-clause-why g c = λ known seen rests before after windows e has is low high.
    let T : List (Vec ℕ Global) → Type 0 = λ l. HasTexts known c.args.window.number c.args.window.entries.now l in
    let texts = subst T (sym c.as_slice.ensures.value) (c.in_ok-texts.ensures.found known e) in
    stopped c.from_residual-in_err-rests.result c.in_err-rests.field-0.0 _ c.from_residual-in_err-rests.ensures.1 (c.in_err-rests.ensures.why known seen rests before after windows texts has is low high)

pub returns-clause-why : goal.returns-clause-why
returns-clause-why g c = λ known seen rests before after windows e has is low high.
    let C : List (Vec (Bor (List ℕ)) Global) → Type 0 = λ l. HasCounts c.args.window.entries.now l in
    let B : ℕ → Type 0 = λ n. AreBelow n c.args.window.entries.now in
    let counts = subst C (sym c.as_slice-2.ensures.value) c.in_ok-rests.ensures.many in
    let many : length c.as_slice-2.result.now ≡ c.args.night.chains = ap (λ (l : List (Vec (Bor (List ℕ)) Global)). length l) c.as_slice-2.ensures.value ∙ c.in_ok-rests.ensures.counted in
    match_map c.write_sections.result _ _ _ _ (λ x wrote. tt) (λ stop cut. fault_why c.args.night.chains windows seen known stop cut.1)
    (c.write_sections.ensures.joined (supply_of c.as_slice-2.result.now) (supply_has c.as_slice-2.result.now) (subst B (sym many) is.below) (supply_enough c.args.window.entries.now c.as_slice-2.result.now counts))

pub returns-in_err-texts-clause-named : goal.returns-in_err-texts-clause-named
returns-in_err-texts-clause-named g c = λ seen rests before after is.
    stopped c.from_residual.result c.in_err-texts.field-0.0 _ c.from_residual.ensures.1 (λ part names. (c.in_err-texts.ensures.named part names, refl))

pub returns-in_err-rests-clause-named : goal.returns-in_err-rests-clause-named
returns-in_err-rests-clause-named g c = λ seen rests before after is.
    stopped c.from_residual-in_err-rests.result c.in_err-rests.field-0.0 _ c.from_residual-in_err-rests.ensures.1 (λ part names. (c.in_err-rests.ensures.named part names, refl))

pub returns-clause-named : goal.returns-clause-named
returns-clause-named g c = λ seen rests before after is.
    let C : List (Vec (Bor (List ℕ)) Global) → Type 0 = λ l. HasCounts c.args.window.entries.now l in
    let B : ℕ → Type 0 = λ n. AreBelow n c.args.window.entries.now in
    let counts = subst C (sym c.as_slice-2.ensures.value) c.in_ok-rests.ensures.many in
    let many : length c.as_slice-2.result.now ≡ c.args.night.chains = ap (λ (l : List (Vec (Bor (List ℕ)) Global)). length l) c.as_slice-2.ensures.value ∙ c.in_ok-rests.ensures.counted in
    match_map c.write_sections.result _ _ _ _ (λ x wrote. tt) (λ stop cut part names. absurd (fault_unnamed stop part cut.1 names))
    (c.write_sections.ensures.joined (supply_of c.as_slice-2.result.now) (supply_has c.as_slice-2.result.now) (subst B (sym many) is.below) (supply_enough c.args.window.entries.now c.as_slice-2.result.now counts))
