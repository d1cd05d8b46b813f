use Rattle.std.proofs.Common.{◌≡◌, ℕ, ◌∷◌, [], inl, inr, List, length, length-append, refl, ap, sym, ◌∙◌, arith, subst}
use Rattle.std.proofs.lemmas.Option.{slice_get_read}
use Rattle.std.specs.Borrow.{Bor}
use Rattle.std.specs.declared.alloc.Global.{Global}
use Rattle.std.specs.declared.vec.Vec.{Vec}
use Rattle.night_merge.specs.Entries.{count_of}
use Rattle.night_merge.specs.Parts.{IsPart, part_at}
use Rattle.night_merge.specs.Supplies.{HasCounts, HasRests}
use Rattle.night_merge.specs.Texts.{chain_lines}
use Rattle.night_merge.specs.declared.stop.Stop.TheVariants.{NoMemory}
use Rattle.night_merge.proofs.Chainwise.{UpTo, up_to_ends, up_to_more, up_to_own}
use Rattle.night_merge.proofs.Fetching.{counts_more, rests_more}
use Rattle.night_merge.proofs.Nights.{stopped}
use Rattle.night_merge.proofs.Reasons.{own_named, own_why}
use Rattle.night_merge.proofs.Results.{match_this}
use Rattle.night_merge.proofs.window.rests_by_chain.Goals as goal

pub returns-in_err-rests_in-clause-rests : goal.returns-in_err-rests_in-clause-rests
returns-in_err-rests_in-clause-rests c = λ known rests before after texts has is.
    let inv = c.loop-chain.invariant.1 known rests before after texts has is in
    let chain = c.loop-chain.chain in
    let P : List ℕ → Type 0 = λ t. IsPart t (rests chain) (chain_lines c.args.night.chains chain before after 0 c.args.night.accounts.now) in
    match_this c.from_residual.result c.in_err-rests_in.field-0.0 _ (λ stop. stop ≡ NoMemory) c.from_residual.ensures.1
    (c.in_err-rests_in.ensures.rests (rests chain) before after (is.counted chain c.loop-chain-test.true) (up_to_own c.args.night.chains chain before after c.loop-chain.left inv.1)
    (λ k within. is.falls k (omega (arith, within, c.loop-chain.auto.left, c.requires.there)))
    (λ some. subst P (sym c.as_slice-text.ensures.value) (is.parts chain c.index-texts-chain.result.items c.loop-chain-test.true some
    (texts chain c.index-texts-chain.result (slice_get_read c.args.texts.now c.args.night.chains chain c.index-texts-chain.result (sym c.requires.all) c.loop-chain-test.true c.index-texts-chain.is) some))))

pub returns-in_err-rests_in-clause-why : goal.returns-in_err-rests_in-clause-why
returns-in_err-rests_in-clause-why c = λ known seen rests before after windows texts has is low high.
    let chain = c.loop-chain.chain in
    let number = c.args.window.number in
    let P : List ℕ → Type 0 = λ t. IsPart t (rests chain) (chain_lines c.args.night.chains chain before after 0 c.args.night.accounts.now) in
    stopped c.from_residual.result c.in_err-rests_in.field-0.0 _ c.from_residual.ensures.1
    (own_why c.args.night.chains windows seen known (part_at chain number) c.in_err-rests_in.field-0.0 (omega arith, omega (arith, c.loop-chain-test.true), low, high) c.in_err-rests_in.ensures.own
    (λ agree.
    let up = c.loop-chain.invariant.2 known seen rests before after texts (has (λ p early. agree p (inl early))) is (λ k below. agree (part_at k number) (inr (refl, omega (arith, below)))) in
    c.in_err-rests_in.ensures.rests (rests chain) before after (is.counted chain c.loop-chain-test.true) (up_to_own c.args.night.chains chain before after c.loop-chain.left up)
    (λ k within. is.falls k (omega (arith, within, c.loop-chain.auto.left, c.requires.there)))
    (λ some. subst P (sym c.as_slice-text.ensures.value) (is.parts chain c.index-texts-chain.result.items c.loop-chain-test.true some
    (agree (part_at chain number) (inr (refl, omega arith))
    ∙ texts chain c.index-texts-chain.result (slice_get_read c.args.texts.now c.args.night.chains chain c.index-texts-chain.result (sym c.requires.all) c.loop-chain-test.true c.index-texts-chain.is) some)))))

pub returns-in_err-rests_in-clause-named : goal.returns-in_err-rests_in-clause-named
returns-in_err-rests_in-clause-named c =
    stopped c.from_residual.result c.in_err-rests_in.field-0.0 _ c.from_residual.ensures.1 (own_named c.loop-chain.chain c.args.window.number c.in_err-rests_in.field-0.0 c.in_err-rests_in.ensures.own)

pub loop-chain-preserved : goal.loop-chain-preserved
loop-chain-preserved c = (
  omega
      (arith, ap (λ (l : List (Vec (Bor (List ℕ)) Global)). length l) c.in_ok-push.ensures.items, length-append c.loop-chain.rests.items (c.in_ok-rests_in.field-0 ∷ []), c.loop-chain.invariant.0),
  λ known rests before after texts has is.
      let inv = c.loop-chain.invariant.1 known rests before after texts has is in
      let chain = c.loop-chain.chain in
      let P : List ℕ → Type 0 = λ t. IsPart t (rests chain) (chain_lines c.args.night.chains chain before after 0 c.args.night.accounts.now) in
      let read =
      c.in_ok-rests_in.ensures.rests (rests chain) before after (is.counted chain c.loop-chain-test.true) (up_to_own c.args.night.chains chain before after c.loop-chain.left inv.1)
      (λ k within. is.falls k (omega (arith, within, c.loop-chain.auto.left, c.requires.there)))
      (λ some. subst P (sym c.as_slice-text.ensures.value) (is.parts chain c.index-texts-chain.result.items c.loop-chain-test.true some
      (texts chain c.index-texts-chain.result (slice_get_read c.args.texts.now c.args.night.chains chain c.index-texts-chain.result (sym c.requires.all) c.loop-chain-test.true c.index-texts-chain.is) some))) in
      let Q : List (Vec (Bor (List ℕ)) Global) → Type 0 = λ l. HasRests rests l in (
        subst Q (sym c.in_ok-push.ensures.items) (rests_more rests c.loop-chain.rests.items c.in_ok-rests_in.field-0 inv.0 (read.0 ∙ ap rests (sym c.loop-chain.invariant.0))),
        up_to_more c.args.night.chains chain (count_of chain c.args.window.entries.now) before after c.loop-chain.left c.rests_in.new.left c.rests_in.auto.left inv.1 read.1
            (λ k within own none. is.stays k (omega (arith, within, c.loop-chain.auto.left, c.requires.there)) (ap (λ (n : ℕ). count_of n c.args.window.entries.now) own ∙ none)),
      ),
  λ known seen rests before after texts has is agree.
      let chain = c.loop-chain.chain in
      let up = c.loop-chain.invariant.2 known seen rests before after texts has is (λ k below. agree k (omega (arith, below))) in
      let P : List ℕ → Type 0 = λ t. IsPart t (rests chain) (chain_lines c.args.night.chains chain before after 0 c.args.night.accounts.now) in
      let read =
      c.in_ok-rests_in.ensures.rests (rests chain) before after (is.counted chain c.loop-chain-test.true) (up_to_own c.args.night.chains chain before after c.loop-chain.left up)
      (λ k within. is.falls k (omega (arith, within, c.loop-chain.auto.left, c.requires.there)))
      (λ some. subst P (sym c.as_slice-text.ensures.value) (is.parts chain c.index-texts-chain.result.items c.loop-chain-test.true some
      (agree chain (omega arith)
      ∙ texts chain c.index-texts-chain.result (slice_get_read c.args.texts.now c.args.night.chains chain c.index-texts-chain.result (sym c.requires.all) c.loop-chain-test.true c.index-texts-chain.is) some))) in
      up_to_more c.args.night.chains chain (count_of chain c.args.window.entries.now) before after c.loop-chain.left c.rests_in.new.left c.rests_in.auto.left up read.1
      (λ k within own none. is.stays k (omega (arith, within, c.loop-chain.auto.left, c.requires.there)) (ap (λ (n : ℕ). count_of n c.args.window.entries.now) own ∙ none)),
  let C : List (Vec (Bor (List ℕ)) Global) → Type 0 = λ l. HasCounts c.args.window.entries.now l in
      subst C (sym c.in_ok-push.ensures.items) (counts_more c.args.window.entries.now c.loop-chain.rests.items c.in_ok-rests_in.field-0 c.loop-chain.invariant.3
      (c.in_ok-rests_in.ensures.many ∙ ap (λ (n : ℕ). count_of n c.args.window.entries.now) (sym c.loop-chain.invariant.0))),
)

pub returns-clause-rests : goal.returns-clause-rests
returns-clause-rests c = λ known rests before after texts has is.
    let inv = c.loop-chain.invariant.1 known rests before after texts has is in
    let P : ℕ → Type 0 = λ n. UpTo c.args.night.chains n before after c.loop-chain.left in
    (inv.0, up_to_ends c.args.night.chains before after c.loop-chain.left c.requires.some (subst P (omega arith) inv.1))
