use Rattle.std.proofs.Common.{List, ℕ, ◌≡◌, ◌++◌, ◌∷◌, [], true, length, sym, ap, subst, ◌∙◌, arith, refl, append_assoc}
use Rattle.std.proofs.lemmas.List.{length-append}
use Rattle.deck_reader.specs.Batch.{passes}
use Rattle.deck_reader.specs.Fed.{HasRead}
use Rattle.deck_reader.proofs.Cuts.{parted-is, parted-none}
use Rattle.deck_reader.proofs.Feeding.{fed_card, fed_rest, read_card, heads_pass, stands_fits, part_fits, regroup_rest, regroup_input, regroup_whole}
use Rattle.deck_reader.proofs.reader.Reader.take.Goals as goal

pub returns-then-self-gt-MOST_JOBS-clause-large : goal.returns-then-self-gt-MOST_JOBS-clause-large
returns-then-self-gt-MOST_JOBS-clause-large c = λ given taken input stands is.
    let inv = c.loop-front.invariant in
    let front = c.in-Some.front.now in
    let behind = c.in-Some.behind.now in
    let part = parted-is 10 c.loop-front.rest.now front behind c.in-Some.ensures.parts in
    let P : List ℕ → Type 0 = λ xs. passes xs ≡ true in
    let fits = part_fits input c.args.bytes.now inv.0 c.loop-front.rest.now c.args.self.now.fed inv.1 stands.fed_is c.if-bytes-gt-MOST_BYTES.false c.if-self-bytes.false in
    subst P (regroup_whole input inv.0 front behind ∙ ap (λ (r : List ℕ). input ++ (inv.0 ++ r)) (sym part.0) ∙ ap (λ (r : List ℕ). input ++ r) (sym inv.1))
    (heads_pass given c.end_card.new.self.reading taken ((input ++ inv.0) ++ front ++ 10 ∷ []) behind
    (read_card given c.loop-front.self c.end_card.new.self.reading taken (input ++ inv.0) front c.extend_from_slice.new.self.items part.1 fits (inv.3 given taken input stands) c.in_ok-extend_from_slice.ensures.items (c.in_ok-end_card.ensures.read given taken))
    c.if-self-gt-MOST_JOBS.true)

pub loop-front-preserved : goal.loop-front-preserved
loop-front-preserved c =
    let inv = c.loop-front.invariant in
    let front = c.in-Some.front.now in
    let behind = c.in-Some.behind.now in
    let part = parted-is 10 c.loop-front.rest.now front behind c.in-Some.ensures.parts in (
      inv.0 ++ front ++ 10 ∷ [],
      inv.1 ∙ ap (λ (r : List ℕ). inv.0 ++ r) part.0 ∙ regroup_rest inv.0 front behind,
      c.in_ok-end_card.ensures.fed ∙ inv.2,
      λ given taken input stands.
          let P : List ℕ → Type 0 = λ xs. HasRead given c.end_card.new.self taken xs in
          let fits = part_fits input c.args.bytes.now inv.0 c.loop-front.rest.now c.args.self.now.fed inv.1 stands.fed_is c.if-bytes-gt-MOST_BYTES.false c.if-self-bytes.false in
          let has = inv.3 given taken input stands in
          subst P (regroup_input input inv.0 front)
          (fed_card given c.loop-front.self c.end_card.new.self taken (input ++ inv.0) front c.extend_from_slice.new.self.items part.1 fits has c.in_ok-extend_from_slice.ensures.items (c.in_ok-end_card.ensures.read given taken)
          c.in_ok-end_card.ensures.empty (c.in_ok-end_card.ensures.refused ∙ has.refuses_none) c.if-self-gt-MOST_JOBS.false),
    )

pub returns-clause-fed : goal.returns-clause-fed
returns-clause-fed c = λ given taken input stands.
    let inv = c.loop-front.invariant in
    let rest = c.loop-front.rest.now in
    let has = inv.3 given taken input stands in
    let counted : c.args.self.now.fed ≡ length input = stands.fed_is in
    record {
      fed_is = omega (arith, inv.2, length-append input c.args.bytes.now);
      few_bytes = omega (arith, length-append input c.args.bytes.now, c.if-bytes-gt-MOST_BYTES.false, c.if-self-bytes.false);
      has_read = rw (inv.1, ← append_assoc) (fed_rest given c.loop-front.self _ taken (input ++ inv.0) rest (parted-none 10 rest c.in_default.ensures.parts) has refl c.in_ok-extend_from_slice-2.ensures.items has.refuses_none);
    }

pub returns-clause-fits : goal.returns-clause-fits
returns-clause-fits c = λ given taken input stands. stands_fits given _ taken (input ++ c.args.bytes.now) (returns-clause-fed c given taken input stands)
