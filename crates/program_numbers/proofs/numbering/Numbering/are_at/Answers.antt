use Rattle.std.proofs.Common.{ap, arith, rules, length}
use Rattle.std.proofs.lemmas.Slice.Zip.{Zip-more, either_empty_from_Zip}
use Rattle.algolw_typing.specs.ProgramView.{numbered}
use Rattle.program_numbers.proofs.SidesAlike.{pair_alike, ends_alike}
use Rattle.program_numbers.proofs.numbering.Numbering.are_at.Goals as goal

pub loop-id-preserved : goal.loop-id-preserved
loop-id-preserved c =
    let left = c.loop-id.id-iterator in
    let more = Zip-more left c.next.new.self _ _ c.in-Some.is c.next.ensures.steps in
    record {
      decides = λ behind. c.loop-id.invariant.decides (pair_alike (λ id. numbered c.args.self.now.classes id.0) _ _ _ _ _ _ more.0 more.1 (search rules) behind);
      as_long = omega (arith, c.loop-id.invariant.as_long, ap length more.0, ap length more.1);
    }

pub returns : goal.returns
returns c = λ t.
    let left = c.loop-id.id-iterator in
    c.loop-id.invariant.decides (ends_alike (λ id. numbered c.args.self.now.classes id.0) left.a.rest.now left.b.rest.now c.loop-id.invariant.as_long (either_empty_from_Zip left c.next.new.self _ c.in-None.is c.next.ensures.steps))
