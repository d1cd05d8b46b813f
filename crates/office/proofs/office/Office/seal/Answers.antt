use Rattle.std.proofs.Common.{◌≡◌, refl, ap, arith}
use Rattle.crossbeam_queue.specs.Passes.{view}
use Rattle.job_queue.specs.Rule.{amount_of}
use Rattle.office.proofs.Offices.{adds_up}
use Rattle.office.proofs.office.Office.seal.Goals as goal

pub returns-clause-put : goal.returns-clause-put
returns-clause-put g c =
    let sums = adds_up _ (view c.self.inside.put.pass).put refl c.self.invariant.0.stands in
    let put = ap amount_of c.close.ensures.put in
    let amount : c.close.new.pass.share.amount ≡ c.agree.new.pass.share.amount = cc (c.close.ensures.share) in
    omega (arith, sums, put, amount, c.reserved.ensures, c.agree.ensures.agree, c.agree.ensures.total)
