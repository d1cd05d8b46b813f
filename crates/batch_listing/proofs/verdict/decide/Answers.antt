use Rattle.batch_listing.proofs.Deciding.{charge_covered}
use Rattle.batch_listing.proofs.verdict.decide.Goals as goal

pub returns-then-balance-reserve-clause-covered : goal.returns-then-balance-reserve-clause-covered
returns-then-balance-reserve-clause-covered c = λ account is.
    charge_covered c.args.job.now c.reserve_of-reserve.result c.balance-balance.result c.in-None-Some.account account c.args.book.now.balances
    c.reserve_of-reserve.ensures c.balance-balance.ensures c.if-balance-reserve.true is
