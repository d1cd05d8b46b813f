use Rattle.std.proofs.Common.{refl}
use Rattle.night_shares.proofs.cutter.Cutter.new.Goals as goal

pub returns-clause-cutter : goal.returns-clause-cutter
returns-clause-cutter c = record { chains_are = refl; accounts_are = c.in_ok-new.ensures; libraries_are = refl; window_is = c.in_ok-new-2.ensures.window c.args.front.libraries.items; stray_is = c.from.ensures }
