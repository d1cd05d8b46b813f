use Rattle.std.proofs.Common.{◌≡◌, sym, eqb, true, arith}
use Rattle.std.proofs.lemmas.Bool.{not-false}
use Rattle.record_store.proofs.RecordsInLine.{kept_found, kept_taken}
use Rattle.record_store.proofs.records.Records.place_of.Goals as goal

pub returns-clause-answer : goal.returns-clause-answer
returns-clause-answer c =
    let same : eqb c.index.result.now.class.0 c.args.class.0 ≡ true = not-false _ (sym c.if-ne.ensures) in
    (kept_found _ _ _ _ _ _ _ _ _ _ _ c.self.invariant c.self.view_is c.in-Some.is c.from.ensures c.index.ensures same c.requires).0

pub returns-clause-within : goal.returns-clause-within
returns-clause-within c =
    let same : eqb c.index.result.now.class.0 c.args.class.0 ≡ true = not-false _ (sym c.if-ne.ensures) in
    (kept_found _ _ _ _ _ _ _ _ _ _ _ c.self.invariant c.self.view_is c.in-Some.is c.from.ensures c.index.ensures same c.requires).1

pub returns-clause-few : goal.returns-clause-few
returns-clause-few c =
    let same : eqb c.index.result.now.class.0 c.args.class.0 ≡ true = not-false _ (sym c.if-ne.ensures) in
    let within = (kept_found _ _ _ _ _ _ _ _ _ _ _ c.self.invariant c.self.view_is c.in-Some.is c.from.ensures c.index.ensures same c.requires).1 in
    let taken = kept_taken _ _ _ _ _ c.self.invariant c.self.view_is in
    omega (arith, within, taken, c.self.invariant.taken_within)
