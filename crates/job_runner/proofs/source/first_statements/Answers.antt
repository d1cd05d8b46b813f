use Rattle.std.proofs.Common.{rules, ◌≡◌, ◌<◌, ◌≤◌, ◌∙◌, arith, length, subst}
use Rattle.std.specs.Prelude.{IfSome}
use Rattle.std.proofs.lemmas.Option.{slice_get_read, slice_get_within}
use Rattle.job_runner.proofs.Firsts.{all_told, few_told, noted_length, one_told}
use Rattle.job_runner.proofs.Noted.{count_least}
use Rattle.job_runner.proofs.source.first_statements.Goals as goal

pub note-requires-clause-all : goal.note-requires-clause-all
note-requires-clause-all g c = few_told c.args.code.now.given.statements c.args.desk.now.state.counts.items g.begun c.requires.1.0 c.requires.1.1 c.loop-number.number c.loop-number.firsts.items c.loop-number.invariant.1

pub note-requires-clause-few : goal.note-requires-clause-few
note-requires-clause-few g c =
    let counts = c.args.desk.now.state.counts.items in
    subst (λ o. IfSome o (λ n. n ≤ 10000000)) c.count.ensures
    (count_least c.args.code.now.given.statements counts g.begun c.requires.1.0 c.loop-number.number 10000000 (slice_get_within counts c.loop-number.number c.count.result c.count.ensures) c.requires.1.1)

pub loop-number-preserved : goal.loop-number-preserved
loop-number-preserved g c =
    let statements = c.args.code.now.given.statements in
    let counts = c.args.desk.now.state.counts.items in
    let there : c.loop-number.number < length counts = slice_get_within counts c.loop-number.number c.count.result c.count.ensures in
    let begins = slice_get_read statements (length counts) c.loop-number.number c.statement_place.result c.requires.1.0.every there c.statement_place.ensures in (
      noted_length c.statement_place.result c.count.result c.loop-number.firsts.items c.note.new.firsts.items c.note.ensures ∙ c.loop-number.invariant.0,
      one_told statements counts g.begun c.requires.1.0 c.requires.1.1 c.loop-number.number c.statement_place.result c.count.result c.loop-number.firsts.items c.note.new.firsts.items begins c.count.ensures c.note.ensures c.loop-number.invariant.1,
    )

pub returns-clause-counts : goal.returns-clause-counts
returns-clause-counts g c =
    let statements = c.args.code.now.given.statements in
    let many : c.in-Ok.statements ≡ length statements = search rules in
    let end : c.loop-number.number ≡ length statements = omega (arith, many, c.loop-number-test.false, c.loop-number.auto.number-end) in
    all_told statements c.args.desk.now.state.counts.items g.begun c.requires.1.0 c.requires.1.1 c.loop-number.number c.args.cards c.loop-number.firsts.items end c.loop-number.invariant.0 c.loop-number.invariant.1

pub returns-clause-few : goal.returns-clause-few
returns-clause-few g c = few_told c.args.code.now.given.statements c.args.desk.now.state.counts.items g.begun c.requires.1.0 c.requires.1.1 c.loop-number.number c.loop-number.firsts.items c.loop-number.invariant.1
