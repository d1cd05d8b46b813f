use Rattle.std.proofs.Common.{sym, subst, rules, tests}
use Rattle.machine_rows.specs.Seen.{IsClear}
use Rattle.machine_rows.specs.Rows.{Goes, Lands}
use Rattle.machine_calls.proofs.Compared.{bare_use, with_heads, none_by, some_by}
use Rattle.machine_calls.proofs.formal_calls.compare_thunk.Goals as goal

pub returns-then-not-is_empty : goal.returns-then-not-is_empty
returns-then-not-is_empty g c = with_heads g.seen c.args.state.now c.args.held c.requires.0 c.args.call.now c.args.thunk (some_by c.args.call.now.heads (search (rules, tests)))

pub use_thunk-requires : goal.use_thunk-requires
use_thunk-requires g c =
    let row = bare_use g.seen c.args.state.now c.args.held c.requires.0 c.args.call.now c.args.thunk (none_by c.args.call.now.heads (search (rules, tests))) in
    rw c.end.ensures (c.requires.0, (c.requires.1.0, (c.requires.1.1.0, (subst IsClear row c.requires.1.1.1.0, subst (Lands g.seen) row c.requires.1.1.1.1))))

pub returns : goal.returns
returns g c =
    let row = bare_use g.seen c.args.state.now c.args.held c.requires.0 c.args.call.now c.args.thunk (none_by c.args.call.now.heads (search (rules, tests))) in
    subst (Goes g.seen c.use_thunk.new.state c.args.held c.use_thunk.result) (sym row) (rw c.end.ensures at c.use_thunk.ensures)
