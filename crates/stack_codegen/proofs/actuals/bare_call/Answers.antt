use Rattle.std.proofs.Common.{rules, ◌≡◌, ◌+◌, length, Some, None, ap, ◌∙◌}
use Rattle.symbol_table.specs.Standings.{read_source, standing_of}
use Rattle.stack_codegen.proofs.NamesAlone.{bare_done, bare_stuck, none_marked}
use Rattle.stack_codegen.proofs.actuals.bare_call.Goals as goal

pub returns-in_default : goal.returns-in_default
returns-in_default c =
    let found : read_source c.args.here (standing_of c.args.emitter.now.symbols.names c.args.name) ≡ None = cc c.in_default.ensures in
    none_marked c.alone.result c.alone.ensures.none c.alone.ensures.appended (bare_stuck c.args.here c.args.site c.args.name c.requires.fits c.requires.known found)

pub returns : goal.returns
returns c =
    let found : read_source c.args.here (standing_of c.args.emitter.now.symbols.names c.args.name) ≡ Some c.in-Some.source = cc c.in-Some.ensures in
    let all : c.len-pending.result ≡ length c.args.emitter.now.pending.items = search rules in
    none_marked c.alone-2.result c.alone-2.ensures.none c.alone-2.ensures.appended
    (bare_done c.args.here c.args.site c.args.name c.in-Some.source c.len-pending.result c.in_ok-call.call c.in_ok-end.end c.requires.fits c.requires.known found
    (c.in_ok-end.ensures ∙ ap (λ n. n + 2) c.in_ok-next.ensures) all c.in_ok-call.ensures.added c.in_ok-call.ensures.number c.in_ok-append.ensures.appended c.in_ok-append-2.ensures.appended)
