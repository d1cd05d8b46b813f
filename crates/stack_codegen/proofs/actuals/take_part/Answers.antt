use Rattle.std.proofs.Common.{◌≡◌, Some, None}
use Rattle.std.proofs.lemmas.Result.{on_ok_weaker}
use Rattle.symbol_table.specs.Standings.{entry_of, standing_of}
use Rattle.stack_codegen.proofs.NamesAlone.{part_done, part_stuck, stars_there}
use Rattle.stack_codegen.proofs.actuals.take_part.Goals as goal

pub returns-in_default : goal.returns-in_default
returns-in_default c =
    let found : entry_of (standing_of c.args.emitter.now.symbols.names c.args.name) ≡ None = cc c.in_default.ensures in
    on_ok_weaker c.append.result (part_stuck c.args.here c.args.name c.args.subscripts.now c.requires.fits c.requires.known found) c.append.ensures.appended

pub append-requires-2 : goal.append-requires-2
append-requires-2 c = stars_there _ _ c.in_ok-among.among c.in_ok-stars.stars c.in_ok-stars.ensures.added c.in_ok-stars.ensures.number

pub returns : goal.returns
returns c =
    let found : entry_of (standing_of c.args.emitter.now.symbols.names c.args.name) ≡ Some c.in-Some.entry = cc c.in-Some.ensures in
    on_ok_weaker c.append-2.result
    (part_done c.args.here c.args.name c.args.subscripts.now c.in-Some.entry c.in_ok-among.among c.in_ok-stars.stars c.links-links.result _ c.requires.fits c.requires.known found c.in_ok-among.ensures c.in_ok-stars.ensures.number c.in_ok-stars.ensures.added c.links-links.ensures)
    c.append-2.ensures.appended
