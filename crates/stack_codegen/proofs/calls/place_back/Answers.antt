use Rattle.std.proofs.Common.{sym, ◌∙◌}
use Rattle.symbol_table.specs.Heres.{type_given}
use Rattle.stack_codegen.proofs.CallsMade.{place_back_done}
use Rattle.stack_codegen.proofs.calls.place_back.Goals as goal

pub returns : goal.returns
returns c = place_back_done c.args.here c.args.formal c.args.head (type_given c.args.gives) c.in-Some.kind (sym c.type_given.ensures ∙ c.in-Some.is) c.requires.fits c.requires.kind c.in_ok-append.ensures.appended c.in_ok-append-2.ensures.appended c.in_ok-append-3.ensures.appended
