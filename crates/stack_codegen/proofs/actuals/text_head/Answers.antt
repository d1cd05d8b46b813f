use Rattle.std.proofs.Common.{ap, ◌∙◌}
use Rattle.symbol_table.specs.Standings.{read_source}
use Rattle.code_emitter.specs.Readings.{of_name, of_subarray}
use Rattle.stack_codegen.proofs.ActualTexts.{name_head_of, subarray_head_of}
use Rattle.stack_codegen.proofs.actuals.text_head.Goals as goal

pub returns-in-Alone : goal.returns-in-Alone
returns-in-Alone c =
    name_head_of c.args.emitter.now c.args.here c.args.kind c.in-Alone.place c.in-Alone.name c.reading_of_name.result c.in-Alone.is c.requires.fits c.requires.codable
    (c.reading_of_name.ensures ∙ ap of_name (c.read_source.ensures ∙ ap (read_source c.args.here) c.standing.ensures))

pub returns-in_ok-star_count-in-Subarray : goal.returns-in_ok-star_count-in-Subarray
returns-in_ok-star_count-in-Subarray c =
    subarray_head_of c.args.emitter.now c.args.here c.args.kind c.in-Subarray.name c.in_ok-star_count-in-Subarray.field-0 c.in-Subarray.subscripts c.statement_place.result c.reading_of_subarray.result c.in-Subarray.is c.requires.fits c.requires.codable
    c.statement_place.ensures c.in_ok-star_count-in-Subarray.ensures
    (c.reading_of_subarray.ensures ∙ ap (λ o. of_subarray o c.in_ok-star_count-in-Subarray.field-0) (c.read_source-in-Subarray.ensures ∙ ap (read_source c.args.here) c.standing-in-Subarray.ensures))
