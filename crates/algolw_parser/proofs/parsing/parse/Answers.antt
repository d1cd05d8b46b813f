use Rattle.std.proofs.Common.{ap, sym, ◌∙◌, Some}
use Rattle.algolw_tree.specs.declared.phrases.Phrase.{Phrase}
use Rattle.algolw_tree.specs.Programs.{Program}
use Rattle.algolw_tree.specs.View.{tree}
use Rattle.token_reader.specs.Gives.{boxed_tree}
use Rattle.algolw_parser.specs.declared.parsing.Parsed.TheVariants.{Tree}
use Rattle.algolw_parser.proofs.Parses.{means_read, reads_program, reads_more, reads_unexpected, reads_too_deep}
use Rattle.algolw_parser.proofs.parsing.parse.Goals as goal

pub returns-in-Ok-clause-reads : goal.returns-in-Ok-clause-reads
returns-in-Ok-clause-reads c = reads_program c.args.tokens.now (boxed_tree c.in-Ok.program) c.program.new.parser.rest.now c.in-Ok.ensures (sym c.is_empty.ensures ∙ c.if-is_empty.true) ∙ ap (λ (x : Phrase). Some (Program (tree x))) (sym c.into_inner.ensures)

pub returns-in-Ok-clause-means : goal.returns-in-Ok-clause-means
returns-in-Ok-clause-means c = means_read c.args.tokens.now (Tree c.into_inner.result) c.requires (returns-in-Ok-clause-reads c)

pub returns-in-Ok-2-clause-reads : goal.returns-in-Ok-2-clause-reads
returns-in-Ok-2-clause-reads c = reads_more c.args.tokens.now (boxed_tree c.in-Ok.program) c.program.new.parser.rest.now c.place.result c.bad.result c.in-Ok.ensures (sym c.is_empty.ensures ∙ c.if-is_empty.false) c.place.ensures c.bad.ensures

pub returns-in-Ok-2-clause-means : goal.returns-in-Ok-2-clause-means
returns-in-Ok-2-clause-means c = means_read c.args.tokens.now c.bad.result c.requires (returns-in-Ok-2-clause-reads c)

pub returns-in-Err-Unexpected-clause-reads : goal.returns-in-Err-Unexpected-clause-reads
returns-in-Err-Unexpected-clause-reads c = reads_unexpected c.args.tokens.now c.in-Err-Unexpected.place _ _ c.requires c.in-Err-Unexpected.place-is c.in-Err-Unexpected.field-0-is c.bad-in-Err-Unexpected.result c.in-Err-Unexpected.ensures c.bad-in-Err-Unexpected.ensures

pub returns-in-Err-Unexpected-clause-means : goal.returns-in-Err-Unexpected-clause-means
returns-in-Err-Unexpected-clause-means c = means_read c.args.tokens.now c.bad-in-Err-Unexpected.result c.requires (returns-in-Err-Unexpected-clause-reads c)

pub returns-in-Err-TooDeep-clause-reads : goal.returns-in-Err-TooDeep-clause-reads
returns-in-Err-TooDeep-clause-reads c = reads_too_deep c.args.tokens.now c.in-Err-TooDeep.place _ _ c.requires c.in-Err-TooDeep.place-is c.in-Err-TooDeep.field-0-is c.bad-in-Err-TooDeep.result c.in-Err-TooDeep.ensures c.bad-in-Err-TooDeep.ensures

pub returns-in-Err-TooDeep-clause-means : goal.returns-in-Err-TooDeep-clause-means
returns-in-Err-TooDeep-clause-means c = means_read c.args.tokens.now c.bad-in-Err-TooDeep.result c.requires (returns-in-Err-TooDeep-clause-reads c)
