use Rattle.std.proofs.Common.{◌++◌, ◌∙◌, List, ap}
use Rattle.std.proofs.lemmas.List.{take-replicate}
use Rattle.cell_store.specs.declared.cells.Word as flat
use Rattle.cell_store.specs.declared.cells.Word.TheVariants as kind
use Rattle.cell_store.proofs.shelf.append_blank.Goals as goal

pub returns-clause-items : goal.returns-clause-items
returns-clause-items c = c.in-Ok.ensures.items ∙ ap (λ (xs : List flat.Word). c.args.words.now.items ++ xs) (take-replicate c.args.count 512 kind.Nothing c.requires.most)
