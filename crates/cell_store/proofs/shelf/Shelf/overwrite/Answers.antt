use Rattle.std.proofs.Common.{◌≡◌, sym, ap, ◌∙◌, subst}
use Rattle.std.specs.Prelude.{List, is_some, IfSome, slice_set}
use Rattle.cell_store.specs.declared.cells.Wide.TheVariants as wide
use Rattle.cell_store.specs.Cells.{Shelf, a_wide}
use Rattle.cell_store.specs.Held.{cells, beside_at}
use Rattle.cell_store.specs.declared.cells.Word as flat
use Rattle.cell_store.proofs.CellLines.{text_at, text_there, text_written}
use Rattle.cell_store.proofs.shelf.Shelf.overwrite.Goals as goal

pub returns-clause-answer : goal.returns-clause-answer
returns-clause-answer c =
    c.overwrite.ensures.answer
    ∙ ap (λ o. is_some o) (sym (text_there c.self.inside.words.items c.self.inside.beside.items c.args.at c.args.from c.args.characters.now c.index_mut.result.now c.self.invariant.are_beside (ap (λ (xs : List flat.Word). beside_at xs c.args.at) (sym c.deref.ensures.value) ∙ sym c.is_beside_at.ensures ∙ c.if-not-is_beside_at.false) c.index_mut.ensures.value))
    ∙ ap (λ (s : Shelf). is_some (text_at c.args.from c.args.characters.now s.cells c.args.at)) c.self.view_is

pub returns-clause-written : goal.returns-clause-written
returns-clause-written c =
    let new : Shelf = record { cells = cells c.self.inside.words.items (slice_set c.self.inside.beside.items c.args.at c.overwrite.new.self); room = c.self.inside.room } in
    subst (λ (s : Shelf). IfSome (text_at c.args.from c.args.characters.now s.cells c.args.at) (λ t. new ≡ record { cells = slice_set s.cells c.args.at (a_wide (wide.Str t)); room = s.room })) c.self.view_is
    (text_written c.self.inside.words.items c.self.inside.beside.items c.args.at c.args.from c.self.inside.room c.args.characters.now c.index_mut.result.now c.overwrite.new.self c.self.invariant.are_beside (ap (λ (xs : List flat.Word). beside_at xs c.args.at) (sym c.deref.ensures.value) ∙ sym c.is_beside_at.ensures ∙ c.if-not-is_beside_at.false) c.index_mut.ensures.value c.overwrite.ensures.written)
