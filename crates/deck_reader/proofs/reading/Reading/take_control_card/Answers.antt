use Rattle.std.proofs.Common.{◌≡◌, List, Some, refl, sym, ap, ◌∙◌}
use Rattle.deck_reader.specs.LibraryView.{Shelved}
use Rattle.deck_reader.specs.Shelves.{free_name}
use Rattle.deck_reader.proofs.Arrivals.{takes_begin}
use Rattle.deck_reader.proofs.reading.Reading.take_control_card.Goals as goal

pub returns-in-Some : goal.returns-in-Some
returns-in-Some c =
    let card = c.args.card.now in
    let named : free_name c.args.self.now.shelf card ≡ Some c.in-Some.name = ap (λ (s : List Shelved). free_name s card) (sym c.as_slice.ensures) ∙ sym c.free_name.ensures ∙ c.in-Some.is in
    takes_begin c.args.self.now _ card c.in-Some.name c.new.result named refl c.new.ensures refl refl refl refl refl refl
