use Rattle.std.specs.Prelude.{refl}
use Rattle.std.specs.Fmt.{digits}
use Rattle.algolw_meaning.specs.DeckDiagnostics.{deck_of}
use Rattle.algolw_meaning.specs.RunRows.{AllGive}
use Rattle.algolw_meaning.specs.WidthDecks.{settings_decks, settings_order_decks, ranges_decks, widths_layout_decks, widths_order_decks, inner_widths_decks, width_variables_decks}
use Rattle.algolw_meaning.proofs.laws.width_decks_give.Goals as goal

settings_give : AllGive settings_decks
unfolding deck_of digits
settings_give = refl

settings_order_give : AllGive settings_order_decks
unfolding deck_of digits
settings_order_give = refl

ranges_give : AllGive ranges_decks
unfolding deck_of digits
ranges_give = refl

widths_layout_give : AllGive widths_layout_decks
unfolding deck_of digits
widths_layout_give = refl

widths_order_give : AllGive widths_order_decks
unfolding deck_of digits
widths_order_give = refl

inner_widths_give : AllGive inner_widths_decks
unfolding deck_of digits
inner_widths_give = refl

width_variables_give : AllGive width_variables_decks
unfolding deck_of digits
width_variables_give = refl

pub returns : goal.returns
returns c = record { settings = settings_give; settings_order = settings_order_give; ranges = ranges_give; widths_layout = widths_layout_give; widths_order = widths_order_give; inner_widths = inner_widths_give; width_variables = width_variables_give }
