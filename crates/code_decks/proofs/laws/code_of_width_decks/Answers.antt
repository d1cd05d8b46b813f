use Rattle.std.specs.Prelude.{refl}
use Rattle.std.specs.Fmt.{digits}
use Rattle.algolw_meaning.specs.DeckDiagnostics.{deck_of}
use Rattle.algolw_meaning.specs.WidthDecks as decks
use Rattle.code_decks.specs.CodeRows.{AllRun}
use Rattle.code_decks.proofs.laws.code_of_width_decks.Goals as goal

settings_run : AllRun decks.settings_decks
unfolding deck_of digits
settings_run = refl

settings_order_run : AllRun decks.settings_order_decks
unfolding deck_of digits
settings_order_run = refl

ranges_run : AllRun decks.ranges_decks
unfolding deck_of digits
ranges_run = refl

widths_layout_run : AllRun decks.widths_layout_decks
unfolding deck_of digits
widths_layout_run = refl

widths_order_run : AllRun decks.widths_order_decks
unfolding deck_of digits
widths_order_run = refl

inner_widths_run : AllRun decks.inner_widths_decks
unfolding deck_of digits
inner_widths_run = refl

width_variables_run : AllRun decks.width_variables_decks
unfolding deck_of digits
width_variables_run = refl

pub returns : goal.returns
returns c = record { settings = settings_run; settings_order = settings_order_run; ranges = ranges_run; widths_layout = widths_layout_run; widths_order = widths_order_run; inner_widths = inner_widths_run; width_variables = width_variables_run }
