use Rattle.std.proofs.Common.{◌≡◌, drop, length, Some}
use Rattle.std.specs.List.{fold}
use Rattle.deck_reader.specs.declared.options.Settings.{Settings}
use Rattle.deck_reader.specs.JobCards.{fields}
use Rattle.deck_reader.specs.Options.{settings_of, counted_settings}
use Rattle.deck_reader.proofs.Settings.{step}
use Rattle.deck_reader.proofs.options.settings_in.Given as goal

-- the settings by now, and the fields behind them
abbrev pub invariant-loop-field : goal.invariant-loop-field
invariant-loop-field l = (s : Settings) × (l.settings ≡ counted_settings s) × (settings_of (fields l.text) ≡ fold step (Some s) (drop (length l.yielded) (fields l.text)))
