use Rattle.std.proofs.Common.{sym}
use Rattle.typed_phrases.proofs.WidthSettings.{no_assignment}
use Rattle.typed_phrases.proofs.settings.is_assignment.Goals as goal

pub returns-in_default : goal.returns-in_default
returns-in_default c = sym (no_assignment c.args.phrase.now.place c.args.phrase.now.first c.args.phrase.now.kind c.in_default.not-Assign)
