use Rattle.std.proofs.Common.{sym}
use Rattle.algolw_tree.specs.View.{tree}
use Rattle.typing_rules.specs.MeaningView as view
use Rattle.typed_phrases.proofs.WidthSettings.{no_assignment, no_setting}
use Rattle.typed_phrases.proofs.settings.is_setting.Goals as goal

pub returns-in_default-kind : goal.returns-in_default-kind
returns-in_default-kind c =
    let own = c.args.phrase.now in
    sym (no_setting c.args.path.now (view.wanted c.args.wanted) (tree own) (no_assignment own.place own.first own.kind c.in_default-kind.not-Assign))
