use Rattle.std.proofs.Common.{sym, subst}
use Rattle.algolw_tree.proofs.Rows.{applied_at, listed_at}
use Rattle.algolw_tree.specs.Tree as tree
use Rattle.typed_phrases.specs.Applications.{Applies, IsApplication}
use Rattle.typed_phrases.proofs.Applying.{no_application}
use Rattle.typed_phrases.proofs.actuals.Application.of.Goals as goal

pub returns-in-Applied : goal.returns-in-Applied
returns-in-Applied c =
    let own = c.args.phrase.now in
    subst (λ (k : tree.Kind). Applies c.args.path.now k c.short.result) (sym (applied_at own.kind c.in-Applied.applied c.deref.result.now c.in-Applied.is c.deref.ensures))
    c.short.ensures

pub returns-in-Listed : goal.returns-in-Listed
returns-in-Listed c =
    let own = c.args.phrase.now in
    subst (λ (k : tree.Kind). IsApplication c.args.path.now k c.other.result) (sym (listed_at own.kind c.in-Listed.listed c.deref-in-Listed.result.now c.in-Listed.is c.deref-in-Listed.ensures))
    c.other.ensures

pub returns-in_default : goal.returns-in_default
returns-in_default c = no_application c.args.phrase.now.kind c.in_default.not-Applied c.in_default.not-Listed
