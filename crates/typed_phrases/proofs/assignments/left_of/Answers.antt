use Rattle.std.proofs.Common.{ℕ, List, sym, ap, ◌∙◌}
use Rattle.algolw_tree.proofs.Rows.{applied_at, listed_at}
use Rattle.algolw_tree.specs.Tree as tree
use Rattle.algolw_tree.specs.View.{kind_tree}
use Rattle.algolw_tree.specs.declared.phrases.Kind.{Kind}
use Rattle.algolw_typing.specs.Names.{declared}
use Rattle.algolw_tree.specs.declared.phrases.Listed.{out-Listed}
use Rattle.algolw_typing.specs.Typing.{left_name, left_of, meaning_of}
use Rattle.typed_phrases.proofs.Defaults.{no_name_begins, no_variable}
use Rattle.typed_phrases.proofs.InLists.{left_listed}
use Rattle.typed_phrases.proofs.assignments.left_of.Goals as goal

pub returns-in-Named : goal.returns-in-Named
returns-in-Named c =
    let own = c.args.phrase.now in
    c.left_name.ensures ∙ ap left_name (c.meaning_of.ensures c.spelling.result ∙ ap meaning_of c.declared-in-Named.ensures ∙ ap (λ (x : List ℕ). meaning_of (declared c.args.path.now x)) c.spelling.ensures)
    ∙ sym (ap (λ (k : Kind). left_of c.args.path.now (tree.At own.place own.first (kind_tree k))) c.in-Named.is)

pub returns-in-Applied : goal.returns-in-Applied
returns-in-Applied c =
    let own = c.args.phrase.now in
    let at = applied_at own.kind c.in-Applied.applied c.deref.result.now c.in-Applied.is c.deref.ensures in
    c.left_name-in-Applied.ensures ∙ ap left_name (c.meaning_of-in-Applied.ensures c.spelling-in-Applied.result ∙ ap meaning_of c.declared-in-Applied-2.ensures ∙ ap (λ (x : List ℕ). meaning_of (declared c.args.path.now x)) c.spelling-in-Applied.ensures)
    ∙ sym (ap (λ (k : tree.Kind). left_of c.args.path.now (tree.At own.place own.first k)) at)

pub returns-in-Listed : goal.returns-in-Listed
returns-in-Listed c =
    let own = c.args.phrase.now in
    let listed = c.deref-in-Listed.result.now in
    let at = listed_at own.kind c.in-Listed.listed listed c.in-Listed.is c.deref-in-Listed.ensures in
    c.left_name-in-Listed.ensures ∙ ap left_name (c.meaning_of-in-Listed.ensures (out-Listed listed).name ∙ ap meaning_of c.declared-in-Listed.ensures)
    ∙ sym (ap (λ (k : tree.Kind). left_of c.args.path.now (tree.At own.place own.first k)) at ∙ left_listed c.args.path.now own.place own.first listed)

pub returns-in_default : goal.returns-in_default
returns-in_default c =
    no_variable c.args.path.now c.args.phrase.now.place c.args.phrase.now.first c.args.phrase.now.kind (no_name_begins c.args.phrase.now.kind c.in_default.not-Named c.in_default.not-Applied c.in_default.not-Listed)
