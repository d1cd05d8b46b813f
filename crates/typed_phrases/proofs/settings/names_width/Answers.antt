use Rattle.std.proofs.Common.{rules, ◌≡◌, ℕ, ◌<◌, List, length, sym, ap, ◌∙◌, arith}
use Rattle.algolw_tree.proofs.Rows.{listed_at}
use Rattle.algolw_tree.specs.Tree as tree
use Rattle.algolw_tree.specs.View.{kind_tree}
use Rattle.algolw_tree.specs.declared.phrases.Kind.{Kind}
use Rattle.algolw_tree.specs.declared.phrases.Listed.{Listed, out-Listed}
use Rattle.algolw_typing.specs.Names.{declared}
use Rattle.algolw_typing.specs.Typing.{is_width, meaning_of}
use Rattle.typed_phrases.specs.Settings.{names_width}
use Rattle.typed_phrases.proofs.WidthSettings.{no_width, no_width_listed, width_listed}
use Rattle.typed_phrases.proofs.settings.names_width.Goals as goal

pub returns-in-Named : goal.returns-in-Named
returns-in-Named c =
    let own = c.args.phrase.now in
    c.is_width.ensures ∙ ap is_width (c.meaning_of.ensures c.spelling.result ∙ ap meaning_of c.declared-in-Named.ensures ∙ ap (λ (x : List ℕ). meaning_of (declared c.args.path.now x)) c.spelling.ensures)
    ∙ sym (ap (λ (k : Kind). names_width c.args.path.now (tree.At own.place own.first (kind_tree k))) c.in-Named.is)

pub returns-then-is_empty : goal.returns-then-is_empty
returns-then-is_empty c =
    let own = c.args.phrase.now in
    let path = c.args.path.now in
    let listed = c.deref.result.now in
    let at = listed_at own.kind c.in-Listed.listed listed c.in-Listed.is c.deref.ensures in
    let none : length (out-Listed listed).lists.items ≡ 0 = search rules in
    let means = c.meaning_of-then-is_empty.ensures (out-Listed c.deref-then-is_empty.result.now).name ∙ ap meaning_of c.declared-then-is_empty.ensures
    ∙ ap (λ (l : Listed). meaning_of (declared path (out-Listed l).name)) (c.deref-then-is_empty.ensures ∙ sym c.deref.ensures) in
    c.is_width-then-is_empty.ensures ∙ ap is_width means
    ∙ sym (ap (λ (k : tree.Kind). names_width path (tree.At own.place own.first k)) at ∙ width_listed path own.place own.first listed none)

pub returns-else-is_empty : goal.returns-else-is_empty
returns-else-is_empty c =
    let own = c.args.phrase.now in
    let path = c.args.path.now in
    let listed = c.deref.result.now in
    let at = listed_at own.kind c.in-Listed.listed listed c.in-Listed.is c.deref.ensures in
    let some : 0 < length (out-Listed listed).lists.items = search rules in
    c.if-is_empty.false ∙ sym (ap (λ (k : tree.Kind). names_width path (tree.At own.place own.first k)) at ∙ no_width_listed path own.place own.first listed (λ h. omega (arith, h, some)))

pub returns-in_default : goal.returns-in_default
returns-in_default c = sym (no_width c.args.path.now c.args.phrase.now.place c.args.phrase.now.first c.args.phrase.now.kind c.in_default.not-Named c.in_default.not-Listed)
