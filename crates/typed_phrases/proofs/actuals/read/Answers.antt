use Rattle.std.proofs.Common.{ℕ, false, List, Option, map, ap, sym, subst, ◌∙◌}
use Rattle.algolw_tree.proofs.Rows.{listed_at, listed_is}
use Rattle.algolw_tree.specs.Grammar.{lists_of}
use Rattle.algolw_tree.specs.Tree as tree
use Rattle.algolw_tree.specs.View.{kind_tree, list_tree}
use Rattle.algolw_tree.specs.declared.phrases.Listed.{out-Listed}
use Rattle.algolw_typing.specs.Meanings.{Meaning}
use Rattle.algolw_typing.specs.Names.{declared}
use Rattle.algolw_typing.specs.Typing.{given, meaning_of, name_given, typed_phrase}
use Rattle.typing_rules.specs.MeaningView as view
use Rattle.typing_rules.specs.View as types
use Rattle.typed_phrases.specs.Applications.{is_application}
use Rattle.typed_phrases.specs.Readings.{NameReads, Reads}
use Rattle.typed_phrases.proofs.Applying.{no_applied}
use Rattle.typed_phrases.proofs.Defaults.{no_name_begins, no_name_given}
use Rattle.typed_phrases.proofs.Readings.{as_phrase, read_named}
use Rattle.typed_phrases.proofs.actuals.read.Goals as goal

pub returns-in-Named : goal.returns-in-Named
returns-in-Named c =
    let own = c.args.phrase.now in
    let path = c.args.path.now in
    let w = view.wanted c.args.wanted in
    let found = types.verdict c.args.found in
    let means = c.meaning_of-means.ensures c.spelling.result ∙ ap meaning_of c.declared-in-Named.ensures
    ∙ ap (λ (x : List ℕ). meaning_of (declared path x)) c.spelling.ensures in
    let at = ap kind_tree c.in-Named.is in
    read_named path w own.place own.first (kind_tree own.kind) c.in-Named.name tree.no_lists found c.name_given.result at
    (subst (λ (k : tree.Kind). NameReads found c.name_given.result (given path w (tree.At own.place own.first k))) (sym at)
    (subst (λ (m : Option Meaning). NameReads found c.name_given.result (name_given w m)) means c.name_given.ensures))

pub listed_given-requires : goal.listed_given-requires
listed_given-requires c =
    ap is_application (sym (listed_at c.args.phrase.now.kind c.in-Listed.listed c.deref.result.now c.in-Listed.is c.deref.ensures)) ∙ c.requires.application

pub returns-in-Listed : goal.returns-in-Listed
returns-in-Listed c =
    let own = c.args.phrase.now in
    let path = c.args.path.now in
    let w = view.wanted c.args.wanted in
    let found = types.verdict c.args.found in
    let listed = c.deref.result.now in
    let at = listed_at own.kind c.in-Listed.listed listed c.in-Listed.is c.deref.ensures in
    read_named path w own.place own.first (kind_tree own.kind) (out-Listed listed).name (lists_of (map list_tree (out-Listed listed).lists.items)) found c.listed_given.result (at ∙ listed_is listed)
    (subst (λ (k : tree.Kind). NameReads found c.listed_given.result (given path w (tree.At own.place own.first k))) (sym at) (c.listed_given.ensures own.place own.first))

pub returns-in_default : goal.returns-in_default
returns-in_default c same =
    let own = c.args.phrase.now in
    let path = c.args.path.now in
    let w = view.wanted c.args.wanted in
    let o = typed_phrase path (tree.At own.place own.first (kind_tree own.kind)) in
    subst (Reads c.phrase_given.result o) (no_name_given path w own.place own.first own.kind o (no_name_begins own.kind c.in_default.not-Named (no_applied own.kind c.requires.application) c.in_default.not-Listed) c.requires.setting)
    (as_phrase path own.place own.first (kind_tree own.kind) c.phrase_given.result (types.verdict c.args.found) false (ap types.verdict c.phrase_given.ensures.verdict) c.phrase_given.ensures.part same)
