use Rattle.std.proofs.Common.{rules, ◌≡◌, ◌<◌, Option, length, sym, ap, subst, ◌∙◌}
use Rattle.algolw_tree.specs.declared.phrases.Listed.{out-Listed}
use Rattle.algolw_typing.specs.Meanings.{Meaning}
use Rattle.algolw_typing.specs.Typing.{PartOut, meaning_of, name_given, named_out, phrase_given, variable_name}
use Rattle.typing_rules.specs.MeaningView as view
use Rattle.typing_rules.specs.View as types
use Rattle.typed_phrases.specs.Readings.{Reads}
use Rattle.typed_phrases.proofs.InLists.{read_name, read_more}
use Rattle.typed_phrases.proofs.Readings.{name_as_phrase}
use Rattle.typed_phrases.proofs.actuals.listed_given.Goals as goal

pub returns-then-is_empty : goal.returns-then-is_empty
returns-then-is_empty c place first p f e lists same =
    let own = out-Listed c.args.listed.now in
    let o = named_out p f e lists in
    let w = view.wanted c.args.wanted in
    let means = c.meaning_of-means.ensures own.name ∙ ap meaning_of c.declared.ensures in
    let none : length own.lists.items ≡ 0 = search rules in
    subst (λ (r : PartOut). Reads c.name_given.result o r)
    (ap (λ (m : Option Meaning). name_given w m o) means ∙ sym (read_name c.args.path.now w place first c.args.listed.now o none))
    (c.name_given.ensures p f e lists same)

pub returns-else-is_empty : goal.returns-else-is_empty
returns-else-is_empty c place first p f e lists same =
    let own = out-Listed c.args.listed.now in
    let o = named_out p f e lists in
    let w = view.wanted c.args.wanted in
    let means = c.meaning_of-means.ensures own.name ∙ ap meaning_of c.declared.ensures in
    let some : 0 < length own.lists.items = search rules in
    subst (λ (r : PartOut). Reads c.phrase_given.result o r)
    (ap (λ b. phrase_given b o) c.is_variable.ensures ∙ ap (λ (m : Option Meaning). phrase_given (variable_name m) o) means
    ∙ sym (read_more c.args.path.now w place first c.args.listed.now o some c.requires))
    (name_as_phrase c.phrase_given.result c.is_variable.result (types.verdict c.args.found) (ap types.verdict c.phrase_given.ensures.verdict) c.phrase_given.ensures.part p f e lists same)
