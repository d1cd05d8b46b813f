use Rattle.std.proofs.Common.{◌≡◌, true, false, map, sym, ap, subst, ◌∙◌}
use Rattle.algolw_typing.specs.Actuals.{is_subarray, subarray_part, subarray_row}
use Rattle.algolw_typing.specs.Typing.{PartOut, named_out}
use Rattle.typing_rules.specs.MeaningView as view
use Rattle.typing_rules.specs.View as types
use Rattle.typed_phrases.specs.Readings.{Reads, plain, without_type}
use Rattle.typed_phrases.proofs.Readings.{name_as_phrase, read_subarray, read_whole, without}
use Rattle.typed_phrases.proofs.actuals.array_given.Goals as goal

pub returns-then-not-is_subarray : goal.returns-then-not-is_subarray
returns-then-not-is_subarray c p f e lists same =
    let o = named_out p f e lists in
    let w = view.wanted c.args.wanted in
    let parts = map plain (map view.part c.args.parts.now) in
    let read = ap (map view.part) c.deref.ensures.value ∙ c.in_ok-parts.ensures in
    let whole : is_subarray w parts ≡ false = ap (is_subarray w) (sym read) ∙ sym c.is_subarray.ensures ∙ c.if-not-is_subarray.true in
    subst (λ (r : PartOut). Reads c.phrase_given.result o r) (sym (read_whole c.args.place w (types.value_type c.args.element) c.args.dimensions parts o whole))
    (name_as_phrase c.phrase_given.result true (types.verdict c.args.found) (ap types.verdict c.phrase_given.ensures.verdict) c.phrase_given.ensures.part p f e lists same)

pub returns : goal.returns
returns c p f e lists same =
    let o = named_out p f e lists in
    let w = view.wanted c.args.wanted in
    let t = types.value_type c.args.element in
    let n = c.args.dimensions in
    let parts = map plain (map view.part c.args.parts.now) in
    let row = subarray_row c.args.place n parts in
    let read = ap (map view.part) c.deref.ensures.value ∙ c.in_ok-parts.ensures in
    let some : is_subarray w parts ≡ true = ap (is_subarray w) (sym read) ∙ sym c.is_subarray.ensures ∙ c.if-not-is_subarray.false in
    let found = c.subarray_row-row.ensures.row ∙ ap (λ ps. subarray_row c.args.place n (map view.part ps)) c.deref-2.ensures.value ∙ ap (subarray_row c.args.place n) c.in_ok-parts.ensures in
    let part = c.subarray_part.ensures ∙ ap (λ ps. subarray_part w t (map view.part ps) (types.verdict c.subarray_row-row.result)) c.deref-3.ensures.value
    ∙ ap (λ ps. subarray_part w t ps (types.verdict c.subarray_row-row.result)) c.in_ok-parts.ensures ∙ ap (subarray_part w t parts) found in
    subst (λ (r : PartOut). Reads (record { verdict = c.without_type.result; part = c.subarray_part.result }) o r) (sym (read_subarray c.args.place w t n parts o some))
    (without (record { verdict = c.without_type.result; part = c.subarray_part.result }) p f e lists (subarray_part w t parts row) row (c.without_type.ensures ∙ ap without_type found) part)
