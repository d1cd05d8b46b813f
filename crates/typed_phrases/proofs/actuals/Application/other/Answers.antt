use Rattle.std.proofs.Common.{◌≡◌, List, length, get_or, ap, ◌∙◌, arith}
use borrow.Author.Tests.{ltb-true, ltb-false}
use Rattle.algolw_tree.specs.declared.phrases.List as list
use Rattle.algolw_tree.specs.declared.phrases.Listed.{out-Listed}
use Rattle.typed_phrases.proofs.Applying.{one_list, other_lists, part_list}
use Rattle.typed_phrases.proofs.actuals.Application.other.Goals as goal
use Rattle.typed_phrases.proofs.actuals.Application.other.Goals.{in_default-via-then-as_slice-lt1, in_default-via-else-as_slice-lt1+else-this-lt2}

pub returns-in_default : goal.returns-in_default
returns-in_default c =
    let same = ap length c.as_slice.ensures.value in
    other_lists c.args.listed.now (λ one.
    elim c.in_default.branch [
      | in_default-via-then-as_slice-lt1 w ↦ omega (arith, same, one, ltb-true)
      | in_default-via-else-as_slice-lt1+else-this-lt2 w ↦ omega (arith, same, one, ltb-false)
    ])

pub returns-in_default-kind : goal.returns-in_default-kind
returns-in_default-kind c =
    let own = out-Listed c.args.listed.now in
    let same = ap length c.as_slice.ensures.value in
    let one : length own.lists.items ≡ 1 = omega arith in
    let here : c.list-item.result ≡ get_or own.lists.items 0 c.list-item.result = c.list-item.is ∙ ap (λ (lists : List list.List). get_or lists 0 c.list-item.result) c.as_slice.ensures.value in
    part_list c.args.listed.now c.list-item.result one here c.in_default-kind.not-Actuals

pub returns : goal.returns
returns c =
    let own = out-Listed c.args.listed.now in
    let same = ap length c.as_slice.ensures.value in
    let one : length own.lists.items ≡ 1 = omega arith in
    let here : c.list-item.result ≡ get_or own.lists.items 0 c.list-item.result = c.list-item.is ∙ ap (λ (lists : List list.List). get_or lists 0 c.list-item.result) c.as_slice.ensures.value in
    record {
      name = own.name;
      kind = one_list c.args.listed.now c.list-item.result c.in-Actuals.actuals c.as_slice-2.result.now one here c.in-Actuals.is c.as_slice-2.ensures.value;
      target = c.declared.ensures;
    }
