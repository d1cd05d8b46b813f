use Rattle.std.proofs.Common.{◌≡◌, ◌||◌, false, map, sym, ap, ◌∙◌, rules, tests}
use Rattle.std.specs.List.{list_any}
use Rattle.std.proofs.lemmas.Iterator.{YieldsList-from_slice}
use Rattle.std.proofs.lemmas.Iterator.Search.{any_from_yields_List}
use Rattle.record_classes.specs.Classes.{has, set_of}
use Rattle.algolw_typing.specs.Types.{is_empty}
use Rattle.stack_code.proofs.Sets.{place, fits_is, empty_is, not_empty}
use Rattle.machine_calls.proofs.comparing.share_one.Goals as goal

pub returns-else-is_empty : goal.returns-else-is_empty
returns-else-is_empty c =
    let g = c.args.code.now.given in
    let xs = c.set_classes-classes.result.now in
    let zs = set_of g.classes c.args.given in
    let ys = set_of g.classes c.args.wanted in
    let by_call : c.any.result ≡ list_any (λ x. has ys x) xs = any_from_yields_List (λ x. has ys x) _ _ c.any.result c.any.ensures.ran (YieldsList-from_slice xs cc) (λ x b q. search (rules, tests)) in
    let full : is_empty (map (place g) xs) ≡ false = empty_is g xs ∙ not_empty xs (sym c.is_empty.ensures ∙ c.if-is_empty.false) in
    by_call
    ∙ ap (λ b. b || list_any (λ x. has ys x) xs) (sym full)
    ∙ ap (λ l. is_empty (map (place g) l) || list_any (λ x. has ys x) l) c.set_classes-classes.ensures
    ∙ sym (fits_is g c.requires.whole c.args.given c.args.wanted c.requires.given c.requires.wanted)
