use Rattle.std.proofs.Common.{ℕ, List, Option, sym, ap, subst, ◌∙◌, arith}
use Rattle.std.proofs.lemmas.Grind.{common_steps}
use Rattle.std.specs.HashMap.{get}
use Rattle.std.specs.Option.{unwrap_or}
use Rattle.std.specs.Str.{bytes_eq}
use Rattle.algolw_tree.specs.Tree.{Placed}
use Rattle.name_scopes.specs.Firsts.{FirstsOf, first_of}
use Rattle.name_scopes.proofs.Firsts.{first_put}
use Rattle.name_scopes.proofs.scope.note.Goals as goal

pub returns-in_ok-first-in-Some-clause-noted : goal.returns-in_ok-first-in-Some-clause-noted
returns-in_ok-first-in-Some-clause-noted g c =
    let before = g.before in
    let old = c.in-Some.first in
    let i = c.args.position in
    let x : Placed = c.args.declared.now in
    let held = subst (FirstsOf before) c.in-Some.is c.requires.0 in
    let here = c.or_insert.ensures.value ∙ ap (λ (held : Option ℕ). unwrap_or held i) (c.in_ok-first-in-Some.ensures.value ∙ ap (get bytes_eq old) c.new.ensures) in
    record { at = λ q. first_put before x i c.or_insert.result.now old _ q held c.requires.1.0 here (grind (arith, common_steps)) ∙ ap (λ (xs : List Placed). first_of xs q) (sym c.requires.1.1) }
