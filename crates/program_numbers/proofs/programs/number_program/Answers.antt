use Rattle.std.proofs.Common.{map, refl, sym, ap, subst, ◌∙◌}
use Rattle.algolw_tree.specs.Wholes.{whole_tree}
use Rattle.algolw_typing.specs.Faults.{typed_program}
use Rattle.algolw_typing.specs.Known.{AllHad, ClassesKnow}
use Rattle.algolw_typing.specs.Programs.{by_place}
use Rattle.algolw_typing.specs.ProgramView.{node_view}
use Rattle.typed_findings.specs.ClassView.{class_view}
use Rattle.typed_findings.specs.Findings.{counted_places, finding_view}
use Rattle.program_numbers.specs.Makes.{Makes}
use Rattle.program_numbers.proofs.ProgramMaking.{program_held}
use Rattle.program_numbers.proofs.ProgramTaken.{places_found, program_made, program_numbered}
use Rattle.program_numbers.proofs.programs.number_program.Goals as goal

pub class_table-requires : goal.class_table-requires
class_table-requires c = subst (λ ps. ClassesKnow ps (map class_view c.args.classes.now)) (sym c.in_ok-numbering.ensures.classes) c.requires.fields

pub root-requires : goal.root-requires
root-requires c =
    let n = c.in_ok-numbering.numbering in
    let names = c.in_ok-numbering.ensures.names ∙ ap (map (λ info. info.place)) c.deref.ensures.value in
    let counted = c.in_ok-numbering.ensures.statements ∙ ap (λ fs. by_place (λ place. place) (counted_places fs)) (sym c.new-found.ensures) in
    program_numbered n (whole_tree c.args.root) c.new-found.result _ _ (c.new-found.ensures ∙ c.requires.found) names c.in_ok-numbering.ensures.classes counted c.requires.known

pub class_names-requires : goal.class_names-requires
class_names-requires c =
    let names = c.in_ok-numbering.ensures.names ∙ ap (map (λ info. info.place)) c.deref.ensures.value in
    subst (λ ps. AllHad ps (map (λ class. class.place) (map class_view c.args.classes.now))) (sym names) c.requires.named

pub returns : goal.returns
returns c =
    let n = c.in_ok-numbering.numbering in
    let x = whole_tree c.args.root in
    let statements = c.into_statements.ensures ∙ c.in_ok-numbering.ensures.statements ∙ places_found x (map finding_view c.args.findings.now) c.requires.found in
    program_held n c.in_ok-table.table _ _ refl statements (c.in_ok-numbering.ensures.names ∙ ap (map (λ info. info.place)) c.deref.ensures.value) c.in_ok-numbering.ensures.classes (sym c.into_statements.ensures) c.in_ok-class_names.ensures c.in_ok-table.ensures
    (subst (λ t. Makes n c.in_ok-table.table t (λ ns. node_view ns c.in_ok-root.root) (typed_program x).node) (sym c.into_table.ensures)
    (program_made n c.in_ok-table.table _ _ x c.new-found.result _ (c.new-found.ensures ∙ c.requires.found) c.in_ok-root.ensures))
