use Rattle.std.proofs.Common.{List, map, refl, subst, sym, ap, ◌∙◌}
use Rattle.std.specs.Prelude.{IfOk}
use Rattle.algolw_tree.specs.Wholes.{whole_tree}
use Rattle.algolw_typing.specs.Faults.{typed_program}
use Rattle.algolw_typing.specs.Known.{AllHad, Knows, ClassesKnow}
use Rattle.typed_findings.specs.ClassView.{class_view}
use Rattle.typed_findings.specs.declared.classes.FoundClass.{FoundClass}
use Rattle.type_checker.proofs.Programs.{at_program, known_names, known_fields, known_classes, if_held}
use Rattle.algolw_typing.specs.ProgramView.{HoldsProgram}
use Rattle.algolw_tree.specs.declared.programs.NameInfo.{NameInfo}
use Rattle.algolw_typing.specs.Naming.{Class}
use Rattle.algolw_typing.specs.Programs.{by_place}
use Rattle.type_checker.specs.Resolution.{IsResolution}
use Rattle.type_checker.proofs.checking.good_program.Goals as goal

pub number_program-requires-clause-known : goal.number_program-requires-clause-known
number_program-requires-clause-known c =
    let x = whole_tree c.args.root in
    let r : IsResolution x c.sort_names.new.names.items c.sort_classes.new.classes.items = (record {
      declared = c.in_ok-sort_names.ensures ∙ ap (by_place (λ (i : NameInfo). i.place)) c.requires.names;
      classes = c.in_ok-sort_classes.ensures ∙ ap (by_place (λ (k : Class). k.place)) c.requires.classes;
    }) in
    subst (λ (cs : List FoundClass). Knows (map (λ info. info.place) c.sort_names.new.names.items) (map (λ class. class.place) (map class_view cs)) (typed_program x).node) (sym c.deref-2.ensures.value)
    (known_names x c.sort_names.new.names.items c.sort_classes.new.classes.items (typed_program x).node c.requires.faults r refl)

pub number_program-requires-clause-fields : goal.number_program-requires-clause-fields
number_program-requires-clause-fields c =
    let x = whole_tree c.args.root in
    let r : IsResolution x c.sort_names.new.names.items c.sort_classes.new.classes.items = (record {
      declared = c.in_ok-sort_names.ensures ∙ ap (by_place (λ (i : NameInfo). i.place)) c.requires.names;
      classes = c.in_ok-sort_classes.ensures ∙ ap (by_place (λ (k : Class). k.place)) c.requires.classes;
    }) in
    subst (λ (cs : List FoundClass). ClassesKnow (map (λ class. class.place) (map class_view cs)) (map class_view cs)) (sym c.deref-2.ensures.value)
    (known_fields x c.sort_names.new.names.items c.sort_classes.new.classes.items c.requires.faults r)

pub number_program-requires-clause-named : goal.number_program-requires-clause-named
number_program-requires-clause-named c =
    let x = whole_tree c.args.root in
    let r : IsResolution x c.sort_names.new.names.items c.sort_classes.new.classes.items = (record {
      declared = c.in_ok-sort_names.ensures ∙ ap (by_place (λ (i : NameInfo). i.place)) c.requires.names;
      classes = c.in_ok-sort_classes.ensures ∙ ap (by_place (λ (k : Class). k.place)) c.requires.classes;
    }) in
    subst (λ (cs : List FoundClass). AllHad (map (λ info. info.place) c.sort_names.new.names.items) (map (λ class. class.place) (map class_view cs))) (sym c.deref-2.ensures.value)
    (known_classes x c.sort_names.new.names.items c.sort_classes.new.classes.items r)

pub returns : goal.returns
returns c =
    let x = whole_tree c.args.root in
    let r : IsResolution x c.sort_names.new.names.items c.sort_classes.new.classes.items = (record {
      declared = c.in_ok-sort_names.ensures ∙ ap (by_place (λ (i : NameInfo). i.place)) c.requires.names;
      classes = c.in_ok-sort_classes.ensures ∙ ap (by_place (λ (k : Class). k.place)) c.requires.classes;
    }) in
    if_held x c.sort_names.new.names.items c.sort_classes.new.classes.items (typed_program x).node c.number_program.result r refl
    (subst (λ (cs : List FoundClass). IfOk c.number_program.result (λ p. HoldsProgram p (at_program (typed_program x).node c.sort_names.new.names.items (map class_view cs)))) c.deref-2.ensures.value c.number_program.ensures)
