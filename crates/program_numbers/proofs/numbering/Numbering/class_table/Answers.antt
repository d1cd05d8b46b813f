use Rattle.std.proofs.Common.{map, sym, subst}
use Rattle.algolw_typing.specs.Known.{FieldsKnow, ClassesKnow}
use Rattle.typed_findings.specs.ClassView.{class_view, field_view}
use Rattle.program_numbers.specs.HoldsClasses.{HoldsClasses}
use Rattle.program_numbers.proofs.Making.{part_has}
use Rattle.program_numbers.proofs.ProgramMaking.{class_held, classes_more}
use Rattle.program_numbers.proofs.numbering.Numbering.class_table.Goals as goal

pub fields-requires : goal.fields-requires
fields-requires c =
    part_has (λ xs. ClassesKnow c.args.self.now.classes (map class_view xs)) (λ x. FieldsKnow c.args.self.now.classes (map field_view x.fields.now)) (λ x xs h. h) c.args.classes.now c.loop-class.class-index c.class-item.result c.loop-class-test.true c.class-item.is c.requires

pub loop-class-preserved : goal.loop-class-preserved
loop-class-preserved c =
    subst (HoldsClasses c.args.self.now c.add_class.new.self) (sym (classes_more class_view c.args.classes.now c.loop-class.class-index c.class-item.result c.loop-class-test.true c.class-item.is))
    (class_held c.args.self.now c.loop-class.table c.fields.new.table c.add_class.new.self _ c.class-item.result.name c.in_ok-fields.fields.items (map field_view c.class-item.result.fields.now) c.loop-class.invariant
    c.in_ok-fields.ensures c.in_ok-add_class.ensures.added)
