use Rattle.std.proofs.Common.{map, refl}
use Rattle.typing_rules.specs.View.{value_type}
use Rattle.algolw_typing.specs.Known.{FieldsKnow, KnowsType}
use Rattle.typed_findings.specs.ClassView.{field_view}
use Rattle.program_numbers.specs.HoldsClasses.{field_in}
use Rattle.program_numbers.proofs.Making.{makes_of, turn, finish, part_has}
use Rattle.program_numbers.proofs.numbering.Numbering.fields.Goals as goal

pub simple_type-requires : goal.simple_type-requires
simple_type-requires c = part_has (λ xs. FieldsKnow c.args.self.now.classes (map field_view xs)) (λ x. KnowsType c.args.self.now.classes (value_type x.field_type)) (λ x xs h. h) c.args.fields.now c.loop-field.field-index c.field-item.result c.loop-field-test.true c.field-item.is c.requires

pub loop-field-preserved : goal.loop-field-preserved
loop-field-preserved c =
    turn c.args.self.now c.args.table.now c.loop-field.table c.simple_type.new.table field_in field_view c.args.fields.now c.loop-field.field-index c.field-item.result c.loop-field.made.items c.push.new.self.items (c.field-item.result.name, c.in_ok-of.of) c.loop-field-test.true c.field-item.is c.loop-field.invariant
    (makes_of c.args.self.now c.loop-field.table c.simple_type.new.table _ _ (λ t. (c.field-item.result.name, t)) (λ ns. field_in ns (c.field-item.result.name, c.in_ok-of.of)) (field_view c.field-item.result) (λ sets. refl) refl c.in_ok-of.ensures) c.in_ok-push.ensures.items

pub returns : goal.returns
returns c = finish c.args.self.now c.args.table.now c.loop-field.table field_in field_view c.args.fields.now c.loop-field.field-index c.loop-field.made.items c.loop-field-test.false c.loop-field.invariant
