use Rattle.std.proofs.Common.{◌≡◌, map, true}
use Rattle.algolw_typing.specs.Known.{AllHad}
use Rattle.algolw_typing.specs.Types.{has}
use Rattle.typed_findings.specs.ClassView.{class_view}
use Rattle.program_numbers.proofs.Making.{part_has}
use Rattle.program_numbers.proofs.numbering.Numbering.class_names.Goals as goal

pub number-requires : goal.number-requires
number-requires c = part_has (λ xs. AllHad c.args.self.now.names (map (λ class. class.place) (map class_view xs))) (λ x. has c.args.self.now.names x.place ≡ true) (λ x xs h. h) c.args.classes.now c.loop-class.class-index c.class-item.result c.loop-class-test.true c.class-item.is c.requires
