use Rattle.std.proofs.Common.{◌≡◌, true}
use Rattle.algolw_typing.specs.Known.{AllHad}
use Rattle.algolw_typing.specs.Types.{has}
use Rattle.program_numbers.proofs.Making.{part_at}
use Rattle.program_numbers.proofs.numbering.Numbering.class_ids.Goals as goal

pub class-requires : goal.class-requires
class-requires c = part_at (λ ps. AllHad c.args.self.now.classes ps) (λ p. has c.args.self.now.classes p ≡ true) (λ p ps h. h) c.args.classes.now c.loop-class.class-index _ c.loop-class-test.true c.requires
