use Rattle.deck_reader.proofs.Fields.{fields-not_parted, fields-parted}
use Rattle.deck_reader.proofs.forms.next_field.Goals as goal

pub returns-in-None : goal.returns-in-None
returns-in-None c = fields-not_parted c.args.bytes.now c.in-None.ensures.parts

pub returns-in-Some : goal.returns-in-Some
returns-in-Some c = fields-parted c.args.bytes.now c.in-Some.field.now c.in-Some.rest.now c.in-Some.ensures.parts
