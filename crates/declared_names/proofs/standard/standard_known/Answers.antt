use Rattle.std.proofs.Common.{◌∙◌}
use Rattle.algolw_typing.specs.Names.{in_scope}
use Rattle.algolw_typing.specs.Scopes.{standard_scope}
use Rattle.name_scopes.proofs.Looking.{alone}
use Rattle.declared_names.proofs.standard.standard_known.Goals as goal

pub returns : goal.returns
returns c = c.known_on_no_card.ensures ∙ alone (in_scope standard_scope c.args.name.now)
