use Rattle.stack_code.proofs.Displays.{displays_are_links}
use Rattle.stack_code.proofs.laws.displays_are_links.Goals as goal

pub returns : goal.returns
returns c = displays_are_links
