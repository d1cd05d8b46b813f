use Rattle.block_scopes.proofs.PlaceOrder.{sorted_by_place}
use Rattle.program_numbers.proofs.programs.sort_places.Goals as goal

pub returns : goal.returns
returns c = sorted_by_place (λ place. place) c.args.places.now.items c.sort.new.self.items c.in_ok-sort.ensures.sorted c.sort.ensures.stable
