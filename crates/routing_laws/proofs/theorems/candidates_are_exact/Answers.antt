use Rattle.routing_laws.proofs.Ties.{exact}
use Rattle.routing_laws.proofs.theorems.candidates_are_exact.Goals as goal

pub returns : goal.returns
returns c = exact
