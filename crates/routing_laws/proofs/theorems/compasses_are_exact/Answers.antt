use Rattle.routing_laws.proofs.Compass.{compass_is}
use Rattle.routing_laws.proofs.theorems.compasses_are_exact.Goals as goal

pub returns : goal.returns
returns c = compass_is
