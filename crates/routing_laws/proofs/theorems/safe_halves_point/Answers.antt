use Rattle.routing_laws.proofs.Safe.{points_safely}
use Rattle.routing_laws.proofs.theorems.safe_halves_point.Goals as goal

pub returns : goal.returns
returns c = points_safely
