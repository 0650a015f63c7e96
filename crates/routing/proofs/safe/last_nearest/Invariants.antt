use Rattle.std.proofs.Common.{◌≡◌, get_or}
use Rattle.mesh.specs.Compass.{distance}
use Rattle.routing_laws.specs.Elevators.{origin}
use Rattle.routing_laws.proofs.Nearest.{SoFar}
use Rattle.routing.proofs.safe.last_nearest.Given as goal

abbrev pub invariant-loop-i : goal.invariant-loop-i
invariant-loop-i l = SoFar l.elevators l.place l.i l.best × (l.least ≡ distance l.place (get_or l.elevators l.best origin))
