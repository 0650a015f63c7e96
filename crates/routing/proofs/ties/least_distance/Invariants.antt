use Rattle.std.proofs.Common.{◌≡◌, drop, fold}
use Rattle.routing_laws.specs.Ties.{least}
use Rattle.routing_laws.proofs.Ties.{smaller}
use Rattle.routing.proofs.ties.least_distance.Given as goal

abbrev pub invariant-loop-elevator : goal.invariant-loop-elevator
invariant-loop-elevator l = fold (smaller l.place) l.least (drop l.elevator-index l.elevators) ≡ least l.place l.elevators
