use Rattle.std.proofs.Common.{◌≡◌, take}
use Rattle.routing_laws.specs.Optimistic.{compass}
use Rattle.routing.proofs.optimistic.look.Given as goal

abbrev pub invariant-loop-elevator : goal.invariant-loop-elevator
invariant-loop-elevator l = l.seen ≡ compass (take l.elevator-index l.elevators) l.place
