use Rattle.std.proofs.Common.{◌≡◌, ◌≤◌, length, take, filter}
use Rattle.routing_laws.specs.Elevators.{linked, places}
use Rattle.planner.proofs.gaps.Gaps.elevators.Given as goal

abbrev pub invariant-loop-i : goal.invariant-loop-i
invariant-loop-i l = (l.list.items ≡ filter (linked l.self.sizes.width l.self.sizes.height l.self.map.now l.gap) (take l.i (places l.self.sizes.width l.self.sizes.height))) × (length l.list.items ≤ l.i)
