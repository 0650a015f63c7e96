use Rattle.std.proofs.Common.{◌≡◌}
use Rattle.routing_laws.specs.Plan.{begun, job}
use Rattle.routing_laws.proofs.Planning.{Holds}
use Rattle.planner.proofs.planning.fill_gaps.Given as goal

abbrev pub invariant-loop-gap : goal.invariant-loop-gap
invariant-loop-gap g l =
    Holds (job l.gaps.sizes l.gaps.map.now (g.F.Filler.half l.filler) (g.F.Filler.next l.filler)) l.initial.chooser l.gap l.bytes
    × (l.chooser ≡ begun (job l.gaps.sizes l.gaps.map.now (g.F.Filler.half l.filler) (g.F.Filler.next l.filler)) l.initial.chooser l.gap)
