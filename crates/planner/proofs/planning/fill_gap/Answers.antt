use Rattle.std.proofs.Common.{length, ap, ◌∙◌, arith}
use Rattle.routing_laws.proofs.Listing.{elevators_most}
use Rattle.planner.proofs.planning.fill_gap.Goals as goal

pub invariant_of-below-clause-few : goal.invariant_of-below-clause-few
invariant_of-below-clause-few g c =
    let s = c.args.gaps.sizes in
    omega (arith, ap length (c.deref.ensures.0 ∙ c.elevators.ensures.list), elevators_most s.width s.height s.some_columns s.some_rows c.args.gaps.map.now c.args.gap)
