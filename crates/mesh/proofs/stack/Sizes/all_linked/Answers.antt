use Rattle.std.proofs.Common.{refl, below_more}
use Rattle.mesh.proofs.stack.Sizes.all_linked.Goals as goal

pub loop-gap-preserved : goal.loop-gap-preserved
loop-gap-preserved c = below_more _ _ c.loop-gap.invariant (c.if-not-linked.ensures.0 refl)
