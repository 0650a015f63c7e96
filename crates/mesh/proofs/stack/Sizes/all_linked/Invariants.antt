use Rattle.std.proofs.Common.{ℕ, ◌*◌, ◌<◌}
use Rattle.mesh.specs.Layout.{Shown}
use Rattle.mesh.proofs.stack.Sizes.all_linked.Given as goal

abbrev pub invariant-loop-gap : goal.invariant-loop-gap
invariant-loop-gap l = (g : ℕ) → g < l.gap → Shown (l.self.width * l.self.height) l.map g
