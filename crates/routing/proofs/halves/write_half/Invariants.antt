use Rattle.std.proofs.Common.{◌≡◌, ℕ}
use Rattle.mesh.specs.declared.grid.Place.{Place}
use Rattle.routing_laws.proofs.Safe.{AloneLeft}
use Rattle.routing.proofs.halves.write_half.Given as goal

abbrev pub invariant-loop-i : goal.invariant-loop-i
invariant-loop-i g l = (f : Place → ℕ) → ((p : Place) (v : ℕ) → goal.F-post g l.half p v → v ≡ f p) → AloneLeft f l.task.sizes.width l.task.sizes.height l.task.way l.initial.bytes l.i l.bytes
