use Rattle.std.proofs.Common.{◌≡◌, Bool, take, filter}
use Rattle.mesh.specs.declared.grid.Place.{Place}
use Rattle.routing.proofs.rooms.list_passing.Given as goal

abbrev pub invariant-loop-place : goal.invariant-loop-place
invariant-loop-place g l = (test : Place → Bool) → ((p : _) (b : Bool) → goal.F-post g l.passes p b → b ≡ test p.now) → l.list.items ≡ take g.row.N (filter test (take l.place-index l.places))
