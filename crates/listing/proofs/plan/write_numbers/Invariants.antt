use Rattle.std.proofs.Common.{◌≡◌, ◌*◌, ◌++◌, take, drop}
use Rattle.std.specs.List.{flat_map}
use Rattle.listing.specs.Made.{number}
use Rattle.listing.proofs.plan.write_numbers.Given as goal

abbrev pub invariant-loop-i : goal.invariant-loop-i
invariant-loop-i l = l.out ≡ flat_map number (take l.i l.row) ++ drop (l.i * 3) l.initial.out
