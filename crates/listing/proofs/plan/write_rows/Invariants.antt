use Rattle.std.proofs.Common.{◌≡◌, ◌*◌, ◌++◌, drop}
use Rattle.listing.specs.Text.{lines}
use Rattle.listing.proofs.plan.write_rows.Given as goal

abbrev pub invariant-loop-row : goal.invariant-loop-row
invariant-loop-row l = l.out ≡ lines l.width l.row l.bytes ++ drop (l.row * l.width * 3) l.initial.out
