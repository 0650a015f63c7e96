use Rattle.std.proofs.Common.{◌≡◌, take, drop}
use Rattle.channels.specs.Results.{state_of}
use Rattle.channels.specs.Running.{answered, ran}
use Rattle.channels.proofs.stacks.PlannedStack.work_all.Given as goal

abbrev pub invariant-loop-i : goal.invariant-loop-i
invariant-loop-i g l =
    let reply = g.G.Guide.reply l.guide in
    let s = state_of l.self l.initial.table in
    (l.table ≡ (ran reply s (take l.i l.calls)).table) × (take l.i l.answers ≡ answered reply s (take l.i l.calls)) × (drop l.i l.answers ≡ drop l.i l.initial.answers)
