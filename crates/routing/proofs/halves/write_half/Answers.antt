use Rattle.std.proofs.Common.{get_or, ap, ◌∙◌, arith}
use Rattle.mesh.specs.Halves.{with_half}
use Rattle.routing_laws.proofs.Safe.{alone_all, alone_more, alone_none}
use Rattle.routing.proofs.halves.write_half.Goals as goal

pub loop-i-init : goal.loop-i-init
loop-i-init g c = λ f says. alone_none c.requires.whole

pub loop-i-preserved : goal.loop-i-preserved
loop-i-preserved g c = λ f says.
    let here = says c.place_at.result c.half.result c.half.ensures ∙ ap f c.place_at.ensures in
    alone_more (c.loop-i.invariant f says) (omega arith) c.with_half.result (c.with_half.ensures ∙ ap (with_half c.args.task.way (get_or c.loop-i.bytes c.loop-i.i 0)) here)

pub returns : goal.returns
returns g c = λ f says. alone_all (c.loop-i.invariant f says) (omega arith)
