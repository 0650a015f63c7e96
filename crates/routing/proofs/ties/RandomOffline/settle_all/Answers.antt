use Rattle.std.proofs.Common.{get_or, ap, ◌∙◌, arith}
use Rattle.mesh.specs.Halves.{with_half}
use Rattle.routing_laws.specs.Nearest.{pointing}
use Rattle.routing_laws.specs.Ties.{onward, target}
use Rattle.routing_laws.proofs.Ties.{tie_all, tie_more, tie_none}
use Rattle.routing.proofs.ties.RandomOffline.settle_all.Goals as goal

pub loop-i-init : goal.loop-i-init
loop-i-init g c = tie_none c.requires

pub loop-i-preserved : goal.loop-i-preserved
loop-i-preserved g c =
    let position = g.C.Chooser.position in
    let after = g.C.Chooser.after in
    let o = c.args.self.order in
    let z = c.args.task.plane in
    let way = c.args.task.way in
    let es = c.args.task.elevators.now in
    let ask = c.loop-i.chooser in
    let place = c.place_at-place.ensures in
    let points = c.pointing.ensures ∙ ap (pointing c.place_at-place.result) c.settle-elevator.ensures.settles ∙ ap (λ p. pointing p (target position after o z way es p ask)) place in
    tie_more c.loop-i.invariant (omega arith) c.with_half.result c.settle-elevator.new.chooser
    (c.with_half.ensures ∙ ap (with_half way (get_or c.loop-i.bytes c.loop-i.i 0)) points)
    (c.settle-elevator.ensures.goes ∙ ap (λ p. onward position after o z way es p ask) place)

pub returns : goal.returns
returns g c = let all = tie_all c.loop-i.invariant (omega arith) in record { writes = all.0; goes = all.1 }
