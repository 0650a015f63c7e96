use Rattle.routing.specs.Telling.{task_of}
use Rattle.routing_laws.proofs.Ties.{TieLeft}
use Rattle.routing.proofs.ties.RandomOffline.settle_all.Given as goal

abbrev pub invariant-loop-i : goal.invariant-loop-i
invariant-loop-i g l = TieLeft g.C.Chooser.position g.C.Chooser.after l.self.order (task_of l.task) l.initial.bytes l.initial.chooser l.i l.bytes l.chooser
