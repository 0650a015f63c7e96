use Rattle.std.proofs.Common.{[], ◌∷◌, OnOk, subst}
use Rattle.replay.specs.Scripts.{Grown, call, link, order, plan, stack}
use Rattle.replay.proofs.Adding.{added}
use Rattle.replay.proofs.script.Draft.add.Goals as goal

pub returns-in-Stack-Stack : goal.returns-in-Stack-Stack
returns-in-Stack-Stack c = search (added, stack)

pub returns-in-Order-Order : goal.returns-in-Order-Order
returns-in-Order-Order c = search (added, order)

pub returns-in-Links-Link : goal.returns-in-Links-Link
returns-in-Links-Link c = search (added, link)

pub returns-in-Links-Plan : goal.returns-in-Links-Plan
returns-in-Links-Plan c = search (added, plan)

pub returns-in-Calls-Call : goal.returns-in-Calls-Call
returns-in-Calls-Call c =
    let p = c.in-Calls-Call.is-0 in
    added _ _ _ p c.in-Calls-Call.is-1 call (subst (λ s. OnOk c.call.result (Grown c.args.self.now c.call.new.self s [] (c.in-Calls-Call.call ∷ []))) p c.call.ensures)
