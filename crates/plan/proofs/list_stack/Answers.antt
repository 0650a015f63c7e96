use Rattle.std.proofs.Common.{ℕ, replicate, subst, ⊎_elim, arith}
use lib.ListN.{length-replicate}
use Rattle.listing.specs.Listed.{Listed}
use Rattle.listing.specs.Text.{plan_text}
use Rattle.plan.proofs.Served.{long_enough, plan_front}
use Rattle.plan.proofs.list_stack.Goals as goal

pub returns-in_err-plan : goal.returns-in_err-plan
returns-in_err-plan c =
    absurd (⊎_elim
    (λ s. long_enough c.args.description.sizes c.args.map.now (replicate 4608 0) (omega arith) (omega (arith, length-replicate {A = ℕ} 4608 0)) s.0)
    (λ u. u.1.2 (c.requires u.1.0 u.1.1))
    c.in_err-plan.ensures.0)

pub returns : goal.returns
returns c =
    let s = c.args.description.sizes in
    let front = plan_front s c.args.map.now c.plan.new.bytes _ c.routers.result c.in_ok-plan.ensures.2 c.routers.ensures in
    subst (λ b. Listed (plan_text s b) c.args.out.now c.list_plan.new.out c.list_plan.result) front.0 (c.list_plan.ensures.listed front.1)
