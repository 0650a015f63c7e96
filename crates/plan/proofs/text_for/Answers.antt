use Rattle.plan.proofs.Served.{front_says}
use Rattle.plan.proofs.text_for.Goals as goal

pub returns : goal.returns
returns c =
    let a = c.in_ok-count.ensures in
    front_says c.args.input.now a.text _ c.answer.new.out c.min.result c.in_ok-count.count c.min.ensures a.listed.1 a.listed.2 a.says
