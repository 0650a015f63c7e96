use Rattle.std.proofs.Common.{arith}
use Rattle.plan.specs.Answering.{fault, plan}
use Rattle.plan.proofs.Served.{all_joined}
use Rattle.plan.proofs.answer.Goals as goal

pub list_stack-requires : goal.list_stack-requires
list_stack-requires c = all_joined (c.in-Ok.ensures.meaning (omega arith))

pub returns-in-Ok : goal.returns-in-Ok
returns-in-Ok c = record { text = _; says = plan c.in-Ok.description c.read.new.map (c.in-Ok.ensures.meaning (omega arith)); listed = c.list_stack.ensures }

pub returns-in-Err : goal.returns-in-Err
returns-in-Err c = record { text = _; says = fault c.in-Err.fault (c.in-Err.ensures.meaning (omega arith)).0; listed = c.list_fault.ensures.listed }
