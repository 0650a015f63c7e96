use Rattle.std.proofs.Common.{refl}
use Rattle.firmware.specs.Planning.{planned, untied}
use Rattle.firmware.proofs.planning.plan_by.Goals as goal

pub returns-in-Ok : goal.returns-in-Ok
returns-in-Ok c = planned c.in-Ok.chooser c.plan-result.new.chooser c.plan-result.result c.in-Ok.ensures c.plan-result.ensures c.code.ensures c.state_of.ensures

pub returns-in-Err : goal.returns-in-Err
returns-in-Err c = untied c.in-Err.refusal c.in-Err.ensures c.number.ensures refl refl
