use Rattle.std.proofs.Common.{refl}
use Rattle.firmware.specs.Opening.{opened, refused}
use Rattle.firmware.proofs.planning.tulgravyn_plan.Goals as goal

pub returns-in-Ok : goal.returns-in-Ok
returns-in-Ok c = opened c.in-Ok.opened.sizes c.in-Ok.opened.scheme c.in-Ok.ensures c.plan_by.ensures

pub returns-in-Err : goal.returns-in-Err
returns-in-Err c = refused c.in-Err.refusal c.in-Err.ensures (c.number.ensures, refl, refl)
