use Rattle.std.proofs.Common.{Ok, Err, refl}
use Rattle.firmware.specs.Opening.{opened, refused}
use Rattle.firmware.proofs.planning.tulgravyn_list_plan.Goals as goal

pub returns-in-Ok-list_plan : goal.returns-in-Ok-list_plan
returns-in-Ok-list_plan c =
    let told = c.in-Ok-list_plan.ensures in
    opened c.in-Ok.opened.sizes c.in-Ok.opened.scheme c.in-Ok.ensures record { result = Ok c.in-Ok-list_plan.written; few = told.few; listed = told.listed; number = refl; counted = refl }

pub returns-in-Err-list_plan : goal.returns-in-Err-list_plan
returns-in-Err-list_plan c =
    let told = c.in-Err-list_plan.ensures in
    opened c.in-Ok.opened.sizes c.in-Ok.opened.scheme c.in-Ok.ensures record { result = Err c.in-Err-list_plan.refusal; few = told.few; listed = told.listed; number = c.number.ensures; counted = refl }

pub returns-in-Err : goal.returns-in-Err
returns-in-Err c = refused c.in-Err.refusal c.in-Err.ensures (c.number-in-Err.ensures, refl, refl)
