use Rattle.std.proofs.Common.{Ok, Err, refl}
use Rattle.firmware.specs.Reading.{listed}
use Rattle.firmware.proofs.reading.tulgravyn_list_fault.Goals as goal

pub returns-in-Ok : goal.returns-in-Ok
returns-in-Ok c = listed c.in-Some.found c.in-Some.ensures (Ok c.in-Ok.written) c.in-Ok.ensures.listed refl refl

pub returns-in-Err : goal.returns-in-Err
returns-in-Err c = listed c.in-Some.found c.in-Some.ensures (Err c.in-Err.refusal) c.in-Err.ensures.listed c.number-in-Err.ensures refl
