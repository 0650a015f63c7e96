use Rattle.std.proofs.Common.{refl, ap, ◌∙◌}
use Rattle.firmware.specs.Opening.{code, opened, refused}
use Rattle.firmware.specs.Tables.{handed}
use Rattle.firmware.proofs.tables.tulgravyn_collect.Goals as goal

pub returns-in-Ok-collect : goal.returns-in-Ok-collect
returns-in-Ok-collect c =
    let told = c.in-Ok-collect.ensures in
    opened c.in-Ok.opened.sizes c.in-Ok.opened.scheme c.in-Ok.ensures (ap code told.answers, told.leaves, ap (handed c.args.packet.now) told.answers)

pub returns-in-Err-collect : goal.returns-in-Err-collect
returns-in-Err-collect c =
    let told = c.in-Err-collect.ensures in
    opened c.in-Ok.opened.sizes c.in-Ok.opened.scheme c.in-Ok.ensures (c.number.ensures ∙ ap code told.answers, told.leaves, ap (handed c.args.packet.now) told.answers)

pub returns-in-Err : goal.returns-in-Err
returns-in-Err c = refused c.in-Err.refusal c.in-Err.ensures (c.number-in-Err.ensures, refl, refl)
