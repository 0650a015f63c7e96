use Rattle.std.proofs.Common.{refl, ap, ◌∙◌}
use Rattle.firmware.specs.Opening.{code, opened, refused}
use Rattle.firmware.specs.Tables.{bits_after}
use Rattle.firmware.proofs.tables.tulgravyn_ports.Goals as goal

pub returns-in-Ok-ports : goal.returns-in-Ok-ports
returns-in-Ok-ports c =
    let told = c.in-Ok-ports.ensures in
    opened c.in-Ok.opened.sizes c.in-Ok.opened.scheme c.in-Ok.ensures (ap code told, c.port_bits.ensures ∙ ap (bits_after c.args.bits.now) told)

pub returns-in-Err-ports : goal.returns-in-Err-ports
returns-in-Err-ports c =
    let told = c.in-Err-ports.ensures in
    opened c.in-Ok.opened.sizes c.in-Ok.opened.scheme c.in-Ok.ensures (c.number.ensures ∙ ap code told, ap (bits_after c.args.bits.now) told)

pub returns-in-Err : goal.returns-in-Err
returns-in-Err c = refused c.in-Err.refusal c.in-Err.ensures (c.number-in-Err.ensures, refl)
