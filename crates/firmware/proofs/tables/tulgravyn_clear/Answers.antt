use Rattle.std.proofs.Common.{refl, ap, ◌∙◌}
use Rattle.firmware.specs.Opening.{code, opened, refused}
use Rattle.firmware.proofs.tables.tulgravyn_clear.Goals as goal

pub returns-in-Ok : goal.returns-in-Ok
returns-in-Ok c = opened c.in-Ok.opened.sizes c.in-Ok.opened.scheme c.in-Ok.ensures (c.code.ensures ∙ ap code c.clear.ensures.answers, c.clear.ensures.leaves)

pub returns-in-Err : goal.returns-in-Err
returns-in-Err c = refused c.in-Err.refusal c.in-Err.ensures (c.number.ensures, refl)
