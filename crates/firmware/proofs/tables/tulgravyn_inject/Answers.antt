use Rattle.std.proofs.Common.{refl, ap, ◌∙◌}
use Rattle.firmware.specs.Opening.{code, opened, refused}
use Rattle.channel_laws.specs.declared.calls.Done.TheVariants.{Injected}
use Rattle.firmware.proofs.Codes.{code_by}
use Rattle.firmware.proofs.tables.tulgravyn_inject.Goals as goal

pub returns-in-Ok : goal.returns-in-Ok
returns-in-Ok c =
    opened c.in-Ok.opened.sizes c.in-Ok.opened.scheme c.in-Ok.ensures
    (c.code.ensures ∙ code_by (λ _. Injected) c.inject.result ∙ ap code c.inject.ensures.answers, c.inject.ensures.leaves)

pub returns-in-Err : goal.returns-in-Err
returns-in-Err c = refused c.in-Err.refusal c.in-Err.ensures (c.number.ensures, refl)
