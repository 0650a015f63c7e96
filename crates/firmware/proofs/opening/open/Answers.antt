use Rattle.std.proofs.Common.{sym, subst}
use Rattle.description.proofs.Exits.{exit}
use Rattle.firmware.specs.Opening.{Refuses, order, scheme, sizes}
use Rattle.firmware.proofs.opening.open.Goals as goal

pub returns-in_err-sizes : goal.returns-in_err-sizes
returns-in_err-sizes c =
    let h = c.in_err-sizes.ensures in
    exit c.from_residual.result _ (Refuses c.args.stack) c.from_residual.ensures.1 (subst (Refuses c.args.stack) (sym h.0) (sizes h.1))

pub returns-in_err-order : goal.returns-in_err-order
returns-in_err-order c =
    exit c.from_residual-in_err-order.result _ (Refuses c.args.stack) c.from_residual-in_err-order.ensures.1 (order c.in_ok-sizes.sizes c.in_ok-sizes.ensures c.in_err-order.ensures)

pub returns-in_err-scheme : goal.returns-in_err-scheme
returns-in_err-scheme c =
    exit c.from_residual-in_err-scheme.result _ (Refuses c.args.stack) c.from_residual-in_err-scheme.ensures.1
    (scheme c.in_ok-sizes.sizes c.in_ok-sizes.ensures c.in_ok-order.order c.in_ok-order.ensures (sym c.in_err-scheme.ensures))

pub returns : goal.returns
returns c = record { sizes = c.in_ok-sizes.ensures; order = c.in_ok-order.order; sets = c.in_ok-order.ensures; scheme = sym c.in_ok-scheme.ensures }
