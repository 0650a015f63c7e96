use Rattle.std.proofs.Common.{rules, ◌≡◌, Err, sym, subst, arith}
use Rattle.schemes.specs.declared.tie.Tie.TheVariants.{First, Last, Register}
use Rattle.mesh.specs.declared.refusals.Refusal.TheVariants.{ZeroState}
use Rattle.firmware.specs.Planning.{NoTie, TieIs, first, last, register, unknown, zero}
use Rattle.firmware.proofs.planning.tie_of.Goals as goal

pub returns-in-0 : goal.returns-in-0
returns-in-0 c = subst (λ n. TieIs n c.args.state First) (sym c.in-0.is) first

pub returns-in-1 : goal.returns-in-1
returns-in-1 c = subst (λ n. TieIs n c.args.state Last) (sym c.in-1.is) last

pub returns-in_ok-new-in-2 : goal.returns-in_ok-new-in-2
returns-in_ok-new-in-2 c = subst (λ n. TieIs n c.args.state (Register c.in_ok-new-in-2.field-0)) (sym c.in-2.is) (register c.in_ok-new-in-2.field-0 (search rules))

pub returns-in_err-new-in-2 : goal.returns-in_err-new-in-2
returns-in_err-new-in-2 c =
    let h = c.in_err-new-in-2.ensures in
    let answer : c.from_residual.result ≡ Err ZeroState = search rules in
    rw answer (subst (λ n. NoTie n c.args.state ZeroState) (sym c.in-2.is) (zero h.1))

pub returns-in_default : goal.returns-in_default
returns-in_default c = unknown (omega arith)
