use Rattle.std.proofs.Common.{◌*◌, ◌/◌, ◌%◌, ◌^◌, sym, ap, ◌∙◌, subst, arith}
use lib.Bits.{bit_or}
use Rattle.routing_laws.specs.Register.{Moved}
use Rattle.routing_laws.proofs.Register.{moved, shifted_by_mask}
use Rattle.routing.proofs.register.next_state.Goals as goal

pub returns : goal.returns
returns c =
    let n = c.args.state in
    let shifts = ap (λ t. bit_or (n / 2) (t * 2 ^ 15 % 2 ^ 16)) c.tap.ensures ∙ shifted_by_mask n (omega arith) in
    record { shifts = shifts; moves = λ some. subst (Moved n) (sym shifts) (moved n some (omega arith)) }
