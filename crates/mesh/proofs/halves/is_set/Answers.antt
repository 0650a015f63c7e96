use Rattle.std.proofs.Common.{not, eqb, ap, ◌∙◌}
use lib.Bits.{bit_and}
use Rattle.mesh.proofs.Masks.{set_bit}
use Rattle.mesh.proofs.halves.is_set.Goals as goal

pub returns : goal.returns
returns c = ap (λ m. not (eqb (bit_and c.args.half m) 0)) c.bit.ensures ∙ set_bit c.args.half c.args.direction
