use Rattle.mesh.proofs.Masks.{faithful}
use Rattle.mesh.proofs.halves.half_bytes_are_faithful.Goals as goal

pub returns : goal.returns
returns c = faithful
