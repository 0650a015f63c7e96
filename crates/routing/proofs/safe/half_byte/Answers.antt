use Rattle.std.proofs.Common.{ap, ◌∙◌}
use Rattle.routing_laws.specs.Nearest.{pointing}
use Rattle.routing_laws.proofs.Nearest.{last_nearest_is}
use Rattle.routing.proofs.safe.half_byte.Goals as goal

pub returns : goal.returns
returns c = c.pointing.ensures ∙ ap (pointing c.args.place) (last_nearest_is c.last_nearest.ensures)
