use Rattle.routing_laws.proofs.Pointing.{pointing_rules}
use Rattle.routing_laws.proofs.theorems.pointing_keeps_the_rules.Goals as goal

pub returns : goal.returns
returns c = pointing_rules
