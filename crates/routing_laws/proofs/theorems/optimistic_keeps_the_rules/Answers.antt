use Rattle.routing_laws.proofs.Seeking.{optimistic_rules}
use Rattle.routing_laws.proofs.theorems.optimistic_keeps_the_rules.Goals as goal

pub returns : goal.returns
returns c = optimistic_rules
