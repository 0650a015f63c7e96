use Rattle.std.proofs.Common.{rules}
use Rattle.description.proofs.Exits.{located}
use Rattle.description.proofs.cursor.Cursor.or_fault.Goals as goal

pub returns : goal.returns
returns g c = located _ _ _ c.map_err.ensures.cases (λ e f l. search rules)
