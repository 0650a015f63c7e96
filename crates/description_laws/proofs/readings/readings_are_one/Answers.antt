use Rattle.description_laws.proofs.Uniqueness.{one_reading}
use Rattle.description_laws.proofs.readings.readings_are_one.Goals as goal

pub returns : goal.returns
returns c = one_reading _
