-- Choosers of the samples.
use Rattle.std.specs.Prelude.{ℕ, ◌-◌, length}
use Rattle.routing_laws.specs.Filling.{Asked}

-- choosers that reply with the first and the last candidate, and have no state
abbrev pub first_position : Unit {0} → Asked → ℕ
first_position _ _ = 0

abbrev pub last_position : Unit {0} → Asked → ℕ
last_position _ q = length q.candidates - 1

abbrev pub unmoved : Unit {0} → Asked → Unit {0}
unmoved c _ = c
