-- What a tie rule replies, and how it goes on.
use Rattle.std.specs.Prelude.{ℕ, max, ◌-◌, ◌%◌, length}
use Rattle.routing_laws.specs.Filling.{Asked}
use Rattle.routing_laws.specs.Register.{shifted}
use Rattle.routing.specs.Registers.{shift}
use Rattle.schemes.specs.declared.tie.Tie.{Tie}
use Rattle.schemes.specs.declared.tie.Tie.TheVariants.{First, Last, Register}

-- the first candidate, the last, or the one that the register's next state picks
abbrev pub tie_position : Tie → Asked → ℕ
tie_position First q = 0
tie_position Last q = length q.candidates - 1
tie_position (Register r) q = shifted r.state % max (length q.candidates) 1

-- only a register changes
abbrev pub tie_after : Tie → Asked → Tie
tie_after First q = First
tie_after Last q = Last
tie_after (Register r) q = Register (shift r)
