-- A shift register after a question.
use Rattle.routing_laws.specs.Register.{shifted}
use Rattle.routing_laws.proofs.Register.{shifted_positive}
use Rattle.routing.specs.declared.register.ShiftRegister.{ShiftRegister}

abbrev pub shift : ShiftRegister → ShiftRegister
shift c = record { state = shifted c.state; some = shifted_positive c.state c.some }
