-- What the record layer answers where it reads no record.
use Rattle.std.specs.Prelude.{◌≡◌, ℕ, List}
use Rattle.description_laws.specs.declared.faults.RecordFault.{RecordFault}
use Rattle.description_laws.specs.declared.faults.StackFault.TheVariants.{Unread}
use Rattle.description_laws.specs.Description.{Fault, Front, Open}
use Rattle.description_laws.specs.Faults.{layer_for, layer_of, place_of, refusal_of}

-- a fault of a record that starts at `place`, whatever has been read before it
pub record Unreadable (input : List ℕ) (place : ℕ) (f : RecordFault) : Type 0 where
  pub fault : (front : Front) → Open front → Fault front input (refusal_of (Unread f))
  pub placed : place_of (Unread f) ≡ place
  pub layered : layer_of (Unread f) ≡ layer_for (refusal_of (Unread f))
