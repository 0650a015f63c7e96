-- What a fault tells: its layer, its refusal, and the place of the record's kind letter.
use Rattle.std.specs.Prelude.{ℕ, cond, ◌==◌, nat_le}
use Rattle.mesh.specs.declared.refusals.Refusal.{Refusal}
use Rattle.mesh.specs.declared.refusals.Refusal.TheVariants.{InputEnds}
use Rattle.mesh.specs.Numbers.{number_of}
use Rattle.description_laws.specs.declared.faults.Layer.{Layer}
use Rattle.description_laws.specs.declared.faults.Layer.TheVariants as layers
use Rattle.description_laws.specs.declared.faults.RecordFault.TheVariants as record-faults
use Rattle.description_laws.specs.declared.faults.StackFault.{StackFault}
use Rattle.description_laws.specs.declared.faults.StackFault.TheVariants as stack-faults

abbrev pub layer_of : StackFault → Layer
layer_of (stack-faults.Unread (record-faults.Ends f)) = layers.Byte
layer_of (stack-faults.Unread (record-faults.Record x p)) = layers.Record
layer_of (stack-faults.Stack x p) = layers.Stack

abbrev pub refusal_of : StackFault → Refusal
refusal_of (stack-faults.Unread (record-faults.Ends f)) = InputEnds
refusal_of (stack-faults.Unread (record-faults.Record x p)) = x
refusal_of (stack-faults.Stack x p) = x

abbrev pub place_of : StackFault → ℕ
place_of (stack-faults.Unread (record-faults.Ends f)) = f.place
place_of (stack-faults.Unread (record-faults.Record x p)) = p
place_of (stack-faults.Stack x p) = p

-- the layer of each refusal, by its number: 1 byte, 2 and 3 record, all others stack
abbrev pub layer_for : Refusal → Layer
layer_for x = cond (number_of x == 1) layers.Byte (cond (nat_le (number_of x) 3) layers.Record layers.Stack)
