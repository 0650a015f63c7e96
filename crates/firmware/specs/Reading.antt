-- Reading a description, and listing a fault, for C.
use Rattle.std.specs.Prelude.{◌≡◌, ℕ, ◌<◌, ◌≤◌, List, length, Ok, Err, Result, ◌≢◌}
use Rattle.mesh.specs.declared.refusals.Refusal.{Refusal}
use Rattle.mesh.specs.declared.refusals.Refusal.TheVariants.{OutOfRange, ShortBuffer}
use Rattle.mesh.specs.Numbers.{number_of}
use Rattle.description_laws.specs.declared.faults.Layer.{Layer}
use Rattle.description_laws.specs.declared.faults.Layer.TheVariants as layers
use Rattle.description_laws.specs.declared.faults.StackFault.{StackFault}
use Rattle.description_laws.specs.declared.faults.StackFault.TheVariants as stack-faults
use Rattle.description_laws.specs.Description.{OneReading}
use Rattle.description_laws.specs.Faults.{layer_of, place_of, refusal_of}
use Rattle.description.specs.declared.reader.Description.{Description}
use Rattle.description.specs.Reading.{Answer}
use Rattle.listing.specs.Listed.{Listed}
use Rattle.listing.specs.Text.{fault_text}
use Rattle.firmware.specs.declared.shapes.Fault.{Fault}
use Rattle.firmware.specs.declared.shapes.Stack.{Stack}
use Rattle.firmware.specs.Opening.{code}
use Rattle.firmware.specs.Planning.{count_after}

-- 0 byte, 1 record, 2 stack
abbrev pub layer_number : Layer → ℕ
layer_number layers.Byte = 0
layer_number layers.Record = 1
layer_number layers.Stack = 2

-- a fault as C has it
abbrev pub fault_of : StackFault → Fault
fault_of f = record { place = place_of f; number = number_of (refusal_of f); layer = layer_number (layer_of f) }

-- a description as C has it; the scheme stays
abbrev pub stack_of : Description → Stack → Stack
stack_of d old = record {
  width = d.sizes.width;
  height = d.sizes.height;
  planes = d.sizes.planes;
  north = d.order.north;
  east = d.order.east;
  south = d.order.south;
  west = d.order.west;
  scheme = old.scheme;
}

-- 0, or the number of the fault's refusal
abbrev pub read_code : Result Description StackFault → ℕ
read_code (Ok d) = 0
read_code (Err f) = number_of (refusal_of f)

-- what a reading leaves in the places for the stack and the fault
abbrev pub stack_after : Stack → Result Description StackFault → Stack
stack_after old (Ok d) = stack_of d old
stack_after old (Err f) = old

abbrev pub fault_after : Fault → Result Description StackFault → Fault
fault_after old (Ok d) = old
fault_after old (Err f) = fault_of f

-- what a reading comes to: the library's reading, with its result
pub record Reads (input map map' : List ℕ) (stack stack' : Stack) (fault fault' : Fault) (r : ℕ) : Type 0 where
  pub result : Result Description StackFault
  pub short : length map < 4032 → (result ≡ Err (stack-faults.Stack ShortBuffer 0)) × (map' ≡ map)
  pub meaning : 4032 ≤ length map → Answer input map' result
  pub only : OneReading input
  pub number : r ≡ read_code result
  pub stack_is : stack' ≡ stack_after stack result
  pub fault_is : fault' ≡ fault_after fault result

-- what listing a fault comes to: the library's listing, or a fault that no reading has
pub data ListedFault (fault : Fault) (out out' : List ℕ) (count count' r : ℕ) : Type 0 where
  listed : (f : StackFault) → fault_of f ≡ fault → (result : Result ℕ Refusal) → Listed (fault_text f) out out' result → r ≡ code result → count' ≡ count_after count result → ListedFault fault out out' count count' r
  unknown : ((f : StackFault) → fault_of f ≢ fault) → r ≡ number_of OutOfRange → out' ≡ out → count' ≡ count → ListedFault fault out out' count count' r
