-- What the calls on a table answer and hand to C.
use Rattle.std.specs.Prelude.{ℕ, ◌+◌, Bool, cond, Ok, Err, Result}
use Rattle.mesh.specs.declared.refusals.Refusal.{Refusal}
use Rattle.channel_laws.specs.declared.buffers.Ports.{Ports}
use Rattle.channel_laws.specs.declared.calls.Done.TheVariants.{Collected, Injected, Moved}
use Rattle.channel_laws.specs.declared.records.Record.{Record}
use Rattle.channel_laws.specs.Calls.{Answer}

-- what a collect leaves in the place for its packet: the packet, or what was there
abbrev pub handed : Record → Answer → Record
handed old (Ok Injected) = old
handed old (Ok Moved) = old
handed old (Ok (Collected x)) = x
handed old (Err x) = old

-- a bit that is set or not
abbrev pub bit : Bool → ℕ → ℕ
bit set value = cond set value 0

-- a set of ports as bits: bit n is that of port n
abbrev pub port_bits : Ports → ℕ
port_bits p = bit p.planar.east 1 + bit p.planar.west 2 + bit p.planar.north 4 + bit p.planar.south 8 + bit p.up 16 + bit p.down 32

-- what ports leaves in the place for the bits
abbrev pub bits_after : ℕ → Result Ports Refusal → ℕ
bits_after old (Ok p) = port_bits p
bits_after old (Err x) = old
