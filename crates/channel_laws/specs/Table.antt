-- The channel table: where each buffer's record stands, and which packets the table holds.
use Rattle.std.specs.Prelude.{◌≡◌, ℕ, ◌+◌, ◌*◌, ◌<◌, Bool, cond, List, [], ◌∷◌, take, ◌==◌, slice_index_or}
use Rattle.std.specs.List.{flat_map}
use Rattle.mesh.specs.declared.grid.Place.{Place}
use Rattle.mesh.specs.declared.grid.Router.{Router}
use Rattle.mesh.specs.declared.stack.Sizes.{Sizes}
use Rattle.mesh.specs.Layout.{cell, place_of}
use Rattle.channel_laws.specs.declared.buffers.Buffer.{Buffer}
use Rattle.channel_laws.specs.declared.records.Record.{Record}
use Rattle.channel_laws.specs.Buffers.{buffer_count, buffer_number}

-- what the calls of a run work on: the sizes, the link map, the location bytes and the table
pub record State : Type 0 where
  pub sizes : Sizes
  pub links : List ℕ
  pub bytes : List ℕ
  pub table : List Record

-- a state from its parts
abbrev pub state : Sizes → List ℕ → List ℕ → List Record → State
state s links bytes table = record { sizes = s; links = links; bytes = bytes; table = table }

-- the state with another table
abbrev pub with_table : State → List Record → State
with_table s t = record { sizes = s.sizes; links = s.links; bytes = s.bytes; table = t }

-- a router of the stack, as a fact
pub record InStack (s : Sizes) (r : Router) : Type 0 where
  pub column : r.x < s.width
  pub row : r.y < s.height
  pub plane : r.z < s.planes

-- the router at a place of a plane
abbrev pub router_at : ℕ → Place → Router
router_at z p = record { x = p.x; y = p.y; z = z }

-- an empty record: every field is 0
abbrev pub empty : Record
empty = record { tag = 0; moves = 0; mark = 0; source = router_at 0 record { x = 0; y = 0 }; destination = router_at 0 record { x = 0; y = 0 } }

-- a record without a packet: its mark is 0
abbrev pub is_empty : Record → Bool
is_empty x = x.mark == 0

-- the number of records of a table
unfoldable pub table_size : Sizes → ℕ
table_size s = buffer_count * (s.planes * (s.width * s.height))

-- the number of the record of a router's buffer
unfoldable pub record_number : Sizes → Router → Buffer → ℕ
record_number s r b = buffer_count * cell s.width s.height r.z (place_of r) + buffer_number b

-- the record of a router's buffer
abbrev pub record_at : State → Router → Buffer → Record
record_at s r b = slice_index_or s.table (record_number s.sizes r b) empty

-- the packets that a record keeps, oldest first: none or one
abbrev pub kept : Record → List Record
kept x = cond (is_empty x) [] (x ∷ [])

-- the packets in a buffer, oldest first
abbrev pub packets_in : State → Router → Buffer → List Record
packets_in s r b = kept (record_at s r b)

-- all packets that the table holds
abbrev pub packets : State → List Record
packets s = flat_map kept (take (table_size s.sizes) s.table)

-- the record numbers of a stack: each below the size, no two buffers with one number, and none without a buffer
pub record Numbered (s : Sizes) : Type 0 where
  pub below : (r : Router) (b : Buffer) → InStack s r → record_number s r b < table_size s
  pub apart : (r q : Router) (b c : Buffer) → InStack s r → InStack s q → record_number s r b ≡ record_number s q c → (r ≡ q) × (b ≡ c)
  pub reached : (i : ℕ) → i < table_size s → (r : Router) × (b : Buffer) × InStack s r × (record_number s r b ≡ i)
