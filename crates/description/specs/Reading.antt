-- What the reader answers, and what holds on its way.
use Rattle.std.specs.Prelude.{◌≡◌, ℕ, ◌<◌, List, ◌++◌, length, replicate, Ok, Err, Result, ◌≢◌, slice_index}
use Rattle.std.specs.List.{Contains}
use Rattle.mesh.specs.declared.grid.Link.{Link}
use Rattle.mesh.specs.declared.stack.Sizes.{Sizes}
use Rattle.mesh.specs.declared.turns.TurnOrder.{TurnOrder}
use Rattle.mesh.specs.Layout.{cell}
use Rattle.description_laws.specs.declared.faults.StackFault.{StackFault}
use Rattle.description_laws.specs.declared.records.Extent.{Extent}
use Rattle.description_laws.specs.declared.records.SetNumbers.{SetNumbers}
use Rattle.description_laws.specs.Description.{Faulty, Sound, WellFormed, listing, text}
use Rattle.description_laws.specs.Faults.{layer_for, layer_of, place_of, refusal_of}
use Rattle.description.specs.declared.reader.Description.{Description}

-- sizes and a turn order, as a description spells them
abbrev pub extent_of : Sizes → Extent
extent_of s = record { width = s.width; height = s.height; planes = s.planes }

abbrev pub sets_of : TurnOrder → SetNumbers
sets_of o = record { north = o.north; east = o.east; south = o.south; west = o.west }

-- where a link stands in the link map
abbrev pub spot : Extent → Link → ℕ
spot e l = cell e.width e.height l.gap record { x = l.x; y = l.y }

-- a link map with 1 where a link lies, and 0 everywhere else
pub record Marked (e : Extent) (ls : List Link) (marks : List ℕ) : Type 0 where
  pub linked : (l : Link) → Contains ls l → slice_index marks (spot e l) ≡ 1
  pub bare : (i : ℕ) → i < length marks → ((l : Link) → Contains ls l → spot e l ≢ i) → slice_index marks i ≡ 0

-- bytes that describe a stack, and its link map
pub record Described (bytes : List ℕ) (d : Description) (marks : List ℕ) : Type 0 where
  pub links : List Link
  pub formed : WellFormed bytes (extent_of d.sizes) (sets_of d.order) links
  pub marked : Marked (extent_of d.sizes) links marks

-- a fault that is the first of the bytes, handed up by the layer of its refusal
pub record Fails (bytes : List ℕ) (x : StackFault) : Type 0 where
  pub faulty : Faulty bytes (refusal_of x) (place_of x)
  pub layered : layer_of x ≡ layer_for (refusal_of x)

-- what becomes of bytes that are read into a link map
abbrev pub Answer : List ℕ → List ℕ → Result Description StackFault → Type 0
Answer bytes marks (Ok d) = Described bytes d marks
Answer bytes marks (Err x) = Fails bytes x × (marks ≡ replicate (length marks) 0)

-- a reading under way: the links so far, and the rest of the bytes
pub record Reading (bytes : List ℕ) (d : Description) (rest marks : List ℕ) : Type 0 where
  pub links : List Link
  pub split : bytes ≡ text (listing (extent_of d.sizes) (sets_of d.order) links) ++ rest
  pub sound : Sound (extent_of d.sizes) (sets_of d.order) links
  pub marked : Marked (extent_of d.sizes) links marks
