-- Chains of permitted moves in one plane, and the three rules that a guide keeps.
use Rattle.std.specs.Prelude.{◌≡◌, ℕ, ◌+◌, ◌-◌, ◌<◌, ◌≤◌, true, List, length, Some, None, Option, slice_index, Contains}
use Rattle.mesh.specs.declared.compass.Direction.{Direction}
use Rattle.mesh.specs.declared.compass.Direction.TheVariants.{North, East, South, West}
use Rattle.mesh.specs.declared.compass.Directions.{Directions}
use Rattle.mesh.specs.declared.compass.Trip.{Trip}
use Rattle.mesh.specs.declared.compass.Trip.TheVariants.{Seeking, Bound}
use Rattle.mesh.specs.declared.grid.Place.{Place}
use Rattle.mesh.specs.declared.stack.Sizes.{Sizes}
use Rattle.mesh.specs.Compass.{has}
use Rattle.mesh.specs.Layout.{Inside, cell}

-- what a guide is told: the plane's sizes, a router, its half-byte (0 when bound), the place of the packet's
-- destination, the side on which the packet came in, and the trip
pub record Told : Type 0 where
  pub width : ℕ
  pub height : ℕ
  pub place : Place
  pub half : ℕ
  pub destination : Place
  pub side : Option Direction
  pub trip : Trip

-- a plane with its elevators and half-bytes for one way, and what a guide replies
pub record Plane : Type 0 where
  pub width : ℕ
  pub height : ℕ
  pub elevators : List Place
  pub filling : List ℕ
  pub reply : Told → Directions

abbrev pub plane_of : ℕ → ℕ → List Place → List ℕ → (Told → Directions) → Plane
plane_of w h es filling reply = record { width = w; height = h; elevators = es; filling = filling; reply = reply }

-- what a guide is told by a call
abbrev pub tell : Sizes → Place → ℕ → Place → Option Direction → Trip → Told
tell s p half destination side trip = record { width = s.width; height = s.height; place = p; half = half; destination = destination; side = side; trip = trip }

-- the most moves of a chain: from one corner of the plane to the other
abbrev pub longest : ℕ → ℕ → ℕ
longest w h = w + h - 2

-- one move
abbrev pub Next : Direction → Place → Place → Type 0
Next North p q = (q.x ≡ p.x) × (q.y ≡ p.y + 1)
Next East p q = (q.x ≡ p.x + 1) × (q.y ≡ p.y)
Next South p q = (q.x ≡ p.x) × (p.y ≡ q.y + 1)
Next West p q = (p.x ≡ q.x + 1) × (q.y ≡ p.y)

-- the side on which a packet comes in that moved in a direction
abbrev pub back : Direction → Direction
back North = South
back East = West
back South = North
back West = East

-- the half-byte of a router in a filling
abbrev pub half_at : ℕ → ℕ → List ℕ → Place → ℕ
half_at w h filling p = slice_index filling (cell w h 0 p)

module _ (P : Plane) (trip : Trip) (destination : Place) where
  -- the half-byte that the guide is told of
  abbrev pub told_half : Trip → Place → ℕ
  told_half Seeking p = half_at P.width P.height P.filling p
  told_half Bound p = 0

  -- what the guide is told at a router, for a packet that came in on a side
  abbrev pub told : Place → Option Direction → Told
  told p side = record { width = P.width; height = P.height; place = p; half = told_half trip p; destination = destination; side = side; trip = trip }

  -- a port is permitted there
  abbrev pub Permits : Place → Option Direction → Direction → Type 0
  Permits p side d = has d (P.reply (told p side)) ≡ true

  -- a place of the plane
  abbrev pub Within : Place → Type 0
  Within p = Inside P.width P.height p

-- the end of a trip: the first elevator, or the router it is bound for
abbrev pub Ended : Plane → Trip → Place → Place → Type 0
Ended P Seeking destination p = Contains P.elevators p
Ended P Bound destination p = p ≡ destination

-- which trips start: none seeks where there is no elevator
abbrev pub Starts : Plane → Trip → Place → Type 0
Starts P Seeking destination = (0 < length P.elevators) × Inside P.width P.height destination
Starts P Bound destination = Inside P.width P.height destination

-- a chain of permitted moves from a start (any router, no side), and where it stands: place, side, number of moves
pub data Chain (P : Plane) (trip : Trip) (destination : Place) : Place → Option Direction → ℕ → Type 0 where
  start : {p : Place} → Inside P.width P.height p → Chain P trip destination p None 0
  move : {p q : Place} {side : Option Direction} {n : ℕ} → Chain P trip destination p side n → (Ended P trip destination p → ⊥) → (d : Direction) → Permits P trip destination p side d
      → Next d p q → Inside P.width P.height q → Chain P trip destination q (Some (back d)) (n + 1)

-- the three rules, with one numbering of the channels for all trips: a channel is a router and a port
pub record Rules (P : Plane) : Type 0 where
  pub number : Place → Direction → ℕ
  -- short of its end a packet is permitted a port, wherever permitted moves can lead
  pub goes : (trip : Trip) (destination : Place) → Starts P trip destination → (p : Place) (side : Option Direction) (n : ℕ) → Chain P trip destination p side n → (Ended P trip destination p → ⊥)
      → (d : Direction) × Permits P trip destination p side d
  -- and each permitted port leads to a router of the plane
  pub stays : (trip : Trip) (destination : Place) → Starts P trip destination → (p : Place) (side : Option Direction) (n : ℕ) → Chain P trip destination p side n → (Ended P trip destination p → ⊥)
      → (d : Direction) → Permits P trip destination p side d → (q : Place) × Next d p q × Inside P.width P.height q
  -- of two channels taken one after the other, the second has the greater number
  pub rises : (trip : Trip) (destination : Place) → Starts P trip destination → (p q : Place) (side : Option Direction) (n : ℕ) → Chain P trip destination p side n → (Ended P trip destination p → ⊥)
      → (d : Direction) → Permits P trip destination p side d → Next d p q → Inside P.width P.height q → (Ended P trip destination q → ⊥)
      → (e : Direction) → Permits P trip destination q (Some (back d)) e → number p d < number q e
  -- every chain is short
  pub short : (trip : Trip) (destination : Place) → Starts P trip destination → (p : Place) (side : Option Direction) (n : ℕ) → Chain P trip destination p side n → n ≤ longest P.width P.height
