-- The optimistic scheme's half: in which directions elevators lie.
use Rattle.std.specs.Prelude.{◌≡◌, ℕ, ◌<◌, ◌&&◌, ltb, List, map, Decides, ◌==◌, nat_lt, Contains}
use Rattle.std.specs.List.{list_any}
use Rattle.mesh.specs.declared.compass.Directions.{Directions}
use Rattle.mesh.specs.declared.grid.Place.{Place}
use Rattle.mesh.specs.Halves.{pack}
use Rattle.routing_laws.specs.Elevators.{places}

-- North and South where an elevator lies that way in the same column, East and West where any lies that way
abbrev pub compass : List Place → Place → Directions
compass es p = record {
  north = list_any (λ e. (e.x == p.x) && nat_lt p.y e.y) es;
  east = list_any (λ e. ltb p.x e.x) es;
  south = list_any (λ e. (e.x == p.x) && nat_lt e.y p.y) es;
  west = list_any (λ e. ltb e.x p.x) es;
}

-- what one elevator adds
abbrev pub sighted : Place → Place → Directions
sighted p e = record { north = e.x == p.x && nat_lt p.y e.y; east = nat_lt p.x e.x; south = e.x == p.x && nat_lt e.y p.y; west = nat_lt e.x p.x }

-- the same as a relation: each direction exactly where such an elevator exists
pub record Compass (es : List Place) (p : Place) (s : Directions) : Type 0 where
  pub north_is : Decides s.north ((e : Place) × Contains es e × ((e.x ≡ p.x) × (p.y < e.y)))
  pub east_is : Decides s.east ((e : Place) × Contains es e × (p.x < e.x))
  pub south_is : Decides s.south ((e : Place) × Contains es e × ((e.x ≡ p.x) × (e.y < p.y)))
  pub west_is : Decides s.west ((e : Place) × Contains es e × (e.x < p.x))

abbrev pub open_half : ℕ → ℕ → List Place → List ℕ
open_half w h es = map (λ p. pack (compass es p)) (places w h)

-- the theorem: the compass is that relation
abbrev pub CompassExact : Type 0
CompassExact = (es : List Place) (p : Place) → Compass es p (compass es p)
