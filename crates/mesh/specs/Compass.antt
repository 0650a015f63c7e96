-- Directions, sets of them, and distance.
use Rattle.std.specs.Prelude.{ℕ, ◌+◌, ◌-◌, Bool, true, false, ◌&&◌, ◌||◌, nat_lt}
use Rattle.mesh.specs.declared.compass.Direction.{Direction}
use Rattle.mesh.specs.declared.compass.Direction.TheVariants.{North, East, South, West}
use Rattle.mesh.specs.declared.compass.Directions.{Directions}
use Rattle.mesh.specs.declared.grid.Place.{Place}

-- whether a set holds a direction
abbrev pub has : Direction → Directions → Bool
has North s = s.north
has East s = s.east
has South s = s.south
has West s = s.west

-- no direction
abbrev pub nowhere : Directions
nowhere = record { north = false; east = false; south = false; west = false }

-- one direction alone
abbrev pub only : Direction → Directions
only North = record { north = true; east = false; south = false; west = false }
only East = record { north = false; east = true; south = false; west = false }
only South = record { north = false; east = false; south = true; west = false }
only West = record { north = false; east = false; south = false; west = true }

-- the directions that two sets share
abbrev pub both : Directions → Directions → Directions
both s t = record { north = s.north && t.north; east = s.east && t.east; south = s.south && t.south; west = s.west && t.west }

-- the directions that either of two sets has
abbrev pub joined : Directions → Directions → Directions
joined s t = record { north = s.north || t.north; east = s.east || t.east; south = s.south || t.south; west = s.west || t.west }

-- the directions in which q lies from p
abbrev pub toward : Place → Place → Directions
toward p q = record { north = nat_lt p.y q.y; east = nat_lt p.x q.x; south = nat_lt q.y p.y; west = nat_lt q.x p.x }

-- how far two numbers are apart: one of the two differences is 0
abbrev pub gap : ℕ → ℕ → ℕ
gap a b = (a - b) + (b - a)

-- how many moves two places are apart
abbrev pub distance : Place → Place → ℕ
distance p q = gap p.x q.x + gap p.y q.y
