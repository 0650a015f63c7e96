-- Half-bytes and the two halves of a router's byte.
use Rattle.std.specs.Prelude.{◌≡◌, ℕ, ◌+◌, ◌*◌, ◌/◌, ◌%◌, Bool, cond, ◌==◌}
use Rattle.mesh.specs.declared.compass.Direction.{Direction}
use Rattle.mesh.specs.declared.compass.Direction.TheVariants.{North, East, South, West}
use Rattle.mesh.specs.declared.compass.Directions.{Directions}
use Rattle.mesh.specs.declared.compass.Way.{Way}
use Rattle.mesh.specs.declared.compass.Way.TheVariants.{Up, Down}
use Rattle.mesh.specs.Compass.{has}

-- North is 1, East 2, South 4, West 8
abbrev pub weight : Direction → ℕ
weight North = 1
weight East = 2
weight South = 4
weight West = 8

-- what a direction adds to the half-byte of a set
abbrev pub share : Directions → Direction → ℕ
share s d = cond (has d s) (weight d) 0

abbrev pub pack : Directions → ℕ
pack s = share s North + share s East + share s South + share s West

-- whether a half-byte has the bit of a direction
abbrev pub holds : ℕ → Direction → Bool
holds n d = n / weight d % 2 == 1

abbrev pub unpack : ℕ → Directions
unpack n = record { north = holds n North; east = holds n East; south = holds n South; west = holds n West }

abbrev pub opposite : Way → Way
opposite Up = Down
opposite Down = Up

-- the half of a byte that serves a way
abbrev pub half : Way → ℕ → ℕ
half Up b = b % 16
half Down b = b / 16

-- a byte with one half replaced by the lowest four bits of a number
abbrev pub with_half : Way → ℕ → ℕ → ℕ
with_half Up b v = b / 16 * 16 + v % 16
with_half Down b v = v % 16 * 16 + b % 16

-- packing and unpacking are inverse, and one half is replaced without the other
pub record Faithful : Type 0 where
  pub unpacked : (s : Directions) → unpack (pack s) ≡ s
  pub packed : (n : ℕ) → pack (unpack n) ≡ n % 16
  pub written : (w : Way) (b v : ℕ) → half w (with_half w b v) ≡ v % 16
  pub kept : (w : Way) (b v : ℕ) → half (opposite w) (with_half w b v) ≡ half (opposite w) b
