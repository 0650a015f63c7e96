-- What a filler is told, what a chooser is asked, and how a half of a plane is filled.
use Rattle.std.specs.Prelude.{ℕ, ◌+◌, ◌*◌, List, [], ◌∷◌, ◌++◌, take, drop}
use Rattle.mesh.specs.declared.compass.Way.{Way}
use Rattle.mesh.specs.declared.grid.Place.{Place}
use Rattle.mesh.specs.declared.stack.Sizes.{Sizes}
use Rattle.mesh.specs.Halves.{with_half}

-- what a filler is told: the sizes and the number of a plane, a way, and the elevators for it
pub record Task : Type 0 where
  pub width : ℕ
  pub height : ℕ
  pub plane : ℕ
  pub way : Way
  pub elevators : List Place

abbrev pub task : Sizes → ℕ → Way → List Place → Task
task s z way es = record { width = s.width; height = s.height; plane = z; way = way; elevators = es }

-- what a chooser is asked: the plane, the way, the router, and the elevators to choose from
pub record Asked : Type 0 where
  pub plane : ℕ
  pub way : Way
  pub router : Place
  pub candidates : List Place

abbrev pub asked : ℕ → Way → Place → List Place → Asked
asked z way p es = record { plane = z; way = way; router = p; candidates = es }

-- a half-byte for each place in turn; the chooser's state goes on from place to place
abbrev pub filled : {C : Type 0} → (Place → C → ℕ) → (Place → C → C) → List Place → C → List ℕ
filled point step [] c = []
filled point step (p ∷ ps) c = point p c ∷ filled point step ps (step p c)

-- the chooser's state after the last place
abbrev pub ending : {C : Type 0} → (Place → C → C) → List Place → C → C
ending step [] c = c
ending step (p ∷ ps) c = ending step ps (step p c)

-- one half of each byte replaced in turn; bytes that are over stay
abbrev pub put_halves : Way → List ℕ → List ℕ → List ℕ
put_halves way [] halves = []
put_halves way (b ∷ bytes) [] = b ∷ bytes
put_halves way (b ∷ bytes) (v ∷ halves) = with_half way b v ∷ put_halves way bytes halves

-- plane z, where planes have n bytes each
abbrev pub plane : ℕ → ℕ → List ℕ → List ℕ
plane n z bytes = take n (drop (z * n) bytes)

-- one half of plane z replaced among the bytes of all planes
abbrev pub put_plane : ℕ → ℕ → Way → List ℕ → List ℕ → List ℕ
put_plane n z way bytes halves = take (z * n) bytes ++ (put_halves way (plane n z bytes) halves ++ drop (z * n + n) bytes)
