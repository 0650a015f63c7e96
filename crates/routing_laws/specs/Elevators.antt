-- The elevators of a gap: the places where the link map has a link.
use Rattle.std.specs.Prelude.{◌≡◌, ℕ, ◌*◌, ◌<◌, Bool, List, map, length, get_or, filter, ◌==◌, slice_index, slice_index_or, Contains}
use Rattle.std.specs.List.{range_with_len}
use Rattle.mesh.specs.declared.grid.Place.{Place}
use Rattle.mesh.specs.Layout.{Inside, cell, place_at}

-- a place to read past the end of a list
abbrev pub origin : Place
origin = record { x = 0; y = 0 }

-- the places of a plane, row by row
abbrev pub places : ℕ → ℕ → List Place
places w h = map (place_at w h) (range_with_len 0 (w * h))

-- whether a gap has a link at a place: only byte 1 is one
abbrev pub linked : ℕ → ℕ → List ℕ → ℕ → Place → Bool
linked w h links g p = slice_index links (cell w h g p) == 1

-- the elevators of a gap, listed row by row
abbrev pub elevators : ℕ → ℕ → List ℕ → ℕ → List Place
elevators w h links g = filter (linked w h links g) (places w h)

-- what such a list is: the places of the plane with a link, all of them, each once, in row order
pub record Listed (w h : ℕ) (links : List ℕ) (g : ℕ) (es : List Place) : Type 0 where
  pub inside : (p : Place) → Contains es p → Inside w h p
  pub sound : (p : Place) → Contains es p → slice_index links (cell w h g p) ≡ 1
  pub complete : (p : Place) → Inside w h p → slice_index links (cell w h g p) ≡ 1 → Contains es p
  pub rising : (i j : ℕ) → i < j → j < length es → cell w h 0 (slice_index_or es i origin) < cell w h 0 (slice_index_or es j origin)

-- a gap with a link
pub record Joined (w h : ℕ) (links : List ℕ) (g : ℕ) : Type 0 where
  pub at : Place
  pub inside : Inside w h at
  pub link : get_or links (cell w h g at) 0 ≡ 1
