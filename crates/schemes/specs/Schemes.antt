-- What a scheme writes, and how its bytes are read.
use Rattle.std.specs.Prelude.{List, ℕ}
use Rattle.mesh.specs.declared.compass.Directions.{Directions}
use Rattle.mesh.specs.declared.grid.Place.{Place}
use Rattle.routing_laws.specs.Chains.{Told}
use Rattle.routing_laws.specs.Filling.{Asked, Task}
use Rattle.routing_laws.specs.Guides.{optimistic_lawful, optimistic_reply, pointing_lawful, pointing_reply}
use Rattle.routing_laws.specs.Nearest.{safe_half}
use Rattle.routing_laws.specs.Optimistic.{open_half}
use Rattle.routing_laws.specs.Ties.{tie_half, tie_next}
use Rattle.schemes.specs.declared.scheme.Scheme.{Scheme}
use Rattle.schemes.specs.declared.scheme.Scheme.TheVariants.{MdSafe, Optimistic, RandomOffline}

module _ {C : Type 0} (position : C → Asked → ℕ) (after : C → Asked → C) where
  -- the half of each supplied filler
  abbrev pub scheme_half : Scheme → Task → C → List ℕ
  scheme_half (MdSafe o) t c = safe_half t.width t.height t.elevators
  scheme_half (RandomOffline o) t c = tie_half position after o t c
  scheme_half Optimistic t c = open_half t.width t.height t.elevators

  -- only random-offline asks
  abbrev pub scheme_next : Scheme → Task → C → C
  scheme_next (MdSafe o) t c = c
  scheme_next (RandomOffline o) t c = tie_next position after o t c
  scheme_next Optimistic t c = c

-- the reply of each filler's guide
abbrev pub scheme_reply : Scheme → Told → Directions
scheme_reply (MdSafe o) t = pointing_reply o t
scheme_reply (RandomOffline o) t = pointing_reply o t
scheme_reply Optimistic t = optimistic_reply t

-- the fillings that are lawful for it
abbrev pub scheme_lawful : Scheme → ℕ → ℕ → List Place → List ℕ → Type 0
scheme_lawful (MdSafe o) w h es filling = pointing_lawful o w h es filling
scheme_lawful (RandomOffline o) w h es filling = pointing_lawful o w h es filling
scheme_lawful Optimistic w h es filling = optimistic_lawful w h es filling
