-- Which elevators routers point at: the inner ones, where there are any.
use Rattle.std.specs.Prelude.{ℕ, ◌-◌, Bool, ◌&&◌, List, filter, nat_lt}
use Rattle.mesh.specs.declared.grid.Place.{Place}
use Rattle.routing_laws.specs.Filling.{Task}
use Rattle.routing_laws.specs.Ties.{or_else}

-- a place off the outermost rows and columns of a plane
abbrev pub inner : ℕ → ℕ → Place → Bool
inner w h p = nat_lt 0 p.x && (nat_lt p.x (w - 1) && (nat_lt 0 p.y && nat_lt p.y (h - 1)))

-- the inner elevators, or all where there is none
abbrev pub offered : ℕ → ℕ → List Place → List Place
offered w h es = or_else (filter (inner w h) es) es

-- what random-offline is told: the same task with those elevators alone
abbrev pub offering : Task → Task
offering t = record { width = t.width; height = t.height; plane = t.plane; way = t.way; elevators = offered t.width t.height t.elevators }
