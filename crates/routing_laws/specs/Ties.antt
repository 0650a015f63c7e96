-- Random-offline: which elevators are candidates at a router, when the chooser is asked, and what is written.
use Rattle.std.specs.Prelude.{◌≡◌, ℕ, ◌<◌, ◌≤◌, min, Bool, true, false, cond, ◌&&◌, List, [], ◌∷◌, length, fold, filter, ◌==◌, nat_le, nat_lt, slice_index_or, Contains}
use Rattle.mesh.specs.declared.compass.Direction.{Direction}
use Rattle.mesh.specs.declared.compass.Way.{Way}
use Rattle.mesh.specs.declared.grid.Place.{Place}
use Rattle.mesh.specs.declared.turns.TurnOrder.{TurnOrder}
use Rattle.mesh.specs.Compass.{distance, has, toward}
use Rattle.mesh.specs.Orders.{lowest, set_of}
use Rattle.routing_laws.specs.Elevators.{origin, places}
use Rattle.routing_laws.specs.Filling.{Asked, Task, asked, ending, filled}
use Rattle.routing_laws.specs.Nearest.{pointing}

-- the smallest distance from a place to an elevator
abbrev pub least : Place → List Place → ℕ
least p es = fold (λ n e. min n (distance p e)) (distance p (slice_index_or es 0 origin)) es

-- whether an elevator is at a distance m and, where that is asked, needs only directions of set 1
abbrev pub candidate : TurnOrder → Place → ℕ → Bool → Place → Bool
candidate o p m late e = cond late (distance p e == m && nat_le 1 (lowest o (toward p e))) (distance p e == m)

-- a list, or another where it is empty
abbrev pub or_else : List Place → List Place → List Place
or_else [] ys = ys
or_else (x ∷ xs) ys = x ∷ xs

-- the candidates: the nearest elevators that need only directions of set 1, else all of the nearest
abbrev pub candidates : TurnOrder → Place → List Place → List Place
candidates o p es = or_else (filter (candidate o p (least p es) true) es) (filter (candidate o p (least p es) false) es)

-- the same as a relation: e is nearest to p; e needs only directions of set 1
abbrev pub Nearest : List Place → Place → Place → Type 0
Nearest es p e = Contains es e × ((f : Place) → Contains es f → distance p e ≤ distance p f)

abbrev pub LateOnly : TurnOrder → Place → Place → Type 0
LateOnly o p e = (d : Direction) → has d (toward p e) ≡ true → set_of o d ≡ 1

pub record Candidates (o : TurnOrder) (p : Place) (es cs : List Place) : Type 0 where
  pub some : 0 < length cs
  pub nearest : (e : Place) → Contains cs e → Nearest es p e
  pub late : (e f : Place) → Nearest es p e → LateOnly o p e → Contains cs f → LateOnly o p f
  pub all_late : (e : Place) → Nearest es p e → LateOnly o p e → Contains cs e
  pub all_near : ((e : Place) → Nearest es p e → LateOnly o p e → ⊥) → (e : Place) → Nearest es p e → Contains cs e

-- the theorem: the candidates are those
abbrev pub CandidatesExact : Type 0
CandidatesExact = (o : TurnOrder) (p : Place) (es : List Place) → 0 < length es → Candidates o p es (candidates o p es)

-- a chooser is asked where two or more candidates remain
abbrev pub asks : List Place → Bool
asks cs = nat_lt 1 (length cs)

module _ {C : Type 0} (position : C → Asked → ℕ) (after : C → Asked → C) (o : TurnOrder) (z : ℕ) (way : Way) (es : List Place) where
  -- what the chooser is asked at a router
  abbrev pub question : Place → Asked
  question p = asked z way p (candidates o p es)

  -- the elevator that a router points at: the one replied, or the only candidate
  abbrev pub target : Place → C → Place
  target p c = slice_index_or (candidates o p es) (cond (asks (candidates o p es)) (position c (question p)) 0) origin

  -- the chooser's state after a router
  abbrev pub onward : Place → C → C
  onward p c = cond (asks (candidates o p es)) (after c (question p)) c

-- the half that is written, and the chooser's state after it
abbrev pub tie_half : {C : Type 0} → (C → Asked → ℕ) → (C → Asked → C) → TurnOrder → Task → C → List ℕ
tie_half position after o t c =
    filled (λ p d. pointing p (target position after o t.plane t.way t.elevators p d)) (onward position after o t.plane t.way t.elevators) (places t.width t.height) c

abbrev pub tie_next : {C : Type 0} → (C → Asked → ℕ) → (C → Asked → C) → TurnOrder → Task → C → C
tie_next position after o t c = ending (onward position after o t.plane t.way t.elevators) (places t.width t.height) c
