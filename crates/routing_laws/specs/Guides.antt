-- The two supplied guides: what they reply, and which fillings are lawful for them.
use Rattle.std.specs.Prelude.{◌≡◌, ℕ, ◌<◌, ◌≤◌, true, cond, ◌&&◌, List, length, Some, None, Option, Contains}
use Rattle.mesh.specs.declared.compass.Direction.{Direction}
use Rattle.mesh.specs.declared.compass.Direction.TheVariants.{North, East, South, West}
use Rattle.mesh.specs.declared.compass.Directions.{Directions}
use Rattle.mesh.specs.declared.compass.Trip.{Trip}
use Rattle.mesh.specs.declared.compass.Trip.TheVariants.{Seeking, Bound}
use Rattle.mesh.specs.declared.grid.Place.{Place}
use Rattle.mesh.specs.declared.turns.TurnOrder.{TurnOrder}
use Rattle.mesh.specs.Compass.{distance, has, only, toward}
use Rattle.mesh.specs.Halves.{pack, unpack}
use Rattle.mesh.specs.Layout.{Inside}
use Rattle.mesh.specs.Orders.{allows, lowest, permitted, xy}
use Rattle.routing_laws.specs.Chains.{Next, Rules, Told, half_at, plane_of}
use Rattle.routing_laws.specs.Optimistic.{compass}

-- the directions that a pointing guide needs: the half-byte's when seeking, those towards the destination when bound
abbrev pub needed : Trip → Told → Directions
needed Seeking t = unpack t.half
needed Bound t = toward t.place t.destination

-- the pointing guide: its turn order permits
abbrev pub pointing_reply : TurnOrder → Told → Directions
pointing_reply o t = permitted o (needed t.trip t)

-- a filling that points, each router at a nearest elevator, so that a permitted step never falls back to a lower set
pub record Pointed (o : TurnOrder) (w h : ℕ) (es : List Place) (filling : List ℕ) : Type 0 where
  pub target : Place → Place
  pub listed : (p : Place) → Inside w h p → Contains es (target p)
  pub nearest : (p e : Place) → Inside w h p → Contains es e → distance p (target p) ≤ distance p e
  pub points : (p : Place) → Inside w h p → half_at w h filling p ≡ pack (toward p (target p))
  pub keeps : (p q : Place) (d : Direction) → Inside w h p → Inside w h q → allows o (toward p (target p)) d ≡ true → Next d p q → lowest o (toward p (target p)) ≤ lowest o (toward q (target q))

-- lawful for the pointing guide; without elevators nobody seeks, and any filling will do
abbrev pub pointing_lawful : TurnOrder → ℕ → ℕ → List Place → List ℕ → Type 0
pointing_lawful o w h es filling = 0 < length es → Pointed o w h es filling

-- the optimistic guide when seeking, from the half-byte's directions, the destination's, and the side: the first port
-- that applies
abbrev pub along : Directions → Directions → Direction → Direction
along half dest ahead =
    cond (has ahead half && has ahead dest) ahead
    (cond (has North half && has North dest) North
    (cond (has South half && has South dest) South
    (cond (has North half) North
    (cond (has South half) South
    ahead))))

abbrev pub seek : Directions → Directions → Option Direction → Direction
seek half dest (Some East) = along half dest West
seek half dest (Some West) = along half dest East
seek half dest (Some North) = South
seek half dest (Some South) = North
seek half dest None =
    cond (has West half && has West dest) West
    (cond (has East half && has East dest) East
    (cond (has North half && has North dest) North
    (cond (has South half && has South dest) South
    (cond (has North half) North
    (cond (has South half) South
    (cond (has West half) West
    East))))))

abbrev pub optimistic_by : Trip → Told → Directions
optimistic_by Seeking t = only (seek (unpack t.half) (toward t.place t.destination) t.side)
optimistic_by Bound t = permitted xy (toward t.place t.destination)

abbrev pub optimistic_reply : Told → Directions
optimistic_reply t = optimistic_by t.trip t

-- lawful for the optimistic guide: each half-byte says where elevators lie
abbrev pub optimistic_lawful : ℕ → ℕ → List Place → List ℕ → Type 0
optimistic_lawful w h es filling = 0 < length es → (p : Place) → Inside w h p → half_at w h filling p ≡ pack (compass es p)

-- the theorems: under a lawful filling the guide keeps the rules, for all sizes, elevators, fillings and orders
abbrev pub PointingKeeps : Type 0
PointingKeeps =
    (o : TurnOrder) (w h : ℕ) (es : List Place) (filling : List ℕ) → 0 < w → 0 < h → ((e : Place) → Contains es e → Inside w h e)
    → pointing_lawful o w h es filling → Rules (plane_of w h es filling (pointing_reply o))

abbrev pub OptimisticKeeps : Type 0
OptimisticKeeps =
    (w h : ℕ) (es : List Place) (filling : List ℕ) → 0 < w → 0 < h → ((e : Place) → Contains es e → Inside w h e)
    → optimistic_lawful w h es filling → Rules (plane_of w h es filling optimistic_reply)
