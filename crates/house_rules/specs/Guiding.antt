-- A guide that looks at the destination, and the fillings that are lawful for it.
use Rattle.std.specs.Prelude.{ℕ, ◌<◌, Bool, cond, ◌||◌, List, length, Contains}
use Rattle.mesh.specs.declared.compass.Directions.{Directions}
use Rattle.mesh.specs.declared.grid.Place.{Place}
use Rattle.mesh.specs.declared.turns.TurnOrder.{TurnOrder}
use Rattle.mesh.specs.Compass.{both, toward}
use Rattle.routing_laws.specs.Chains.{Told}
use Rattle.routing_laws.specs.Guides.{pointing_lawful, pointing_reply}

-- whether a set holds any direction
abbrev pub some_direction : Directions → Bool
some_direction s = s.north || (s.east || (s.south || s.west))

-- the ports that also lead ahead, or all of them where none does
abbrev pub leaning : Directions → Directions → Directions
leaning ports ahead = cond (some_direction (both ports ahead)) (both ports ahead) ports

-- what the guide replies: the pointing guide's ports, those towards the destination first
abbrev pub toward_reply : TurnOrder → Told → Directions
toward_reply o t = leaning (pointing_reply o t) (toward t.place t.destination)

-- a filling that is lawful for the pointing guide with some of the elevators, at least one: the others are passed by
pub record ForSome (o : TurnOrder) (w h : ℕ) (es : List Place) (filling : List ℕ) : Type 0 where
  pub served : List Place
  pub some : 0 < length served
  pub listed : (e : Place) → Contains served e → Contains es e
  pub pointed : pointing_lawful o w h served filling

-- lawful; without elevators nobody seeks, and any filling will do
abbrev pub lawful_for : TurnOrder → ℕ → ℕ → List Place → List ℕ → Type 0
lawful_for o w h es filling = 0 < length es → ForSome o w h es filling
