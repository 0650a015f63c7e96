-- Turn orders: which sets may be made into one.
use Rattle.std.specs.Prelude.{◌≡◌, ℕ, ◌≤◌, min, Bool, cond, ◌&&◌, Ok, Err, Result, ◌==◌}
use Rattle.std.proofs.Common.{arith, lit≤}
use Rattle.mesh.specs.declared.compass.Direction.{Direction}
use Rattle.mesh.specs.declared.compass.Direction.TheVariants.{North, East, South, West}
use Rattle.mesh.specs.declared.compass.Directions.{Directions}
use Rattle.mesh.specs.declared.refusals.Refusal.{Refusal}
use Rattle.mesh.specs.declared.refusals.Refusal.TheVariants.{OutOfRange, OneSet}
use Rattle.mesh.specs.declared.turns.TurnOrder.{TurnOrder}
use Rattle.mesh.specs.Compass.{has}

-- sets are numbered 0 and 1
abbrev pub InSets : ℕ → ℕ → ℕ → ℕ → Type 0
InSets n e s w = (n ≤ 1) × (e ≤ 1) × (s ≤ 1) × (w ≤ 1)

-- all four directions are in one set
abbrev pub Alike : ℕ → ℕ → ℕ → ℕ → Type 0
Alike n e s w = (n ≡ e) × (e ≡ s) × (s ≡ w)

-- an order with these four sets
pub record SameOrder (o : TurnOrder) (n e s w : ℕ) : Type 0 where
  pub north_is : o.north ≡ n
  pub east_is : o.east ≡ e
  pub south_is : o.south ≡ s
  pub west_is : o.west ≡ w

-- what becomes of four sets: first a set out of range is refused, then all four in one set
abbrev pub Decided : ℕ → ℕ → ℕ → ℕ → Result TurnOrder Refusal → Type 0
Decided n e s w (Ok o) = SameOrder o n e s w
Decided n e s w (Err x) = (InSets n e s w → (x ≡ OneSet) × Alike n e s w) × ((InSets n e s w → ⊥) → x ≡ OutOfRange)

-- the set of a direction
abbrev pub set_of : TurnOrder → Direction → ℕ
set_of o North = o.north
set_of o East = o.east
set_of o South = o.south
set_of o West = o.west

-- the set of a direction that is needed, and a number above all sets for one that is not
abbrev pub rank : TurnOrder → Directions → Direction → ℕ
rank o s d = cond (has d s) (set_of o d) 2

-- the lowest set that holds a needed direction
abbrev pub lowest : TurnOrder → Directions → ℕ
lowest o s = min (min (rank o s North) (rank o s East)) (min (rank o s South) (rank o s West))

-- of the needed directions, those in the lowest set that holds any
abbrev pub allows : TurnOrder → Directions → Direction → Bool
allows o s d = has d s && set_of o d == lowest o s

abbrev pub permitted : TurnOrder → Directions → Directions
permitted o s = record { north = allows o s North; east = allows o s East; south = allows o s South; west = allows o s West }

-- XY: East and West come first
abbrev pub xy : TurnOrder
xy = record {
  north = 1;
  east = 0;
  south = 1;
  west = 0;
  north_most = lit≤ tt;
  east_most = lit≤ tt;
  south_most = lit≤ tt;
  west_most = lit≤ tt;
  two_sets = λ e _ _. no_path e;
}
  where
    no_path : ◌≡◌ {A = ℕ} 1 0 → ⊥
    no_path e = omega arith
