-- Worked samples on a plane of 3 by 3 with elevators at (0, 0) and (2, 2).
use Rattle.std.specs.Prelude.{◌≡◌, ℕ, ◌%◌, true, false, List, [], ◌∷◌, map, is_ok, Err, Result, slice_index}
use Rattle.std.proofs.Common.{arith, lit≤}
use Rattle.mesh.specs.declared.compass.Way.TheVariants.{Up}
use Rattle.mesh.specs.declared.grid.Place.{Place}
use Rattle.mesh.specs.declared.refusals.Refusal.{Refusal}
use Rattle.mesh.specs.declared.refusals.Refusal.TheVariants.{OneSet}
use Rattle.mesh.specs.declared.turns.TurnOrder.{TurnOrder}
use Rattle.mesh.specs.Layout.{cell}
use Rattle.mesh.specs.Orders.{Decided, xy}
use Rattle.routing_laws.specs.Filling.{Task}
use Rattle.routing_laws.specs.Nearest.{safe_half}
use Rattle.routing_laws.specs.Optimistic.{open_half}
use Rattle.routing_laws.specs.Register.{shifted}
use Rattle.routing_laws.specs.Guides.{pointing_reply}
use Rattle.routing_laws.specs.Plan.{planned}
use Rattle.routing_laws.specs.Ties.{asks, candidates, tie_half}
use Rattle.channel_laws.specs.Runs.{events}
use Rattle.samples.specs.Choosing.{first_position, last_position, unmoved}
use Rattle.samples.specs.Journey.{arrivals, by_first, journey, loaded, locations}

abbrev pub place : ℕ → ℕ → Place
place x y = record { x = x; y = y }

abbrev pub two : List Place
two = place 0 0 ∷ place 2 2 ∷ []

abbrev pub up : Task
up = record { width = 3; height = 3; plane = 0; way = Up; elevators = two }

-- what a half holds at a place
abbrev pub at : List ℕ → ℕ → ℕ → ℕ
at half x y = slice_index half (cell 3 3 0 (place x y))

-- North-Last: only North is in set 1
abbrev pub north_last : TurnOrder
north_last = record {
  north = 1;
  east = 0;
  south = 0;
  west = 0;
  north_most = lit≤ tt;
  east_most = lit≤ tt;
  south_most = lit≤ tt;
  west_most = lit≤ tt;
  two_sets = λ e _ _. no_path e;
}
  where
    no_path : ◌≡◌ {A = ℕ} 1 0 → ⊥
    no_path e = omega arith

pub record Samples : Type 0 where
  -- MD-safe points at the last nearest
  pub safe_centre : at (safe_half 3 3 two) 1 1 ≡ 3
  pub safe_corner : at (safe_half 3 3 two) 0 2 ≡ 2
  -- random-offline under XY: one candidate in the corner, and nothing asked; two in the centre, and First takes (0, 0)
  pub tie_corner : at (tie_half first_position unmoved xy up tt) 0 2 ≡ 4
  pub unasked : asks (candidates xy (place 0 2) two) ≡ false
  pub tie_centre : at (tie_half first_position unmoved xy up tt) 1 1 ≡ 12
  pub asked_with : candidates xy (place 1 1) two ≡ two
  pub asked_there : asks (candidates xy (place 1 1) two) ≡ true
  -- the same under North-Last with Last
  pub north_last_corner : at (tie_half last_position unmoved north_last up tt) 0 2 ≡ 2
  -- optimistic
  pub open_centre : at (open_half 3 3 two) 1 1 ≡ 10
  pub open_corner : at (open_half 3 3 two) 0 2 ≡ 6
  pub open_elevator : at (open_half 3 3 two) 0 0 ≡ 2
  -- the register from ace1 at lists of three: two states, two replies
  pub first_state : shifted 0xace1 ≡ 0x5670
  pub first_reply : 0x5670 % 3 ≡ 0
  pub second_state : shifted 0x5670 ≡ 0xab38
  pub second_reply : 0xab38 % 3 ≡ 2
  -- four directions in one set are refused, and any other division is not
  pub one_set : (r : Result TurnOrder Refusal) → Decided 0 0 0 0 r → r ≡ Err OneSet
  pub two_sets : (r : Result TurnOrder Refusal) → Decided 0 0 0 1 r → is_ok r ≡ true
  -- the journey: the stack is planned so, and the packet is collected after five moves
  pub laid_out : planned by_first tt ≡ locations
  pub five_moves : map (λ e. e.answer) (events (pointing_reply xy) loaded journey) ≡ arrivals
