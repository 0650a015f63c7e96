-- Guides whose ports lead towards an end, along the row first and then along the column: they keep the rules.
use Rattle.std.proofs.Common.{◌≡◌, ℕ, ◌+◌, ◌-◌, ◌<◌, ◌≤◌, Some, None, Option, refl, arith}
use Rattle.mesh.specs.declared.compass.Direction.{Direction}
use Rattle.mesh.specs.declared.compass.Direction.TheVariants.{North, East, South, West}
use Rattle.mesh.specs.declared.compass.Trip.{Trip}
use Rattle.mesh.specs.declared.grid.Place.{Place}
use Rattle.mesh.specs.Layout.{Inside}
use Rattle.routing_laws.specs.Chains.{Chain, Ended, Next, Permits, Plane, Rules, Starts, back, longest}
use Rattle.routing_laws.specs.Chains.Chain.{start, move}

-- a place lies that way: for North and South in this column, for East and West in any row
abbrev pub Heads : Direction → Place → Place → Type 0
Heads North p t = (t.x ≡ p.x) × (p.y < t.y)
Heads East p t = p.x < t.x
Heads South p t = (t.x ≡ p.x) × (t.y < p.y)
Heads West p t = t.x < p.x

-- a place lies on for a packet that came in on a side, or the packet is level with it
abbrev pub Beyond : Direction → Place → Place → Type 0
Beyond North p t = (t.x ≡ p.x) × (t.y ≤ p.y)
Beyond East p t = t.x ≤ p.x
Beyond South p t = (t.x ≡ p.x) × (p.y ≤ t.y)
Beyond West p t = p.x ≤ t.x

-- one of some places lies that way, or on
abbrev pub Sees : (Place → Type 0) → Direction → Place → Type 0
Sees End d p = (t : Place) × End t × Heads d p t

abbrev pub Aims : (Place → Type 0) → Option Direction → Place → Type 0
Aims End None p = Unit {0}
Aims End (Some side) p = (t : Place) × End t × Beyond side p t

-- the numbers of the channels: first those along the rows, then those along the columns
abbrev pub number : ℕ → ℕ → Place → Direction → ℕ
number w h p North = (w - 1) + p.y
number w h p East = p.x
number w h p South = (w - 1) + (h - 1 - p.y)
number w h p West = w - 1 - p.x

-- a step towards a place
step_nearer : (d : Direction) (p q t : Place) → Heads d p t → Next d p q → Beyond (back d) q t
step_nearer North p q t a n = (omega arith, omega arith)
step_nearer East p q t a n = omega arith
step_nearer South p q t a n = (omega arith, omega arith)
step_nearer West p q t a n = omega arith

module _ {w h : ℕ} where
  -- a step towards a place of the plane stays in the plane
  stays_inside : (d : Direction) (p t : Place) → Inside w h p → Inside w h t → Heads d p t → (q : Place) × Next d p q × Inside w h q
  stays_inside North p t i j a = (record { x = p.x; y = p.y + 1 }, (refl, refl), record { column = omega arith; row = omega arith })
  stays_inside East p t i j a = (record { x = p.x + 1; y = p.y }, (refl, refl), record { column = omega arith; row = omega arith })
  stays_inside South p t i j a = (record { x = p.x; y = p.y - 1 }, (refl, omega arith), record { column = omega arith; row = omega arith })
  stays_inside West p t i j a = (record { x = p.x - 1; y = p.y }, (omega arith, refl), record { column = omega arith; row = omega arith })

  -- channels within the plane have the numbers below the length of the longest chain
  low_number : (d : Direction) (p q : Place) → Inside w h p → Inside w h q → Next d p q → number w h p d < longest w h
  low_number North p q i j n = omega arith
  low_number East p q i j n = omega arith
  low_number South p q i j n = omega arith
  low_number West p q i j n = omega arith

-- what the rules need of one trip: short of an end a port is permitted, each port leads towards an end, the ends lie in
-- the plane, and the numbers rise
pub record Leading (P : Plane) (trip : Trip) (dest : Place) : Type 0 where
  pub goes : (p : Place) (side : Option Direction) → (Ended P trip dest p → ⊥) → (d : Direction) × Permits P trip dest p side d
  pub leads : (p : Place) (side : Option Direction) → Inside P.width P.height p → Aims (Ended P trip dest) side p → (Ended P trip dest p → ⊥)
      → (d : Direction) → Permits P trip dest p side d → Sees (Ended P trip dest) d p
  pub ends : (t : Place) → Ended P trip dest t → Inside P.width P.height t
  pub rises : (p q : Place) (side : Option Direction) → Inside P.width P.height p → Inside P.width P.height q → (d : Direction) → Permits P trip dest p side d → Next d p q
      → (e : Direction) → Permits P trip dest q (Some (back d)) e → number P.width P.height p d < number P.width P.height q e

module _ {P : Plane} {trip : Trip} {dest : Place} (l : Leading P trip dest) where
  chain_inside : {p : Place} {side : Option Direction} {n : ℕ} → Chain P trip dest p side n → Inside P.width P.height p
  chain_inside (start i) = i
  chain_inside (move c away d permits next i) = i

  -- wherever permitted moves lead, an end lies on
  chain_aims : {p : Place} {side : Option Direction} {n : ℕ} → Chain P trip dest p side n → Aims (Ended P trip dest) side p
  chain_aims (start i) = tt
  chain_aims (move {p} {q} {side} c away d permits next i) =
      let to = l.leads p side (chain_inside c) (chain_aims c) away d permits in
      (to.0, to.1, step_nearer d p q to.0 to.2 next)

  chain_stays : {p : Place} {side : Option Direction} {n : ℕ} → Chain P trip dest p side n → (Ended P trip dest p → ⊥) → (d : Direction) → Permits P trip dest p side d
      → (q : Place) × Next d p q × Inside P.width P.height q
  chain_stays {p} {side} c away d permits =
      let to = l.leads p side (chain_inside c) (chain_aims c) away d permits in
      stays_inside d p to.0 (chain_inside c) (l.ends to.0 to.1) to.2

  -- the numbers rise along a chain, so it has at most as many moves as there are numbers below the next channel's
  chain_count : {p : Place} {side : Option Direction} {n : ℕ} → Chain P trip dest p side n → (d : Direction) → Permits P trip dest p side d → n ≤ number P.width P.height p d
  chain_count (start i) d permits = omega arith
  chain_count (move {p} {q} {side} c away d permits next i) e then =
      omega (arith, chain_count c d permits, l.rises p q side (chain_inside c) i d permits next e then)

  chain_short : {p : Place} {side : Option Direction} {n : ℕ} → Chain P trip dest p side n → n ≤ longest P.width P.height
  chain_short (start i) = omega arith
  chain_short (move {p} {q} c away d permits next i) = omega (arith, chain_count c d permits, low_number d p q (chain_inside c) i next)

pub leading_rules : (P : Plane) → ((trip : Trip) (dest : Place) → Starts P trip dest → Leading P trip dest) → Rules P
leading_rules P l = record {
  number = number P.width P.height;
  goes = λ trip dest s p side n c away. (l trip dest s).goes p side away;
  stays = λ trip dest s p side n c away d permits. chain_stays (l trip dest s) c away d permits;
  rises = λ trip dest s p q side n c away d permits next i _ e then. (l trip dest s).rises p q side (chain_inside (l trip dest s) c) i d permits next e then;
  short = λ trip dest s p side n c. chain_short (l trip dest s) c;
}
