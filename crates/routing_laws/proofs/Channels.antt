-- Numbers for the channels of a plane, by a turn order: they rise from step to step where the set never falls and no
-- step leads back.
use Rattle.std.proofs.Common.{◌≡◌, ℕ, ◌+◌, ◌-◌, ◌*◌, ◌<◌, ◌≤◌, Bool, true, false, cond, ◌&&◌, eqb, sym, subst₂, ⊎_elim, mul-le-mul_right, arith}
use Rattle.std.proofs.lemmas.Nat.{mul-add-lt}
use Rattle.std.proofs.lemmas.Bool.{and_cases, and_parts, cases_Bool, cases_order, cond_both, cond-false, cond-true, eq-eqb, eqb-true, ne_eqb, both_ways, false≢true, true≢false}
use Rattle.mesh.specs.declared.compass.Direction.{Direction}
use Rattle.mesh.specs.declared.compass.Direction.TheVariants.{North, East, South, West}
use Rattle.mesh.specs.declared.grid.Place.{Place}
use Rattle.mesh.specs.declared.turns.TurnOrder.{TurnOrder}
use Rattle.mesh.specs.Layout.{Inside}
use Rattle.mesh.specs.Orders.{set_of}
use Rattle.routing_laws.specs.Chains.{Next}

-- rows are passed northward only, or southward only
abbrev ranked : Bool → ℕ → ℕ → ℕ
ranked up h y = cond up y (h - 1 - y)

-- the channels of one row, those that leave it last
abbrev slot : ℕ → Place → Direction → ℕ
slot w p North = w
slot w p East = p.x
slot w p South = w
slot w p West = w - 1 - p.x

-- row after row
abbrev flat : Bool → ℕ → ℕ → Place → Direction → ℕ
flat up w h p d = ranked up h p.y * (w + 1) + slot w p d

-- the plane with rows for columns
abbrev swapped : Place → Place
swapped p = record { x = p.y; y = p.x }

abbrev turned : Direction → Direction
turned North = East
turned East = North
turned South = West
turned West = South

-- one set's channels: row after row where the set lacks North or South, else column after column
abbrev within : TurnOrder → ℕ → ℕ → ℕ → Place → Direction → ℕ
within o w h s p d = cond (eqb o.north s && eqb o.south s) (flat (eqb o.east s) h w (swapped p) (turned d)) (flat (eqb o.north s) w h p d)

abbrev pub channel : TurnOrder → ℕ → ℕ → Place → Direction → ℕ
channel o w h p d = set_of o d * ((w + 1) * (h + 1)) + within o w h (set_of o d) p d

-- products, over plain numbers
next_row : (r t k a b : ℕ) → t ≡ r + 1 → a ≤ k → r * (k + 1) + a < t * (k + 1) + b
next_row r t k a b e l = rw e (omega arith)

same_row : (r k a b : ℕ) → a < b → r * k + a < r * k + b
same_row r k a b l = omega arith

next_set : (s t n a b : ℕ) → s < t → a < n → s * n + a < t * n + b
next_set s t n a b l m = let more : s + 1 ≤ t = omega arith in omega (arith, mul-le-mul_right n more)

in_set : (r h w a : ℕ) → r < h → a ≤ w → r * (w + 1) + a < (w + 1) * (h + 1)
in_set r h w a l m = omega (arith, mul-add-lt r (w + 1) a h l (omega arith))

-- rows are passed the way of the direction
abbrev Suits : Bool → Direction → Type 0
Suits up North = up ≡ true
Suits up East = Unit {0}
Suits up South = up ≡ false
Suits up West = Unit {0}

module _ (w h : ℕ) where
  ranked_below : (up : Bool) (y : ℕ) → y < h → ranked up h y < h
  ranked_below up y l = cond_both up y (h - 1 - y) (λ n. n < h) (λ _. l) (λ _. omega arith)

  slot_most : (p : Place) (d : Direction) → Inside w h p → slot w p d ≤ w
  slot_most p North i = omega arith
  slot_most p East i = omega arith
  slot_most p South i = omega arith
  slot_most p West i = omega arith

  flat_below : (up : Bool) (p : Place) (d : Direction) → Inside w h p → flat up w h p d < (w + 1) * (h + 1)
  flat_below up p d i = in_set (ranked up h p.y) h w (slot w p d) (ranked_below up p.y i.row) (slot_most p d i)

  east_slot : (p q : Place) (e : Direction) → Inside w h p → Next East p q → (Next e q p → ⊥) → slot w p East < slot w q e
  east_slot p q North i n back = i.column
  east_slot p q East i n back = omega arith
  east_slot p q South i n back = i.column
  east_slot p q West i n back = absurd (back (n.0, sym n.1))

  west_slot : (p q : Place) (e : Direction) → Inside w h p → Next West p q → (Next e q p → ⊥) → slot w p West < slot w q e
  west_slot p q North i n back = omega arith
  west_slot p q East i n back = absurd (back (n.0, sym n.1))
  west_slot p q South i n back = omega arith
  west_slot p q West i n back = omega arith

  flat_rises : (d : Direction) (up : Bool) (p q : Place) (e : Direction) → Inside w h p → Inside w h q → Suits up d → Next d p q → (Next e q p → ⊥) → flat up w h p d < flat up w h q e
  flat_rises North true p q e i j suits n back = next_row p.y q.y w w (slot w q e) n.1 (omega arith)
  flat_rises North false p q e i j suits n back = absurd (false≢true suits)
  flat_rises East up p q e i j suits n back = rw n.1 (same_row (ranked up h p.y) (w + 1) p.x (slot w q e) (east_slot p q e i n back))
  flat_rises South true p q e i j suits n back = absurd (true≢false suits)
  flat_rises South false p q e i j suits n back = next_row (h - 1 - p.y) (h - 1 - q.y) w w (slot w q e) (omega arith) (omega arith)
  flat_rises West up p q e i j suits n back = rw n.1 (same_row (ranked up h p.y) (w + 1) (w - 1 - p.x) (slot w q e) (west_slot p q e i n back))

turned_next : (d : Direction) (p q : Place) → Next d p q → Next (turned d) (swapped p) (swapped q)
turned_next North p q n = (n.1, n.0)
turned_next East p q n = (n.1, n.0)
turned_next South p q n = (n.1, n.0)
turned_next West p q n = (n.1, n.0)

next_turned : (d : Direction) (p q : Place) → Next (turned d) (swapped p) (swapped q) → Next d p q
next_turned North p q n = (n.1, n.0)
next_turned East p q n = (n.1, n.0)
next_turned South p q n = (n.1, n.0)
next_turned West p q n = (n.1, n.0)

turned_inside : (w h : ℕ) (p : Place) → Inside w h p → Inside h w (swapped p)
turned_inside w h p i = record { column = i.row; row = i.column }

-- a set is passed the way of its own directions
module _ (o : TurnOrder) where
  suits_rows : (d : Direction) (s : ℕ) → set_of o d ≡ s → (eqb o.north s && eqb o.south s) ≡ false → Suits (eqb o.north s) d
  suits_rows North s e not_both = eq-eqb o.north s e
  suits_rows East s e not_both = tt
  suits_rows South s e not_both = ⊎_elim (λ f. f) (λ f. absurd (both_ways (eqb o.south s) f (eq-eqb o.south s e))) (and_cases (eqb o.north s) (eqb o.south s) not_both)
  suits_rows West s e not_both = tt

  suits_columns : (d : Direction) (s : ℕ) → set_of o d ≡ s → (eqb o.north s && eqb o.south s) ≡ true → Suits (eqb o.east s) (turned d)
  suits_columns North s e both = tt
  suits_columns East s e both = eq-eqb o.east s e
  suits_columns South s e both = tt
  suits_columns West s e both =
      let parts = and_parts (eqb o.north s) (eqb o.south s) both in
      let n = eqb-true o.north s parts.0 in
      let m = eqb-true o.south s parts.1 in
      ne_eqb o.east s (λ k. o.two_sets (omega arith) (omega arith) (omega arith))

module _ (o : TurnOrder) (w h : ℕ) where
  within_below : (s : ℕ) (p : Place) (d : Direction) → Inside w h p → within o w h s p d < (w + 1) * (h + 1)
  within_below s p d i =
      cond_both (eqb o.north s && eqb o.south s) (flat (eqb o.east s) h w (swapped p) (turned d)) (flat (eqb o.north s) w h p d) (λ n. n < (w + 1) * (h + 1))
      (λ _. omega (arith, flat_below h w (eqb o.east s) (swapped p) (turned d) (turned_inside w h p i)))
      (λ _. flat_below w h (eqb o.north s) p d i)

  module _ (p q : Place) (d e : Direction) (i : Inside w h p) (j : Inside w h q) (n : Next d p q) (back : Next e q p → ⊥) where
    within_rises : (s : ℕ) → set_of o d ≡ s → within o w h s p d < within o w h s q e
    within_rises s is =
        let columns : Bool = eqb o.north s && eqb o.south s in
        ⊎_elim
        (λ (t : columns ≡ true).
        let rises = flat_rises h w (turned d) (eqb o.east s) (swapped p) (swapped q) (turned e) (turned_inside w h p i) (turned_inside w h q j) (suits_columns o d s is t) (turned_next d p q n) (λ b. back (next_turned e q p b)) in
        subst₂ ◌<◌ (sym (cond-true columns _ _ t)) (sym (cond-true columns _ _ t)) rises)
        (λ (t : columns ≡ false).
        let rises = flat_rises w h d (eqb o.north s) p q e i j (suits_rows o d s is t) n back in
        subst₂ ◌<◌ (sym (cond-false columns _ _ t)) (sym (cond-false columns _ _ t)) rises)
        (cases_Bool columns)

    -- of two channels taken one after the other, the second has the greater number
    pub channel_rises : set_of o d ≤ set_of o e → channel o w h p d < channel o w h q e
    channel_rises l =
        ⊎_elim
        (λ (same : set_of o d ≡ set_of o e). rw same (same_row (set_of o e) ((w + 1) * (h + 1)) (within o w h (set_of o e) p d) (within o w h (set_of o e) q e) (within_rises (set_of o e) same)))
        (⊎_elim
        (λ (less : set_of o d < set_of o e). next_set (set_of o d) (set_of o e) ((w + 1) * (h + 1)) (within o w h (set_of o d) p d) (within o w h (set_of o e) q e) less (within_below (set_of o d) p d i))
        (λ (more : set_of o e < set_of o d). absurd (omega arith)))
        (cases_order (set_of o d) (set_of o e))
