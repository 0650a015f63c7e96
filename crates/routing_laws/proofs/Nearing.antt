-- Steps in a needed direction: each leads one nearer, and no direction is needed anew.
use Rattle.std.proofs.Common.{◌≡◌, ℕ, ◌+◌, ◌-◌, ◌<◌, ◌≤◌, true, false, eqb, refl, ⊎_elim, arith}
use Rattle.std.proofs.lemmas.Bool.{and_from, and_parts, cases_Bool, cases_eq, cases_lt, cond_both, cond-false, cond-true, eq-eqb, eqb-true, lt-ltb, ltb-true}
use Rattle.mesh.specs.declared.compass.Direction.{Direction}
use Rattle.mesh.specs.declared.compass.Direction.TheVariants.{North, East, South, West}
use Rattle.mesh.specs.declared.compass.Directions.{Directions}
use Rattle.mesh.specs.declared.grid.Place.{Place}
use Rattle.mesh.specs.declared.turns.TurnOrder.{TurnOrder}
use Rattle.mesh.specs.Compass.{distance, gap, has, toward}
use Rattle.mesh.specs.Layout.{Inside}
use Rattle.mesh.specs.Orders.{allows, lowest, permitted, rank, set_of}
use Rattle.routing_laws.specs.Chains.{Next}

-- q is one step from p, on a shortest way from p to t
pub record Nearer (p q t : Place) : Type 0 where
  pub one : distance p q ≡ 1
  pub columns : gap p.x q.x + gap q.x t.x ≡ gap p.x t.x
  pub rows : gap p.y q.y + gap q.y t.y ≡ gap p.y t.y

pub nearing : (d : Direction) (p q t : Place) → has d (toward p t) ≡ true → Next d p q → Nearer p q t
nearing North p q t needs step = let l = ltb-true p.y t.y needs in record { one = omega arith; columns = omega arith; rows = omega arith }
nearing East p q t needs step = let l = ltb-true p.x t.x needs in record { one = omega arith; columns = omega arith; rows = omega arith }
nearing South p q t needs step = let l = ltb-true t.y p.y needs in record { one = omega arith; columns = omega arith; rows = omega arith }
nearing West p q t needs step = let l = ltb-true t.x p.x needs in record { one = omega arith; columns = omega arith; rows = omega arith }

-- such a step is one nearer to t, and at most one nearer to any other place
pub closer : {p q t : Place} → Nearer p q t → distance p t ≡ distance q t + 1
closer n = omega arith

around : (a b c : ℕ) → gap a c ≤ gap a b + gap b c
around a b c = omega arith

pub one_off : {p q t : Place} (e : Place) → Nearer p q t → distance p e ≤ distance q e + 1
one_off {p} {q} e n = sum (gap p.x q.x) (gap p.y q.y) (gap q.x e.x) (gap q.y e.y) n.one (around p.x q.x e.x) (around p.y q.y e.y)
  where
    sum : (a b k m : ℕ) {c d : ℕ} → a + b ≡ 1 → c ≤ a + k → d ≤ b + m → c + d ≤ k + m + 1
    sum a b k m e f g = omega arith

-- what is needed after such a step was needed before it
pub shrinks : {p q t : Place} → Nearer p q t → (c : Direction) → has c (toward q t) ≡ true → has c (toward p t) ≡ true
shrinks {p} {q} {t} n North h = let l = ltb-true q.y t.y h in lt-ltb p.y t.y (omega arith)
shrinks {p} {q} {t} n East h = let l = ltb-true q.x t.x h in lt-ltb p.x t.x (omega arith)
shrinks {p} {q} {t} n South h = let l = ltb-true t.y q.y h in lt-ltb t.y p.y (omega arith)
shrinks {p} {q} {t} n West h = let l = ltb-true t.x q.x h in lt-ltb t.x p.x (omega arith)

-- a needed direction leads to a place of the plane
pub stepped : (w h : ℕ) (d : Direction) (p t : Place) → Inside w h p → Inside w h t → has d (toward p t) ≡ true → (q : Place) × Next d p q × Inside w h q
stepped w h North p t i j needs = let l = ltb-true p.y t.y needs in (record { x = p.x; y = p.y + 1 }, (refl, refl), record { column = i.column; row = omega arith })
stepped w h East p t i j needs = let l = ltb-true p.x t.x needs in (record { x = p.x + 1; y = p.y }, (refl, refl), record { column = omega arith; row = i.row })
stepped w h South p t i j needs = let l = ltb-true t.y p.y needs in (record { x = p.x; y = p.y - 1 }, (refl, omega arith), record { column = i.column; row = omega arith })
stepped w h West p t i j needs = let l = ltb-true t.x p.x needs in (record { x = p.x - 1; y = p.y }, (omega arith, refl), record { column = omega arith; row = i.row })

pub set_most : (o : TurnOrder) (d : Direction) → set_of o d ≤ 1
set_most o North = o.north_most
set_most o East = o.east_most
set_most o South = o.south_most
set_most o West = o.west_most

-- fewer needed directions, no lower set
module _ (o : TurnOrder) (s r : Directions) (fewer : (d : Direction) → has d r ≡ true → has d s ≡ true) where
  rank_grows : (d : Direction) → rank o s d ≤ rank o r d
  rank_grows d =
      cond_both (has d r) (set_of o d) 2 (λ n. rank o s d ≤ n)
      (λ t. omega (arith, cond-true (has d s) (set_of o d) 2 (fewer d t)))
      (λ _. cond_both (has d s) (set_of o d) 2 (λ n. n ≤ 2) (λ _. omega (arith, set_most o d)) (λ _. omega arith))

  pub lowest_grows : lowest o s ≤ lowest o r
  lowest_grows = omega (arith, rank_grows North, rank_grows East, rank_grows South, rank_grows West)

module _ (o : TurnOrder) (s : Directions) where
  pub has_permitted : (d : Direction) → has d (permitted o s) ≡ allows o s d
  has_permitted North = refl
  has_permitted East = refl
  has_permitted South = refl
  has_permitted West = refl

  -- what is permitted is needed, and of the lowest needed set
  pub allowed_parts : (d : Direction) → allows o s d ≡ true → (has d s ≡ true) × (set_of o d ≡ lowest o s)
  allowed_parts d t = let both = and_parts (has d s) (eqb (set_of o d) (lowest o s)) t in (both.0, eqb-true (set_of o d) (lowest o s) both.1)

  lowest_allowed : (d : Direction) → lowest o s < 2 → rank o s d ≡ lowest o s → allows o s d ≡ true
  lowest_allowed d l e =
      ⊎_elim
      (λ (t : has d s ≡ true). and_from (has d s) (eqb (set_of o d) (lowest o s)) t (eq-eqb (set_of o d) (lowest o s) (omega (arith, cond-true (has d s) (set_of o d) 2 t))))
      (λ (t : has d s ≡ false). absurd (omega (arith, cond-false (has d s) (set_of o d) 2 t)))
      (cases_Bool (has d s))

  -- where any direction is needed, one is permitted
  pub some_allowed : (c : Direction) → has c s ≡ true → (d : Direction) × (allows o s d ≡ true)
  some_allowed c t =
      let low = below c (omega (arith, cond-true (has c s) (set_of o c) 2 t, set_most o c)) in
      ⊎_elim (λ e. (North, lowest_allowed North low e)) (λ n.
      ⊎_elim (λ e. (East, lowest_allowed East low e)) (λ k.
      ⊎_elim (λ e. (South, lowest_allowed South low e)) (λ m.
      (West, lowest_allowed West low (omega arith)))
      (cases_eq (rank o s South) (lowest o s)))
      (cases_eq (rank o s East) (lowest o s)))
      (cases_eq (rank o s North) (lowest o s))
    where
      below : (c : Direction) → rank o s c < 2 → lowest o s < 2
      below North l = omega arith
      below East l = omega arith
      below South l = omega arith
      below West l = omega arith

-- from another place than t some direction is needed
pub some_needed : (p t : Place) → (t ≡ p → ⊥) → (d : Direction) × (has d (toward p t) ≡ true)
some_needed p t other =
    ⊎_elim (λ (l : p.y < t.y). (North, lt-ltb p.y t.y l)) (λ m.
    ⊎_elim (λ (l : p.x < t.x). (East, lt-ltb p.x t.x l)) (λ n.
    ⊎_elim (λ (l : t.y < p.y). (South, lt-ltb t.y p.y l)) (λ k.
    ⊎_elim (λ (l : t.x < p.x). (West, lt-ltb t.x p.x l)) (λ j.
    let e : t.x ≡ p.x = omega arith in
    let f : t.y ≡ p.y = omega arith in
    absurd (other (λ i. record { x = e i; y = f i })))
    (cases_lt t.x p.x))
    (cases_lt t.y p.y))
    (cases_lt p.x t.x))
    (cases_lt p.y t.y)
