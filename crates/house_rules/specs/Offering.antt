-- What the filler writes is lawful for the guide that looks at the destination.
use Rattle.std.specs.Prelude.{ℕ, ◌<◌, ◌≤◌, List, [], ◌∷◌, length, filter, Contains}
use Rattle.std.proofs.Common.{arith}
use Rattle.mesh.specs.declared.grid.Place.{Place}
use Rattle.mesh.specs.declared.turns.TurnOrder.{TurnOrder}
use Rattle.routing_laws.specs.Filling.{Asked, Task}
use Rattle.routing_laws.specs.Ties.{or_else, tie_half}
use Rattle.routing_laws.proofs.Lawful.{tie_lawful}
use Rattle.routing_laws.proofs.Listing.{has_kept}
use Rattle.house_rules.specs.Filling.{inner, offered, offering}
use Rattle.house_rules.specs.Guiding.{lawful_for}

-- a list or else another is empty only where both are, and holds only what they do
either_some : (xs ys : List Place) → 0 < length ys → 0 < length (or_else xs ys)
either_some [] ys l = l
either_some (x ∷ xs) ys l = omega arith

-- and is no longer than the longer of them
pub either_few : (xs ys : List Place) → length xs ≤ length ys → length (or_else xs ys) ≤ length ys
either_few [] ys l = omega arith
either_few (x ∷ xs) ys l = l

either_has : (xs ys : List Place) (e : Place) → (Contains xs e → Contains ys e) → Contains (or_else xs ys) e → Contains ys e
either_has [] ys e from h = h
either_has (x ∷ xs) ys e from h = from h

module _ {C : Type 0} (position : C → Asked → ℕ) (after : C → Asked → C) (answers : (c : C) (q : Asked) → 2 ≤ length q.candidates → position c q < length q.candidates) (o : TurnOrder) where
  pub inner_lawful : (t : Task) (c : C) → 0 < t.width → 0 < t.height → lawful_for o t.width t.height t.elevators (tie_half position after o (offering t) c)
  inner_lawful t c some_columns some_rows some =
      let es = t.elevators in
      let test = inner t.width t.height in
      record {
        served = offered t.width t.height es;
        some = either_some (filter test es) es some;
        listed = λ e. either_has (filter test es) es e (λ h. (has_kept test es e h).0);
        pointed = tie_lawful position after answers o (offering t) c some_columns some_rows;
      }
