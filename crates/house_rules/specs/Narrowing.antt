-- A guide that permits less, and still something, keeps the rules that another keeps; also where more elevators end a trip.
use Rattle.std.specs.Prelude.{◌≡◌, ℕ, ◌<◌, true, List, length, Option, Contains}
use Rattle.mesh.specs.declared.compass.Direction.{Direction}
use Rattle.mesh.specs.declared.compass.Directions.{Directions}
use Rattle.mesh.specs.declared.compass.Trip.{Trip}
use Rattle.mesh.specs.declared.compass.Trip.TheVariants.{Seeking, Bound}
use Rattle.mesh.specs.declared.grid.Place.{Place}
use Rattle.mesh.specs.Compass.{has}
use Rattle.routing_laws.specs.Chains.{Chain, Ended, Plane, Rules, Starts, Told, move, plane_of, start, told}

module _ (P : Plane) (es : List Place) (reply : Told → Directions)
    (more : (e : Place) → Contains P.elevators e → Contains es e)
    (starting : 0 < length es → 0 < length P.elevators)
    (fewer : (t : Told) (d : Direction) → has d (reply t) ≡ true → has d (P.reply t) ≡ true)
    (some : (t : Told) (d : Direction) → has d (P.reply t) ≡ true → (e : Direction) × (has e (reply t) ≡ true)) where
  abbrev narrowed : Plane
  narrowed = plane_of P.width P.height es P.filling reply

  -- what ends a trip still ends it
  ends : (trip : Trip) (destination p : Place) → Ended P trip destination p → Ended narrowed trip destination p
  ends Seeking destination p h = more p h
  ends Bound destination p e = e

  starts : (trip : Trip) (destination : Place) → Starts narrowed trip destination → Starts P trip destination
  starts Seeking destination s = (starting s.0, s.1)
  starts Bound destination s = s

  -- a chain of the narrower guide is one of the other
  chain : {trip : Trip} {destination p : Place} {side : Option Direction} {n : ℕ} → Chain narrowed trip destination p side n → Chain P trip destination p side n
  chain (start i) = start i
  chain {trip} {destination} (move {p} {q} {side} c short_of d t n i) = move (chain c) (λ e. short_of (ends trip destination p e)) d (fewer (told P trip destination p side) d t) n i

  pub narrowed_rules : Rules P → Rules narrowed
  narrowed_rules r = record {
    number = r.number;
    goes = λ trip destination s p side n c short_of.
        let found = r.goes trip destination (starts trip destination s) p side n (chain c) (λ e. short_of (ends trip destination p e)) in
        some (told P trip destination p side) found.0 found.1;
    stays = λ trip destination s p side n c short_of d t.
        r.stays trip destination (starts trip destination s) p side n (chain c) (λ e. short_of (ends trip destination p e)) d (fewer (told P trip destination p side) d t);
    rises = λ trip destination s p q side n c short_of d t next inside on e u.
        r.rises trip destination (starts trip destination s) p q side n (chain c) (λ e. short_of (ends trip destination p e)) d (fewer (told P trip destination p side) d t) next inside (λ e. on (ends trip destination q e)) e (fewer (told P trip destination q _) e u);
    short = λ trip destination s p side n c. r.short trip destination (starts trip destination s) p side n (chain c);
  }
