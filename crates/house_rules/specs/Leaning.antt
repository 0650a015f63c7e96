-- The guide that looks at the destination keeps the rules: it permits less than the pointing guide, and still something.
use Rattle.std.specs.Prelude.{◌≡◌, ℕ, ◌<◌, Bool, true, false, cond, ◌||◌, List, [], ◌∷◌, refl, Contains}
use Rattle.std.proofs.Common.{arith}
use Rattle.std.proofs.lemmas.Bool.{and_parts, false≢true}
use Rattle.mesh.specs.declared.compass.Direction.{Direction}
use Rattle.mesh.specs.declared.compass.Direction.TheVariants.{North, East, South, West}
use Rattle.mesh.specs.declared.compass.Directions.{Directions}
use Rattle.mesh.specs.declared.grid.Place.{Place}
use Rattle.mesh.specs.declared.turns.TurnOrder.{TurnOrder}
use Rattle.mesh.specs.Compass.{both, has, toward}
use Rattle.mesh.specs.Layout.{Inside}
use Rattle.routing_laws.specs.Chains.{Rules, Told, plane_of}
use Rattle.routing_laws.specs.Guides.{pointing_reply}
use Rattle.routing_laws.proofs.Lawful.{none_lawful}
use Rattle.routing_laws.proofs.Pointing.{pointing_rules}
use Rattle.house_rules.specs.Guiding.{lawful_for, some_direction, toward_reply}
use Rattle.house_rules.specs.Narrowing.{narrowed_rules}

-- what two sets share is in the first
shared_first : (s t : Directions) (d : Direction) → has d (both s t) ≡ true → has d s ≡ true
shared_first s t North e = (and_parts s.north t.north e).0
shared_first s t East e = (and_parts s.east t.east e).0
shared_first s t South e = (and_parts s.south t.south e).0
shared_first s t West e = (and_parts s.west t.west e).0

-- a set that is not empty holds a direction
any_of : (n e s w : Bool) → (n || (e || (s || w))) ≡ true → (d : Direction) × (has d record { north = n; east = e; south = s; west = w } ≡ true)
any_of true e s w t = (North, refl)
any_of false true s w t = (East, refl)
any_of false false true w t = (South, refl)
any_of false false false true t = (West, refl)
any_of false false false false t = absurd (false≢true t)

-- the guide permits nothing that the ports it starts from do not hold
lean_fewer : (b : Bool) (s t : Directions) (d : Direction) → has d (cond b (both s t) s) ≡ true → has d s ≡ true
lean_fewer true s t d e = shared_first s t d e
lean_fewer false s t d e = e

-- and something wherever they hold anything
lean_some : (b : Bool) (s t : Directions) (d : Direction) → some_direction (both s t) ≡ b → has d s ≡ true → (e : Direction) × (has e (cond b (both s t) s) ≡ true)
lean_some true s t d some h = let m = both s t in any_of m.north m.east m.south m.west some
lean_some false s t d none h = (d, h)

module _ (o : TurnOrder) where
  fewer : (t : Told) (d : Direction) → has d (toward_reply o t) ≡ true → has d (pointing_reply o t) ≡ true
  fewer t d = let ahead = toward t.place t.destination in lean_fewer (some_direction (both (pointing_reply o t) ahead)) (pointing_reply o t) ahead d

  some_left : (t : Told) (d : Direction) → has d (pointing_reply o t) ≡ true → (e : Direction) × (has e (toward_reply o t) ≡ true)
  some_left t d = let ahead = toward t.place t.destination in lean_some (some_direction (both (pointing_reply o t) ahead)) (pointing_reply o t) ahead d refl

  pub toward_rules : (w h : ℕ) (es : List Place) (filling : List ℕ) → 0 < w → 0 < h → ((e : Place) → Contains es e → Inside w h e) → lawful_for o w h es filling → Rules (plane_of w h es filling (toward_reply o))
  toward_rules w h [] filling some_columns some_rows inside lawful =
      narrowed_rules (plane_of w h [] filling (pointing_reply o)) [] (toward_reply o) (λ e m. m) (λ l. l) fewer some_left (pointing_rules o w h [] filling some_columns some_rows inside (none_lawful o w h filling))
  toward_rules w h (x ∷ es) filling some_columns some_rows inside lawful =
      let f = lawful (omega arith) in
      narrowed_rules (plane_of w h f.served filling (pointing_reply o)) (x ∷ es) (toward_reply o) f.listed (λ _. f.some) fewer some_left
      (pointing_rules o w h f.served filling some_columns some_rows (λ e m. inside e (f.listed e m)) f.pointed)

  -- without elevators any filling is lawful
  pub none_needed : (w h : ℕ) (filling : List ℕ) → lawful_for o w h [] filling
  none_needed w h filling l = absurd (omega arith)
