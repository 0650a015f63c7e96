-- The optimistic guide: its lawful fillings, and that it keeps the rules.
use Rattle.std.proofs.Common.{◌≡◌, ℕ, ◌-◌, ◌*◌, ◌<◌, true, false, cond, ◌&&◌, List, [], length, get_or, Some, None, Decides, Option, sym, refl, ap, ◌∙◌, subst, ⊎_elim, arith, Contains}
use Rattle.std.proofs.lemmas.List.FromFn.{length-map-range_with_len}
use Rattle.std.proofs.lemmas.List.Elements.{Contains-get_or}
use Rattle.std.proofs.lemmas.List.{get_or-map}
use Rattle.std.proofs.lemmas.Bool.{and_parts, both_ways, cases_order, cond_both, false≢true}
use Rattle.std.proofs.lemmas.Bool.Decides.{nat_tests}
use Rattle.mesh.specs.declared.compass.Direction.{Direction}
use Rattle.mesh.specs.declared.compass.Direction.TheVariants.{North, East, South, West}
use Rattle.mesh.specs.declared.compass.Directions.{Directions}
use Rattle.mesh.specs.declared.compass.Trip.{Trip}
use Rattle.mesh.specs.declared.compass.Trip.TheVariants.{Seeking, Bound}
use Rattle.mesh.specs.declared.grid.Place.{Place}
use Rattle.mesh.specs.Compass.{has, only, toward}
use Rattle.mesh.specs.Halves.{pack, unpack}
use Rattle.mesh.specs.Layout.{Inside, cell, place_at}
use Rattle.mesh.specs.Orders.{permitted, xy}
use Rattle.mesh.proofs.Masks.{faithful}
use Rattle.routing_laws.specs.Chains.{Next, Plane, Rules, Starts, back, half_at}
use Rattle.routing_laws.specs.Elevators.{origin, places}
use Rattle.routing_laws.specs.Guides.{along, optimistic_lawful, optimistic_reply, seek}
use Rattle.routing_laws.specs.Optimistic.{compass, open_half}
use Rattle.routing_laws.proofs.Compass.{compass_is}
use Rattle.routing_laws.proofs.Headings.{Aims, Heads, Leading, Sees, leading_rules, number}
use Rattle.routing_laws.proofs.Listing.{cell_below, place_cell}
use Rattle.routing_laws.proofs.Safe.{place_of}

-- the optimistic scheme's half says where elevators lie
pub open_lawful : (w h : ℕ) (es : List Place) → 0 < w → 0 < h → optimistic_lawful w h es (open_half w h es)
open_lawful w h es some_columns some_rows _ p q =
    let sight : Place → ℕ = λ p. pack (compass es p) in
    let i = cell w h 0 p in
    let below : i < w * h = cell_below w h some_columns some_rows p q in
    get_or-map sight (places w h) i origin 0 (omega (arith, length-map-range_with_len (place_at w h) 0 (w * h)))
    ∙ ap sight (place_of sight w h i below ∙ place_cell w h some_columns some_rows 0 p q)

-- without elevators nobody seeks
pub zero_lawful : (w h : ℕ) (filling : List ℕ) → optimistic_lawful w h [] filling
zero_lawful w h filling some p q = absurd (omega arith)

-- from each direction alone to any
each : (F P : Direction → Type 0) → (F North → P North) → (F East → P East) → (F South → P South) → (F West → P West) → (d : Direction) → F d → P d
each F P north east south west North = north
each F P north east south west East = east
each F P north east south west South = south
each F P north east south west West = west

-- bound: XY permits exactly the directions that lead to a place, one of them short of it
xy_heads : (d : Direction) (p t : Place) → Decides (has d (permitted xy (toward p t))) (Heads d p t)
xy_heads North p t = (λ e. grind (arith, nat_tests), λ a. grind (arith, nat_tests))
xy_heads East p t = (λ e. grind (arith, nat_tests), λ a. grind (arith, nat_tests))
xy_heads South p t = (λ e. grind (arith, nat_tests), λ a. grind (arith, nat_tests))
xy_heads West p t = (λ e. grind (arith, nat_tests), λ a. grind (arith, nat_tests))

some_heads : (p t : Place) → (p ≡ t → ⊥) → (d : Direction) × Heads d p t
some_heads p t apart =
    ⊎_elim
    (λ column. ⊎_elim (λ row. absurd (apart (λ i. record { x = column i; y = row i }))) (⊎_elim (λ l. (North, (sym column, l))) (λ l. (South, (sym column, l)))) (cases_order p.y t.y))
    (⊎_elim (λ l. (East, l)) (λ l. (West, l)))
    (cases_order p.x t.x)

-- seeking: what holds of each port that may be the first to apply holds of the port that the guide picks
module _ (half dest : Directions) (P : Direction → Type 0) where
  wanted : (d : Direction) {e : Direction} → (has d half ≡ true → P d) → P e → P (cond (has d half && has d dest) d e)
  wanted d {e} picked rest = cond_both (has d half && has d dest) d e P (λ t. picked (and_parts (has d half) (has d dest) t).0) (λ _. rest)

  along_by : (d : Direction) → (has d half ≡ true → P d) → (has North half ≡ true → P North) → (has South half ≡ true → P South) → (has North half ≡ false → has South half ≡ false → P d) → P (along half dest d)
  along_by d ahead north south rest =
      wanted d ahead
      (wanted North north
      (wanted South south
      (cond_both (has North half) North (cond (has South half) South d) P north
      (λ n. cond_both (has South half) South d P south (rest n)))))

  first_by : ((d : Direction) → has d half ≡ true → P d) → (has North half ≡ false → has South half ≡ false → has West half ≡ false → P East) → P (seek half dest None)
  first_by picked rest =
      wanted West (picked West)
      (wanted East (picked East)
      (wanted North (picked North)
      (wanted South (picked South)
      (cond_both (has North half) North (cond (has South half) South (cond (has West half) West East)) P (picked North)
      (λ n. cond_both (has South half) South (cond (has West half) West East) P (picked South)
      (λ s. cond_both (has West half) West East P (picked West) (rest n s)))))))

-- and of each port in the reply, which has that port alone
only_has : (d : Direction) → has d (only d) ≡ true
only_has North = refl
only_has East = refl
only_has South = refl
only_has West = refl

never : {A : Type 0} → false ≡ true → A
never t = absurd (false≢true t)

only_by : (P : Direction → Type 0) (d : Direction) → P d → (e : Direction) → has e (only d) ≡ true → P e
only_by P North h = each (λ e. has e (only North) ≡ true) P (λ _. h) never never never
only_by P East h = each (λ e. has e (only East) ≡ true) P never (λ _. h) never never
only_by P South h = each (λ e. has e (only South) ≡ true) P never never (λ _. h) never
only_by P West h = each (λ e. has e (only West) ≡ true) P never never never (λ _. h)

-- the numbers rise from a channel to the next
module _ {w h : ℕ} {p q : Place} (i : Inside w h p) (j : Inside w h q) where
  -- on the way to one place
  heads_rise : (t : Place) (d e : Direction) → Heads d p t → Next d p q → Heads e q t → number w h p d < number w h q e
  heads_rise t North e a n = each (λ e. Heads e q t) (λ e. number w h p North < number w h q e) (λ b. omega arith) (λ b. omega arith) (λ b. omega arith) (λ b. omega arith) e
  heads_rise t East e a n = each (λ e. Heads e q t) (λ e. number w h p East < number w h q e) (λ b. omega arith) (λ b. omega arith) (λ b. omega arith) (λ b. omega arith) e
  heads_rise t South e a n = each (λ e. Heads e q t) (λ e. number w h p South < number w h q e) (λ b. omega arith) (λ b. omega arith) (λ b. omega arith) (λ b. omega arith) e
  heads_rise t West e a n = each (λ e. Heads e q t) (λ e. number w h p West < number w h q e) (λ b. omega arith) (λ b. omega arith) (λ b. omega arith) (λ b. omega arith) e

  -- a seeking packet goes on along its row, may turn into a column, and goes on there
  module _ (half dest : Directions) where
    along_rises : (d : Direction) → number w h p d < w - 1 → number w h p d < number w h q d → number w h p d < number w h q (along half dest d)
    along_rises d low on = along_by half dest (λ e. number w h p d < number w h q e) d (λ _. on) (λ _. omega arith) (λ _. omega arith) (λ _ _. on)

    seek_rises : (d : Direction) → Next d p q → number w h p d < number w h q (seek half dest (Some (back d)))
    seek_rises North n = omega arith
    seek_rises East n = along_rises East (omega arith) (omega arith)
    seek_rises South n = omega arith
    seek_rises West n = along_rises West (omega arith) (omega arith)

module _ (es : List Place) (p : Place) where
  compass_sees : (d : Direction) → Decides (has d (compass es p)) (Sees (Contains es) d p)
  compass_sees North = (compass_is es p).north_is
  compass_sees East = (compass_is es p).east_is
  compass_sees South = (compass_is es p).south_is
  compass_sees West = (compass_is es p).west_is

  unseen : (d : Direction) → has d (compass es p) ≡ false → (t : Place) → Contains es t → Heads d p t → ⊥
  unseen d e t at a = both_ways (has d (compass es p)) e ((compass_sees d).1 (t, at, a))

  module _ (none : Contains es p → ⊥) where
    apart : (t : Place) → Contains es t → t.x ≡ p.x → t.y ≡ p.y → ⊥
    apart t at column row = none (subst (Contains es) (λ i. record { x = column i; y = row i }) at)

    -- with no elevator here, none to the North and none to the South, none is in this column
    elsewhere : has North (compass es p) ≡ false → has South (compass es p) ≡ false → (t : Place) → Contains es t → t.x ≡ p.x → ⊥
    elsewhere north south t at column =
        ⊎_elim (apart t at column) (⊎_elim (λ l. unseen South south t at (column, l)) (λ l. unseen North north t at (column, l))) (cases_order t.y p.y)

    along_sees : (dest : Directions) (d : Direction) (t : Place) → Contains es t → ((t.x ≡ p.x → ⊥) → Heads d p t) → Sees (Contains es) (along (compass es p) dest d) p
    along_sees dest d t at far =
        along_by (compass es p) dest (λ e. Sees (Contains es) e p) d (compass_sees d).0 (compass_sees North).0 (compass_sees South).0 (λ n s. (t, at, far (elsewhere n s t at)))

    -- the port that the guide picks leads towards an elevator
    seek_sees : 0 < length es → (dest : Directions) (side : Option Direction) → Aims (Contains es) side p → Sees (Contains es) (seek (compass es p) dest side) p
    seek_sees some dest None _ = first_by (compass es p) dest (λ e. Sees (Contains es) e p) (λ d. (compass_sees d).0) rest
      where
        rest : has North (compass es p) ≡ false → has South (compass es p) ≡ false → has West (compass es p) ≡ false → Sees (Contains es) East p
        rest n s w =
            let t = get_or es 0 origin in
            let at : Contains es t = Contains-get_or es 0 origin some in
            (t, at, omega (arith, elsewhere n s t at, unseen West w t at))
    seek_sees some dest (Some North) (t, at, a) = (t, at, (a.0, omega (arith, apart t at a.0)))
    seek_sees some dest (Some East) (t, at, a) = along_sees dest West t at (λ far. omega arith)
    seek_sees some dest (Some South) (t, at, a) = (t, at, (a.0, omega (arith, apart t at a.0)))
    seek_sees some dest (Some West) (t, at, a) = along_sees dest East t at (λ far. omega arith)

abbrev hopeful : ℕ → ℕ → List Place → List ℕ → Plane
hopeful w h es filling = record { width = w; height = h; elevators = es; filling = filling; reply = optimistic_reply }

module _ (w h : ℕ) (es : List Place) (filling : List ℕ) (inside : (e : Place) → Contains es e → Inside w h e) (lawful : optimistic_lawful w h es filling) where
  leading : (trip : Trip) (dest : Place) → Starts (hopeful w h es filling) trip dest → Leading (hopeful w h es filling) trip dest
  leading Seeking dest (some, _) = record {
    goes = λ p side away. (picked p side, only_has (picked p side));
    leads = λ p side i a away. only_by (λ e. Sees (Contains es) e p) (picked p side) (picked_sees p side i a away);
    ends = inside;
    rises = λ p q side i j d _ next. only_by (λ e. number w h p d < number w h q e) (picked q (Some (back d))) (seek_rises i j (unpack (half_at w h filling q)) (toward q dest) d next);
  }
    where
      picked : Place → Option Direction → Direction
      picked p side = seek (unpack (half_at w h filling p)) (toward p dest) side

      picked_sees : (p : Place) (side : Option Direction) → Inside w h p → Aims (Contains es) side p → (Contains es p → ⊥) → Sees (Contains es) (picked p side) p
      picked_sees p side i a away =
          let read : unpack (half_at w h filling p) ≡ compass es p = ap unpack (lawful some p i) ∙ faithful.unpacked (compass es p) in
          subst (λ s. Sees (Contains es) (seek s (toward p dest) side) p) (sym read) (seek_sees es p away some (toward p dest) side a)
  leading Bound dest inside-dest = record {
    goes = λ p side away. let to = some_heads p dest away in (to.0, (xy_heads to.0 p dest).1 to.1);
    leads = λ p side _ _ _ d permits. (dest, refl, (xy_heads d p dest).0 permits);
    ends = λ t e. subst (Inside w h) (sym e) inside-dest;
    rises = λ p q side i j d permits next e then. heads_rise i j dest d e ((xy_heads d p dest).0 permits) next ((xy_heads e q dest).0 then);
  }

-- the optimistic guide keeps the rules under every filling that says where elevators lie
pub optimistic_rules : (w h : ℕ) (es : List Place) (filling : List ℕ) → 0 < w → 0 < h → ((e : Place) → Contains es e → Inside w h e) → optimistic_lawful w h es filling
    → Rules record { width = w; height = h; elevators = es; filling = filling; reply = optimistic_reply }
optimistic_rules w h es filling _ _ inside lawful = leading_rules (hopeful w h es filling) (leading w h es filling inside lawful)
