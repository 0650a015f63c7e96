-- MD-safe and random-offline fill a plane lawfully for the pointing guide, under every turn order.
use Rattle.std.proofs.Common.{◌≡◌, ℕ, zero, suc, ◌*◌, ◌<◌, ◌≤◌, true, cond, List, [], ◌∷◌, length, get_or, take, sym, refl, ap, ◌∙◌, subst, subst₂, ⊎_elim, arith, Contains}
use Rattle.std.proofs.lemmas.List.FromFn.{length-map-range_with_len}
use Rattle.std.proofs.lemmas.List.Elements.{Contains-get_or}
use Rattle.std.proofs.lemmas.List.{get_or-map, get_or_default}
use Rattle.std.proofs.lemmas.Bool.{cases_lt, cond_both, le-leb, leb-true, ltb-true}
use Rattle.mesh.specs.declared.compass.Direction.{Direction}
use Rattle.mesh.specs.declared.compass.Way.{Way}
use Rattle.mesh.specs.declared.grid.Place.{Place}
use Rattle.mesh.specs.declared.turns.TurnOrder.{TurnOrder}
use Rattle.mesh.specs.Compass.{distance, toward}
use Rattle.mesh.specs.Layout.{Inside, cell, place_at}
use Rattle.mesh.specs.Orders.{allows, lowest}
use Rattle.routing_laws.specs.Chains.{Next}
use Rattle.routing_laws.specs.Elevators.{origin, places}
use Rattle.routing_laws.specs.Filling.{Asked, Task, ending, filled}
use Rattle.routing_laws.specs.Guides.{pointing_lawful}
use Rattle.routing_laws.specs.Nearest.{LastNearest, last_nearest, pointing, safe_half}
use Rattle.routing_laws.specs.Ties.{LateOnly, Nearest, asks, candidates, onward, question, target, tie_half}
use Rattle.routing_laws.proofs.Listing.{cell_below, place_cell}
use Rattle.routing_laws.proofs.Nearest.{last_nearest_found, last_nearest_is}
use Rattle.routing_laws.proofs.Nearing.{Nearer, allowed_parts, closer, lowest_grows, nearing, one_off, set_most, shrinks}
use Rattle.routing_laws.proofs.Safe.{place_of}
use Rattle.routing_laws.proofs.Ties.{exact, late_only, only_late}

-- a place that is no farther than another is no farther after a step towards it, and a nearer one is nearer
module _ {p q t : Place} (n : Nearer p q t) (e : Place) where
  still_near : distance p t ≤ distance p e → distance q t ≤ distance q e
  still_near l = omega (arith, closer n, one_off e n)

  still_nearer : distance p t < distance p e → distance q t < distance q e
  still_nearer l = omega (arith, closer n, one_off e n)

-- the place of a router among the places of the plane
place_here : (w h : ℕ) → 0 < w → 0 < h → (p : Place) → Inside w h p → get_or (places w h) (cell w h 0 p) origin ≡ p
place_here w h some_columns some_rows p i = place_of (λ _. 0) w h (cell w h 0 p) (cell_below w h some_columns some_rows p i) ∙ place_cell w h some_columns some_rows 0 p i

-- without elevators any filling is lawful
pub none_lawful : (o : TurnOrder) (w h : ℕ) (filling : List ℕ) → pointing_lawful o w h [] filling
none_lawful o w h filling l = absurd (omega arith)

module _ (es : List Place) where
  -- the last nearest elevator is so from the next place on the way to it
  last_stays : {p q : Place} {b : ℕ} → Nearer p q (get_or es b origin) → LastNearest es p b → LastNearest es q b
  last_stays n l = record {
    listed = l.listed;
    nearest = λ j m. still_near n (get_or es j origin) (l.nearest j m);
    last = λ j k m. still_nearer n (get_or es j origin) (l.last j k m);
  }

  target_stays : (p q : Place) → 0 < length es → Nearer p q (last_nearest p es) → last_nearest p es ≡ last_nearest q es
  target_stays p q some n =
      let found = last_nearest_found {es = es} {p = p} some in
      sym found.2 ∙ last_nearest_is (last_stays (subst (Nearer p q) (sym found.2) n) found.1)

-- MD-safe: a step keeps the target, so that the needed directions only get fewer
pub safe_lawful : (o : TurnOrder) (w h : ℕ) (es : List Place) → 0 < w → 0 < h → pointing_lawful o w h es (safe_half w h es)
safe_lawful o w h es some_columns some_rows some = record {
  target = λ p. last_nearest p es;
  listed = λ p _. let found = last_nearest_found {es = es} {p = p} some in subst (Contains es) found.2 (Contains-get_or es found.0 origin found.1.listed);
  nearest = λ p e _ g. let found = last_nearest_found {es = es} {p = p} some in subst₂ (λ a b. distance p a ≤ distance p b) found.2 (get_or_default es g.0 origin e g.1 ∙ g.2) (found.1.nearest g.0 g.1);
  points = λ p i.
      get_or-map point (places w h) (cell w h 0 p) origin 0 (omega (arith, cell_below w h some_columns some_rows p i, length-map-range_with_len (place_at w h) 0 (w * h)))
      ∙ ap point (place_here w h some_columns some_rows p i);
  keeps = λ p q d _ _ t step.
      let n = nearing d p q (last_nearest p es) (allowed_parts o (toward p (last_nearest p es)) d t).0 step in
      subst (λ e. lowest o (toward p (last_nearest p es)) ≤ lowest o (toward q e)) (target_stays es p q some n) (lowest_grows o (toward p (last_nearest p es)) (toward q (last_nearest p es)) (shrinks n));
}
  where
    point : Place → ℕ
    point p = pointing p (last_nearest p es)

-- one entry of a half, by the chooser's state at its place
filled_at : {C : Type 0} (point : Place → C → ℕ) (step : Place → C → C) (ps : List Place) (c : C) (i : ℕ) → i < length ps → get_or (filled point step ps c) i 0 ≡ point (get_or ps i origin) (ending step (take i ps) c)
filled_at point step [] c i l = absurd (omega arith)
filled_at point step (p ∷ ps) c zero l = refl
filled_at point step (p ∷ ps) c (suc i) l = filled_at point step ps (step p c) i (omega arith)

-- a nearest elevator is nearest from the next place on the way to it, and needs no set there that it did not need
nearest_stays : (es : List Place) (p q e : Place) → Nearer p q e → Nearest es p e → Nearest es q e
nearest_stays es p q e n near = (near.0, λ f g. still_near n f (near.1 f g))

late_stays : (o : TurnOrder) (p q e : Place) → Nearer p q e → LateOnly o p e → LateOnly o q e
late_stays o p q e n late d t = late d (shrinks n d t)

module _ {C : Type 0} (position : C → Asked → ℕ) (after : C → Asked → C) (answers : (c : C) (q : Asked) → 2 ≤ length q.candidates → position c q < length q.candidates) (o : TurnOrder) where
  -- a router points at one of its candidates
  chosen : (z : ℕ) (way : Way) (es : List Place) → 0 < length es → (p : Place) (c : C) → Contains (candidates o p es) (target position after o z way es p c)
  chosen z way es some p c =
      let cs = candidates o p es in
      Contains-get_or cs (cond (asks cs) (position c (question position after o z way es p)) 0) origin
      (cond_both (asks cs) (position c (question position after o z way es p)) 0 (λ n. n < length cs)
      (λ t. answers c (question position after o z way es p) (omega (arith, ltb-true 1 (length cs) t)))
      (λ _. (exact o p es some).some))

  -- after a step towards a candidate that needs only set 1, every candidate needs only that
  candidates_keep : (es : List Place) → 0 < length es → (p q e f : Place) (d : Direction) → Contains (candidates o p es) e → Contains (candidates o q es) f
      → allows o (toward p e) d ≡ true → Next d p q → lowest o (toward p e) ≤ lowest o (toward q f)
  candidates_keep es some p q e f d g k t step =
      let parts = allowed_parts o (toward p e) d t in
      let n = nearing d p q e parts.0 step in
      let near = (exact o p es some).nearest e g in
      ⊎_elim
      (λ (l : lowest o (toward p e) < 1). omega arith)
      (λ (l : 1 ≤ lowest o (toward p e)).
      let late = late_stays o p q e n (late_only o (toward p e) (le-leb 1 (lowest o (toward p e)) l)) in
      let all = (exact o q es some).late e f (nearest_stays es p q e n near) late k in
      let low = leb-true 1 (lowest o (toward q f)) (only_late o (toward q f) all) in
      omega (arith, parts.1, set_most o d))
      (cases_lt (lowest o (toward p e)) 1)

  -- random-offline, whatever a chooser replies, so long as it is one of the candidates
  pub tie_lawful : (t : Task) (c : C) → 0 < t.width → 0 < t.height → pointing_lawful o t.width t.height t.elevators (tie_half position after o t c)
  tie_lawful t c some_columns some_rows some =
      let w = t.width in
      let h = t.height in
      let es = t.elevators in
      let goal : Place → C → Place = target position after o t.plane t.way es in
      let step : Place → C → C = onward position after o t.plane t.way es in
      let state : Place → C = λ p. ending step (take (cell w h 0 p) (places w h)) c in
      let pick : (p : Place) → Contains (candidates o p es) (goal p (state p)) = λ p. chosen t.plane t.way es some p (state p) in
      record {
        target = λ p. goal p (state p);
        listed = λ p _. ((exact o p es some).nearest (goal p (state p)) (pick p)).0;
        nearest = λ p e _. ((exact o p es some).nearest (goal p (state p)) (pick p)).1 e;
        points = λ p i.
            filled_at (λ q s. pointing q (goal q s)) step (places w h) c (cell w h 0 p) (omega (arith, cell_below w h some_columns some_rows p i, length-map-range_with_len (place_at w h) 0 (w * h)))
            ∙ ap (λ q. pointing q (goal q (state p))) (place_here w h some_columns some_rows p i);
        keeps = λ p q d _ _. candidates_keep es some p q (goal p (state p)) (goal q (state q)) d (pick p) (pick q);
      }
