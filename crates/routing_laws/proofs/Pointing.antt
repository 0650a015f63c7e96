-- The pointing guide keeps the rules under every turn order, where its filling is lawful.
use Rattle.std.proofs.Common.{◌≡◌, ℕ, ◌+◌, ◌<◌, ◌≤◌, true, List, Some, Option, sym, refl, ap, ◌∙◌, subst, arith, Contains}
use Rattle.mesh.specs.declared.compass.Direction.{Direction}
use Rattle.mesh.specs.declared.compass.Trip.{Trip}
use Rattle.mesh.specs.declared.compass.Trip.TheVariants.{Seeking, Bound}
use Rattle.mesh.specs.declared.grid.Place.{Place}
use Rattle.mesh.specs.declared.turns.TurnOrder.{TurnOrder}
use Rattle.mesh.specs.Compass.{distance, has, toward}
use Rattle.mesh.specs.Halves.{unpack}
use Rattle.mesh.specs.Layout.{Inside}
use Rattle.mesh.specs.Orders.{allows, lowest, permitted, set_of}
use Rattle.mesh.proofs.Masks.{faithful}
use Rattle.routing_laws.specs.Chains.{Chain, Ended, Next, Permits, Plane, Rules, Starts, back, longest, move, start, told}
use Rattle.routing_laws.specs.Guides.{Pointed, pointing_lawful, pointing_reply}
use Rattle.routing_laws.proofs.Channels.{channel, channel_rises}
use Rattle.routing_laws.proofs.Nearing.{Nearer, allowed_parts, closer, has_permitted, lowest_grows, nearing, shrinks, some_allowed, some_needed, stepped}

-- what a trip of either kind goes by: a goal for each place, none nearer, and the sets never fall
record Aim (o : TurnOrder) (P : Plane) (trip : Trip) (destination : Place) : Type 0 where
  goal : Place → Place
  inside : (p : Place) → Inside P.width P.height p → Inside P.width P.height (goal p)
  ends : (p : Place) → Inside P.width P.height p → goal p ≡ p → Ended P trip destination p
  near : (p q : Place) → Inside P.width P.height p → Inside P.width P.height q → distance p (goal p) ≤ distance p (goal q)
  replies : (p : Place) (side : Option Direction) → Inside P.width P.height p → P.reply (told P trip destination p side) ≡ permitted o (toward p (goal p))
  keeps : (p q : Place) (d : Direction) → Inside P.width P.height p → Inside P.width P.height q → allows o (toward p (goal p)) d ≡ true → Next d p q → lowest o (toward p (goal p)) ≤ lowest o (toward q (goal q))

-- two places of a plane are never farther apart than its corners
corners : (w h : ℕ) (p q : Place) → Inside w h p → Inside w h q → distance p q + 2 ≤ w + h
corners w h p q i j = omega arith

module _ {o : TurnOrder} {P : Plane} {trip : Trip} {destination : Place} (a : Aim o P trip destination) where
  -- what the guide permits is what the order allows of the directions towards the goal
  allowed : (p : Place) (side : Option Direction) (d : Direction) → Inside P.width P.height p → Permits P trip destination p side d → allows o (toward p (a.goal p)) d ≡ true
  allowed p side d i t = sym (has_permitted o (toward p (a.goal p)) d) ∙ sym (ap (has d) (a.replies p side i)) ∙ t

  -- a permitted step leads nearer to the goal it was made for
  nears : (p q : Place) (d : Direction) → allows o (toward p (a.goal p)) d ≡ true → Next d p q → Nearer p q (a.goal p)
  nears p q d t n = nearing d p q (a.goal p) (allowed_parts o (toward p (a.goal p)) d t).0 n

  -- and so to the goal of where it leads
  falls : (p q : Place) (d : Direction) → Inside P.width P.height p → Inside P.width P.height q → allows o (toward p (a.goal p)) d ≡ true → Next d p q → distance q (a.goal q) + 1 ≤ distance p (a.goal p)
  falls p q d i j t n = omega (arith, closer (nears p q d t n), a.near q p j i)

  -- so no permitted step leads back
  no_return : (p q : Place) (d e : Direction) → Inside P.width P.height p → Inside P.width P.height q
      → allows o (toward p (a.goal p)) d ≡ true → allows o (toward q (a.goal q)) e ≡ true → Next d p q → Next e q p → ⊥
  no_return p q d e i j t u n m = omega (arith, falls p q d i j t n, falls q p e j i u m)

  chain_inside : {p : Place} {side : Option Direction} {n : ℕ} → Chain P trip destination p side n → Inside P.width P.height p
  chain_inside (start i) = i
  chain_inside (move c short_of d t n i) = i

  -- moves made and moves left never add up to more than from corner to corner
  chain_left : {p : Place} {side : Option Direction} {n : ℕ} → Chain P trip destination p side n → n + distance p (a.goal p) + 2 ≤ P.width + P.height
  chain_left {p} (start i) = omega (arith, corners P.width P.height p (a.goal p) i (a.inside p i))
  chain_left (move {p} {q} {side} c short_of d t n j) =
      let i = chain_inside c in
      omega (arith, chain_left c, falls p q d i j (allowed p side d i t) n)

  -- the rules, of one trip
  aim_short : (p : Place) (side : Option Direction) (n : ℕ) → Chain P trip destination p side n → n ≤ longest P.width P.height
  aim_short p side n c = omega (arith, chain_left c)

  aim_goes : (p : Place) (side : Option Direction) (n : ℕ) → Chain P trip destination p side n → (Ended P trip destination p → ⊥) → (d : Direction) × Permits P trip destination p side d
  aim_goes p side n c short_of =
      let i = chain_inside c in
      let s = toward p (a.goal p) in
      let needs = some_needed p (a.goal p) (λ e. short_of (a.ends p i e)) in
      let found = some_allowed o s needs.0 needs.1 in
      (found.0, ap (has found.0) (a.replies p side i) ∙ has_permitted o s found.0 ∙ found.1)

  aim_stays : (p : Place) (side : Option Direction) (n : ℕ) → Chain P trip destination p side n → (d : Direction) → Permits P trip destination p side d → (q : Place) × Next d p q × Inside P.width P.height q
  aim_stays p side n c d t =
      let i = chain_inside c in
      stepped P.width P.height d p (a.goal p) i (a.inside p i) (allowed_parts o (toward p (a.goal p)) d (allowed p side d i t)).0

  aim_rises : (p q : Place) (side : Option Direction) (n : ℕ) → Chain P trip destination p side n → (d : Direction) → Permits P trip destination p side d → Next d p q → Inside P.width P.height q
      → (e : Direction) → Permits P trip destination q (Some (back d)) e → channel o P.width P.height p d < channel o P.width P.height q e
  aim_rises p q side n c d t step j e u =
      let i = chain_inside c in
      let t' = allowed p side d i t in
      let u' = allowed q (Some (back d)) e j u in
      let grows : set_of o d ≤ set_of o e = omega (arith, (allowed_parts o (toward p (a.goal p)) d t').1, (allowed_parts o (toward q (a.goal q)) e u').1, a.keeps p q d i j t' step) in
      channel_rises o P.width P.height p q d e i j step (λ m. no_return p q d e i j t' u' step m) grows

module _ (o : TurnOrder) (w h : ℕ) (es : List Place) (filling : List ℕ) where
  -- a plane filled for the pointing guide
  abbrev pub guided : Plane
  guided = record { width = w; height = h; elevators = es; filling = filling; reply = pointing_reply o }

  -- bound: the goal is the destination, from everywhere
  bound_aim : (destination : Place) → Inside w h destination → Aim o guided Bound destination
  bound_aim destination i = record {
    goal = λ _. destination;
    inside = λ _ _. i;
    ends = λ _ _ e. sym e;
    near = λ _ _ _ _. omega arith;
    replies = λ _ _ _. refl;
    keeps = λ p q d _ _ t n. lowest_grows o (toward p destination) (toward q destination) (shrinks (nearing d p q destination (allowed_parts o (toward p destination) d t).0 n));
  }

  -- seeking: the goal is the router's own target
  seeking_aim : (destination : Place) → ((e : Place) → Contains es e → Inside w h e) → Pointed o w h es filling → Aim o guided Seeking destination
  seeking_aim destination within f = record {
    goal = f.target;
    inside = λ p i. within (f.target p) (f.listed p i);
    ends = λ p i e. subst (Contains es) e (f.listed p i);
    near = λ p q i j. f.nearest p (f.target q) i (f.listed q j);
    replies = λ p _ i. ap (permitted o) (ap unpack (f.points p i) ∙ faithful.unpacked (toward p (f.target p)));
    keeps = f.keeps;
  }

  -- a lawful filling keeps the rules, with the channels numbered by the turn order alone
  pub pointing_rules : 0 < w → 0 < h → ((e : Place) → Contains es e → Inside w h e) → pointing_lawful o w h es filling → Rules guided
  pointing_rules _ _ within lawful = record {
    number = channel o w h;
    goes = λ trip to s p side n c short_of. aim_goes (aim trip to s) p side n c short_of;
    stays = λ trip to s p side n c _ d t. aim_stays (aim trip to s) p side n c d t;
    rises = λ trip to s p q side n c _ d t m j _ e u. aim_rises (aim trip to s) p q side n c d t m j e u;
    short = λ trip to s p side n c. aim_short (aim trip to s) p side n c;
  }
    where
      aim : (trip : Trip) (destination : Place) → Starts guided trip destination → Aim o guided trip destination
      aim Seeking to s = seeking_aim to within (lawful s.0)
      aim Bound to s = bound_aim to s
