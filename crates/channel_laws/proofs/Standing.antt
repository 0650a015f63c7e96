-- No standstill: of the packets of one network, the one farthest along its way can always go on.
use Rattle.std.proofs.Common.{◌≡◌, ℕ, zero, suc, ◌+◌, ◌-◌, ◌*◌, ◌<◌, ◌≤◌, Bool, true, false, not, ◌&&◌, eqb, ◌⊎◌, List, [], ◌∷◌, ◌++◌, length, get_or, take, Some, None, Option, sym, refl, ap, ◌∙◌, subst, inl, inr, arith, length-append}
use Rattle.std.specs.List.{flat_map}
use Rattle.std.proofs.lemmas.List.{get_or-take, length-take-le}
use Rattle.std.proofs.lemmas.Bool.{and_from, and_parts, both_ways, cases_eq, cases_lt, cond-false, cond-true, eq-eqb, eqb-false, eqb-true, not_from_false, not-true, false≢true}
use Rattle.mesh.specs.declared.compass.Direction.{Direction}
use Rattle.mesh.specs.declared.compass.Directions.{Directions}
use Rattle.mesh.specs.declared.compass.Trip.{Trip}
use Rattle.mesh.specs.declared.compass.Way.{Way}
use Rattle.mesh.specs.declared.compass.Way.TheVariants.{Up, Down}
use Rattle.mesh.specs.declared.grid.Place.{Place}
use Rattle.mesh.specs.declared.grid.Router.{Router}
use Rattle.mesh.specs.declared.stack.Sizes.{Sizes}
use Rattle.routing_laws.specs.Chains.{Chain, Ended, Permits, Plane, Rules, Starts, Told, back, move, start}
use Rattle.channel_laws.specs.declared.buffers.Buffer.{Buffer}
use Rattle.channel_laws.specs.declared.buffers.Network.{Network}
use Rattle.channel_laws.specs.declared.buffers.Network.TheVariants.{Zero, One}
use Rattle.channel_laws.specs.declared.buffers.Port.{Port}
use Rattle.channel_laws.specs.declared.buffers.Port.TheVariants.{Planar, Vertical}
use Rattle.channel_laws.specs.declared.calls.Done.TheVariants.{Moved, Collected}
use Rattle.channel_laws.specs.declared.calls.Call.{Call}
use Rattle.channel_laws.specs.declared.calls.Call.TheVariants.{Move, Collect}
use Rattle.channel_laws.specs.declared.records.Record.{Record}
use Rattle.channel_laws.specs.Buffers.{buffer_number, buffer_of, entered, port_number, port_of}
use Rattle.mesh.specs.Layout.{place_of}
use Rattle.channel_laws.specs.Table.{InStack, State, empty, is_empty, kept, packets, record_number, table_size, with_table}
use Rattle.channel_laws.specs.Ports.{beside, has_port, leads_out, neighbour, permitted_ports, same_router, side_of, way_only}
use Rattle.channel_laws.specs.Calls.{entered_by, outcome, short, collect_refusal, move_refusal, taken, moved}
use Rattle.channel_laws.specs.Runs.{Event, accepted, works}
use Rattle.channel_laws.specs.Certificate.{Guided}
use Rattle.channel_laws.proofs.Index.{buffer_back, buffer_below, buffer_in, number_spot, numbered, port_back, port_below, router_of}
use Rattle.channel_laws.proofs.Accepting.{collects, moves_on, none_accepted}
use Rattle.channel_laws.proofs.Writing.{at}
use Rattle.channel_laws.proofs.Riding.{Sound, Stage, Suits, across, across_step, along, along_step, back_back, beside_back, beside_is, home, riding, rules_for, stage, starts, trip_of, undamaged, way_of}
use Rattle.channel_laws.proofs.Keeping.{Good}

-- the greatest by f of those with p, among the numbers below n
record Greatest (n : ℕ) (p : ℕ → Bool) (f : ℕ → ℕ) : Type 0 where
  which : ℕ
  below : which < n
  has_it : p which ≡ true
  most : (j : ℕ) → j < n → p j ≡ true → f j ≤ f which

scan : (n : ℕ) (p : ℕ → Bool) (f : ℕ → ℕ) → ((j : ℕ) → j < n → p j ≡ true → ⊥) ⊎ Greatest n p f
scan zero p f = inl (λ j l _. omega arith)
scan (suc n) p f = pick (scan n p f) (p n) refl
  where
    -- below n + 1: below n, or n itself
    each : (Q : ℕ → Type 0) → ((j : ℕ) → j < n → Q j) → Q n → (j : ℕ) → j < suc n → Q j
    each Q low here j l = either (cases_eq j n)
      where
        either : (j ≡ n) ⊎ (j ≡ n → ⊥) → Q j
        either (inl e) = subst Q (sym e) here
        either (inr ne) = low j (omega arith)

    choose : (m : Greatest n p f) → p n ≡ true → (f n ≤ f m.which) ⊎ (f m.which < f n) → Greatest (suc n) p f
    choose m e (inl l) = record { which = m.which; below = omega (arith, m.below); has_it = m.has_it; most = each (λ j. p j ≡ true → f j ≤ f m.which) m.most (λ _. l) }
    choose m e (inr l) = record { which = n; below = omega arith; has_it = e; most = each (λ j. p j ≡ true → f j ≤ f n) (λ j k t. omega (arith, m.most j k t)) (λ _. omega arith) }

    order : (a b : ℕ) → (a ≤ b) ⊎ (b < a)
    order a b = turn (cases_lt b a)
      where
        turn : (b < a) ⊎ (a ≤ b) → (a ≤ b) ⊎ (b < a)
        turn (inl l) = inr l
        turn (inr l) = inl l

    pick : ((j : ℕ) → j < n → p j ≡ true → ⊥) ⊎ Greatest n p f → (b : Bool) → p n ≡ b → ((j : ℕ) → j < suc n → p j ≡ true → ⊥) ⊎ Greatest (suc n) p f
    pick (inl none) true e = inr record { which = n; below = omega arith; has_it = e; most = each (λ j. p j ≡ true → f j ≤ f n) (λ j k t. absurd (none j k t)) (λ _. omega arith) }
    pick (inl none) false e = inl (each (λ j. p j ≡ true → ⊥) none (λ t. both_ways _ e t))
    pick (inr m) true e = inr (choose m e (order (f n) (f m.which)))
    pick (inr m) false e = inr record { which = m.which; below = omega (arith, m.below); has_it = m.has_it; most = each (λ j. p j ≡ true → f j ≤ f m.which) m.most (λ t. absurd (both_ways _ e t)) }

greatest : (n : ℕ) (p : ℕ → Bool) (f : ℕ → ℕ) (i : ℕ) → i < n → p i ≡ true → Greatest n p f
greatest n p f i l e = pick (scan n p f)
  where
    pick : ((j : ℕ) → j < n → p j ≡ true → ⊥) ⊎ Greatest n p f → Greatest n p f
    pick (inl none) = absurd (none i l e)
    pick (inr m) = m

-- a table that holds a packet has a record that is not empty, and the other way round
some_full : (xs : List Record) → 0 < length (flat_map kept xs) → (i : ℕ) × (i < length xs) × (is_empty (get_or xs i empty) ≡ false)
some_full [] l = absurd (omega arith)
some_full (x ∷ xs) l = pick (some_full xs) (is_empty x) refl
  where
    pick : (0 < length (flat_map kept xs) → (i : ℕ) × (i < length xs) × (is_empty (get_or xs i empty) ≡ false)) → (b : Bool) → is_empty x ≡ b → (i : ℕ) × (i < length (x ∷ xs)) × (is_empty (get_or (x ∷ xs) i empty) ≡ false)
    pick later false e = (0, omega arith, e)
    pick later true e =
        let same : flat_map kept (x ∷ xs) ≡ flat_map kept xs = ap (λ ys. ys ++ flat_map kept xs) (cond-true (is_empty x) [] (x ∷ []) e) in
        let rest = later (subst (λ ys. 0 < length ys) same l) in
        (suc rest.0, omega (arith, rest.1), rest.2)

full_some : (xs : List Record) (i : ℕ) → i < length xs → is_empty (get_or xs i empty) ≡ false → 0 < length (flat_map kept xs)
full_some [] i l e = absurd (omega arith)
full_some (x ∷ xs) zero l e =
    let one : length (kept x) ≡ 1 = ap length (cond-false (is_empty x) [] (x ∷ []) e) in
    omega (arith, length-append (kept x) (flat_map kept xs))
full_some (x ∷ xs) (suc i) l e = omega (arith, length-append (kept x) (flat_map kept xs), full_some xs i (omega arith) e)

-- networks compared
same_network : Network → Network → Bool
same_network Zero Zero = true
same_network Zero One = false
same_network One Zero = false
same_network One One = true

network_same : (n m : Network) → same_network n m ≡ true → m ≡ n
unfolding same_network
network_same Zero Zero e = refl
network_same Zero One e = absurd (false≢true e)
network_same One Zero e = absurd (false≢true e)
network_same One One e = refl

same_self : (n m : Network) → m ≡ n → same_network n m ≡ true
unfolding same_network
same_self Zero Zero e = refl
same_self Zero One e = let z : ◌≡◌ {A = ℕ} 0 1 = cc in absurd (omega arith)
same_self One Zero e = let z : ◌≡◌ {A = ℕ} 0 1 = cc in absurd (omega arith)
same_self One One e = refl

-- how far along its network's way a plane lies, where there are k planes
depth : ℕ → Network → ℕ → ℕ
depth k Zero z = z
depth k One z = k - z

deeper : (s : Sizes) (n : Network) (r : Router) → r.z < s.planes → leads_out s (Vertical (way_of n)) r ≡ false → depth s.planes n r.z < depth s.planes n (neighbour (Vertical (way_of n)) r).z
unfolding depth
deeper s Zero r l e = omega arith
deeper s One r l e = let ne = eqb-false r.z 0 e in omega arith

-- only packets of the network are where a vertical move enters
vertical_network : (n m : Network) → Suits (entered (Vertical (way_of n)) n) m → m ≡ n
vertical_network Zero m e = e
vertical_network One m e = e

-- the number of the channel through which a packet came in, 0 for none
came : (Place → Direction → ℕ) → Option Direction → Place → ℕ
came number None p = 0
came number (Some d) p = 1 + number (beside d p) (back d)

came_next : (number : Place → Direction → ℕ) (d : Direction) (p q : Place) → beside (back d) q ≡ p → came number (Some (back d)) q ≡ 1 + number p d
unfolding came
came_next number d p q e = λ i. 1 + number (e i) (back_back d i)

-- the channel that a packet takes next has a greater number
came_rises : {P : Plane} {trip : Trip} {destination p : Place} {side : Option Direction} {n : ℕ} (rules : Rules P) → Starts P trip destination → Chain P trip destination p side n
    → (Ended P trip destination p → ⊥) → (d : Direction) → Permits P trip destination p side d → came rules.number side p < 1 + rules.number p d
unfolding came
came_rises rules s (start i) short_of d t = omega arith
came_rises rules s (move {p} {q} {side} {n} c before e u next inside) short_of d t =
    let rise = rules.rises _ _ s p q side n c before e u next inside short_of d t in
    let is = came_next rules.number e p q (beside_back e p q next) in
    omega arith

module _ (reply : Told → Directions) (s : State) (g : Guided reply s) (fits : s.sizes.planes * (s.sizes.width * s.sizes.height) ≤ length s.bytes) where
  -- the rank of a buffer among those of its plane
  rank : Network → Router → Buffer → ℕ
  rank n r b = came (rules_for reply s g (way_of n) r.z).number (side_of b) (place_of r)

  module _ (t : List Record) where
    -- a packet of this network
    record Rides (n : Network) (r : Router) (b : Buffer) : Type 0 where
      here : InStack s.sizes r
      full : is_empty (at s.sizes t r b) ≡ false
      on_network : riding (at s.sizes t r b) ≡ n

    -- and the one farthest along
    record Farthest (n : Network) (r : Router) (b : Buffer) : Type 0 where
      rides : Rides n r b
      planes : (q : Router) (c : Buffer) → Rides n q c → depth s.sizes.planes n q.z ≤ depth s.sizes.planes n r.z
      channels : (q : Router) (c : Buffer) → Rides n q c → depth s.sizes.planes n q.z ≡ depth s.sizes.planes n r.z → rank n q c ≤ rank n r b

    -- by record numbers
    abbrev rider : Network → ℕ → Bool
    rider n i = not (is_empty (get_or t i empty)) && same_network n (riding (get_or t i empty))

    rides_at : (n : Network) (i : ℕ) → i < table_size s.sizes → rider n i ≡ true → Rides n (router_of s.sizes i) (buffer_in s.sizes i)
    rides_at n i l e =
        let spot = number_spot s.sizes i l in
        let both = and_parts (not (is_empty (get_or t i empty))) _ e in
        let is : at s.sizes t (router_of s.sizes i) (buffer_in s.sizes i) ≡ get_or t i empty = ap (λ k. get_or t k empty) spot.1 in
        record { here = spot.0; full = ap is_empty is ∙ not-true _ both.0; on_network = ap riding is ∙ network_same n (riding (get_or t i empty)) both.1 }

    -- what holds of all record numbers holds of all buffers
    rides_by : (n : Network) (Q : Router → Buffer → Type 0) → ((i : ℕ) → i < table_size s.sizes → rider n i ≡ true → Q (router_of s.sizes i) (buffer_in s.sizes i))
        → (r : Router) (b : Buffer) → Rides n r b → Q r b
    rides_by n Q all r b q =
        let i = record_number s.sizes r b in
        let l = (numbered s.sizes).below r b q.here in
        let spot = number_spot s.sizes i l in
        let same = (numbered s.sizes).apart (router_of s.sizes i) r (buffer_in s.sizes i) b spot.0 q.here spot.1 in
        let yes : rider n i ≡ true = and_from _ _ (not_from_false _ q.full) (same_self n (riding (get_or t i empty)) q.on_network) in
        subst (λ v. Q v b) same.0 (subst (Q (router_of s.sizes i)) same.1 (all i l yes))

    farthest : (n : Network) (i : ℕ) → i < table_size s.sizes → rider n i ≡ true → (r : Router) × (b : Buffer) × Farthest n r b
    farthest n i l e =
        let size = table_size s.sizes in
        let level : ℕ → ℕ = λ j. depth s.sizes.planes n (router_of s.sizes j).z in
        let first = greatest (table_size s.sizes) (rider n) level i l e in
        let test : ℕ → Bool = λ j. rider n j && eqb (level j) (level first.which) in
        let channel : ℕ → ℕ = λ j. rank n (router_of s.sizes j) (buffer_in s.sizes j) in
        let second = greatest (table_size s.sizes) test channel first.which first.below (and_from _ _ first.has_it (eq-eqb _ _ refl)) in
        let m = second.which in
        let both = and_parts (rider n m) _ second.has_it in
        let flat : level m ≡ level first.which = eqb-true _ _ both.1 in (
          router_of s.sizes m,
          buffer_in s.sizes m,
          record {
            rides = rides_at n m second.below both.0;
            planes = rides_by n (λ q c. depth s.sizes.planes n q.z ≤ level m) (λ j k yes. rw flat (first.most j k yes));
            channels = rides_by n (λ q c. depth s.sizes.planes n q.z ≡ level m → rank n q c ≤ channel m) (λ j k yes same. second.most j k (and_from _ _ yes (eq-eqb _ _ (same ∙ flat))));
          },
        )

    -- the one farthest along goes on
    module _ (es : List Event) (good : Good reply s g fits t es) (enough : short (with_table s t) ≡ false) where
      -- some call that is accepted
      abbrev GoesOn : Type 0
      GoesOn = (c : Call) × (works c ≡ true) × (accepted (outcome reply (with_table s t) c).answer ≡ true)

      sound_at : (n : Network) (r : Router) (b : Buffer) → Rides n r b → Sound reply s r b (at s.sizes t r b)
      sound_at n r b q = good.sound r b q.here q.full

      collects_it : (n : Network) (r : Router) (k : ℕ) → k < 11 → Rides n r (buffer_of k) → same_router r (at s.sizes t r (buffer_of k)).destination ≡ true → GoesOn
      collects_it n r k l q e = (
        Collect r k,
        refl,
        none_accepted (collect_refusal (with_table s t) r k) (Collected (at s.sizes t r (buffer_of k))) (taken (with_table s t) r (buffer_of k)) (with_table s t) (collects (with_table s t) r k record {
          long = enough;
          at = q.here;
          buffer = l;
          full = q.full;
          whole = undamaged reply s g fits r (buffer_of k) (at s.sizes t r (buffer_of k)) q.here (sound_at n r (buffer_of k) q);
          home = e;
        }),
      )

      -- by a permitted port, where the buffer that it enters cannot be full
      moves_it : (n : Network) (r : Router) (k : ℕ) → k < 11 → Rides n r (buffer_of k) → same_router r (at s.sizes t r (buffer_of k)).destination ≡ false
          → (p : Port) → has_port p (permitted_ports reply s r (buffer_of k) (at s.sizes t r (buffer_of k))) ≡ true → leads_out s.sizes p r ≡ false
          → (is_empty (at s.sizes t (neighbour p r) (entered_by (at s.sizes t r (buffer_of k)) p)) ≡ false → ⊥) → GoesOn
      moves_it n r k l q away p allowed inside free =
          let x = at s.sizes t r (buffer_of k) in
          let m = port_number p in
          let back_p = sym (port_back p) in (
            Move r k (port_number p),
            refl,
            none_accepted (move_refusal reply (with_table s t) r k (port_number p)) Moved (moved (with_table s t) r (buffer_of k) (port_of (port_number p))) (with_table s t) (moves_on reply (with_table s t) r k (port_number p) record {
              long = enough;
              at = q.here;
              buffer = l;
              port = port_below p;
              full = q.full;
              whole = undamaged reply s g fits r (buffer_of k) (at s.sizes t r (buffer_of k)) q.here (sound_at n r (buffer_of k) q);
              away = away;
              permitted = subst (λ v. has_port v (permitted_ports reply s r (buffer_of k) (at s.sizes t r (buffer_of k))) ≡ true) back_p allowed;
              inside = subst (λ v. leads_out s.sizes v r ≡ false) back_p inside;
              free = subst (λ v. is_empty (at s.sizes t (neighbour v r) (entered_by (at s.sizes t r (buffer_of k)) v)) ≡ true) back_p (must _ free);
            }),
          )
        where
          must : (b : Bool) → (b ≡ false → ⊥) → b ≡ true
          must true wrong = refl
          must false wrong = absurd (wrong refl)

      vertical_has : (way : Way) → has_port (Vertical way) (way_only way) ≡ true
      vertical_has Up = refl
      vertical_has Down = refl

      -- at its destination, at an elevator, and elsewhere
      on_it_goes : (r : Router) (k : ℕ) → k < 11 → Farthest (riding (at s.sizes t r (buffer_of k))) r (buffer_of k) → Stage reply s g fits r (buffer_of k) (at s.sizes t r (buffer_of k)) → GoesOn
      unfolding rank came
      on_it_goes r k l q (home e) = collects_it (riding (at s.sizes t r (buffer_of k))) r k l q.rides e
      on_it_goes r k l q (across e ne is) =
          let x = at s.sizes t r (buffer_of k) in
          let n = riding (at s.sizes t r (buffer_of k)) in
          let on = across_step reply s g fits r (buffer_of k) x q.rides.here (sound_at n r (buffer_of k) q.rides) ne in
          let there = neighbour (Vertical (way_of (riding (at s.sizes t r (buffer_of k))))) r in
          let into = entered (Vertical (way_of (riding (at s.sizes t r (buffer_of k))))) (riding (at s.sizes t r (buffer_of k))) in
          moves_it n r k l q.rides e (Vertical (way_of n)) (ap (has_port (Vertical (way_of n))) is ∙ vertical_has (way_of n)) on.not_out
          (λ full.
          let other = good.sound there into on.in_stack' full in
          let rides : Rides n there into = record { here = on.in_stack'; full = full; on_network = vertical_network n (riding (at s.sizes t there into)) other.suits } in
          let low = q.planes there into rides in
          let high = deeper s.sizes n r q.rides.here.plane on.not_out in
          omega arith)
      on_it_goes r k l q (along e is short_of) =
          let x = at s.sizes t r (buffer_of k) in
          let n = riding (at s.sizes t r (buffer_of k)) in
          let sound = sound_at n r (buffer_of k) q.rides in
          let rules = rules_for reply s g (way_of n) r.z in
          let begins = starts reply s g fits r (buffer_of k) x q.rides.here sound in
          let found = rules.goes (trip_of r x) (place_of x.destination) begins (place_of r) (side_of (buffer_of k)) sound.steps sound.chain short_of in
          let d = found.0 in
          let on = along_step reply s g fits r (buffer_of k) x q.rides.here sound short_of d found.1 in
          let step = rules.stays (trip_of r x) (place_of x.destination) begins (place_of r) (side_of (buffer_of k)) sound.steps sound.chain short_of d found.1 in
          let returns : beside (back d) (beside d (place_of r)) ≡ place_of r = subst (λ v. beside (back d) v ≡ place_of r) (beside_is d (place_of r) step.0 step.1) (beside_back d (place_of r) step.0 step.1) in
          let there = neighbour (Planar d) r in
          let into = entered (Planar d) n in
          moves_it n r k l q.rides e (Planar d) (ap (has_port (Planar d)) is ∙ found.1) on.not_out
          (λ full.
          let other = good.sound there into on.in_stack' full in
          let rides : Rides n there into = record { here = on.in_stack'; full = full; on_network = sym other.suits } in
          let low = q.channels there into rides refl in
          let rise = came_rises rules begins sound.chain short_of d found.1 in
          let next = came_next rules.number d (place_of r) (beside d (place_of r)) returns in
          rank_clash n r (buffer_of k) there into (rules.number (place_of r) d) low next rise)
        where
          rank_clash : (n : Network) (r : Router) (b : Buffer) (r' : Router) (b' : Buffer) (c : ℕ) → rank n r' b' ≤ rank n r b → rank n r' b' ≡ 1 + c → rank n r b < 1 + c → ⊥
          rank_clash n r b r' b' c low next rise = omega arith

      from_number : (r : Router) (k : ℕ) → k < 11 → Farthest (riding (at s.sizes t r (buffer_of k))) r (buffer_of k) → GoesOn
      from_number r k l q =
          on_it_goes r k l q (stage reply s g fits r (buffer_of k) (at s.sizes t r (buffer_of k)) q.rides.here (sound_at (riding (at s.sizes t r (buffer_of k))) r (buffer_of k) q.rides))

      from_farthest : (n : Network) (r : Router) (b : Buffer) → Farthest n r b → GoesOn
      from_farthest n r b q =
          let own : Farthest (riding (at s.sizes t r b)) r b = subst (λ v. Farthest v r b) (sym q.rides.on_network) q in
          from_number r (buffer_number b) (buffer_below b) (subst (λ v. Farthest (riding (at s.sizes t r v)) r v) (sym (buffer_back b)) own)

      -- a table that holds a packet is never stuck
      pub never_stuck : 0 < length (packets (with_table s t)) → GoesOn
      never_stuck some =
          let size = table_size s.sizes in
          let found = some_full (take (table_size s.sizes) t) some in
          let i = found.0 in
          let l : found.0 < table_size s.sizes = omega (arith, found.1, length-take-le (table_size s.sizes) t good.long) in
          let full : is_empty (get_or t found.0 empty) ≡ false = sym (ap is_empty (get_or-take (table_size s.sizes) t found.0 empty l)) ∙ found.2 in
          let n = riding (get_or t found.0 empty) in
          let top = farthest n found.0 l (and_from _ _ (not_from_false _ full) (same_self n n refl)) in
          from_farthest n top.0 top.1 top.2

      -- and one that a call takes from holds a packet
      pub holds_one : (r : Router) (b : Buffer) → InStack s.sizes r → is_empty (at s.sizes t r b) ≡ false → 0 < length (packets (with_table s t))
      holds_one r b i full =
          let n = record_number s.sizes r b in
          let l = (numbered s.sizes).below r b i in
          full_some (take (table_size s.sizes) t) n (omega (arith, length-take-le (table_size s.sizes) t good.long)) (ap is_empty (get_or-take (table_size s.sizes) t n empty l) ∙ full)
