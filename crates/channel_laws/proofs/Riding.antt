-- A packet on its way: the plane it rides in, and what the rules of that plane give for its next move.
use Rattle.std.proofs.Common.{◌≡◌, ℕ, ◌+◌, ◌-◌, ◌*◌, ◌<◌, ◌≤◌, Bool, true, false, cond, ◌&&◌, eqb, ltb, List, [], length, get_or, drop, None, Option, sym, refl, ap, ◌∙◌, subst, mul-le-mul_right, arith, Contains}
use Rattle.std.proofs.lemmas.Nat.{mul-le}
use Rattle.std.proofs.lemmas.List.{get_or-drop, get_or-map, get_or-take, length-drop, length-take-le}
use Rattle.std.proofs.lemmas.Bool.{and_from, and_parts, both_ways, cond-false, cond-true, eq-eqb, eqb-false, le-ltb, lt-leb, lt-ltb, ltb-false, ltb-true, ne_eqb, or_from, not_from_true}
use Rattle.mesh.specs.declared.compass.Direction.{Direction}
use Rattle.mesh.specs.declared.compass.Direction.TheVariants.{North, East, South, West}
use Rattle.mesh.specs.declared.compass.Directions.{Directions}
use Rattle.mesh.specs.declared.compass.Trip.{Trip}
use Rattle.mesh.specs.declared.compass.Trip.TheVariants.{Seeking, Bound}
use Rattle.mesh.specs.declared.compass.Way.{Way}
use Rattle.mesh.specs.declared.compass.Way.TheVariants.{Up, Down}
use Rattle.mesh.specs.declared.grid.Place.{Place}
use Rattle.mesh.specs.declared.grid.Router.{Router}
use Rattle.mesh.specs.declared.stack.Sizes.{Sizes}
use Rattle.mesh.specs.Compass.{gap}
use Rattle.mesh.specs.Halves.{half}
use Rattle.mesh.specs.Layout.{cell, Inside, place_of}
use Rattle.routing_laws.specs.Chains.{Chain, Ended, Next, Permits, Plane, Rules, Starts, Told, back, half_at, longest, move, plane_of, start, tell, told}
use Rattle.routing_laws.specs.Filling.{plane}
use Rattle.routing_laws.proofs.Listing.{all_listed, cell_below, joined_some}
use Rattle.routing_laws.proofs.Planes.{plane_order}
use Rattle.channel_laws.specs.declared.buffers.Buffer.{Buffer}
use Rattle.channel_laws.specs.declared.buffers.Buffer.TheVariants.{Local, Side, Below, Above}
use Rattle.channel_laws.specs.declared.buffers.Network.{Network}
use Rattle.channel_laws.specs.declared.buffers.Network.TheVariants.{Zero, One}
use Rattle.channel_laws.specs.declared.buffers.Port.{Port}
use Rattle.channel_laws.specs.declared.buffers.Port.TheVariants.{Planar, Vertical}
use Rattle.channel_laws.specs.declared.records.Record.{Record}
use Rattle.channel_laws.specs.Buffers.{entered, network}
use Rattle.channel_laws.specs.Table.{InStack, State, router_at}
use Rattle.channel_laws.specs.Ports.{beside, crossing_ports, gap_of, half_of, is_elevator, leads_out, neighbour, permitted_ports, planar_only, same_router, side_of, way_only, way_to}
use Rattle.channel_laws.specs.Calls.{carried, damaged, entered_by, fresh}
use Rattle.channel_laws.specs.Certificate.{Guided, bare_plane, filled_plane, most_moves}
use Rattle.channel_laws.proofs.Accepting.{in_stacked}

-- the way of a network
abbrev pub way_of : Network → Way
way_of Zero = Up
way_of One = Down

-- the network of a packet, and what it does in the plane of a router
abbrev pub riding : Record → Network
riding x = network x.source x.destination

abbrev pub trip_of : Router → Record → Trip
trip_of r x = cond (eqb r.z x.destination.z) Bound Seeking

-- whether a gap lies that way of a plane, where there are k planes
abbrev pub has_gap : ℕ → Way → ℕ → Bool
has_gap k Up z = ltb (z + 1) k
has_gap k Down z = ltb 0 z && ltb z k

-- the buffers in which packets of a network are
abbrev pub Suits : Buffer → Network → Type 0
Suits Local n = Unit {0}
Suits (Side m d) n = m ≡ n
Suits Below n = n ≡ Zero
Suits Above n = n ≡ One

-- between source and destination, but not yet in its plane: the way is the network's, and a gap lies that way
on_way : (a z d : ℕ) → gap a z + gap z d ≡ gap a d → (z ≡ d → ⊥) → way_to z d ≡ way_of (cond (ltb d a) One Zero)
on_way a z d b ne = pick (ltb d a) refl
  where
    pick : (t : Bool) → ltb d a ≡ t → cond (ltb z d) Up Down ≡ way_of (cond t One Zero)
    pick true e = cond-false _ Up Down (le-ltb z d (omega (arith, ltb-true d a e)))
    pick false e = cond-true _ Up Down (lt-ltb z d (omega (arith, ltb-false d a e)))

gap_ahead : (k a z d : ℕ) → a < k → z < k → d < k → gap a z + gap z d ≡ gap a d → (z ≡ d → ⊥) → has_gap k (way_of (cond (ltb d a) One Zero)) z ≡ true
gap_ahead k a z d l m n b ne = pick (ltb d a) refl
  where
    pick : (t : Bool) → ltb d a ≡ t → has_gap k (way_of (cond t One Zero)) z ≡ true
    pick true e = and_from _ _ (lt-ltb 0 z (omega (arith, ltb-true d a e))) (lt-ltb z k m)
    pick false e = lt-ltb (z + 1) k (omega (arith, ltb-false d a e))

-- the rules of a plane with or without a gap
either_rules : (w h : ℕ) (es : List Place) (f g : List ℕ) (reply : Told → Directions) (b : Bool) → (b ≡ true → Rules (plane_of w h es f reply)) → Rules (plane_of w h [] g reply)
    → Rules (plane_of w h (cond b es []) (cond b f g) reply)
either_rules w h es f g reply true here none = here refl
either_rules w h es f g reply false here none = none

-- where a step leads
pub beside_is : (d : Direction) (p q : Place) → Next d p q → q ≡ beside d p
beside_is North p q n = λ i. record { x = n.0 i; y = n.1 i }
beside_is East p q n = λ i. record { x = n.0 i; y = n.1 i }
beside_is South p q n = let e : q.y ≡ p.y - 1 = omega arith in λ i. record { x = n.0 i; y = e i }
beside_is West p q n = let e : q.x ≡ p.x - 1 = omega arith in λ i. record { x = e i; y = n.1 i }

-- and back
pub beside_back : (d : Direction) (p q : Place) → Next d p q → beside (back d) q ≡ p
beside_back North p q n = let e : q.y - 1 ≡ p.y = omega arith in λ i. record { x = n.0 i; y = e i }
beside_back East p q n = let e : q.x - 1 ≡ p.x = omega arith in λ i. record { x = e i; y = n.1 i }
beside_back South p q n = let e : q.y + 1 ≡ p.y = omega arith in λ i. record { x = n.0 i; y = e i }
beside_back West p q n = let e : q.x + 1 ≡ p.x = omega arith in λ i. record { x = e i; y = n.1 i }

pub back_back : (d : Direction) → back (back d) ≡ d
back_back North = refl
back_back East = refl
back_back South = refl
back_back West = refl

step_inside : (s : Sizes) (d : Direction) (r : Router) (q : Place) → Next d (place_of r) q → Inside s.width s.height q → leads_out s (Planar d) r ≡ false
step_inside s North r q n i = lt-leb _ _ (omega arith)
step_inside s East r q n i = lt-leb _ _ (omega arith)
step_inside s South r q n i = ne_eqb _ _ (λ e. omega arith)
step_inside s West r q n i = ne_eqb _ _ (λ e. omega arith)

module _ (reply : Told → Directions) (s : State) where
  -- the plane in which a packet rides that goes a way
  abbrev pub plane_for : Way → ℕ → Plane
  plane_for way z =
      plane_of s.sizes.width s.sizes.height
      (cond (has_gap s.sizes.planes way z) (filled_plane reply s way z (gap_of way z)).elevators [])
      (cond (has_gap s.sizes.planes way z) (filled_plane reply s way z (gap_of way z)).filling (bare_plane reply s).filling) reply

  pub rules_for : Guided reply s → (way : Way) (z : ℕ) → Rules (plane_for way z)
  rules_for g way z = either_rules _ _ _ _ _ reply (has_gap s.sizes.planes way z) (here way) g.none
    where
      here : (way : Way) → has_gap s.sizes.planes way z ≡ true → Rules (filled_plane reply s way z (gap_of way z))
      here Up t = g.up z (ltb-true _ _ t)
      here Down t =
          let both = and_parts (ltb 0 z) _ t in
          let low = ltb-true 0 z both.0 in
          let high = ltb-true z s.sizes.planes both.1 in
          let e : z - 1 + 1 ≡ z = omega arith in
          subst (λ n. Rules (filled_plane reply s Down n (z - 1))) e (g.down (z - 1) (omega arith))

  -- what holds of packet x in buffer b of router r
  pub record Sound (r : Router) (b : Buffer) (x : Record) : Type 0 where
    pub whole : x.mark ≡ 1
    pub from : InStack s.sizes x.source
    pub to : InStack s.sizes x.destination
    pub between : gap x.source.z r.z + gap r.z x.destination.z ≡ gap x.source.z x.destination.z
    pub suits : Suits b (riding x)
    pub steps : ℕ
    pub chain : Chain (plane_for (way_of (riding x)) r.z) (trip_of r x) (place_of x.destination) (place_of r) (side_of b) steps
    pub bound : x.moves ≤ gap x.source.z r.z * (longest s.sizes.width s.sizes.height + 1) + steps

-- the plane beyond a gap
abbrev beyond : Way → ℕ → ℕ
beyond Up z = z + 1
beyond Down z = z - 1

gap_in : (k : ℕ) (way : Way) (z : ℕ) → has_gap k way z ≡ true → gap_of way z + 1 < k
gap_in k Up z t = ltb-true _ _ t
gap_in k Down z t = let both = and_parts (ltb 0 z) _ t in omega (arith, ltb-true 0 z both.0, ltb-true z k both.1)

-- crossing a gap on the way
record Crosses (k a z d : ℕ) (way : Way) : Type 0 where
  in_planes : beyond way z < k
  one_more : gap a (beyond way z) ≡ gap a z + 1
  on_line : gap a (beyond way z) + gap (beyond way z) d ≡ gap a d
  some_way : (p : Place) (s : Sizes) → s.planes ≡ k → leads_out s (Vertical way) (router_at z p) ≡ false

crosses : (k a z d : ℕ) → a < k → z < k → d < k → gap a z + gap z d ≡ gap a d → (z ≡ d → ⊥) → Crosses k a z d (way_of (cond (ltb d a) One Zero))
crosses k a z d l m n b ne = pick (ltb d a) refl
  where
    pick : (t : Bool) → ltb d a ≡ t → Crosses k a z d (way_of (cond t One Zero))
    pick true e =
        let f = ltb-true d a e in
        record { in_planes = omega arith; one_more = omega arith; on_line = omega arith; some_way = λ _ _ _. ne_eqb z 0 (λ h. omega arith) }
    pick false e =
        let f = ltb-false d a e in
        record { in_planes = omega arith; one_more = omega arith; on_line = omega arith; some_way = λ p s is. lt-leb _ _ (omega arith) }

vertical_is : (way : Way) (r : Router) → neighbour (Vertical way) r ≡ router_at (beyond way r.z) (place_of r)
vertical_is Up r = refl
vertical_is Down r = refl

side_none : (way : Way) (n : Network) → side_of (entered (Vertical way) n) ≡ None
side_none Up n = refl
side_none Down n = refl

start_none : {P : Plane} {trip : Trip} {destination p : Place} {side : Option Direction} → side ≡ None → Inside P.width P.height p → Chain P trip destination p side 0
start_none {P} {trip} {destination} {p} e i = subst (λ v. Chain P trip destination p v 0) (sym e) (start i)

suits_vertical : (n : Network) → Suits (entered (Vertical (way_of n)) n) n
suits_vertical Zero = refl
suits_vertical One = refl

-- sums of chains and crossings
one_plane_more : (c c' l m n : ℕ) → c' ≡ c + 1 → m ≤ c * (l + 1) + n → n ≤ l → m + 1 ≤ c' * (l + 1) + 0
one_plane_more c c' l m n e b h = rw e (omega arith)

all_planes : (c d l m n : ℕ) → c ≤ d → m ≤ c * (l + 1) + n → n ≤ l → m ≤ (d + 1) * l + d
all_planes c d l m n h b k = omega (arith, mul-le-mul_right {m = c} {n = d} (l + 1) h)

few : (d l m : ℕ) → d ≤ 7 → l ≤ 46 → m ≤ (d + 1) * l + d → m ≤ 1000
few d l m h k b = omega (arith, mul-le (d + 1) l 8 46 (omega arith) k)

module _ (reply : Told → Directions) (s : State) (g : Guided reply s) (fits : s.sizes.planes * (s.sizes.width * s.sizes.height) ≤ length s.bytes) where
  -- the half-byte of a router, read in its plane
  half_read : (way : Way) (r : Router) → InStack s.sizes r → has_gap s.sizes.planes way r.z ≡ true
      → half_at s.sizes.width s.sizes.height (plane_for reply s way r.z).filling (place_of r) ≡ half_of s way r
  half_read way r i t =
      let w = s.sizes.width in
      let h = s.sizes.height in
      let n = cell w h 0 (place_of r) in
      let within : n < w * h = cell_below w h (omega arith) (omega arith) (place_of r) record { column = i.column; row = i.row } in
      let room = plane_order (w * h) r.z s.sizes.planes i.plane in
      let long : length (plane (w * h) r.z s.bytes) ≡ w * h = length-take-le (w * h) (drop (r.z * (w * h)) s.bytes) (simp length-drop (omega arith)) in
      let there : r.z * (w * h) + n ≡ cell w h r.z (place_of r) = omega arith in
      ap (λ f. half_at w h f (place_of r)) (cond-true _ _ _ t)
      ∙ get_or-map (half way) (plane (w * h) r.z s.bytes) n 0 0 (omega arith)
      ∙ ap (half way) (get_or-take (w * h) (drop (r.z * (w * h)) s.bytes) n 0 within ∙ get_or-drop (r.z * (w * h)) s.bytes n 0 ∙ ap (λ k. get_or s.bytes k 0) there)

  -- elevators by the map, and by the plane's list
  listed_is : (way : Way) (r : Router) → InStack s.sizes r → has_gap s.sizes.planes way r.z ≡ true → Contains (plane_for reply s way r.z).elevators (place_of r) → is_elevator s way r ≡ true
  listed_is way r i t e =
      let w = s.sizes.width in
      let h = s.sizes.height in
      eq-eqb _ _ ((all_listed w h (omega arith) (omega arith) s.links (gap_of way r.z)).sound (place_of r) (subst (λ es. Contains es (place_of r)) (cond-true _ _ _ t) e))

  ahead : (r : Router) (b : Buffer) (x : Record) → InStack s.sizes r → Sound reply s r b x → (r.z ≡ x.destination.z → ⊥) → has_gap s.sizes.planes (way_of (riding x)) r.z ≡ true
  ahead r b x i q ne = gap_ahead s.sizes.planes x.source.z r.z x.destination.z q.from.plane i.plane q.to.plane q.between ne

  -- its trip starts
  pub starts : (r : Router) (b : Buffer) (x : Record) → InStack s.sizes r → Sound reply s r b x → Starts (plane_for reply s (way_of (riding x)) r.z) (trip_of r x) (place_of x.destination)
  starts r b x i q = pick (eqb r.z x.destination.z) refl
    where
      way : Way
      way = way_of (riding x)

      pick : (t : Bool) → eqb r.z x.destination.z ≡ t → Starts (plane_for reply s (way_of (riding x)) r.z) (cond t Bound Seeking) (place_of x.destination)
      pick true e = record { column = q.to.column; row = q.to.row }
      pick false e =
          let t = ahead r b x i q (eqb-false _ _ e) in
          let some = joined_some s.sizes.width s.sizes.height (omega arith) (omega arith) s.links (gap_of (way_of (riding x)) r.z) (g.joined (gap_of (way_of (riding x)) r.z) (gap_in s.sizes.planes (way_of (riding x)) r.z t)) in
          (subst (λ es. 0 < length es) (sym (cond-true _ _ _ t)) some, record { column = q.to.column; row = q.to.row })

  few_steps : (r : Router) (b : Buffer) (x : Record) → InStack s.sizes r → (q : Sound reply s r b x) → q.steps ≤ longest s.sizes.width s.sizes.height
  few_steps r b x i q = (rules_for reply s g (way_of (riding x)) r.z).short (trip_of r x) (place_of x.destination) (starts r b x i q) (place_of r) (side_of b) q.steps q.chain

  pub few_moves : (r : Router) (b : Buffer) (x : Record) → InStack s.sizes r → Sound reply s r b x → x.moves ≤ most_moves s x
  few_moves r b x i q =
      all_planes (gap x.source.z r.z) (gap x.source.z x.destination.z) (longest s.sizes.width s.sizes.height) x.moves q.steps (omega (arith, q.between)) q.bound (few_steps r b x i q)

  pub undamaged : (r : Router) (b : Buffer) (x : Record) → InStack s.sizes r → Sound reply s r b x → damaged s.sizes x ≡ false
  undamaged r b x i q =
      let low : x.moves ≤ 1000 = few (gap x.source.z x.destination.z) (longest s.sizes.width s.sizes.height) x.moves (omega (arith, q.from.plane, q.to.plane)) (omega arith) (few_moves r b x i q) in
      or_from _ _ (le-ltb 1 x.mark (omega (arith, q.whole)))
      (or_from _ _ (not_from_true _ (and_from _ _ (in_stacked s.sizes x.source q.from) (in_stacked s.sizes x.destination q.to))) (le-ltb 1000 x.moves low))

  -- what a packet may do: nothing, at home; cross a gap, at an elevator; or what the guide replies, short of the end
  pub data Stage (r : Router) (b : Buffer) (x : Record) : Type 0 where
    home : same_router r x.destination ≡ true → Stage r b x
    across : same_router r x.destination ≡ false → (r.z ≡ x.destination.z → ⊥) → permitted_ports reply s r b x ≡ way_only (way_of (riding x)) → Stage r b x
    along : same_router r x.destination ≡ false
        → permitted_ports reply s r b x ≡ planar_only (reply (told (plane_for reply s (way_of (riding x)) r.z) (trip_of r x) (place_of x.destination) (place_of r) (side_of b)))
        → (Ended (plane_for reply s (way_of (riding x)) r.z) (trip_of r x) (place_of x.destination) (place_of r) → ⊥) → Stage r b x

  abbrev Along : Router → Buffer → Record → Trip → Type 0
  Along r b x t =
      (permitted_ports reply s r b x ≡ planar_only (reply (told (plane_for reply s (way_of (riding x)) r.z) t (place_of x.destination) (place_of r) (side_of b))))
      × (Ended (plane_for reply s (way_of (riding x)) r.z) t (place_of x.destination) (place_of r) → ⊥)

  pub stage : (r : Router) (b : Buffer) (x : Record) → InStack s.sizes r → Sound reply s r b x → Stage r b x
  stage r b x i q = pick (same_router r x.destination) refl
    where
      here : same_router r x.destination ≡ false → eqb r.z x.destination.z ≡ true → Along r b x Bound
      here e f = (
        cond-false _ _ _ e ∙ cond-true _ _ _ f,
        λ end. both_ways _ e (and_from _ _ (eq-eqb _ _ (ap (λ p. p.x) end)) (and_from _ _ (eq-eqb _ _ (ap (λ p. p.y) end)) f)),
      )

      crossing : same_router r x.destination ≡ false → eqb r.z x.destination.z ≡ false → permitted_ports reply s r b x ≡ crossing_ports reply s r b x (way_of (riding x))
      crossing e f =
          cond-false _ _ _ e ∙ cond-false _ _ _ f ∙ ap (crossing_ports reply s r b x) (on_way x.source.z r.z x.destination.z q.between (eqb-false _ _ f))

      seeks : same_router r x.destination ≡ false → eqb r.z x.destination.z ≡ false → is_elevator s (way_of (riding x)) r ≡ false → Along r b x Seeking
      seeks e f t =
          let gap_there = ahead r b x i q (eqb-false _ _ f) in (
            crossing e f ∙ cond-false _ _ _ t
                ∙ ap (λ n. planar_only (reply (tell s.sizes (place_of r) n (place_of x.destination) (side_of b) Seeking))) (sym (half_read (way_of (riding x)) r i gap_there)),
            λ end. both_ways _ t (listed_is (way_of (riding x)) r i gap_there end),
          )

      lift : same_router r x.destination ≡ false → eqb r.z x.destination.z ≡ false → (t : Bool) → is_elevator s (way_of (riding x)) r ≡ t → Stage r b x
      lift e f true t = across e (eqb-false _ _ f) (crossing e f ∙ cond-true _ _ _ t)
      lift e f false t = let a = subst (λ v. Along r b x (cond v Bound Seeking)) (sym f) (seeks e f t) in along e a.0 a.1

      level : same_router r x.destination ≡ false → (t : Bool) → eqb r.z x.destination.z ≡ t → Stage r b x
      level e true f = let a = subst (λ v. Along r b x (cond v Bound Seeking)) (sym f) (here e f) in along e a.0 a.1
      level e false f = lift e f (is_elevator s (way_of (riding x)) r) refl

      pick : (t : Bool) → same_router r x.destination ≡ t → Stage r b x
      pick true e = home e
      pick false e = level e (eqb r.z x.destination.z) refl

  -- where a permitted move leads: into the stack, and there all is sound again
  pub record Leads (r : Router) (x : Record) (p : Port) : Type 0 where
    pub in_stack' : InStack s.sizes (neighbour p r)
    pub not_out : leads_out s.sizes p r ≡ false
    pub sound' : Sound reply s (neighbour p r) (entered_by x p) (carried x)

  pub along_step : (r : Router) (b : Buffer) (x : Record) → InStack s.sizes r → Sound reply s r b x
      → (Ended (plane_for reply s (way_of (riding x)) r.z) (trip_of r x) (place_of x.destination) (place_of r) → ⊥)
      → (d : Direction) → Permits (plane_for reply s (way_of (riding x)) r.z) (trip_of r x) (place_of x.destination) (place_of r) (side_of b) d → Leads r x (Planar d)
  along_step r b x i q short_of d t =
      let rules = rules_for reply s g (way_of (riding x)) r.z in
      let found = rules.stays (trip_of r x) (place_of x.destination) (starts r b x i q) (place_of r) (side_of b) q.steps q.chain short_of d t in
      let is = beside_is d (place_of r) found.0 found.1 in
      let next = subst (Next d (place_of r)) is found.1 in
      let inside = subst (Inside s.sizes.width s.sizes.height) is found.2 in
      record {
        in_stack' = record { column = inside.column; row = inside.row; plane = i.plane };
        not_out = step_inside s.sizes d r found.0 found.1 found.2;
        sound' = record {
          whole = q.whole;
          from = q.from;
          to = q.to;
          between = q.between;
          suits = refl;
          steps = q.steps + 1;
          chain = move q.chain short_of d t next inside;
          bound = omega (arith, q.bound);
        };
      }

  pub across_step : (r : Router) (b : Buffer) (x : Record) → InStack s.sizes r → Sound reply s r b x → (r.z ≡ x.destination.z → ⊥) → Leads r x (Vertical (way_of (riding x)))
  across_step r b x i q ne =
      let n = riding x in
      let way = way_of (riding x) in
      let c = crosses s.sizes.planes x.source.z r.z x.destination.z q.from.plane i.plane q.to.plane q.between ne in
      let l = longest s.sizes.width s.sizes.height in
      let is = sym (vertical_is (way_of (riding x)) r) in
      let there : Sound reply s (router_at (beyond (way_of (riding x)) r.z) (place_of r)) (entered_by x (Vertical (way_of (riding x)))) (carried x) = record {
        whole = q.whole;
        from = q.from;
        to = q.to;
        between = c.on_line;
        suits = suits_vertical (riding x);
        steps = 0;
        chain = start_none (side_none (way_of (riding x)) (riding x)) record { column = i.column; row = i.row };
        bound = one_plane_more (gap x.source.z r.z) (gap x.source.z (beyond (way_of (riding x)) r.z)) (longest s.sizes.width s.sizes.height) x.moves q.steps c.one_more q.bound (few_steps r b x i q);
      } in
      record {
        in_stack' = subst (InStack s.sizes) is record { column = i.column; row = i.row; plane = c.in_planes };
        not_out = c.some_way (place_of r) s.sizes refl;
        sound' = subst (λ v. Sound reply s v (entered_by x (Vertical (way_of (riding x)))) (carried x)) is there;
      }

  -- a packet as it is injected
  pub fresh_sound : (source destination : Router) (tag : ℕ) → InStack s.sizes source → InStack s.sizes destination → Sound reply s source Local (fresh source destination tag)
  fresh_sound source destination tag i j = record {
    whole = refl;
    from = i;
    to = j;
    between = omega arith;
    suits = tt;
    steps = 0;
    chain = start record { column = i.column; row = i.row };
    bound = omega arith;
  }
