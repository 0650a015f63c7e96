-- The certificate holds after every list of calls.
use Rattle.std.proofs.Common.{◌≡◌, ℕ, zero, suc, ◌-◌, ◌*◌, ◌<◌, ◌≤◌, Bool, true, false, ◌||◌, ltb, ◌⊎◌, List, [], ◌∷◌, length, Some, None, Option, sym, refl, ap, ◌∙◌, subst, inl, inr, append-nil, arith, Ok, Contains}
use Rattle.std.proofs.lemmas.Bool.{cond-false, cond-true, false≢true, le-ltb, ltb-false, or_from, or_parts}
use Rattle.mesh.specs.declared.compass.Directions.{Directions}
use Rattle.mesh.specs.declared.grid.Router.{Router}
use Rattle.mesh.specs.declared.refusals.Refusal.{Refusal}
use Rattle.routing_laws.specs.Chains.{Told}
use Rattle.mesh.specs.declared.compass.Way.{Way}
use Rattle.routing_laws.specs.Elevators.{linked}
use Rattle.channel_laws.proofs.Crossing.{at_elevator}
use Rattle.channel_laws.specs.Ports.{gap_of, has_port, permitted_ports}
use Rattle.channel_laws.specs.declared.buffers.Port.TheVariants.{Vertical}
use Rattle.channel_laws.specs.declared.buffers.Buffer.{Buffer}
use Rattle.channel_laws.specs.declared.calls.Done.TheVariants.{Collected, Moved}
use Rattle.channel_laws.specs.declared.calls.Call.{Call}
use Rattle.channel_laws.specs.declared.calls.Call.TheVariants.{Inject, Move, Collect}
use Rattle.channel_laws.specs.declared.records.Record.{Record}
use Rattle.channel_laws.specs.Buffers.{buffer_of, port_of}
use Rattle.mesh.specs.Layout.{place_of}
use Rattle.channel_laws.specs.Table.{InStack, State, is_empty, kept, packets, table_size, with_table}
use Rattle.channel_laws.specs.Calls.{cleared, collect_refusal, decided, move_refusal, moved, outcome, short, short_table, taken}
use Rattle.channel_laws.specs.Runs.{Event, Handed, accepted, event, events, last, sooner, state_after, works}
use Rattle.channel_laws.specs.Certificate.{Certificate, Certified, Followed, Guided, most_moves}
use Rattle.channel_laws.proofs.Accepting.{CanCollect, accepted_none, can_collect, can_move, router_same}
use Rattle.channel_laws.proofs.Writing.{at}
use Rattle.channel_laws.proofs.Riding.{few_moves}
use Rattle.channel_laws.proofs.Keeping.{Good}
use Rattle.channel_laws.proofs.Lasting.{dry, good_start, run}
use Rattle.channel_laws.proofs.Standing.{holds_one, never_stuck}
use Rattle.channel_laws.proofs.Following.{Placed, one_place, placed_run}

-- a packet that a record keeps is the record, and it is not empty
only_one : (y x : Record) → Contains (y ∷ []) x → y ≡ x
only_one y x (zero, l, is) = is
only_one y x (suc k, l, is) = absurd (omega arith)

kept_only : (y x : Record) → Contains (kept y) x → (is_empty y ≡ false) × (y ≡ x)
kept_only y x h = pick (is_empty y) refl
  where
    pick : (b : Bool) → is_empty y ≡ b → (is_empty y ≡ false) × (y ≡ x)
    pick true e = let none = subst (λ xs. Contains xs x) (cond-true (is_empty y) [] (y ∷ []) e) h in absurd (omega (arith, none.1))
    pick false e = (e, only_one y x (subst (λ xs. Contains xs x) (cond-false (is_empty y) [] (y ∷ []) e) h))

keeps_it : (y : Record) → is_empty y ≡ false → Contains (kept y) y
keeps_it y e = subst (λ xs. Contains xs y) (sym (cond-false (is_empty y) [] (y ∷ []) e)) (0, omega arith, refl)

-- what a collect hands out
handed : (o : Option Refusal) (y x : Record) (new old : State) → (decided o (Collected y) new old).answer ≡ Ok (Collected x) → (o ≡ None) × (y ≡ x)
handed None y x new old e = (refl, cc)
handed (Some z) y x new old e = let clash : ◌≡◌ {A = ℕ} 0 1 = cc in absurd (omega arith)

-- the latest of the events handed it out, or one before
handed_cases : {e : Event} {es before : List Event} {r : Router} {n : ℕ} {x : Record} → Handed (e ∷ es) r n x before → ((e ≡ event (Collect r n) (Ok (Collected x))) × (es ≡ before)) ⊎ Handed es r n x before
handed_cases last = inl (refl, refl)
handed_cases (sooner h) = inr h

some_events : {es before : List Event} {r : Router} {n : ℕ} {x : Record} → Handed es r n x before → 0 < length es
some_events last = omega arith
some_events (sooner h) = omega arith

-- a record that was handed out: it was followed there, has few moves, and was at home
abbrev Gone : State → List Event → Router → ℕ → Record → Type 0
Gone s before r n x = (Followed before r (buffer_of n) x × (x.moves ≤ most_moves s x)) × (r ≡ x.destination)

module _ (reply : Told → Directions) (s : State) (g : Guided reply s) (fits : s.sizes.planes * (s.sizes.width * s.sizes.height) ≤ length s.bytes) (t : List Record) (past : List Event)
    (good : Good reply s g fits t past) (enough : short (with_table s t) ≡ false) (placed : Placed reply s g fits t past) where
  followed : (r : Router) (b : Buffer) (x : Record) → InStack s.sizes r → is_empty (at s.sizes t r b) ≡ false → at s.sizes t r b ≡ x → Followed past r b x × (x.moves ≤ most_moves s x)
  followed r b x i full is =
      subst (λ y. Followed past r b y × (y.moves ≤ most_moves s y)) is (good.traced r b i full, few_moves reply s g fits r b (at s.sizes t r b) i (good.sound r b i full))

  working : (c : Call) → works c ≡ true → accepted (outcome reply (with_table s t) c).answer ≡ true → 0 < length (packets (with_table s t))
  working (Inject source destination tag) w a = absurd (false≢true w)
  working (Move r n m) w a =
      let c = can_move reply (with_table s t) r n m (accepted_none (move_refusal reply (with_table s t) r n m) Moved (moved (with_table s t) r (buffer_of n) (port_of m)) (with_table s t) a) in
      holds_one reply s g fits t past good enough r (buffer_of n) c.at c.full
  working (Collect r n) w a =
      let c = can_collect (with_table s t) r n (accepted_none (collect_refusal (with_table s t) r n) (Collected (at s.sizes t r (buffer_of n))) (taken (with_table s t) r (buffer_of n)) (with_table s t) a) in
      holds_one reply s g fits t past good enough r (buffer_of n) c.at c.full

  hands : (r : Router) (n : ℕ) (x : Record) → (outcome reply (with_table s t) (Collect r n)).answer ≡ Ok (Collected x) → CanCollect (with_table s t) r n × (at s.sizes t r (buffer_of n) ≡ x)
  hands r n x e =
      let both = handed (collect_refusal (with_table s t) r n) (at s.sizes t r (buffer_of n)) x (taken (with_table s t) r (buffer_of n)) (with_table s t) e in
      (can_collect (with_table s t) r n both.0, both.1)

  -- what a collect would hand out now
  next_handed : (r : Router) (n : ℕ) (x : Record) → (outcome reply (with_table s t) (Collect r n)).answer ≡ Ok (Collected x) → Gone s past r n x
  next_handed r n x e =
      let c = hands r n x e in
      (followed r (buffer_of n) x c.0.at c.0.full c.1, router_same r (at s.sizes t r (buffer_of n)).destination c.0.home ∙ ap (λ y. y.destination) c.1)

  crossed : (r : Router) (n m : ℕ) (way : Way) → port_of m ≡ Vertical way → accepted (outcome reply (with_table s t) (Move r n m)).answer ≡ true
      → linked s.sizes.width s.sizes.height s.links (gap_of way r.z) (place_of r) ≡ true
  crossed r n m way is a =
      let c = can_move reply (with_table s t) r n m (accepted_none (move_refusal reply (with_table s t) r n m) Moved (moved (with_table s t) r (buffer_of n) (port_of m)) (with_table s t) a) in
      let x = at s.sizes t r (buffer_of n) in
      at_elevator reply (with_table s t) r (buffer_of n) x way (subst (λ p. has_port p (permitted_ports reply (with_table s t) r (buffer_of n) x) ≡ true) is c.permitted)

  certificate : ((r : Router) (n : ℕ) (x : Record) (before : List Event) → Handed past r n x before → Gone s before r n x) → Certificate reply (with_table s t) past
  certificate gone = record {
    goes_on = never_stuck reply s g fits t past good enough;
    only_then = working;
    held_moves = λ r b x i h. let both = kept_only (at s.sizes t r b) x h in followed r b x i both.0 both.1;
    handed_moves = λ r n x before h. (gone r n x before h).0;
    followed_held = λ k p r b n z. let h = placed k p r b n z in (at s.sizes t r b, h.0, keeps_it (at s.sizes t r b) h.1, h.2, h.3);
    followed_once = λ k p q r r' b b' n n' y z. one_place y z;
    runs_dry = dry reply s g fits t past good;
    crosses = crossed;
    kept_count = good.counted;
    at_home = λ r n x before h. (gone r n x before h).1;
  }

module _ (reply : Told → Directions) (s : State) (g : Guided reply s) (enough : short s ≡ false) where
  abbrev links_short : Bool
  links_short = ltb (length s.links) ((s.sizes.planes - 1) * (s.sizes.width * s.sizes.height))

  abbrev bytes_short : Bool
  bytes_short = ltb (length s.bytes) (s.sizes.planes * (s.sizes.width * s.sizes.height))

  long_enough : (links_short ≡ false) × ((bytes_short ≡ false) × (short_table s ≡ false))
  long_enough =
      let first = or_parts links_short (bytes_short || short_table s) enough in
      (first.0, or_parts bytes_short (short_table s) first.1)

  bytes_fit : s.sizes.planes * (s.sizes.width * s.sizes.height) ≤ length s.bytes
  bytes_fit = ltb-false (length s.bytes) (s.sizes.planes * (s.sizes.width * s.sizes.height)) long_enough.1.0

  good_first : Good reply s g bytes_fit (cleared s).table []
  good_first = good_start reply s g bytes_fit (ltb-false (length s.table) (table_size s.sizes) long_enough.1.1)

  -- the table after any calls
  record After (calls : List Call) : Type 0 where
    table : List Record
    is : state_after reply (cleared s) calls ≡ with_table s table
    good : Good reply s g bytes_fit table (events reply (cleared s) calls)
    long : short (with_table s table) ≡ false
    placed : Placed reply s g bytes_fit table (events reply (cleared s) calls)

  after : (calls : List Call) → After calls
  after calls =
      let ran = run reply s g bytes_fit (cleared s).table [] good_first calls in
      let good : Good reply s g bytes_fit ran.0 (events reply (cleared s) calls) = subst (Good reply s g bytes_fit ran.0) (append-nil (events reply (cleared s) calls)) ran.2 in
      record {
        table = ran.0;
        is = ran.1;
        good = good;
        long = or_from _ _ long_enough.0 (or_from _ _ long_enough.1.0 (le-ltb (length ran.0) (table_size s.sizes) good.long));
        placed = subst (λ v. Placed reply s g bytes_fit v.table (events reply (cleared s) calls)) ran.1 (placed_run reply s g bytes_fit (cleared s).table good_first calls);
      }

  -- whatever was handed out
  all_gone : (calls : List Call) (r : Router) (n : ℕ) (x : Record) (before : List Event) → Handed (events reply (cleared s) calls) r n x before → Gone s before r n x
  all_gone [] r n x before h = absurd (omega (arith, some_events h))
  all_gone (c ∷ earlier) r n x before h = pick (all_gone earlier r n x before) (handed_cases h)
    where
      pick : (Handed (events reply (cleared s) earlier) r n x before → Gone s before r n x)
          → ((event c (outcome reply (state_after reply (cleared s) earlier) c).answer ≡ event (Collect r n) (Ok (Collected x))) × (events reply (cleared s) earlier ≡ before)) ⊎ Handed (events reply (cleared s) earlier) r n x before
          → Gone s before r n x
      pick rest (inr h) = rest h
      pick rest (inl (e, f)) =
          let a = after earlier in
          let answer : (outcome reply (state_after reply (cleared s) earlier) (Collect r n)).answer ≡ Ok (Collected x) = subst (λ v. (outcome reply (state_after reply (cleared s) earlier) v).answer ≡ Ok (Collected x)) (ap (λ v. v.call) e) (ap (λ v. v.answer) e) in
          let now : (outcome reply (with_table s a.table) (Collect r n)).answer ≡ Ok (Collected x) = subst (λ v. (outcome reply v (Collect r n)).answer ≡ Ok (Collected x)) a.is answer in
          subst (λ v. Gone s v r n x) f (next_handed reply s g bytes_fit a.table (events reply (cleared s) earlier) a.good a.long a.placed r n x now)

  all_certified : (calls : List Call) → Certificate reply (state_after reply (cleared s) calls) (events reply (cleared s) calls)
  all_certified calls =
      let a = after calls in
      subst (λ v. Certificate reply v (events reply (cleared s) calls)) (sym a.is) (certificate reply s g bytes_fit a.table (events reply (cleared s) calls) a.good a.long a.placed (all_gone calls))

-- the theorem
pub certified : Certified
certified reply s g enough calls = all_certified reply s g enough calls
