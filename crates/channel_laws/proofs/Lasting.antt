-- Runs: the table stays good, and only so many calls are accepted without an injection.
use Rattle.std.proofs.Common.{◌≡◌, ℕ, zero, suc, ◌+◌, ◌-◌, ◌*◌, ◌<◌, ◌≤◌, cond, ◌&&◌, List, [], ◌∷◌, ◌++◌, length, drop, replicate, sum_by, sym, refl, ap, ◌∙◌, subst, mul-le-mul_right, arith, length-append}
use Rattle.std.specs.List.{flat_map}
use Rattle.std.proofs.lemmas.List.{get_or_append_left, get_or-replicate, length-replicate, take_at}
use Rattle.std.proofs.lemmas.List.Sums.{sum_by-cons, sum_by-le}
use Rattle.std.proofs.lemmas.Bool.{both_ways}
use Rattle.mesh.specs.declared.compass.Directions.{Directions}
use Rattle.mesh.specs.declared.grid.Router.{Router}
use Rattle.mesh.specs.Compass.{gap}
use Rattle.routing_laws.specs.Chains.{Told, longest}
use Rattle.channel_laws.specs.declared.buffers.Buffer.{Buffer}
use Rattle.channel_laws.specs.declared.calls.Done.TheVariants.{Injected, Moved, Collected}
use Rattle.channel_laws.specs.declared.calls.Call.{Call}
use Rattle.channel_laws.specs.declared.calls.Call.TheVariants.{Inject, Move, Collect}
use Rattle.channel_laws.specs.declared.records.Record.{Record}
use Rattle.channel_laws.specs.Buffers.{buffer_of, port_of}
use Rattle.channel_laws.specs.Table.{InStack, State, empty, is_empty, kept, packets, record_number, table_size, with_table}
use Rattle.channel_laws.specs.Calls.{Outcome, cleared, collect_refusal, inject_refusal, injected, move_refusal, moved, outcome, taken}
use Rattle.channel_laws.specs.Runs.{Event, accepted, event, events, injections, injects, packet_of, same_packet, state_after, works, workings}
use Rattle.channel_laws.specs.Certificate.{Guided}
use Rattle.channel_laws.proofs.Index.{numbered}
use Rattle.channel_laws.proofs.Accepting.{can_collect, can_inject, can_move, decided_both}
use Rattle.channel_laws.proofs.Writing.{at, weigh}
use Rattle.channel_laws.proofs.Riding.{Sound, few_moves}
use Rattle.channel_laws.proofs.Keeping.{Good, collect_weigh, inject_weigh, leads_on, move_weigh, step}

-- fewer moves than the bound of a whole trip
below_all : (d k l m : ℕ) → d + 1 ≤ k → m ≤ (d + 1) * l + d → m < k * (l + 1)
below_all d k l m h b = omega (arith, mul-le-mul_right {m = d + 1} {n = k} (l + 1) h)

-- a new table holds nothing
joined_empty : (n : ℕ) → flat_map kept (replicate n empty) ≡ []
joined_empty zero = refl
joined_empty (suc n) = joined_empty n

-- one accepted move or collect is paid for by what falls, one injection for what comes in
paid : (a b i j p q r m : ℕ) → a + q ≤ p + i * m → b + r ≤ q + j * m → b + a + r ≤ p + (j + i) * m
paid a b i j p q r m h k = omega arith

module _ (reply : Told → Directions) (s : State) (g : Guided reply s) (fits : s.sizes.planes * (s.sizes.width * s.sizes.height) ≤ length s.bytes) where
  -- the moves that a packet has left, at most
  abbrev most : ℕ
  most = s.sizes.planes * (longest s.sizes.width s.sizes.height + 1)

  abbrev left : Record → ℕ
  left x = most - x.moves

  some_left : (r : Router) (b : Buffer) (x : Record) → InStack s.sizes r → Sound reply s r b x → x.moves < most
  some_left r b x i q =
      below_all (gap x.source.z x.destination.z) s.sizes.planes (longest s.sizes.width s.sizes.height) x.moves (omega (arith, q.from.plane, q.to.plane)) (few_moves reply s g fits r b x i q)

  -- each call: what is accepted, and what is left
  abbrev Falls : List Record → Call → Outcome → Type 0
  Falls t c o =
      cond (works c && accepted o.answer) 1 0 + weigh s.sizes left o.after.table ≤ weigh s.sizes left t + cond (injects c && accepted o.answer) 1 0 * most

  falls : (t : List Record) (es : List Event) → Good reply s g fits t es → (c : Call) → Falls t c (outcome reply (with_table s t) c)
  falls t es q (Inject source destination tag) =
      decided_both (Falls t (Inject source destination tag)) (inject_refusal (with_table s t) source destination) Injected (injected (with_table s t) source destination tag) (with_table s t)
      (λ e. omega (arith, inject_weigh reply s g fits t source destination tag q.long (can_inject _ _ _ e) left)) (λ x. omega arith)
  falls t es q (Move r n m) =
      decided_both (Falls t (Move r n m)) (move_refusal reply (with_table s t) r n m) Moved (moved (with_table s t) r (buffer_of n) (port_of m)) (with_table s t)
      (λ e.
      let c = can_move reply (with_table s t) r n m e in
      let on = leads_on reply s g fits t r n m q.long c es q in
      let low = some_left r (buffer_of n) (at s.sizes t r (buffer_of n)) c.at (q.sound r (buffer_of n) c.at c.full) in
      omega (arith, move_weigh reply s g fits t r n m q.long c on left))
      (λ x. omega arith)
  falls t es q (Collect r n) =
      decided_both (Falls t (Collect r n)) (collect_refusal (with_table s t) r n) (Collected (at s.sizes t r (buffer_of n))) (taken (with_table s t) r (buffer_of n)) (with_table s t)
      (λ e.
      let c = can_collect (with_table s t) r n e in
      let low = some_left r (buffer_of n) (at s.sizes t r (buffer_of n)) c.at (q.sound r (buffer_of n) c.at c.full) in
      omega (arith, collect_weigh reply s g fits t r n q.long c left))
      (λ x. omega arith)

  -- the table after any calls is good, and they are paid for
  abbrev Ran : List Record → List Event → List Event → State → Type 0
  Ran t es new v =
      (t' : List Record) × (v ≡ with_table s t') × Good reply s g fits t' (new ++ es) × (workings new + weigh s.sizes left t' ≤ weigh s.sizes left t + injections new * most)

  pub run : (t : List Record) (es : List Event) → Good reply s g fits t es → (calls : List Call) → Ran t es (events reply (with_table s t) calls) (state_after reply (with_table s t) calls)
  run t es q [] = (t, refl, q, omega arith)
  run t es q (c ∷ earlier) =
      let before = run t es q earlier in
      let done = events reply (with_table s t) earlier in
      let now = outcome reply (with_table s before.0) c in
      let one = step reply s g fits before.0 (done ++ es) before.2 c in
      let fall = subst (λ v. cond (works c && accepted now.answer) 1 0 + weigh s.sizes left v.table ≤ weigh s.sizes left before.0 + cond (injects c && accepted now.answer) 1 0 * most) one.1 (falls before.0 (done ++ es) before.2 c) in
      let did = sum_by-cons (λ e. cond (works e.call && accepted e.answer) 1 0) (event c now.answer) done in
      let came = sum_by-cons (λ e. cond (injects e.call && accepted e.answer) 1 0) (event c now.answer) done in
      let sum = paid (workings done) (cond (works c && accepted now.answer) 1 0) (injections done) (cond (injects c && accepted now.answer) 1 0) (weigh s.sizes left t) (weigh s.sizes left before.0) (weigh s.sizes left one.0) most before.3 fall in
      let low : workings (event c now.answer ∷ done) + weigh s.sizes left one.0 ≤ weigh s.sizes left t + injections (event c now.answer ∷ done) * most = rw (did, came) sum in
      subst (λ v. Ran t es (event c (outcome reply v c).answer ∷ done) (outcome reply v c).after) (sym before.1) (one.0, one.1, one.2, low)

  -- without an injection, only so many calls are accepted
  pub dry : (t : List Record) (es : List Event) → Good reply s g fits t es → (calls : List Call) → injections (events reply (with_table s t) calls) ≡ 0
      → workings (events reply (with_table s t) calls) ≤ length (packets (with_table s t)) * most
  dry t es q calls none =
      let after = run t es q calls in
      let whole = sum_by-le left most (packets (with_table s t)) (λ i _. omega arith) in
      let free : injections (events reply (with_table s t) calls) * most ≡ 0 = ap (λ n. n * most) none ∙ omega arith in
      omega (arith, after.3)

  -- a newly cleared table is good
  pub good_start : table_size s.sizes ≤ length s.table → Good reply s g fits (cleared s).table []
  good_start long =
      let n = table_size s.sizes in
      let rest = drop (table_size s.sizes) s.table in
      let reads : (r : Router) (b : Buffer) → InStack s.sizes r → at s.sizes (cleared s).table r b ≡ empty = λ r b i.
      let low = (numbered s.sizes).below r b i in
      get_or_append_left (replicate (table_size s.sizes) empty) rest empty (record_number s.sizes r b) (rw (length-replicate (table_size s.sizes) empty) low) ∙ get_or-replicate (table_size s.sizes) (record_number s.sizes r b) empty empty low in
      record {
        long = simp (length-append, length-replicate) (omega arith);
        sound = λ r b i full. absurd (both_ways _ full (ap is_empty (reads r b i)));
        traced = λ r b i full. absurd (both_ways _ full (ap is_empty (reads r b i)));
        counted = λ p. ap (λ xs. sum_by (λ x. cond (same_packet p (packet_of x)) 1 0) xs + 0) (sym (ap (flat_map kept) (take_at (replicate n empty) rest n (length-replicate n empty)) ∙ joined_empty n));
      }
