-- Packets are followed to one place each, and there they are.
use Rattle.std.proofs.Common.{◌≡◌, ℕ, ◌+◌, ◌*◌, ◌<◌, ◌≤◌, true, false, cond, ◌&&◌, List, [], ◌∷◌, length, get_or, set, sym, refl, ap, ◌∙◌, subst, append-nil, arith, length-set, Ok, Err}
use Rattle.std.proofs.lemmas.List.{get_or-set_other}
use Rattle.std.proofs.lemmas.List.Sums.{sum_by-cons}
use Rattle.std.proofs.lemmas.Bool.{both_ways, cond-true, false≢true}
use Rattle.mesh.specs.declared.compass.Directions.{Directions}
use Rattle.mesh.specs.declared.grid.Router.{Router}
use Rattle.mesh.specs.declared.refusals.Refusal.{Refusal}
use Rattle.mesh.specs.declared.stack.Sizes.{Sizes}
use Rattle.routing_laws.specs.Chains.{Told}
use Rattle.channel_laws.specs.declared.buffers.Buffer.{Buffer}
use Rattle.channel_laws.specs.declared.buffers.Buffer.TheVariants.{Local}
use Rattle.channel_laws.specs.declared.calls.Done.TheVariants.{Injected, Moved, Collected}
use Rattle.channel_laws.specs.declared.calls.Call.{Call}
use Rattle.channel_laws.specs.declared.calls.Call.TheVariants.{Inject, Move, Collect}
use Rattle.channel_laws.specs.declared.records.Record.{Record}
use Rattle.channel_laws.specs.Buffers.{buffer_of, entered, network, port_of}
use Rattle.channel_laws.specs.Table.{InStack, State, empty, is_empty, record_number, table_size, with_table}
use Rattle.channel_laws.specs.Ports.{neighbour}
use Rattle.channel_laws.specs.Calls.{carried, collect_refusal, entered_by, fresh, inject_refusal, injected, move_refusal, moved, outcome, taken}
use Rattle.channel_laws.specs.Runs.{Event, Packet, Sits, accepted, enters, event, events, injections, injects, carries, packet, packet_of, state_after, stays}
use Rattle.channel_laws.specs.Certificate.{Guided}
use Rattle.channel_laws.proofs.Index.{numbered}
use Rattle.channel_laws.proofs.Accepting.{CanInject, CanMove, can_collect, can_inject, can_move, decided_both}
use Rattle.channel_laws.proofs.Writing.{at, at_same}
use Rattle.channel_laws.proofs.Riding.{Leads}
use Rattle.channel_laws.proofs.Keeping.{Good, leads_on}
use Rattle.channel_laws.proofs.Lasting.{run}

-- a packet that is followed was injected
sits_below : {es : List Event} {k : ℕ} {p : Packet} {r : Router} {b : Buffer} {n : ℕ} → Sits es k p r b n → k < injections es
sits_below (enters {es} {a} {source} {destination} {tag} t e) =
    let more = sum_by-cons (λ v. cond (injects v.call && accepted v.answer) 1 0) (event (Inject source destination tag) a) es in
    let one : ◌≡◌ {A = ℕ} (cond (accepted a) 1 0) 1 = cond-true (accepted a) 1 0 t in
    omega arith
sits_below (carries {es} {a} {k} {p} {r} i m t z) =
    let more = sum_by-cons (λ v. cond (injects v.call && accepted v.answer) 1 0) (event (Move r i m) a) es in
    omega (arith, sits_below z)
sits_below (stays {es} {a} {c} ne z) =
    let more = sum_by-cons (λ v. cond (injects v.call && accepted v.answer) 1 0) (event c a) es in
    omega (arith, sits_below z)

-- a number is that of one packet, in one buffer, with one count of moves
pub one_place : {es : List Event} {k : ℕ} {p q : Packet} {r r' : Router} {b b' : Buffer} {n n' : ℕ} → Sits es k p r b n → Sits es k q r' b' n' → (p ≡ q) × (r ≡ r') × (b ≡ b') × (n ≡ n')
one_place (enters t e) (enters t' e') = (refl, refl, refl, refl)
one_place (enters t e) (stays ne z) = absurd (omega (arith, sits_below z))
one_place (carries {es} {a} {k} {p} {r} {n} i m t z) (carries i' m' t' z') =
    let same = one_place z z' in
    (same.0, refl, ap (λ v. entered (port_of m) (network v.source v.destination)) same.0, ap (λ v. v + 1) same.3)
one_place (carries i m t z) (stays ne z') = let same = one_place z z' in absurd (ne t (same.1, same.2))
one_place (stays ne z) (enters t e) = absurd (omega (arith, sits_below z))
one_place (stays ne z) (carries i m t z') = let same = one_place z z' in absurd (ne t (sym same.1, sym same.2))
one_place (stays ne z) (stays ne' z') = one_place z z'

-- a record that holds this packet, with so many moves, at a router of the stack
abbrev pub Holds : Sizes → Router → Packet → ℕ → Record → Type 0
Holds s r p n x = InStack s r × (is_empty x ≡ false) × (packet_of x ≡ p) × (x.moves ≡ n)

module _ (reply : Told → Directions) (s : State) (g : Guided reply s) (fits : s.sizes.planes * (s.sizes.width * s.sizes.height) ≤ length s.bytes) where
  -- each packet is where the events say
  abbrev pub Placed : List Record → List Event → Type 0
  Placed t es = (k : ℕ) (p : Packet) (r : Router) (b : Buffer) (n : ℕ) → Sits es k p r b n → Holds s.sizes r p n (at s.sizes t r b)

  module _ (t : List Record) where
    -- a full buffer is not an empty one
    full_other : (r q : Router) (b c : Buffer) → is_empty (at s.sizes t r b) ≡ false → is_empty (at s.sizes t q c) ≡ true → record_number s.sizes r b ≡ record_number s.sizes q c → ⊥
    full_other r q b c full none e = both_ways _ full (ap (λ k. is_empty (get_or t k empty)) e ∙ none)

    -- another record is written
    still_holds : (r : Router) (b : Buffer) (p : Packet) (n i : ℕ) (x : Record) → (record_number s.sizes r b ≡ i → ⊥) → Holds s.sizes r p n (at s.sizes t r b) → Holds s.sizes r p n (at s.sizes (set t i x) r b)
    still_holds r b p n i x ne h = subst (Holds s.sizes r p n) (sym (get_or-set_other t i (record_number s.sizes r b) x empty ne)) h

    placed_refused : (es : List Event) (c : Call) (x : Refusal) → Placed t es → (k : ℕ) (p : Packet) (r : Router) (b : Buffer) (n : ℕ) → Sits (event c (Err x) ∷ es) k p r b n → Holds s.sizes r p n (at s.sizes t r b)
    placed_refused es c x q k p r b n (enters e f) = absurd (false≢true e)
    placed_refused es c x q k p r b n (carries i m e z) = absurd (false≢true e)
    placed_refused es c x q k p r b n (stays ne z) = q k p r b n z

    placed_injected : (es : List Event) (source destination : Router) (tag : ℕ) → table_size s.sizes ≤ length t → CanInject (with_table s t) source destination → Placed t es
        → (k : ℕ) (p : Packet) (r : Router) (b : Buffer) (n : ℕ) → Sits (event (Inject source destination tag) (Ok Injected) ∷ es) k p r b n
        → Holds s.sizes r p n (at s.sizes (set t (record_number s.sizes source Local) (fresh source destination tag)) r b)
    placed_injected es source destination tag long c q k p r b n (enters e f) =
        subst (Holds s.sizes source (packet source destination tag) 0) (sym (at_same s.sizes t long source Local (fresh source destination tag) c.from)) (c.from, refl, refl, refl)
    placed_injected es source destination tag long c q k p r b n (stays ne z) =
        let h = q k p r b n z in
        still_holds r b p n (record_number s.sizes source Local) (fresh source destination tag) (full_other r source b Local h.1 c.free) h

    -- a packet that is not taken is not in the record that is emptied
    not_taken : (r q : Router) (b c : Buffer) → InStack s.sizes r → InStack s.sizes q → ((q ≡ r) × (c ≡ b) → ⊥) → record_number s.sizes r b ≡ record_number s.sizes q c → ⊥
    not_taken r q b c i j ne e = let same = (numbered s.sizes).apart r q b c i j e in ne (sym same.0, sym same.1)

    placed_collected : (es : List Event) (q : Router) (m : ℕ) (x : Record) → InStack s.sizes q → Placed t es
        → (k : ℕ) (p : Packet) (r : Router) (b : Buffer) (n : ℕ) → Sits (event (Collect q m) (Ok (Collected x)) ∷ es) k p r b n
        → Holds s.sizes r p n (at s.sizes (set t (record_number s.sizes q (buffer_of m)) empty) r b)
    placed_collected es q m x i placed k p r b n (stays ne z) =
        let h = placed k p r b n z in
        still_holds r b p n (record_number s.sizes q (buffer_of m)) empty (not_taken r q b (buffer_of m) h.0 i (ne refl)) h

  module _ (t : List Record) (q : Router) (i m : ℕ) (long : table_size s.sizes ≤ length t) (c : CanMove reply (with_table s t) q i m) (on : Leads reply s g fits q (at s.sizes t q (buffer_of i)) (port_of m)) where
    abbrev middle : List Record
    middle = set t (record_number s.sizes q (buffer_of i)) empty

    abbrev moving : Record
    moving = at s.sizes t q (buffer_of i)

    -- the packet that moved, by the buffer that its network says
    arrives : (p : Packet) (n : ℕ) → packet_of moving ≡ p → moving.moves ≡ n
        → Holds s.sizes (neighbour (port_of m) q) p (n + 1)
        (at s.sizes (set middle (record_number s.sizes (neighbour (port_of m) q) (entered_by moving (port_of m))) (carried moving)) (neighbour (port_of m) q)
        (entered (port_of m) (network p.source p.destination)))
    arrives p n e f =
        let there = neighbour (port_of m) q in
        let into = entered_by moving (port_of m) in
        let written : at s.sizes (set middle (record_number s.sizes there into) (carried moving)) there into ≡ carried moving = at_same s.sizes middle (simp length-set long) there into (carried moving) on.in_stack' in
        let held : Holds s.sizes there (packet_of moving) (moving.moves + 1) (at s.sizes (set middle (record_number s.sizes there into) (carried moving)) there into) =
        subst (Holds s.sizes there (packet_of moving) (moving.moves + 1)) (sym written) (on.in_stack', c.full, refl, refl) in
        subst (λ v. Holds s.sizes there p v (at s.sizes (set middle (record_number s.sizes there into) (carried moving)) there (entered (port_of m) (network p.source p.destination)))) (ap (λ v. v + 1) f)
        (subst (λ v. Holds s.sizes there v (moving.moves + 1) (at s.sizes (set middle (record_number s.sizes there into) (carried moving)) there (entered (port_of m) (network v.source v.destination)))) e held)

    placed_moved : (es : List Event) → Placed t es → (k : ℕ) (p : Packet) (r : Router) (b : Buffer) (n : ℕ) → Sits (event (Move q i m) (Ok Moved) ∷ es) k p r b n
        → Holds s.sizes r p n (at s.sizes (set middle (record_number s.sizes (neighbour (port_of m) q) (entered_by moving (port_of m))) (carried moving)) r b)
    placed_moved es placed k p r b n (carries {n = j} i' m' e z) = let h = placed k p q (buffer_of i) j z in arrives p j h.2 h.3
    placed_moved es placed k p r b n (stays ne z) =
        let h = placed k p r b n z in
        let apart = full_other t r (neighbour (port_of m) q) b (entered_by moving (port_of m)) h.1 c.free in
        still_holds middle r b p n (record_number s.sizes (neighbour (port_of m) q) (entered_by moving (port_of m))) (carried moving) apart
        (still_holds t r b p n (record_number s.sizes q (buffer_of i)) empty (not_taken t r q b (buffer_of i) h.0 c.at (ne refl)) h)

  -- any call
  placed_step : (t : List Record) (es : List Event) → Good reply s g fits t es → Placed t es → (c : Call) → Placed (outcome reply (with_table s t) c).after.table (event c (outcome reply (with_table s t) c).answer ∷ es)
  placed_step t es good q (Inject source destination tag) =
      decided_both (λ o. Placed o.after.table (event (Inject source destination tag) o.answer ∷ es)) (inject_refusal (with_table s t) source destination) Injected
      (injected (with_table s t) source destination tag) (with_table s t)
      (λ e. placed_injected t es source destination tag good.long (can_inject (with_table s t) source destination e) q) (λ x. placed_refused t es (Inject source destination tag) x q)
  placed_step t es good q (Move r n m) =
      decided_both (λ o. Placed o.after.table (event (Move r n m) o.answer ∷ es)) (move_refusal reply (with_table s t) r n m) Moved (moved (with_table s t) r (buffer_of n) (port_of m)) (with_table s t)
      (λ e.
      let c = can_move reply (with_table s t) r n m e in
      placed_moved t r n m good.long c (leads_on reply s g fits t r n m good.long c es good) es q)
      (λ x. placed_refused t es (Move r n m) x q)
  placed_step t es good q (Collect r n) =
      decided_both (λ o. Placed o.after.table (event (Collect r n) o.answer ∷ es)) (collect_refusal (with_table s t) r n) (Collected (at s.sizes t r (buffer_of n))) (taken (with_table s t) r (buffer_of n)) (with_table s t)
      (λ e. placed_collected t es r n (at s.sizes t r (buffer_of n)) (can_collect (with_table s t) r n e).at q) (λ x. placed_refused t es (Collect r n) x q)

  -- any calls
  pub placed_run : (t : List Record) → Good reply s g fits t [] → (calls : List Call) → Placed (state_after reply (with_table s t) calls).table (events reply (with_table s t) calls)
  placed_run t good [] = λ k p r b n z. absurd (omega (arith, sits_below z))
  placed_run t good (c ∷ earlier) =
      let before = run reply s g fits t [] good earlier in
      let done = events reply (with_table s t) earlier in
      let good' = subst (Good reply s g fits before.0) (append-nil done) before.2 in
      let placed : Placed before.0 done = subst (λ v. Placed v.table done) before.1 (placed_run t good earlier) in
      subst (λ v. Placed (outcome reply v c).after.table (event c (outcome reply v c).answer ∷ done)) (sym before.1) (placed_step before.0 done good' placed c)
