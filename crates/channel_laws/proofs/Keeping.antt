-- What every call keeps: each packet is sound and followed, and none is lost.
use Rattle.std.proofs.Common.{◌≡◌, ℕ, ◌+◌, ◌*◌, ◌≤◌, Bool, true, false, cond, ◌&&◌, List, [], ◌∷◌, length, get_or, set, sum_by, sym, refl, ap, ◌∙◌, subst, zero-add, arith, length-set, Ok, Err}
use Rattle.std.proofs.lemmas.List.Sums.{sum_by-cons}
use Rattle.std.proofs.lemmas.Bool.{and_right, both_ways, cond-false, cond-true, false≢true, true≢false}
use Rattle.mesh.specs.declared.compass.Direction.TheVariants.{North, East, South, West}
use Rattle.mesh.specs.declared.compass.Directions.{Directions}
use Rattle.mesh.specs.declared.compass.Way.{Way}
use Rattle.mesh.specs.declared.compass.Way.TheVariants.{Up, Down}
use Rattle.mesh.specs.declared.grid.Router.{Router}
use Rattle.mesh.specs.declared.refusals.Refusal.{Refusal}
use Rattle.routing_laws.specs.Chains.{Told}
use Rattle.channel_laws.specs.declared.buffers.Buffer.{Buffer}
use Rattle.channel_laws.specs.declared.buffers.Buffer.TheVariants.{Local}
use Rattle.channel_laws.specs.declared.buffers.Port.{Port}
use Rattle.channel_laws.specs.declared.buffers.Port.TheVariants.{Planar, Vertical}
use Rattle.channel_laws.specs.declared.calls.Done.TheVariants.{Injected, Moved, Collected}
use Rattle.channel_laws.specs.declared.calls.Call.{Call}
use Rattle.channel_laws.specs.declared.calls.Call.TheVariants.{Inject, Move, Collect}
use Rattle.channel_laws.specs.declared.records.Record.{Record}
use Rattle.channel_laws.specs.Buffers.{buffer_of, port_of}
use Rattle.channel_laws.specs.Table.{InStack, State, empty, is_empty, kept, record_number, table_size, with_table}
use Rattle.channel_laws.specs.Ports.{has_port, neighbour, permitted_ports, same_router, way_only}
use Rattle.channel_laws.specs.Calls.{carried, collect_refusal, entered_by, fresh, inject_refusal, injected, move_refusal, moved, outcome, taken}
use Rattle.channel_laws.specs.Runs.{Event, Packet, Sits, accepted, collections_of, enters, event, hands_out, injections, injections_of, injects_it, carries, packet, packet_of, same_packet, stays}
use Rattle.channel_laws.specs.Certificate.{Guided}
use Rattle.channel_laws.proofs.Index.{numbered}
use Rattle.channel_laws.proofs.Accepting.{CanCollect, CanInject, CanMove, can_collect, can_inject, can_move, decided_both}
use Rattle.channel_laws.proofs.Writing.{Every, at, put_each, still_empty, weigh, weigh_set}
use Rattle.channel_laws.proofs.Riding.{Leads, Sound, Stage, across, across_step, along, along_step, fresh_sound, home, riding, stage, way_of}

-- the weight of what a record keeps
empty_weight : (f : Record → ℕ) (x : Record) → is_empty x ≡ true → sum_by f (kept x) ≡ 0
empty_weight f x e = ap (sum_by f) (cond-true (is_empty x) [] (x ∷ []) e)

full_weight : (f : Record → ℕ) (x : Record) → is_empty x ≡ false → sum_by f (kept x) ≡ f x
full_weight f x e = ap (sum_by f) (cond-false (is_empty x) [] (x ∷ []) e) ∙ zero-add (f x)

and_true : (b : Bool) → (b && true) ≡ b
and_true true = refl
and_true false = refl

-- the one port of a way
vertical_only : (p : Port) (way : Way) → has_port p (way_only way) ≡ true → p ≡ Vertical way
vertical_only (Planar North) Up e = absurd (false≢true e)
vertical_only (Planar East) Up e = absurd (false≢true e)
vertical_only (Planar South) Up e = absurd (false≢true e)
vertical_only (Planar West) Up e = absurd (false≢true e)
vertical_only (Planar North) Down e = absurd (false≢true e)
vertical_only (Planar East) Down e = absurd (false≢true e)
vertical_only (Planar South) Down e = absurd (false≢true e)
vertical_only (Planar West) Down e = absurd (false≢true e)
vertical_only (Vertical Up) Up e = refl
vertical_only (Vertical Up) Down e = absurd (false≢true e)
vertical_only (Vertical Down) Up e = absurd (false≢true e)
vertical_only (Vertical Down) Down e = refl

module _ (reply : Told → Directions) (s : State) (g : Guided reply s) (fits : s.sizes.planes * (s.sizes.width * s.sizes.height) ≤ length s.bytes) where
  -- a permitted port leads on
  leads : (r : Router) (b : Buffer) (x : Record) → InStack s.sizes r → Sound reply s r b x → same_router r x.destination ≡ false
      → (p : Port) → has_port p (permitted_ports reply s r b x) ≡ true → Leads reply s g fits r x p
  leads r b x i q away p t = pick (stage reply s g fits r b x i q) p t
    where
      pick : Stage reply s g fits r b x → (p : Port) → has_port p (permitted_ports reply s r b x) ≡ true → Leads reply s g fits r x p
      pick (home e) p t = absurd (both_ways _ away e)
      pick (across e ne is) p t =
          subst (Leads reply s g fits r x) (sym (vertical_only p (way_of (riding x)) (sym (ap (has_port p) is) ∙ t))) (across_step reply s g fits r b x i q ne)
      pick (along e is short_of) (Planar d) t = along_step reply s g fits r b x i q short_of d (sym (ap (has_port (Planar d)) is) ∙ t)
      pick (along e is short_of) (Vertical Up) t = absurd (false≢true (sym (ap (has_port (Vertical Up)) is) ∙ t))
      pick (along e is short_of) (Vertical Down) t = absurd (false≢true (sym (ap (has_port (Vertical Down)) is) ∙ t))

  -- a packet is one that the calls brought here
  abbrev pub Traced : List Event → Router → Buffer → Record → Type 0
  Traced es r b x = (k : ℕ) × Sits es k (packet_of x) r b x.moves

  -- one for a record of this packet
  abbrev one : Packet → Record → ℕ
  one p x = cond (same_packet p (packet_of x)) 1 0

  -- what holds of the table after these events
  pub record Good (t : List Record) (es : List Event) : Type 0 where
    pub long : table_size s.sizes ≤ length t
    pub sound : Every s.sizes (Sound reply s) t
    pub traced : Every s.sizes (Traced es) t
    pub counted : (p : Packet) → injections_of p es ≡ weigh s.sizes (one p) t + collections_of p es

  -- a refusal
  good_refused : (t : List Record) (es : List Event) (c : Call) (x : Refusal) → Good t es → Good t (event c (Err x) ∷ es)
  good_refused t es c x q = record {
    long = q.long;
    sound = q.sound;
    traced = λ r b i full. ((q.traced r b i full).0, stays (λ a _. false≢true a) (q.traced r b i full).1);
    counted = λ p.
        let a = sum_by-cons (λ e. cond (injects_it p e.call && accepted e.answer) 1 0) (event c (Err x)) es in
        let no : ◌≡◌ {A = ℕ} (cond (injects_it p c && false) 1 0) 0 = ap (λ v. cond v 1 0) (and_right (injects_it p c) false refl) in
        let b = sum_by-cons (λ e. cond (hands_out p e.answer) 1 0) (event c (Err x)) es in
        omega (arith, q.counted p);
  }

  -- an injection
  module _ (t : List Record) (source destination : Router) (tag : ℕ) (long : table_size s.sizes ≤ length t) (c : CanInject (with_table s t) source destination) where
    abbrev pub after_inject : List Record
    after_inject = set t (record_number s.sizes source Local) (fresh source destination tag)

    pub inject_weigh : (f : Record → ℕ) → weigh s.sizes f after_inject ≡ weigh s.sizes f t + f (fresh source destination tag)
    inject_weigh f =
        let n = record_number s.sizes source Local in
        let w = weigh_set s.sizes f t n (fresh source destination tag) ((numbered s.sizes).below source Local c.from) long in
        let none = empty_weight f (at s.sizes t source Local) c.free in
        let new = full_weight f (fresh source destination tag) refl in
        omega arith

    good_injected : (es : List Event) → Good t es → Good after_inject (event (Inject source destination tag) (Ok Injected) ∷ es)
    good_injected es q = record {
      long = simp length-set q.long;
      sound = put_each s.sizes t long (Sound reply s) source Local (fresh source destination tag) c.from (λ _. fresh_sound reply s g fits source destination tag c.from c.to)
          (λ r b i _ full. q.sound r b i full);
      traced = put_each s.sizes t long (Traced (event (Inject source destination tag) (Ok Injected) ∷ es)) source Local (fresh source destination tag) c.from (λ _. (injections es, enters refl refl))
          (λ r b i _ full. ((q.traced r b i full).0, stays (λ _ no. no) (q.traced r b i full).1));
      counted = λ p.
          let a = sum_by-cons (λ e. cond (injects_it p e.call && accepted e.answer) 1 0) (event (Inject source destination tag) (Ok Injected)) es in
          let it : cond (same_packet p (packet source destination tag) && true) 1 0 ≡ one p (fresh source destination tag) = ap (λ v. cond v 1 0) (and_true (same_packet p (packet source destination tag))) in
          let b = sum_by-cons (λ e. cond (hands_out p e.answer) 1 0) (event (Inject source destination tag) (Ok Injected)) es in
          omega (arith, q.counted p, inject_weigh (one p));
    }

  -- a record taken out
  module _ (t : List Record) (long : table_size s.sizes ≤ length t) (r : Router) (b : Buffer) (i : InStack s.sizes r) where
    abbrev pub after_take : List Record
    after_take = set t (record_number s.sizes r b) empty

    take_weigh : (f : Record → ℕ) → weigh s.sizes f after_take + sum_by f (kept (at s.sizes t r b)) ≡ weigh s.sizes f t
    take_weigh f = omega (arith, weigh_set s.sizes f t (record_number s.sizes r b) empty ((numbered s.sizes).below r b i) long, empty_weight f empty refl)

    sound_taken : Every s.sizes (Sound reply s) t → Every s.sizes (Sound reply s) after_take
    sound_taken q = put_each s.sizes t long (Sound reply s) r b empty i (λ e. absurd (true≢false e)) (λ r' b' j _ full. q r' b' j full)

    -- each other packet stays where it is
    traced_taken : (es : List Event) (e : Event) → ((r' : Router) (b' : Buffer) → (record_number s.sizes r' b' ≡ record_number s.sizes r b → ⊥) → (k : ℕ) (p : Packet) (n : ℕ) → Sits es k p r' b' n → Sits (e ∷ es) k p r' b' n)
        → Every s.sizes (Traced es) t → Every s.sizes (Traced (e ∷ es)) after_take
    traced_taken es e others q =
        put_each s.sizes t long (Traced (e ∷ es)) r b empty i (λ h. absurd (true≢false h)) (λ r' b' j ne full. ((q r' b' j full).0, others r' b' ne _ _ _ (q r' b' j full).1))

  -- a collection
  module _ (t : List Record) (r : Router) (n : ℕ) (long : table_size s.sizes ≤ length t) (c : CanCollect (with_table s t) r n) where
    pub collect_weigh : (f : Record → ℕ) → weigh s.sizes f (after_take t long r (buffer_of n) c.at) + f (at s.sizes t r (buffer_of n)) ≡ weigh s.sizes f t
    collect_weigh f = omega (arith, take_weigh t long r (buffer_of n) c.at f, full_weight f (at s.sizes t r (buffer_of n)) c.full)

    good_collected : (es : List Event) → Good t es → Good (after_take t long r (buffer_of n) c.at) (event (Collect r n) (Ok (Collected (at s.sizes t r (buffer_of n)))) ∷ es)
    good_collected es q =
        let x = at s.sizes t r (buffer_of n) in
        record {
          long = simp length-set q.long;
          sound = sound_taken t long r (buffer_of n) c.at q.sound;
          traced = traced_taken t long r (buffer_of n) c.at es (event (Collect r n) (Ok (Collected x)))
              (λ r' b' ne k p m z. stays (λ _ it. ne (λ v. record_number s.sizes (sym it.0 v) (sym it.1 v))) z) q.traced;
          counted = λ p.
              let a = sum_by-cons (λ e. cond (injects_it p e.call && accepted e.answer) 1 0) (event (Collect r n) (Ok (Collected x))) es in
              let b = sum_by-cons (λ e. cond (hands_out p e.answer) 1 0) (event (Collect r n) (Ok (Collected x))) es in
              omega (arith, q.counted p, collect_weigh (one p));
        }

  -- a move
  module _ (t : List Record) (r : Router) (n m : ℕ) (long : table_size s.sizes ≤ length t) (c : CanMove reply (with_table s t) r n m) where
    abbrev taking : Record
    taking = at s.sizes t r (buffer_of n)

    abbrev pub after_move : List Record
    after_move = set (after_take t long r (buffer_of n) c.at) (record_number s.sizes (neighbour (port_of m) r) (entered_by taking (port_of m))) (carried taking)

    between_long : table_size s.sizes ≤ length (after_take t long r (buffer_of n) c.at)
    between_long = simp length-set long

    pub move_weigh : Leads reply s g fits r taking (port_of m) → (f : Record → ℕ) → weigh s.sizes f after_move + f taking ≡ weigh s.sizes f t + f (carried taking)
    move_weigh on f =
        let i = record_number s.sizes r (buffer_of n) in
        let j = record_number s.sizes (neighbour (port_of m) r) (entered_by taking (port_of m)) in
        let first = take_weigh t long r (buffer_of n) c.at f in
        let was = full_weight f taking c.full in
        let second = weigh_set s.sizes f (after_take t long r (buffer_of n) c.at) j (carried taking) ((numbered s.sizes).below _ _ on.in_stack') between_long in
        let none = empty_weight f (get_or (after_take t long r (buffer_of n) c.at) j empty) (still_empty s.sizes t long i j (omega (arith, (numbered s.sizes).below r (buffer_of n) c.at)) c.free) in
        let new = full_weight f (carried taking) c.full in
        omega arith

    pub leads_on : (es : List Event) → Good t es → Leads reply s g fits r taking (port_of m)
    leads_on es q = leads r (buffer_of n) taking c.at (q.sound r (buffer_of n) c.at c.full) c.away (port_of m) c.permitted

    good_moved : (es : List Event) → Good t es → Good after_move (event (Move r n m) (Ok Moved) ∷ es)
    good_moved es q =
        let on = leads_on es q in
        let mine = q.traced r (buffer_of n) c.at c.full in
        let between = after_take t long r (buffer_of n) c.at in
        let sound_between = sound_taken t long r (buffer_of n) c.at q.sound in
        let traced_between = traced_taken t long r (buffer_of n) c.at es (event (Move r n m) (Ok Moved))
        (λ r' b' ne k p m' z. stays (λ _ it. ne (λ v. record_number s.sizes (sym it.0 v) (sym it.1 v))) z) q.traced in
        record {
          long = simp length-set q.long;
          sound = put_each s.sizes between between_long (Sound reply s) _ _ (carried taking) on.in_stack' (λ _. on.sound') (λ r' b' j _ full. sound_between r' b' j full);
          traced = put_each s.sizes between between_long (Traced (event (Move r n m) (Ok Moved) ∷ es)) _ _ (carried taking) on.in_stack' (λ _. (mine.0, carries n m refl mine.1))
              (λ r' b' j _ full. traced_between r' b' j full);
          counted = λ p.
              let a = sum_by-cons (λ e. cond (injects_it p e.call && accepted e.answer) 1 0) (event (Move r n m) (Ok Moved)) es in
              let b = sum_by-cons (λ e. cond (hands_out p e.answer) 1 0) (event (Move r n m) (Ok Moved)) es in
              omega (arith, q.counted p, move_weigh on (one p));
        }

  -- any call: the table after it, which is good again
  pub step : (t : List Record) (es : List Event) → Good t es → (c : Call)
      → (t' : List Record) × ((outcome reply (with_table s t) c).after ≡ with_table s t') × Good t' (event c (outcome reply (with_table s t) c).answer ∷ es)
  step t es q (Inject source destination tag) =
      decided_both (λ o. (t' : List Record) × (o.after ≡ with_table s t') × Good t' (event (Inject source destination tag) o.answer ∷ es))
      (inject_refusal (with_table s t) source destination) Injected (injected (with_table s t) source destination tag) (with_table s t)
      (λ e. (after_inject t source destination tag q.long (can_inject _ _ _ e), refl, good_injected t source destination tag q.long (can_inject _ _ _ e) es q))
      (λ x. (t, refl, good_refused t es _ x q))
  step t es q (Move r n m) =
      decided_both (λ o. (t' : List Record) × (o.after ≡ with_table s t') × Good t' (event (Move r n m) o.answer ∷ es)) (move_refusal reply (with_table s t) r n m) Moved
      (moved (with_table s t) r (buffer_of n) (port_of m)) (with_table s t)
      (λ e. (after_move t r n m q.long (can_move reply _ _ _ _ e), refl, good_moved t r n m q.long (can_move reply _ _ _ _ e) es q))
      (λ x. (t, refl, good_refused t es _ x q))
  step t es q (Collect r n) =
      decided_both (λ o. (t' : List Record) × (o.after ≡ with_table s t') × Good t' (event (Collect r n) o.answer ∷ es)) (collect_refusal (with_table s t) r n)
      (Collected (at s.sizes t r (buffer_of n))) (taken (with_table s t) r (buffer_of n)) (with_table s t)
      (λ e. (after_take t q.long r (buffer_of n) (can_collect _ _ _ e).at, refl, good_collected t r n q.long (can_collect _ _ _ e) es q))
      (λ x. (t, refl, good_refused t es _ x q))
