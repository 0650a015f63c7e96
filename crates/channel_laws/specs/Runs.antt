-- Runs: what lists of calls answer, and where each packet is, by the calls and their answers alone.
use Rattle.std.specs.Prelude.{◌≡◌, ℕ, ◌+◌, Bool, true, false, ◌&&◌, List, [], ◌∷◌, Ok, Err, count_by, ◌==◌}
use Rattle.mesh.specs.declared.compass.Directions.{Directions}
use Rattle.mesh.specs.declared.grid.Router.{Router}
use Rattle.routing_laws.specs.Chains.{Told}
use Rattle.channel_laws.specs.declared.buffers.Buffer.{Buffer}
use Rattle.channel_laws.specs.declared.buffers.Buffer.TheVariants.{Local}
use Rattle.channel_laws.specs.declared.calls.Done.TheVariants.{Injected, Moved, Collected}
use Rattle.channel_laws.specs.declared.calls.Call.{Call}
use Rattle.channel_laws.specs.declared.calls.Call.TheVariants.{Inject, Move, Collect}
use Rattle.channel_laws.specs.declared.records.Record.{Record}
use Rattle.channel_laws.specs.Buffers.{buffer_of, entered, network, port_of}
use Rattle.channel_laws.specs.Table.{State}
use Rattle.channel_laws.specs.Ports.{neighbour, same_router}
use Rattle.channel_laws.specs.Calls.{Answer, outcome}

-- a call with what it answered
pub record Event : Type 0 where
  pub call : Call
  pub answer : Answer

-- the event of a call and its answer
abbrev pub event : Call → Answer → Event
event c a = record { call = c; answer = a }

-- the state after a list of calls, the latest first
abbrev pub state_after : (Told → Directions) → State → List Call → State
state_after reply s [] = s
state_after reply s (c ∷ earlier) = (outcome reply (state_after reply s earlier) c).after

-- what each call answered, the latest first
abbrev pub events : (Told → Directions) → State → List Call → List Event
events reply s [] = []
events reply s (c ∷ earlier) = event c (outcome reply (state_after reply s earlier) c).answer ∷ events reply s earlier

-- the answer of a call that was not refused
abbrev pub accepted : Answer → Bool
accepted (Ok done) = true
accepted (Err x) = false

-- a packet: two are the same when source, destination and tag are
pub record Packet : Type 0 where
  pub source : Router
  pub destination : Router
  pub tag : ℕ

-- a packet from its parts
abbrev pub packet : Router → Router → ℕ → Packet
packet source destination tag = record { source = source; destination = destination; tag = tag }

-- the packet of a record
abbrev pub packet_of : Record → Packet
packet_of x = packet x.source x.destination x.tag

-- whether two packets are the same
abbrev pub same_packet : Packet → Packet → Bool
same_packet p q = same_router p.source q.source && (same_router p.destination q.destination && p.tag == q.tag)

-- a call to inject
abbrev pub injects : Call → Bool
injects (Inject source destination tag) = true
injects (Move r n m) = false
injects (Collect r n) = false

-- a call to move or to collect
abbrev pub works : Call → Bool
works (Inject source destination tag) = false
works (Move r n m) = true
works (Collect r n) = true

-- the accepted injections of a run
abbrev pub injections : List Event → ℕ
injections es = count_by (λ e. injects e.call && accepted e.answer) es

-- the accepted moves and collects of a run
abbrev pub workings : List Event → ℕ
workings es = count_by (λ e. works e.call && accepted e.answer) es

-- a call to inject this packet
abbrev pub injects_it : Packet → Call → Bool
injects_it p (Inject source destination tag) = same_packet p (packet source destination tag)
injects_it p (Move r n m) = false
injects_it p (Collect r n) = false

-- an answer that hands out a packet
abbrev pub hands_out : Packet → Answer → Bool
hands_out p (Ok Injected) = false
hands_out p (Ok Moved) = false
hands_out p (Ok (Collected x)) = same_packet p (packet_of x)
hands_out p (Err x) = false

-- how often a run brought a packet in
abbrev pub injections_of : Packet → List Event → ℕ
injections_of p es = count_by (λ e. injects_it p e.call && accepted e.answer) es

-- how often a run handed a packet out
abbrev pub collections_of : Packet → List Event → ℕ
collections_of p es = count_by (λ e. hands_out p e.answer) es

-- a call that is to take what is in a buffer
abbrev pub Takes : Call → Router → Buffer → Type 0
Takes (Inject source destination tag) r b = ⊥
Takes (Move q n m) r b = (q ≡ r) × (buffer_of n ≡ b)
Takes (Collect q n) r b = (q ≡ r) × (buffer_of n ≡ b)

-- where packets are after a run, and how many accepted moves carried them there. `Sits es k p r b n`: p, which the
-- accepted injection number k (from 0) brought in, is in buffer b of router r after n moves. An accepted injection
-- puts it into its source's Local buffer; an accepted move of the buffer it is in carries it to the neighbour; it
-- stays unless an accepted call takes what is in its buffer.
pub data Sits : List Event → ℕ → Packet → Router → Buffer → ℕ → Type 0 where
  enters : {es : List Event} {a : Answer} {source destination : Router} {tag k : ℕ} → accepted a ≡ true → k ≡ injections es
      → Sits (event (Inject source destination tag) a ∷ es) k (packet source destination tag) source Local 0
  carries : {es : List Event} {a : Answer} {k : ℕ} {p : Packet} {r : Router} {n : ℕ} (i m : ℕ) → accepted a ≡ true → Sits es k p r (buffer_of i) n
      → Sits (event (Move r i m) a ∷ es) k p (neighbour (port_of m) r) (entered (port_of m) (network p.source p.destination)) (n + 1)
  stays : {es : List Event} {a : Answer} {c : Call} {k : ℕ} {p : Packet} {r : Router} {b : Buffer} {n : ℕ} → (accepted a ≡ true → Takes c r b → ⊥) → Sits es k p r b n
      → Sits (event c a ∷ es) k p r b n

-- what a run handed out: a collect at buffer n of router r handed out record x, after the events before
pub data Handed : List Event → Router → ℕ → Record → List Event → Type 0 where
  last : {before : List Event} {r : Router} {n : ℕ} {x : Record} → Handed (event (Collect r n) (Ok (Collected x)) ∷ before) r n x before
  sooner : {e : Event} {es before : List Event} {r : Router} {n : ℕ} {x : Record} → Handed es r n x before → Handed (e ∷ es) r n x before
