-- What the calls work on, and what their results answer.
use Rattle.std.specs.Prelude.{◌≡◌, ℕ, ◌<◌, ◌≤◌, true, false, List, [], length, Some, None, Ok, Err, Option, Result, nat_lt}
use Rattle.mesh.specs.declared.compass.Directions.{Directions}
use Rattle.mesh.specs.declared.grid.Router.{Router}
use Rattle.mesh.specs.declared.refusals.Refusal.{Refusal}
use Rattle.mesh.specs.declared.stack.Sizes.{Sizes}
use Rattle.mesh.specs.Layout.{in_stack}
use Rattle.routing_laws.specs.Chains.{Told}
use Rattle.channel_laws.specs.declared.calls.Done.{Done}
use Rattle.channel_laws.specs.declared.calls.Done.TheVariants.{Collected, Injected}
use Rattle.channel_laws.specs.declared.records.Record.{Record}
use Rattle.channel_laws.specs.Buffers.{buffer_count, buffer_of, port_of}
use Rattle.channel_laws.specs.Calls.{Answer, Outcome, carried, cleared, collect_refusal, damaged, decided, entered_by, inject_refusal, injected, move_refusal, taken}
use Rattle.channel_laws.specs.Ports.{neighbour}
use Rattle.channel_laws.specs.Table.{State, is_empty, record_at, record_number, state}
use Rattle.channels.specs.declared.held.Held.{Held}
use Rattle.channels.specs.declared.stacks.PlannedStack.{PlannedStack}

-- the state that a call works on
abbrev pub state_of : PlannedStack → List Record → State
state_of p table = state p.sizes p.map.now p.bytes.now table

-- a result as an answer, by what an accepted call did
abbrev pub answer_by : {A : Type 0} → (A → Done) → Result A Refusal → Answer
answer_by done (Ok x) = Ok (done x)
answer_by done (Err x) = Err x

-- a refusal, if any, as a result
abbrev pub result_of : Option Refusal → Result (Unit {0}) Refusal
result_of None = Ok tt
result_of (Some x) = Err x

-- what an injection and a collection come to; neither asks the guide
abbrev pub injection : State → Router → Router → ℕ → Outcome
injection s source destination tag = decided (inject_refusal s source destination) Injected (injected s source destination tag) s

abbrev pub collection : State → Router → ℕ → Outcome
collection s r n = decided (collect_refusal s r n) (Collected (record_at s r (buffer_of n))) (taken s r (buffer_of n)) s

-- a table after clearing, or as it was
abbrev pub clearing : Sizes → List Record → Option Refusal → List Record
clearing s table None = (cleared (state s [] [] table)).table
clearing s table (Some x) = table

-- the packet that a call speaks of: sound, and in a buffer of the stack
pub record Found (s : State) (r : Router) (n : ℕ) (h : Held) : Type 0 where
  pub router : h.router ≡ r
  pub buffer : h.buffer ≡ buffer_of n
  pub index : h.index ≡ record_number s.sizes r (buffer_of n)
  pub packet : h.packet ≡ record_at s r (buffer_of n)
  pub below : h.index < length s.table
  pub inside : in_stack s.sizes r ≡ true
  pub coded : nat_lt n buffer_count ≡ true
  pub full : is_empty h.packet ≡ false
  pub sound : damaged s.sizes h.packet ≡ false
  pub few : h.packet.moves ≤ 1000

-- a move that is not refused: the numbers of the two records, and what is written into the second
pub record Steps (reply : Told → Directions) (s : State) (r : Router) (n m from to : ℕ) (x : Record) : Type 0 where
  pub allowed : move_refusal reply s r n m ≡ None
  pub source : from ≡ record_number s.sizes r (buffer_of n)
  pub target : to ≡ record_number s.sizes (neighbour (port_of m) r) (entered_by (record_at s r (buffer_of n)) (port_of m))
  pub packet : x ≡ carried (record_at s r (buffer_of n))
  pub source_below : from < length s.table
  pub target_below : to < length s.table
