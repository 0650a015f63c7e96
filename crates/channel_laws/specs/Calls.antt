-- What each call answers, on any table, and what it leaves.
use Rattle.std.specs.Prelude.{ℕ, ◌+◌, ◌-◌, ◌*◌, Bool, cond, not, ◌&&◌, ◌||◌, List, [], ◌∷◌, ◌++◌, length, drop, replicate, Some, None, Ok, Err, Option, Result, nat_lt, slice_set}
use Rattle.mesh.specs.declared.compass.Directions.{Directions}
use Rattle.mesh.specs.declared.grid.Router.{Router}
use Rattle.mesh.specs.declared.refusals.Refusal.{Refusal}
use Rattle.mesh.specs.declared.refusals.Refusal.TheVariants.{ShortBuffer, Outside, Occupied, EmptyBuffer, Damaged, Arrived, NotPermitted, LeavesStack, NotArrived}
use Rattle.mesh.specs.declared.stack.Sizes.{Sizes}
use Rattle.routing_laws.specs.Chains.{Told}
use Rattle.channel_laws.specs.declared.buffers.Buffer.{Buffer}
use Rattle.channel_laws.specs.declared.buffers.Buffer.TheVariants.{Local}
use Rattle.channel_laws.specs.declared.buffers.Port.{Port}
use Rattle.channel_laws.specs.declared.buffers.Ports.{Ports}
use Rattle.channel_laws.specs.declared.calls.Done.{Done}
use Rattle.channel_laws.specs.declared.calls.Done.TheVariants.{Injected, Moved, Collected}
use Rattle.channel_laws.specs.declared.calls.Call.{Call}
use Rattle.channel_laws.specs.declared.calls.Call.TheVariants.{Inject, Move, Collect}
use Rattle.channel_laws.specs.declared.records.Record.{Record}
use Rattle.channel_laws.specs.Buffers.{buffer_count, buffer_of, entered, network, port_count, port_of}
use Rattle.mesh.specs.Layout.{in_stack}
use Rattle.channel_laws.specs.Table.{State, empty, is_empty, record_at, record_number, table_size, with_table}
use Rattle.channel_laws.specs.Ports.{has_port, leads_out, neighbour, permitted_ports, same_router}

-- the first refusal whose reason holds
abbrev pub first : List (Bool × Refusal) → Option Refusal
first [] = None
first ((holds, x) ∷ rest) = cond holds (Some x) (first rest)

-- a table with too few records
abbrev pub short_table : State → Bool
short_table s = nat_lt (length s.table) (table_size s.sizes)

-- a map, bytes or a table too short
abbrev pub short : State → Bool
short s =
    nat_lt (length s.links) ((s.sizes.planes - 1) * (s.sizes.width * s.sizes.height))
    || (nat_lt (length s.bytes) (s.sizes.planes * (s.sizes.width * s.sizes.height)) || short_table s)

-- a damaged record: a mark above 1, a coordinate outside, or moves above 1,000
abbrev pub damaged : Sizes → Record → Bool
damaged s x = nat_lt 1 x.mark || (not (in_stack s x.source && in_stack s x.destination) || nat_lt 1000 x.moves)

-- a packet with no moves yet
abbrev pub fresh : Router → Router → ℕ → Record
fresh source destination tag = record { tag = tag; moves = 0; mark = 1; source = source; destination = destination }

-- a packet after one more move
abbrev pub carried : Record → Record
carried x = record { tag = x.tag; moves = x.moves + 1; mark = x.mark; source = x.source; destination = x.destination }

-- the buffer that packet x enters by a port
abbrev pub entered_by : Record → Port → Buffer
entered_by x p = entered p (network x.source x.destination)

-- one record written
abbrev pub put : State → Router → Buffer → Record → State
put s r b x = with_table s (slice_set s.table (record_number s.sizes r b) x)

-- clear: refused for a short table alone
abbrev pub clear_refusal : State → Option Refusal
clear_refusal s = first ((short_table s, ShortBuffer) ∷ [])

-- every record of the routers' buffers is emptied, and what lies beyond them stays
abbrev pub cleared : State → State
cleared s = with_table s (replicate (table_size s.sizes) empty ++ drop (table_size s.sizes) s.table)

-- inject: the reasons to refuse, first to last
abbrev pub inject_reasons : State → Router → Router → List (Bool × Refusal)
inject_reasons s source destination =
    (short s, ShortBuffer)
    ∷ (not (in_stack s.sizes source && in_stack s.sizes destination), Outside)
    ∷ (not (is_empty (record_at s source Local)), Occupied)
    ∷ []

-- why an injection is refused
abbrev pub inject_refusal : State → Router → Router → Option Refusal
inject_refusal s source destination = first (inject_reasons s source destination)

-- the packet is written into its source's Local buffer
abbrev pub injected : State → Router → Router → ℕ → State
injected s source destination tag = put s source Local (fresh source destination tag)

-- the reasons for which a buffer has no packet to speak of, first to last
abbrev pub packet_reasons : State → Router → ℕ → List (Bool × Refusal)
packet_reasons s r n =
    let x = record_at s r (buffer_of n) in
    (not (in_stack s.sizes r && nat_lt n buffer_count), Outside)
    ∷ (is_empty x, EmptyBuffer)
    ∷ (damaged s.sizes x, Damaged)
    ∷ []

-- collect: a packet at its destination is handed out; the reasons to refuse, first to last
abbrev pub collect_reasons : State → Router → ℕ → List (Bool × Refusal)
collect_reasons s r n =
    (short s, ShortBuffer)
    ∷ packet_reasons s r n
    ++ (not (same_router r (record_at s r (buffer_of n)).destination), NotArrived)
    ∷ []

-- why a collect is refused
abbrev pub collect_refusal : State → Router → ℕ → Option Refusal
collect_refusal s r n = first (collect_reasons s r n)

-- a buffer is emptied
abbrev pub taken : State → Router → Buffer → State
taken s r b = put s r b empty

-- the packet leaves its buffer, and enters the neighbour with one move more
abbrev pub moved : State → Router → Buffer → Port → State
moved s r b p = put (taken s r b) (neighbour p r) (entered_by (record_at s r b) p) (carried (record_at s r b))

-- ports: the ports that a packet is permitted; the reasons to refuse, first to last
abbrev pub ports_reasons : State → Router → ℕ → List (Bool × Refusal)
ports_reasons s r n = (short s, ShortBuffer) ∷ packet_reasons s r n

-- why ports are refused
abbrev pub ports_refusal : State → Router → ℕ → Option Refusal
ports_refusal s r n = first (ports_reasons s r n)

-- what a call answers: what it did, or why it is refused
abbrev pub Answer : Type 0
Answer = Result Done Refusal

-- what a call answers, and the state after it
pub record Outcome : Type 0 where
  pub answer : Answer
  pub after : State

-- what is done without a refusal; a refusal leaves the state as it was
abbrev pub decided : Option Refusal → Done → State → State → Outcome
decided None done new old = record { answer = Ok done; after = new }
decided (Some x) done new old = record { answer = Err x; after = old }

module _ (reply : Told → Directions) where
  -- move: a packet leaves by a permitted port; the reasons to refuse, first to last
  abbrev pub move_reasons : State → Router → ℕ → ℕ → List (Bool × Refusal)
  move_reasons s r n m =
      let x = record_at s r (buffer_of n) in
      (short s, ShortBuffer)
      ∷ (not (in_stack s.sizes r && (nat_lt n buffer_count && nat_lt m port_count)), Outside)
      ∷ (is_empty x, EmptyBuffer)
      ∷ (damaged s.sizes x, Damaged)
      ∷ (same_router r x.destination, Arrived)
      ∷ (not (has_port (port_of m) (permitted_ports reply s r (buffer_of n) x)), NotPermitted)
      ∷ (leads_out s.sizes (port_of m) r, LeavesStack)
      ∷ (not (is_empty (record_at s (neighbour (port_of m) r) (entered_by x (port_of m)))), Occupied)
      ∷ []

  -- why a move is refused
  abbrev pub move_refusal : State → Router → ℕ → ℕ → Option Refusal
  move_refusal s r n m = first (move_reasons s r n m)

  -- what ports reply
  abbrev pub ports_reply : State → Router → ℕ → Result Ports Refusal
  ports_reply s r n =
      elim (ports_refusal s r n) [ None ↦ Ok (permitted_ports reply s r (buffer_of n) (record_at s r (buffer_of n))) | Some x ↦ Err x ]

  -- what becomes of each call
  abbrev pub outcome : State → Call → Outcome
  outcome s (Inject source destination tag) = decided (inject_refusal s source destination) Injected (injected s source destination tag) s
  outcome s (Move r n m) = decided (move_refusal s r n m) Moved (moved s r (buffer_of n) (port_of m)) s
  outcome s (Collect r n) = decided (collect_refusal s r n) (Collected (record_at s r (buffer_of n))) (taken s r (buffer_of n)) s
