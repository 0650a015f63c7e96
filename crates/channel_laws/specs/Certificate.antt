-- The certificate: what holds after every list of calls from a newly cleared table over a planned stack.
use Rattle.std.specs.Prelude.{◌≡◌, ℕ, ◌+◌, ◌*◌, ◌<◌, ◌≤◌, true, false, List, [], map, length, replicate, count_by, Contains}
use Rattle.mesh.specs.declared.compass.Directions.{Directions}
use Rattle.mesh.specs.declared.compass.Way.{Way}
use Rattle.mesh.specs.declared.compass.Way.TheVariants.{Up, Down}
use Rattle.mesh.specs.declared.grid.Router.{Router}
use Rattle.mesh.specs.Compass.{gap}
use Rattle.mesh.specs.Halves.{half}
use Rattle.routing_laws.specs.Chains.{Plane, Rules, Told, longest, plane_of}
use Rattle.routing_laws.specs.Elevators.{Joined, elevators, linked}
use Rattle.routing_laws.specs.Filling.{plane}
use Rattle.channel_laws.specs.declared.buffers.Buffer.{Buffer}
use Rattle.channel_laws.specs.declared.buffers.Port.TheVariants.{Vertical}
use Rattle.channel_laws.specs.declared.calls.Call.{Call}
use Rattle.channel_laws.specs.declared.calls.Call.TheVariants.{Move}
use Rattle.channel_laws.specs.declared.records.Record.{Record}
use Rattle.channel_laws.specs.Buffers.{buffer_of, port_of}
use Rattle.channel_laws.specs.Ports.{gap_of}
use Rattle.mesh.specs.Layout.{place_of}
use Rattle.channel_laws.specs.Table.{InStack, State, packets, packets_in}
use Rattle.channel_laws.specs.Calls.{cleared, outcome, short}
use Rattle.channel_laws.specs.Runs.{Event, Handed, Packet, Sits, accepted, collections_of, events, injections, injections_of, packet_of, same_packet, state_after, works, workings}

module _ (reply : Told → Directions) (s : State) where
  -- plane z for a way, with the elevators of a gap and that way's half of its bytes
  abbrev pub filled_plane : Way → ℕ → ℕ → Plane
  filled_plane way z g =
      plane_of s.sizes.width s.sizes.height
      (elevators s.sizes.width s.sizes.height s.links g)
      (map (half way) (plane (s.sizes.width * s.sizes.height) z s.bytes)) reply

  -- a plane without elevators, every half-byte 0
  abbrev pub bare_plane : Plane
  bare_plane = plane_of s.sizes.width s.sizes.height [] (replicate (s.sizes.width * s.sizes.height) 0) reply

  -- a planned stack, in which the guide keeps the rules: every gap has a link, and the half for Up of the plane below
  -- it and the half for Down of the plane above it are lawful; so is a plane without a gap
  pub record Guided : Type 0 where
    pub joined : (g : ℕ) → g + 1 < s.sizes.planes → Joined s.sizes.width s.sizes.height s.links g
    pub up : (g : ℕ) → g + 1 < s.sizes.planes → Rules (filled_plane Up g g)
    pub down : (g : ℕ) → g + 1 < s.sizes.planes → Rules (filled_plane Down (g + 1) g)
    pub none : Rules bare_plane

-- the most moves of a packet: the longest chain in each plane that it visits, and one move across each gap
abbrev pub most_moves : State → Record → ℕ
most_moves s x =
    let crossed = gap x.source.z x.destination.z in
    (crossed + 1) * longest s.sizes.width s.sizes.height + crossed

-- how many packets of a kind the table holds
abbrev pub held : Packet → State → ℕ
held p s = count_by (λ x. same_packet p (packet_of x)) (packets s)

-- the record of a packet is one that the events brought to buffer b of router r, by as many accepted moves as it has moves
abbrev pub Followed : List Event → Router → Buffer → Record → Type 0
Followed past r b x = (k : ℕ) × Sits past k (packet_of x) r b x.moves

-- what holds of a state after the events that led to it
pub record Certificate (reply : Told → Directions) (s : State) (past : List Event) : Type 0 where
  -- some move or collect would be accepted exactly when the table holds a packet
  pub goes_on : 0 < length (packets s) → (c : Call) × (works c ≡ true) × (accepted (outcome reply s c).answer ≡ true)
  pub only_then : (c : Call) → works c ≡ true → accepted (outcome reply s c).answer ≡ true → 0 < length (packets s)
  -- the moves of each packet held or collected are the accepted moves that carried it, and they are bounded
  pub held_moves : (r : Router) (b : Buffer) (x : Record) → InStack s.sizes r → Contains (packets_in s r b) x → Followed past r b x × (x.moves ≤ most_moves s x)
  pub handed_moves : (r : Router) (n : ℕ) (x : Record) (before : List Event) → Handed past r n x before → Followed before r (buffer_of n) x × (x.moves ≤ most_moves s x)
  -- what the events say is in a buffer is held there, and each number is that of one packet, in one buffer
  pub followed_held : (k : ℕ) (p : Packet) (r : Router) (b : Buffer) (n : ℕ) → Sits past k p r b n → (x : Record) × InStack s.sizes r × Contains (packets_in s r b) x × (packet_of x ≡ p) × (x.moves ≡ n)
  pub followed_once : (k : ℕ) (p q : Packet) (r r' : Router) (b b' : Buffer) (n n' : ℕ) → Sits past k p r b n → Sits past k q r' b' n' → (p ≡ q) × (r ≡ r') × (b ≡ b') × (n ≡ n')
  -- whatever calls follow, only so many of them are accepted before the next accepted injection
  pub runs_dry : (later : List Call) → injections (events reply s later) ≡ 0 → workings (events reply s later) ≤ length (packets s) * (s.sizes.planes * (longest s.sizes.width s.sizes.height + 1))
  -- an accepted vertical move crosses a link, one of the gap on its way
  pub crosses : (r : Router) (n m : ℕ) (way : Way) → port_of m ≡ Vertical way → accepted (outcome reply s (Move r n m)).answer ≡ true
      → linked s.sizes.width s.sizes.height s.links (gap_of way r.z) (place_of r) ≡ true
  -- no packet is lost or made up: those injected are those held and those collected
  pub kept_count : (p : Packet) → injections_of p past ≡ held p s + collections_of p past
  -- and each was handed out at its destination
  pub at_home : (r : Router) (n : ℕ) (x : Record) (before : List Event) → Handed past r n x before → r ≡ x.destination

-- the theorem: for every guide, every planned stack and every newly cleared table, after every list of calls
abbrev pub Certified : Type 0
Certified =
    (reply : Told → Directions) (s : State) → Guided reply s → short s ≡ false → (calls : List Call)
    → Certificate reply (state_after reply (cleared s) calls) (events reply (cleared s) calls)
