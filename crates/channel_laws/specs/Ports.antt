-- The ports that a packet is permitted, and where a port leads.
use Rattle.std.specs.Prelude.{ℕ, ◌+◌, ◌-◌, Bool, true, false, cond, ◌&&◌, Some, None, Option, ◌==◌, nat_le, nat_lt, slice_index}
use Rattle.mesh.specs.declared.compass.Direction.{Direction}
use Rattle.mesh.specs.declared.compass.Direction.TheVariants.{North, East, South, West}
use Rattle.mesh.specs.declared.compass.Directions.{Directions}
use Rattle.mesh.specs.declared.compass.Trip.TheVariants.{Seeking, Bound}
use Rattle.mesh.specs.declared.compass.Way.{Way}
use Rattle.mesh.specs.declared.compass.Way.TheVariants.{Up, Down}
use Rattle.mesh.specs.declared.grid.Place.{Place}
use Rattle.mesh.specs.declared.grid.Router.{Router}
use Rattle.mesh.specs.declared.stack.Sizes.{Sizes}
use Rattle.mesh.specs.Compass.{has, nowhere}
use Rattle.mesh.specs.Halves.{half}
use Rattle.mesh.specs.Layout.{cell, place_of}
use Rattle.routing_laws.specs.Chains.{Told, tell}
use Rattle.routing_laws.specs.Elevators.{linked}
use Rattle.channel_laws.specs.declared.buffers.Buffer.{Buffer}
use Rattle.channel_laws.specs.declared.buffers.Buffer.TheVariants.{Local, Side, Below, Above}
use Rattle.channel_laws.specs.declared.buffers.Port.{Port}
use Rattle.channel_laws.specs.declared.buffers.Port.TheVariants.{Planar, Vertical}
use Rattle.channel_laws.specs.declared.buffers.Ports.{Ports}
use Rattle.channel_laws.specs.declared.records.Record.{Record}
use Rattle.channel_laws.specs.Table.{State, router_at}

-- whether a set holds a port
abbrev pub has_port : Port → Ports → Bool
has_port (Planar d) s = has d s.planar
has_port (Vertical Up) s = s.up
has_port (Vertical Down) s = s.down

-- ports of the plane alone
abbrev pub planar_only : Directions → Ports
planar_only ds = record { planar = ds; up = false; down = false }

-- the port of a way alone
abbrev pub way_only : Way → Ports
way_only Up = record { planar = nowhere; up = true; down = false }
way_only Down = record { planar = nowhere; up = false; down = true }

-- the side on which the packet of a buffer came in
abbrev pub side_of : Buffer → Option Direction
side_of Local = None
side_of (Side n d) = Some d
side_of Below = None
side_of Above = None

-- whether two routers are the same
abbrev pub same_router : Router → Router → Bool
same_router r q = r.x == q.x && (r.y == q.y && r.z == q.z)

-- the way from a plane to another: Up if that lies above
abbrev pub way_to : ℕ → ℕ → Way
way_to z to = cond (nat_lt z to) Up Down

-- the gap that a way crosses from a plane
abbrev pub gap_of : Way → ℕ → ℕ
gap_of Up z = z
gap_of Down z = z - 1

-- whether a router is an elevator for a way
abbrev pub is_elevator : State → Way → Router → Bool
is_elevator s way r = linked s.sizes.width s.sizes.height s.links (gap_of way r.z) (place_of r)

-- the half-byte of a router for a way
abbrev pub half_of : State → Way → Router → ℕ
half_of s way r = half way (slice_index s.bytes (cell s.sizes.width s.sizes.height r.z (place_of r)))

module _ (reply : Told → Directions) (s : State) (r : Router) (b : Buffer) (x : Record) where
  -- what the guide replies for a packet that is bound for a router of this plane
  abbrev pub bound_ports : Ports
  bound_ports = planar_only (reply (tell s.sizes (place_of r) 0 (place_of x.destination) (side_of b) Bound))

  -- and for one that seeks an elevator
  abbrev pub seeking_ports : Way → Ports
  seeking_ports way = planar_only (reply (tell s.sizes (place_of r) (half_of s way r) (place_of x.destination) (side_of b) Seeking))

  -- out of its destination's plane: the way's own port at an elevator, and elsewhere what the guide replies
  abbrev pub crossing_ports : Way → Ports
  crossing_ports way = cond (is_elevator s way r) (way_only way) (seeking_ports way)

  -- the ports that packet x in buffer b of router r is permitted; none where it has arrived
  abbrev pub permitted_ports : Ports
  permitted_ports =
      cond (same_router r x.destination) (planar_only nowhere)
      (cond (r.z == x.destination.z) bound_ports
      (crossing_ports (way_to r.z x.destination.z)))

-- the place beside another; `leads_out` says where there is none
abbrev pub beside : Direction → Place → Place
beside North p = record { x = p.x; y = p.y + 1 }
beside East p = record { x = p.x + 1; y = p.y }
beside South p = record { x = p.x; y = p.y - 1 }
beside West p = record { x = p.x - 1; y = p.y }

-- the router to which a port leads
abbrev pub neighbour : Port → Router → Router
neighbour (Planar d) r = router_at r.z (beside d (place_of r))
neighbour (Vertical Up) r = router_at (r.z + 1) (place_of r)
neighbour (Vertical Down) r = router_at (r.z - 1) (place_of r)

-- whether a port leads out of the stack
abbrev pub leads_out : Sizes → Port → Router → Bool
leads_out s (Planar North) r = nat_le s.height (r.y + 1)
leads_out s (Planar East) r = nat_le s.width (r.x + 1)
leads_out s (Planar South) r = r.y == 0
leads_out s (Planar West) r = r.x == 0
leads_out s (Vertical Up) r = nat_le s.planes (r.z + 1)
leads_out s (Vertical Down) r = r.z == 0
