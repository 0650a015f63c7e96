-- The buffers and ports of a router: their numbers, and which buffer a move enters.
use Rattle.std.specs.Prelude.{◌≡◌, ℕ, ◌+◌, ◌-◌, ◌<◌, cond, Ok, Err, Result, ◌==◌, nat_lt}
use Rattle.mesh.specs.declared.compass.Direction.{Direction}
use Rattle.mesh.specs.declared.compass.Direction.TheVariants.{North, East, South, West}
use Rattle.mesh.specs.declared.compass.Way.TheVariants.{Up, Down}
use Rattle.mesh.specs.declared.grid.Router.{Router}
use Rattle.mesh.specs.declared.refusals.Refusal.{Refusal}
use Rattle.mesh.specs.declared.refusals.Refusal.TheVariants.{Outside}
use Rattle.routing_laws.specs.Chains.{back}
use Rattle.channel_laws.specs.declared.buffers.Buffer.{Buffer}
use Rattle.channel_laws.specs.declared.buffers.Buffer.TheVariants.{Local, Side, Below, Above}
use Rattle.channel_laws.specs.declared.buffers.Network.{Network}
use Rattle.channel_laws.specs.declared.buffers.Network.TheVariants.{Zero, One}
use Rattle.channel_laws.specs.declared.buffers.Port.{Port}
use Rattle.channel_laws.specs.declared.buffers.Port.TheVariants.{Planar, Vertical}

-- the order of the four sides, in which the buffers and the ports are numbered
abbrev pub side_number : Direction → ℕ
side_number East = 0
side_number West = 1
side_number North = 2
side_number South = 3

-- the side with a place in that order
abbrev pub side_at : ℕ → Direction
side_at n = cond (n == 0) East (cond (n == 1) West (cond (n == 2) North South))

-- how many buffers a router has
abbrev pub buffer_count : ℕ
buffer_count = 11

-- how many ports a router has
abbrev pub port_count : ℕ
port_count = 6

-- the number of a buffer: 0 Local, 1 to 4 the sides on network 0, 5 to 8 those on network 1, 9 Below, 10 Above
abbrev pub buffer_number : Buffer → ℕ
buffer_number Local = 0
buffer_number (Side Zero d) = 1 + side_number d
buffer_number (Side One d) = 5 + side_number d
buffer_number Below = 9
buffer_number Above = 10

-- the buffer with a number
abbrev pub buffer_of : ℕ → Buffer
buffer_of n =
    cond (n == 0) Local
    (cond (nat_lt n 5) (Side Zero (side_at (n - 1)))
    (cond (nat_lt n 9) (Side One (side_at (n - 5)))
    (cond (n == 9) Below Above)))

-- the number of a port: 0 East, 1 West, 2 North, 3 South, 4 Up, 5 Down
abbrev pub port_number : Port → ℕ
port_number (Planar d) = side_number d
port_number (Vertical Up) = 4
port_number (Vertical Down) = 5

-- the port with a number
abbrev pub port_of : ℕ → Port
port_of n = cond (nat_lt n 4) (Planar (side_at n)) (cond (n == 4) (Vertical Up) (Vertical Down))

-- what a number stands for at a call: a buffer or a port, or one outside
abbrev pub buffer_at : ℕ → Result Buffer Refusal
buffer_at n = cond (nat_lt n buffer_count) (Ok (buffer_of n)) (Err Outside)

abbrev pub port_at : ℕ → Result Port Refusal
port_at n = cond (nat_lt n port_count) (Ok (port_of n)) (Err Outside)

-- a buffer or a port is the one with its number, and a number below their count is that of its buffer or port
pub record Coded : Type 0 where
  pub buffer_back : (b : Buffer) → buffer_of (buffer_number b) ≡ b
  pub buffer_below : (b : Buffer) → buffer_number b < buffer_count
  pub buffer_reached : (n : ℕ) → n < buffer_count → buffer_number (buffer_of n) ≡ n
  pub port_back : (p : Port) → port_of (port_number p) ≡ p
  pub port_below : (p : Port) → port_number p < port_count
  pub port_reached : (n : ℕ) → n < port_count → port_number (port_of n) ≡ n

-- the network that a packet rides: 1 if its destination's plane is below its source's
abbrev pub network : Router → Router → Network
network source destination = cond (nat_lt destination.z source.z) One Zero

-- the buffer that a packet enters which left its router by a port: the opposite side of its network
abbrev pub entered : Port → Network → Buffer
entered (Planar d) n = Side n (back d)
entered (Vertical Up) n = Below
entered (Vertical Down) n = Above
