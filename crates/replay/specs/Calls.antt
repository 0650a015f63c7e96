-- The numbers of a line, in their order.
use Rattle.std.specs.Prelude.{ℕ, ◌+◌, List, slice_index}
use Rattle.mesh.specs.declared.grid.Link.{Link}
use Rattle.mesh.specs.declared.grid.Router.{Router}
use Rattle.channel_laws.specs.declared.calls.Call.{Call}
use Rattle.channel_laws.specs.declared.calls.Call.TheVariants.{Collect, Inject, Move}
use Rattle.description_laws.specs.declared.records.Extent.{Extent}
use Rattle.description_laws.specs.declared.records.SetNumbers.{SetNumbers}

-- three numbers from the i-th on: X Y Z
abbrev pub router_from : ℕ → List ℕ → Router
router_from i n = record { x = slice_index n i; y = slice_index n (i + 1); z = slice_index n (i + 2) }

-- stack W H K
abbrev pub stack_from : List ℕ → Extent
stack_from n = record { width = slice_index n 0; height = slice_index n 1; planes = slice_index n 2 }

-- order N E S W
abbrev pub order_from : List ℕ → SetNumbers
order_from n = record { north = slice_index n 0; east = slice_index n 1; south = slice_index n 2; west = slice_index n 3 }

-- link X Y GAP
abbrev pub link_from : List ℕ → Link
link_from n = record { x = slice_index n 0; y = slice_index n 1; gap = slice_index n 2 }

-- inject SX SY SZ DX DY DZ TAG
abbrev pub inject_from : List ℕ → ℕ → Call
inject_from n tag = Inject (router_from 0 n) (router_from 3 n) tag

-- move X Y Z BUFFER PORT
abbrev pub move_from : List ℕ → Call
move_from n = Move (router_from 0 n) (slice_index n 3) (slice_index n 4)

-- collect X Y Z BUFFER
abbrev pub collect_from : List ℕ → Call
collect_from n = Collect (router_from 0 n) (slice_index n 3)
