-- The journey of one packet on a stack of 3 by 3 by 2 with links at (0, 0) and (2, 2).
use Rattle.std.specs.Prelude.{ℕ, List, [], ◌∷◌, replicate, Ok}
use Rattle.std.proofs.Common.{lit≤}
use Rattle.mesh.specs.declared.grid.Router.{Router}
use Rattle.mesh.specs.declared.stack.Sizes.{Sizes}
use Rattle.mesh.specs.Orders.{xy}
use Rattle.routing_laws.specs.Plan.{Job, job}
use Rattle.routing_laws.specs.Ties.{tie_half, tie_next}
use Rattle.channel_laws.specs.declared.calls.Done.TheVariants.{Collected, Injected, Moved}
use Rattle.channel_laws.specs.declared.calls.Call.{Call}
use Rattle.channel_laws.specs.declared.calls.Call.TheVariants.{Collect, Inject, Move}
use Rattle.channel_laws.specs.declared.records.Record.{Record}
use Rattle.channel_laws.specs.Calls.{Answer, cleared}
use Rattle.channel_laws.specs.Table.{State, empty, state}
use Rattle.samples.specs.Choosing.{first_position, unmoved}

abbrev pub stack : Sizes
stack = record {
  width = 3;
  height = 3;
  planes = 2;
  some_columns = lit≤ tt;
  few_columns = lit≤ tt;
  some_rows = lit≤ tt;
  few_rows = lit≤ tt;
  some_planes = lit≤ tt;
  few_planes = lit≤ tt;
}

abbrev pub links : List ℕ
links = 1 ∷ 0 ∷ 0 ∷ 0 ∷ 0 ∷ 0 ∷ 0 ∷ 0 ∷ 1 ∷ []

-- planned by random-offline under XY with First
abbrev pub by_first : Job (Unit {0})
by_first = job stack links (tie_half first_position unmoved xy) (tie_next first_position unmoved xy)

-- its location bytes
abbrev pub locations : List ℕ
locations = 0x00 ∷ 0x08 ∷ 0x01 ∷ 0x04 ∷ 0x0c ∷ 0x01 ∷ 0x04 ∷ 0x02 ∷ 0x00 ∷ 0x00 ∷ 0x80 ∷ 0x10 ∷ 0x40 ∷ 0xc0 ∷ 0x10 ∷ 0x40 ∷ 0x20 ∷ 0x00 ∷ []

-- with a clear table
abbrev pub loaded : State
loaded = cleared (state stack links locations (replicate 198 empty))

abbrev pub router : ℕ → ℕ → ℕ → Router
router x y z = record { x = x; y = y; z = z }

-- a packet from (1, 1, 0) to (1, 1, 1), with so many moves
abbrev pub traveller : ℕ → Record
traveller n = record { tag = 7001; moves = n; mark = 1; source = router 1 1 0; destination = router 1 1 1 }

-- injected, moved West, South, Up, East and North, and collected; the latest call first
abbrev pub journey : List Call
journey =
    Collect (router 1 1 1) 4
    ∷ Move (router 1 0 1) 2 2
    ∷ Move (router 0 0 1) 9 0
    ∷ Move (router 0 0 0) 3 4
    ∷ Move (router 0 1 0) 1 3
    ∷ Move (router 1 1 0) 0 1
    ∷ Inject (router 1 1 0) (router 1 1 1) 7001
    ∷ []

-- what they answer
abbrev pub arrivals : List Answer
arrivals = Ok (Collected (traveller 5)) ∷ Ok Moved ∷ Ok Moved ∷ Ok Moved ∷ Ok Moved ∷ Ok Moved ∷ Ok Injected ∷ []
