-- A vertical port is permitted only at an elevator for its way.
use Rattle.std.proofs.Common.{◌≡◌, Bool, true, false, cond, eqb, refl, subst}
use Rattle.std.proofs.lemmas.Bool.{false≢true}
use Rattle.mesh.specs.declared.compass.Directions.{Directions}
use Rattle.mesh.specs.declared.compass.Way.{Way}
use Rattle.mesh.specs.declared.compass.Way.TheVariants.{Up, Down}
use Rattle.mesh.specs.declared.grid.Router.{Router}
use Rattle.routing_laws.specs.Chains.{Told}
use Rattle.channel_laws.specs.declared.buffers.Buffer.{Buffer}
use Rattle.channel_laws.specs.declared.buffers.Port.TheVariants.{Vertical}
use Rattle.channel_laws.specs.declared.records.Record.{Record}
use Rattle.mesh.specs.Compass.{nowhere}
use Rattle.channel_laws.specs.Ports.{bound_ports, has_port, is_elevator, permitted_ports, planar_only, same_router, seeking_ports, way_only, way_to}
use Rattle.channel_laws.specs.Table.{State}

no_vertical : (way : Way) (ds : Directions) → has_port (Vertical way) (planar_only ds) ≡ true → ⊥
no_vertical Up ds t = false≢true t
no_vertical Down ds t = false≢true t

same_way : (way own : Way) → has_port (Vertical way) (way_only own) ≡ true → own ≡ way
same_way Up Up t = refl
same_way Up Down t = absurd (false≢true t)
same_way Down Up t = absurd (false≢true t)
same_way Down Down t = refl

pub at_elevator : (reply : Told → Directions) (s : State) (r : Router) (b : Buffer) (x : Record) (way : Way) → has_port (Vertical way) (permitted_ports reply s r b x) ≡ true → is_elevator s way r ≡ true
at_elevator reply s r b x way t = pick (same_router r x.destination) (eqb r.z x.destination.z) (is_elevator s own r) refl t
  where
    own : Way
    own = way_to r.z x.destination.z

    pick : (home level here : Bool) → is_elevator s own r ≡ here
        → has_port (Vertical way) (cond home (planar_only nowhere) (cond level (bound_ports reply s r b x) (cond here (way_only own) (seeking_ports reply s r b x own)))) ≡ true → is_elevator s way r ≡ true
    pick true level here e t = absurd (no_vertical way nowhere t)
    pick false true here e t = absurd (no_vertical way _ t)
    pick false false true e t = subst (λ v. is_elevator s v r ≡ true) (same_way way own t) e
    pick false false false e t = absurd (no_vertical way _ t)
