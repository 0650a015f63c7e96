-- Why moves are refused, by what was found of the packet.
use Rattle.std.proofs.Common.{rules, ◌≡◌, ℕ, true, false, Bool, not, cond, ◌&&◌, List, [], ◌∷◌, Some, None, Ok, Err, nat_lt, refl, arith, sym, ◌∙◌, subst}
use Rattle.std.proofs.lemmas.Bool.{ltb-true}
use Rattle.mesh.specs.declared.compass.Directions.{Directions}
use Rattle.mesh.specs.declared.grid.Router.{Router}
use Rattle.mesh.specs.declared.refusals.Refusal.{Refusal}
use Rattle.mesh.specs.declared.refusals.Refusal.TheVariants.{Outside, EmptyBuffer, Damaged, Arrived, NotPermitted, LeavesStack, Occupied}
use Rattle.mesh.specs.Layout.{in_stack}
use Rattle.routing_laws.specs.Chains.{Told}
use Rattle.channel_laws.specs.declared.buffers.Port.{Port}
use Rattle.channel_laws.specs.Buffers.{buffer_count, buffer_of, port_at, port_count, port_of}
use Rattle.channel_laws.specs.Calls.{damaged, entered_by, first, move_refusal, packet_reasons, short}
use Rattle.channel_laws.specs.Ports.{has_port, leads_out, neighbour, permitted_ports, same_router}
use Rattle.channel_laws.specs.Table.{State, is_empty, record_at}
use Rattle.channel_laws.proofs.Accepting.{moves_on, stack_in}
use Rattle.channels.specs.declared.held.Held.{Held}
use Rattle.channels.specs.Results.{Found}

-- what a port's number stands for
known : (inside : Bool) (q p : Port) → cond inside (Ok q) (Err Outside) ≡ Ok p → (inside ≡ true) × (p ≡ q)
known true q p e = (refl, cc)
known false q p e = let clash : ◌≡◌ {A = ℕ} 0 1 = cc in absurd (omega arith)

pub port_known : (m : ℕ) (p : Port) → port_at m ≡ Ok p → (nat_lt m port_count ≡ true) × (p ≡ port_of m)
port_known m p e = known (nat_lt m port_count) (port_of m) p e

-- what refuses the packet refuses it before what follows
stops : (inside numbered empty broken : Bool) (rest : List (Bool × Refusal)) (x : Refusal)
    → first ((not (inside && numbered), Outside) ∷ (empty, EmptyBuffer) ∷ (broken, Damaged) ∷ []) ≡ Some x
    → first ((not (inside && (numbered && true)), Outside) ∷ (empty, EmptyBuffer) ∷ (broken, Damaged) ∷ rest) ≡ Some x
stops false numbered empty broken rest x e = e
stops true false empty broken rest x e = e
stops true true true broken rest x e = e
stops true true false true rest x e = e
stops true true false false rest x e = absurd (search rules)

-- a packet that cannot be spoken of cannot be moved
pub move_stops : (reply : Told → Directions) (s : State) (r : Router) (n m : ℕ) (x : Refusal) → short s ≡ false → nat_lt m port_count ≡ true
    → first (packet_reasons s r n) ≡ Some x → move_refusal reply s r n m ≡ Some x
move_stops reply s r n m x long port e =
    let y = record_at s r (buffer_of n) in
    let rest = (same_router r y.destination, Arrived)
    ∷ (not (has_port (port_of m) (permitted_ports reply s r (buffer_of n) y)), NotPermitted)
    ∷ (leads_out s.sizes (port_of m) r, LeavesStack)
    ∷ (not (is_empty (record_at s (neighbour (port_of m) r) (entered_by y (port_of m)))), Occupied)
    ∷ [] in
    rw long (rw port (stops (in_stack s.sizes r) (nat_lt n buffer_count) (is_empty y) (damaged s.sizes y) rest x e))

-- a packet that was found, and is kept back by nothing else, can be moved
pub move_goes : (reply : Told → Directions) (s : State) (r : Router) (n m : ℕ) (h : Held) (p : Port) → Found s r n h → p ≡ port_of m → short s ≡ false → nat_lt m port_count ≡ true
    → same_router r h.packet.destination ≡ false → has_port p (permitted_ports reply s h.router h.buffer h.packet) ≡ true → leads_out s.sizes p r ≡ false
    → is_empty (record_at s (neighbour p r) (entered_by h.packet p)) ≡ true → move_refusal reply s r n m ≡ None
move_goes reply s r n m h p found port long number away permitted inside free =
    let x = record_at s r (buffer_of n) in
    moves_on reply s r n m record {
      long = long;
      at = stack_in s.sizes r found.inside;
      buffer = ltb-true n 11 found.coded;
      port = ltb-true m 6 number;
      full = subst (λ y. is_empty y ≡ false) found.packet found.full;
      whole = subst (λ y. damaged s.sizes y ≡ false) found.packet found.sound;
      away = subst (λ y. same_router r y.destination ≡ false) found.packet away;
      permitted = (λ i. has_port (sym port i) (permitted_ports reply s (sym found.router i) (sym found.buffer i) (sym found.packet i))) ∙ permitted;
      inside = subst (λ q. leads_out s.sizes q r ≡ false) port inside;
      free = (λ i. is_empty (record_at s (neighbour (sym port i) r) (entered_by (sym found.packet i) (sym port i)))) ∙ free;
    }
