-- What an accepted call has passed, and what it takes to be accepted.
use Rattle.std.proofs.Common.{◌≡◌, ℕ, ◌<◌, Bool, true, false, eqb, ltb, List, [], ◌∷◌, Some, None, Option, sym, refl, arith, Ok, Err}
use Rattle.std.proofs.lemmas.Bool.{and_from, and_parts, eqb-true, lt-ltb, ltb-true, not-false, not_from_true, true≢false}
use Rattle.mesh.specs.declared.compass.Directions.{Directions}
use Rattle.mesh.specs.declared.grid.Router.{Router}
use Rattle.mesh.specs.declared.refusals.Refusal.{Refusal}
use Rattle.mesh.specs.declared.stack.Sizes.{Sizes}
use Rattle.routing_laws.specs.Chains.{Told}
use Rattle.channel_laws.specs.declared.buffers.Buffer.TheVariants.{Local}
use Rattle.channel_laws.specs.declared.calls.Done.{Done}
use Rattle.channel_laws.specs.Buffers.{buffer_of, port_of}
use Rattle.mesh.specs.Layout.{in_stack}
use Rattle.channel_laws.specs.Table.{InStack, State, is_empty, record_at}
use Rattle.channel_laws.specs.Ports.{has_port, leads_out, neighbour, permitted_ports, same_router}
use Rattle.channel_laws.specs.Calls.{Outcome, collect_reasons, collect_refusal, damaged, decided, entered_by, first, inject_reasons, inject_refusal, move_reasons, move_refusal, short}
use Rattle.channel_laws.specs.Runs.{accepted}

-- none of the reasons holds
abbrev Free : List (Bool × Refusal) → Type 0
Free [] = Unit {0}
Free (reason ∷ rest) = (reason.0 ≡ false) × Free rest

-- nothing is refused exactly when no reason holds
none_held : (xs : List (Bool × Refusal)) → first xs ≡ None → Free xs
none_held [] e = tt
none_held ((true, x) ∷ xs) e = let z : ◌≡◌ {A = ℕ} 0 1 = cc in absurd (omega arith)
none_held ((false, x) ∷ xs) e = (refl, none_held xs e)

none_holds : (xs : List (Bool × Refusal)) → Free xs → first xs ≡ None
none_holds [] a = refl
none_holds ((true, x) ∷ xs) a = absurd (true≢false a.0)
none_holds ((false, x) ∷ xs) a = none_holds xs a.1

-- the test for a router of the stack
pub stack_in : (s : Sizes) (r : Router) → in_stack s r ≡ true → InStack s r
stack_in s r e =
    let a = and_parts (ltb r.x s.width) _ e in
    let b = and_parts (ltb r.y s.height) _ a.1 in
    record { column = ltb-true _ _ a.0; row = ltb-true _ _ b.0; plane = ltb-true _ _ b.1 }

pub in_stacked : (s : Sizes) (r : Router) → InStack s r → in_stack s r ≡ true
in_stacked s r i = and_from _ _ (lt-ltb _ _ i.column) (and_from _ _ (lt-ltb _ _ i.row) (lt-ltb _ _ i.plane))

-- the test for the same router
pub router_same : (r q : Router) → same_router r q ≡ true → r ≡ q
router_same r q e =
    let a = and_parts (eqb r.x q.x) _ e in
    let b = and_parts (eqb r.y q.y) _ a.1 in
    λ i. record { x = eqb-true r.x q.x a.0 i; y = eqb-true r.y q.y b.0 i; z = eqb-true r.z q.z b.1 i }

-- an outcome is what was to be done, or a refusal
pub decided_both : (P : Outcome → Type 0) (o : Option Refusal) (done : Done) (new old : State) → (o ≡ None → P record { answer = Ok done; after = new })
    → ((x : Refusal) → P record { answer = Err x; after = old }) → P (decided o done new old)
decided_both P None done new old did not_done = did refl
decided_both P (Some x) done new old did not_done = not_done x

pub accepted_none : (o : Option Refusal) (done : Done) (new old : State) → accepted (decided o done new old).answer ≡ true → o ≡ None
accepted_none None done new old e = refl
accepted_none (Some x) done new old e = absurd (true≢false (sym e))

pub none_accepted : (o : Option Refusal) (done : Done) (new old : State) → o ≡ None → accepted (decided o done new old).answer ≡ true
none_accepted None done new old e = refl
none_accepted (Some x) done new old e = let z : ◌≡◌ {A = ℕ} 0 1 = cc in absurd (omega arith)

-- an accepted injection
pub record CanInject (s : State) (source destination : Router) : Type 0 where
  pub from : InStack s.sizes source
  pub to : InStack s.sizes destination
  pub free : is_empty (record_at s source Local) ≡ true

pub can_inject : (s : State) (source destination : Router) → inject_refusal s source destination ≡ None → CanInject s source destination
can_inject s source destination e =
    let a = none_held (inject_reasons s source destination) e in
    let both = and_parts (in_stack s.sizes source) _ (not-false _ a.1.0) in
    record { from = stack_in _ _ both.0; to = stack_in _ _ both.1; free = not-false _ a.1.1.0 }

-- an accepted collect
pub record CanCollect (s : State) (r : Router) (n : ℕ) : Type 0 where
  pub long : short s ≡ false
  pub at : InStack s.sizes r
  pub buffer : n < 11
  pub full : is_empty (record_at s r (buffer_of n)) ≡ false
  pub whole : damaged s.sizes (record_at s r (buffer_of n)) ≡ false
  pub home : same_router r (record_at s r (buffer_of n)).destination ≡ true

pub can_collect : (s : State) (r : Router) (n : ℕ) → collect_refusal s r n ≡ None → CanCollect s r n
can_collect s r n e =
    let a = none_held (collect_reasons s r n) e in
    let both = and_parts (in_stack s.sizes r) _ (not-false _ a.1.0) in
    record { long = a.0; at = stack_in _ _ both.0; buffer = ltb-true _ _ both.1; full = a.1.1.0; whole = a.1.1.1.0; home = not-false _ a.1.1.1.1.0 }

pub collects : (s : State) (r : Router) (n : ℕ) → CanCollect s r n → collect_refusal s r n ≡ None
collects s r n c = none_holds (collect_reasons s r n) (
  c.long,
  (
    not_from_true _ (and_from _ _ (in_stacked _ _ c.at) (lt-ltb _ _ c.buffer)),
    (c.full, (c.whole, (not_from_true _ c.home, tt))),
  ),
)

module _ (reply : Told → Directions) where
  -- an accepted move
  pub record CanMove (s : State) (r : Router) (n m : ℕ) : Type 0 where
    pub long : short s ≡ false
    pub at : InStack s.sizes r
    pub buffer : n < 11
    pub port : m < 6
    pub full : is_empty (record_at s r (buffer_of n)) ≡ false
    pub whole : damaged s.sizes (record_at s r (buffer_of n)) ≡ false
    pub away : same_router r (record_at s r (buffer_of n)).destination ≡ false
    pub permitted : has_port (port_of m) (permitted_ports reply s r (buffer_of n) (record_at s r (buffer_of n))) ≡ true
    pub inside : leads_out s.sizes (port_of m) r ≡ false
    pub free : is_empty (record_at s (neighbour (port_of m) r) (entered_by (record_at s r (buffer_of n)) (port_of m))) ≡ true

  pub can_move : (s : State) (r : Router) (n m : ℕ) → move_refusal reply s r n m ≡ None → CanMove s r n m
  can_move s r n m e =
      let a = none_held (move_reasons reply s r n m) e in
      let both = and_parts (in_stack s.sizes r) _ (not-false _ a.1.0) in
      let numbers = and_parts (ltb n 11) _ both.1 in
      record {
        long = a.0;
        at = stack_in _ _ both.0;
        buffer = ltb-true _ _ numbers.0;
        port = ltb-true _ _ numbers.1;
        full = a.1.1.0;
        whole = a.1.1.1.0;
        away = a.1.1.1.1.0;
        permitted = not-false _ a.1.1.1.1.1.0;
        inside = a.1.1.1.1.1.1.0;
        free = not-false _ a.1.1.1.1.1.1.1.0;
      }

  pub moves_on : (s : State) (r : Router) (n m : ℕ) → CanMove s r n m → move_refusal reply s r n m ≡ None
  moves_on s r n m c = none_holds (move_reasons reply s r n m) (
    c.long,
    (
      not_from_true _ (and_from _ _ (in_stacked _ _ c.at) (and_from _ _ (lt-ltb _ _ c.buffer) (lt-ltb _ _ c.port))),
      (c.full, (c.whole, (c.away, (not_from_true _ c.permitted, (c.inside, (not_from_true _ c.free, tt)))))),
    ),
  )
