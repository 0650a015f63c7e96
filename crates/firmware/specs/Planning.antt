-- Planning and listing for C.
use Rattle.std.specs.Prelude.{◌≡◌, ℕ, ◌*◌, ◌<◌, ◌≤◌, List, length, Ok, Err, Result}
use Rattle.mesh.specs.declared.refusals.Refusal.{Refusal}
use Rattle.mesh.specs.declared.refusals.Refusal.TheVariants.{OutOfRange, ShortBuffer, ZeroState}
use Rattle.mesh.specs.declared.stack.Sizes.{Sizes}
use Rattle.mesh.specs.Numbers.{number_of}
use Rattle.listing.specs.Listed.{Listed}
use Rattle.listing.specs.Text.{plan_text}
use Rattle.routing.specs.declared.register.ShiftRegister.{ShiftRegister}
use Rattle.routing_laws.specs.Plan.{Planned, job}
use Rattle.schemes.specs.declared.scheme.Scheme.{Scheme}
use Rattle.schemes.specs.declared.tie.Tie.{Tie}
use Rattle.schemes.specs.declared.tie.Tie.TheVariants.{First, Last, Register}
use Rattle.schemes.specs.Schemes.{scheme_half, scheme_next}
use Rattle.schemes.specs.Ties.{tie_after, tie_position}
use Rattle.firmware.specs.Opening.{code}

-- the tie rule with a number: 0 first, 1 last, 2 the register with a state
pub data TieIs : ℕ → ℕ → Tie → Type 0 where
  first : {state : ℕ} → TieIs 0 state First
  last : {state : ℕ} → TieIs 1 state Last
  register : {state : ℕ} (r : ShiftRegister) → r.state ≡ state → TieIs 2 state (Register r)

-- why there is none: a register of zero, or a number above 2
pub data NoTie : ℕ → ℕ → Refusal → Type 0 where
  zero : {state : ℕ} → state ≡ 0 → NoTie 2 state ZeroState
  unknown : {n state : ℕ} → 2 < n → NoTie n state OutOfRange

-- the state that is handed back: the register's, or what was there
abbrev pub tie_state : ℕ → Tie → ℕ
tie_state old First = old
tie_state old Last = old
tie_state old (Register r) = r.state

-- what a plan comes to: the library's plan by the scheme and the tie rule, or a tie rule that is refused
pub data PlannedBy (s : Sizes) (f : Scheme) (n state : ℕ) (links bytes bytes' : List ℕ) (state' r : ℕ) : Type 0 where
  planned : (t t' : Tie) (result : Result (Unit {0}) Refusal) → TieIs n state t → Planned (job s links (scheme_half tie_position tie_after f) (scheme_next tie_position tie_after f)) bytes t bytes' t' result
      → r ≡ code result → state' ≡ tie_state state t' → PlannedBy s f n state links bytes bytes' state' r
  untied : (x : Refusal) → NoTie n state x → r ≡ number_of x → bytes' ≡ bytes → state' ≡ state → PlannedBy s f n state links bytes bytes' state' r

-- the count that is handed back
abbrev pub count_after : ℕ → Result ℕ Refusal → ℕ
count_after old (Ok n) = n
count_after old (Err x) = old

-- what listing a plan comes to
pub record ListedPlan (s : Sizes) (bytes out out' : List ℕ) (count count' r : ℕ) : Type 0 where
  pub result : Result ℕ Refusal
  pub few : length bytes < s.planes * (s.width * s.height) → (result ≡ Err ShortBuffer) × (out' ≡ out)
  pub listed : s.planes * (s.width * s.height) ≤ length bytes → Listed (plan_text s bytes) out out' result
  pub number : r ≡ code result
  pub counted : count' ≡ count_after count result
