-- What a call for C tests first, and how it answers.
use Rattle.std.specs.Prelude.{◌≡◌, ℕ, cond, Ok, Err, Result, ◌==◌}
use Rattle.mesh.specs.declared.refusals.Refusal.{Refusal}
use Rattle.mesh.specs.declared.refusals.Refusal.TheVariants.{OutOfRange}
use Rattle.mesh.specs.declared.stack.Sizes.{Sizes}
use Rattle.mesh.specs.declared.turns.TurnOrder.{TurnOrder}
use Rattle.mesh.specs.Layout.{Range, SameSizes}
use Rattle.mesh.specs.Numbers.{number_of}
use Rattle.mesh.specs.Orders.{Decided, SameOrder}
use Rattle.schemes.specs.declared.scheme.Scheme.{Scheme}
use Rattle.schemes.specs.declared.scheme.Scheme.TheVariants.{MdSafe, Optimistic, RandomOffline}
use Rattle.firmware.specs.declared.shapes.Stack.{Stack}

-- 0, or the refusal's number
abbrev pub code : {T : Type 0} → Result T Refusal → ℕ
code (Ok x) = 0
code (Err x) = number_of x

-- the scheme with a number: 0 MD-safe, 1 random-offline, 2 optimistic; any other is out of range
abbrev pub scheme_of : ℕ → TurnOrder → Result Scheme Refusal
scheme_of n o = cond (n == 0) (Ok (MdSafe o)) (cond (n == 1) (Ok (RandomOffline o)) (cond (n == 2) (Ok Optimistic) (Err OutOfRange)))

-- a stack whose sizes and scheme these are
pub record Opens (t : Stack) (s : Sizes) (f : Scheme) : Type 0 where
  pub sizes : SameSizes s t.width t.height t.planes
  pub order : TurnOrder
  pub sets : SameOrder order t.north t.east t.south t.west
  pub scheme : scheme_of t.scheme order ≡ Ok f

-- why a stack is refused: first its sizes, then its turn order, then its scheme
pub data Refuses (t : Stack) : Refusal → Type 0 where
  sizes : (Range t.width t.height t.planes → ⊥) → Refuses t OutOfRange
  order : {x : Refusal} (s : Sizes) → SameSizes s t.width t.height t.planes → Decided t.north t.east t.south t.west (Err x) → Refuses t x
  scheme : {x : Refusal} (s : Sizes) → SameSizes s t.width t.height t.planes → (o : TurnOrder) → SameOrder o t.north t.east t.south t.west → scheme_of t.scheme o ≡ Err x → Refuses t x

-- a call on a stack: what it does where the stack is sound, or what it leaves where it is refused
pub data Called (t : Stack) (inside : Sizes → Scheme → Type 0) (outside : Refusal → Type 0) : Type 0 where
  opened : (s : Sizes) (f : Scheme) → Opens t s f → inside s f → Called t inside outside
  refused : (x : Refusal) → Refuses t x → outside x → Called t inside outside
