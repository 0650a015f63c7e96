-- What the planner answers to bytes: the listing of a plan by MD-safe, or of the first fault.
use Rattle.std.specs.Prelude.{ℕ, List, Result}
use Rattle.mesh.specs.declared.refusals.Refusal.{Refusal}
use Rattle.mesh.specs.declared.stack.Sizes.{Sizes}
use Rattle.description_laws.specs.declared.faults.StackFault.{StackFault}
use Rattle.description.specs.declared.reader.Description.{Description}
use Rattle.description.specs.Reading.{Described, Fails}
use Rattle.listing.specs.Listed.{Listed}
use Rattle.listing.specs.Text.{fault_text, plan_text}
use Rattle.routing_laws.specs.Nearest.{safe_half}
use Rattle.routing_laws.specs.Plan.{job, planned}

-- the location bytes of a stack by MD-safe, which asks nobody
abbrev pub safe_plan : Sizes → List ℕ → List ℕ
safe_plan s links = planned {C = Unit {0}} (job s links (λ t _. safe_half t.width t.height t.elevators) (λ _ c. c)) tt

-- the text for some bytes
pub data Says (bytes : List ℕ) : List ℕ → Type 0 where
  plan : (d : Description) (links : List ℕ) → Described bytes d links → Says bytes (plan_text d.sizes (safe_plan d.sizes links))
  fault : (f : StackFault) → Fails bytes f → Says bytes (fault_text f)

-- the text is listed into the buffer
pub record Answered (bytes entry exit : List ℕ) (r : Result ℕ Refusal) : Type 0 where
  pub text : List ℕ
  pub says : Says bytes text
  pub listed : Listed text entry exit r
