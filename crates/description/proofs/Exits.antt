-- Errors that are passed up.
use Rattle.std.proofs.Common.{◌≡◌, ℕ, IsErrAnd, Ok, Err, Result, sym, refl, subst, MatchResult}
use Rattle.mesh.specs.declared.refusals.Refusal.{Refusal}
use Rattle.description_laws.specs.declared.faults.StackFault.{StackFault}
use Rattle.description_laws.specs.declared.faults.StackFault.TheVariants.{Stack}

-- a refusal, as the fault of a record
pub located : {T : Type 0} {F : Refusal → StackFault → Type 0} (a : Result T Refusal) (r : Result T StackFault) (place : ℕ) → MatchResult a (λ x. r ≡ Ok x) (λ e. IsErrAnd r (F e)) → ((e : Refusal) (f : StackFault) → F e f → f ≡ Stack e place) → MatchResult r (λ x. a ≡ Ok x) (λ f. (e : Refusal) × (a ≡ Err e) × (f ≡ Stack e place))
located (Ok x) (Ok y) place h k = cc
located (Ok x) (Err f) place h k = cc
located (Err e) (Ok y) place h k = elim h [ ]
located (Err e) (Err f) place h k = (e, refl, k e f h)

-- what the exit of a `?` returns: the callee's fault, converted
pub exit : {T E : Type 0} (r : Result T E) {y : E} (P : T → Type 0) (Q : E → Type 0) → IsErrAnd r (λ z. z ≡ y) → Q y → MatchResult r P Q
exit (Ok x) P Q b q = elim b [ ]
exit (Err z) P Q e q = subst Q (sym e) q
