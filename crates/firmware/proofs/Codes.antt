-- A result's number is that of its answer.
use Rattle.std.proofs.Common.{◌≡◌, Ok, Err, Result, refl}
use Rattle.mesh.specs.declared.refusals.Refusal.{Refusal}
use Rattle.channel_laws.specs.declared.calls.Done.{Done}
use Rattle.channels.specs.Results.{answer_by}
use Rattle.firmware.specs.Opening.{code}

pub code_by : {A : Type 0} (done : A → Done) (r : Result A Refusal) → code r ≡ code (answer_by done r)
code_by done (Ok x) = refl
code_by done (Err x) = refl
