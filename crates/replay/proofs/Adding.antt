-- A script grows by what its next line adds.
use Rattle.std.proofs.Common.{◌≡◌, ℕ, List, OnOk, Ok, Err, Result, sym, subst₂}
use Rattle.channel_laws.specs.declared.calls.Call.{Call}
use Rattle.replay.specs.declared.faults.Reason.{Reason}
use Rattle.replay.specs.declared.lines.Line.{Line}
use Rattle.replay.specs.declared.script.Draft.{Draft}
use Rattle.replay.specs.declared.script.Stage.{Stage}
use Rattle.replay.specs.Scripts.{Added, Adds, Grown}

pub added : (r : Result (Unit {0}) Reason) (before after : Draft) {line line' : Line} {from to : Stage} {text : List ℕ} {calls : List Call} → before.stage ≡ from → line ≡ line' → Adds from line' to text calls → OnOk r (Grown before after to text calls) → OnOk r (Added before line after)
added (Ok x) before after {to = to} {text} {calls} at is adds g =
    record { stage = to; text = text; calls = calls; adds = subst₂ (λ s l. Adds s l to text calls) (sym at) (sym is) adds; grown = g }
added (Err y) before after at is adds g = tt
