-- What a line adds to a script under way.
use Rattle.std.specs.Prelude.{◌≡◌, ℕ, List, [], ◌∷◌, ◌++◌, vec_items}
use Rattle.mesh.specs.declared.grid.Link.{Link}
use Rattle.channel_laws.specs.declared.calls.Call.{Call}
use Rattle.description_laws.specs.declared.records.Extent.{Extent}
use Rattle.description_laws.specs.declared.records.Record.TheVariants as records
use Rattle.description_laws.specs.declared.records.SetNumbers.{SetNumbers}
use Rattle.description_laws.specs.Description.{spelled}
use Rattle.replay.specs.declared.lines.Line.{Line}
use Rattle.replay.specs.declared.lines.Line.TheVariants as lines
use Rattle.replay.specs.declared.lines.Planning.{Planning}
use Rattle.replay.specs.declared.script.Draft.{Draft}
use Rattle.replay.specs.declared.script.Stage.{Stage}
use Rattle.replay.specs.declared.script.Stage.TheVariants as stages

-- what comes after a line: the next stage, bytes of the description, and calls
pub data Adds : Stage → Line → Stage → List ℕ → List Call → Type 0 where
  stack : {e : Extent} → Adds stages.Stack (lines.Stack e) stages.Order (spelled (records.Stack e)) []
  order : {s : SetNumbers} → Adds stages.Order (lines.Order s) stages.Links (spelled (records.Order s)) []
  link : {l : Link} → Adds stages.Links (lines.Link l) stages.Links (spelled (records.Pillar l)) []
  plan : {p : Planning} → Adds stages.Links (lines.Plan p) (stages.Calls p) (spelled records.End) []
  call : {p : Planning} {c : Call} → Adds (stages.Calls p) (lines.Call c) (stages.Calls p) [] (c ∷ [])

-- a script with a stage, and bytes and calls behind those it had
pub record Grown (before after : Draft) (stage : Stage) (text : List ℕ) (calls : List Call) : Type 0 where
  pub stage_is : after.stage ≡ stage
  pub text_is : vec_items after.description ≡ vec_items before.description ++ text
  pub calls_is : vec_items after.calls ≡ vec_items before.calls ++ calls

-- a script with one line more
pub record Added (before : Draft) (line : Line) (after : Draft) : Type 0 where
  pub stage : Stage
  pub text : List ℕ
  pub calls : List Call
  pub adds : Adds before.stage line stage text calls
  pub grown : Grown before after stage text calls
