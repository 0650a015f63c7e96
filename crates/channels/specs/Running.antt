-- A run: a planned stack with a clear table, and a list of calls worked one by one.
use Rattle.std.specs.Prelude.{◌≡◌, ℕ, ◌<◌, ◌≤◌, true, false, ◌⊎◌, List, [], ◌++◌, map, reverse, length, drop, Ok, Err, Result}
use Rattle.mesh.specs.declared.compass.Directions.{Directions}
use Rattle.mesh.specs.declared.refusals.Refusal.{Refusal}
use Rattle.mesh.specs.declared.refusals.Refusal.TheVariants.{ShortBuffer}
use Rattle.mesh.specs.declared.stack.Sizes.{Sizes}
use Rattle.routing_laws.specs.Chains.{Told}
use Rattle.routing_laws.specs.Plan.{Job, Planned}
use Rattle.channel_laws.specs.declared.calls.Call.{Call}
use Rattle.channel_laws.specs.declared.records.Record.{Record}
use Rattle.channel_laws.specs.Calls.{Answer, cleared, short_table}
use Rattle.channel_laws.specs.Certificate.{Certificate}
use Rattle.channel_laws.specs.Runs.{events, state_after}
use Rattle.channel_laws.specs.Table.{State, state}

-- the state after calls that are listed oldest first, and what each answered
abbrev pub ran : (Told → Directions) → State → List Call → State
ran reply s calls = state_after reply s (reverse calls)

abbrev pub answered : (Told → Directions) → State → List Call → List Answer
answered reply s calls = reverse (map (λ e. e.answer) (events reply s (reverse calls)))

-- a table whose records are emptied
abbrev pub clear_table : Sizes → List Record → List Record
clear_table s table = (cleared (state s [] [] table)).table

-- the certificate, after every list of calls from the state in which a run starts
abbrev pub Certain : (Told → Directions) → State → Result (Unit {0}) Refusal → Type 0
Certain reply s (Ok _) = (calls : List Call) → Certificate reply (state_after reply s calls) (events reply s calls)
Certain reply s (Err x) = Unit {0}

module _ {C : Type 0} (j : Job C) where
  -- what starting a run answers and leaves: first a short table is refused, then what planning refuses; a refusal
  -- leaves everything as it was
  abbrev pub Started : List ℕ → C → List Record → List ℕ → C → List Record → Result (Unit {0}) Refusal → Type 0
  Started bytes c table bytes' c' table' (Ok x) =
      (short_table (state j.sizes [] [] table) ≡ false) × Planned j bytes c bytes' c' (Ok x) × (table' ≡ clear_table j.sizes table)
  Started bytes c table bytes' c' table' (Err x) =
      (((short_table (state j.sizes [] [] table) ≡ true) × (x ≡ ShortBuffer) × (bytes' ≡ bytes) × (c' ≡ c))
      ⊎ ((short_table (state j.sizes [] [] table) ≡ false) × Planned j bytes c bytes' c' (Err x)))
      × (table' ≡ table)

  -- what running a list of calls answers and leaves: first too few places for the answers are refused, then what
  -- starting refuses
  abbrev pub Ran : (Told → Directions) → List Call → List ℕ → C → List Record → List Answer → List ℕ → C → List Record → List Answer → Result (Unit {0}) Refusal → Type 0
  Ran reply calls bytes c table answers bytes' c' table' answers' (Ok x) =
      let s = state j.sizes j.links bytes' (clear_table j.sizes table) in
      (length calls ≤ length answers)
      × Started bytes c table bytes' c' s.table (Ok x)
      × (table' ≡ (ran reply s calls).table)
      × (answers' ≡ answered reply s calls ++ drop (length calls) answers)
  Ran reply calls bytes c table answers bytes' c' table' answers' (Err x) =
      (((length answers < length calls) × (x ≡ ShortBuffer) × (bytes' ≡ bytes) × (c' ≡ c) × (table' ≡ table))
      ⊎ ((length calls ≤ length answers) × Started bytes c table bytes' c' table' (Err x)))
      × (answers' ≡ answers)
