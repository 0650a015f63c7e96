-- A run with one call more.
use Rattle.std.proofs.Common.{◌≡◌, ℕ, ◌+◌, ◌<◌, List, [], ◌∷◌, ◌++◌, map, reverse, length, get_or, take, Some, None, Option, refl, ap, ◌∙◌, add-one, take-suc}
use mathlib.Core.List.{reverse-append, reverse-cons}
use Rattle.mesh.specs.declared.compass.Directions.{Directions}
use Rattle.mesh.specs.declared.refusals.Refusal.{Refusal}
use Rattle.routing_laws.specs.Chains.{Told}
use Rattle.channel_laws.specs.declared.calls.Done.{Done}
use Rattle.channel_laws.specs.declared.calls.Done.TheVariants.{Collected, Injected, Moved}
use Rattle.channel_laws.specs.declared.calls.Call.{Call}
use Rattle.channel_laws.specs.declared.calls.Call.TheVariants.{Collect, Inject, Move}
use Rattle.channel_laws.specs.declared.records.Record.{Record}
use Rattle.channel_laws.specs.Buffers.{buffer_of, port_of}
use Rattle.channel_laws.specs.Calls.{Answer, collect_refusal, decided, inject_refusal, injected, move_refusal, moved, outcome, taken}
use Rattle.channel_laws.specs.Runs.{events, state_after}
use Rattle.channel_laws.specs.Table.{State, record_at, with_table}
use Rattle.channels.specs.Running.{answered, ran}

-- a call changes nothing but the table
decided_table : (s : State) (o : Option Refusal) (a : Done) (t : List Record) → (decided o a (with_table s t) s).after ≡ with_table s (decided o a (with_table s t) s).after.table
decided_table s None a t = refl
decided_table s (Some x) a t = refl

table_only : (reply : Told → Directions) (s : State) (c : Call) → (outcome reply s c).after ≡ with_table s (outcome reply s c).after.table
table_only reply s (Inject source destination tag) = decided_table s (inject_refusal s source destination) Injected (injected s source destination tag).table
table_only reply s (Move r n m) = decided_table s (move_refusal reply s r n m) Moved (moved s r (buffer_of n) (port_of m)).table
table_only reply s (Collect r n) = decided_table s (collect_refusal s r n) (Collected (record_at s r (buffer_of n))) (taken s r (buffer_of n)).table

pub after_table : (reply : Told → Directions) (s : State) (calls : List Call) → state_after reply s calls ≡ with_table s (state_after reply s calls).table
after_table reply s [] = refl
after_table reply s (c ∷ earlier) =
    let before = state_after reply s earlier in
    let t = (outcome reply before c).after.table in
    table_only reply before c ∙ ap (λ b. with_table b t) (after_table reply s earlier)

module _ (reply : Told → Directions) (s : State) (calls : List Call) (i : ℕ) (d : Call) (below : i < length calls) where
  abbrev latest : Call
  latest = get_or calls i d

  abbrev answer : Answer
  answer = (outcome reply (ran reply s (take i calls)) latest).answer

  -- the calls so far, latest first, with the next one before them
  next : reverse (take (i + 1) calls) ≡ latest ∷ reverse (take i calls)
  next = ap (λ n. reverse (take n calls)) (add-one i) ∙ ap reverse (take-suc calls i d below) ∙ reverse-append (take i calls) (latest ∷ [])

  pub ran_next : ran reply s (take (i + 1) calls) ≡ (outcome reply (ran reply s (take i calls)) latest).after
  ran_next = ap (state_after reply s) next

  pub answered_next : answered reply s (take (i + 1) calls) ≡ answered reply s (take i calls) ++ (answer ∷ [])
  answered_next = ap (λ l. reverse (map (λ e. e.answer) (events reply s l))) next ∙ reverse-cons answer (map (λ e. e.answer) (events reply s (reverse (take i calls))))
