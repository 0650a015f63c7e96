use Rattle.std.proofs.Common.{rules, ◌≡◌, ◌≤◌, true, false, length, filter, sym, ap, ◌∙◌, arith}
use Rattle.std.proofs.lemmas.Bool.{eqb-false, eqb-true}
use Rattle.std.proofs.lemmas.Nat.{mul-le}
use Rattle.routing_laws.specs.Ties.{Candidates, candidate, candidates}
use Rattle.routing_laws.proofs.Ties.{with_late, without_late}
use Rattle.routing.specs.declared.filling.Task.{Task}
use Rattle.routing.proofs.Kept.{all_kept}
use Rattle.routing.proofs.ties.RandomOffline.candidates.Goals as goal
use Rattle.routing.proofs.ties.RandomOffline.candidates.Goals.{After-deref, then-is_empty, else-is_empty}

-- a plane has room for as many elevators
most : (t : Task) → length t.elevators.now ≤ 576
most t = let s = t.sizes in omega (arith, t.few, mul-le s.width s.height 24 24 s.few_columns s.few_rows)

-- the nearest elevators that need only directions of the last set
late : (c : After-deref) → c.list_passing.new.list.items ≡ filter (candidate c.args.self.order c.args.place c.least_distance-least.result true) c.args.task.elevators.now
late c =
    let test = candidate c.args.self.order c.args.place c.least_distance-least.result true in
    c.list_passing.ensures test (λ e b h. search rules) ∙ all_kept test 576 c.args.task.elevators.now (most c.args.task)

-- where there are none, all the nearest are candidates
found : (c : After-deref) → (c.deref.result.now ≡ candidates c.args.self.order c.args.place c.args.task.elevators.now) × Candidates c.args.self.order c.args.place c.args.task.elevators.now c.deref.result.now
found c =
    let o = c.args.self.order in
    let es = c.args.task.elevators.now in
    let first = c.list_passing.new.list.items in
    let least = c.least_distance-least.result in
    elim c.if-is_empty.branch [
      | then-is_empty w ↦
          let none = eqb-true (length first) 0 (sym c.is_empty.ensures ∙ w.if-is_empty.true) in
          let near = candidate o c.args.place least false in
          let all = w.list_passing-then-is_empty.ensures near (λ e b h. search rules) ∙ all_kept near 576 es (most c.args.task) in
          without_late o c.args.place es least c.least_distance-least.ensures c.args.task.some first c.deref.result.now (late c) none (c.deref.ensures.0 ∙ ap (λ v. v.items) w.list-is ∙ all)
      | else-is_empty w ↦
          let some = eqb-false (length first) 0 (sym c.is_empty.ensures ∙ w.if-is_empty.false) in
          with_late o c.args.place es least c.least_distance-least.ensures c.args.task.some c.deref.result.now (c.deref.ensures.0 ∙ ap (λ v. v.items) w.list-is ∙ late c) (omega (arith, some, ap length (c.deref.ensures.0 ∙ ap (λ v. v.items) w.list-is)))
    ]

pub returns-clause-list : goal.returns-clause-list
returns-clause-list c = (found (goal.at.returns-clause-list c).After-deref).0

pub returns-clause-some : goal.returns-clause-some
returns-clause-some c = (found (goal.at.returns-clause-some c).After-deref).1.some
