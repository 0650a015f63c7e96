use Rattle.std.proofs.Common.{rules, ◌≡◌, length, filter, not, refl, sym, ap, ◌∙◌, arith}
use Rattle.std.proofs.lemmas.Bool.{eqb-false, eqb-true}
use Rattle.std.proofs.lemmas.List.Filters.{length-filter_both}
use Rattle.std.proofs.lemmas.Nat.{mul-le}
use Rattle.routing_laws.specs.Filling.{put_halves, task}
use Rattle.routing_laws.specs.Ties.{tie_half, tie_next}
use Rattle.routing_laws.proofs.Ties.{or_else_none, or_else_some}
use Rattle.routing.proofs.Kept.{all_kept}
use Rattle.house_rules.specs.Filling.{inner, offered}
use Rattle.house_rules.specs.Offering.{either_few}
use Rattle.house_rules.proofs.inner.InnerElevatorsFiller.fill.Given as given
use Rattle.house_rules.proofs.inner.InnerElevatorsFiller.fill.Goals as goal
use Rattle.house_rules.proofs.inner.InnerElevatorsFiller.fill.Goals.{Joined-none_inner, then-none_inner, else-none_inner}

-- what is offered: the inner elevators, or all where there is none
offers : (g : given.Over) (c : Joined-none_inner g) → c.if-none_inner.elevators.now ≡ offered c.args.task.sizes.width c.args.task.sizes.height c.args.task.elevators.now
offers g c =
    let s = c.args.task.sizes in
    let es = c.args.task.elevators.now in
    let test = inner s.width s.height in
    let list = c.list_passing.new.list.items in
    let kept = c.list_passing.ensures test (λ e b h. search rules) ∙ all_kept test 576 es (omega (arith, c.args.task.few, mul-le s.width s.height 24 24 s.few_columns s.few_rows)) in
    elim c.if-none_inner.branch [
      | then-none_inner w ↦
          let none = eqb-true (length list) 0 (sym c.is_empty-none_inner.ensures ∙ w.if-none_inner.true) in
          ap (λ r. r.now) w.elevators-is ∙ sym (or_else_none (filter test es) es (ap length (sym kept) ∙ none))
      | else-none_inner w ↦
          let some = eqb-false (length list) 0 (sym c.is_empty-none_inner.ensures ∙ w.if-none_inner.false) in
          ap (λ r. r.now) w.elevators-is ∙ w.deref-elevators.ensures.0 ∙ kept ∙ sym (or_else_some (filter test es) es (omega (arith, ap length kept)))
    ]

pub invariant_of-offer-clause-few : goal.invariant_of-offer-clause-few
invariant_of-offer-clause-few g c =
    let s = c.args.task.sizes in
    let es = c.args.task.elevators.now in
    let fewer = either_few (filter (inner s.width s.height) es) es (omega (arith, length-filter_both (inner s.width s.height) (λ p. not (inner s.width s.height p)) (λ _. refl) es)) in
    omega (arith, ap length (offers g (goal.at.invariant_of-offer-clause-few g c).Joined-none_inner), fewer, c.args.task.few)

pub returns-clause-writes : goal.returns-clause-writes
returns-clause-writes g c =
    let t = c.args.task in
    c.fill.ensures.writes ∙ ap (λ es. put_halves t.way c.args.bytes.now (tie_half g.C.Chooser.position g.C.Chooser.after c.args.self.now.order (task t.sizes t.plane t.way es) c.args.chooser.now)) (offers g (goal.at.returns-clause-writes g c).Joined-none_inner)

pub returns-clause-goes : goal.returns-clause-goes
returns-clause-goes g c =
    let t = c.args.task in
    c.fill.ensures.goes ∙ ap (λ es. tie_next g.C.Chooser.position g.C.Chooser.after c.args.self.now.order (task t.sizes t.plane t.way es) c.args.chooser.now) (offers g (goal.at.returns-clause-goes g c).Joined-none_inner)
