use Rattle.std.proofs.Common.{◌≡◌, ◌+◌, ◌-◌, sym, ap, ◌∙◌, subst, add-one, arith}
use Rattle.std.proofs.lemmas.Nat.{mul-le}
use Rattle.routing_laws.specs.Plan.{after_gap, begun, chooser_after, job}
use Rattle.routing_laws.proofs.Planning.{Fitting, Holds, holds_all, holds_more}
use Rattle.planner.proofs.planning.fill_gaps.Goals as goal

pub loop-gap-preserved : goal.loop-gap-preserved
loop-gap-preserved g c =
    let f = c.args.filler.now in
    let j = job c.args.gaps.sizes c.args.gaps.map.now (g.F.Filler.half f) (g.F.Filler.next f) in
    let ask = c.args.chooser.now in
    let gap = c.loop-gap.gap in
    let fit : Fitting j = record { long = g.met.F.Filler.long f; small = g.met.F.Filler.small f } in
    let state = c.loop-gap.invariant.1 in (
      subst (Holds j ask (gap + 1)) (sym (c.fill_gap.ensures.writes ∙ ap (λ a. after_gap j a gap c.loop-gap.bytes) state)) (holds_more j ask fit gap (omega arith) c.loop-gap.bytes c.loop-gap.invariant.0),
      c.fill_gap.ensures.goes ∙ ap (λ a. chooser_after j a gap) state ∙ ap (begun j ask) (sym (add-one gap)),
    )

pub returns-clause-writes : goal.returns-clause-writes
returns-clause-writes g c =
    let f = c.args.filler.now in
    let s = c.args.gaps.sizes in
    let j = job s c.args.gaps.map.now (g.F.Filler.half f) (g.F.Filler.next f) in
    let ask = c.args.chooser.now in
    let all : c.loop-gap.gap ≡ s.planes - 1 = omega arith in
    holds_all j ask c.loop-gap.bytes (subst (λ n. Holds j ask n c.loop-gap.bytes) all c.loop-gap.invariant.0) (omega (arith, mul-le 1 1 s.width s.height s.some_columns s.some_rows))
