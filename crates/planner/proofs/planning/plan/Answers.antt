use Rattle.std.proofs.Common.{◌≡◌, ℕ, ◌+◌, ◌-◌, ◌*◌, ◌<◌, ◌≤◌, ◌++◌, length, drop, refl, inr, ⊎_elim, arith}
use Rattle.std.proofs.lemmas.Bool.{MatchBool-at_false, MatchBool-at_true}
use Rattle.routing_laws.specs.Plan.{Short, job}
use Rattle.routing_laws.proofs.Listing.{joined_shown, joined_some, shown_joined}
use Rattle.routing_laws.proofs.Planes.{plane_order}
use Rattle.planner.proofs.planning.plan.Given as given
use Rattle.planner.proofs.planning.plan.Goals as goal
use Rattle.planner.proofs.planning.plan.Goals.{After-all_linked-linked}

-- the map covers all gaps, and so each of them; and neither buffer is short
whole : (g : given.Over) (c : After-all_linked-linked g) → (c.args.sizes.planes - 1) * (c.args.sizes.width * c.args.sizes.height) ≤ length c.args.map.now
whole g c =
    let s = c.args.sizes in
    let needed : c.gaps.result * c.area.result ≡ (s.planes - 1) * (s.width * s.height) = λ i. c.gaps.ensures i * c.area.ensures i in
    omega (arith, needed, c.if-map-gaps.false)

covered : (g : given.Over) (c : After-all_linked-linked g) (gap : ℕ) → gap < c.args.sizes.planes - 1 → let n = c.args.sizes.width * c.args.sizes.height in gap * n + n ≤ length c.args.map.now
covered g c gap inside = let s = c.args.sizes in omega (arith, whole g c, plane_order (s.width * s.height) gap (s.planes - 1) inside)

long : (g : given.Over) (c : After-all_linked-linked g) → Short (job c.args.sizes c.args.map.now (g.F.Filler.half c.args.filler.now) (g.F.Filler.next c.args.filler.now)) c.args.bytes.now → ⊥
long g c = ⊎_elim (λ map. omega (arith, whole g c)) (λ bytes. omega (arith, c.routers-routers.ensures, c.if-bytes-routers.false))

pub returns-then-not-linked : goal.returns-then-not-linked
returns-then-not-linked g c =
    let s = c.args.sizes in
    let here = (goal.at.returns-then-not-linked g c).After-all_linked-linked in
    let (gap, inside, unlinked) = MatchBool-at_false _ _ c.if-not-linked.true (c.all_linked-linked.ensures.linked (whole g here)) in
    (inr (long g here, (gap, inside, λ j. unlinked (shown_joined s.width s.height s.some_columns s.some_rows c.args.map.now gap (covered g here gap inside) j)), refl), refl, refl)

pub invariant_of-fill_gaps : goal.invariant_of-fill_gaps
invariant_of-fill_gaps g c =
    let s = c.args.sizes in
    let here = (goal.at.invariant_of-fill_gaps g c).After-all_linked-linked in
    record {
      whole = whole g here;
      linked = λ gap inside.
          let shown = MatchBool-at_true _ _ c.if-not-linked.false (c.all_linked-linked.ensures.linked (whole g here)) gap inside in
          joined_some s.width s.height s.some_columns s.some_rows c.args.map.now gap (joined_shown s.width s.height s.some_columns s.some_rows c.args.map.now gap (covered g here gap inside) shown);
    }

pub returns : goal.returns
returns g c =
    let s = c.args.sizes in
    let here = (goal.at.returns g c).After-all_linked-linked in (
      long g here,
      λ gap inside. joined_shown s.width s.height s.some_columns s.some_rows c.args.map.now gap (covered g here gap inside) (MatchBool-at_true _ _ c.if-not-linked.false (c.all_linked-linked.ensures.linked (whole g here)) gap inside),
      λ i. c.fill_gaps.ensures.writes i ++ drop (c.routers-routers.ensures i) c.args.bytes.now,
      c.fill_gaps.ensures.goes,
    )
