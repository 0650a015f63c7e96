use Rattle.std.proofs.Common.{length, sym, ap, ◌∙◌, arith}
use Rattle.std.proofs.lemmas.Bool.{eqb-false, eqb-true}
use Rattle.routing_laws.specs.Elevators.{origin}
use Rattle.routing.proofs.Kept.{one_kept, one_left, one_over}
use Rattle.routing.proofs.rooms.list_passing.Goals as goal
use Rattle.routing.proofs.rooms.list_passing.Goals.{then-passes+then-not-is_full, else-passes, else-passes-via-then-passes+else-not-is_full, else-passes-via-else-passes}

pub loop-place-preserved : goal.loop-place-preserved
loop-place-preserved g c = λ test says.
    let i = c.loop-place.place-index in
    let places = c.args.places.now in
    let is = sym (says _ c.passes.result c.passes.ensures) in
    let kept = c.loop-place.list in
    let before = c.loop-place.invariant test says in
    let inside = c.loop-place-test.true in
    elim c.if-passes.branch [
      | then-passes+then-not-is_full w ↦ ap (λ v. v.items) w.list-is ∙ w.push.ensures.items ∙ one_kept test g.row.N places i origin inside kept.items before (is ∙ w.if-passes.true) (omega (arith, w.is_full.ensures.fits, eqb-false (length kept.items) g.row.N (sym w.is_full.ensures.value ∙ w.if-not-is_full.true)))
      | else-passes w ↦ ap (λ v. v.items) w.list-is ∙ elim w.else-passes.branch [
        | else-passes-via-then-passes+else-not-is_full w' ↦ one_over test g.row.N places i origin inside kept.items before (omega (arith, eqb-true (length kept.items) g.row.N (sym w'.is_full.ensures.value ∙ w'.if-not-is_full.false)))
        | else-passes-via-else-passes w' ↦ one_left test g.row.N places i origin inside kept.items before (is ∙ w'.if-passes.false)
      ]
    ]
