use Rattle.std.proofs.Common.{◌≡◌, ℕ, ◌*◌, ◌∙◌, arith}
use Rattle.listing.proofs.Rows.{length_plan}
use Rattle.listing.proofs.plan.write_plan.Goals as goal

-- rows of columns, or planes of places: the same count
regroup : (n c p h w : ℕ) → n ≡ p * h → c ≡ w → n * c ≡ p * (w * h)
regroup n c p h w e f = (λ i. e i * f i) ∙ omega arith

pub write_rows-requires : goal.write_rows-requires
write_rows-requires c =
    let e = regroup c.rows.result c.from.result c.args.sizes.planes c.args.sizes.height c.args.sizes.width c.rows.ensures c.from.ensures in
    let t = length_plan c.args.sizes c.args.bytes.now c.requires.whole in
    record { some = omega (arith, c.args.sizes.some_columns); whole = omega arith; room = omega arith }
