use Rattle.std.proofs.Common.{arith}
use Rattle.listing.proofs.Rows.{line_more, lines_all, row_within}
use Rattle.listing.proofs.plan.write_rows.Goals as goal

pub loop-row-preserved : goal.loop-row-preserved
loop-row-preserved c =
    line_more c.args.width c.loop-row.row c.args.bytes.now c.args.out.now c.requires.some c.loop-row.out c.write_row.new.out
    (omega (arith, row_within c.args.width c.args.rows c.loop-row.row c.loop-row-test.true))
    c.loop-row.invariant
    c.write_row.ensures

pub returns : goal.returns
returns c =
    lines_all c.args.width c.loop-row.row c.args.bytes.now c.args.out.now c.requires.some c.args.rows c.loop-row.out
    (omega arith)
    c.requires.whole
    c.loop-row.invariant
