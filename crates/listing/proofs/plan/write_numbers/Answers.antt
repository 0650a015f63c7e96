use Rattle.std.proofs.Common.{◌≡◌, ℕ, ◌-◌, ◌*◌, List, length, set, ap, ◌∙◌}
use Rattle.std.specs.List.{flat_map}
use Rattle.listing.specs.Made.{number}
use Rattle.listing.proofs.Rows.{number_more, numbers_all, line_from_numbers}
use Rattle.listing.proofs.plan.write_numbers.Goals as goal

pub loop-i-preserved : goal.loop-i-preserved
loop-i-preserved c =
    number_more c.args.row.now c.args.out.now c.loop-i.i c.loop-i-test.true c.loop-i.out c.copy_from_slice.new.self
    c.loop-i.invariant
    (c.copy_from_slice.ensures.after ∙ c.number.ensures)

pub returns : goal.returns
returns c =
    let e : c.loop-i.out ≡ flat_map number c.args.row.now = numbers_all c.args.row.now c.args.out.now c.loop-i.i c.loop-i.out c.loop-i-test.false c.requires.room c.loop-i.invariant in
    record { numbers = e; ended = ap (λ (t : List ℕ). set t (length c.args.row.now * 3 - 1) 10) e ∙ line_from_numbers c.args.row.now c.requires.some }
