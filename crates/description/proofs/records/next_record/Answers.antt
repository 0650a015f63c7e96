use Rattle.std.proofs.lemmas.Bool.{both_ways}
use Rattle.description.proofs.Unreads.{out_of_range}
use Rattle.description.proofs.records.next_record.Goals as goal

pub returns-then-not-in_range : goal.returns-then-not-in_range
returns-then-not-in_range c =
    out_of_range _ _ _ _ c.in_ok-record.ensures (λ i. both_ways _ c.if-not-in_range.true (c.in_range.ensures.1 i))
