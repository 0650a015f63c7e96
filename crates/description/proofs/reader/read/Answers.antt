use Rattle.std.proofs.Common.{take, ap, sym, ◌∙◌, arith}
use Rattle.std.proofs.lemmas.List.{take-replicate}
use Rattle.std.proofs.lemmas.Option.{MatchOption-at_some}
use Rattle.description.proofs.Ends.{in_front}
use Rattle.description.proofs.reader.read.Goals as goal

pub read_all-answer-requires : goal.read_all-answer-requires
read_all-answer-requires c =
    let h = MatchOption-at_some _ _ _ c.unwrap.ensures c.first_chunk_mut.ensures.cases in
    h.same ∙ (ap (take 4032) c.clear.ensures ∙ take-replicate 4032 _ 0 (omega arith))

pub returns-else-is_err-clause-meaning : goal.returns-else-is_err-clause-meaning
returns-else-is_err-clause-meaning c h =
    in_front _ _ _ c.read_all-answer.result _ c.read_all-answer.ensures.long c.clear.ensures (sym c.if-is_err.ensures.value) c.read_all-answer.ensures.meaning
