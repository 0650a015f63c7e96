use Rattle.std.proofs.Common.{arith}
use Rattle.description_laws.specs.Description.{kind_s, kind_o, kind_l}
use Rattle.description.proofs.Exits.{exit}
use Rattle.description.proofs.Unreads.{cut_short, no_kind, nothing_left, strange}
use Rattle.description.proofs.records.whole_record.Goals as goal

pub returns-in_err-kind : goal.returns-in_err-kind
returns-in_err-kind c = exit _ _ _ c.from_residual.ensures.1 (nothing_left _ _ _ c.in_err-kind.ensures)

pub returns-in_err-extent-in-S : goal.returns-in_err-extent-in-S
returns-in_err-extent-in-S c =
    exit _ _ _ c.from_residual-in_err-extent-in-S.ensures.1 (cut_short _ _ _ kind_s c.in-S.is c.in_ok-kind.ensures c.in_err-extent-in-S.ensures)

pub returns-in_err-sets-in-O : goal.returns-in_err-sets-in-O
returns-in_err-sets-in-O c =
    exit _ _ _ c.from_residual-in_err-sets-in-O.ensures.1 (cut_short _ _ _ kind_o c.in-O.is c.in_ok-kind.ensures c.in_err-sets-in-O.ensures)

pub returns-in_err-link-in-L : goal.returns-in_err-link-in-L
returns-in_err-link-in-L c =
    exit _ _ _ c.from_residual-in_err-link-in-L.ensures.1 (cut_short _ _ _ kind_l c.in-L.is c.in_ok-kind.ensures c.in_err-link-in-L.ensures)

pub returns-in_default : goal.returns-in_default
returns-in_default c = strange _ _ c.in_ok-kind.ensures (no_kind (λ h. omega arith) (λ h. omega arith) (λ h. omega arith) (λ h. omega arith))
