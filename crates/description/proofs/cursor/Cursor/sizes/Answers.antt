use Rattle.std.proofs.Common.{refl}
use Rattle.description_laws.specs.Description.{at_start, nothing}
use Rattle.description_laws.proofs.Firsts.{first_place}
use Rattle.description.proofs.Exits.{exit}
use Rattle.description.proofs.Stops.{not_first, refused, unread}
use Rattle.description.proofs.cursor.Cursor.sizes.Goals as goal

pub returns-in_err-record : goal.returns-in_err-record
returns-in_err-record c = exit _ _ _ c.from_residual.ensures.1 (unread {f = nothing} c.requires tt _ refl _ at_start c.in_err-record.ensures)

pub returns-in_default : goal.returns-in_default
returns-in_default c =
    let h = c.in_ok-record.ensures in
    rw c.refuse.ensures (refused {f = nothing} c.requires tt _ refl at_start _ _ h.1 (first_place h.2 (not_first c.in_default.not-Stack)) refl)
