use Rattle.std.proofs.Common.{refl}
use Rattle.description_laws.specs.Description.{after_s}
use Rattle.description_laws.proofs.Firsts.{first_one_set, first_place}
use Rattle.description.proofs.Exits.{exit}
use Rattle.description.proofs.Marks.{sizes_range}
use Rattle.description.proofs.Stops.{not_second, refused, unread}
use Rattle.description.proofs.cursor.Cursor.order.Goals as goal

pub returns-in_err-record : goal.returns-in_err-record
returns-in_err-record c =
    exit _ _ _ c.from_residual.ensures.1 (unread c.requires.1 (sizes_range c.requires.0) _ refl _ after_s c.in_err-record.ensures)

pub returns-in_default : goal.returns-in_default
returns-in_default c =
    let h = c.in_ok-record.ensures in
    rw c.refuse.ensures (refused c.requires.1 (sizes_range c.requires.0) _ refl after_s _ _ h.1 (first_place h.2 (not_second c.in_default.not-Order)) refl)

pub returns-in_err-order : goal.returns-in_err-order
returns-in_err-order c =
    let h = c.in_ok-record.ensures in
    let f = c.in_err-order.ensures in
    let i = rw c.in-Order.is at h.2 in
    let d = rw f.1 at c.try_from.ensures in
    exit _ _ _ c.from_residual-in_err-order.ensures.1
    (rw (f.2, (d.0 i).0) (refused c.requires.1 (sizes_range c.requires.0) _ refl after_s _ _ (rw c.in-Order.is at h.1) (first_one_set i (d.0 i).1) refl))
