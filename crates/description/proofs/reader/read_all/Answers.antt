use Rattle.std.proofs.Common.{◌∙◌}
use Rattle.description.proofs.Steps.{begun}
use Rattle.description.proofs.reader.read_all.Goals as goal

pub order-requires : goal.order-requires
order-requires c = let h = c.in_ok-sizes.ensures in (c.in_ok-sizes.sizes, h.0 ∙ h.1)

pub read_links-requires : goal.read_links-requires
read_links-requires c =
    let h = c.in_ok-sizes.ensures in
    let k = c.in_ok-order.ensures in
    begun _ _ (k.0 ∙ h.0 ∙ h.1) k.1 c.requires
