use Rattle.description.proofs.Marks.{index_below}
use Rattle.description.proofs.reader.mark.Goals as goal

pub bounds-map-index : goal.bounds-map-index
bounds-map-index c =
    index_below c.args.sizes c.args.link c.if-link-sizes.false c.if-link-sizes-2.false c.if-link-sizes-3.false (rw c.from.ensures at c.index-index.ensures)

pub bounds-map-index-2 : goal.bounds-map-index-2
bounds-map-index-2 c =
    index_below c.args.sizes c.args.link c.if-link-sizes.false c.if-link-sizes-2.false c.if-link-sizes-3.false (rw c.from.ensures at c.index-index.ensures)
