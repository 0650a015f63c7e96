use Rattle.std.proofs.Common.{◌≡◌, length}
use Rattle.description.specs.Reading.{Reading}
use Rattle.description.proofs.reader.read_links.Given as goal

abbrev pub invariant-loop-record : goal.invariant-loop-record
invariant-loop-record l = (l.cursor.input.now ≡ l.start.input.now) × Reading l.start.input.now l.description l.cursor.rest.now l.map × (length l.map ≡ 4032)

abbrev pub decreases-loop-record : goal.decreases-loop-record
decreases-loop-record l = length l.cursor.rest.now
