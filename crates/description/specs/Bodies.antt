-- The body of a record as bytes: what follows its kind letter.
use Rattle.std.specs.Prelude.{ℕ, List, [], ◌∷◌}
use Rattle.mesh.specs.declared.grid.Link.{Link}
use Rattle.description_laws.specs.declared.records.Extent.{Extent}
use Rattle.description_laws.specs.declared.records.SetNumbers.{SetNumbers}

abbrev pub extent_body : Extent → List ℕ
extent_body e = e.width ∷ e.height ∷ e.planes ∷ []

abbrev pub sets_body : SetNumbers → List ℕ
sets_body s = s.north ∷ s.east ∷ s.south ∷ s.west ∷ []

abbrev pub link_body : Link → List ℕ
link_body l = l.x ∷ l.y ∷ l.gap ∷ []
