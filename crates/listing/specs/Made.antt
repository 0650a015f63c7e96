-- What texts hold while they are made; no public call speaks of it.
use Rattle.std.specs.Prelude.{ℕ, List, ◌++◌}
use Rattle.listing.specs.Text.{hex, space}

-- a byte's two digits, and the space after them
abbrev pub number : ℕ → List ℕ
number b = hex b ++ space
