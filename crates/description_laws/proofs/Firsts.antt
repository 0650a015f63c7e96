-- Which refusal of a record is tried first: what has been tested and holds leaves only refusals of greater numbers.
use Rattle.std.proofs.Common.{◌≤◌, List, arith}
use Rattle.std.specs.List.{Contains}
use Rattle.mesh.specs.declared.grid.Link.{Link}
use Rattle.mesh.specs.declared.refusals.Refusal.{Refusal}
use Rattle.mesh.specs.declared.refusals.Refusal.TheVariants.{OutOfRange, OutOfPlace, OneSet, LinkOutside, LinkTwice, GapUnlinked}
use Rattle.mesh.specs.Numbers.{number_of}
use Rattle.description_laws.specs.declared.records.Extent.{Extent}
use Rattle.description_laws.specs.declared.records.Record.{Record}
use Rattle.description_laws.specs.declared.records.Record.TheVariants.{Order, Pillar, End}
use Rattle.description_laws.specs.declared.records.SetNumbers.{SetNumbers}
use Rattle.description_laws.specs.Description.{InRange, OneForAll, Gap, Within, Linked, Front, sized, listing, InPlace, second, link, last, Wrong, range, place, one_set, outside, twice, unlinked, First}

untested : {f : Front} {r : Record} {y : Refusal} → Wrong f r y → 3 ≤ number_of y
untested (range _) = omega arith
untested (place _) = omega arith
untested (one_set _) = omega arith
untested (outside _) = omega arith
untested (twice _) = omega arith
untested (unlinked _ _ _) = omega arith

in_range : {f : Front} {r : Record} {y : Refusal} → InRange r → Wrong f r y → 4 ≤ number_of y
in_range i (range n) = elim (n i) [ ]
in_range i (place _) = omega arith
in_range i (one_set _) = omega arith
in_range i (outside _) = omega arith
in_range i (twice _) = omega arith
in_range i (unlinked _ _ _) = omega arith

order_in_place : {e : Extent} {s : SetNumbers} {y : Refusal} → InRange (Order s) → Wrong (sized e) (Order s) y → 5 ≤ number_of y
order_in_place i (range n) = elim (n i) [ ]
order_in_place i (place n) = elim (n second) [ ]
order_in_place i (one_set _) = omega arith

module _ {e : Extent} {s : SetNumbers} {ls : List Link} where
  link_in_place : {l : Link} {y : Refusal} → InRange (Pillar l) → Wrong (listing e s ls) (Pillar l) y → 6 ≤ number_of y
  link_in_place i (range n) = elim (n i) [ ]
  link_in_place i (place n) = elim (n link) [ ]
  link_in_place i (outside _) = omega arith
  link_in_place i (twice _) = omega arith

  link_within : {l : Link} {y : Refusal} → InRange (Pillar l) → Within e l → Wrong (listing e s ls) (Pillar l) y → 7 ≤ number_of y
  link_within i w (range n) = elim (n i) [ ]
  link_within i w (place n) = elim (n link) [ ]
  link_within i w (outside n) = elim (n w) [ ]
  link_within i w (twice _) = omega arith

  end_in_place : {y : Refusal} → Wrong (listing e s ls) End y → 8 ≤ number_of y
  end_in_place (range n) = elim (n tt) [ ]
  end_in_place (place n) = elim (n last) [ ]
  end_in_place (unlinked _ _ _) = omega arith

  pub first_outside : {l : Link} → InRange (Pillar l) → (Within e l → ⊥) → First (listing e s ls) (Pillar l) LinkOutside
  first_outside i n = record { applies = outside n; least = λ y. link_in_place i }

  pub first_twice : {l : Link} → InRange (Pillar l) → Within e l → Contains ls l → First (listing e s ls) (Pillar l) LinkTwice
  first_twice i w h = record { applies = twice h; least = λ y. link_within i w }

  pub first_unlinked : {g : _} → Gap e g → (Linked ls g → ⊥) → First (listing e s ls) End GapUnlinked
  first_unlinked {g} i n = record { applies = unlinked g i n; least = λ y. end_in_place }

pub first_range : {f : Front} {r : Record} → (InRange r → ⊥) → First f r OutOfRange
first_range n = record { applies = range n; least = λ y. untested }

pub first_place : {f : Front} {r : Record} → InRange r → (InPlace f r → ⊥) → First f r OutOfPlace
first_place i n = record { applies = place n; least = λ y. in_range i }

pub first_one_set : {e : Extent} {s : SetNumbers} → InRange (Order s) → OneForAll s → First (sized e) (Order s) OneSet
first_one_set i a = record { applies = one_set a; least = λ y. order_in_place i }
