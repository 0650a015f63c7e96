-- The steps of a reading: from sizes and order to the first link, and from link to link.
use Rattle.std.proofs.Common.{◌≡◌, ℕ, ◌-◌, ◌≤◌, ◌⊎◌, List, [], ◌++◌, length, get_or, replicate, refl, ⊎_elim, arith}
use Rattle.mesh.specs.declared.grid.Link.{Link}
use Rattle.mesh.specs.declared.refusals.Refusal.{Refusal}
use Rattle.mesh.specs.declared.refusals.Refusal.TheVariants.{LinkOutside, LinkTwice}
use Rattle.mesh.specs.declared.stack.Sizes.{Sizes}
use Rattle.mesh.specs.declared.turns.TurnOrder.{TurnOrder}
use Rattle.description_laws.specs.declared.faults.Layer.TheVariants as layers
use Rattle.description_laws.specs.declared.faults.StackFault.TheVariants as faults
use Rattle.description_laws.specs.declared.records.Record.TheVariants.{Order, Pillar, Stack}
use Rattle.description_laws.specs.Description.{First, InRange, Within, after_o, listing, spelled}
use Rattle.description_laws.specs.Faults.{layer_for}
use Rattle.description_laws.proofs.Firsts.{first_outside, first_twice}
use Rattle.description.specs.declared.reader.Description.{Description}
use Rattle.description.specs.Reading.{Fails, Reading, extent_of, sets_of, spot}
use Rattle.description.proofs.Marks.{marked_none, named, sound_none}
use Rattle.description.proofs.Spots.{spot_below}
use Rattle.description.proofs.Stops.{refused}

-- nothing but sizes and order is read
pub begun : {bytes rest after marks : List ℕ} (z : Sizes) (o : TurnOrder) → bytes ≡ spelled (Stack (extent_of z)) ++ rest → rest ≡ spelled (Order (sets_of o)) ++ after → marks ≡ replicate 4032 0 → Reading bytes record { sizes = z; order = o } after marks
begun {marks = marks} z o p q none =
    record { links = []; split = cc; sound = sound_none z o; marked = rw none (marked_none (extent_of z) 4032) }

-- a link that is not marked
pub unmarked : {bytes rest marks : List ℕ} {d : Description} (x : Refusal) (l : Link) (after : List ℕ) → Reading bytes d rest marks → 4032 ≤ length marks → rest ≡ spelled (Pillar l) ++ after → InRange (Pillar l) → ((x ≡ LinkOutside) × (Within (extent_of d.sizes) l → ⊥)) ⊎ ((x ≡ LinkTwice) × Within (extent_of d.sizes) l × (get_or marks (spot (extent_of d.sizes) l) 0 ≡ 1)) → Fails bytes (faults.Stack x (length bytes - length rest))
unmarked {bytes} {rest} {marks = marks} {d} x l after r long p i at =
    ⊎_elim
    (λ (w : (x ≡ LinkOutside) × (Within (extent_of d.sizes) l → ⊥)). fails LinkOutside w.0 (first_outside i w.1) refl)
    (λ (w : (x ≡ LinkTwice) × Within (extent_of d.sizes) l × (get_or marks (spot (extent_of d.sizes) l) 0 ≡ 1)).
    let again = named r.marked r.sound.inside l w.1 (omega (arith, spot_below (extent_of d.sizes) l r.sound.sizes w.1)) w.2 in
    fails LinkTwice w.0 (first_twice i w.1 again) refl)
    at
  where
    fails : (y : Refusal) → x ≡ y → First (listing (extent_of d.sizes) (sets_of d.order) r.links) (Pillar l) y → layers.Stack ≡ layer_for y → Fails bytes (faults.Stack x (length bytes - length rest))
    fails y e f k = rw e (refused r.split r.sound _ refl after_o (Pillar l) after p f k)
