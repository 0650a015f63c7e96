-- The end of a reading: what Z asks of the links, and what may follow it.
use Rattle.std.proofs.Common.{◌≡◌, ℕ, ◌+◌, ◌-◌, ◌*◌, ◌<◌, ◌≤◌, List, [], ◌∷◌, ◌++◌, length, drop, replicate, false, is_err, Ok, Err, MatchResult, Result, refl, ap, ◌∙◌, append_assoc, append-nil, arith}
use Rattle.std.proofs.lemmas.List.{drop-replicate}
use Rattle.mesh.specs.declared.grid.Link.{Link}
use Rattle.mesh.specs.declared.refusals.Refusal.TheVariants.{GapUnlinked, OutOfPlace}
use Rattle.description_laws.specs.declared.faults.StackFault.{StackFault}
use Rattle.description_laws.specs.declared.faults.StackFault.TheVariants as faults
use Rattle.description_laws.specs.declared.records.Extent.{Extent}
use Rattle.description_laws.specs.declared.records.Record.TheVariants.{End, Order, Stack}
use Rattle.description_laws.specs.declared.records.SetNumbers.{SetNumbers}
use Rattle.description_laws.specs.Description.{Fault, Gap, Linked, after_o, beyond, ended, spelled, spelled_links, text}
use Rattle.description_laws.proofs.Firsts.{first_unlinked}
use Rattle.mesh.specs.Layout.{Shown}
use Rattle.description.specs.declared.reader.Description.{Description}
use Rattle.description.specs.Reading.{Answer, Described, Fails, Reading, extent_of, sets_of}
use Rattle.description.proofs.Marks.{linked_shown, marked_front, part_below, shown_linked}
use Rattle.description.proofs.Stops.{refused, stops}

-- what was read up to Z, and Z with it
with_end : (front : List ℕ) (ls : List Link) (after : List ℕ) → (front ++ spelled_links ls) ++ (90 ∷ after) ≡ (front ++ (spelled_links ls ++ spelled End)) ++ after
with_end front ls after = simp append_assoc

more_follows : {e : Extent} {s : SetNumbers} {ls : List Link} (after : List ℕ) → (length after ≡ 0 → ⊥) → Fault (ended e s ls) after OutOfPlace
more_follows [] n = elim (n refl) [ ]
more_follows (c ∷ after) n = beyond

module _ {bytes rest after marks : List ℕ} {d : Description} (r : Reading bytes d rest marks) (z : rest ≡ spelled End ++ after) (long : 4032 ≤ length marks) where
  fits : (g : ℕ) → Gap (extent_of d.sizes) g → (g + 1) * (d.sizes.width * d.sizes.height) ≤ length marks
  fits g h = part_below d.sizes g h refl long

  pub bare_gap : ((g : ℕ) × (g < d.sizes.planes - 1) × (Shown (d.sizes.width * d.sizes.height) marks g → ⊥)) → Fails bytes (faults.Stack GapUnlinked (length bytes - length rest))
  bare_gap (g, h, n) =
      refused r.split r.sound _ refl after_o End after z (first_unlinked {g = g} (omega arith) (λ l. n (linked_shown r.marked r.sound.inside g (fits g (omega arith)) l))) refl

  module _ (shown : (g : ℕ) → g < d.sizes.planes - 1 → Shown (d.sizes.width * d.sizes.height) marks g) where
    every_gap : (g : ℕ) → Gap (extent_of d.sizes) g → Linked r.links g
    every_gap g h = shown_linked r.marked r.sound.inside g (fits g h) (shown g (omega arith))

    split : bytes ≡ text (ended (extent_of d.sizes) (sets_of d.order) r.links) ++ after
    split = r.split ∙ rw z (with_end (spelled (Stack (extent_of d.sizes)) ++ spelled (Order (sets_of d.order))) r.links after)

    pub follows : (length after ≡ 0 → ⊥) → Fails bytes (faults.Stack OutOfPlace (length bytes - length after))
    follows n = stops split (r.sound, every_gap) (length bytes - length after) refl (faults.Stack OutOfPlace _) refl refl (more_follows after n)

    pub complete : after ≡ [] → Described bytes d marks
    complete e =
        record {
          links = r.links;
          formed = record { spelt = split ∙ (ap (λ t. text (ended (extent_of d.sizes) (sets_of d.order) r.links) ++ t) e ∙ append-nil _); sound = r.sound; gaps = every_gap };
          marked = r.marked;
        }

-- what has been read into the front of a map that was clear
pub in_front : (bytes front map : List ℕ) (r : Result Description StackFault) (n : ℕ) → length front ≡ 4032 → map ≡ replicate n 0 → is_err r ≡ false → MatchResult r (λ d. Described bytes d front) (λ x. Fails bytes x) → Answer bytes (front ++ drop 4032 map) r
in_front bytes front map (Ok d) n long clear is h =
    rw (clear, drop-replicate {X = ℕ} 4032 n 0) record { links = h.links; formed = h.formed; marked = marked_front (n - 4032) h.formed.sound.sizes h.formed.sound.inside long h.marked }
in_front bytes front map (Err x) n long clear is h = cc
