-- A reading that stops: the first fault of the bytes is at the front that has been read.
use Rattle.std.proofs.Common.{◌≡◌, ℕ, ◌-◌, List, ◌++◌, length, refl, ap, arith, length-append}
use Rattle.mesh.specs.declared.grid.Link.{Link}
use Rattle.mesh.specs.declared.refusals.Refusal.{Refusal}
use Rattle.description_laws.specs.declared.faults.Layer.TheVariants as layers
use Rattle.description_laws.specs.declared.faults.RecordFault.{RecordFault}
use Rattle.description_laws.specs.declared.faults.StackFault.{StackFault}
use Rattle.description_laws.specs.declared.faults.StackFault.TheVariants.{Stack, Unread}
use Rattle.description_laws.specs.declared.records.Extent.{Extent}
use Rattle.description_laws.specs.declared.records.Record.{Record}
use Rattle.description_laws.specs.declared.records.Record.TheVariants as records
use Rattle.description_laws.specs.declared.records.SetNumbers.{SetNumbers}
use Rattle.description_laws.specs.Description.{Fault, Faultless, First, Front, InPlace, Open, first, last, link, listing, nothing, second, sized, spelled, text, wrong}
use Rattle.description_laws.specs.Faults.{layer_for, layer_of, place_of, refusal_of}
use Rattle.description.specs.Reading.{Fails}
use Rattle.description.specs.Unread.{Unreadable}

module _ {bytes rest : List ℕ} {f : Front} (split : bytes ≡ text f ++ rest) (ok : Faultless f) (place : ℕ) (here : place ≡ length bytes - length rest) where
  pub stops : (x : StackFault) → place_of x ≡ place → layer_of x ≡ layer_for (refusal_of x) → Fault f rest (refusal_of x) → Fails bytes x
  stops x at y k =
      record {
        faulty = record { front = f; rest = rest; split = split; faultless = ok; place = omega (arith, simp length-append at (ap length split)); fault = k };
        layered = y;
      }

  pub unread : (y : RecordFault) → Open f → Unreadable rest place y → Fails bytes (Unread y)
  unread y o u = stops (Unread y) u.placed u.layered (u.fault f o)

  pub refused : {x : Refusal} → Open f → (r : Record) (after : List ℕ) → rest ≡ spelled r ++ after → First f r x → layers.Stack ≡ layer_for x → Fails bytes (Stack x place)
  refused {x} o r after e w y = stops (Stack x place) refl y (wrong o r after e w)

-- a record of another kind is out of its place
pub not_first : {r : Record} → ((e : Extent) → r ≡ records.Stack e → ⊥) → InPlace nothing r → ⊥
not_first n (first {e}) = n e refl

pub not_second : {e : Extent} {r : Record} → ((s : SetNumbers) → r ≡ records.Order s → ⊥) → InPlace (sized e) r → ⊥
not_second n (second {s = s}) = n s refl

pub not_listed : {e : Extent} {s : SetNumbers} {ls : List Link} {r : Record} → ((l : Link) → r ≡ records.Pillar l → ⊥) → (r ≡ records.End → ⊥) → InPlace (listing e s ls) r → ⊥
not_listed n m (link {l = l}) = n l refl
not_listed n m last = m refl
