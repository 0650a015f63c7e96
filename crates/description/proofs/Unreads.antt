-- The faults of the byte and record layers.
use Rattle.std.proofs.Common.{◌≡◌, ℕ, ◌<◌, List, ◌∷◌, ◌++◌, length, refl}
use Rattle.std.proofs.lemmas.List.{nil_from_length}
use Rattle.mesh.specs.declared.refusals.Refusal.TheVariants.{OutOfRange, UnknownLetter}
use Rattle.description_laws.specs.declared.faults.ByteFault.{ByteFault}
use Rattle.description_laws.specs.declared.faults.RecordFault.TheVariants as record-faults
use Rattle.description_laws.specs.declared.records.Record.{Record}
use Rattle.description_laws.specs.Description.{InRange, Kind, kind_s, kind_o, kind_l, kind_z, missing, short, spelled, unknown, wrong}
use Rattle.description_laws.proofs.Firsts.{first_range}
use Rattle.description.specs.Unread.{Unreadable}

module _ (input : List ℕ) (place : ℕ) where
  pub nothing_left : (f : ByteFault) → (f.place ≡ place) × (length input ≡ 0) → Unreadable input place (record-faults.Ends f)
  nothing_left f (at, e) = record { fault = λ _ o. rw (nil_from_length input e) (missing o); placed = at; layered = refl }

  pub cut_short : (f : ByteFault) → {k c n : ℕ} {body : List ℕ} → Kind c n → k ≡ c → input ≡ k ∷ body → (f.place ≡ place) × (length body < n) → Unreadable input place (record-faults.Ends f)
  cut_short f {n = n} k is e (at, l) = record { fault = λ _ o. rw (e, is) (short o n k l); placed = at; layered = refl }

  pub strange : {c : ℕ} {body : List ℕ} → input ≡ c ∷ body → ((n : ℕ) → Kind c n → ⊥) → Unreadable input place (record-faults.Record UnknownLetter place)
  strange e u = record { fault = λ _ o. rw e (unknown o u); placed = refl; layered = refl }

  pub out_of_range : (r : Record) (rest : List ℕ) → input ≡ spelled r ++ rest → (InRange r → ⊥) → Unreadable input place (record-faults.Record OutOfRange place)
  out_of_range r rest e n = record { fault = λ _ o. wrong o r rest e (first_range n); placed = refl; layered = refl }

pub no_kind : {c : ℕ} → (c ≡ 83 → ⊥) → (c ≡ 79 → ⊥) → (c ≡ 76 → ⊥) → (c ≡ 90 → ⊥) → (n : ℕ) → Kind c n → ⊥
no_kind s o l z n kind_s = s refl
no_kind s o l z n kind_o = o refl
no_kind s o l z n kind_l = l refl
no_kind s o l z n kind_z = z refl
