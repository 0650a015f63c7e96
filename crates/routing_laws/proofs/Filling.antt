-- A loop that fills a half of a plane: what is left to do gives the whole.
use Rattle.std.proofs.Common.{◌≡◌, ℕ, zero, suc, ◌+◌, ◌<◌, ◌≤◌, List, [], ◌∷◌, ◌++◌, map, length, get_or, take, drop, set, sym, refl, ap, ◌∙◌, append_assoc, append-nil, arith, length-set}
use Rattle.std.proofs.lemmas.List.{drop_all, drop_more, drop-set-lt, take_all, take_more_set}
use Rattle.mesh.specs.declared.compass.Way.{Way}
use Rattle.mesh.specs.declared.grid.Place.{Place}
use Rattle.mesh.specs.Halves.{with_half}
use Rattle.routing_laws.specs.Elevators.{origin}
use Rattle.routing_laws.specs.Filling.{ending, filled, put_halves}

-- the bytes before i are done, and what is left of the places, from the present state, gives the rest
pub record Left {C : Type 0} (way : Way) (point : Place → C → ℕ) (step : Place → C → C) (ps : List Place) (bytes : List ℕ) (c : C) (i : ℕ) (bytes' : List ℕ) (c' : C) : Type 0 where
  pub long : length bytes' ≡ length ps
  pub rest : take i bytes' ++ put_halves way (drop i bytes') (filled point step (drop i ps) c') ≡ put_halves way bytes (filled point step ps c)
  pub goes : ending step (drop i ps) c' ≡ ending step ps c

module _ {C : Type 0} {way : Way} {point : Place → C → ℕ} {step : Place → C → C} {ps : List Place} {bytes : List ℕ} {c : C} where
  pub left_none : length bytes ≡ length ps → Left way point step ps bytes c 0 bytes c
  left_none e = record { long = e; rest = refl; goes = refl }

  pub left_more : {i : ℕ} {bytes' : List ℕ} {c' : C} → Left way point step ps bytes c i bytes' c' → i < length bytes'
      → Left way point step ps bytes c (i + 1) (set bytes' i (with_half way (get_or bytes' i 0) (point (get_or ps i origin) c'))) (step (get_or ps i origin) c')
  left_more {i} {bytes'} {c'} h l =
      let p = get_or ps i origin in
      let y = with_half way (get_or bytes' i 0) (point p c') in
      let in_places : i < length ps = omega (arith, h.long) in
      let done = take_more_set bytes' i y l in
      let same : drop (i + 1) (set bytes' i y) ≡ drop (i + 1) bytes' = drop-set-lt (i + 1) bytes' i y (omega arith) in
      let one_byte = drop_more bytes' i 0 l in
      let one_place = drop_more ps i origin in_places in
      let before : take i bytes' ++ put_halves way (get_or bytes' i 0 ∷ drop (i + 1) bytes') (filled point step (p ∷ drop (i + 1) ps) c') ≡ put_halves way bytes (filled point step ps c) = rw (one_byte, one_place) at h.rest in
      record {
        long = length-set bytes' i y ∙ h.long;
        rest = rw (done, same) (rw append_assoc before);
        goes = rw one_place at h.goes;
      }

  pub left_all : {i : ℕ} {bytes' : List ℕ} {c' : C} → Left way point step ps bytes c i bytes' c' → length bytes' ≤ i
      → (bytes' ≡ put_halves way bytes (filled point step ps c)) × (c' ≡ ending step ps c)
  left_all {i} {bytes'} {c'} h l =
      let no_bytes = drop_all i bytes' l in
      let no_places = drop_all i ps (omega (arith, h.long)) in (
        sym (append-nil bytes') ∙ sym (ap (λ t. t ++ []) (take_all i bytes' l)) ∙ (rw no_bytes at h.rest),
        rw no_places at h.goes,
      )

-- a filler that asks nobody writes a function of the place
pub filled_alone : {C : Type 0} (f : Place → ℕ) (ps : List Place) (c : C) → filled (λ p _. f p) (λ _ d. d) ps c ≡ map f ps
filled_alone f [] c = refl
filled_alone f (p ∷ ps) c = ap (λ vs. f p ∷ vs) (filled_alone f ps c)

-- one byte after its half is replaced
pub put_halves_at : (way : Way) (bytes halves : List ℕ) (i : ℕ) → i < length bytes → length bytes ≡ length halves → get_or (put_halves way bytes halves) i 0 ≡ with_half way (get_or bytes i 0) (get_or halves i 0)
put_halves_at way [] halves i l e = absurd (omega arith)
put_halves_at way (b ∷ bytes) [] i l e = absurd (omega arith)
put_halves_at way (b ∷ bytes) (v ∷ halves) zero l e = refl
put_halves_at way (b ∷ bytes) (v ∷ halves) (suc i) l e = put_halves_at way bytes halves i (omega arith) (omega arith)

pub length_put_halves : (way : Way) (bytes halves : List ℕ) → length (put_halves way bytes halves) ≡ length bytes
length_put_halves way [] halves = refl
length_put_halves way (b ∷ bytes) [] = refl
length_put_halves way (b ∷ bytes) (v ∷ halves) = ap suc (length_put_halves way bytes halves)
