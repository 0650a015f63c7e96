-- MD-safe's half: its length, its range, and that it points at the last nearest elevator.
use Rattle.std.proofs.Common.{◌≡◌, ℕ, ◌+◌, ◌*◌, ◌%◌, ◌<◌, ◌≤◌, List, map, length, get_or, set, sym, ap, ◌∙◌, subst, mod-eq_of_lt, arith, All}
use lib.ListN.{length-map}
use Rattle.std.proofs.lemmas.List.FromFn.{get_or-map-range_with_len, length-map-range_with_len}
use Rattle.std.proofs.lemmas.List.Elements.{All-from_get_or, All-map}
use Rattle.std.proofs.lemmas.List.{get_or-map}
use Rattle.mesh.specs.declared.compass.Way.{Way}
use Rattle.mesh.specs.declared.grid.Place.{Place}
use Rattle.mesh.specs.Compass.{toward}
use Rattle.mesh.specs.Halves.{half, with_half}
use Rattle.mesh.specs.Layout.{place_at}
use Rattle.mesh.proofs.Masks.{half_written, pack_small}
use Rattle.routing_laws.specs.Elevators.{origin, places}
use Rattle.routing_laws.specs.Filling.{put_halves}
use Rattle.routing_laws.specs.Nearest.{PointsSafely, last_nearest, pointing, safe_half}
use Rattle.routing_laws.proofs.Filling.{Left, filled_alone, left_all, left_more, left_none, put_halves_at}
use Rattle.routing_laws.proofs.Nearest.{last_nearest_found}

-- a half that is a function of the place
module _ (f : Place → ℕ) (w h : ℕ) where
  pub places_long : length (map f (places w h)) ≡ w * h
  places_long = length-map (places w h) f ∙ length-map-range_with_len (place_at w h) 0 (w * h)

  pub places_small : ((p : Place) → f p < 16) → All (λ v. v < 16) (map f (places w h))
  places_small small = All-map (λ v. v < 16) f (places w h) (All-from_get_or (λ p. f p < 16) (places w h) origin (λ i _. small (get_or (places w h) i origin)))

  pub place_of : (i : ℕ) → i < w * h → get_or (places w h) i origin ≡ place_at w h i
  place_of i l = get_or-map-range_with_len (place_at w h) 0 (w * h) i i origin l (omega arith)

  -- what stands in the bytes after such a half is written
  pub written_at : (way : Way) (bytes : List ℕ) → length bytes ≡ w * h → ((p : Place) → f p < 16) → (i : ℕ) → i < w * h
      → half way (get_or (put_halves way bytes (map f (places w h))) i 0) ≡ f (place_at w h i)
  written_at way bytes e small i l =
      let v = get_or (map f (places w h)) i 0 in
      let is : v ≡ f (place_at w h i) = get_or-map f (places w h) i origin 0 (omega (arith, length-map-range_with_len (place_at w h) 0 (w * h))) ∙ ap f (place_of i l) in
      ap (half way) (put_halves_at way bytes (map f (places w h)) i (omega arith) (e ∙ sym places_long))
      ∙ half_written way (get_or bytes i 0) v
      ∙ ap (λ n. n % 16) is
      ∙ mod-eq_of_lt (small (place_at w h i))

module _ (w h : ℕ) (es : List Place) where
  safe_below : (p : Place) → pointing p (last_nearest p es) < 16
  safe_below p = pack_small (toward p (last_nearest p es))

  pub safe_long : length (safe_half w h es) ≡ w * h
  safe_long = places_long (λ p. pointing p (last_nearest p es)) w h

  pub safe_small : All (λ v. v < 16) (safe_half w h es)
  safe_small = places_small (λ p. pointing p (last_nearest p es)) w h safe_below

  pub points_safely : (way : Way) (bytes : List ℕ) → 0 < length es → length bytes ≡ w * h → PointsSafely w h es way (put_halves way bytes (safe_half w h es))
  points_safely way bytes some e i l =
      let p = place_at w h i in
      let found = last_nearest_found {es = es} {p = p} some in
      (found.0, found.1, written_at (λ q. pointing q (last_nearest q es)) w h way bytes e safe_below i l ∙ ap (pointing p) (sym found.2))

-- the loop that writes a half which is a function f of the place
pub record AloneLeft (f : Place → ℕ) (w h : ℕ) (way : Way) (bytes : List ℕ) (i : ℕ) (bytes' : List ℕ) : Type 0 where
  pub left : Left {C = Unit {0}} way (λ p _. f p) (λ _ c. c) (places w h) bytes tt i bytes' tt

module _ {f : Place → ℕ} {w h : ℕ} {way : Way} {bytes : List ℕ} where
  pub alone_none : length bytes ≡ w * h → AloneLeft f w h way bytes 0 bytes
  alone_none e = record { left = left_none (e ∙ sym (length-map-range_with_len (place_at w h) 0 (w * h))) }

  pub alone_more : {i : ℕ} {bytes' : List ℕ} → AloneLeft f w h way bytes i bytes' → i < length bytes' → (r : ℕ) → r ≡ with_half way (get_or bytes' i 0) (f (place_at w h i)) → AloneLeft f w h way bytes (i + 1) (set bytes' i r)
  alone_more {i} {bytes'} q l r e =
      let here : i < w * h = omega (arith, q.left.long, length-map-range_with_len (place_at w h) 0 (w * h)) in
      let same = e ∙ ap (λ p. with_half way (get_or bytes' i 0) (f p)) (sym (place_of f w h i here)) in
      subst (λ v. AloneLeft f w h way bytes (i + 1) (set bytes' i v)) (sym same) record { left = left_more q.left l }

  pub alone_all : {i : ℕ} {bytes' : List ℕ} → AloneLeft f w h way bytes i bytes' → length bytes' ≤ i → bytes' ≡ put_halves way bytes (map f (places w h))
  alone_all q l = (left_all q.left l).0 ∙ ap (put_halves way bytes) (filled_alone f (places w h) tt)
