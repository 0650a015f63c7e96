-- The nearest elevators, and MD-safe's choice among them: the last one listed.
use Rattle.std.specs.Prelude.{◌≡◌, ℕ, ◌*◌, ◌<◌, ◌≤◌, cond, List, map, length, fold, nat_le, slice_index, slice_index_or}
use Rattle.mesh.specs.declared.compass.Way.{Way}
use Rattle.mesh.specs.declared.grid.Place.{Place}
use Rattle.mesh.specs.Compass.{distance, toward}
use Rattle.mesh.specs.Halves.{half, pack}
use Rattle.mesh.specs.Layout.{place_at}
use Rattle.routing_laws.specs.Elevators.{origin, places}
use Rattle.routing_laws.specs.Filling.{put_halves}

-- elevator number b is nearest to p, and every later one is farther
pub record LastNearest (es : List Place) (p : Place) (b : ℕ) : Type 0 where
  pub listed : b < length es
  pub nearest : (j : ℕ) → j < length es → distance p (slice_index_or es b origin) ≤ distance p (slice_index_or es j origin)
  pub last : (j : ℕ) → b < j → j < length es → distance p (slice_index_or es b origin) < distance p (slice_index_or es j origin)

-- the later of two elevators, unless it is farther
abbrev pub nearer : Place → Place → Place → Place
nearer p a e = cond (nat_le (distance p e) (distance p a)) e a

-- the last nearest elevator, found along the list
abbrev pub last_nearest : Place → List Place → Place
last_nearest p es = fold (nearer p) (slice_index_or es 0 origin) es

-- a half-byte that points at an elevator: exactly the directions in which it lies
abbrev pub pointing : Place → Place → ℕ
pointing p e = pack (toward p e)

-- MD-safe's half: each router's half-byte points at its last nearest elevator
abbrev pub safe_half : ℕ → ℕ → List Place → List ℕ
safe_half w h es = map (λ p. pointing p (last_nearest p es)) (places w h)

-- the same of the bytes written for a way, router by router
abbrev pub PointsSafely : ℕ → ℕ → List Place → Way → List ℕ → Type 0
PointsSafely w h es way bytes =
    (i : ℕ) → i < w * h → (b : ℕ) × LastNearest es (place_at w h i) b × (half way (slice_index bytes i) ≡ pointing (place_at w h i) (slice_index_or es b origin))

-- the theorem: so do the bytes that MD-safe's half is written into
abbrev pub SafePoints : Type 0
SafePoints =
    (w h : ℕ) (es : List Place) (way : Way) (bytes : List ℕ) → 0 < length es → length bytes ≡ w * h → PointsSafely w h es way (put_halves way bytes (safe_half w h es))
