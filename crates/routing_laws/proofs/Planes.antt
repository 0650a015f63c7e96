-- One half of one plane, written among the bytes of all planes.
use Rattle.std.proofs.Common.{◌≡◌, ℕ, ◌+◌, ◌-◌, ◌*◌, ◌<◌, ◌≤◌, List, ◌++◌, length, get_or, take, drop, sym, ap, ◌∙◌, ⊎_elim, mul-le-mul_right, arith, length-append, length-drop}
use borrow.Rule.Slice.PartMut.{put_mid}
use Rattle.std.proofs.lemmas.List.{drop-drop, get_or_append_left, get_or-append_right, get_or-drop, get_or-take, length-take-le}
use Rattle.std.proofs.lemmas.Bool.{cases_order}
use Rattle.mesh.specs.declared.compass.Way.{Way}
use Rattle.mesh.specs.Halves.{with_half}
use Rattle.routing_laws.specs.Filling.{plane, put_halves, put_plane}
use Rattle.routing_laws.proofs.Filling.{length_put_halves, put_halves_at}

-- a plane before another ends where that one begins, at the latest
pub plane_order : (n y z : ℕ) → y < z → y * n + n ≤ z * n
plane_order n y z l = omega (arith, mul-le-mul_right {m = y + 1} {n = z} n (omega arith))

module _ (n z : ℕ) (way : Way) (bytes halves : List ℕ) (fits : z * n + n ≤ length bytes) (long : length halves ≡ n) where
  front_long : length (take (z * n) bytes) ≡ z * n
  front_long = length-take-le (z * n) bytes (omega arith)

  plane_long : length (plane n z bytes) ≡ n
  plane_long = length-take-le n (drop (z * n) bytes) (simp length-drop (omega arith))

  put_long : length (put_halves way (plane n z bytes) halves) ≡ n
  put_long = length_put_halves way (plane n z bytes) halves ∙ plane_long

  pub length_put_plane : length (put_plane n z way bytes halves) ≡ length bytes
  length_put_plane = simp (length-append, front_long, put_long, length-drop) (omega arith)

  pub put_plane_here : (i : ℕ) → i < n → get_or (put_plane n z way bytes halves) (z * n + i) 0 ≡ with_half way (get_or bytes (z * n + i) 0) (get_or halves i 0)
  put_plane_here i l =
      let put = put_halves way (plane n z bytes) halves in
      let back : z * n + i - z * n ≡ i = omega arith in
      get_or-append_right (take (z * n) bytes) (put ++ drop (z * n + n) bytes) (z * n) (z * n + i) 0 front_long (omega arith)
      ∙ ap (λ k. get_or (put ++ drop (z * n + n) bytes) k 0) back
      ∙ get_or_append_left put (drop (z * n + n) bytes) 0 i (omega (arith, put_long))
      ∙ put_halves_at way (plane n z bytes) halves i (omega (arith, plane_long)) (plane_long ∙ sym long)
      ∙ ap (λ b. with_half way b (get_or halves i 0)) (get_or-take n (drop (z * n) bytes) i 0 l ∙ get_or-drop (z * n) bytes i 0)

  before_it : (y i : ℕ) → i < n → y < z → get_or (put_plane n z way bytes halves) (y * n + i) 0 ≡ get_or bytes (y * n + i) 0
  before_it y i l o =
      let low : y * n + i < z * n = omega (arith, plane_order n y z o) in
      get_or_append_left (take (z * n) bytes) (put_halves way (plane n z bytes) halves ++ drop (z * n + n) bytes) 0 (y * n + i) (omega (arith, front_long))
      ∙ get_or-take (z * n) bytes (y * n + i) 0 low

  after_it : (y i : ℕ) → i < n → z < y → get_or (put_plane n z way bytes halves) (y * n + i) 0 ≡ get_or bytes (y * n + i) 0
  after_it y i l o =
      let put = put_halves way (plane n z bytes) halves in
      let high : z * n + n ≤ y * n = plane_order n z y o in
      let back : z * n + n + (y * n + i - z * n - n) ≡ y * n + i = omega arith in
      get_or-append_right (take (z * n) bytes) (put ++ drop (z * n + n) bytes) (z * n) (y * n + i) 0 front_long (omega arith)
      ∙ get_or-append_right put (drop (z * n + n) bytes) n (y * n + i - z * n) 0 put_long (omega arith)
      ∙ get_or-drop (z * n + n) bytes (y * n + i - z * n - n) 0
      ∙ ap (λ k. get_or bytes k 0) back

  pub put_plane_there : (y i : ℕ) → i < n → (y ≡ z → ⊥) → get_or (put_plane n z way bytes halves) (y * n + i) 0 ≡ get_or bytes (y * n + i) 0
  put_plane_there y i l ne = ⊎_elim (λ e. absurd (ne e)) (⊎_elim (before_it y i l) (after_it y i l)) (cases_order y z)

-- what a write to the part of plane z leaves
pub put_plane_part : (n z : ℕ) (way : Way) (bytes halves part : List ℕ) (a e : ℕ) → a ≡ z * n → e ≡ a + n → part ≡ put_halves way (take (e - a) (drop a bytes)) halves
    → put_mid a (e - a) bytes part ≡ put_plane n z way bytes halves
put_plane_part n z way bytes halves part a e start end is =
    let size : e - a ≡ n = omega arith in
    rw (is, size, start) (ap (λ back. take (z * n) bytes ++ (put_halves way (plane n z bytes) halves ++ back)) (drop-drop n (z * n) bytes))
