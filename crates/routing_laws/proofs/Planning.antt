-- Planning gap by gap: what the bytes hold after each gap, and at the end.
use Rattle.std.proofs.Common.{◌≡◌, ℕ, zero, suc, ◌+◌, ◌*◌, ◌/◌, ◌%◌, ◌<◌, ◌≤◌, cond, ltb, List, ◌++◌, map, length, get_or, drop, sym, refl, ap, ◌∙◌, ⊎_elim, add-one, arith, length-append, length-drop, All}
use lib.ListN.{length-map}
use Rattle.std.proofs.lemmas.Nat.{div-add-mod', div_below, div-mul-add, mod_below, mod-mul-add}
use Rattle.std.proofs.lemmas.List.FromFn.{fill_by_all, get_or-map-range_with_len, length-map-range_with_len}
use Rattle.std.proofs.lemmas.List.Elements.{All-get_or}
use Rattle.std.proofs.lemmas.List.{ext_get_or, get_or_append_left, get_or-drop, get_or-map, get_or_past, get_or-take, length-take-le}
use Rattle.std.proofs.lemmas.Bool.{cases_eq, cases_lt, cond_both, cond-false, cond-true, le-ltb, lt-ltb}
use Rattle.std.proofs.lemmas.Bool.Decides.{nat_tests}
use Rattle.mesh.specs.declared.compass.Way.{Way}
use Rattle.mesh.specs.declared.compass.Way.TheVariants.{Up, Down}
use Rattle.mesh.specs.Halves.{half, with_half}
use Rattle.routing_laws.specs.Filling.{Task, plane, put_plane}
use Rattle.routing_laws.specs.Plan.{Job, area, begun, between, down_task, gaps, location, planned, routers, up_task}
use Rattle.routing_laws.proofs.Planes.{length_put_plane, plane_order, put_plane_here, put_plane_there}

-- one more gap, of which the other planes take no notice
later_gap : (z g : ℕ) → (z ≡ g → ⊥) → ltb z g ≡ ltb z (g + 1)
later_gap z g ne = grind (arith, nat_tests)

-- a byte of two halves, with n gaps planned: `up z i` and `down g i` are the half-bytes of gap z and gap g
module _ (up down : ℕ → ℕ → ℕ) where
  abbrev high : ℕ → ℕ → ℕ → ℕ
  high n zero i = 0
  high n (suc g) i = cond (ltb g n) (down g i) 0

  abbrev low : ℕ → ℕ → ℕ → ℕ
  low n z i = cond (ltb z n) (up z i) 0

  abbrev byte : ℕ → ℕ → ℕ → ℕ
  byte n z i = high n z i * 16 + low n z i

  byte_none : (z i : ℕ) → byte 0 z i ≡ 0
  byte_none zero i = refl
  byte_none (suc g) i = rw (le-ltb g 0 (omega arith), le-ltb (suc g) 0 (omega arith))

  high_else : (g z i : ℕ) → (z ≡ g + 1 → ⊥) → high g z i ≡ high (g + 1) z i
  high_else g zero i ne = refl
  high_else g (suc d) i ne = ap (λ t. cond t (down d i) 0) (later_gap d g (λ e. ne (omega arith)))

  byte_else : (g z i : ℕ) → (z ≡ g → ⊥) → (z ≡ g + 1 → ⊥) → byte g z i ≡ byte (g + 1) z i
  byte_else g z i ne ne' = λ k. high_else g z i ne' k * 16 + cond (later_gap z g ne k) (up z i) 0

  -- the Up half of the plane below the gap
  byte_up : (g i : ℕ) → up g i < 16 → with_half Up (byte g g i) (up g i) ≡ byte (g + 1) g i
  byte_up g i small =
      let new : low (g + 1) g i ≡ up g i = cond-true (ltb g (g + 1)) (up g i) 0 (lt-ltb g (g + 1) (omega arith)) in
      let old : low g g i ≡ 0 = cond-false (ltb g g) (up g i) 0 (le-ltb g g (omega arith)) in
      let same : high g g i ≡ high (g + 1) g i = high_else g g i (λ e. omega arith) in
      rw (new, old, same) (omega arith)

  -- the Down half of the plane above it
  byte_down : (g i : ℕ) → down g i < 16 → with_half Down (byte g (suc g) i) (down g i) ≡ byte (g + 1) (suc g) i
  byte_down g i small =
      rw (le-ltb g g (omega arith), le-ltb (suc g) g (omega arith), lt-ltb g (g + 1) (omega arith), le-ltb (suc g) (g + 1) (omega arith)) (omega arith)

-- the laws of a filler that planning needs
pub record Fitting {C : Type 0} (j : Job C) : Type 0 where
  pub long : (t : Task) (c : C) → length (j.half t c) ≡ t.width * t.height
  pub small : (t : Task) (c : C) → All (λ v. v < 16) (j.half t c)

-- the bytes with n gaps planned
pub record Holds {C : Type 0} (j : Job C) (c : C) (n : ℕ) (bytes : List ℕ) : Type 0 where
  pub whole : length bytes ≡ routers j
  pub each : (z i : ℕ) → z < j.sizes.planes → i < area j → get_or bytes (z * area j + i) 0 ≡ location j c n z i

module _ {C : Type 0} (j : Job C) (c : C) where
  abbrev up_at : ℕ → ℕ → ℕ
  up_at z i = get_or (j.half (up_task j z) (begun j c z)) i 0

  abbrev down_at : ℕ → ℕ → ℕ
  down_at g i = get_or (j.half (down_task j g) (between j c g)) i 0

  -- with all gaps planned
  pub holds_all : (bytes : List ℕ) → Holds j c (gaps j) bytes → 0 < area j → bytes ≡ planned j c
  holds_all bytes h some =
      fill_by_all (λ i. location j c (gaps j) (i / area j) (i % area j)) bytes (routers j) 0 h.whole
      (λ k l. ap (λ m. get_or bytes m 0) (sym (div-add-mod' k (area j))) ∙ h.each (k / area j) (k % area j) (div_below k (area j) j.sizes.planes some l) (mod_below k (area j) some))

  -- with one more gap planned
  module _ (fit : Fitting j) (g : ℕ) (more : g < gaps j) (bytes : List ℕ) (h : Holds j c g bytes) where
    abbrev ups : List ℕ
    ups = j.half (up_task j g) (begun j c g)

    abbrev downs : List ℕ
    downs = j.half (down_task j g) (between j c g)

    abbrev mid : List ℕ
    mid = put_plane (area j) g Up bytes ups

    abbrev new : List ℕ
    new = put_plane (area j) (g + 1) Down mid downs

    fits_low : g * area j + area j ≤ length bytes
    fits_low = omega (arith, plane_order (area j) g j.sizes.planes (omega arith), h.whole)

    mid_long : length mid ≡ length bytes
    mid_long = length_put_plane (area j) g Up bytes ups fits_low (fit.long (up_task j g) (begun j c g))

    fits_high : (g + 1) * area j + area j ≤ length mid
    fits_high = omega (arith, plane_order (area j) (g + 1) j.sizes.planes (omega arith), h.whole, mid_long)

    up_here : (i : ℕ) → i < area j → get_or mid (g * area j + i) 0 ≡ with_half Up (get_or bytes (g * area j + i) 0) (up_at g i)
    up_here = put_plane_here (area j) g Up bytes ups fits_low (fit.long (up_task j g) (begun j c g))

    up_there : (z i : ℕ) → i < area j → (z ≡ g → ⊥) → get_or mid (z * area j + i) 0 ≡ get_or bytes (z * area j + i) 0
    up_there = put_plane_there (area j) g Up bytes ups fits_low (fit.long (up_task j g) (begun j c g))

    down_here : (i : ℕ) → i < area j → get_or new ((g + 1) * area j + i) 0 ≡ with_half Down (get_or mid ((g + 1) * area j + i) 0) (down_at g i)
    down_here = put_plane_here (area j) (g + 1) Down mid downs fits_high (fit.long (down_task j g) (between j c g))

    down_there : (z i : ℕ) → i < area j → (z ≡ g + 1 → ⊥) → get_or new (z * area j + i) 0 ≡ get_or mid (z * area j + i) 0
    down_there = put_plane_there (area j) (g + 1) Down mid downs fits_high (fit.long (down_task j g) (between j c g))

    small_up : (i : ℕ) → i < area j → up_at g i < 16
    small_up i l = All-get_or (λ v. v < 16) ups i 0 (omega (arith, fit.long (up_task j g) (begun j c g))) (fit.small (up_task j g) (begun j c g))

    small_down : (i : ℕ) → i < area j → down_at g i < 16
    small_down i l = All-get_or (λ v. v < 16) downs i 0 (omega (arith, fit.long (down_task j g) (between j c g))) (fit.small (down_task j g) (between j c g))

    lower : (i : ℕ) → i < area j → get_or new (g * area j + i) 0 ≡ location j c (g + 1) g i
    lower i l =
        down_there g i l (λ e. omega arith)
        ∙ up_here i l
        ∙ ap (λ b. with_half Up b (up_at g i)) (h.each g i (omega arith) l)
        ∙ byte_up up_at down_at g i (small_up i l)

    upper : (i : ℕ) → i < area j → get_or new ((g + 1) * area j + i) 0 ≡ location j c (g + 1) (g + 1) i
    upper i l =
        down_here i l
        ∙ ap (λ b. with_half Down b (down_at g i)) (up_there (g + 1) i l (λ e. omega arith) ∙ h.each (g + 1) i (omega arith) l ∙ ap (λ z. location j c g z i) (add-one g))
        ∙ byte_down up_at down_at g i (small_down i l)
        ∙ ap (λ z. location j c (g + 1) z i) (sym (add-one g))

    else : (z i : ℕ) → z < j.sizes.planes → i < area j → (z ≡ g → ⊥) → (z ≡ g + 1 → ⊥) → get_or new (z * area j + i) 0 ≡ location j c (g + 1) z i
    else z i l m ne ne' = down_there z i m ne' ∙ up_there z i m ne ∙ h.each z i l m ∙ byte_else up_at down_at g z i ne ne'

    pub holds_more : Holds j c (g + 1) new
    holds_more = record {
      whole = length_put_plane (area j) (g + 1) Down mid downs fits_high (fit.long (down_task j g) (between j c g)) ∙ mid_long ∙ h.whole;
      each = λ z i l m.
          ⊎_elim
          (λ (e : z ≡ g). rw e (lower i m))
          (λ ne. ⊎_elim (λ (e : z ≡ g + 1). rw e (upper i m)) (λ ne'. else z i l m ne ne') (cases_eq z (g + 1)))
          (cases_eq z g);
    }

-- what the halves of a planned stack are: those that the filler wrote
module _ {C : Type 0} (j : Job C) (c : C) (fit : Fitting j) (some : 0 < area j) (rest : List ℕ) where
  abbrev whole : List ℕ
  whole = planned j c ++ rest

  planned_long : length (planned j c) ≡ routers j
  planned_long = length-map-range_with_len (λ i. location j c (gaps j) (i / area j) (i % area j)) 0 (routers j)

  planned_at : (z i : ℕ) → z < j.sizes.planes → i < area j → get_or whole (z * area j + i) 0 ≡ location j c (gaps j) z i
  planned_at z i l m =
      let here : z * area j + i < routers j = omega (arith, plane_order (area j) z j.sizes.planes l) in
      get_or_append_left (planned j c) rest 0 (z * area j + i) (omega (arith, planned_long))
      ∙ get_or-map-range_with_len (λ k. location j c (gaps j) (k / area j) (k % area j)) 0 (routers j) (z * area j + i) (z * area j + i) 0 here (omega arith)
      ∙ (λ k. location j c (gaps j) (div-mul-add z (area j) i m k) (mod-mul-add z (area j) i m k))

  -- one half of plane z, once its values are known
  halves_are : (way : Way) (z : ℕ) (halves : List ℕ) → z < j.sizes.planes → length halves ≡ area j
      → ((i : ℕ) → i < area j → half way (location j c (gaps j) z i) ≡ get_or halves i 0) → map (half way) (plane (area j) z whole) ≡ halves
  halves_are way z halves l e each =
      let fits : z * area j + area j ≤ length whole = omega (arith, plane_order (area j) z j.sizes.planes l, length-append (planned j c) rest, planned_long) in
      let long : length (plane (area j) z whole) ≡ area j = length-take-le (area j) (drop (z * area j) whole) (simp length-drop (omega arith)) in
      ext_get_or 0 (map (half way) (plane (area j) z whole)) halves (length-map (plane (area j) z whole) (half way) ∙ long ∙ sym e)
      (λ i m.
      let here : i < area j = omega (arith, length-map (plane (area j) z whole) (half way)) in
      get_or-map (half way) (plane (area j) z whole) i 0 0 (omega arith)
      ∙ ap (half way) (get_or-take (area j) (drop (z * area j) whole) i 0 here ∙ get_or-drop (z * area j) whole i 0 ∙ planned_at z i l here)
      ∙ each i here)

  small_at : (t : Task) (d : C) (i : ℕ) → get_or (j.half t d) i 0 < 16
  small_at t d i =
      ⊎_elim
      (λ (l : i < length (j.half t d)). All-get_or (λ v. v < 16) (j.half t d) i 0 l (fit.small t d))
      (λ (l : length (j.half t d) ≤ i). omega (arith, get_or_past (j.half t d) i 0 l))
      (cases_lt i (length (j.half t d)))

  low_small : (z i : ℕ) → low (up_at j c) (down_at j c) (gaps j) z i < 16
  low_small z i = cond_both (ltb z (gaps j)) (up_at j c z i) 0 (λ n. n < 16) (λ _. small_at (up_task j z) (begun j c z) i) (λ _. omega arith)

  pub planned_up : (g : ℕ) → g < gaps j → map (half Up) (plane (area j) g whole) ≡ j.half (up_task j g) (begun j c g)
  planned_up g l =
      halves_are Up g (j.half (up_task j g) (begun j c g)) (omega arith) (fit.long (up_task j g) (begun j c g))
      (λ i m. let small = low_small g i in let is : low (up_at j c) (down_at j c) (gaps j) g i ≡ up_at j c g i = cond-true (ltb g (gaps j)) (up_at j c g i) 0 (lt-ltb g (gaps j) l) in omega arith)

  pub planned_down : (g : ℕ) → g < gaps j → map (half Down) (plane (area j) (g + 1) whole) ≡ j.half (down_task j g) (between j c g)
  planned_down g l =
      halves_are Down (g + 1) (j.half (down_task j g) (between j c g)) (omega arith) (fit.long (down_task j g) (between j c g))
      (λ i m.
      let small = low_small (suc g) i in
      let is : high (up_at j c) (down_at j c) (gaps j) (suc g) i ≡ down_at j c g i = cond-true (ltb g (gaps j)) (down_at j c g i) 0 (lt-ltb g (gaps j) l) in
      ap (λ z. half Down (location j c (gaps j) z i)) (add-one g) ∙ omega arith)
