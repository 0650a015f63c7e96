-- The list of elevators: exactly the links, each once, in row order.
use Rattle.std.proofs.Common.{AllPairs, ◌≡◌, ℕ, zero, suc, ◌+◌, ◌-◌, ◌*◌, ◌/◌, ◌%◌, ◌<◌, ◌≤◌, Bool, true, cond, not, eqb, List, [], ◌∷◌, ◌++◌, length, get_or, take, drop, filter, sym, refl, ap, ◌∙◌, mod-eq_of_lt, mul_assoc, mul_comm, add-mul, zero-add, zero-mul, arith, length-drop, Contains, All}
use Rattle.std.specs.List.{range_with_len}
use Rattle.std.proofs.lemmas.Nat.{div-add-mod', div_below, div-mul-add, mod_below, mod-mul-add, mul-add-lt}
use Rattle.std.proofs.lemmas.List.FromFn.{get_or-map-range_with_len, length-map-range_with_len}
use Rattle.std.proofs.lemmas.List.Elements.{All-contains, All-contains_itself, All-filter, All-map, Contains-append_right, filter_more, filter_passes}
use Rattle.std.proofs.lemmas.List.Kept.{AllPairs-filter}
use Rattle.std.proofs.lemmas.List.Filters.{length-filter_both}
use Rattle.std.proofs.lemmas.List.{get_or_default, get_or-drop, get_or-take, length-take-le, take_all}
use Rattle.std.proofs.lemmas.Bool.{cond_both, true≢false, eq-eqb, eqb-true}
use Rattle.mesh.specs.declared.grid.Place.{Place}
use Rattle.mesh.specs.Layout.{Inside, Shown, cell, place_at}
use Rattle.routing_laws.specs.Elevators.{Joined, Listed, elevators, linked, origin, places}

-- what is kept was there and passes, and what was there and passes is kept
pub has_kept : {X : Type 0} (t : X → Bool) (xs : List X) (x : X) → Contains (filter t xs) x → Contains xs x × (t x ≡ true)
has_kept t xs x h = (
  All-contains (Contains xs) (filter t xs) x (All-filter t (Contains xs) xs (All-contains_itself xs)) h,
  All-contains (λ y. t y ≡ true) (filter t xs) x (filter_passes t xs) h,
)

pub kept_has : {X : Type 0} (t : X → Bool) (xs : List X) (x : X) → Contains xs x → t x ≡ true → Contains (filter t xs) x
kept_has t [] x h pass = absurd (omega arith)
kept_has t (y ∷ ys) x (zero, l, is) pass =
    cond_both (t y) (y ∷ filter t ys) (filter t ys) (λ l. Contains l x) (λ _. (0, omega arith, is)) (λ no. absurd (true≢false (sym pass ∙ ap t (sym is) ∙ no)))
kept_has t (y ∷ ys) x (suc k, l, is) pass =
    let rest = kept_has t ys x (k, omega arith, is) pass in
    cond_both (t y) (y ∷ filter t ys) (filter t ys) (λ l. Contains l x) (λ _. Contains-append_right (y ∷ []) (filter t ys) x rest) (λ _. rest)

-- the part of n entries from a on
pub part_long : (xs : List ℕ) (a n : ℕ) → a + n ≤ length xs → length (take (a + n - a) (drop a xs)) ≡ n
part_long xs a n l = length-take-le (a + n - a) (drop a xs) (simp length-drop (omega arith)) ∙ omega arith

module _ (w h : ℕ) (some_columns : 0 < w) (some_rows : 0 < h) where
  pub place_inside : (i : ℕ) → Inside w h (place_at w h i)
  place_inside i = record { column = mod_below i w some_columns; row = mod_below (i / w) h some_rows }

  pub cell_place : (i : ℕ) → i < w * h → cell w h 0 (place_at w h i) ≡ i
  cell_place i l =
      let row : i / w < h = div_below i w h some_columns (omega arith) in
      let low : i / w % h ≡ i / w = mod-eq_of_lt row in
      rw (low, zero-mul h, zero-add (i / w)) (div-add-mod' i w)

  -- a gap's part of the map is in the order of the places
  pub cell_at : (g i : ℕ) → i < w * h → cell w h g (place_at w h i) ≡ g * (w * h) + i
  cell_at g i l =
      let here = cell_place i l in
      let spread : (g * h + i / w % h) * w ≡ g * h * w + i / w % h * w = add-mul (g * h) (i / w % h) w in
      let turned : g * h * w ≡ g * (w * h) = mul_assoc g h w ∙ ap (λ n. g * n) (mul_comm h w) in
      omega arith

  pub place_cell : (z : ℕ) (p : Place) → Inside w h p → place_at w h (cell w h z p) ≡ p
  place_cell z p q =
      let row : cell w h z p / w ≡ z * h + p.y = div-mul-add (z * h + p.y) w p.x q.column in
      λ i. record { x = mod-mul-add (z * h + p.y) w p.x q.column i; y = (ap (λ n. n % h) row ∙ mod-mul-add z h p.y q.row) i }

  pub cell_below : (p : Place) → Inside w h p → cell w h 0 p < w * h
  cell_below p q = omega (arith, mul-add-lt p.y w p.x h q.row q.column)

  pub has_places : (p : Place) → Inside w h p → Contains (places w h) p
  has_places p q = (
    cell w h 0 p,
    rw (length-map-range_with_len (place_at w h) 0 (w * h)) (cell_below p q),
    get_or-map-range_with_len (place_at w h) 0 (w * h) (cell w h 0 p) (cell w h 0 p) p (cell_below p q) (omega arith) ∙ place_cell 0 p q,
  )

  all_inside : All (Inside w h) (places w h)
  all_inside = All-map (Inside w h) (place_at w h) (range_with_len 0 (w * h)) (λ k d _. place_inside (get_or (range_with_len 0 (w * h)) k d))

  -- each place before all that follow it
  places_rise : AllPairs (λ p q. cell w h 0 p < cell w h 0 q) (places w h)
  places_rise i j d l m =
      let long = length-map-range_with_len (place_at w h) 0 (w * h) in
      let at : (k : ℕ) → k < w * h → get_or (places w h) k d ≡ place_at w h k = λ k n. get_or-map-range_with_len (place_at w h) 0 (w * h) k k d n (omega arith) in
      rw (at i (omega arith), at j (omega arith)) (omega (arith, cell_place i (omega arith), cell_place j (omega arith)))

  pub all_listed : (links : List ℕ) (g : ℕ) → Listed w h links g (elevators w h links g)
  all_listed links g =
      let kept = linked w h links g in
      record {
        inside = λ p e. All-contains (Inside w h) (places w h) p all_inside (has_kept kept (places w h) p e).0;
        sound = λ p e. eqb-true _ _ (has_kept kept (places w h) p e).1;
        complete = λ p q e. kept_has kept (places w h) p (has_places p q) (eq-eqb _ _ e);
        rising = λ i j l m. AllPairs-filter (λ p q. cell w h 0 p < cell w h 0 q) kept (places w h) places_rise i j origin l m;
      }

  part_read : (links : List ℕ) (g i a e : ℕ) → a ≡ g * (w * h) → e ≡ a + w * h → i < w * h → get_or (take (e - a) (drop a links)) i 0 ≡ get_or links (cell w h g (place_at w h i)) 0
  part_read links g i a e start end l = get_or-take (e - a) (drop a links) i 0 (omega arith) ∙ get_or-drop a links i 0 ∙ ap (λ n. get_or links n 0) (omega (arith, cell_at g i l))

  -- a loop along the gap's part of the map, from a to e, keeps the places with a link: one turn, and the end
  pub listed_more : (links : List ℕ) (g i a e : ℕ) (p : Place) (front front' : List Place) → a ≡ g * (w * h) → e ≡ a + w * h → i < w * h
      → front ≡ filter (linked w h links g) (take i (places w h)) → p ≡ place_at w h i
      → front' ≡ front ++ cond (eqb (get_or (take (e - a) (drop a links)) i 0) 1) (p ∷ []) [] → front' ≡ filter (linked w h links g) (take (i + 1) (places w h))
  listed_more links g i a e p front front' start end l before here after =
      let read = part_read links g i a e start end l in
      let place : get_or (places w h) i origin ≡ place_at w h i = get_or-map-range_with_len (place_at w h) 0 (w * h) i i origin l (omega arith) in
      let more = filter_more (linked w h links g) (places w h) i origin (omega (arith, length-map-range_with_len (place_at w h) 0 (w * h))) in
      after ∙ (λ k. before k ++ cond (eqb (read k) 1) (here k ∷ []) []) ∙ sym (ap (λ q. filter (linked w h links g) (take i (places w h)) ++ cond (linked w h links g q) (q ∷ []) []) place) ∙ sym more

  pub listed_all : (links : List ℕ) (g i : ℕ) (front : List Place) → w * h ≤ i → front ≡ filter (linked w h links g) (take i (places w h)) → front ≡ elevators w h links g
  listed_all links g i front l e = e ∙ ap (filter (linked w h links g)) (take_all i (places w h) (omega (arith, length-map-range_with_len (place_at w h) 0 (w * h))))

  -- a gap's part of the map, from a to e, holds a 1 where the gap has a link; and then an elevator is listed
  pub joined_from : (links : List ℕ) (g a e : ℕ) → a ≡ g * (w * h) → e ≡ a + w * h → a + w * h ≤ length links → Contains (take (e - a) (drop a links)) 1 → Joined w h links g
  joined_from links g a e start end fits (k, l, is) =
      let long : length (take (e - a) (drop a links)) ≡ w * h = ap (λ n. length (take (n - a) (drop a links))) end ∙ part_long links a (w * h) fits in
      let here : k < w * h = omega arith in
      let read : get_or (take (e - a) (drop a links)) k 0 ≡ get_or links (cell w h g (place_at w h k)) 0 = part_read links g k a e start end here in
      record { at = place_at w h k; inside = place_inside k; link = sym read ∙ get_or_default (take (e - a) (drop a links)) k 0 1 l ∙ is }

  pub joined_has : (links : List ℕ) (g a e : ℕ) → a ≡ g * (w * h) → e ≡ a + w * h → a + w * h ≤ length links → Joined w h links g → Contains (take (e - a) (drop a links)) 1
  joined_has links g a e start end fits q =
      let long : length (take (e - a) (drop a links)) ≡ w * h = ap (λ n. length (take (n - a) (drop a links))) end ∙ part_long links a (w * h) fits in
      let k = cell w h 0 q.at in
      let here = cell_below q.at q.inside in
      let read = part_read links g k a e start end here in
      let one : get_or (take (e - a) (drop a links)) k 0 ≡ 1 = read ∙ ap (λ p. get_or links (cell w h g p) 0) (place_cell 0 q.at q.inside) ∙ q.link in
      (k, omega arith, get_or_default (take (e - a) (drop a links)) k 1 0 (omega arith) ∙ one)

  -- the same in the words of the link map
  part_end : (g : ℕ) → (g + 1) * (w * h) ≡ g * (w * h) + w * h
  part_end g = omega arith

  pub joined_shown : (links : List ℕ) (g : ℕ) → g * (w * h) + w * h ≤ length links → Shown (w * h) links g → Joined w h links g
  joined_shown links g = joined_from links g (g * (w * h)) ((g + 1) * (w * h)) refl (part_end g)

  pub shown_joined : (links : List ℕ) (g : ℕ) → g * (w * h) + w * h ≤ length links → Joined w h links g → Shown (w * h) links g
  shown_joined links g = joined_has links g (g * (w * h)) ((g + 1) * (w * h)) refl (part_end g)

  pub joined_some : (links : List ℕ) (g : ℕ) → Joined w h links g → 0 < length (elevators w h links g)
  joined_some links g q = let e = (all_listed links g).complete q.at q.inside q.link in omega (arith, e.1)

  pub elevators_most : (links : List ℕ) (g : ℕ) → length (elevators w h links g) ≤ w * h
  elevators_most links g = omega (arith, length-filter_both (linked w h links g) (λ p. not (linked w h links g p)) (λ _. refl) (places w h), length-map-range_with_len (place_at w h) 0 (w * h))
