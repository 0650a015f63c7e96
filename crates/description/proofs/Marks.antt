-- The link map while links are read.
use Rattle.std.proofs.Common.{◌≡◌, ℕ, zero, suc, ◌+◌, ◌-◌, ◌*◌, ◌<◌, ◌≤◌, ◌⊎◌, List, [], ◌∷◌, ◌++◌, length, get_or, set, replicate, sym, refl, ap, ◌∙◌, subst, inl, inr, ⊎_elim, append_assoc, arith, length-append, mul-le-mul}
use Rattle.std.specs.List.{Contains}
use Rattle.std.proofs.lemmas.List.Elements.{Contains-append_left, Contains-append_right, Contains-push, Contains-push_cases}
use Rattle.std.proofs.lemmas.List.{get_or_default, get_or-replicate, get_or-set_same, get_or-set_other, get_or_append_left, get_or-append_right, flat_map_more, length-replicate, length-set, same_from_push}
use Rattle.std.proofs.lemmas.List.Edits.{get_or-between, length-between}
use Rattle.std.proofs.lemmas.Bool.{cases_eq, cases_lt}
use Rattle.mesh.specs.declared.grid.Link.{Link}
use Rattle.mesh.specs.declared.stack.Sizes.{Sizes}
use Rattle.mesh.specs.declared.turns.TurnOrder.{TurnOrder}
use Rattle.description_laws.specs.declared.records.Extent.{Extent}
use Rattle.description_laws.specs.declared.records.Record.TheVariants.{Order, Pillar, Stack}
use Rattle.description_laws.specs.declared.records.SetNumbers.{SetNumbers}
use Rattle.description_laws.specs.Description.{InRange, Linked, Once, Sound, Within, spelled, spelled_links}
use Rattle.description.specs.declared.reader.Description.{Description}
use Rattle.mesh.specs.Layout.{Shown}
use Rattle.description.specs.Reading.{Marked, Reading, extent_of, sets_of, spot}
use Rattle.description.proofs.Spots.{gap_below, inner, inner_below, own_gap, same_link, spot_below, spot_inner}

Contains-cons_cases : (y x : Link) (xs : List Link) → Contains (y ∷ xs) x → (y ≡ x) ⊎ Contains xs x
Contains-cons_cases y x xs (zero, l, at) = inl at
Contains-cons_cases y x xs (suc k, l, at) = inr (k, omega arith, at)

-- a link lies at an index, or none does
lies : (e : Extent) (ls : List Link) (i : ℕ) → ((l : Link) × Contains ls l × (spot e l ≡ i)) ⊎ ((l : Link) → Contains ls l → spot e l ≡ i → ⊥)
lies e [] i = inr (λ l (k, h, _) p. omega arith)
lies e (y ∷ ys) i =
    ⊎_elim
    (λ (p : spot e y ≡ i). inl (y, (0, omega arith, refl), p))
    (λ (n : spot e y ≡ i → ⊥).
    ⊎_elim
    (λ (w : (l : Link) × Contains ys l × (spot e l ≡ i)). inl (w.0, Contains-append_right (y ∷ []) ys w.0 w.1, w.2))
    (λ (m : (l : Link) → Contains ys l → spot e l ≡ i → ⊥).
    inr (λ l h p. ⊎_elim (λ (q : y ≡ l). n (ap (spot e) q ∙ p)) (λ (q : Contains ys l). m l q p) (Contains-cons_cases y l ys h)))
    (lies e ys i))
    (cases_eq (spot e y) i)

module _ {e : Extent} {ls : List Link} {marks : List ℕ} (m : Marked e ls marks) where
  -- a byte that is marked is a link's
  marked_link : (i : ℕ) → i < length marks → get_or marks i 0 ≡ 1 → (l : Link) × Contains ls l × (spot e l ≡ i)
  marked_link i h p =
      ⊎_elim
      (λ (w : (l : Link) × Contains ls l × (spot e l ≡ i)). w)
      (λ (n : (l : Link) → Contains ls l → spot e l ≡ i → ⊥). elim (zero_not_one (m.bare i h n)) [ ])
      (lies e ls i)
    where
      zero_not_one : get_or marks i 0 ≡ 0 → ⊥
      zero_not_one q = omega arith

  module _ (inside : (l : Link) → Contains ls l → Within e l) where
    -- a link whose byte is marked was named before
    pub named : (l : Link) → Within e l → spot e l < length marks → get_or marks (spot e l) 0 ≡ 1 → Contains ls l
    named l w h p =
        let k = marked_link (spot e l) h p in subst (Contains ls) (same_link e k.0 l (inside k.0 k.1) w k.2) k.1

    -- a gap has a link where it has a mark
    module _ (g : ℕ) (fits : (g + 1) * (e.width * e.height) ≤ length marks) where
      abbrev area : ℕ
      area = e.width * e.height

      pub shown_linked : Shown area marks g → Linked ls g
      shown_linked (i, h, at) =
          let b : i < area = omega (arith, length-between marks (g * area) ((g + 1) * area) fits) in
          let k = marked_link (g * area + i) (omega arith) (get_or_default marks (g * area + i) 0 1 (omega arith) ∙ (sym (get_or-between marks (g * area) ((g + 1) * area) i 1 (omega arith)) ∙ at)) in
          (k.0, k.1, own_gap e k.0 g i (inside k.0 k.1) b k.2)

      pub linked_shown : Linked ls g → Shown area marks g
      linked_shown (l, h, p) =
          let b = inner_below e l (inside l h) in
          let q : spot e l ≡ g * area + inner e l = spot_inner e l ∙ ap (λ n. n * area + inner e l) p in (
            inner e l,
            omega (arith, length-between marks (g * area) ((g + 1) * area) fits),
            get_or-between marks (g * area) ((g + 1) * area) (inner e l) 1 (omega arith)
                ∙ (get_or_default marks (g * area + inner e l) 1 0 (omega arith) ∙ (ap (λ i. get_or marks i 0) (sym q) ∙ m.linked l h)),
          )

  -- one mark more
  pub marked_more : (l : Link) → spot e l < length marks → Marked e (ls ++ l ∷ []) (set marks (spot e l) 1)
  marked_more l h =
      record {
        linked = λ k hk.
            ⊎_elim
            (λ (o : Contains ls k). or_here (spot e k) (λ _. m.linked k o))
            (λ (q : l ≡ k). or_here (spot e k) (λ n. elim (n (sym (ap (spot e) q))) [ ]))
            (Contains-push_cases ls l k hk);
        bare = λ i b n.
            let other : i ≡ spot e l → ⊥ = λ q. n l (Contains-push ls l) (sym q) in
            get_or-set_other marks (spot e l) i 1 0 other ∙ m.bare i (rw (length-set marks (spot e l) 1) at b) (λ k hk. n k (Contains-append_left ls (l ∷ []) k hk));
      }
    where
      or_here : (i : ℕ) → ((i ≡ spot e l → ⊥) → get_or marks i 0 ≡ 1) → get_or (set marks (spot e l) 1) i 0 ≡ 1
      or_here i o =
          ⊎_elim
          (λ (q : i ≡ spot e l). rw q (get_or-set_same marks (spot e l) 1 0 h))
          (λ (n : i ≡ spot e l → ⊥). get_or-set_other marks (spot e l) i 1 0 n ∙ o n)
          (cases_eq i (spot e l))

pub marked_none : (e : Extent) (n : ℕ) → Marked e [] (replicate n 0)
marked_none e n =
    record { linked = λ l (k, h, _). omega arith; bare = λ i h _. get_or-replicate n i 0 0 (rw (length-replicate {A = ℕ} n 0) at h) }

-- a list is empty or has a last element
last_of : (xs : List Link) → (xs ≡ []) ⊎ ((ys : List Link) × (y : Link) × (xs ≡ ys ++ y ∷ []))
last_of [] = inl refl
last_of (x ∷ xs) =
    ⊎_elim
    (λ (e : xs ≡ []). inr ([], x, ap (λ t. x ∷ t) e))
    (λ (w : (ys : List Link) × (y : Link) × (xs ≡ ys ++ y ∷ [])). inr (x ∷ w.0, w.1, ap (λ t. x ∷ t) w.2))
    (last_of xs)

once_more : (ls : List Link) (l : Link) → Once ls → (Contains ls l → ⊥) → Once (ls ++ l ∷ [])
once_more ls l o n before after k e h =
    ⊎_elim
    (λ (p : after ≡ []).
    let q = same_from_push ls before l k (e ∙ ap (λ t. before ++ k ∷ t) p) in
    n (subst (Contains ls) (sym q.1) (subst (λ b. Contains b k) (sym q.0) h)))
    (λ (w : (ys : List Link) × (y : Link) × (after ≡ ys ++ y ∷ [])).
    let q = same_from_push ls (before ++ k ∷ w.0) l w.1 (e ∙ (ap (λ t. before ++ k ∷ t) w.2 ∙ sym (append_assoc before (k ∷ w.0) (w.1 ∷ [])))) in
    o before w.0 k q.0 h)
    (last_of after)

sound_more : {e : Extent} {s : SetNumbers} (ls : List Link) (l : Link) → Sound e s ls → Within e l → (Contains ls l → ⊥) → Sound e s (ls ++ l ∷ [])
sound_more {e} ls l k w n =
    record {
      sizes = k.sizes;
      sets = k.sets;
      mixed = k.mixed;
      inside = λ o h.
          ⊎_elim (λ (q : Contains ls o). k.inside o q) (λ (q : l ≡ o). subst (Within e) q w) (Contains-push_cases ls l o h);
      once = once_more ls l k.once n;
    }

split_more : (front : List ℕ) (ls : List Link) (l : Link) {bytes rest after : List ℕ} → bytes ≡ (front ++ spelled_links ls) ++ rest → rest ≡ spelled (Pillar l) ++ after → bytes ≡ (front ++ spelled_links (ls ++ l ∷ [])) ++ after
split_more front ls l {after = after} e p =
    (e ∙ ap (λ t. (front ++ spelled_links ls) ++ t) p)
    ∙ (sym (append_assoc (front ++ spelled_links ls) (spelled (Pillar l)) after) ∙ ap (λ t. t ++ after) (flat_map_more (λ k. spelled (Pillar k)) front ls l))

-- one link more is read and marked
pub another : {bytes rest marks : List ℕ} {d : Description} → Reading bytes d rest marks → 4032 ≤ length marks → (l : Link) (after : List ℕ) → rest ≡ spelled (Pillar l) ++ after → Within (extent_of d.sizes) l → (get_or marks (spot (extent_of d.sizes) l) 0 ≡ 1 → ⊥) → Reading bytes d after (set marks (spot (extent_of d.sizes) l) 1)
another {d = d} r long l after p w n =
    record {
      links = r.links ++ l ∷ [];
      split = split_more (spelled (Stack (extent_of d.sizes)) ++ spelled (Order (sets_of d.order))) r.links l r.split p;
      sound = sound_more r.links l r.sound w (λ h. n (r.marked.linked l h));
      marked = marked_more r.marked l (omega (arith, spot_below (extent_of d.sizes) l r.sound.sizes w));
    }

-- what holds of every value of the two types
pub sizes_range : (s : Sizes) → InRange (Stack (extent_of s))
sizes_range s =
    record {
      some_columns = s.some_columns;
      few_columns = s.few_columns;
      some_rows = s.some_rows;
      few_rows = s.few_rows;
      some_planes = s.some_planes;
      few_planes = s.few_planes;
    }

-- nothing but sizes and order is read
pub sound_none : (s : Sizes) (o : TurnOrder) → Sound (extent_of s) (sets_of o) []
sound_none s o =
    record {
      sizes = sizes_range s;
      sets = (o.north_most, o.east_most, o.south_most, o.west_most);
      mixed = λ (a, b, c). o.two_sets a b c;
      inside = λ l (k, h, _). omega arith;
      once = λ before after l e (k, h, _). omega (arith, simp length-append at (ap length e));
    }

-- the index of a link that has passed the tests
pub index_below : (s : Sizes) (l : Link) {i : ℕ} → l.x < s.width → l.y < s.height → l.gap < s.planes - 1 → i ≡ spot (extent_of s) l → i < 4032
index_below s l x y g e = rw e (spot_below (extent_of s) l (sizes_range s) record { column = x; row = y; gap = omega arith })

-- the bytes of a gap lie within the map
pub part_below : (s : Sizes) (g : ℕ) {area n : ℕ} → g + 1 < s.planes → area ≡ s.width * s.height → 4032 ≤ n → (g + 1) * area ≤ n
part_below s g h e l =
    rw e (omega (arith, gap_below s.width s.height g s.few_columns s.few_rows (omega (arith, s.few_planes))))

-- the bytes of all gaps lie within the map
pub gaps_below : (s : Sizes) → (s.planes - 1) * (s.width * s.height) ≤ 4032
gaps_below s = mul-le-mul {n₂ = 7} {m₂ = 576} (omega (arith, s.few_planes)) (mul-le-mul {n₂ = 24} {m₂ = 24} s.few_columns s.few_rows)

-- a link map whose front has the marks, and that is clear beyond
pub marked_front : {e : Extent} {ls : List Link} {front : List ℕ} (n : ℕ) → InRange (Stack e) → ((l : Link) → Contains ls l → Within e l) → length front ≡ 4032 → Marked e ls front → Marked e ls (front ++ replicate n 0)
marked_front {e} {ls} {front} n r inside long m =
    record {
      linked = λ l h. get_or_append_left front (replicate n 0) 0 (spot e l) (omega (arith, spot_below e l r (inside l h))) ∙ m.linked l h;
      bare = λ i h k.
          ⊎_elim
          (λ (b : i < length front). get_or_append_left front (replicate n 0) 0 i b ∙ m.bare i b k)
          (λ (b : length front ≤ i).
          get_or-append_right front (replicate n 0) (length front) i 0 refl b
          ∙ get_or-replicate n (i - length front) 0 0 (omega (arith, h, length-append front (replicate n 0), length-replicate {A = ℕ} n 0)))
          (cases_lt i (length front));
    }
