-- Random-offline: the candidates are exactly those that its rule names, and how its loops find them.
use Rattle.std.proofs.Common.{◌≡◌, ℕ, zero, suc, ◌+◌, ◌*◌, ◌<◌, ◌≤◌, min, true, false, eqb, leb, ◌⊎◌, List, [], ◌∷◌, length, get_or, set, fold, filter, sym, refl, ap, ◌∙◌, subst, subst₂, inl, inr, ⊎_elim, arith, Contains, All, Bool, cond, ◌++◌, take}
use Rattle.std.proofs.lemmas.List.FromFn.{length-map-range_with_len}
use Rattle.std.proofs.lemmas.List.Elements.{All-cons, All-nil, Contains-append_right, Contains-get_or, filter_more}
use Rattle.std.proofs.lemmas.Bool.{and_from, and_parts, cases_lt, cond_both, cond-true, eq-eqb, eqb-true, le-leb, leb-true}
use Rattle.mesh.specs.declared.compass.Direction.{Direction}
use Rattle.mesh.specs.declared.compass.Direction.TheVariants.{North, East, South, West}
use Rattle.mesh.specs.declared.compass.Directions.{Directions}
use Rattle.mesh.specs.declared.grid.Place.{Place}
use Rattle.mesh.specs.declared.turns.TurnOrder.{TurnOrder}
use Rattle.mesh.specs.Compass.{distance, has, toward}
use Rattle.mesh.specs.Orders.{lowest, rank, set_of}
use Rattle.mesh.specs.Halves.{with_half}
use Rattle.mesh.specs.Layout.{place_at}
use Rattle.mesh.proofs.Masks.{pack_small}
use Rattle.routing_laws.specs.Elevators.{origin, places}
use Rattle.routing_laws.specs.Filling.{Asked, Task, filled, put_halves}
use Rattle.routing_laws.specs.Nearest.{pointing}
use Rattle.routing_laws.specs.Ties.{Candidates, LateOnly, Nearest, candidate, candidates, least, onward, or_else, target, tie_half, tie_next}
use Rattle.routing_laws.proofs.Filling.{Left, left_all, left_more, left_none}
use Rattle.routing_laws.proofs.Listing.{has_kept, kept_has}
use Rattle.routing_laws.proofs.Safe.{place_of}

-- the smaller of a number and all distances
abbrev pub smaller : Place → ℕ → Place → ℕ
smaller p n e = min n (distance p e)

folded_le : (p : Place) (n : ℕ) (es : List Place) → fold (smaller p) n es ≤ n
folded_le p n [] = omega arith
folded_le p n (e ∷ es) = let rest = folded_le p (min n (distance p e)) es in omega arith

folded_each : (p : Place) (n : ℕ) (es : List Place) (k : ℕ) (d : Place) → k < length es → fold (smaller p) n es ≤ distance p (get_or es k d)
folded_each p n [] k d l = absurd (omega arith)
folded_each p n (e ∷ es) zero d l = let rest = folded_le p (min n (distance p e)) es in omega arith
folded_each p n (e ∷ es) (suc k) d l = folded_each p (min n (distance p e)) es k d (omega arith)

-- the smallest is the number to start with, or it is reached
reached : (p : Place) (n : ℕ) (es : List Place) → (fold (smaller p) n es ≡ n) ⊎ ((e : Place) × Contains es e × (distance p e ≡ fold (smaller p) n es))
reached p n [] = inl refl
reached p n (e ∷ es) =
    ⊎_elim
    (λ (q : fold (smaller p) (smaller p n e) es ≡ smaller p n e). ⊎_elim (λ (l : n < distance p e). inl (omega arith)) (λ (l : distance p e ≤ n). inr (e, (0, omega arith, refl), omega arith)) (cases_lt n (distance p e)))
    (λ (w : (f : Place) × Contains es f × (distance p f ≡ fold (smaller p) (smaller p n e) es)). inr (w.0, Contains-append_right (e ∷ []) es w.0 w.1, w.2))
    (reached p (smaller p n e) es)

module _ (p : Place) (es : List Place) where
  least_le : (e : Place) → Contains es e → least p es ≤ distance p e
  least_le e h = subst (λ f. least p es ≤ distance p f) h.2 (folded_each p (distance p (get_or es 0 origin)) es h.0 e h.1)

  least_some : 0 < length es → (e : Place) × Contains es e × (distance p e ≡ least p es)
  least_some l = ⊎_elim (λ q. (get_or es 0 origin, Contains-get_or es 0 origin l, sym q)) (λ w. w) (reached p (distance p (get_or es 0 origin)) es)

  nearest_at : (e : Place) → Nearest es p e → distance p e ≡ least p es
  nearest_at e n = let some = least_some (omega (arith, n.0.1)) in omega (arith, least_le e n.0, n.1 some.0 some.1, some.2)

  at_nearest : (e : Place) → Contains es e → distance p e ≡ least p es → Nearest es p e
  at_nearest e h q = (h, λ f g. omega (arith, least_le f g))

-- needing only set 1 is needing no set below it
module _ (o : TurnOrder) (s : Directions) where
  rank_of : (d : Direction) → has d s ≡ true → rank o s d ≡ set_of o d
  rank_of d h = cond-true (has d s) (set_of o d) 2 h

  pub late_only : leb 1 (lowest o s) ≡ true → (d : Direction) → has d s ≡ true → set_of o d ≡ 1
  late_only t North h = omega (arith, leb-true 1 (lowest o s) t, rank_of North h, o.north_most)
  late_only t East h = omega (arith, leb-true 1 (lowest o s) t, rank_of East h, o.east_most)
  late_only t South h = omega (arith, leb-true 1 (lowest o s) t, rank_of South h, o.south_most)
  late_only t West h = omega (arith, leb-true 1 (lowest o s) t, rank_of West h, o.west_most)

  pub only_late : ((d : Direction) → has d s ≡ true → set_of o d ≡ 1) → leb 1 (lowest o s) ≡ true
  only_late each =
      let late : (d : Direction) → 1 ≤ rank o s d = λ d. cond_both (has d s) (set_of o d) 2 (λ n. 1 ≤ n) (λ h. omega (arith, each d h)) (λ _. omega arith) in
      le-leb 1 (lowest o s) (omega (arith, late North, late East, late South, late West))

-- the two lists that the candidates are taken from
module _ (o : TurnOrder) (p : Place) (es : List Place) where
  near_has : (e : Place) → Nearest es p e → Contains (filter (candidate o p (least p es) false) es) e
  near_has e n = kept_has (candidate o p (least p es) false) es e n.0 (eq-eqb (distance p e) (least p es) (nearest_at p es e n))

  has_near : (e : Place) → Contains (filter (candidate o p (least p es) false) es) e → Nearest es p e
  has_near e h = let k = has_kept (candidate o p (least p es) false) es e h in at_nearest p es e k.0 (eqb-true (distance p e) (least p es) k.1)

  suits_has : (e : Place) → Nearest es p e → LateOnly o p e → Contains (filter (candidate o p (least p es) true) es) e
  suits_has e n late = kept_has (candidate o p (least p es) true) es e n.0 (and_from (eqb (distance p e) (least p es)) (leb 1 (lowest o (toward p e))) (eq-eqb (distance p e) (least p es) (nearest_at p es e n)) (only_late o (toward p e) late))

  has_suits : (e : Place) → Contains (filter (candidate o p (least p es) true) es) e → Nearest es p e × LateOnly o p e
  has_suits e h =
      let k = has_kept (candidate o p (least p es) true) es e h in
      let both = and_parts (eqb (distance p e) (least p es)) (leb 1 (lowest o (toward p e))) k.1 in
      (at_nearest p es e k.0 (eqb-true (distance p e) (least p es) both.0), late_only o (toward p e) both.1)

  -- a list, with what it holds, or else another
  from_lists : 0 < length es → (late others : List Place) → ((e : Place) → Nearest es p e → LateOnly o p e → Contains late e) → ((e : Place) → Contains late e → Nearest es p e × LateOnly o p e)
      → ((e : Place) → Nearest es p e → Contains others e) → ((e : Place) → Contains others e → Nearest es p e) → Candidates o p es (or_else late others)
  from_lists l [] others to from to' from' =
      let some = least_some p es l in
      let first = to' some.0 (at_nearest p es some.0 some.1 some.2) in
      record {
        some = omega (arith, first.1);
        nearest = from';
        late = λ e f n late _. absurd (omega (arith, (to e n late).1));
        all_late = λ e n late. absurd (omega (arith, (to e n late).1));
        all_near = λ _. to';
      }
  from_lists l (x ∷ late) others to from to' from' = record {
    some = omega arith;
    nearest = λ e h. (from e h).0;
    late = λ e f _ _ h. (from f h).1;
    all_late = to;
    all_near = λ none e n. let first = from x (0, omega arith, refl) in absurd (none x first.0 first.1);
  }

  pub exact : 0 < length es → Candidates o p es (candidates o p es)
  exact l = from_lists l (filter (candidate o p (least p es) true) es) (filter (candidate o p (least p es) false) es) suits_has has_suits near_has has_near

pub or_else_some : (xs ys : List Place) → 0 < length xs → or_else xs ys ≡ xs
or_else_some [] ys l = absurd (omega arith)
or_else_some (x ∷ xs) ys l = refl

pub or_else_none : (xs ys : List Place) → length xs ≡ 0 → or_else xs ys ≡ ys
or_else_none [] ys l = refl
or_else_none (x ∷ xs) ys l = absurd (omega arith)

-- a loop that keeps what passes, one turn
pub kept_more : (test : Place → Bool) (es front front' : List Place) (i : ℕ) (b : Bool) → i < length es → front ≡ filter test (take i es) → b ≡ test (get_or es i origin)
    → front' ≡ front ++ cond b (get_or es i origin ∷ []) [] → front' ≡ filter test (take (i + 1) es)
kept_more test es front front' i b l before is after =
    after ∙ (λ k. before k ++ cond (is k) (get_or es i origin ∷ []) []) ∙ sym (filter_more test es i origin l)

-- the two ways in which the candidates are listed, with the smallest distance found before
module _ (o : TurnOrder) (p : Place) (es : List Place) (m : ℕ) (found : m ≡ least p es) (some : 0 < length es) where
  pub with_late : (late : List Place) → late ≡ filter (candidate o p m true) es → 0 < length late → (late ≡ candidates o p es) × Candidates o p es late
  with_late late is l =
      let all = is ∙ ap (λ n. filter (candidate o p n true) es) found in
      let same = all ∙ sym (or_else_some (filter (candidate o p (least p es) true) es) (filter (candidate o p (least p es) false) es) (subst (λ k. 0 < length k) all l)) in
      (same, subst (Candidates o p es) (sym same) (exact o p es some))

  pub without_late : (late others : List Place) → late ≡ filter (candidate o p m true) es → length late ≡ 0 → others ≡ filter (candidate o p m false) es → (others ≡ candidates o p es) × Candidates o p es others
  without_late late others is none rest =
      let all = is ∙ ap (λ n. filter (candidate o p n true) es) found in
      let same = rest ∙ ap (λ n. filter (candidate o p n false) es) found ∙ sym (or_else_none (filter (candidate o p (least p es) true) es) (filter (candidate o p (least p es) false) es) (subst (λ k. length k ≡ 0) all none)) in
      (same, subst (Candidates o p es) (sym same) (exact o p es some))

-- the loop that fills a half
pub record TieLeft {C : Type 0} (position : C → Asked → ℕ) (after : C → Asked → C) (o : TurnOrder) (t : Task) (bytes : List ℕ) (c : C) (i : ℕ) (bytes' : List ℕ) (c' : C) : Type 0 where
  pub left : Left t.way (λ p d. pointing p (target position after o t.plane t.way t.elevators p d)) (onward position after o t.plane t.way t.elevators) (places t.width t.height) bytes c i bytes' c'

module _ {C : Type 0} {position : C → Asked → ℕ} {after : C → Asked → C} {o : TurnOrder} {t : Task} {bytes : List ℕ} {c : C} where
  pub tie_none : length bytes ≡ t.width * t.height → TieLeft position after o t bytes c 0 bytes c
  tie_none e = record { left = left_none (e ∙ sym (length-map-range_with_len (place_at t.width t.height) 0 (t.width * t.height))) }

  pub tie_more : {i : ℕ} {bytes' : List ℕ} {c' : C} → TieLeft position after o t bytes c i bytes' c' → i < length bytes'
      → (r : ℕ) (d : C) → r ≡ with_half t.way (get_or bytes' i 0) (pointing (place_at t.width t.height i) (target position after o t.plane t.way t.elevators (place_at t.width t.height i) c'))
      → d ≡ onward position after o t.plane t.way t.elevators (place_at t.width t.height i) c' → TieLeft position after o t bytes c (i + 1) (set bytes' i r) d
  tie_more {i} {bytes'} {c'} h l r d wrote went =
      let w = t.width in
      let k = t.height in
      let here : i < w * k = omega (arith, h.left.long, length-map-range_with_len (place_at w k) 0 (w * k)) in
      let place = sym (place_of (λ _. 0) w k i here) in
      let point : Place → ℕ = λ p. pointing p (target position after o t.plane t.way t.elevators p c') in
      let wrote' = wrote ∙ ap (λ p. with_half t.way (get_or bytes' i 0) (point p)) place in
      let went' = went ∙ ap (λ p. onward position after o t.plane t.way t.elevators p c') place in
      record { left = subst₂ (λ v e. Left t.way (λ p d. pointing p (target position after o t.plane t.way t.elevators p d)) (onward position after o t.plane t.way t.elevators) (places w k) bytes c (i + 1) (set bytes' i v) e) (sym wrote') (sym went') (left_more h.left l) }

  pub tie_all : {i : ℕ} {bytes' : List ℕ} {c' : C} → TieLeft position after o t bytes c i bytes' c' → length bytes' ≤ i → (bytes' ≡ put_halves t.way bytes (tie_half position after o t c)) × (c' ≡ tie_next position after o t c)
  tie_all h l = left_all h.left l

-- its length, and its range
filled_long : {C : Type 0} (point : Place → C → ℕ) (step : Place → C → C) (ps : List Place) (c : C) → length (filled point step ps c) ≡ length ps
filled_long point step [] c = refl
filled_long point step (p ∷ ps) c = ap suc (filled_long point step ps (step p c))

filled_small : {C : Type 0} (point : Place → C → ℕ) (step : Place → C → C) → ((p : Place) (c : C) → point p c < 16) → (ps : List Place) (c : C) → All (λ v. v < 16) (filled point step ps c)
filled_small point step small [] c = All-nil (λ v. v < 16)
filled_small point step small (p ∷ ps) c = All-cons (λ v. v < 16) (point p c) (filled point step ps (step p c)) (small p c) (filled_small point step small ps (step p c))

module _ {C : Type 0} (position : C → Asked → ℕ) (after : C → Asked → C) (o : TurnOrder) (t : Task) (c : C) where
  pub tie_long : length (tie_half position after o t c) ≡ t.width * t.height
  tie_long = filled_long _ _ (places t.width t.height) c ∙ length-map-range_with_len (place_at t.width t.height) 0 (t.width * t.height)

  pub tie_small : All (λ v. v < 16) (tie_half position after o t c)
  tie_small = filled_small _ _ (λ p d. pack_small (toward p (target position after o t.plane t.way t.elevators p d))) (places t.width t.height) c
