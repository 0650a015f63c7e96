-- The last nearest elevator: the search along the list finds it, and there is only one.
use Rattle.std.proofs.Common.{◌≡◌, ℕ, zero, suc, ◌+◌, ◌<◌, ◌≤◌, true, false, leb, List, length, get_or, drop, fold, sym, ap, ◌∙◌, ⊎_elim, arith, below_more}
use Rattle.std.proofs.lemmas.List.{at_drop_all, at_drop_more}
use Rattle.std.proofs.lemmas.Bool.{cases_Bool, cases_order, cond-false, cond-true, leb-false, leb-true}
use Rattle.mesh.specs.declared.grid.Place.{Place}
use Rattle.mesh.specs.Compass.{distance}
use Rattle.routing_laws.specs.Elevators.{origin}
use Rattle.routing_laws.specs.Nearest.{LastNearest, last_nearest, nearer}

pub nearest_unique : {es : List Place} {p : Place} {a b : ℕ} → LastNearest es p a → LastNearest es p b → a ≡ b
nearest_unique {es} {p} {a} {b} m n =
    ⊎_elim
    (λ e. e)
    (⊎_elim
    (λ (l : a < b). absurd (omega (arith, m.last b l n.listed, n.nearest a m.listed)))
    (λ (l : b < a). absurd (omega (arith, n.last a l m.listed, m.nearest b n.listed))))
    (cases_order a b)

-- elevator number b is the last nearest of the first n
pub record SoFar (es : List Place) (p : Place) (n b : ℕ) : Type 0 where
  pub listed : b < length es
  pub nearest : (j : ℕ) → j < n → distance p (get_or es b origin) ≤ distance p (get_or es j origin)
  pub last : (j : ℕ) → b < j → j < n → distance p (get_or es b origin) < distance p (get_or es j origin)

module _ {es : List Place} {p : Place} where
  pub sofar_none : 0 < length es → SoFar es p 0 0
  sofar_none l = record { listed = l; nearest = λ j m. absurd (omega arith); last = λ j m n. absurd (omega arith) }

  pub sofar_takes : {n b : ℕ} → SoFar es p n b → n < length es → distance p (get_or es n origin) ≤ distance p (get_or es b origin) → SoFar es p (n + 1) n
  sofar_takes {n} {b} h l d = record {
    listed = l;
    nearest = below_more (λ j. distance p (get_or es n origin) ≤ distance p (get_or es j origin)) n (λ j m. omega (arith, h.nearest j m)) (omega arith);
    last = λ j m k. absurd (omega arith);
  }

  pub sofar_keeps : {n b : ℕ} → SoFar es p n b → distance p (get_or es b origin) < distance p (get_or es n origin) → SoFar es p (n + 1) b
  sofar_keeps {n} {b} h d = record {
    listed = h.listed;
    nearest = below_more (λ j. distance p (get_or es b origin) ≤ distance p (get_or es j origin)) n h.nearest (omega arith);
    last = λ j m k. below_more (λ i. b < i → distance p (get_or es b origin) < distance p (get_or es i origin)) n (λ i o q. h.last i q o) (λ _. d) j k m;
  }

  pub sofar_all : {b : ℕ} → SoFar es p (length es) b → LastNearest es p b
  sofar_all h = record { listed = h.listed; nearest = h.nearest; last = h.last }

  -- the search goes on from number n with the best so far, number b, and k more to see
  found_from : (k n b : ℕ) → n + k ≡ length es → SoFar es p n b → (a : ℕ) × LastNearest es p a × (get_or es a origin ≡ fold (nearer p) (get_or es b origin) (drop n es))
  found_from zero n b e h = let whole : n ≡ length es = omega arith in (b, sofar_all (rw whole at h), sym (at_drop_all (fold (nearer p) (get_or es b origin)) es n (omega arith)))
  found_from (suc k) n b e h =
      let l : n < length es = omega arith in
      let near = distance p (get_or es n origin) in
      let best = distance p (get_or es b origin) in
      let one = at_drop_more (fold (nearer p) (get_or es b origin)) es n origin l in
      let on : (x : Place) → nearer p (get_or es b origin) (get_or es n origin) ≡ x → fold (nearer p) x (drop (n + 1) es) ≡ fold (nearer p) (get_or es b origin) (drop n es) = λ x q. ap (λ y. fold (nearer p) y (drop (n + 1) es)) (sym q) ∙ sym one in
      ⊎_elim
      (λ (t : leb near best ≡ true).
      let rest = found_from k (n + 1) n (omega arith) (sofar_takes h l (leb-true near best t)) in
      (rest.0, rest.1, rest.2 ∙ on _ (cond-true (leb near best) (get_or es n origin) (get_or es b origin) t)))
      (λ (t : leb near best ≡ false).
      let rest = found_from k (n + 1) b (omega arith) (sofar_keeps h (leb-false near best t)) in
      (rest.0, rest.1, rest.2 ∙ on _ (cond-false (leb near best) (get_or es n origin) (get_or es b origin) t)))
      (cases_Bool (leb near best))

  pub last_nearest_found : 0 < length es → (a : ℕ) × LastNearest es p a × (get_or es a origin ≡ last_nearest p es)
  last_nearest_found l = found_from (length es) 0 0 (omega arith) (sofar_none l)

  -- whichever number is that of the last nearest, the search finds that elevator
  pub last_nearest_is : {b : ℕ} → LastNearest es p b → get_or es b origin ≡ last_nearest p es
  last_nearest_is {b} h =
      let found = last_nearest_found (omega (arith, h.listed)) in
      ap (λ i. get_or es i origin) (nearest_unique h found.1) ∙ found.2
