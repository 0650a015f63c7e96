-- One turn of a loop that keeps what passes a test, up to n elements.
use Rattle.std.proofs.Common.{◌≡◌, ℕ, ◌+◌, ◌<◌, ◌≤◌, min, Bool, true, false, cond, List, [], ◌∷◌, ◌++◌, length, get_or, take, filter, not, refl, sym, ap, ◌∙◌, append-nil, arith}
use Rattle.std.proofs.lemmas.List.{length-append, length-take, take-append-le, take_all}
use Rattle.std.proofs.lemmas.List.Elements.{filter_more}
use Rattle.std.proofs.lemmas.List.Filters.{length-filter_both}

module _ {X : Type 0} (test : X → Bool) (n : ℕ) (xs : List X) (i : ℕ) (d : X) (l : i < length xs) (ys : List X) (before : ys ≡ take n (filter test (take i xs))) where
  long : length ys ≡ min n (length (filter test (take i xs)))
  long = ap length before ∙ length-take n (filter test (take i xs))

  pub one_kept : test (get_or xs i d) ≡ true → length ys < n → ys ++ get_or xs i d ∷ [] ≡ take n (filter test (take (i + 1) xs))
  one_kept pass fits =
      let x = get_or xs i d in
      let kept = filter test (take i xs) in
      let all : take n (kept ++ x ∷ []) ≡ kept ++ x ∷ [] = take_all n (kept ++ x ∷ []) (omega (arith, long, length-append kept (x ∷ []))) in
      let same : ys ≡ kept = before ∙ take_all n kept (omega (arith, long)) in
      ap (λ zs. zs ++ x ∷ []) same ∙ sym all ∙ sym (ap (take n) (filter_more test xs i d l ∙ ap (λ b. kept ++ cond b (x ∷ []) []) pass))

  pub one_over : n ≤ length ys → ys ≡ take n (filter test (take (i + 1) xs))
  one_over full =
      let kept = filter test (take i xs) in
      before ∙ sym (ap (take n) (filter_more test xs i d l) ∙ take-append-le n kept _ (omega (arith, long)))

  pub one_left : test (get_or xs i d) ≡ false → ys ≡ take n (filter test (take (i + 1) xs))
  one_left fails =
      let kept = filter test (take i xs) in
      before ∙ sym (ap (take n) (filter_more test xs i d l ∙ ap (λ b. kept ++ cond b (get_or xs i d ∷ []) []) fails ∙ append-nil kept))

-- of few elements all that pass are kept
pub all_kept : {X : Type 0} (test : X → Bool) (n : ℕ) (xs : List X) → length xs ≤ n → take n (filter test xs) ≡ filter test xs
all_kept test n xs few = take_all n (filter test xs) (omega (arith, length-filter_both test (λ x. not (test x)) (λ _. refl) xs))
