-- What writing one record does to what holds of every packet, and to sums over the packets.
use Rattle.std.proofs.Common.{◌≡◌, ℕ, zero, suc, ◌+◌, ◌<◌, ◌≤◌, true, false, ◌⊎◌, List, [], ◌∷◌, length, get_or, take, set, sum_by, sym, refl, ap, ◌∙◌, subst, inl, inr, arith}
use Rattle.std.specs.List.{flat_map}
use Rattle.std.proofs.lemmas.List.{get_or-set_other, get_or-set_same, get_or-take, length-take-le}
use Rattle.std.proofs.lemmas.List.Sums.{sum_by-append, sum_by-cons, sum_by-set}
use Rattle.std.proofs.lemmas.Bool.{cases_eq}
use Rattle.mesh.specs.declared.grid.Router.{Router}
use Rattle.mesh.specs.declared.stack.Sizes.{Sizes}
use Rattle.channel_laws.specs.declared.buffers.Buffer.{Buffer}
use Rattle.channel_laws.specs.declared.records.Record.{Record}
use Rattle.channel_laws.specs.Table.{InStack, empty, is_empty, kept, record_number, table_size}
use Rattle.channel_laws.proofs.Index.{numbered}

-- the record of a buffer in a table
abbrev pub at : Sizes → List Record → Router → Buffer → Record
at s t r b = get_or t (record_number s r b) empty

-- what holds of each packet in a buffer of the stack
abbrev pub Every : Sizes → (Router → Buffer → Record → Type 0) → List Record → Type 0
Every s Q t = (r : Router) (b : Buffer) → InStack s r → is_empty (at s t r b) ≡ false → Q r b (at s t r b)

carry : (Q : Router → Buffer → Record → Type 0) (r q : Router) (b c : Buffer) (x y : Record) → q ≡ r → c ≡ b → y ≡ x → Q r b x → Q q c y
carry Q r q b c x y e f g h = subst (λ v. Q v c y) (sym e) (subst (λ v. Q r v y) (sym f) (subst (λ v. Q r b v) (sym g) h))

module _ (s : Sizes) (t : List Record) (long : table_size s ≤ length t) where
  pub at_same : (r : Router) (b : Buffer) (x : Record) → InStack s r → at s (set t (record_number s r b) x) r b ≡ x
  at_same r b x i = get_or-set_same t (record_number s r b) x empty (omega (arith, (numbered s).below r b i))

  -- one record written: the others are as they were
  pub put_each : (Q : Router → Buffer → Record → Type 0) (r : Router) (b : Buffer) (x : Record) → InStack s r → (is_empty x ≡ false → Q r b x)
      → ((q : Router) (c : Buffer) → InStack s q → (record_number s q c ≡ record_number s r b → ⊥) → is_empty (at s t q c) ≡ false → Q q c (at s t q c))
      → Every s Q (set t (record_number s r b) x)
  put_each Q r b x i new old q c j full = pick (cases_eq (record_number s q c) (record_number s r b))
    where
      pick : (record_number s q c ≡ record_number s r b) ⊎ (record_number s q c ≡ record_number s r b → ⊥) → Q q c (at s (set t (record_number s r b) x) q c)
      pick (inl e) =
          let same = (numbered s).apart q r c b j i e in
          let is : at s (set t (record_number s r b) x) q c ≡ x = ap (λ n. get_or (set t (record_number s r b) x) n empty) e ∙ at_same r b x i in
          carry Q r q b c x _ same.0 same.1 is (new (sym (ap is_empty is) ∙ full))
      pick (inr e) =
          let is : at s (set t (record_number s r b) x) q c ≡ at s t q c = get_or-set_other t (record_number s r b) (record_number s q c) x empty e in
          subst (Q q c) (sym is) (old q c j e (sym (ap is_empty is) ∙ full))

  -- a buffer that was empty is so after another record is emptied
  pub still_empty : (i : ℕ) (n : ℕ) → i < length t → is_empty (get_or t n empty) ≡ true → is_empty (get_or (set t i empty) n empty) ≡ true
  still_empty i n l e = pick (cases_eq n i)
    where
      pick : (n ≡ i) ⊎ (n ≡ i → ⊥) → is_empty (get_or (set t i empty) n empty) ≡ true
      pick (inl same) = ap is_empty (ap (λ k. get_or (set t i empty) k empty) same ∙ get_or-set_same t i empty empty l)
      pick (inr other) = ap is_empty (get_or-set_other t i n empty empty other) ∙ e

-- a sum over the packets is one over the records
sum_joined : (f : Record → ℕ) (xs : List Record) → sum_by f (flat_map kept xs) ≡ sum_by (λ x. sum_by f (kept x)) xs
sum_joined f [] = refl
sum_joined f (x ∷ xs) = sum_by-append f (kept x) (flat_map kept xs) ∙ ap (λ n. sum_by f (kept x) + n) (sum_joined f xs) ∙ sym (sum_by-cons (λ y. sum_by f (kept y)) x xs)

take_set_in : (n : ℕ) (xs : List Record) (i : ℕ) (y : Record) → i < n → take n (set xs i y) ≡ set (take n xs) i y
take_set_in zero xs i y l = absurd (omega arith)
take_set_in (suc n) [] i y l = refl
take_set_in (suc n) (x ∷ xs) zero y l = refl
take_set_in (suc n) (x ∷ xs) (suc i) y l = ap (λ r. x ∷ r) (take_set_in n xs i y (omega arith))

-- the sum of a weight over the packets of a table
abbrev pub weigh : Sizes → (Record → ℕ) → List Record → ℕ
weigh s f t = sum_by f (flat_map kept (take (table_size s) t))

-- one record written: its weight comes in for that of the record before it
pub weigh_set : (s : Sizes) (f : Record → ℕ) (t : List Record) (i : ℕ) (x : Record) → i < table_size s → table_size s ≤ length t
    → weigh s f (set t i x) + sum_by f (kept (get_or t i empty)) ≡ weigh s f t + sum_by f (kept x)
weigh_set s f t i x l long =
    let n = table_size s in
    let g : Record → ℕ = λ y. sum_by f (kept y) in
    let after : weigh s f (set t i x) ≡ sum_by g (set (take n t) i x) = sum_joined f (take n (set t i x)) ∙ ap (sum_by g) (take_set_in n t i x l) in
    let before : weigh s f t ≡ sum_by g (take n t) = sum_joined f (take n t) in
    let here : g (get_or (take n t) i empty) ≡ g (get_or t i empty) = ap g (get_or-take n t i empty l) in
    omega (arith, sum_by-set g (take n t) i x empty (omega (arith, length-take-le n t long)))
