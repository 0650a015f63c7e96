-- No bytes have two readings: two fronts that grow over the same bytes take the same records, one by one, and stop
-- where no record fits.
use Rattle.std.proofs.Common.{◌≡◌, ℕ, suc, ◌<◌, cond, eqb, List, [], ◌∷◌, ◌++◌, length, get_or, drop, sym, refl, ap, ◌∙◌, subst, append_assoc, append-nil, arith}
use Rattle.std.specs.List.{Contains}
use Rattle.std.proofs.lemmas.List.Elements.{Contains-append_right}
use Rattle.mesh.specs.declared.grid.Link.{Link}
use Rattle.mesh.specs.declared.refusals.Refusal.{Refusal}
use Rattle.mesh.specs.declared.refusals.Refusal.TheVariants.{OutOfRange, OutOfPlace, OneSet, LinkOutside, LinkTwice, GapUnlinked}
use Rattle.mesh.specs.Numbers.{number_of}
use Rattle.description_laws.specs.declared.records.Extent.{Extent}
use Rattle.description_laws.specs.declared.records.Record.{Record}
use Rattle.description_laws.specs.declared.records.Record.TheVariants.{Stack, Order, Pillar, End}
use Rattle.description_laws.specs.declared.records.SetNumbers.{SetNumbers}
use Rattle.description_laws.specs.Description.{Kind, kind_s, kind_o, kind_l, kind_z, spelled, spelled_links, InRange, OneForAll, Gap, Within, Linked, Sound, WellFormed, Front, nothing, sized, listing, ended, text, Faultless, first, second, link, last, Wrong, range, place, one_set, outside, twice, unlinked, First, Fault, missing, unknown, short, wrong, beyond, OneReading}

-- the length of the body after a letter
size : ℕ → ℕ
size c = cond (eqb c 83) 3 (cond (eqb c 79) 4 (cond (eqb c 76) 3 0))

-- the record at the head of bytes, if there is one
head : List ℕ → Record
head b =
    let at : ℕ → ℕ = λ i. get_or b i 0 in
    cond
    (eqb (at 0) 83)
    (Stack record { width = at 1; height = at 2; planes = at 3 })
    (cond
    (eqb (at 0) 79)
    (Order record { north = at 1; east = at 2; south = at 3; west = at 4 })
    (cond (eqb (at 0) 76) (Pillar record { x = at 1; y = at 2; gap = at 3 }) End))

-- the bytes after it
tail : List ℕ → List ℕ
tail b = drop (suc (size (get_or b 0 0))) b

head_spelled : (r : Record) (b : List ℕ) → head (spelled r ++ b) ≡ r
unfolding head
head_spelled (Stack e) b = refl
head_spelled (Order s) b = refl
head_spelled (Pillar l) b = refl
head_spelled End b = refl

tail_spelled : (r : Record) (b : List ℕ) → tail (spelled r ++ b) ≡ b
unfolding tail size
tail_spelled (Stack e) b = refl
tail_spelled (Order s) b = refl
tail_spelled (Pillar l) b = refl
tail_spelled End b = refl

same_head : (r q : Record) (b d : List ℕ) → spelled r ++ b ≡ spelled q ++ d → r ≡ q
same_head r q b d e = sym (head_spelled r b) ∙ (ap head e ∙ head_spelled q d)

same_tail : (r q : Record) (b d : List ℕ) → spelled r ++ b ≡ spelled q ++ d → b ≡ d
same_tail r q b d e = sym (tail_spelled r b) ∙ (ap tail e ∙ tail_spelled q d)

-- no record begins with bytes whose letter is unknown, or that end too early
data Recordless : List ℕ → Type 0 where
  none : Recordless []
  strange : {c : ℕ} {b : List ℕ} → ((n : ℕ) → Kind c n → ⊥) → Recordless (c ∷ b)
  cut : {c n : ℕ} {b : List ℕ} → Kind c n → length b < n → Recordless (c ∷ b)

kind_size : {c n : ℕ} → Kind c n → n ≡ size c
unfolding size
kind_size kind_s = refl
kind_size kind_o = refl
kind_size kind_l = refl
kind_size kind_z = refl

-- bytes that begin with a known letter and a body of its length
abbrev Whole : List ℕ → Type 0
Whole b = Kind (get_or b 0 0) (size (get_or b 0 0)) × (size (get_or b 0 0) < length b)

whole : (r : Record) (b : List ℕ) → Whole (spelled r ++ b)
unfolding size
whole (Stack e) b = (kind_s, omega arith)
whole (Order s) b = (kind_o, omega arith)
whole (Pillar l) b = (kind_l, omega arith)
whole End b = (kind_z, omega arith)

not_whole : {b : List ℕ} → Recordless b → Whole b → ⊥
not_whole none (k, l) = omega arith
not_whole (strange u) (k, l) = u _ k
not_whole (cut k s) (h, l) = omega (arith, kind_size k)

recordless : {b : List ℕ} → Recordless b → (r : Record) (d : List ℕ) → b ≡ spelled r ++ d → ⊥
recordless n r d e = not_whole n (subst Whole (sym e) (whole r d))

-- a record that fits after a front, and the front with it
data Fits : Front → Record → Front → Type 0 where
  fits_first : {e : Extent} → InRange (Stack e) → Fits nothing (Stack e) (sized e)
  fits_second : {e : Extent} {s : SetNumbers} → InRange (Order s) → (OneForAll s → ⊥) → Fits (sized e) (Order s) (listing e s [])
  fits_link : {e : Extent} {s : SetNumbers} {ls : List Link} {l : Link} → InRange (Pillar l) → Within e l → (Contains ls l → ⊥) → Fits (listing e s ls) (Pillar l) (listing e s (ls ++ l ∷ []))
  fits_last : {e : Extent} {s : SetNumbers} {ls : List Link} → ((g : ℕ) → Gap e g → Linked ls g) → Fits (listing e s ls) End (ended e s ls)

same_next : {f g h : Front} {r : Record} → Fits f r g → Fits f r h → g ≡ h
same_next (fits_first _) (fits_first _) = refl
same_next (fits_second _ _) (fits_second _ _) = refl
same_next (fits_link _ _ _) (fits_link _ _ _) = refl
same_next (fits_last _) (fits_last _) = refl

-- what fits is not wrong
not_wrong : {f g : Front} {r : Record} {x : Refusal} → Fits f r g → Wrong f r x → ⊥
not_wrong (fits_first i) (range n) = n i
not_wrong (fits_first i) (place n) = n first
not_wrong (fits_second i m) (range n) = n i
not_wrong (fits_second i m) (place n) = n second
not_wrong (fits_second i m) (one_set a) = m a
not_wrong (fits_link i w o) (range n) = n i
not_wrong (fits_link i w o) (place n) = n link
not_wrong (fits_link i w o) (outside n) = n w
not_wrong (fits_link i w o) (twice t) = o t
not_wrong (fits_last c) (range n) = n tt
not_wrong (fits_last c) (place n) = n last
not_wrong (fits_last c) (unlinked g i n) = n (c g i)

-- one front from another, record by record
data Grows : Front → List ℕ → Front → Type 0 where
  stay : {f : Front} → Grows f [] f
  more : {f g h : Front} {r : Record} {b : List ℕ} → Fits f r g → Grows g b h → Grows f (spelled r ++ b) h

-- a link of a sound list is in range
near : {e : Extent} {s : SetNumbers} {ls : List Link} {l : Link} → Sound e s ls → Within e l → InRange (Pillar l)
near k w = let z = k.sizes in (omega arith, omega arith, omega arith)

-- links grow one by one
links : {e : Extent} {s : SetNumbers} (before after : List Link) {b : List ℕ} {g : Front} → Sound e s (before ++ after) → Grows (listing e s (before ++ after)) b g → Grows (listing e s before) (spelled_links after ++ b) g
links before [] k t = rw append-nil at t
links {e} {s} before (l ∷ after) {b} {g} k t =
    let here : Contains (before ++ l ∷ after) l = Contains-append_right before (l ∷ after) l (0, omega arith, refl) in
    let w = k.inside l here in
    more
    (fits_link (near k w) w (k.once before after l refl))
    (links (before ++ l ∷ []) after (rw append_assoc k) (rw append_assoc t))

-- a front without fault grows from nothing
grows : (f : Front) → Faultless f → Grows nothing (text f) f
grows nothing k = stay
grows (sized e) k = more (fits_first k) stay
grows (listing e s ls) k =
    let t = more (fits_first k.sizes) (more (fits_second k.sets k.mixed) (links [] ls k stay)) in rw append-nil at t
grows (ended e s ls) (k, c) = more (fits_first k.sizes) (more (fits_second k.sets k.mixed) (links [] ls k (more (fits_last c) stay)))

-- no record at the head of the bytes fits
abbrev Stuck : Front → List ℕ → Type 0
Stuck f b = (r : Record) (g : Front) (d : List ℕ) → b ≡ spelled r ++ d → Fits f r g → ⊥

-- two ways to grow over the same bytes are one
meet : {f g h : Front} {b d x y : List ℕ} → Grows f b g → Grows f d h → b ++ x ≡ d ++ y → Stuck g x → Stuck h y → (g ≡ h) × (x ≡ y)
meet stay stay e p q = (refl, e)
meet {y = y} stay (more {r = r} {b = d} k t) e p q = elim (p r _ (d ++ y) (e ∙ append_assoc (spelled r) d y) k) [ ]
meet {x = x} (more {r = r} {b = b} k t) stay e p q = elim (q r _ (b ++ x) (sym e ∙ append_assoc (spelled r) b x) k) [ ]
meet {f} {g} {h} {x = x} {y = y} (more {g = m} {r = r} {b = b} k t) (more {g = n} {r = o} {b = d} l u) e p q =
    let both : spelled r ++ (b ++ x) ≡ spelled o ++ (d ++ y) = sym (append_assoc (spelled r) b x) ∙ (e ∙ append_assoc (spelled o) d y) in
    let next : m ≡ n = same_next k (subst (λ c. Fits f c n) (sym (same_head r o (b ++ x) (d ++ y) both)) l) in
    meet t (subst (λ c. Grows c d h) (sym next) u) (same_tail r o (b ++ x) (d ++ y) both) p q

-- a fault is where nothing fits
fault_stuck : {f : Front} {b : List ℕ} {x : Refusal} → Fault f b x → Stuck f b
fault_stuck (missing o) r g d e k = recordless none r d e
fault_stuck (unknown o u) r g d e k = recordless (strange u) r d e
fault_stuck (short o n l s) r g d e k = recordless (cut l s) r d e
fault_stuck {f} (wrong o q c e w) r g d e' k =
    not_wrong (subst (λ (a : Record). Fits f a g) (same_head r q d c (sym e' ∙ e)) k) w.applies
fault_stuck beyond r g d e k = elim k [ ]

all_read : (e : Extent) (s : SetNumbers) (ls : List Link) → Stuck (ended e s ls) []
all_read e s ls r g d q k = recordless none r d q

-- the refusals that a record may have, by their numbers
numbered : ℕ → Refusal
numbered n =
    cond
    (eqb n 3)
    OutOfRange
    (cond (eqb n 4) OutOfPlace (cond (eqb n 5) OneSet (cond (eqb n 6) LinkOutside (cond (eqb n 7) LinkTwice GapUnlinked))))

wrong_numbered : {f : Front} {r : Record} {x : Refusal} → Wrong f r x → numbered (number_of x) ≡ x
unfolding numbered
wrong_numbered (range _) = refl
wrong_numbered (place _) = refl
wrong_numbered (one_set _) = refl
wrong_numbered (outside _) = refl
wrong_numbered (twice _) = refl
wrong_numbered (unlinked _ _ _) = refl

same_first : {f : Front} {r : Record} {x y : Refusal} → First f r x → First f r y → x ≡ y
same_first {x = x} {y = y} p q =
    let n : number_of x ≡ number_of y = omega (arith, p.least y q.applies, q.least x p.applies) in
    sym (wrong_numbered p.applies) ∙ (ap numbered n ∙ wrong_numbered q.applies)

-- one refusal at one place
same_fault : {f : Front} {b : List ℕ} {x y : Refusal} → Fault f b x → Fault f b y → x ≡ y
same_fault (missing _) (missing _) = refl
same_fault (missing _) (wrong _ r d e _) = elim (recordless none r d e) [ ]
same_fault (unknown _ _) (unknown _ _) = refl
same_fault (unknown _ u) (short _ n k _) = elim (u n k) [ ]
same_fault (unknown _ u) (wrong _ r d e _) = elim (recordless (strange u) r d e) [ ]
same_fault (unknown o _) beyond = elim o [ ]
same_fault (short _ n k _) (unknown _ u) = elim (u n k) [ ]
same_fault (short _ _ _ _) (short _ _ _ _) = refl
same_fault (short _ n k l) (wrong _ r d e _) = elim (recordless (cut k l) r d e) [ ]
same_fault (short o _ _ _) beyond = elim o [ ]
same_fault (wrong _ r d e _) (missing _) = elim (recordless none r d e) [ ]
same_fault (wrong _ r d e _) (unknown _ u) = elim (recordless (strange u) r d e) [ ]
same_fault (wrong _ r d e _) (short _ n k l) = elim (recordless (cut k l) r d e) [ ]
same_fault {f} {y = y} (wrong _ r d e w) (wrong _ q c e' v) =
    same_first w (subst (λ (a : Record). First f a y) (same_head q r c d (sym e' ∙ e)) v)
same_fault (wrong o _ _ _ _) beyond = elim o [ ]
same_fault beyond (unknown o _) = elim o [ ]
same_fault beyond (short o _ _ _) = elim o [ ]
same_fault beyond (wrong o _ _ _ _) = elim o [ ]
same_fault beyond beyond = refl

-- what is well formed is read to its end
read_whole : {bytes : List ℕ} {e : Extent} {s : SetNumbers} {ls : List Link} → WellFormed bytes e s ls → Grows nothing bytes (ended e s ls)
read_whole {e = e} {s} {ls} w = rw w.spelt (grows (ended e s ls) (w.sound, w.gaps))

none_after : {e : Extent} {s : SetNumbers} {ls : List Link} {x : Refusal} → Fault (ended e s ls) [] x → ⊥
none_after (missing o) = elim o [ ]
none_after (wrong o _ _ _ _) = elim o [ ]

moved : {f g : Front} {b d : List ℕ} {x : Refusal} → f ≡ g → b ≡ d → Fault f b x → Fault g d x
moved {g = g} {b} {x = x} p q k = subst (λ d. Fault g d x) q (subst (λ f. Fault f b x) p k)

pub one_reading : (bytes : List ℕ) → OneReading bytes
one_reading bytes =
    record {
      one_stack = λ e e' s s' ls ls' w v.
          let m = (meet (read_whole w) (read_whole v) refl (all_read e s ls) (all_read e' s' ls')).0 in ((cc), (cc), (cc));
      one_fault = λ x x' at at' w v.
          let m = meet (grows w.front w.faultless) (grows v.front v.faultless) (sym w.split ∙ v.split) (fault_stuck w.fault) (fault_stuck v.fault) in
          (same_fault (moved m.0 m.1 w.fault) v.fault, w.place ∙ (ap (λ f. length (text f)) m.0 ∙ sym v.place));
      not_both = λ e s ls x at w v.
          let m = meet (grows v.front v.faultless) (read_whole w) (sym v.split ∙ sym (append-nil bytes)) (fault_stuck v.fault) (all_read e s ls) in
          none_after (moved m.0 m.1 v.fault);
    }
