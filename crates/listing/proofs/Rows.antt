-- Rows as they are written: number by number with a space after each, and line by line.
use Rattle.std.proofs.Common.{◌≡◌, ℕ, zero, suc, ◌+◌, ◌-◌, ◌*◌, ◌<◌, ◌≤◌, List, [], ◌∷◌, ◌++◌, length, get_or, take, drop, set, sym, refl, ap, ◌∙◌, mul-le-mul_right, zero-mul, add-one, arith}
use borrow.Rule.Slice.PartMut.{put_mid}
use Rattle.std.specs.List.{flat_map}
use Rattle.std.proofs.lemmas.List.{append_assoc, append-nil, length-append, length-take-le, length-drop, set_at, take_all, take_at, drop_all, drop_at, take_more, drop-drop, flat_map_more}
use Rattle.mesh.specs.declared.stack.Sizes.{Sizes}
use Rattle.listing.specs.Listed.{over}
use Rattle.listing.specs.Made.{number}
use Rattle.listing.specs.Text.{spaced, line, lines, plan_text}

length_numbers : (bs : List ℕ) → length (flat_map number bs) ≡ length bs * 3
length_numbers [] = refl
length_numbers (b ∷ bs) = omega (arith, length_numbers bs)

-- the space after the last number is where the newline goes
spaced_numbers : (b : ℕ) (bs : List ℕ) → flat_map number (b ∷ bs) ≡ spaced (b ∷ bs) ++ 32 ∷ []
spaced_numbers b [] = refl
spaced_numbers b (c ∷ bs) = ap (λ (t : List ℕ). number b ++ t) (spaced_numbers c bs)

length_spaced : (b : ℕ) (bs : List ℕ) → length (spaced (b ∷ bs)) ≡ length (b ∷ bs) * 3 - 1
length_spaced b bs =
    omega (arith, length_numbers (b ∷ bs), ap length (spaced_numbers b bs), length-append (spaced (b ∷ bs)) (32 ∷ []))

pub line_from_numbers : (row : List ℕ) → 0 < length row → set (flat_map number row) (length row * 3 - 1) 10 ≡ line row
line_from_numbers [] h = absurd (omega arith)
line_from_numbers (b ∷ bs) h =
    ap (λ (t : List ℕ). set t (length (b ∷ bs) * 3 - 1) 10) (spaced_numbers b bs)
    ∙ set_at (spaced (b ∷ bs)) 32 [] 10 (length (b ∷ bs) * 3 - 1) (length_spaced b bs)

length_line : (row : List ℕ) → 0 < length row → length (line row) ≡ length row * 3
length_line [] h = absurd (omega arith)
length_line (b ∷ bs) h = omega (arith, length_spaced b bs, length-append (spaced (b ∷ bs)) (10 ∷ []))

-- a text written next to one that is written over the front of e already
part_more : (p e t : List ℕ) (n m : ℕ) → length p ≡ n → n ≤ m → put_mid n (m - n) (p ++ drop n e) t ≡ (p ++ t) ++ drop m e
part_more p e t n m lp le =
    ap (λ (q : List ℕ). q ++ (t ++ drop (m - n) (drop n (p ++ drop n e)))) (take_at p (drop n e) n lp)
    ∙ ap (λ (q : List ℕ). p ++ (t ++ drop (m - n) q)) (drop_at p (drop n e) n lp)
    ∙ ap (λ (q : List ℕ). p ++ (t ++ q)) (drop-drop (m - n) n e ∙ ap (λ (k : ℕ). drop k e) (omega arith))
    ∙ sym (append_assoc p t (drop m e))

module _ (row e : List ℕ) (i : ℕ) (h : i < length row) where
  length_so_far : length (flat_map number (take i row)) ≡ i * 3
  length_so_far = length_numbers (take i row) ∙ ap (λ (k : ℕ). k * 3) (length-take-le i row (omega arith))

  one_number : i * 3 + 3 ≡ (i + 1) * 3
  one_number = omega arith

  -- one number more of a row
  pub number_more : (out last : List ℕ) → out ≡ flat_map number (take i row) ++ drop (i * 3) e → last ≡ number (get_or row i 0) → put_mid (i * 3) (i * 3 + 3 - i * 3) out last ≡ flat_map number (take (i + 1) row) ++ drop ((i + 1) * 3) e
  number_more out last o l =
      (λ j. put_mid (i * 3) (i * 3 + 3 - i * 3) (o j) (l j))
      ∙ part_more (flat_map number (take i row)) e (number (get_or row i 0)) (i * 3) (i * 3 + 3) length_so_far (omega arith)
      ∙ ap (λ (t : List ℕ). t ++ drop (i * 3 + 3) e) (flat_map_more number [] (take i row) (get_or row i 0) ∙ ap (flat_map number) (sym (take_more row i 0 h)))
      ∙ ap (λ (k : ℕ). flat_map number (take (i + 1) row) ++ drop k e) one_number

-- a row whose numbers all stand in place
pub numbers_all : (row e : List ℕ) (i : ℕ) (out : List ℕ) → length row ≤ i → length row * 3 ≡ length e → out ≡ flat_map number (take i row) ++ drop (i * 3) e → out ≡ flat_map number row
numbers_all row e i out h fits o =
    o
    ∙ ap (λ (t : List ℕ). flat_map number t ++ drop (i * 3) e) (take_all i row h)
    ∙ ap (λ (t : List ℕ). flat_map number row ++ t) (drop_all (i * 3) e (omega arith))
    ∙ append-nil (flat_map number row)

-- one line more of a plan
lines_next : (w n : ℕ) (bytes : List ℕ) → lines w (suc n) bytes ≡ lines w n bytes ++ line (take w (drop (n * w) bytes))
lines_next w zero bytes = append-nil (line (take w bytes)) ∙ rw zero-mul
lines_next w (suc n) bytes =
    ap (λ (t : List ℕ). line (take w bytes) ++ t) (lines_next w n (drop w bytes))
    ∙ sym (append_assoc (line (take w bytes)) (lines w n (drop w bytes)) (line (take w (drop (n * w) (drop w bytes)))))
    ∙ ap (λ (t : List ℕ). (line (take w bytes) ++ lines w n (drop w bytes)) ++ line (take w t)) (drop-drop (n * w) w bytes ∙ ap (λ (k : ℕ). drop k bytes) further) where
      further : w + n * w ≡ suc n * w
      further = omega arith

lines_more : (w n : ℕ) (bytes : List ℕ) → lines w (n + 1) bytes ≡ lines w n bytes ++ line (take w (drop (n * w) bytes))
lines_more w n bytes = rw add-one (lines_next w n bytes)

length_lines : (w n : ℕ) (bytes : List ℕ) → 0 < w → n * w ≤ length bytes → length (lines w n bytes) ≡ n * w * 3
length_lines w zero bytes some h = omega arith
length_lines w (suc n) bytes some h =
    length-append (line (take w bytes)) (lines w n (drop w bytes))
    ∙ omega (arith, length_line (take w bytes) (omega (arith, length-take-le w bytes (omega arith))), length-take-le w bytes (omega arith), length_lines w n (drop w bytes) some (omega (arith, length-drop w bytes)))

-- a row below the last ends where the rows do, or before
pub row_within : (w n r : ℕ) → r < n → r * w + w ≤ n * w
row_within w n r h = omega (arith, mul-le-mul_right w h)

module _ (w r : ℕ) (bytes e : List ℕ) (some : 0 < w) where
  one_row : r * w + w - r * w ≡ w
  one_row = omega arith

  one_line : (r * w + w) * 3 ≡ (r + 1) * w * 3
  one_line = omega arith

  -- one line more over the front of e
  pub line_more : (out last : List ℕ) → r * w ≤ length bytes → out ≡ lines w r bytes ++ drop (r * w * 3) e → last ≡ line (take (r * w + w - r * w) (drop (r * w) bytes)) → put_mid (r * w * 3) ((r * w + w) * 3 - r * w * 3) out last ≡ lines w (r + 1) bytes ++ drop ((r + 1) * w * 3) e
  line_more out last h o l =
      (λ i. put_mid (r * w * 3) ((r * w + w) * 3 - r * w * 3) (o i) (l i))
      ∙ part_more (lines w r bytes) e (line (take (r * w + w - r * w) (drop (r * w) bytes))) (r * w * 3) ((r * w + w) * 3) (length_lines w r bytes some h) (omega arith)
      ∙ ap (λ (k : ℕ). (lines w r bytes ++ line (take k (drop (r * w) bytes))) ++ drop ((r * w + w) * 3) e) one_row
      ∙ ap (λ (t : List ℕ). t ++ drop ((r * w + w) * 3) e) (sym (lines_more w r bytes))
      ∙ ap (λ (k : ℕ). lines w (r + 1) bytes ++ drop k e) one_line

  -- all lines stand over the front of e
  pub lines_all : (n : ℕ) (out : List ℕ) → r ≡ n → n * w ≤ length bytes → out ≡ lines w r bytes ++ drop (r * w * 3) e → out ≡ over (lines w n bytes) e
  lines_all n out rn h o =
      o
      ∙ ap (λ (k : ℕ). lines w k bytes ++ drop (k * w * 3) e) rn
      ∙ ap (λ (k : ℕ). lines w n bytes ++ drop k e) (sym (length_lines w n bytes some h))

pub length_plan : (s : Sizes) (bytes : List ℕ) → s.planes * (s.width * s.height) ≤ length bytes → length (plan_text s bytes) ≡ s.planes * (s.width * s.height) * 3
length_plan s bytes h =
    length_lines s.width (s.planes * s.height) bytes s.some_columns (omega arith) ∙ omega arith
