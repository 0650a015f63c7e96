-- The shift register: its code by masks and shifts, and that it is never zero.
use Rattle.std.proofs.Common.{◌≡◌, ℕ, ◌*◌, ◌/◌, ◌%◌, ◌^◌, ◌<◌, ap, ◌∙◌, ⊎_elim, arith, lit<}
use lib.Bits.{bit_or, bit_xor, or_shifted_r, xor_lt}
use Rattle.std.proofs.lemmas.Bool.{cases_eq}
use Rattle.routing_laws.specs.Register.{Moved, bit, shifted, tapped}

pub tapped_bit : (n : ℕ) → tapped n < 2
tapped_bit n =
    let two = xor_lt 1 (bit 0 n) (bit 2 n) (omega arith) (omega arith) in
    let three = xor_lt 1 (bit_xor (bit 0 n) (bit 2 n)) (bit 3 n) two (omega arith) in
    xor_lt 1 (bit_xor (bit_xor (bit 0 n) (bit 2 n)) (bit 3 n)) (bit 5 n) three (omega arith)

pub shifted_by_mask : (n : ℕ) → n < 2 ^ 16 → bit_or (n / 2) (tapped n * 2 ^ 15 % 2 ^ 16) ≡ shifted n
shifted_by_mask n l =
    let small = tapped_bit n in
    let whole : tapped n * 2 ^ 15 % 2 ^ 16 ≡ tapped n * 2 ^ 15 = omega arith in
    ap (bit_or (n / 2)) whole ∙ or_shifted_r (tapped n) 15 (n / 2) (omega arith)

pub shifted_positive : (n : ℕ) → 0 < n → 0 < shifted n
shifted_positive n h = ⊎_elim (λ (e : n ≡ 1). rw e (lit< tt)) (λ ne. omega arith) (cases_eq n 1)

pub moved : (n : ℕ) → 0 < n → n < 2 ^ 16 → Moved n (shifted n)
moved n h l = let small = tapped_bit n in record { lower = omega arith; top = omega arith; some = shifted_positive n h; bits = omega arith }
