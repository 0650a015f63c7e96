-- Masks and shifts against quotients and remainders.
use Rattle.std.proofs.Common.{◌≡◌, ℕ, ◌+◌, ◌-◌, ◌*◌, ◌/◌, ◌%◌, ◌^◌, ◌<◌, ◌≤◌, Bool, true, false, not, eqb, refl, ap, ⊎_elim, one-mul, zero-mul, arith}
use lib.Bits.{bit_and, and_high}
use Rattle.std.proofs.lemmas.Nat.{pow_pos}
use Rattle.std.proofs.lemmas.Bool.{cases_eq, cond_both, ne_eqb}
use Rattle.std.proofs.lemmas.Bool.Decides.{nat_tests}
use Rattle.mesh.specs.declared.compass.Direction.{Direction}
use Rattle.mesh.specs.declared.compass.Direction.TheVariants.{North, East, South, West}
use Rattle.mesh.specs.declared.compass.Directions.{Directions}
use Rattle.mesh.specs.declared.compass.Way.{Way}
use Rattle.mesh.specs.declared.compass.Way.TheVariants.{Up, Down}
use Rattle.mesh.specs.Compass.{has}
use Rattle.mesh.specs.Halves.{Faithful, half, holds, opposite, pack, share, unpack, weight, with_half}

-- a remainder of 0 or 1, at the place worth b
lone_bit : (r b : ℕ) → r < 2 → 0 < b → not (eqb (r * b) 0) ≡ eqb r 1
lone_bit r b l h =
    ⊎_elim
    (λ (e : r ≡ 0). rw e (rw (zero-mul b)))
    (λ n. let e : r ≡ 1 = omega arith in rw e (rw (one-mul b) (ap not (ne_eqb b 0 (omega arith)))))
    (cases_eq r 0)

-- a bit is set where masking it leaves something
masked : (n k : ℕ) → not (eqb (bit_and n (2 ^ (1 + k) - 2 ^ k)) 0) ≡ eqb (n / 2 ^ k % 2) 1
masked n k = rw (and_high n 1 k) (lone_bit (n / 2 ^ k % 2) (2 ^ k) (omega arith) (pow_pos k))

pub set_bit : (n : ℕ) (d : Direction) → not (eqb (bit_and n (weight d)) 0) ≡ holds n d
set_bit n North = masked n 0
set_bit n East = masked n 1
set_bit n South = masked n 2
set_bit n West = masked n 3

abbrev flags : Bool → Bool → Bool → Bool → Directions
flags n e s w = record { north = n; east = e; south = s; west = w }

four_bits : (n e s w : Bool) → unpack (pack (flags n e s w)) ≡ flags n e s w
four_bits true true true true = refl
four_bits true true true false = refl
four_bits true true false true = refl
four_bits true true false false = refl
four_bits true false true true = refl
four_bits true false true false = refl
four_bits true false false true = refl
four_bits true false false false = refl
four_bits false true true true = refl
four_bits false true true false = refl
four_bits false true false true = refl
four_bits false true false false = refl
four_bits false false true true = refl
four_bits false false true false = refl
four_bits false false false true = refl
four_bits false false false false = refl

pub half_written : (w : Way) (b v : ℕ) → half w (with_half w b v) ≡ v % 16
half_written Up b v = omega arith
half_written Down b v = omega arith

half_kept : (w : Way) (b v : ℕ) → half (opposite w) (with_half w b v) ≡ half (opposite w) b
half_kept Up b v = omega arith
half_kept Down b v = omega arith

packed : (n : ℕ) → pack (unpack n) ≡ n % 16
packed n = grind (arith, nat_tests)

pub faithful : Faithful
faithful = record { unpacked = λ s. four_bits s.north s.east s.south s.west; packed = packed; written = half_written; kept = half_kept }

share_le : (s : Directions) (d : Direction) → share s d ≤ weight d
share_le s d = cond_both (has d s) (weight d) 0 (λ n. n ≤ weight d) (λ _. omega arith) (λ _. omega arith)

pub pack_small : (s : Directions) → pack s < 16
pack_small s = omega (arith, share_le s North, share_le s East, share_le s South, share_le s West)
