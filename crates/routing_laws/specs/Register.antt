-- The shift register: sixteen bits that move down by one at each question.
use Rattle.std.specs.Prelude.{◌≡◌, ℕ, ◌+◌, ◌*◌, ◌/◌, ◌%◌, ◌^◌, ◌<◌, bit_xor}

-- bit k of a number
abbrev pub bit : ℕ → ℕ → ℕ
bit k n = n / 2 ^ k % 2

-- the new top bit: the exclusive or of the old bits 0, 2, 3 and 5
abbrev pub tapped : ℕ → ℕ
tapped n = bit_xor (bit_xor (bit_xor (bit 0 n) (bit 2 n)) (bit 3 n)) (bit 5 n)

-- the next state: the bits one lower, and the new top bit
abbrev pub shifted : ℕ → ℕ
shifted n = tapped n * 2 ^ 15 + n / 2

-- the same as a relation between two states: no bit but the new top one comes from elsewhere, and never all are zero
pub record Moved (n m : ℕ) : Type 0 where
  pub lower : m % 2 ^ 15 ≡ n / 2
  pub top : m / 2 ^ 15 ≡ tapped n
  pub some : 0 < m
  pub bits : m < 2 ^ 16
