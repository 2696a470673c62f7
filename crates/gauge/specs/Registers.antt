-- A register: a signed number of 16 bits as two bytes. Assumes nothing.
use Rattle.std.specs.Prelude.{ℕ, ◌+◌, ◌-◌, ◌*◌, ◌/◌, ◌%◌, ◌^◌, ◌<◌, ◌≤◌, cond, List, [], ◌∷◌, ℤ, pos, negsuc, nat_lt}

-- a number in two's complement of 16 bits
abbrev pub complement : ℤ → ℕ
complement (pos n) = n
complement (negsuc n) = 65535 - n

-- the two bytes of a register, the higher first
abbrev pub register : ℤ → List ℕ
register z = (complement z / 256) ∷ (complement z % 256) ∷ []

-- the number that two bytes are, the higher first
abbrev pub decoded : ℕ → ℕ → ℤ
decoded high low = cond (nat_lt high 128) (pos (256 * high + low)) (negsuc (65535 - (256 * high + low)))

-- counts from -below to above have 16 bits, as they are and shifted
pub record Fits (below above bits : ℕ) : Type 0 where
  pub shift : bits < 16
  pub low : below ≤ 32768
  pub high : above < 32768
  pub low_shifted : below * 2 ^ bits ≤ 32768
  pub high_shifted : above * 2 ^ bits < 32768
