-- The bits of a number. Assumes nothing.
use Rattle.std.specs.Prelude.{ℕ, ◌/◌, ◌%◌, ◌^◌, Bool, cond, List, map, bit_or, nat_lt, ◌==◌}
use Rattle.std.specs.List.{range_with_len}

-- bit k of n; bit 0 is the lowest
abbrev pub bit : ℕ → ℕ → Bool
bit k n = n / 2 ^ k % 2 == 1

-- the eight bits of a byte, the lowest first, as they travel
abbrev pub bits : ℕ → List Bool
bits n = map (λ k. bit k n) (range_with_len 0 8)

-- n with a 1 at bit k, of 64 bits
abbrev pub with_bit_set : ℕ → ℕ → ℕ
with_bit_set k n = cond (nat_lt k 64) (bit_or n (2 ^ k)) n
