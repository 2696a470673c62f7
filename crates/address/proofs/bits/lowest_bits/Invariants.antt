use Rattle.std.proofs.Common.{◌≡◌, ℕ, ◌<◌, false, length, get_or}
use Rattle.address.specs.Bits.{bit}
use Rattle.address.proofs.bits.lowest_bits.Given as goal

-- the bits so far are the number's
abbrev pub invariant-loop-k : goal.invariant-loop-k
invariant-loop-k g l =
    (length l.bit-items ≡ g.row.N) × ((k : ℕ) → k < l.k → get_or l.bit-items k false ≡ bit k l.number)
