-- What the current accumulator holds, and what a count adds to it. Assumes nothing.
use Rattle.std.specs.Prelude.{ℕ, cond, ℤ, pos, negsuc, ◌+ℤ◌, ◌-ℤ◌, ◌*ℤ◌, slice_index}
use Rattle.std.specs.Int.Signed.{lt_z}
use Rattle.gauge.specs.declared.accumulator.Accumulator.{Accumulator}
use Rattle.gauge.specs.declared.accumulator.Half.{Half}
use Rattle.gauge.specs.declared.accumulator.Half.TheVariants.{High, Low}
use Rattle.gauge.specs.Registers.{register, decoded}
use Rattle.gauge.specs.Measures.{limited}

-- an amount, and a residue from 0 to 179,999
pub record Charge : Type 0 where
  pub amount : ℤ
  pub residue : ℤ

-- what the accumulator holds
abbrev pub charge_of : Accumulator → Charge
charge_of a = record { amount = a.amount; residue = pos a.residue }

-- the charge with the amount a and no residue
abbrev pub whole : ℤ → Charge
whole a = record { amount = a; residue = pos 0 }

-- the amount a with b for one of its bytes
abbrev pub with_half : Half → ℕ → ℤ → ℤ
with_half High b a = decoded b (slice_index (register a) 1)
with_half Low b a = decoded (slice_index (register a) 0) b

-- a residue that is too large raises the amount by one; at the highest amount it stays as large as it can be
abbrev pub risen : ℤ → ℤ → Charge
risen a r =
    cond (lt_z a (pos 32767)) (record { amount = a +ℤ pos 1; residue = r -ℤ pos 180000 }) (record { amount = a; residue = pos 179999 })

-- a residue below 0 lowers the amount by one; at the lowest amount it becomes 0
abbrev pub fallen : ℤ → ℤ → Charge
fallen a r =
    cond (lt_z (negsuc 32767) a) (record { amount = a -ℤ pos 1; residue = r +ℤ pos 180000 }) (record { amount = a; residue = pos 0 })

-- the amount and a residue that may have left its range
abbrev pub settled : ℤ → ℤ → Charge
settled a r = cond (lt_z r (pos 0)) (fallen a r) (cond (lt_z r (pos 180000)) (record { amount = a; residue = r }) (risen a r))

-- the charge after a current count: 11 times the count goes to the residue
abbrev pub added : ℤ → Charge → Charge
added count q = settled q.amount (q.residue +ℤ pos 11 *ℤ count)

-- the charge in parts of which 180,000 make one step of the amount
abbrev pub total : Charge → ℤ
total q = pos 180000 *ℤ q.amount +ℤ q.residue

-- a total within what the accumulator can hold
abbrev pub capped : ℤ → ℤ
capped t = limited (negsuc 5898239999) (pos 5898239999) t
