-- Worked cases, each with what it comes to. Assumes nothing.
use Rattle.std.specs.Prelude.{◌≡◌, List, [], ◌∷◌, map, ℤ, pos, negsuc, ◌*ℤ◌}
use Rattle.std.specs.List.{AllByRecursion}
use Rattle.gauge.specs.Charges.{Charge, whole, added}
use Rattle.gauge.specs.Measures.{voltage_count, current_count, temperature_count}
use Rattle.gauge.specs.Registers.{register}

-- what the rules give, and what it should be
pub record Case : Type 0 where
  pub gives : List ℤ
  pub told : List ℤ

-- a count, and then the bytes of its register
abbrev pub shown : ℤ → ℤ → List ℤ
shown count times = count ∷ map pos (register (count *ℤ times))

-- an amount, and then its residue
abbrev pub parts : Charge → List ℤ
parts q = q.amount ∷ q.residue ∷ []

abbrev pub cases : List Case
cases =
    -- 4,200,000 µV
    record { gives = shown (voltage_count (pos 4200000)) (pos 32); told = pos 860 ∷ pos 0x6b ∷ pos 0x80 ∷ [] }
    -- -20,000 nV, no bias
    ∷ record { gives = shown (current_count (negsuc 19999) (pos 0)) (pos 8); told = negsuc 1 ∷ pos 0xff ∷ pos 0xf0 ∷ [] }
    -- -50 thousandths of a degree
    ∷ record { gives = shown (temperature_count (negsuc 49)) (pos 32); told = negsuc 0 ∷ pos 0xff ∷ pos 0xe0 ∷ [] }
    -- four counts of 4095
    ∷ record { gives = parts (added (pos 4095) (added (pos 4095) (added (pos 4095) (added (pos 4095) (whole (pos 0)))))); told = pos 1 ∷ pos 180 ∷ [] }
    -- one count of -1
    ∷ record { gives = parts (added (negsuc 0) (whole (pos 0))); told = negsuc 0 ∷ pos 179989 ∷ [] }
    ∷ []

-- the rules give in each case what it should be
abbrev pub Hold : List Case → Type 0
Hold cs = AllByRecursion (λ c. c.gives ≡ c.told) cs
