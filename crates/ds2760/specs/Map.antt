-- The memory map: what stands at each address, and what a byte written there does. Assumes nothing.
use Rattle.std.specs.Prelude.{ℕ, ◌+◌, ◌-◌, Bool, true, false, cond, not, ◌&&◌, List, [], ◌∷◌, None, Some, Option, ◌==◌, bit_and, nat_le, slice_index, slice_set}
use Rattle.gauge.specs.Charges.{whole}
use Rattle.gauge.specs.Registers.{register, decoded}
use Rattle.ds2760.specs.declared.progress.Copying.{Copying}
use Rattle.ds2760.specs.declared.progress.Copying.TheVariants.{Waiting, Running}
use Rattle.ds2760.specs.States.{State, with_protection, with_lock, with_charge, with_shadow, with_sram}

-- what can stand at an address
pub data Place : Type 0 where
  protection status eeprom feature voltage current amount temperature block0 block1 sram reserved : Place

-- the places by their first and last addresses
pub record Row : Type 0 where
  pub first : ℕ
  pub last : ℕ
  pub place : Place

abbrev pub rows : List Row
rows =
    record { first = 0x00; last = 0x00; place = protection }
    ∷ record { first = 0x01; last = 0x01; place = status }
    ∷ record { first = 0x07; last = 0x07; place = eeprom }
    ∷ record { first = 0x08; last = 0x08; place = feature }
    ∷ record { first = 0x0c; last = 0x0d; place = voltage }
    ∷ record { first = 0x0e; last = 0x0f; place = current }
    ∷ record { first = 0x10; last = 0x11; place = amount }
    ∷ record { first = 0x18; last = 0x19; place = temperature }
    ∷ record { first = 0x20; last = 0x2f; place = block0 }
    ∷ record { first = 0x30; last = 0x3f; place = block1 }
    ∷ record { first = 0x80; last = 0x8f; place = sram }
    ∷ []

-- the place of the row that has the address; all other addresses are reserved
abbrev pub place_in : List Row → ℕ → Place
place_in [] a = reserved
place_in (r ∷ rs) a = cond (nat_le r.first a && nat_le a r.last) r.place (place_in rs a)

abbrev pub place_of : ℕ → Place
place_of a = place_in rows a

-- EEC: a copy runs
abbrev pub eec : Option Copying → Bool
eec None = false
eec (Some (Waiting block)) = false
eec (Some (Running block ticks)) = true

-- a flag as the bit with this weight
abbrev pub bit_of : Bool → ℕ → ℕ
bit_of true weight = weight
bit_of false weight = 0

-- 07h: EEC, LOCK, BL1 and BL0
abbrev pub flags : State → ℕ
flags s = bit_of (eec s.copying) 0x80 + bit_of s.lock 0x40 + bit_of s.locked1 0x02 + bit_of s.locked0 0x01

-- what is read at an address
abbrev pub held_at : Place → ℕ → State → ℕ
held_at protection a s = s.protection
held_at status a s = s.status
held_at eeprom a s = flags s
held_at feature a s = 0xc0
held_at voltage a s = slice_index s.voltage (a - 0x0c)
held_at current a s = slice_index s.current (a - 0x0e)
held_at amount a s = slice_index (register s.charge.amount) (a - 0x10)
held_at temperature a s = slice_index s.temperature (a - 0x18)
held_at block0 a s = slice_index s.shadow (a - 0x20)
held_at block1 a s = slice_index s.shadow (a - 0x20)
held_at sram a s = slice_index s.sram (a - 0x80)
held_at reserved a s = 0xff

abbrev pub held : ℕ → State → ℕ
held a s = held_at (place_of a) a s

-- a block is open to writing while it is not locked and no copy runs
abbrev pub writable : Bool → State → Bool
writable locked s = not locked && not (eec s.copying)

-- the state after a byte b is written at an address
abbrev pub written_at : Place → ℕ → ℕ → State → State
written_at protection a b s = with_protection (bit_and b 0x03) s
written_at status a b s = s
written_at eeprom a b s = with_lock (bit_and b 0x40 == 0x40) s
written_at feature a b s = s
written_at voltage a b s = s
written_at current a b s = s
written_at amount a b s =
    with_charge (whole (cond (a == 0x10) (decoded b (slice_index (register s.charge.amount) 1)) (decoded (slice_index (register s.charge.amount) 0) b))) s
written_at temperature a b s = s
written_at block0 a b s = cond (writable s.locked0 s) (with_shadow (slice_set s.shadow (a - 0x20) b) s) s
written_at block1 a b s = cond (writable s.locked1 s) (with_shadow (slice_set s.shadow (a - 0x20) b) s) s
written_at sram a b s = with_sram (slice_set s.sram (a - 0x80) b) s
written_at reserved a b s = s

abbrev pub written : ℕ → ℕ → State → State
written a b s = written_at (place_of a) a b s
